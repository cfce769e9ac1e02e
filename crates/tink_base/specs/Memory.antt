-- What a source, a sink, two stores and an entropy in memory are, and what they tell.
use Rattle.std.specs.Prelude.{ℕ, ◌≤◌, ◌==◌, Bool, List, length, Option, Some, option_map, refl}
use Rattle.std.specs.Coded.{Coded, code_by, coded×, coded_ℕ, coded_list, coded_option}
use Rattle.std.specs.FinMap as map
use Rattle.tink_spec.specs.Outside.{SourceState, SinkState, EntropyState}
use Rattle.tink_spec.specs.Files.{Files, StoreState}
use Rattle.tink_base.specs.Pieces.{Draft}

-- the bytes that are left, how many a read gives at the most, the numbers of the calls that fail,
-- from 1, how many calls and faults there were, whether an end was answered, and how many calls came
-- after that
pub record SourceInMemory : Type 0 where
  pub left : List ℕ
  pub piece : ℕ
  pub fails : List ℕ
  pub calls : ℕ
  pub faults : ℕ
  pub ended : Bool
  pub late : ℕ

-- the bytes written, how many there may be, how many a write takes at the most, the numbers of the
-- calls that fail, from 1, and how many calls and faults there were
pub record SinkInMemory : Type 0 where
  pub written : List ℕ
  pub room : ℕ
  pub piece : ℕ
  pub fails : List ℕ
  pub calls : ℕ
  pub faults : ℕ

-- a draft in memory: its name and its bytes so far
abbrev pub DraftInMemory : Type 0
DraftInMemory = List ℕ × List ℕ

-- the files, the draft, the numbers of the calls that fail, from 1, how many calls and faults there
-- were, and how many bytes were given
pub record StoreInMemory : Type 0 where
  pub files : Files
  pub draft : Option DraftInMemory
  pub fails : List ℕ
  pub calls : ℕ
  pub faults : ℕ
  pub given : ℕ

-- the files, the draft, how many bytes of a new file are kept, how many faults there were, and how many
-- bytes were given
pub record TornInMemory : Type 0 where
  pub files : Files
  pub draft : Option DraftInMemory
  pub keep : ℕ
  pub faults : ℕ
  pub given : ℕ

-- the bytes that are left, the numbers of the calls that fail, from 1, and how many calls and faults
-- there were
pub record EntropyInMemory : Type 0 where
  pub left : List ℕ
  pub fails : List ℕ
  pub calls : ℕ
  pub faults : ℕ

-- the code of a draft in memory
abbrev pub draft_code : Coded (Option DraftInMemory)
draft_code = coded_option (coded× (coded_list coded_ℕ) (coded_list coded_ℕ))

-- a store in memory is kept in contracts as the tuple of its parts
abbrev pub store_code : Coded StoreInMemory
store_code =
    code_by (Files × (Option DraftInMemory × (List ℕ × (ℕ × (ℕ × ℕ)))))
    (coded× (map.code (coded_list coded_ℕ) (coded_list coded_ℕ)) (coded× draft_code (coded× (coded_list coded_ℕ) (coded× coded_ℕ (coded× coded_ℕ coded_ℕ)))))
    (λ s. (s.files, (s.draft, (s.fails, (s.calls, (s.faults, s.given))))))
    (λ p. record { files = p.0; draft = p.1.0; fails = p.1.1.0; calls = p.1.1.1.0; faults = p.1.1.1.1.0; given = p.1.1.1.1.1 })
    (λ _. refl)

-- a torn store is kept in contracts as the tuple of its parts
abbrev pub torn_code : Coded TornInMemory
torn_code =
    code_by (Files × (Option DraftInMemory × (ℕ × (ℕ × ℕ))))
    (coded× (map.code (coded_list coded_ℕ) (coded_list coded_ℕ)) (coded× draft_code (coded× coded_ℕ (coded× coded_ℕ coded_ℕ))))
    (λ s. (s.files, (s.draft, (s.keep, (s.faults, s.given)))))
    (λ p. record { files = p.0; draft = p.1.0; keep = p.1.1.0; faults = p.1.1.1.0; given = p.1.1.1.1 })
    (λ _. refl)

-- what a source in memory tells
abbrev pub told_source : SourceInMemory → SourceState
told_source s = record { left = Some s.left; faults = s.faults; ended = s.ended; late = s.late }

-- what a sink in memory tells
abbrev pub told_sink : SinkInMemory → SinkState
told_sink s = record { written = Some s.written; faults = s.faults }

-- there is no room for a byte
abbrev pub IsFull : SinkInMemory → Type 0
IsFull s = s.room ≤ length s.written

-- what a store in memory tells
abbrev pub told_store : StoreInMemory → StoreState
told_store s = record { files = Some s.files; faults = s.faults; given = s.given }

-- what it tells of a draft in memory
abbrev pub told_draft : Option DraftInMemory → Option Draft
told_draft draft = option_map (λ d. record { name = d.0; bytes = Some d.1 }) draft

-- what a torn store tells
abbrev pub told_torn : TornInMemory → StoreState
told_torn s = record { files = Some s.files; faults = s.faults; given = s.given }

-- it is steady exactly where no call is listed
abbrev pub told_entropy : EntropyInMemory → EntropyState
told_entropy s = record { left = Some s.left; faults = s.faults; steady = length s.fails == 0 }
