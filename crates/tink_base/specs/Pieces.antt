-- A new file that is written in pieces: what is begun of it, and what the calls make of it.
--
--   draft     a new file before it has its name
--   so far    the bytes that were added to it, where the store tells its files
use Rattle.std.specs.Prelude.{◌≡◌, ℕ, List, [], ◌++◌, Option, Some, None, IfSome, option_map}
use Rattle.std.specs.Coded.{Coded, coded_ℕ, coded_list, coded_option}
use Rattle.std.specs.FinMap as map
use Rattle.tink_spec.specs.Outside.{SinkState}
use Rattle.tink_spec.specs.Files.{Files, StoreState, Holds, HoldsSome, MayAdd}
use Rattle.tink_base.specs.Store.{Creates}
use Rattle.tink_base.specs.declared.pieces.Begun.{Begun}
use Rattle.tink_base.specs.declared.pieces.Begun.TheVariants as begun
use Rattle.tink_base.specs.declared.store.Created.{Created}

-- a draft: the name that it is to get, and the bytes so far, where they are told
pub record Draft : Type 0 where
  pub name : List ℕ
  pub bytes : Option (List ℕ)

-- a draft of that name, before its first byte; a store tells its bytes where it tells its files
abbrev pub empty_draft : StoreState → (name : List ℕ) → Draft
empty_draft store name = record { name = name; bytes = option_map (λ files. []) store.files }

-- what a begin did: an empty draft of the name, which is free, or nothing, as the name is there
abbrev pub Begins : StoreState → List ℕ → (draft : Option Draft) → Begun → Type 0
Begins store name draft begun.Empty = Holds store name None × (draft ≡ Some (empty_draft store name))
Begins store name draft begun.Exists = HoldsSome store name × (draft ≡ None)

-- these bytes were added to a draft, and its name stays
abbrev pub longer_draft : Draft → (piece : List ℕ) → Draft
longer_draft draft piece = record { name = draft.name; bytes = option_map (λ before. before ++ piece) draft.bytes }

-- the draft that there is has that name, and these bytes so far, where they are told
abbrev pub IsDraft : Option Draft → (name bytes : List ℕ) → Type 0
IsDraft None name bytes = ⊥
IsDraft (Some draft) name bytes = (draft.name ≡ name) × IfSome draft.bytes (λ so_far. so_far ≡ bytes)

-- what a finish did: as a create of the draft's name and bytes
abbrev pub Finishes : (old new : StoreState) → (draft : Option Draft) → Created → Type 0
Finishes old new draft made = (name bytes : List ℕ) → IsDraft draft name bytes → Creates old new name bytes made

-- what a finish that failed may leave: as a create of the draft's name and bytes
abbrev pub MayFinish : (old new : StoreState) → (draft : Option Draft) → Type 0
MayFinish old new draft = (name bytes : List ℕ) → IsDraft draft name bytes → MayAdd old new name bytes

-- the name of a draft
abbrev pub draft_name : Option Draft → Option (List ℕ)
draft_name draft = option_map (λ d. d.name) draft

-- the code of the files of a store, where it tells them
abbrev pub files_code : Coded (Option Files)
files_code = coded_option (map.code (coded_list coded_ℕ) (coded_list coded_ℕ))

-- what a sink over the draft of a store tells: the draft's bytes so far, and the store's faults
abbrev pub drafted_sink : StoreState → Option Draft → SinkState
drafted_sink store None = record { written = None; faults = store.faults }
drafted_sink store (Some draft) = record { written = draft.bytes; faults = store.faults }
