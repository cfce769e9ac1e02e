-- Where a stream is sealed, opened or resealed to its end.
use Rattle.std.proofs.Common.{◌≡◌, ◌∙◌, sym, refl, ap, ℕ, ◌+◌, true, List, Option, Some, None}
use Rattle.std.specs.Option.{option_or}
use Rattle.managers.specs.Table.{Table}
use Rattle.segment_stream.specs.KeysModel.{KeysForStreams}
use Rattle.segment_stream.specs.Opening.{StreamRefusal, decides}
use Rattle.segment_stream.specs.Pumping.{Part, opening_any, resealing}
use Rattle.segment_stream.specs.Sealing.{header_of}
use Rattle.segment_stream.specs.Segments.{cipher_of, ciphers_of}
use Rattle.tinkey_plans.specs.Commands.{command_plan}
use Rattle.tinkey_plans.specs.Plan.{Answer, Told, answer}
use Rattle.tinkey_plans.specs.Streaming.{begins_file, opens_stream, reseals_stream, seals_stream}
use Rattle.tinkey_words.specs.declared.words.rows.Format.{Format}
use Rattle.tinkey_words.specs.Words.{Lock, open_stream, reseal_stream, seal_stream}
use Rattle.tinkey_readable.specs.DoneWhere.{StreamOpens, StreamReseals, StreamSeals, StreamsDone}
use Rattle.tinkey_readable.proofs.PassLemmas.{begins_free, begins_reached, pass_comes, passes_done, passes_where, was_passed}
use Rattle.tinkey_readable.proofs.ReachLemmas.{IsDoneAnswer}
use Rattle.tinkey_readable.proofs.StreamRunLemmas.{keys_loaded, keys_reached, seal_part, with_primary}

-- ---- resealing

-- a pass that opens and seals, behind its header
abbrev pub reseal_part : KeysForStreams → (ad random : List ℕ) → Part
reseal_part keys ad random = resealing (ciphers_of ad keys.keys) (cipher_of ad keys.primary) (header_of (cipher_of ad keys.primary) random)

pub neither : (a b : Option StreamRefusal) → option_or a b ≡ None → (a ≡ None) × (b ≡ None)
neither None b e = (refl, e)
neither (Some r) b e = absurd cc

-- what is sealed isn't refused, nor what is opened
pub both : (a b : Option StreamRefusal) → a ≡ None → b ≡ None → option_or a b ≡ None
both a b first second = ap (λ (o : Option StreamRefusal). option_or o b) first ∙ second

-- ---- the whole

seal_is : (table : Table) (lock : Lock) (name : List ℕ) (form : Format) (ad : List ℕ) (out : Option (List ℕ)) (told : Told) → IsDoneAnswer (answer (command_plan table (seal_stream lock name form ad out)) told) → StreamSeals table lock name form ad out told
seal_is table lock name form ad out told is =
    let u = keys_loaded table lock name form (λ s. begins_file out (seals_stream s ad out)) told is in
    let keys = with_primary u.keys u.primary in
    let w = was_passed (u.primary.derived + 7) (seal_part keys ad) out told (ap (λ (a : Answer). a.status) (sym u.goes_on) ∙ is) in
    record { keys = u.keys; lies = u.lies; fit = u.fit; primary = u.primary; there = u.there; enough = w.enough; few = w.none; free = w.free }

seal_comes : (table : Table) (lock : Lock) (name : List ℕ) (form : Format) (ad : List ℕ) (out : Option (List ℕ)) (told : Told) → StreamSeals table lock name form ad out told → IsDoneAnswer (answer (command_plan table (seal_stream lock name form ad out)) told)
seal_comes table lock name form ad out told x =
    ap (λ (a : Answer). a.status) (keys_reached table lock name form x.keys x.primary (λ s. begins_file out (seals_stream s ad out)) told x.lies x.fit x.there)
    ∙ pass_comes (x.primary.derived + 7) (seal_part (with_primary x.keys x.primary) ad) out told x.free x.enough x.few

open_is : (table : Table) (lock : Lock) (name : List ℕ) (form : Format) (ad : List ℕ) (out : Option (List ℕ)) (told : Told) → IsDoneAnswer (answer (command_plan table (open_stream lock name form ad out)) told) → StreamOpens table lock name form ad out told
open_is table lock name form ad out told is =
    let u = keys_loaded table lock name form (λ s. begins_file out (opens_stream s ad out)) told is in
    let keys = with_primary u.keys u.primary in
    let done : IsDoneAnswer (answer (begins_file out (opens_stream keys ad out)) told) = ap (λ (a : Answer). a.status) (sym u.goes_on) ∙ is in
    let free = begins_free out (opens_stream keys ad out) told done in
    let opens = passes_where out (opening_any (ciphers_of ad keys.keys)) told (ap (λ (a : Answer). a.status) (sym (begins_reached out (opens_stream keys ad out) told free)) ∙ done) in
    record { keys = u.keys; lies = u.lies; fit = u.fit; primary = u.primary; there = u.there; opens = opens; free = free }

open_comes : (table : Table) (lock : Lock) (name : List ℕ) (form : Format) (ad : List ℕ) (out : Option (List ℕ)) (told : Told) → StreamOpens table lock name form ad out told → IsDoneAnswer (answer (command_plan table (open_stream lock name form ad out)) told)
open_comes table lock name form ad out told x =
    let keys = with_primary x.keys x.primary in
    ap (λ (a : Answer). a.status) (keys_reached table lock name form x.keys x.primary (λ s. begins_file out (opens_stream s ad out)) told x.lies x.fit x.there ∙ begins_reached out (opens_stream keys ad out) told x.free)
    ∙ passes_done out (opening_any (ciphers_of ad keys.keys)) told x.opens x.free

reseal_is : (table : Table) (lock : Lock) (name : List ℕ) (form : Format) (ad : List ℕ) (out : Option (List ℕ)) (told : Told) → IsDoneAnswer (answer (command_plan table (reseal_stream lock name form ad out)) told) → StreamReseals table lock name form ad out told
reseal_is table lock name form ad out told is =
    let u = keys_loaded table lock name form (λ s. begins_file out (reseals_stream s ad out)) told is in
    let keys = with_primary u.keys u.primary in
    let w = was_passed (u.primary.derived + 7) (reseal_part keys ad) out told (ap (λ (a : Answer). a.status) (sym u.goes_on) ∙ is) in
    let none = neither _ (decides (ciphers_of ad keys.keys) told.input true) w.none in
    record { keys = u.keys; lies = u.lies; fit = u.fit; primary = u.primary; there = u.there; enough = w.enough; opens = none.1; few = none.0; free = w.free }

reseal_comes : (table : Table) (lock : Lock) (name : List ℕ) (form : Format) (ad : List ℕ) (out : Option (List ℕ)) (told : Told) → StreamReseals table lock name form ad out told → IsDoneAnswer (answer (command_plan table (reseal_stream lock name form ad out)) told)
reseal_comes table lock name form ad out told x =
    ap (λ (a : Answer). a.status) (keys_reached table lock name form x.keys x.primary (λ s. begins_file out (reseals_stream s ad out)) told x.lies x.fit x.there)
    ∙ pass_comes (x.primary.derived + 7) (reseal_part (with_primary x.keys x.primary) ad) out told x.free x.enough (both _ _ x.few x.opens)

pub streams_done : StreamsDone
streams_done = record {
  sealed = λ table lock name form ad out told. (seal_is table lock name form ad out told, seal_comes table lock name form ad out told);
  opened = λ table lock name form ad out told. (open_is table lock name form ad out told, open_comes table lock name form ad out told);
  resealed = λ table lock name form ad out told. (reseal_is table lock name form ad out told, reseal_comes table lock name form ad out told);
}
