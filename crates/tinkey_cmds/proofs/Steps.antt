-- Edits that draw nothing: why each is refused, and that what it does keeps a keyset.
use Rattle.std.proofs.Common.{◌≡◌, ◌∙◌, ℕ, ◌==◌, ◌&&◌, not, Bool, true, false, ◌<◌, length, List, [], Option, Some, None, Result, Ok, Err, refl, sym, ap, arith}
use Rattle.std.specs.Prelude.{position, slice_get, IsErr, IsErrAnd}
use Rattle.std.specs.List.{list_any}
use Rattle.std.proofs.lemmas.Bool.{false≢true}
use Rattle.keyset_model.specs.declared.record.Record.{Record}
use Rattle.keyset_model.specs.Keyset.{Keys, has_id, is_enabled, is_destroyed, is_primary, fault_of, first_some, when}
use Rattle.keyset_model.proofs.PrimaryLemmas.{at_position, no_position}
use Rattle.key_msgs.specs.declared.primitive.Primitive.{Primitive}
use Rattle.key_msgs.specs.declared.rule.Rule.{Rule}
use Rattle.tinkey_cmds.specs.declared.command.EditRefusal.{EditRefusal}
use Rattle.tinkey_cmds.specs.declared.command.EditRefusal.TheVariants.{KeyNotFound, KeyIsPrimary, KeyNotEnabled, KeyDestroyed, KeyRefused, MixedPrimitive, AmbiguousPrimary}
use Rattle.tinkey_cmds.specs.declared.command.EditError.{EditError}
use Rattle.tinkey_cmds.specs.declared.command.EditError.TheVariants.{Refused, EntropyFault, NoMemory}
use Rattle.keyset_model.specs.Changes.{destroyed_at, with_status_at, without_at}
use Rattle.tinkey_cmds.specs.Applying.{Edited, answer_with}
use Rattle.tinkey_cmds.specs.Draws.{Draw, answered}
use Rattle.tinkey_cmds.specs.Edits.{Edit, Promote, Enable, Disable, Destroy, Delete, named, of_named, refusal_of, effect_of, unless_refused, step, primitive_of, primary_primitive, is_same, rule_of, with_records, with_status, destroyed, changed, without}
use Rattle.tinkey_cmds.specs.Laws.{HasTemplate}
use Rattle.tinkey_cmds.proofs.Kept.{edits_keep_keysets}
use Rattle.tinkey_cmds.proofs.Lists.{slice-there}
use Rattle.tinkey_cmds.proofs.Places.{at-changed, at-removed}

-- ---- steps

pub step-refused : (keys : Keys) (edit : Edit) (fault : EditRefusal) → refusal_of keys edit ≡ Some fault → (random : List ℕ) → step keys edit random ≡ answered (Err fault) random
step-refused keys edit fault is random = ap (λ o. unless_refused o (effect_of keys edit) random) is

pub step-accepted : (keys : Keys) (edit : Edit) → refusal_of keys edit ≡ None → (random : List ℕ) → step keys edit random ≡ effect_of keys edit random
step-accepted keys edit is random = ap (λ o. unless_refused o (effect_of keys edit) random) is

-- some answer, and no byte drawn
pub Settled : Draw Keys → Type 0
Settled give = (answer : Result Keys EditRefusal) × ((random : List ℕ) → give random ≡ answered answer random)

settled-unless : (refusal : Option EditRefusal) (effect : Draw Keys) → Settled effect → Settled (unless_refused refusal effect)
unfolding Settled
settled-unless (Some fault) effect s = (Err fault, λ random. refl)
settled-unless None effect s = s

pub settled-enable : (keys : Keys) (id : ℕ) → (answer : Result Keys EditRefusal) × ((random : List ℕ) → step keys (Enable id) random ≡ answered answer random)
unfolding Settled effect_of
settled-enable keys id = settled-unless (refusal_of keys (Enable id)) (effect_of keys (Enable id)) (_, λ random. refl)

-- ---- the record that is named

pub named-at : (keys : Keys) (id i : ℕ) (r : Record) → Some i ≡ position (has_id id) keys.records → slice_get keys.records i ≡ Some r → named keys id ≡ Some r
named-at keys id i r place there = at_position (has_id id) keys.records i place ∙ there

pub named-there : (keys : Keys) (id i : ℕ) → Some i ≡ position (has_id id) keys.records → i < length keys.records → (r : Record) × (named keys id ≡ Some r)
named-there keys id i place within = let there = slice-there keys.records i within in (there.0, named-at keys id i there.0 place there.1)

pub named-none : (keys : Keys) (id : ℕ) → None ≡ position (has_id id) keys.records → named keys id ≡ None
named-none keys id place = no_position (has_id id) keys.records place

-- ---- refusals

pub promote-missing : (keys : Keys) (id : ℕ) → named keys id ≡ None → refusal_of keys (Promote id) ≡ Some KeyNotFound
unfolding refusal_of of_named
promote-missing keys id e = rw e refl

pub promote-disabled : (keys : Keys) (id : ℕ) (r : Record) → named keys id ≡ Some r → is_enabled r ≡ false → refusal_of keys (Promote id) ≡ Some KeyNotEnabled
unfolding refusal_of of_named first_some when
promote-disabled keys id r e t = rw (e, t) refl

pub promote-ambiguous : (keys : Keys) (id : ℕ) (r : Record) → named keys id ≡ Some r → is_enabled r ≡ true → list_any (is_primary id) (without id keys.records) ≡ true
    → refusal_of keys (Promote id) ≡ Some AmbiguousPrimary
unfolding refusal_of of_named first_some when
promote-ambiguous keys id r e t o = rw (e, t, o) refl

pub promote-accepted : (keys : Keys) (id : ℕ) (r : Record) → named keys id ≡ Some r → is_enabled r ≡ true → list_any (is_primary id) (without id keys.records) ≡ false
    → refusal_of keys (Promote id) ≡ None
unfolding refusal_of of_named first_some when
promote-accepted keys id r e t o = rw (e, t, o) refl

pub enable-missing : (keys : Keys) (id : ℕ) → named keys id ≡ None → refusal_of keys (Enable id) ≡ Some KeyNotFound
unfolding refusal_of of_named
enable-missing keys id e = rw e refl

pub enable-destroyed : (keys : Keys) (id : ℕ) (r : Record) → named keys id ≡ Some r → is_destroyed r ≡ true → refusal_of keys (Enable id) ≡ Some KeyDestroyed
unfolding refusal_of of_named first_some when
enable-destroyed keys id r e t = rw (e, t) refl

pub enable-ambiguous : (keys : Keys) (id : ℕ) (r : Record) → named keys id ≡ Some r → is_destroyed r ≡ false → (id == keys.primary && not (is_enabled r)) ≡ true
    → refusal_of keys (Enable id) ≡ Some AmbiguousPrimary
unfolding refusal_of of_named first_some when
enable-ambiguous keys id r e t p = rw (e, t, p) refl

pub enable-mixed : (keys : Keys) (id : ℕ) (r : Record) → named keys id ≡ Some r → is_destroyed r ≡ false → (id == keys.primary && not (is_enabled r)) ≡ false
    → is_same (primitive_of r.url) (primary_primitive keys) ≡ false → refusal_of keys (Enable id) ≡ Some MixedPrimitive
unfolding refusal_of of_named first_some when
enable-mixed keys id r e t p m = rw (e, t, p, m) refl

pub enable-refused : (keys : Keys) (id : ℕ) (r : Record) (rule : Rule) → named keys id ≡ Some r → is_destroyed r ≡ false → (id == keys.primary && not (is_enabled r)) ≡ false
    → is_same (primitive_of r.url) (primary_primitive keys) ≡ true → rule_of r.url r.value ≡ Some rule → refusal_of keys (Enable id) ≡ Some (KeyRefused rule)
unfolding refusal_of of_named first_some when
enable-refused keys id r rule e t p m k = rw (e, t, p, m, k) refl

pub enable-accepted : (keys : Keys) (id : ℕ) (r : Record) → named keys id ≡ Some r → is_destroyed r ≡ false → (id == keys.primary && not (is_enabled r)) ≡ false
    → is_same (primitive_of r.url) (primary_primitive keys) ≡ true → rule_of r.url r.value ≡ None → refusal_of keys (Enable id) ≡ None
unfolding refusal_of of_named first_some when
enable-accepted keys id r e t p m k = rw (e, t, p, m, k) refl

pub disable-missing : (keys : Keys) (id : ℕ) → named keys id ≡ None → refusal_of keys (Disable id) ≡ Some KeyNotFound
unfolding refusal_of of_named
disable-missing keys id e = rw e refl

pub disable-primary : (keys : Keys) (id : ℕ) (r : Record) → named keys id ≡ Some r → (id == keys.primary) ≡ true → refusal_of keys (Disable id) ≡ Some KeyIsPrimary
unfolding refusal_of of_named first_some when
disable-primary keys id r e t = rw (e, t) refl

pub disable-destroyed : (keys : Keys) (id : ℕ) (r : Record) → named keys id ≡ Some r → (id == keys.primary) ≡ false → is_destroyed r ≡ true → refusal_of keys (Disable id) ≡ Some KeyDestroyed
unfolding refusal_of of_named first_some when
disable-destroyed keys id r e t m = rw (e, t, m) refl

pub disable-accepted : (keys : Keys) (id : ℕ) (r : Record) → named keys id ≡ Some r → (id == keys.primary) ≡ false → is_destroyed r ≡ false → refusal_of keys (Disable id) ≡ None
unfolding refusal_of of_named first_some when
disable-accepted keys id r e t m = rw (e, t, m) refl

pub destroy-missing : (keys : Keys) (id : ℕ) → named keys id ≡ None → refusal_of keys (Destroy id) ≡ Some KeyNotFound
unfolding refusal_of of_named
destroy-missing keys id e = rw e refl

pub destroy-primary : (keys : Keys) (id : ℕ) (r : Record) → named keys id ≡ Some r → (id == keys.primary) ≡ true → refusal_of keys (Destroy id) ≡ Some KeyIsPrimary
unfolding refusal_of of_named first_some when
destroy-primary keys id r e t = rw (e, t) refl

pub destroy-accepted : (keys : Keys) (id : ℕ) (r : Record) → named keys id ≡ Some r → (id == keys.primary) ≡ false → refusal_of keys (Destroy id) ≡ None
unfolding refusal_of of_named first_some when
destroy-accepted keys id r e t = rw (e, t) refl

pub delete-missing : (keys : Keys) (id : ℕ) → named keys id ≡ None → refusal_of keys (Delete id) ≡ Some KeyNotFound
unfolding refusal_of of_named
delete-missing keys id e = rw e refl

pub delete-primary : (keys : Keys) (id : ℕ) (r : Record) → named keys id ≡ Some r → (id == keys.primary) ≡ true → refusal_of keys (Delete id) ≡ Some KeyIsPrimary
unfolding refusal_of of_named first_some when
delete-primary keys id r e t = rw (e, t) refl

pub delete-accepted : (keys : Keys) (id : ℕ) (r : Record) → named keys id ≡ Some r → (id == keys.primary) ≡ false → refusal_of keys (Delete id) ≡ None
unfolding refusal_of of_named first_some when
delete-accepted keys id r e t = rw (e, t) refl

-- ---- what is accepted gives a keyset

pub effect-promote : (keys : Keys) (id : ℕ) (random : List ℕ) → effect_of keys (Promote id) random ≡ answered (Ok (record keys { primary = id })) random
unfolding effect_of
effect-promote keys id random = refl

pub effect-enable : (keys : Keys) (id : ℕ) (random : List ℕ) → effect_of keys (Enable id) random ≡ answered (Ok (with_records keys (changed (with_status 1) id keys.records))) random
unfolding effect_of
effect-enable keys id random = refl

pub effect-disable : (keys : Keys) (id : ℕ) (random : List ℕ) → effect_of keys (Disable id) random ≡ answered (Ok (with_records keys (changed (with_status 2) id keys.records))) random
unfolding effect_of
effect-disable keys id random = refl

pub effect-destroy : (keys : Keys) (id : ℕ) (random : List ℕ) → effect_of keys (Destroy id) random ≡ answered (Ok (with_records keys (changed destroyed id keys.records))) random
unfolding effect_of
effect-destroy keys id random = refl

pub effect-delete : (keys : Keys) (id : ℕ) (random : List ℕ) → effect_of keys (Delete id) random ≡ answered (Ok (with_records keys (without id keys.records))) random
unfolding effect_of
effect-delete keys id random = refl

-- an accepted edit's keyset has no fault
pub edit-faultless : (keys target new : Keys) (edit : Edit) → HasTemplate edit → fault_of keys ≡ None → refusal_of keys edit ≡ None
    → ((random : List ℕ) → effect_of keys edit random ≡ answered (Ok target) random) → new ≡ target → fault_of new ≡ None
edit-faultless keys target new edit has faultless is effect same =
    ap fault_of same ∙ edits_keep_keysets keys target edit [] _ has faultless (step-accepted keys edit is [] ∙ effect []) refl

-- it is the edit's answer
pub edit-answer : (keys target new : Keys) (edit : Edit) → refusal_of keys edit ≡ None
    → ((random : List ℕ) → effect_of keys edit random ≡ answered (Ok target) random) → new ≡ target → (random : List ℕ) → step keys edit random ≡ answered (Ok new) random
edit-answer keys target new edit is effect same random =
    step-accepted keys edit is random ∙ effect random ∙ ap (λ k. answered (Ok k) random) (sym same)

-- ---- what a change in place gives

pub status-changed : (keys : Keys) (id i status : ℕ) → i < length keys.records → Some i ≡ position (has_id id) keys.records → with_status_at keys i status ≡ with_records keys (changed (with_status status) id keys.records)
status-changed keys id i status within place = ap (with_records keys) (at-changed (with_status status) id i keys.records within place)

pub key-destroyed : (keys : Keys) (id i : ℕ) → i < length keys.records → Some i ≡ position (has_id id) keys.records → destroyed_at keys i ≡ with_records keys (changed destroyed id keys.records)
key-destroyed keys id i within place = ap (with_records keys) (at-changed destroyed id i keys.records within place)

pub key-removed : (keys : Keys) (id i : ℕ) → i < length keys.records → Some i ≡ position (has_id id) keys.records → without_at keys i ≡ with_records keys (without id keys.records)
key-removed keys id i within place = ap (with_records keys) (at-removed id i keys.records within place)

-- ---- answers

pub memory-edited : (result : Result (Unit {0}) EditError) (new : Keys) (give : Draw Keys) → IsErr result → IsErrAnd result (λ error. error ≡ NoMemory)
    → (answer : Result Keys EditRefusal) × ((random : List ℕ) → give random ≡ answered answer random) → Edited (answer_with result new) give
memory-edited (Ok done) new give err is settled = absurd (false≢true err)
memory-edited (Err (Refused fault)) new give err is settled = absurd (grind arith)
memory-edited (Err EntropyFault) new give err is settled = absurd (grind arith)
memory-edited (Err NoMemory) new give err is settled = settled

-- what a test of primitives says
pub same-test : (keys : Keys) (url text : List ℕ) (a b : Option Primitive) (same test : Bool) → a ≡ primitive_of text → text ≡ url → b ≡ primary_primitive keys
    → same ≡ is_same a b → same ≡ test → is_same (primitive_of url) (primary_primitive keys) ≡ test
same-test keys url text a b same test is text_is other s t =
    sym (s ∙ ap (λ o. is_same o b) (is ∙ ap primitive_of text_is) ∙ ap (is_same (primitive_of url)) other) ∙ t
