-- How the answers of code follow from what was drawn.
use Rattle.std.proofs.Common.{◌≡◌, ◌∙◌, ℕ, List, [], ◌++◌, Option, Some, None, Result, Ok, Err, refl, sym, ap, subst}
use Rattle.std.specs.Prelude.{OnErr, OnOk, IfOk, ◌≤◌, ◌<◌, length, nat_le, Bool, true, false}
use Rattle.std.proofs.Common.{arith}
use Rattle.std.proofs.lemmas.Bool.Decides.{nat_tests}
use Rattle.key_msgs.specs.declared.primitive.Primitive.{Primitive}
use Rattle.key_msgs.specs.KeyTypes.{primitive_of_type}
use Rattle.std.specs.List.{AllByRecursion}
use Rattle.tink_spec.specs.Outside.{EntropyState}
use Rattle.tink_spec.proofs.Moves.{drew_nothing}
use Rattle.key_msgs.specs.Templates.{Row, type_made}
use Rattle.keyset_model.specs.declared.record.Record.{Record}
use Rattle.keyset_model.specs.Keyset.{Keys, IsShort, fault_of, first_some, when}
use Rattle.tinkey_cmds.specs.declared.command.EditError.{EditError}
use Rattle.tinkey_cmds.specs.declared.command.EditError.TheVariants.{Refused, EntropyFault, NoMemory}
use Rattle.tinkey_cmds.specs.declared.command.EditRefusal.{EditRefusal}
use Rattle.tinkey_cmds.specs.declared.command.EditRefusal.TheVariants.{MixedPrimitive, TooManyKeys}
use Rattle.tinkey_cmds.specs.Draws.{Draw, answered}
use Rattle.tinkey_cmds.specs.Edits.{Edit, Add, Rotate, new_record, grown, added, rotated, alone, full_or_mixed, is_same, primary_primitive, refusal_of, effect_of, unless_refused, step, first}
use Rattle.tinkey_cmds.specs.Applying.{Draws, Applied, Edited, answer_with}
use Rattle.tinkey_cmds.specs.Laws.{HasTemplate, IsTemplate}
use Rattle.tinkey_cmds.proofs.Cases.{Yields}
use Rattle.tinkey_cmds.proofs.Drawings.{continues-and_then, continues-draws, draws-answered, draws-refused, ran_out-first}
use Rattle.tinkey_cmds.proofs.Kept.{edits_keep_keysets, firsts_are_keysets, each-kept, each-first, kept-short}
use Rattle.tinkey_cmds.proofs.Steps.{step-refused, step-accepted}

-- ---- what draws nothing

pub edited-applied : (result : Result Keys EditError) (give : Draw Keys) (s : EntropyState) → Edited result give → Applied result give s s
edited-applied (Ok keys) give s is = (refl, ([], drew_nothing s, is))
edited-applied (Err (Refused fault)) give s is = (refl, ([], drew_nothing s, is))
edited-applied (Err EntropyFault) give s is = absurd is
edited-applied (Err NoMemory) give s is = (refl, (is.0, ([], drew_nothing s, is.1)))

pub applied-refused : (keys : Keys) (edit : Edit) (fault : EditRefusal) (s : EntropyState) → refusal_of keys edit ≡ Some fault → Applied (Err (Refused fault)) (step keys edit) s s
applied-refused keys edit fault s is = (refl, ([], drew_nothing s, step-refused keys edit fault is))

-- ---- a new record

pub draws-grown : (keys_with : Record → Keys) (row : Row) (records : List Record) (r : Record) (old new : EntropyState)
    → Draws (new_record row records) old new (Ok r) → Draws (grown keys_with row records) old new (Ok (keys_with r))
draws-grown keys_with row records r old new one = continues-draws (grown keys_with row records) _ old new new _
    (continues-and_then (new_record row records) (λ x left. answered (Ok (keys_with x)) left) r old new one) (draws-answered (Ok (keys_with r)) new)

draws-grown_any : (keys_with : Record → Keys) (row : Row) (records : List Record) (answer : Result Record EditRefusal) (old new : EntropyState)
    → Draws (new_record row records) old new answer → (other : Result Keys EditRefusal) × Draws (grown keys_with row records) old new other
draws-grown_any keys_with row records (Ok r) old new one = (Ok (keys_with r), draws-grown keys_with row records r old new one)
draws-grown_any keys_with row records (Err fault) old new one = (Err fault, draws-refused (new_record row records) _ fault old new one)

pub applied-grown : (keys_with : Record → Keys) (row : Row) (records : List Record) (error : EditError) (old new : EntropyState)
    → Applied {A = Record} (Err error) (new_record row records) old new → Applied {A = Keys} (Err error) (grown keys_with row records) old new
applied-grown keys_with row records (Refused fault) old new is = (is.0, draws-refused (new_record row records) _ fault old new is.1)
applied-grown keys_with row records EntropyFault old new is = ran_out-first (new_record row records) _ old new is
applied-grown keys_with row records NoMemory old new is = (is.0, draws-grown_any keys_with row records is.1.0 old new is.1.1)

-- ---- an accepted edit

pub applied-accepted : (keys : Keys) (edit : Edit) (result : Result Keys EditError) (old new : EntropyState) → refusal_of keys edit ≡ None
    → Applied result (effect_of keys edit) old new → Applied result (step keys edit) old new
applied-accepted keys edit result old new is applied = subst (λ o. Applied result (unless_refused o (effect_of keys edit)) old new) (sym is) applied

pub effect-add : (keys : Keys) (row : Row) (result : Result Keys EditError) (old new : EntropyState) → Applied result (grown (added keys) row keys.records) old new → Applied result (effect_of keys (Add row)) old new
unfolding effect_of
effect-add keys row result old new is = is

pub effect-rotate : (keys : Keys) (row : Row) (result : Result Keys EditError) (old new : EntropyState) → Applied result (grown (rotated keys) row keys.records) old new → Applied result (effect_of keys (Rotate row)) old new
unfolding effect_of
effect-rotate keys row result old new is = is

-- what is given, over the bytes drawn alone
given : {A : Type 0} (give : Draw A) (value : A) (old new : EntropyState) → Draws give old new (Ok value) → (random : List ℕ) × (give random ≡ answered (Ok value) [])
given give value old new is = (is.0 ++ [], is.2 [])

pub drawn-faultless : (keys target : Keys) (edit : Edit) (old new : EntropyState) → HasTemplate edit → fault_of keys ≡ None → Draws (step keys edit) old new (Ok target) → fault_of target ≡ None
drawn-faultless keys target edit old new has faultless is = let g = given (step keys edit) target old new is in edits_keep_keysets keys target edit g.0 _ has faultless g.1 refl

pub first-faultless : (row : Row) (target : Keys) (old new : EntropyState) → IsTemplate row → Draws (first row) old new (Ok target) → fault_of target ≡ None
first-faultless row target old new is drawn = let g = given (first row) target old new drawn in firsts_are_keysets target row g.0 _ is g.1 refl

-- ---- short records

yielded-drawn : (P : Keys → Type 0) (give : Draw Keys) (value : Keys) (old new : EntropyState) → Yields P give → Draws give old new (Ok value) → P value
unfolding Yields
yielded-drawn P give value old new yields is = let g = given give value old new is in yields g.0 _ g.1

pub short-step : (keys : Keys) (edit : Edit) (result : Result Keys EditError) (old new : EntropyState) → HasTemplate edit → AllByRecursion IsShort keys.records
    → Applied result (step keys edit) old new → IfOk result (λ k. AllByRecursion IsShort k.records)
short-step keys edit (Ok k) old new has short is = yielded-drawn _ (step keys edit) k old new (each-kept IsShort kept-short keys edit short) is.1 has
short-step keys edit (Err error) old new has short is = tt

-- the same of the keyset that an edit left, where the template is known of what was made
pub short-edited : (result : Result (Unit {0}) EditError) (keys new : Keys) (edit : Edit) (old after : EntropyState) → OnOk result (HasTemplate edit) → OnErr result (new ≡ keys) → AllByRecursion IsShort keys.records
    → Applied (answer_with result new) (step keys edit) old after → AllByRecursion IsShort new.records
short-edited (Ok done) keys new edit old after has kept short is = short-step keys edit (Ok new) old after has short is
short-edited (Err error) keys new edit old after has kept short is = subst (λ (k : Keys). AllByRecursion IsShort k.records) (sym kept) short

-- ---- no room, or another primitive

pub full-refused : (keys : Keys) (row : Row) → 1000 ≤ length keys.records → full_or_mixed keys row ≡ Some TooManyKeys
unfolding full_or_mixed first_some when
full-refused keys row many = let full : nat_le 1000 (length keys.records) ≡ true = grind (arith, nat_tests) in rw full refl

pub mixed-refused : (keys : Keys) (row : Row) → length keys.records < 1000 → is_same (primary_primitive keys) (Some (primitive_of_type (type_made row))) ≡ false
    → full_or_mixed keys row ≡ Some MixedPrimitive
unfolding full_or_mixed first_some when
mixed-refused keys row few other = let full : nat_le 1000 (length keys.records) ≡ false = grind (arith, nat_tests) in rw (full, other) refl

pub none-refused : (keys : Keys) (row : Row) → length keys.records < 1000 → is_same (primary_primitive keys) (Some (primitive_of_type (type_made row))) ≡ true
    → full_or_mixed keys row ≡ None
unfolding full_or_mixed first_some when
none-refused keys row few same = let full : nat_le 1000 (length keys.records) ≡ false = grind (arith, nat_tests) in rw (full, same) refl

pub refusal-add : (keys : Keys) (row : Row) → refusal_of keys (Add row) ≡ full_or_mixed keys row
unfolding refusal_of
refusal-add keys row = refl

pub refusal-rotate : (keys : Keys) (row : Row) → refusal_of keys (Rotate row) ≡ full_or_mixed keys row
unfolding refusal_of
refusal-rotate keys row = refl

-- what Add and Rotate draw
pub draws-add : (keys : Keys) (row : Row) (r : Record) (old new : EntropyState) → full_or_mixed keys row ≡ None → Draws (new_record row keys.records) old new (Ok r)
    → Draws (step keys (Add row)) old new (Ok (added keys r))
unfolding effect_of
draws-add keys row r old new is one = let g = draws-grown (added keys) row keys.records r old new one in
    (g.0, g.1, λ more. step-accepted keys (Add row) (refusal-add keys row ∙ is) (g.0 ++ more) ∙ g.2 more)

pub draws-rotate : (keys : Keys) (row : Row) (r : Record) (old new : EntropyState) → full_or_mixed keys row ≡ None → Draws (new_record row keys.records) old new (Ok r)
    → Draws (step keys (Rotate row)) old new (Ok (rotated keys r))
unfolding effect_of
draws-rotate keys row r old new is one = let g = draws-grown (rotated keys) row keys.records r old new one in
    (g.0, g.1, λ more. step-accepted keys (Rotate row) (refusal-rotate keys row ∙ is) (g.0 ++ more) ∙ g.2 more)

pub template-test : (keys : Keys) (row : Row) (a : Option Primitive) (b : Primitive) (same test : Bool) → a ≡ primary_primitive keys → b ≡ primitive_of_type (type_made row)
    → same ≡ is_same a (Some b) → same ≡ test → is_same (primary_primitive keys) (Some (primitive_of_type (type_made row))) ≡ test
template-test keys row a b same test is other s t = sym (s ∙ ap (λ o. is_same o (Some b)) is ∙ ap (λ p. is_same (primary_primitive keys) (Some p)) other) ∙ t

pub short-alone : (row : Row) (r : Record) (k : Keys) (old new : EntropyState) → IsTemplate row → Draws (new_record row []) old new (Ok r) → k ≡ alone r → AllByRecursion IsShort k.records
short-alone row r k old new is one same = subst (λ (x : Keys). AllByRecursion IsShort x.records) (sym same)
    (yielded-drawn _ (first row) (alone r) old new (each-first IsShort kept-short row is) (draws-grown alone row [] r old new one))
