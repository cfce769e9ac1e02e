-- What the keys of a handle answer a line.
use Rattle.std.proofs.Common.{◌≡◌, ◌∙◌, refl, sym, ap, ℕ, ◌<◌, Bool, true, false, List, [], ◌++◌, length, Option, Some, None, Result, Ok, Err, option_map, arith}
use Rattle.std.specs.Prelude.{IfSome, nat_lt, if◌then◌else◌}
use Rattle.std.specs.Option.{option_and_then}
use Rattle.std.proofs.lemmas.Bool.Decides.{nat_tests}
use Rattle.key_msgs.specs.declared.key.KeyKind.{KeyKind}
use Rattle.key_msgs.specs.declared.primitive.Primitive.{Primitive}
use Rattle.key_msgs.specs.declared.primitive.Primitive.TheVariants.{Aead, Daead, Mac, Prf}
use Rattle.keyset_model.specs.Keyset.{Keys, primary_of}
use Rattle.keyset_model.specs.declared.record.Record.{Record}
use Rattle.managers.specs.Table.{Table}
use Rattle.managers.specs.Uses.{iv_size}
use Rattle.tink_spec.proofs.Moves.{drew_nothing}
use Rattle.tink_spec.specs.Outside.{EntropyState, Stood}
use Rattle.tinkey_session.proofs.Options.{clash, no_truth}
use Rattle.tinkey_session.specs.Answered.{Gives, Serves}
use Rattle.tinkey_session.specs.Lines.{Seal, Dseal, Open, Dopen, Tag, Verify, Derive}
use Rattle.tinkey_session.specs.Serving.{Served, answered, by_handle, computed, derived_reply, opened_reply, sealed_reply, serve, unless_unfit, verified_reply}
use Rattle.tinkey_session.specs.declared.reply.Reply.TheVariants as replies
use Rattle.tinkey_session.specs.declared.reply.Reply.{Reply}
use Rattle.tinkey_session.specs.declared.session.LineFault.TheVariants as line_faults
use Rattle.wrapped_prims.specs.Answers.{Sealed, derive_answer, dopen_answer, dseal_answer, open_answer, primary_key, seal_answer, seal_behind, seal_under, tag_answer, verify_answer}
use Rattle.wrapped_prims.specs.Candidates.{prefix_bytes, prefix_of}
use Rattle.wrapped_prims.specs.Fitness.{key_of_record, unfit}
use Rattle.wrapped_prims.specs.Sealing.{IsSealing, IsSealFault}
use Rattle.wrapped_prims.specs.declared.sealing.SealFault.TheVariants as seal_faults

-- ---- answers without a draw

pub undrawn : (gives : Gives) (reply : Reply) (keys : Keys) (e : EntropyState) → ((random : List ℕ) → gives random ≡ Some (answered keys random reply)) → Serves gives (Ok reply) keys e e
undrawn gives reply keys e is = record { drawn = []; drew = drew_nothing e; stood = refl; is = is }

-- under keys that can serve
pub fit_served : (primitive : Primitive) (table : Table) (keys : Keys) (random : List ℕ) (served : Option Served) → unfit keys primitive table ≡ None → by_handle primitive table keys random served ≡ served
fit_served primitive table keys random served fit = ap (λ u. unless_unfit u keys random served) fit

pub open_served : (table : Table) (keys : Keys) (sealed ad : List ℕ) (opened : Option (List ℕ)) (reply : Reply) (random : List ℕ) → unfit keys Aead table ≡ None → opened ≡ open_answer keys table sealed ad → reply ≡ opened_reply opened → serve table keys (Open sealed ad) random ≡ Some (answered keys random reply)
unfolding serve
open_served table keys sealed ad opened reply random fit is same =
    fit_served Aead table keys random _ fit ∙ ap (λ r. Some (answered keys random r)) (sym (same ∙ ap opened_reply is))

-- ---- sealing

pub sealed_serves : (table : Table) (keys : Keys) (plain ad sealed : List ℕ) (reply : Reply) (old new : EntropyState) → unfit keys Aead table ≡ None → IsSealing keys table plain ad old new sealed → Stood old.faults new.faults → reply ≡ replies.Gives sealed → Serves (serve table keys (Seal plain ad)) (Ok reply) keys old new
unfolding serve
sealed_serves table keys plain ad sealed reply old new fit is stood same = record {
  drawn = is.drawn;
  drew = is.drew;
  stood = stood;
  is = λ more. fit_served Aead table keys (is.drawn ++ more) _ fit
      ∙ ap (option_map (sealed_reply keys)) (is.answer more)
      ∙ ap (λ r. Some (answered keys more r)) (sym same);
}

-- what a sealing is under the primary key
sealed_with : (r : Record) (key : KeyKind) (table : Table) (keys : Keys) (plain ad random : List ℕ) → primary_of keys ≡ Some r → key_of_record table Aead r ≡ Some key → seal_answer keys table plain ad random ≡ seal_behind (prefix_bytes (prefix_of r)) plain ad random key
sealed_with r key table keys plain ad random primary there = ap (option_and_then (seal_under table plain ad random)) primary ∙ ap (option_and_then (seal_behind (prefix_bytes (prefix_of r)) plain ad random)) there

primary_is : (table : Table) (found : Option Record) (key : KeyKind) → option_and_then (key_of_record table Aead) found ≡ Some key → (r : Record) × (found ≡ Some r) × (key_of_record table Aead r ≡ Some key)
primary_is table None key is = clash is
primary_is table (Some r) key is = (r, refl, is)

-- too few random bytes seal nothing
too_few : (b : Bool) (keys : Keys) (sealed : Sealed) → b ≡ true → option_map (sealed_reply keys) (if b then None else Some sealed) ≡ None
too_few true keys sealed is = refl
too_few false keys sealed is = no_truth is

short_random : (key : KeyKind) (table : Table) (keys : Keys) (plain ad random : List ℕ) → unfit keys Aead table ≡ None → primary_key keys table Aead ≡ Some key → length random < iv_size key → serve table keys (Seal plain ad) random ≡ None
unfolding serve
short_random key table keys plain ad random fit primary short =
    let under = primary_is table (primary_of keys) key primary in
    fit_served Aead table keys random _ fit
    ∙ ap (option_map (sealed_reply keys)) (sealed_with under.0 key table keys plain ad random under.1 under.2)
    ∙ too_few (nat_lt (length random) (iv_size key)) keys _ (grind (arith, nat_tests))

short_left : (key : KeyKind) (table : Table) (keys : Keys) (plain ad : List ℕ) (left : Option (List ℕ)) → unfit keys Aead table ≡ None → primary_key keys table Aead ≡ Some key → IfSome left (λ random. length random < iv_size key) → IfSome left (λ random. serve table keys (Seal plain ad) random ≡ None)
short_left key table keys plain ad None fit primary short = tt
short_left key table keys plain ad (Some random) fit primary short = short_random key table keys plain ad random fit primary short

-- the entropy failed at the IV
pub unsealed : (table : Table) (keys : Keys) (plain ad : List ℕ) (old new : EntropyState) → unfit keys Aead table ≡ None → IsSealFault keys table old new seal_faults.EntropyFault → Serves (serve table keys (Seal plain ad)) (Err line_faults.EntropyFault) keys old new
unsealed table keys plain ad old new fit fault = record {
  rose = fault.entropy.1.rose;
  drawn = [];
  gone = fault.entropy.1.gone;
  undecided = short_random fault.key table keys plain ad [] fit fault.primary fault.entropy.0;
  short = λ steady. short_left fault.key table keys plain ad old.left fit fault.primary (fault.entropy.1.short steady);
}

-- memory was wanting
pub starved : (gives : Gives) (keys : Keys) (e : EntropyState) → Serves gives (Err line_faults.NoMemory) keys e e
starved gives keys e = record { drawn = []; drew = drew_nothing e; stood = refl }

-- ---- the other lines

pub dopen_served : (table : Table) (keys : Keys) (sealed ad : List ℕ) (opened : Option (List ℕ)) (reply : Reply) (random : List ℕ) → unfit keys Daead table ≡ None → opened ≡ dopen_answer keys table sealed ad → reply ≡ opened_reply opened → serve table keys (Dopen sealed ad) random ≡ Some (answered keys random reply)
unfolding serve
dopen_served table keys sealed ad opened reply random fit is same =
    fit_served Daead table keys random _ fit ∙ ap (λ r. Some (answered keys random r)) (sym (same ∙ ap opened_reply is))

pub dseal_served : (table : Table) (keys : Keys) (plain ad sealed : List ℕ) (reply : Reply) (random : List ℕ) → unfit keys Daead table ≡ None → dseal_answer keys table plain ad ≡ Some sealed → reply ≡ replies.Gives sealed → serve table keys (Dseal plain ad) random ≡ Some (answered keys random reply)
unfolding serve
dseal_served table keys plain ad sealed reply random fit is same =
    fit_served Daead table keys random _ fit ∙ ap (computed keys random replies.Gives) is ∙ ap (λ r. Some (answered keys random r)) (sym same)

pub tag_served : (table : Table) (keys : Keys) (body tag : List ℕ) (reply : Reply) (random : List ℕ) → unfit keys Mac table ≡ None → tag_answer keys table body ≡ Some tag → reply ≡ replies.Gives tag → serve table keys (Tag body) random ≡ Some (answered keys random reply)
unfolding serve
tag_served table keys body tag reply random fit is same =
    fit_served Mac table keys random _ fit ∙ ap (computed keys random replies.Gives) is ∙ ap (λ r. Some (answered keys random r)) (sym same)

pub verify_served : (table : Table) (keys : Keys) (tag body : List ℕ) (holds : Bool) (random : List ℕ) → unfit keys Mac table ≡ None → holds ≡ verify_answer keys table tag body → serve table keys (Verify tag body) random ≡ Some (answered keys random (verified_reply holds))
unfolding serve
verify_served table keys tag body holds random fit is =
    fit_served Mac table keys random _ fit ∙ ap (λ b. Some (answered keys random (verified_reply b))) (sym is)

pub derive_served : (table : Table) (keys : Keys) (size : ℕ) (input : List ℕ) (derived : Result (List ℕ) ℕ) (reply : Reply) (random : List ℕ) → unfit keys Prf table ≡ None → derive_answer keys table input size ≡ Some derived → reply ≡ derived_reply size derived → serve table keys (Derive size input) random ≡ Some (answered keys random reply)
unfolding serve
derive_served table keys size input derived reply random fit is same =
    fit_served Prf table keys random _ fit ∙ ap (computed keys random (derived_reply size)) is ∙ ap (λ r. Some (answered keys random r)) (sym same)
