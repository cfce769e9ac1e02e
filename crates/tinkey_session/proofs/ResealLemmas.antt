-- A line that reseals is answered as one that seals what opened, or refused as one that opens.
use Rattle.std.proofs.Common.{◌≡◌, ◌∙◌, sym, ap, List, ℕ, ◌≤◌, length, Option, Some, None, Result, Ok, Err, option_map, ◌++◌}
use Rattle.std.specs.Prelude.{IfSome}
use Rattle.key_msgs.specs.declared.primitive.Primitive.TheVariants.{Aead, Daead}
use Rattle.keyset_model.specs.Keyset.{Keys}
use Rattle.managers.specs.Table.{Table}
use Rattle.tink_spec.specs.Outside.{EntropyState}
use Rattle.tinkey_session.proofs.AnswerLemmas.{fit_served}
use Rattle.tinkey_session.specs.Answered.{Gives, Serves}
use Rattle.tinkey_session.specs.Lines.{Dreseal, Dseal, Reseal, Seal}
use Rattle.tinkey_session.specs.Serving.{answered, by_handle, computed, if_opened, sealed_reply, serve}
use Rattle.tinkey_session.specs.declared.reply.LineRefusal.TheVariants.{OpenFailed}
use Rattle.tinkey_session.specs.declared.reply.Reply.{Reply}
use Rattle.tinkey_session.specs.declared.reply.Reply.TheVariants as replies
use Rattle.tinkey_session.specs.declared.session.LineFault.{LineFault}
use Rattle.tinkey_session.specs.declared.session.LineFault.TheVariants as faults
use Rattle.wrapped_prims.proofs.OpenedSizes.{opened-short}
use Rattle.wrapped_prims.specs.Answers.{dopen_answer, dseal_answer, open_answer, seal_answer}
use Rattle.wrapped_prims.specs.Fitness.{unfit}
use Rattle.wrapped_prims.specs.Making.{IsOver}
use Rattle.wrapped_prims.specs.declared.held.Held.{Held}

-- two lines that give the same are answered by the same
abbrev pub AreAlike : Gives → Gives → Type 0
AreAlike gives other = (random : List ℕ) → gives random ≡ other random

alike_left : (gives other : Gives) (left : Option (List ℕ)) → AreAlike gives other → IfSome left (λ random. other random ≡ None) → IfSome left (λ random. gives random ≡ None)
alike_left gives other None same short = tt
alike_left gives other (Some random) same short = same random ∙ short

pub alike_serves : (gives other : Gives) (result : Result Reply LineFault) (keys : Keys) (old new : EntropyState) → AreAlike gives other → Serves other result keys old new → Serves gives result keys old new
alike_serves gives other (Ok reply) keys old new same is = record { drawn = is.drawn; drew = is.drew; stood = is.stood; is = λ more. same (is.drawn ++ more) ∙ is.is more }
alike_serves gives other (Err faults.EntropyFault) keys old new same is = record { rose = is.rose; drawn = is.drawn; gone = is.gone; undecided = same is.drawn ∙ is.undecided; short = λ steady. alike_left gives other old.left same (is.short steady) }
alike_serves gives other (Err faults.NoMemory) keys old new same is = record { drawn = is.drawn; drew = is.drew; stood = is.stood }

pub reseal_seals : (table : Table) (keys : Keys) (sealed ad plain : List ℕ) → open_answer keys table sealed ad ≡ Some plain → AreAlike (serve table keys (Reseal sealed ad)) (serve table keys (Seal plain ad))
unfolding serve
reseal_seals table keys sealed ad plain is random = ap (λ o. by_handle Aead table keys random (if_opened keys random o (λ plain. option_map (sealed_reply keys) (seal_answer keys table plain ad random)))) is

pub reseal_refused : (table : Table) (keys : Keys) (sealed ad random : List ℕ) → unfit keys Aead table ≡ None → open_answer keys table sealed ad ≡ None → serve table keys (Reseal sealed ad) random ≡ Some (answered keys random (replies.Refuses OpenFailed))
unfolding serve
reseal_refused table keys sealed ad random fit is =
    fit_served Aead table keys random _ fit ∙ ap (λ o. if_opened keys random o (λ plain. option_map (sealed_reply keys) (seal_answer keys table plain ad random))) is

pub dreseal_seals : (table : Table) (keys : Keys) (sealed ad plain : List ℕ) → dopen_answer keys table sealed ad ≡ Some plain → AreAlike (serve table keys (Dreseal sealed ad)) (serve table keys (Dseal plain ad))
unfolding serve
dreseal_seals table keys sealed ad plain is random = ap (λ o. by_handle Daead table keys random (if_opened keys random o (λ plain. computed keys random replies.Gives (dseal_answer keys table plain ad)))) is

pub dreseal_refused : (table : Table) (keys : Keys) (sealed ad random : List ℕ) → unfit keys Daead table ≡ None → dopen_answer keys table sealed ad ≡ None → serve table keys (Dreseal sealed ad) random ≡ Some (answered keys random (replies.Refuses OpenFailed))
unfolding serve
dreseal_refused table keys sealed ad random fit is =
    fit_served Daead table keys random _ fit ∙ ap (λ o. if_opened keys random o (λ plain. computed keys random replies.Gives (dseal_answer keys table plain ad))) is

-- what opened under a handle is no longer than the text
pub opened_within : (table : Table) (keys : Keys) (held : Held) (sealed ad plain : List ℕ) → IsOver table Aead keys held → Some plain ≡ open_answer keys table sealed ad → length plain ≤ length sealed
opened_within table keys held sealed ad plain over is = opened-short Aead table keys sealed ad plain (sym is)

pub dopened_within : (table : Table) (keys : Keys) (held : Held) (sealed ad plain : List ℕ) → IsOver table Daead keys held → Some plain ≡ dopen_answer keys table sealed ad → length plain ≤ length sealed
dopened_within table keys held sealed ad plain over is = opened-short Daead table keys sealed ad plain (sym is)
