-- What is held for a primitive, and the outcome of work of it.
use Rattle.std.proofs.Common.{◌≡◌, ℕ, List, inr, subst}
use Rattle.std.specs.Prelude.{Result, Ok, Err}
use Rattle.key_msgs.specs.declared.primitive.Primitive.{Primitive}
use Rattle.keyset_model.specs.Keyset.{Keys}
use Rattle.wrapped_prims.specs.Making.{IsOver}
use Rattle.wrapped_prims.specs.declared.held.Held.{Held}
use Rattle.managers.specs.Standard.{standard_table}
use Rattle.ready_keysets.specs.Working.{IsAnswered, IsOutcome, answer, lack_of, primitive_of}
use Rattle.ready_keysets.specs.declared.refusal.Refusal.{Refusal}
use Rattle.ready_keysets.specs.declared.refusal.Refusal.TheVariants as refusals
use Rattle.ready_keysets.specs.declared.work.Work.{Work}

-- keys that are held for a primitive are held for the same one
pub over_at : (p q : Primitive) (keys : Keys) (held : Held) → p ≡ q
    → IsOver standard_table p keys held → IsOver standard_table q keys held
over_at p q keys held same over = subst (λ (r : Primitive). IsOver standard_table r keys held) same over

-- what is answered to work of the keys' own primitive is the outcome
pub outcome_of : (primitive : Primitive) (keys : Keys) (work : Work) (old new : List ℕ) (result : Result ℕ Refusal)
    → primitive_of work ≡ primitive → IsAnswered (lack_of work) (answer keys work) old new result
    → IsOutcome primitive keys work old new result
outcome_of primitive keys work old new (Ok size) same answered = (same, answered)
outcome_of primitive keys work old new (Err refusals.NoMaster) same answered = absurd answered
outcome_of primitive keys work old new (Err refusals.UnfitMaster) same answered = absurd answered
outcome_of primitive keys work old new (Err refusals.NoWrapped) same answered = absurd answered
outcome_of primitive keys work old new (Err refusals.NoKeyset) same answered = absurd answered
outcome_of primitive keys work old new (Err refusals.UnfitKey) same answered = absurd answered
outcome_of primitive keys work old new (Err refusals.OtherPrimitive) same answered = absurd answered
outcome_of primitive keys work old new (Err refusals.TooLong) same answered = inr answered
outcome_of primitive keys work old new (Err refusals.FewRandomBytes) same answered = answered
outcome_of primitive keys work old new (Err refusals.Refused) same answered = answered
outcome_of primitive keys work old new (Err refusals.NoRoom) same answered = answered
outcome_of primitive keys work old new (Err refusals.NoMemory) same answered = answered
