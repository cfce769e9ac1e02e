-- What is opened is no longer than the bytes that it was opened from, and bounds on records.
use Rattle.std.proofs.Common.{◌≡◌, ap, ℕ, ◌≤◌, List, [], ◌∷◌, length, Option, Some, None, Result, Ok, Err, arith}
use Rattle.std.specs.Prelude.{IfOk, IfSome}
use Rattle.std.specs.Global.{Vec}
use Rattle.std.specs.List.{AllByRecursion}
use Rattle.key_msgs.specs.declared.primitive.Primitive.TheVariants.{Aead}
use Rattle.keyset_model.specs.Keyset.{IsWithin, Keys}
use Rattle.keyset_model.specs.declared.record.Record.{Record}
use Rattle.managers.specs.Table.{Table}
use Rattle.wrapped_prims.proofs.OpenedSizes.{opened-short}
use Rattle.wrapped_prims.specs.Answers.{open_answer}
use Rattle.wrapped_prims.specs.Making.{IsOver}
use Rattle.wrapped_prims.specs.declared.held.Held.{Held}

-- under a handle, with empty associated data
pub opened-over : (table : Table) (keys : Keys) (held : Held) (bytes plain : List ℕ) → IsOver table Aead keys held → open_answer keys table bytes [] ≡ Some plain → length plain ≤ length bytes
opened-over table keys held bytes plain over e = opened-short Aead table keys bytes [] plain e

-- what is as long as something short is short
pub same_short : {E : Type 0} (r : Result (Option (Vec ℕ)) E) (items : List ℕ) (size : ℕ) → length items ≤ size → IfOk r (λ found. IfSome found (λ v. v.items ≡ items)) → IfOk r (λ found. IfSome found (λ v. length v.items ≤ size))
same_short (Ok (Some v)) items size le same = omega (arith, le, ap length same)
same_short (Ok None) items size le same = tt
same_short (Err e) items size le same = tt

-- ---- bounds on records

pub within-more : (n m : ℕ) (rs : List Record) → n ≤ m → AllByRecursion (IsWithin n) rs → AllByRecursion (IsWithin m) rs
within-more n m [] le all = tt
within-more n m (r ∷ rs) le all = (record { url = omega (arith, all.0.url, le); value = omega (arith, all.0.value, le) }, within-more n m rs le all.1)
