-- One write to a stream after another, where it knows its bytes.
use Rattle.std.proofs.Common.{◌≡◌, ℕ, List, ◌++◌, Option, None, Some, ap, ◌∙◌}
use Rattle.std.specs.Io.KnownBytes.{Keeps, Appends}

-- a write after writes that took nothing
pub appends_after : (a b c : Option (List ℕ)) (bs : List ℕ) → Keeps a b → Appends b c bs → Appends a c bs
appends_after None b c bs kept wrote = tt
appends_after (Some x) None c bs kept wrote = absurd kept
appends_after (Some x) (Some y) None bs kept wrote = absurd wrote
appends_after (Some x) (Some y) (Some z) bs kept wrote = wrote ∙ ap (λ l. l ++ bs) kept
