-- What is made of random bytes, step by step.
--
--   Drawn      an answer, and the random bytes that are left
--   fill       the next bytes, so many
--   and_then   a step behind another one
use Rattle.std.specs.Prelude.{ℕ, List, length, take, drop, nat_lt, Option, Some, None, Result, Ok, Err, if◌then◌else◌}
use Rattle.tinkey_cmds.specs.declared.command.EditRefusal.{EditRefusal}

-- an answer, and the random bytes that are left
pub record Drawn (A : Type 0) : Type 0 where
  pub answer : Result A EditRefusal
  pub left : List ℕ

-- what draws bytes from the front of these; none where it would draw more than there are
abbrev pub Draw : Type 0 → Type 0
Draw A = List ℕ → Option (Drawn A)

-- this answer, with all bytes left
abbrev pub answered : {A : Type 0} → Result A EditRefusal → Draw A
answered answer random = Some (record { answer = answer; left = random })

-- the next bytes, so many
abbrev pub fill : ℕ → Draw (List ℕ)
fill count random =
    if nat_lt (length random) count then None
    else Some (record { answer = Ok (take count random); left = drop count random })

-- what comes next, unless there is a refusal
abbrev pub unless_err : {A B : Type 0} → Result A EditRefusal → (left : List ℕ) → (A → Draw B)
    → Option (Drawn B)
unless_err (Ok value) left next = next value left
unless_err (Err fault) left next = answered (Err fault) left

-- a step, and the one behind it, which draws from the bytes left
abbrev pub and_then : {A B : Type 0} → Option (Drawn A) → (A → Draw B) → Option (Drawn B)
and_then None next = None
and_then (Some drawn) next = unless_err drawn.answer drawn.left next
