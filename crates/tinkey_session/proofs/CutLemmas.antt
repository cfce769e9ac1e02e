-- How an input is cut into lines.
use Rattle.std.proofs.Common.{◌≡◌, ◌≢◌, ◌∙◌, refl, ap, ℕ, suc, ◌<◌, ◌≤◌, Bool, true, false, not, cond, ◌&&◌, ◌==◌, List, [], ◌∷◌, ◌++◌, length, arith}
use Rattle.std.specs.List.{list_all, onto_first}
use Rattle.std.proofs.lemmas.List.Folds.{list_all-append}
use Rattle.tinkey_session.proofs.Options.{no_truth}
use Rattle.tinkey_session.specs.Session.{lines_of}
use Rattle.tinkey_session.specs.SessionLaws.{LinesGoOn}

abbrev pub no_newline : List ℕ → Bool
no_newline line = list_all (λ b. not (b == 10)) line

pub no_newline-more : (line : List ℕ) (b : ℕ) → no_newline line ≡ true → (b == 10) ≡ false → no_newline (line ++ b ∷ []) ≡ true
no_newline-more line b e other = list_all-append (λ c. not (c == 10)) line (b ∷ []) ∙ rw (e, other) refl

pub lines_go_on : LinesGoOn
unfolding lines_of
lines_go_on [] more e = refl
lines_go_on (b ∷ line) more e = elim (b == 10) as (λ t. (not t && no_newline line) ≡ true → cond t ([] ∷ lines_of (line ++ 10 ∷ more)) (onto_first b (lines_of (line ++ 10 ∷ more))) ≡ (b ∷ line) ∷ lines_of more) [
  | true ↦ λ k. no_truth k
  | false ↦ λ k. ap (onto_first b) (lines_go_on line more k)
] e

-- a last line has no newline
pub one_line : (line : List ℕ) → no_newline line ≡ true → 0 < length line → lines_of line ≡ line ∷ []
unfolding lines_of
one_line [] e some = absurd (omega (arith, some))
one_line (b ∷ []) e some = elim (b == 10) as (λ t. (not t && true) ≡ true → cond t ([] ∷ []) ((b ∷ []) ∷ []) ≡ (b ∷ []) ∷ []) [
  | true ↦ λ k. no_truth k
  | false ↦ λ k. refl
] e
one_line (b ∷ c ∷ line) e some = elim (b == 10) as (λ t. (not t && no_newline (c ∷ line)) ≡ true → cond t ([] ∷ lines_of (c ∷ line)) (onto_first b (lines_of (c ∷ line))) ≡ (b ∷ c ∷ line) ∷ []) [
  | true ↦ λ k. no_truth k
  | false ↦ λ k. ap (onto_first b) (one_line (c ∷ line) k (omega arith))
] e

-- ---- the first line

first_size : List (List ℕ) → ℕ
first_size [] = 0
first_size (line ∷ lines) = length line

first_size-onto : (b : ℕ) (lines : List (List ℕ)) → first_size (onto_first b lines) ≡ suc (first_size lines)
unfolding first_size
first_size-onto b [] = refl
first_size-onto b (line ∷ lines) = refl

first_size-lines : (held more : List ℕ) → no_newline held ≡ true → length held ≤ first_size (lines_of (held ++ more))
unfolding lines_of
first_size-lines [] more e = omega arith
first_size-lines (b ∷ held) more e = elim (b == 10) as (λ t. (not t && no_newline held) ≡ true → suc (length held) ≤ first_size (cond t ([] ∷ lines_of (held ++ more)) (onto_first b (lines_of (held ++ more))))) [
  | true ↦ λ k. no_truth k
  | false ↦ λ k. let least = first_size-lines held more k in let onto = first_size-onto b (lines_of (held ++ more)) in omega (arith, least, onto)
] e

first_there : (lines : List (List ℕ)) (n : ℕ) → 0 < n → n ≤ first_size lines → (line : List ℕ) × (rest : List (List ℕ)) × (lines ≡ line ∷ rest) × (n ≤ length line)
unfolding first_size
first_there [] n some le = absurd (omega (arith, some, le))
first_there (line ∷ rest) n some le = (line, rest, refl, le)

-- bytes without a newline are within the first line of a text that they begin
pub long_first : (held more : List ℕ) → no_newline held ≡ true → 0 < length held → (line : List ℕ) × (rest : List (List ℕ)) × (lines_of (held ++ more) ≡ line ∷ rest) × (length held ≤ length line)
long_first held more e some = first_there (lines_of (held ++ more)) (length held) some (first_size-lines held more e)

onto-some : (b : ℕ) (lines : List (List ℕ)) → onto_first b lines ≢ []
onto-some b [] e = cc
onto-some b (line ∷ lines) e = cc

-- a text has a line
pub lines-some : (text : List ℕ) → 0 < length text → lines_of text ≢ []
unfolding lines_of
lines-some [] some = absurd (omega (arith, some))
lines-some (b ∷ text) some = by (b == 10)
  where
    by : (t : Bool) → cond t ([] ∷ lines_of text) (onto_first b (lines_of text)) ≢ []
    by true e = cc
    by false e = onto-some b (lines_of text) e
