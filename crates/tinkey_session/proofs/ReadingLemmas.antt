-- How a line is cut into words.
use Rattle.std.proofs.Common.{◌≡◌, ◌∙◌, refl, sym, ap, subst, ℕ, suc, ◌+◌, ◌<◌, ◌≤◌, Bool, true, false, not, cond, ◌==◌, List, [], ◌∷◌, length, Option, Some, None, arith, Bor}
use Rattle.std.specs.Prelude.{MatchOption}
use Rattle.std.specs.List.{after_first, before_first, onto_first, position_or_len, prefix_len}
use Rattle.std.specs.Str.{IsUtf8, is_utf8}
use Rattle.std.proofs.lemmas.List.Splits.{length-slice_split, slice_split_first}
use Rattle.std.proofs.lemmas.Str.{IsUtf8-from_is_utf8, is_utf8-from_IsUtf8}
use Rattle.tinkey_session.specs.Lines.{Bad, line_of, line_of_words, words_of}
use Rattle.tinkey_session.specs.declared.reply.LineRefusal.TheVariants.{BadLine}

-- ---- words

abbrev pub is_space : ℕ → Bool
is_space b = b == 32

-- what cutting a text at its first space gives
abbrev pub IsCut : List ℕ → Option (Bor (List ℕ) × Bor (List ℕ)) → Type 0
IsCut text cut = MatchOption cut (position_or_len is_space text ≡ length text)
    (λ x. (position_or_len is_space text < length text) × (x.0.now ≡ before_first is_space text) × (x.1.now ≡ after_first is_space text))

one_word : (text : List ℕ) → position_or_len is_space text ≡ length text → words_of text ≡ text ∷ []
one_word [] e = refl
one_word (b ∷ text) e = elim (is_space b) as (λ t. cond (not t) (1 + prefix_len (λ c. not (is_space c)) text) 0 ≡ suc (length text) → cond t ([] ∷ words_of text) (onto_first b (words_of text)) ≡ (b ∷ text) ∷ []) [
  | true ↦ λ k. absurd (omega (arith, k))
  | false ↦ λ k. ap (onto_first b) (one_word text (omega (arith, k)))
] e

pub uncut : (text : List ℕ) (cut : Option (Bor (List ℕ) × Bor (List ℕ))) → IsCut text cut → cut ≡ None → words_of text ≡ text ∷ []
uncut text cut is none = one_word text (subst (IsCut text) none is)

pub cut_words : (text : List ℕ) (cut : Option (Bor (List ℕ) × Bor (List ℕ))) (front back : Bor (List ℕ)) → IsCut text cut → cut ≡ Some (front, back) → words_of text ≡ front.now ∷ words_of back.now
cut_words text cut front back is some =
    let parts : IsCut text (Some (front, back)) = subst (IsCut text) some is in
    slice_split_first is_space text 0 parts.0
    ∙ ap (λ w. w ∷ words_of (after_first is_space text)) (sym parts.1)
    ∙ ap (λ t. front.now ∷ words_of t) (sym parts.2)

-- a text has a word, so behind three words there are four
four_words : (name a b : List ℕ) (later : List (List ℕ)) → 1 ≤ length later → Bad BadLine ≡ line_of_words (name ∷ a ∷ b ∷ later)
four_words name a b [] some = absurd (omega (arith, some))
four_words name a b (word ∷ later) some = refl

pub too_many : (name a b text : List ℕ) → Bad BadLine ≡ line_of_words (name ∷ a ∷ b ∷ words_of text)
too_many name a b text = let count = length-slice_split is_space text in four_words name a b (words_of text) (omega (arith, count))

-- ---- text

pub text_line : (line text : List ℕ) → text ≡ line → IsUtf8 line → line_of_words (words_of text) ≡ line_of line
unfolding line_of
text_line line text same utf8 = ap (λ t. line_of_words (words_of t)) same ∙ ap (λ b. cond b (line_of_words (words_of line)) (Bad BadLine)) (sym (is_utf8-from_IsUtf8 line utf8))

pub other_line : (line : List ℕ) → (IsUtf8 line → ⊥) → Bad BadLine ≡ line_of line
unfolding line_of
other_line line other = by (is_utf8 line) refl
  where
    by : (b : Bool) → is_utf8 line ≡ b → Bad BadLine ≡ cond b (line_of_words (words_of line)) (Bad BadLine)
    by true e = absurd (other (IsUtf8-from_is_utf8 line e))
    by false e = refl
