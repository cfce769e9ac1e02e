-- By the digits.
use Rattle.std.proofs.Common.{◌≡◌, ◌∙◌, ℕ, ◌≤◌, ◌==◌, false, cond, List, [], ◌∷◌, length, Some, None, refl, ap, arith}
use Rattle.std.specs.Result.{result_ok}
use Rattle.hex.proofs.HexLemmas.{decode_of-encode_lower, length-encode_with}
use Rattle.hex.specs.Hex.{decode_of, encode_lower, encode_with, lower_digits}
use Rattle.std.proofs.lemmas.Bool.{and_right, ne_eqb}
use Rattle.tinkey_session.proofs.StoredLemmas.{byte_there}
use Rattle.tinkey_session.specs.LineLaws.{WordsReadBack}
use Rattle.tinkey_session.proofs.laws.words_read_back.Goals as goal

some_digits : (bytes : List ℕ) → 1 ≤ length bytes → (length (encode_lower bytes) == 0) ≡ false
some_digits bytes some = let size = length-encode_with lower_digits bytes in ne_eqb (length (encode_lower bytes)) 0 (λ none. omega (arith, size, some, none))

read_back : WordsReadBack
unfolding encode_with
read_back [] h = refl
read_back (b ∷ bytes) h =
    let word = encode_lower (b ∷ bytes) in
    ap (λ t. cond t (Some []) (cond (length word == 0) None (result_ok (decode_of word)))) (and_right _ false refl)
    ∙ ap (λ t. cond t None (result_ok (decode_of word))) (some_digits (b ∷ bytes) (omega arith))
    ∙ ap result_ok (decode_of-encode_lower (b ∷ bytes) (byte_there (b ∷ bytes) h))

pub returns : goal.returns
returns c = read_back
