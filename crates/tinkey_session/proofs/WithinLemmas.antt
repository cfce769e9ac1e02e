-- A line spells no more bytes than it has.
use Rattle.std.proofs.Common.{◌≡◌, refl, sym, subst, ℕ, zero, suc, ◌≤◌, Bool, true, false, cond, ◌==◌, List, [], ◌∷◌, length, Option, Some, None, Result, Ok, Err, IfOk, IfSome, arith, codes}
use Rattle.std.specs.List.{AllByRecursion, onto_first}
use Rattle.std.specs.Result.{result_ok}
use Rattle.std.specs.Str.{bytes_eq, is_utf8}
use Rattle.hex.specs.Hex.{decode_of, decode_pairs}
use Rattle.hex.specs.declared.error.FromHexError.{FromHexError}
use Rattle.hex.specs.declared.error.FromHexError.TheVariants as hex_errors
use Rattle.hex.proofs.HexLemmas.{decode_pairs-ok}
use Rattle.tinkey_cmds.specs.Edits.{Add, Rotate, Promote, Enable, Disable, Destroy, Delete}
use Rattle.tink_base.specs.Decimal.{number_in}
use Rattle.tinkey_session.specs.Lines.{Line, Seal, Dseal, Open, Dopen, Reseal, Dreseal, Tag, Verify, Derive, Edit, Save, nowhere, Bad, bytes_in, file_in, line_of, line_of_words, line_with_bytes, line_with_id, line_with_one, line_with_two, name_in, with_one, with_two, words_of}
use Rattle.tinkey_session.specs.Reading.{IsWithin}
use Rattle.tinkey_session.specs.declared.reply.LineRefusal.TheVariants.{BadLine}

-- ---- words

abbrev AreShort : ℕ → List (List ℕ) → Type 0
AreShort most words = AllByRecursion (λ word. length word ≤ most) words

short_more : (most : ℕ) (words : List (List ℕ)) → AreShort most words → AreShort (suc most) words
short_more most [] are = tt
short_more most (word ∷ words) are = let is = are.0 in (omega (arith, is), short_more most words are.1)

short_onto : (most b : ℕ) (words : List (List ℕ)) → AreShort most words → AreShort (suc most) (onto_first b words)
short_onto most b [] are = (omega arith, tt)
short_onto most b (word ∷ words) are = let is = are.0 in (omega (arith, is), short_more most words are.1)

short_words : (text : List ℕ) (most : ℕ) → length text ≤ most → AreShort most (words_of text)
short_words [] most le = (omega arith, tt)
short_words (b ∷ text) zero le = absurd (omega (arith, le))
short_words (b ∷ text) (suc most) le = by (b == 32) (short_words text most (omega (arith, le)))
  where
    by : (t : Bool) → AreShort most (words_of text) → AreShort (suc most) (cond t ([] ∷ words_of text) (onto_first b (words_of text)))
    by true are = (omega arith, short_more most (words_of text) are)
    by false are = short_onto most b (words_of text) are

-- ---- what words spell

abbrev Fits : ℕ → Option (List ℕ) → Type 0
Fits most o = IfSome o (λ bytes. length bytes ≤ most)

even_test : (odd : Bool) (digits bytes : List ℕ) → cond odd (Err hex_errors.OddLength) (decode_pairs 0 digits) ≡ Ok bytes → decode_pairs 0 digits ≡ Ok bytes
even_test true digits bytes e = absurd cc
even_test false digits bytes e = e

decoded_fits : (word : List ℕ) (most : ℕ) → length word ≤ most → (r : Result (List ℕ) FromHexError) → decode_of word ≡ r → Fits most (result_ok r)
decoded_fits word most le (Ok bytes) e = let double = (decode_pairs-ok 0 word bytes (even_test _ word bytes e)).1 in omega (arith, le, double)
decoded_fits word most le (Err error) e = tt

bytes_fit : (most : ℕ) (word : List ℕ) → length word ≤ most → Fits most (bytes_in word)
bytes_fit most word le = by (bytes_eq word (codes "-")) (length word == 0)
  where
    by : (dash empty : Bool) → Fits most (cond dash (Some []) (cond empty None (result_ok (decode_of word))))
    by true empty = omega arith
    by false true = tt
    by false false = decoded_fits word most le (decode_of word) refl

-- ---- lines

id_within : (most : ℕ) (name : List ℕ) (id : ℕ) → IsWithin most (line_with_id name id)
id_within most name id = by (bytes_eq name (codes "promote")) (bytes_eq name (codes "enable")) (bytes_eq name (codes "disable")) (bytes_eq name (codes "destroy")) (bytes_eq name (codes "delete"))
  where
    by : (a b c d e : Bool) → IsWithin most (cond a (Edit (Promote id)) (cond b (Edit (Enable id)) (cond c (Edit (Disable id)) (cond d (Edit (Destroy id)) (cond e (Edit (Delete id)) (Bad BadLine))))))
    by true b c d e = tt
    by false true c d e = tt
    by false false true d e = tt
    by false false false true e = tt
    by false false false false true = tt
    by false false false false false = tt

one_within : (most : ℕ) (name a : List ℕ) → length a ≤ most → IsWithin most (line_with_one name a)
one_within most name a le = by (bytes_eq name (codes "tag")) (bytes_eq name (codes "add")) (bytes_eq name (codes "rotate")) (bytes_eq name (codes "save")) (bytes_in a) (bytes_fit most a le) (name_in a) (file_in a) (number_in a)
  where
    by : (tag add rotate save : Bool) (bytes : Option (List ℕ)) → Fits most bytes → (named file : Option (List ℕ)) (number : Option ℕ)
        → IsWithin most (cond tag (with_one Tag bytes) (cond add (with_one (λ name. Edit (Add name)) named) (cond rotate (with_one (λ name. Edit (Rotate name)) named)
        (cond save (with_one (λ name. Save name nowhere) file) (with_one (line_with_id name) number)))))
    by true add rotate save (Some bytes) fits named file number = fits
    by true add rotate save None fits named file number = tt
    by false true rotate save bytes fits (Some template) file number = tt
    by false true rotate save bytes fits None file number = tt
    by false false true save bytes fits (Some template) file number = tt
    by false false true save bytes fits None file number = tt
    by false false false true bytes fits named (Some name) number = refl
    by false false false true bytes fits named None number = tt
    by false false false false bytes fits named file (Some id) = id_within most name id
    by false false false false bytes fits named file None = tt

both_within : (most : ℕ) (name a b : List ℕ) → length a ≤ most → length b ≤ most → IsWithin most (line_with_bytes name a b)
both_within most name a b le less = by (bytes_eq name (codes "seal")) (bytes_eq name (codes "open")) (bytes_eq name (codes "dseal")) (bytes_eq name (codes "dopen")) (bytes_eq name (codes "verify")) (bytes_eq name (codes "reseal")) (bytes_eq name (codes "dreseal"))
  where
    by : (c d e f g h i : Bool) → IsWithin most (cond c (Seal a b) (cond d (Open a b) (cond e (Dseal a b) (cond f (Dopen a b) (cond g (Verify a b) (cond h (Reseal a b) (cond i (Dreseal a b) (Bad BadLine))))))))
    by true d e f g h i = (le, less)
    by false true e f g h i = (le, less)
    by false false true f g h i = (le, less)
    by false false false true g h i = (le, less)
    by false false false false true h i = (le, less)
    by false false false false false true i = (le, less)
    by false false false false false false true = (le, less)
    by false false false false false false false = tt

bytes_within : (most : ℕ) (name : List ℕ) (a b : Option (List ℕ)) → Fits most a → Fits most b → IsWithin most (with_two (line_with_bytes name) a b)
bytes_within most name (Some a) (Some b) le less = both_within most name a b le less
bytes_within most name (Some a) None le less = tt
bytes_within most name None b le less = tt

derive_within : (most : ℕ) (size : Option ℕ) (input : Option (List ℕ)) → Fits most input → IsWithin most (with_two Derive size input)
derive_within most (Some size) (Some input) fits = fits
derive_within most (Some size) None fits = tt
derive_within most None input fits = tt

two_within : (most : ℕ) (name a b : List ℕ) → length a ≤ most → length b ≤ most → IsWithin most (line_with_two name a b)
two_within most name a b le less = by (bytes_eq name (codes "derive"))
  where
    by : (t : Bool) → IsWithin most (cond t (with_two Derive (number_in a) (bytes_in b)) (with_two (line_with_bytes name) (bytes_in a) (bytes_in b)))
    by true = derive_within most (number_in a) (bytes_in b) (bytes_fit most b less)
    by false = bytes_within most name (bytes_in a) (bytes_in b) (bytes_fit most a le) (bytes_fit most b less)

words_within : (most : ℕ) (words : List (List ℕ)) → AreShort most words → IsWithin most (line_of_words words)
words_within most [] are = tt
words_within most (name ∷ []) are = tt
words_within most (name ∷ a ∷ []) are = one_within most name a are.1.0
words_within most (name ∷ a ∷ b ∷ []) are = two_within most name a b are.1.0 are.1.1.0
words_within most (name ∷ a ∷ b ∷ c ∷ words) are = tt

pub line_within : (line : List ℕ) → IsWithin (length line) (line_of line)
unfolding line_of
line_within line = by (is_utf8 line)
  where
    by : (t : Bool) → IsWithin (length line) (cond t (line_of_words (words_of line)) (Bad BadLine))
    by true = words_within (length line) (words_of line) (short_words line (length line) (omega arith))
    by false = tt

-- so does what is read of it
read_within : (line : List ℕ) (read : Line) → read ≡ line_of line → IsWithin (length line) read
read_within line read e = subst (IsWithin (length line)) (sym e) (line_within line)

-- and within more
pub within_limit : (least most : ℕ) (line : Line) → least ≤ most → IsWithin least line → IsWithin most line
within_limit least most (Seal plain ad) le is = let a = is.0 in let b = is.1 in (omega (arith, a, le), omega (arith, b, le))
within_limit least most (Dseal plain ad) le is = let a = is.0 in let b = is.1 in (omega (arith, a, le), omega (arith, b, le))
within_limit least most (Open plain ad) le is = let a = is.0 in let b = is.1 in (omega (arith, a, le), omega (arith, b, le))
within_limit least most (Dopen plain ad) le is = let a = is.0 in let b = is.1 in (omega (arith, a, le), omega (arith, b, le))
within_limit least most (Reseal plain ad) le is = let a = is.0 in let b = is.1 in (omega (arith, a, le), omega (arith, b, le))
within_limit least most (Dreseal plain ad) le is = let a = is.0 in let b = is.1 in (omega (arith, a, le), omega (arith, b, le))
within_limit least most (Tag body) le is = omega (arith, is, le)
within_limit least most (Verify tag body) le is = let a = is.0 in let b = is.1 in (omega (arith, a, le), omega (arith, b, le))
within_limit least most (Derive size input) le is = omega (arith, is, le)
within_limit least most (Edit edit) le is = tt
within_limit least most (Save name outcome) le is = is
within_limit least most (Bad why) le is = tt

pub all_within : {A E : Type 0} (seen : A → Line) (line : List ℕ) (r : Result A E) → IfOk r (λ read. seen read ≡ line_of line) → IfOk r (λ read. IsWithin (length line) (seen read))
all_within seen line (Ok read) e = read_within line (seen read) e
all_within seen line (Err fault) e = tt
