-- The grammar of one line of a session, a list of bytes without its newline.
--
--   Line           what a line asks
--   Outcome        what becomes of a keyset that is to be saved
--   bytes_in       the bytes that a word spells in hexadecimal
--   word_of        the word that spells bytes
--   file_in        the name of a new file that a word is
--   line_of        what the bytes of a line ask
--
-- Words are separated by one space each: what stands between two spaces is a word, also an empty
-- one. An edit's template stands by its name, whether or not there is one of that name. What becomes of a save is no
-- matter of its words: as a line is read, it is saved nowhere.
use Rattle.std.specs.Prelude.{ℕ, List, [], ◌∷◌, length, ◌==◌, Option, Some, None, if◌then◌else◌, codes}
use Rattle.std.specs.List.{slice_split}
use Rattle.std.specs.Result.{result_ok}
use Rattle.std.specs.Str.{bytes_eq, is_utf8}
use Rattle.tink_base.specs.Decimal.{number_in}
use Rattle.hex.specs.Hex.{decode_of, encode_lower}
use Rattle.tinkey_cmds.specs.Edits.{EditOf, Add, Rotate, Promote, Enable, Disable, Destroy, Delete}
use Rattle.tinkey_session.specs.declared.reply.LineRefusal.{LineRefusal}
use Rattle.tinkey_session.specs.declared.reply.LineRefusal.TheVariants.{BadLine}
use Rattle.tinkey_words.specs.Rows.{is_value}
use Rattle.tinkey_words.specs.declared.words.rows.ValueForm.TheVariants as forms

-- What becomes of a keyset that is to be saved: the random bytes that are drawn to write it, an IV at most, of which
-- 16 are the most that count; why the line is refused, if it is; and the bytes that a file was to have, where one
-- was asked for.
pub record Outcome : Type 0 where
  pub size : ℕ
  pub why : Option LineRefusal
  pub file : Option (List ℕ)

-- a session that saves nothing refuses the line as a bad one
abbrev pub nowhere : Outcome
nowhere = record { size = 0; why = Some BadLine; file = None }

-- what a line asks
pub data Line : Type 0 where
  Seal Dseal : (plain ad : List ℕ) → Line
  Open Dopen : (sealed ad : List ℕ) → Line
  -- what is opened is sealed again
  Reseal Dreseal : (sealed ad : List ℕ) → Line
  Tag : (body : List ℕ) → Line
  Verify : (tag body : List ℕ) → Line
  Derive : (size : ℕ) (input : List ℕ) → Line
  -- an edit, by the name of a template or the id of a record
  Edit : (edit : EditOf (List ℕ)) → Line
  -- the keyset as it is becomes a new file of this name, and this becomes of it
  Save : (name : List ℕ) (outcome : Outcome) → Line
  -- a line that is refused before anything is looked at: for its form, or since the keyset isn't saved
  Bad : (why : LineRefusal) → Line

-- ---- words

-- the words between spaces
abbrev pub words_of : List ℕ → List (List ℕ)
words_of text = slice_split (λ b. b == 32) text

-- an even number of digits, at least two, of either case, or `-` for no bytes
abbrev pub bytes_in : List ℕ → Option (List ℕ)
bytes_in word =
    if bytes_eq word (codes "-") then Some []
    else (if length word == 0 then None
    else result_ok (decode_of word))

-- the word that spells bytes, in lower case
abbrev pub word_of : List ℕ → List ℕ
word_of [] = codes "-"
word_of (b ∷ bytes) = encode_lower (b ∷ bytes)

-- a name isn't empty
abbrev pub name_in : List ℕ → Option (List ℕ)
name_in word = if length word == 0 then None else Some word

-- the name of a new file, as `--out` of a session takes it: not empty, no dash, and no temporary name
abbrev pub file_in : List ℕ → Option (List ℕ)
file_in word = if is_value forms.NewFile word then Some word else None

-- ---- lines

-- the line of what a word spells
abbrev pub with_one : {A : Type 0} → (A → Line) → Option A → Line
with_one asks (Some a) = asks a
with_one asks None = Bad BadLine

-- of what two words spell
abbrev pub with_two : {A B : Type 0} → (A → B → Line) → Option A → Option B → Line
with_two asks (Some a) word = with_one (asks a) word
with_two asks None word = Bad BadLine

-- the lines of a name and a number
abbrev pub line_with_id : (name : List ℕ) → (id : ℕ) → Line
line_with_id name id =
    if bytes_eq name (codes "promote") then Edit (Promote id)
    else (if bytes_eq name (codes "enable") then Edit (Enable id)
    else (if bytes_eq name (codes "disable") then Edit (Disable id)
    else (if bytes_eq name (codes "destroy") then Edit (Destroy id)
    else (if bytes_eq name (codes "delete") then Edit (Delete id)
    else Bad BadLine))))

-- the lines of a name and one word
abbrev pub line_with_one : (name a : List ℕ) → Line
line_with_one name a =
    if bytes_eq name (codes "tag") then with_one Tag (bytes_in a)
    else (if bytes_eq name (codes "add") then with_one (λ name. Edit (Add name)) (name_in a)
    else (if bytes_eq name (codes "rotate") then with_one (λ name. Edit (Rotate name)) (name_in a)
    else (if bytes_eq name (codes "save") then with_one (λ name. Save name nowhere) (file_in a)
    else with_one (line_with_id name) (number_in a))))

-- the lines of a name and twice bytes
abbrev pub line_with_bytes : (name a b : List ℕ) → Line
line_with_bytes name a b =
    if bytes_eq name (codes "seal") then Seal a b
    else (if bytes_eq name (codes "open") then Open a b
    else (if bytes_eq name (codes "dseal") then Dseal a b
    else (if bytes_eq name (codes "dopen") then Dopen a b
    else (if bytes_eq name (codes "verify") then Verify a b
    else (if bytes_eq name (codes "reseal") then Reseal a b
    else (if bytes_eq name (codes "dreseal") then Dreseal a b
    else Bad BadLine))))))

-- the lines of a name and two words
abbrev pub line_with_two : (name a b : List ℕ) → Line
line_with_two name a b =
    if bytes_eq name (codes "derive") then with_two Derive (number_in a) (bytes_in b)
    else with_two (line_with_bytes name) (bytes_in a) (bytes_in b)

-- the line of these words
abbrev pub line_of_words : List (List ℕ) → Line
line_of_words (name ∷ a ∷ []) = line_with_one name a
line_of_words (name ∷ a ∷ b ∷ []) = line_with_two name a b
line_of_words _ = Bad BadLine

-- what a line asks; one that isn't UTF-8 is bad
unfoldable pub line_of : List ℕ → Line
line_of text = if is_utf8 text then line_of_words (words_of text) else Bad BadLine
