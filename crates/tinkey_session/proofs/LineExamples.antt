-- Lines by computation: each form of the grammar, and its edges.
use Rattle.std.proofs.Common.{◌≡◌, refl, [], ◌∷◌, ◌++◌, codes}
use Rattle.std.specs.Prelude.{⊤}
use Rattle.std.specs.Path.{path_file_name, rsplit_once, split_last_component, trim_trailing}
use Rattle.std.specs.Str.{chars, is_utf8}
use Rattle.hex.proofs.OnLiterals.{hex_on_literals}
use Rattle.tink_base.specs.Decimal.{number_in}
use Rattle.tinkey_cmds.specs.Edits.{Add, Rotate, Promote, Enable, Disable, Destroy, Delete}
use Rattle.tinkey_session.specs.Lines.{Seal, Dseal, Open, Dopen, Reseal, Dreseal, Tag, Verify, Derive, Edit, Save, nowhere, Bad, line_of}
use Rattle.tinkey_session.specs.Session.{lines_of}
use Rattle.tinkey_words.specs.Rows.{is_temporary, is_value}
use Rattle.tinkey_session.specs.declared.reply.LineRefusal.TheVariants.{BadLine}

-- what unfolds to read a line that is a literal
unfoldable pub line_on_literals : ⊤
unfolding line_of number_in is_utf8 chars hex_on_literals lib.Utf8.encode is_value is_temporary path_file_name split_last_component trim_trailing rsplit_once
line_on_literals = tt

-- each form, and what its words may be
forms :
    (line_of (codes "seal 00fF -") ≡ Seal (0 ∷ 255 ∷ []) [])
    × (line_of (codes "dseal - aBcD") ≡ Dseal [] (171 ∷ 205 ∷ []))
    × (line_of (codes "open 0101 00") ≡ Open (1 ∷ 1 ∷ []) (0 ∷ []))
    × (line_of (codes "dopen - -") ≡ Dopen [] [])
    × (line_of (codes "reseal 01 00") ≡ Reseal (1 ∷ []) (0 ∷ []))
    × (line_of (codes "dreseal fF -") ≡ Dreseal (255 ∷ []) [])
    × (line_of (codes "tag 48") ≡ Tag (72 ∷ []))
    × (line_of (codes "verify 0A 48") ≡ Verify (10 ∷ []) (72 ∷ []))
    × (line_of (codes "derive 82 -") ≡ Derive 82 [])
    × (line_of (codes "add AES128_GCM") ≡ Edit (Add (codes "AES128_GCM")))
    × (line_of (codes "rotate x") ≡ Edit (Rotate (codes "x")))
    × (line_of (codes "promote 16909060") ≡ Edit (Promote 16909060))
    × (line_of (codes "enable 0") ≡ Edit (Enable 0))
    × (line_of (codes "disable 4294967295") ≡ Edit (Disable 4294967295))
    × (line_of (codes "destroy 0000000007") ≡ Edit (Destroy 7))
    × (line_of (codes "delete 9") ≡ Edit (Delete 9))
    × (line_of (codes "save a/b.json") ≡ Save (codes "a/b.json") nowhere)
unfolding line_on_literals
forms = (refl, refl, refl, refl, refl, refl, refl, refl, refl, refl, refl, refl, refl, refl, refl, refl, refl)

-- a tab, a carriage return or a letter of two bytes may stand in a name
names :
    (line_of (codes "add \t") ≡ Edit (Add (9 ∷ [])))
    × (line_of (codes "add A\r") ≡ Edit (Add (65 ∷ 13 ∷ [])))
    × (line_of (codes "add " ++ 195 ∷ 169 ∷ []) ≡ Edit (Add (195 ∷ 169 ∷ [])))
unfolding line_on_literals
names = (refl, refl, refl)

-- too few words, too many, and another space than the one between words
counts :
    (line_of [] ≡ Bad BadLine) × (line_of (codes "hello") ≡ Bad BadLine) × (line_of (codes "tag") ≡ Bad BadLine)
    × (line_of (codes "seal -") ≡ Bad BadLine) × (line_of (codes "tag - -") ≡ Bad BadLine) × (line_of (codes "seal - - -") ≡ Bad BadLine)
    × (line_of (codes "derive 1") ≡ Bad BadLine) × (line_of (codes "add A B") ≡ Bad BadLine)
    × (line_of (codes "verify 00  01") ≡ Bad BadLine) × (line_of (codes " tag -") ≡ Bad BadLine) × (line_of (codes "tag - ") ≡ Bad BadLine)
    × (line_of (codes "tag ") ≡ Bad BadLine) × (line_of (codes "add ") ≡ Bad BadLine) × (line_of (codes "tag -\r") ≡ Bad BadLine)
unfolding line_on_literals
counts = (refl, refl, refl, refl, refl, refl, refl, refl, refl, refl, refl, refl, refl, refl)

-- a new file has a name, which is no dash and no temporary name
files :
    (line_of (codes "save ") ≡ Bad BadLine) × (line_of (codes "save -") ≡ Bad BadLine) × (line_of (codes "save ./-") ≡ Save (codes "./-") nowhere)
    × (line_of (codes "save .tinkey-new-0") ≡ Bad BadLine) × (line_of (codes "save a/.tinkey-new-0") ≡ Bad BadLine)
    × (line_of (codes "save .tinkey-new-0/a") ≡ Save (codes ".tinkey-new-0/a") nowhere)
unfolding line_on_literals
files = (refl, refl, refl, refl, refl, refl)

-- words of another form: a name in capitals, an odd number of digits, what is no digit, a number that is too
-- long or too large, or has a sign, and bytes that aren't UTF-8
words :
    (line_of (codes "SEAL - -") ≡ Bad BadLine) × (line_of (codes "open 0 -") ≡ Bad BadLine) × (line_of (codes "tag 0g") ≡ Bad BadLine) × (line_of (codes "tag --") ≡ Bad BadLine)
    × (line_of (codes "disable 4294967296") ≡ Bad BadLine) × (line_of (codes "disable 00000000007") ≡ Bad BadLine) × (line_of (codes "disable +7") ≡ Bad BadLine)
    × (line_of (codes "disable -7") ≡ Bad BadLine) × (line_of (codes "derive - 00") ≡ Bad BadLine) × (line_of (codes "derive 1 1") ≡ Bad BadLine)
    × (line_of (codes "add " ++ 255 ∷ []) ≡ Bad BadLine) × (line_of (codes "add " ++ 195 ∷ []) ≡ Bad BadLine)
unfolding line_on_literals
words = (refl, refl, refl, refl, refl, refl, refl, refl, refl, refl, refl, refl)

-- ---- lines of a text

lines :
    (lines_of [] ≡ [])
    × (lines_of (codes "\n") ≡ [] ∷ [])
    × (lines_of (codes "hello\n") ≡ codes "hello" ∷ [])
    × (lines_of (codes "hello\n\nworld") ≡ codes "hello" ∷ [] ∷ codes "world" ∷ [])
unfolding lines_of
lines = (refl, refl, refl, refl)
