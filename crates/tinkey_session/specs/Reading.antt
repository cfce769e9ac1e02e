-- What the code's lines stand for.
use Rattle.std.specs.Borrow.{Bor}
use Rattle.std.specs.Prelude.{◌≡◌, ℕ, ◌≤◌, List, length, Option, option_map}
use Rattle.tinkey_cmds.specs.Edits.{seen_by}
use Rattle.tinkey_session.specs.Lines.{Line, Seal, Dseal, Open, Dopen, Reseal, Dreseal, Tag, Verify, Derive, Edit, Save, nowhere, Bad}
use Rattle.tinkey_session.specs.declared.line.Line.{Line as CodeLine}
use Rattle.tinkey_session.specs.declared.line.Line.TheVariants as lines

-- the line that one of the code stands for
abbrev pub seen_line : CodeLine → Line
seen_line (lines.Seal plain ad) = Seal plain ad
seen_line (lines.Dseal plain ad) = Dseal plain ad
seen_line (lines.Open sealed ad) = Open sealed ad
seen_line (lines.Dopen sealed ad) = Dopen sealed ad
seen_line (lines.Reseal sealed ad) = Reseal sealed ad
seen_line (lines.Dreseal sealed ad) = Dreseal sealed ad
seen_line (lines.Tag body) = Tag body
seen_line (lines.Verify tag body) = Verify tag body
seen_line (lines.Derive size input) = Derive size input
seen_line (lines.Edit edit) = Edit (seen_by (λ name. name.now) edit)
seen_line (lines.Save name) = Save name.now nowhere
seen_line (lines.Bad why) = Bad why

-- a name, where there is one, as its bytes
abbrev pub seen_name : Option (Bor (List ℕ)) → Option (List ℕ)
seen_name name = option_map (λ name. name.now) name

-- each list of bytes that the line spells has at most so many; and what is to be saved is saved nowhere yet
abbrev pub IsWithin : ℕ → Line → Type 0
IsWithin most (Seal plain ad) = (length plain ≤ most) × (length ad ≤ most)
IsWithin most (Dseal plain ad) = (length plain ≤ most) × (length ad ≤ most)
IsWithin most (Open sealed ad) = (length sealed ≤ most) × (length ad ≤ most)
IsWithin most (Dopen sealed ad) = (length sealed ≤ most) × (length ad ≤ most)
IsWithin most (Reseal sealed ad) = (length sealed ≤ most) × (length ad ≤ most)
IsWithin most (Dreseal sealed ad) = (length sealed ≤ most) × (length ad ≤ most)
IsWithin most (Tag body) = length body ≤ most
IsWithin most (Verify tag body) = (length tag ≤ most) × (length body ≤ most)
IsWithin most (Derive size input) = length input ≤ most
IsWithin most (Save name outcome) = outcome ≡ nowhere
IsWithin most _ = Unit {0}
