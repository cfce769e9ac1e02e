-- The session byte by byte is that of the turns of its lines.
use Rattle.std.proofs.Common.{◌≡◌, ◌≢◌, ◌∙◌, refl, sym, ap, subst, ℕ, suc, ◌+◌, ◌<◌, ◌≤◌, Bool, true, false, List, [], ◌∷◌, ◌++◌, length, map, Option, Some, None, option_map, arith, append_assoc, append-nil, length-append}
use Rattle.std.specs.Prelude.{◌==◌, nat_le, if◌then◌else◌}
use Rattle.std.specs.List.{AllByRecursion, flat_map}
use Rattle.std.specs.Option.{option_and_then}
use Rattle.std.proofs.Math.Path.{fun_ext}
use Rattle.std.proofs.lemmas.Bool.{eqb-true, leb-false, leb-true}
use Rattle.std.proofs.lemmas.List.Concat.{flat_map-cons}
use Rattle.keyset_model.specs.Keyset.{Keys}
use Rattle.managers.specs.Table.{Table}
use Rattle.tinkey_session.proofs.CutLemmas.{lines-some, lines_go_on, long_first, no_newline, no_newline-more, one_line}
use Rattle.tinkey_session.proofs.TalkLemmas.{byte_by, over-stopped}
use Rattle.tinkey_session.specs.Lines.{Line, line_of}
use Rattle.tinkey_session.specs.Saving.{FileAsked, Resolves, as_read, files_of, resolved}
use Rattle.tinkey_session.specs.Serving.{Served, serve}
use Rattle.tinkey_session.specs.Session.{Remains, Turn, lines_by, lines_of, lines_then, remains, turn_then, turns}
use Rattle.tinkey_session.specs.TalkLaws.{IsTurnsOf, SavesAreTurns, TalkIsTurns, replies_text}
use Rattle.tinkey_session.specs.Talking.{unsaved_after, Limit, many_lines, long_line, Stop, goes, wants, passes, Talk, Replies, answers_by, replied, line_ended, byte_taken, line_limit, count_limit, on_go, over, last_line, finish, going, talk, talk_by, with_files}
use Rattle.tinkey_session.specs.Texts.{reply_text}

-- what IsTurns says, of a session that has come to a line, with so many lines and such replies before
record AreTurns (table : Table) (resolve : Resolves) (keys : Keys) (before : ℕ) (told : List ℕ) (first : List FileAsked) (unsaved : Bool) (random text : List ℕ) (ended : Bool) (x : Talk) : Type 0 where
  answered : List (List ℕ)
  later : List (List ℕ)
  cut : lines_of text ≡ answered ++ later
  count : x.count ≡ before + length answered
  output : x.output ≡ told ++ replies_text (turns table keys (lines_by table resolve first unsaved keys (map line_of answered) random) random)
  asked : x.asked ≡ first ++ flat_map files_of (lines_by table resolve first unsaved keys (map line_of answered) random)
  whole : length (turns table keys (lines_by table resolve first unsaved keys (map line_of answered) random) random) ≡ length answered
  last : Remains
  remains' : remains table keys (lines_by table resolve first unsaved keys (map line_of answered) random) random ≡ Some last
  keys' : last.keys ≡ x.keys
  left : x.stop ≢ wants → last.left ≡ x.random
  all : x.stop ≡ goes → later ≡ (if ended then [] else lines_of x.line)
  few : before + length answered ≤ count_limit
  short : AllByRecursion (λ line. length line ≤ line_limit) answered
  many : x.stop ≡ passes many_lines → (before + length answered ≡ count_limit) × (later ≢ [])
  long : x.stop ≡ passes long_line → (line : List ℕ) × (rest : List (List ℕ)) × (later ≡ line ∷ rest) × (line_limit < length line)

-- ---- stops

goes≢passes : (limit : Limit) → goes ≢ passes limit
goes≢passes limit e = cc

wants≢goes : wants ≢ goes
wants≢goes e = cc

wants≢passes : (limit : Limit) → wants ≢ passes limit
wants≢passes limit e = cc

passes≢goes : (limit : Limit) → passes limit ≢ goes
passes≢goes limit e = cc

many≢long : passes many_lines ≢ passes long_line
many≢long e = cc

long≢many : passes long_line ≢ passes many_lines
long≢many e = cc

finish-stopped : (give : Replies) (ended : Bool) (x : Talk) → x.stop ≢ goes → finish give ended x ≡ x
finish-stopped give false x never = refl
finish-stopped give true x never = by x.stop never
  where
    by : (t : Stop) → t ≢ goes → on_go t x (last_line give x.line x) ≡ x
    by goes never = absurd (never refl)
    by wants never = refl
    by (passes limit) never = refl

stays : (give : Replies) (ended : Bool) (x : Talk) (bytes : List ℕ) → x.stop ≢ goes → finish give ended (over give x bytes) ≡ x
stays give ended x bytes never = ap (finish give ended) (over-stopped give x bytes never) ∙ finish-stopped give ended x never

-- ---- a line

none_answered : (table : Table) (resolve : Resolves) (keys : Keys) (before : ℕ) (told : List ℕ) (first : List FileAsked) (unsaved : Bool) (random text : List ℕ) (ended : Bool) (x : Talk) → x.count ≡ before → x.output ≡ told → x.asked ≡ first → x.keys ≡ keys → (x.stop ≢ wants → x.random ≡ random) → before ≤ count_limit
    → (x.stop ≡ goes → lines_of text ≡ (if ended then [] else lines_of x.line))
    → (x.stop ≡ passes many_lines → (before ≡ count_limit) × (lines_of text ≢ []))
    → (x.stop ≡ passes long_line → (line : List ℕ) × (rest : List (List ℕ)) × (lines_of text ≡ line ∷ rest) × (line_limit < length line))
    → AreTurns table resolve keys before told first unsaved random text ended x
unfolding turns remains lines_by
none_answered table resolve keys before told first unsaved random text ended x count output asked same left few all many long = record {
  answered = [];
  later = lines_of text;
  cut = refl;
  count = omega (arith, count);
  output = output ∙ sym (append-nil told);
  asked = asked ∙ sym (append-nil first);
  whole = refl;
  last = record { keys = keys; left = random };
  remains' = refl;
  keys' = sym same;
  left = λ never. sym (left never);
  all = all;
  few = omega (arith, few);
  short = tt;
  many = λ is. let both = many is in let at = both.0 in (omega (arith, at), both.1);
  long = long;
}

-- the lines behind one that is answered
lines_on : (table : Table) (resolve : Resolves) (first : List FileAsked) (unsaved : Bool) (keys : Keys) (line : Line) (later : List Line) (random : List ℕ) (s : Served) → serve table keys (resolve first unsaved keys random line) random ≡ Some s
    → lines_by table resolve first unsaved keys (line ∷ later) random ≡ resolve first unsaved keys random line ∷ lines_by table resolve (first ++ files_of (resolve first unsaved keys random line)) (unsaved_after unsaved (resolve first unsaved keys random line) s.reply) s.keys later s.left
unfolding lines_by
lines_on table resolve first unsaved keys line later random s e =
    ap (λ o. resolve first unsaved keys random line ∷ lines_then later o (λ y. lines_by table resolve (first ++ files_of (resolve first unsaved keys random line)) (unsaved_after unsaved (resolve first unsaved keys random line) y.reply) y.keys later y.left)) e

one_answered : (table : Table) (resolve : Resolves) (keys : Keys) (before : ℕ) (told : List ℕ) (first : List FileAsked) (unsaved : Bool) (random line text rest : List ℕ) (ended : Bool) (x : Talk) (s : Served) → serve table keys (resolve first unsaved keys random (line_of line)) random ≡ Some s → lines_of text ≡ line ∷ lines_of rest → length line ≤ line_limit
    → AreTurns table resolve s.keys (suc before) (told ++ reply_text s.reply) (first ++ files_of (resolve first unsaved keys random (line_of line))) (unsaved_after unsaved (resolve first unsaved keys random (line_of line)) s.reply) s.left rest ended x → AreTurns table resolve keys before told first unsaved random text ended x
unfolding turns remains
one_answered table resolve keys before told first unsaved random line text rest ended x s e cut short a =
    let asks = resolve first unsaved keys random (line_of line) in
    let turn : Turn = record { before = keys; line = asks; reply = s.reply } in
    let later : List Line = lines_by table resolve (first ++ files_of asks) (unsaved_after unsaved asks s.reply) s.keys (map line_of a.answered) s.left in
    let behind = turns table s.keys later s.left in
    let lines : lines_by table resolve first unsaved keys (map line_of (line ∷ a.answered)) random ≡ asks ∷ later = lines_on table resolve first unsaved keys (line_of line) (map line_of a.answered) random s e in
    let all : turns table keys (lines_by table resolve first unsaved keys (map line_of (line ∷ a.answered)) random) random ≡ turn ∷ behind = ap (λ ls. turns table keys ls random) lines ∙ ap (λ o. turn_then keys asks o (λ y. turns table y.keys later y.left)) e in
    let count = a.count in
    let few = a.few in
    record {
      answered = line ∷ a.answered;
      later = a.later;
      cut = cut ∙ ap (λ ls. line ∷ ls) a.cut;
      count = omega (arith, count);
      output = a.output ∙ append_assoc told (reply_text s.reply) (replies_text behind) ∙ ap (λ l. told ++ l) (sym (flat_map-cons (λ t. reply_text t.reply) turn behind)) ∙ ap (λ ts. told ++ replies_text ts) (sym all);
      asked = a.asked ∙ append_assoc first (files_of asks) (flat_map files_of later) ∙ ap (λ l. first ++ l) (sym (flat_map-cons files_of asks later)) ∙ ap (λ ls. first ++ flat_map files_of ls) (sym lines);
      whole = ap length all ∙ ap suc a.whole;
      last = a.last;
      remains' = ap (λ ls. remains table keys ls random) lines ∙ ap (option_and_then (λ y. remains table y.keys later y.left)) e ∙ a.remains';
      keys' = a.keys';
      left = a.left;
      all = a.all;
      few = omega (arith, few);
      short = (short, a.short);
      many = λ is. let both = a.many is in let at = both.0 in (omega (arith, at), both.1);
      long = a.long;
    }

-- a line wants more random bytes
wanting : (table : Table) (resolve : Resolves) (keys : Keys) (line : List ℕ) (before : ℕ) (told : List ℕ) (first : List FileAsked) (unsaved : Bool) (random text : List ℕ) (ended : Bool) → before ≤ count_limit
    → AreTurns table resolve keys before told first unsaved random text ended (record (going keys line before unsaved told first random) { random = []; stop = wants })
wanting table resolve keys line before told first unsaved random text ended few =
    none_answered table resolve keys before told first unsaved random text ended (record (going keys line before unsaved told first random) { random = []; stop = wants }) refl refl refl refl (λ never. absurd (never refl)) few
    (λ is. absurd (wants≢goes is)) (λ is. absurd (wants≢passes many_lines is)) (λ is. absurd (wants≢passes long_line is))

-- ---- the end of the bytes

ended_turns : (table : Table) (resolve : Resolves) (keys : Keys) (line : List ℕ) (before : ℕ) (told : List ℕ) (first : List FileAsked) (unsaved : Bool) (random : List ℕ) → no_newline line ≡ true → (0 < length line → before < count_limit) → before ≤ count_limit → length line ≤ line_limit
    → AreTurns table resolve keys before told first unsaved random line true (last_line (answers_by table resolve) line (going keys line before unsaved told first random))
unfolding lines_of
ended_turns table resolve keys [] before told first unsaved random none room few short =
    none_answered table resolve keys before told first unsaved random [] true (going keys [] before unsaved told first random) refl refl refl refl (λ never. refl) few
    (λ is. refl) (λ is. absurd (goes≢passes many_lines is)) (λ is. absurd (goes≢passes long_line is))
ended_turns table resolve keys (b ∷ bytes) before told first unsaved random none room few short = by (serve table keys (resolve first unsaved keys random (line_of (b ∷ bytes))) random) refl
  where
    by : (o : Option Served) → serve table keys (resolve first unsaved keys random (line_of (b ∷ bytes))) random ≡ o → AreTurns table resolve keys before told first unsaved random (b ∷ bytes) true (replied (going keys (b ∷ bytes) before unsaved told first random) (option_map (with_files unsaved (resolve first unsaved keys random (line_of (b ∷ bytes)))) o))
    by None e = wanting table resolve keys (b ∷ bytes) before told first unsaved random (b ∷ bytes) true few
    by (Some s) e =
        let fits = room (omega arith) in
        one_answered table resolve keys before told first unsaved random (b ∷ bytes) (b ∷ bytes) [] true _ s e (one_line (b ∷ bytes) none (omega arith)) short
        (none_answered table resolve s.keys (suc before) (told ++ reply_text s.reply) (first ++ files_of (resolve first unsaved keys random (line_of (b ∷ bytes)))) (unsaved_after unsaved (resolve first unsaved keys random (line_of (b ∷ bytes))) s.reply) s.left [] true (going s.keys [] (suc before) (unsaved_after unsaved (resolve first unsaved keys random (line_of (b ∷ bytes))) s.reply) (told ++ reply_text s.reply) (first ++ files_of (resolve first unsaved keys random (line_of (b ∷ bytes)))) s.left) refl refl refl refl (λ never. refl) (omega (arith, fits))
        (λ is. refl) (λ is. absurd (goes≢passes many_lines is)) (λ is. absurd (goes≢passes long_line is)))

finished_turns : (table : Table) (resolve : Resolves) (ended : Bool) (keys : Keys) (line : List ℕ) (before : ℕ) (told : List ℕ) (first : List FileAsked) (unsaved : Bool) (random : List ℕ) → no_newline line ≡ true → (0 < length line → before < count_limit) → before ≤ count_limit → length line ≤ line_limit
    → AreTurns table resolve keys before told first unsaved random line ended (finish (answers_by table resolve) ended (going keys line before unsaved told first random))
finished_turns table resolve true keys line before told first unsaved random none room few short = ended_turns table resolve keys line before told first unsaved random none room few short
finished_turns table resolve false keys line before told first unsaved random none room few short =
    none_answered table resolve keys before told first unsaved random line false (going keys line before unsaved told first random) refl refl refl refl (λ never. refl) few
    (λ is. refl) (λ is. absurd (goes≢passes many_lines is)) (λ is. absurd (goes≢passes long_line is))

-- ---- a byte

-- what is proved of the bytes that follow
abbrev Follows : Table → Resolves → Bool → List ℕ → Type 0
Follows table resolve ended bytes = (keys : Keys) (line : List ℕ) (before : ℕ) (told : List ℕ) (first : List FileAsked) (unsaved : Bool) (random : List ℕ) → no_newline line ≡ true → (0 < length line → before < count_limit) → before ≤ count_limit → length line ≤ line_limit
    → AreTurns table resolve keys before told first unsaved random (line ++ bytes) ended (finish (answers_by table resolve) ended (over (answers_by table resolve) (going keys line before unsaved told first random) bytes))

newline_turns : (table : Table) (resolve : Resolves) (ended : Bool) (b : ℕ) (bytes : List ℕ) → Follows table resolve ended bytes → (keys : Keys) (line : List ℕ) (before : ℕ) (told : List ℕ) (first : List FileAsked) (unsaved : Bool) (random : List ℕ) → no_newline line ≡ true → before < count_limit → length line ≤ line_limit → b ≡ 10
    → AreTurns table resolve keys before told first unsaved random (line ++ b ∷ bytes) ended (finish (answers_by table resolve) ended (over (answers_by table resolve) (line_ended (answers_by table resolve) (going keys line before unsaved told first random)) bytes))
newline_turns table resolve ended b bytes follows keys line before told first unsaved random none fits short is = by (serve table keys (resolve first unsaved keys random (line_of line)) random) refl
  where
    by : (o : Option Served) → serve table keys (resolve first unsaved keys random (line_of line)) random ≡ o → AreTurns table resolve keys before told first unsaved random (line ++ b ∷ bytes) ended (finish (answers_by table resolve) ended (over (answers_by table resolve) (replied (going keys line before unsaved told first random) (option_map (with_files unsaved (resolve first unsaved keys random (line_of line))) o)) bytes))
    by None e =
        let x : Talk = record (going keys line before unsaved told first random) { random = []; stop = wants } in
        subst (AreTurns table resolve keys before told first unsaved random (line ++ b ∷ bytes) ended) (sym (stays (answers_by table resolve) ended x bytes wants≢goes)) (wanting table resolve keys line before told first unsaved random (line ++ b ∷ bytes) ended (omega (arith, fits)))
    by (Some s) e =
        one_answered table resolve keys before told first unsaved random line (line ++ b ∷ bytes) bytes ended _ s e (ap (λ c. lines_of (line ++ c ∷ bytes)) is ∙ lines_go_on line bytes none) short
        (follows s.keys [] (suc before) (told ++ reply_text s.reply) (first ++ files_of (resolve first unsaved keys random (line_of line))) (unsaved_after unsaved (resolve first unsaved keys random (line_of line)) s.reply) s.left refl (λ some. absurd (omega (arith, some))) (omega (arith, fits)) (omega arith))

byte_turns : (table : Table) (resolve : Resolves) (ended : Bool) (b : ℕ) (bytes : List ℕ) → Follows table resolve ended bytes → (keys : Keys) (line : List ℕ) (before : ℕ) (told : List ℕ) (first : List FileAsked) (unsaved : Bool) (random : List ℕ) → no_newline line ≡ true → before ≤ count_limit → length line ≤ line_limit
    → AreTurns table resolve keys before told first unsaved random (line ++ b ∷ bytes) ended (finish (answers_by table resolve) ended (over (answers_by table resolve) (byte_taken (answers_by table resolve) (going keys line before unsaved told first random) b) bytes))
byte_turns table resolve ended b bytes follows keys line before told first unsaved random none few short = by (nat_le count_limit before) refl (b == 10) refl (nat_le line_limit (length line)) refl
  where
    text : List ℕ
    text = line ++ b ∷ bytes

    same : (line ++ b ∷ []) ++ bytes ≡ text
    same = append_assoc line (b ∷ []) bytes

    by : (many : Bool) → nat_le count_limit before ≡ many → (ends : Bool) → (b == 10) ≡ ends → (long : Bool) → nat_le line_limit (length line) ≡ long
        → AreTurns table resolve keys before told first unsaved random text ended (finish (answers_by table resolve) ended (over (answers_by table resolve) (byte_by many ends long (answers_by table resolve) (going keys line before unsaved told first random) b) bytes))
    by true m ends n long l =
        let x : Talk = record (going keys line before unsaved told first random) { stop = passes many_lines } in
        let least = leb-true _ _ m in
        subst (AreTurns table resolve keys before told first unsaved random text ended) (sym (stays (answers_by table resolve) ended x bytes (passes≢goes many_lines)))
        (none_answered table resolve keys before told first unsaved random text ended x refl refl refl refl (λ never. refl) few (λ is. absurd (passes≢goes many_lines is))
        (λ is. (omega (arith, least, few), lines-some text (omega (arith, length-append line (b ∷ bytes))))) (λ is. absurd (many≢long is)))
    by false m true n long l = newline_turns table resolve ended b bytes follows keys line before told first unsaved random none (leb-false _ _ m) short (eqb-true _ _ n)
    by false m false n true l =
        let x : Talk = record (going keys line before unsaved told first random) { stop = passes long_line } in
        let least = leb-true _ _ l in
        let found = long_first (line ++ b ∷ []) bytes (no_newline-more line b none n) (omega (arith, length-append line (b ∷ []))) in
        let size = found.3 in
        subst (AreTurns table resolve keys before told first unsaved random text ended) (sym (stays (answers_by table resolve) ended x bytes (passes≢goes long_line)))
        (none_answered table resolve keys before told first unsaved random text ended x refl refl refl refl (λ never. refl) few (λ is. absurd (passes≢goes long_line is)) (λ is. absurd (long≢many is))
        (λ is. (found.0, found.1, sym (ap lines_of same) ∙ found.2, omega (arith, size, least, length-append line (b ∷ [])))))
    by false m false n false l =
        let fits = leb-false _ _ m in
        let less = leb-false _ _ l in
        subst (λ t. AreTurns table resolve keys before told first unsaved random t ended (finish (answers_by table resolve) ended (over (answers_by table resolve) (going keys (line ++ b ∷ []) before unsaved told first random) bytes))) same
        (follows keys (line ++ b ∷ []) before told first unsaved random (no_newline-more line b none n) (λ some. fits) few (omega (arith, less, length-append line (b ∷ []))))

-- ---- all bytes

taken_turns : (table : Table) (resolve : Resolves) (ended : Bool) (taken : List ℕ) → Follows table resolve ended taken
unfolding over
taken_turns table resolve ended [] keys line before told first unsaved random none room few short =
    subst (λ t. AreTurns table resolve keys before told first unsaved random t ended (finish (answers_by table resolve) ended (going keys line before unsaved told first random))) (sym (append-nil line))
    (finished_turns table resolve ended keys line before told first unsaved random none room few short)
taken_turns table resolve ended (b ∷ bytes) keys line before told first unsaved random none room few short = byte_turns table resolve ended b bytes (taken_turns table resolve ended bytes) keys line before told first unsaved random none few short

from_beginning : (table : Table) (resolve : Resolves) (keys : Keys) (taken random : List ℕ) (ended : Bool) (x : Talk) → AreTurns table resolve keys 0 [] [] false random taken ended x → IsTurnsOf table (λ answered. lines_by table resolve [] false keys (map line_of answered) random) keys taken random ended x
from_beginning table resolve keys taken random ended x a =
    let count = a.count in
    let few = a.few in
    record {
      answered = a.answered;
      later = a.later;
      cut = a.cut;
      count = omega (arith, count);
      output = a.output;
      asked = a.asked;
      whole = a.whole;
      last = a.last;
      remains' = a.remains';
      keys' = a.keys';
      left = a.left;
      all = a.all;
      few = omega (arith, few);
      short = a.short;
      many = λ is. let both = a.many is in let at = both.0 in (omega (arith, at), both.1);
      long = a.long;
    }

resolved_turns : (table : Table) (resolve : Resolves) (keys : Keys) (taken random : List ℕ) (ended : Bool) → IsTurnsOf table (λ answered. lines_by table resolve [] false keys (map line_of answered) random) keys taken random ended (talk_by (answers_by table resolve) keys taken random ended)
resolved_turns table resolve keys taken random ended =
    from_beginning table resolve keys taken random ended (talk_by (answers_by table resolve) keys taken random ended)
    (taken_turns table resolve ended taken keys [] 0 [] [] false random refl (λ some. absurd (omega (arith, some))) (omega arith) (omega arith))

pub saves_are_turns : SavesAreTurns
saves_are_turns table form answers keys taken random ended = resolved_turns table (resolved form answers) keys taken random ended

-- lines as they are read
read_lines : (table : Table) (first : List FileAsked) (unsaved : Bool) (keys : Keys) (lines : List Line) (random : List ℕ) → lines_by table as_read first unsaved keys lines random ≡ lines
unfolding lines_by
read_lines table first unsaved keys [] random = refl
read_lines table first unsaved keys (line ∷ later) random =
    ap (λ ls. line ∷ ls) (by (λ s. read_lines table (first ++ files_of line) (unsaved_after unsaved line s.reply) s.keys later s.left) (serve table keys line random))
  where
    by : ((s : Served) → lines_by table as_read (first ++ files_of line) (unsaved_after unsaved line s.reply) s.keys later s.left ≡ later)
        → (o : Option Served) → lines_then later o (λ s. lines_by table as_read (first ++ files_of line) (unsaved_after unsaved line s.reply) s.keys later s.left) ≡ later
    by behind None = refl
    by behind (Some s) = behind s

pub talk_is_turns : TalkIsTurns
talk_is_turns table keys taken random ended =
    subst (λ ask. IsTurnsOf table ask keys taken random ended (talk table keys taken random ended))
    (fun_ext (λ answered. read_lines table [] false keys (map line_of answered) random))
    (resolved_turns table as_read keys taken random ended)
