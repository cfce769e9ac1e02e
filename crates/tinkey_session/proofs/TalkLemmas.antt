-- The session byte by byte, over any bytes.
use Rattle.std.proofs.Common.{◌≡◌, ◌≢◌, ◌∙◌, refl, sym, ap, ℕ, ◌≤◌, Bool, true, false, List, [], ◌∷◌, ◌++◌, length, drop, Option, Some, None, option_map, append_assoc}
use Rattle.std.specs.Prelude.{◌&&◌, ◌==◌, nat_le, nat_lt, if◌then◌else◌}
use Rattle.std.specs.Result.{result_ok}
use Rattle.std.proofs.lemmas.Bool.{ltb-false}
use Rattle.std.proofs.lemmas.List.{take-append-le}
use Rattle.keyset_model.specs.Keyset.{Keys}
use Rattle.managers.specs.Table.{Table}
use Rattle.tinkey_session.proofs.DrawLemmas.{lines_draw_fronts}
use Rattle.tinkey_session.proofs.Options.{clash, map_some}
use Rattle.tinkey_session.specs.Lines.{Line, Seal, Dseal, Open, Dopen, Reseal, Dreseal, Tag, Verify, Derive, Edit, Save, Outcome, Bad, line_of}
use Rattle.tinkey_session.specs.Saving.{FileAsked, Form, StoreAnswers, iv_drawn, outcome_of, resolved, unless_unsaved, why_of}
use Rattle.tinkey_session.specs.Serving.{Served, answered, saved_reply, serve}
use Rattle.tinkey_session.specs.TalkLaws.{SavesAreSteady, TalksAreSteady}
use Rattle.tinkey_session.specs.Talking.{Limit, many_lines, long_line, Stop, goes, wants, passes, Talk, replied, line_ended, byte_taken, line_limit, count_limit, on_go, over, last_line, finish, going, AreSettled, Given, Replies, by_lines, given_more, gives, saving, talk_by, with_files}
use Rattle.tinkey_session.specs.Talks.{IsSteady}
use Rattle.tinkey_session.specs.declared.reply.LineRefusal.{LineRefusal}

-- ---- more random bytes behind

abbrev pub with_more : List ℕ → Talk → Talk
with_more more x = record x { random = x.random ++ more }

replied_more : (x : Talk) (more : List ℕ) (o p : Option Given) → ((g : Given) → o ≡ Some g → p ≡ Some (given_more more g)) → (replied x o).stop ≢ wants → replied (with_more more x) p ≡ with_more more (replied x o)
replied_more x more None p stays never = absurd (never refl)
replied_more x more (Some s) p stays never = ap (replied (with_more more x)) (stays s refl)

pub ended_more : (give : Replies) → AreSettled give → (x : Talk) (more : List ℕ) → (line_ended give x).stop ≢ wants → line_ended give (with_more more x) ≡ with_more more (line_ended give x)
ended_more give settled x more never = replied_more x more _ _ (settled x.asked x.unsaved x.keys x.line x.random more) never

-- a byte by the outcomes of its three tests
abbrev pub byte_by : (many ends long : Bool) → Replies → Talk → ℕ → Talk
byte_by many ends long give x b =
    if many then record x { stop = passes many_lines }
    else (if ends then line_ended give x
    else (if long then record x { stop = passes long_line }
    else record x { line = x.line ++ b ∷ [] }))

byte_more : (give : Replies) → AreSettled give → (x : Talk) (more : List ℕ) (b : ℕ) → (byte_taken give x b).stop ≢ wants → byte_taken give (with_more more x) b ≡ with_more more (byte_taken give x b)
byte_more give settled x more b = by (nat_le count_limit x.count) (b == 10) (nat_le line_limit (length x.line))
  where
    by : (many ends long : Bool) → (byte_by many ends long give x b).stop ≢ wants → byte_by many ends long give (with_more more x) b ≡ with_more more (byte_by many ends long give x b)
    by true ends long never = refl
    by false true long never = ended_more give settled x more never
    by false false true never = refl
    by false false false never = refl

on_go-more : (t : Stop) (x next : Talk) (more : List ℕ) (next_more : Talk) → (next.stop ≢ wants → next_more ≡ with_more more next) → (on_go t x next).stop ≢ wants → on_go t (with_more more x) next_more ≡ with_more more (on_go t x next)
on_go-more goes x next more next_more is never = is never
on_go-more wants x next more next_more is never = refl
on_go-more (passes limit) x next more next_more is never = refl

-- a session that is stopped stays as it is
pub over-stopped : (give : Replies) (x : Talk) (bytes : List ℕ) → x.stop ≢ goes → over give x bytes ≡ x
unfolding over
over-stopped give x [] never = refl
over-stopped give x (b ∷ bytes) never = ap (λ y. over give y bytes) (still x.stop never) ∙ over-stopped give x bytes never
  where
    still : (t : Stop) → t ≢ goes → on_go t x (byte_taken give x b) ≡ x
    still goes never = absurd (never refl)
    still wants never = refl
    still (passes limit) never = refl

wants≢goes : wants ≢ goes
wants≢goes e = cc

passes≢goes : (limit : Limit) → passes limit ≢ goes
passes≢goes limit e = cc

before_more : (give : Replies) (x : Talk) (bytes : List ℕ) → (over give x bytes).stop ≢ wants → x.stop ≢ wants
before_more give x bytes never e = never (ap (λ y. y.stop) (over-stopped give x bytes (λ g. wants≢goes (sym e ∙ g))) ∙ e)

pub over-more : (give : Replies) → AreSettled give → (x : Talk) (more bytes : List ℕ) → (over give x bytes).stop ≢ wants → over give (with_more more x) bytes ≡ with_more more (over give x bytes)
unfolding over
over-more give settled x more [] never = refl
over-more give settled x more (b ∷ bytes) never =
    let next = on_go x.stop x (byte_taken give x b) in
    ap (λ y. over give y bytes) (on_go-more x.stop x (byte_taken give x b) more (byte_taken give (with_more more x) b) (byte_more give settled x more b) (before_more give next bytes never))
    ∙ over-more give settled next more bytes never

pub over-append : (give : Replies) (x : Talk) (a b : List ℕ) → over give x (a ++ b) ≡ over give (over give x a) b
unfolding over
over-append give x [] b = refl
over-append give x (c ∷ a) b = over-append give (on_go x.stop x (byte_taken give x c)) a b

last-more : (give : Replies) → AreSettled give → (line : List ℕ) (x : Talk) (more : List ℕ) → (last_line give line x).stop ≢ wants → last_line give line (with_more more x) ≡ with_more more (last_line give line x)
last-more give settled [] x more never = refl
last-more give settled (b ∷ bytes) x more never = ended_more give settled x more never

pub finish-more : (give : Replies) → AreSettled give → (ended : Bool) (x : Talk) (more : List ℕ) → (finish give ended x).stop ≢ wants → finish give ended (with_more more x) ≡ with_more more (finish give ended x)
finish-more give settled false x more never = refl
finish-more give settled true x more never = on_go-more x.stop x (last_line give x.line x) more (last_line give x.line (with_more more x)) (last-more give settled x.line x more) never

finish-wants : (give : Replies) (ended : Bool) (x : Talk) → (finish give ended x).stop ≢ wants → x.stop ≢ wants
finish-wants give false x never e = never e
finish-wants give true x never e = never (ap (λ t. (on_go t x (last_line give x.line x)).stop) e ∙ e)

talk-more : (give : Replies) → AreSettled give → (keys : Keys) (taken drawn more : List ℕ) (ended : Bool) → (talk_by give keys taken drawn ended).stop ≢ wants → talk_by give keys taken (drawn ++ more) ended ≡ with_more more (talk_by give keys taken drawn ended)
talk-more give settled keys taken drawn more ended never =
    let x = over give (going keys [] 0 false [] [] drawn) taken in
    ap (finish give ended) (over-more give settled (going keys [] 0 false [] [] drawn) more taken (finish-wants give ended x never)) ∙ finish-more give settled ended x more never

-- past a limit nothing matters
talk-lasts : (give : Replies) (keys : Keys) (taken more drawn : List ℕ) (limit : Limit) → (talk_by give keys taken drawn false).stop ≡ passes limit → talk_by give keys (taken ++ more) drawn true ≡ talk_by give keys taken drawn false
talk-lasts give keys taken more drawn limit is =
    let x = over give (going keys [] 0 false [] [] drawn) taken in
    ap (finish give true) (over-append give (going keys [] 0 false [] [] drawn) taken more ∙ over-stopped give x more (λ g. passes≢goes limit (sym is ∙ g)))
    ∙ ap (λ t. on_go t x (last_line give x.line x)) is

pub steady_by : (give : Replies) → AreSettled give → (keys : Keys) → IsSteady (talk_by give keys)
steady_by give settled keys = record { random = talk-more give settled keys; lasts = talk-lasts give keys }

-- a line is settled by the random bytes that it draws
pub serve_more : (table : Table) (keys : Keys) (line : Line) (random more : List ℕ) (s : Served) → serve table keys line random ≡ Some s → serve table keys line (random ++ more) ≡ Some (record s { left = s.left ++ more })
serve_more table keys line random more s e =
    let front = lines_draw_fronts table keys line random s e in
    ap (λ l. serve table keys line (l ++ more)) front.1 ∙ ap (serve table keys line) (append_assoc front.0 s.left more) ∙ front.2 (s.left ++ more)

gives_more : (table : Table) (unsaved : Bool) (keys : Keys) (line : Line) (random more : List ℕ) (g : Given) → gives table unsaved keys line random ≡ Some g → gives table unsaved keys line (random ++ more) ≡ Some (given_more more g)
gives_more table unsaved keys line random more g e =
    let there = map_some (with_files unsaved line) (serve table keys line random) g e in
    ap (option_map (with_files unsaved line)) (serve_more table keys line random more there.0 there.1) ∙ ap (λ x. Some (given_more more x)) there.2

pub lines_settled : (table : Table) → AreSettled (by_lines table)
lines_settled table before unsaved keys line random more g e = gives_more table unsaved keys (line_of line) random more g e

-- ---- in a session that saves

-- a save takes its IV of bytes that suffice
pub same_outcome : (form : Form) (keys : Keys) (random more : List ℕ) (why : Option LineRefusal) → iv_drawn form keys ≤ length random → outcome_of form keys (random ++ more) why ≡ outcome_of form keys random why
same_outcome form keys random more why le =
    ap (λ iv. record { size = form.size keys; why = why_of why (form.written keys iv); file = result_ok (form.written keys iv) }) (take-append-le (iv_drawn form keys) random more le)

pub save_reaches : (table : Table) (form : Form) (unsaved : Bool) (keys : Keys) (name random : List ℕ) (why : Option LineRefusal) (g : Given) → gives table unsaved keys (Save name (outcome_of form keys random why)) random ≡ Some g → iv_drawn form keys ≤ length random
unfolding serve
save_reaches table form unsaved keys name random why g e = by (nat_lt (length random) (iv_drawn form keys)) refl e
  where
    outcome : Outcome
    outcome = outcome_of form keys random why

    by : (b : Bool) → nat_lt (length random) (iv_drawn form keys) ≡ b
        → option_map (with_files unsaved (Save name outcome)) (if b then None else Some (answered keys (drop (iv_drawn form keys) random) (saved_reply outcome.why))) ≡ Some g
        → iv_drawn form keys ≤ length random
    by true t k = clash k
    by false t k = ltb-false _ _ t

line_more : (table : Table) (form : Form) (answers : StoreAnswers) (before : List FileAsked) (unsaved : Bool) (keys : Keys) (line : Line) (random more : List ℕ) (g : Given)
    → gives table unsaved keys (resolved form answers before unsaved keys random line) random ≡ Some g
    → gives table unsaved keys (resolved form answers before unsaved keys (random ++ more) line) (random ++ more) ≡ Some (given_more more g)
line_more table form answers before unsaved keys (Save name outcome) random more g e =
    ap (λ o. gives table unsaved keys (Save name o) (random ++ more)) (same_outcome form keys random more (answers before name) (save_reaches table form unsaved keys name random (answers before name) g e))
    ∙ gives_more table unsaved keys (Save name (outcome_of form keys random (answers before name))) random more g e
line_more table form answers before unsaved keys (Seal plain ad) random more g e = gives_more table unsaved keys (unless_unsaved (form.saved_only && unsaved) (Seal plain ad)) random more g e
line_more table form answers before unsaved keys (Dseal plain ad) random more g e = gives_more table unsaved keys (unless_unsaved (form.saved_only && unsaved) (Dseal plain ad)) random more g e
line_more table form answers before unsaved keys (Open sealed ad) random more g e = gives_more table unsaved keys (Open sealed ad) random more g e
line_more table form answers before unsaved keys (Dopen sealed ad) random more g e = gives_more table unsaved keys (Dopen sealed ad) random more g e
line_more table form answers before unsaved keys (Reseal sealed ad) random more g e = gives_more table unsaved keys (unless_unsaved (form.saved_only && unsaved) (Reseal sealed ad)) random more g e
line_more table form answers before unsaved keys (Dreseal sealed ad) random more g e = gives_more table unsaved keys (unless_unsaved (form.saved_only && unsaved) (Dreseal sealed ad)) random more g e
line_more table form answers before unsaved keys (Tag body) random more g e = gives_more table unsaved keys (unless_unsaved (form.saved_only && unsaved) (Tag body)) random more g e
line_more table form answers before unsaved keys (Verify tag body) random more g e = gives_more table unsaved keys (Verify tag body) random more g e
line_more table form answers before unsaved keys (Derive size input) random more g e = gives_more table unsaved keys (Derive size input) random more g e
line_more table form answers before unsaved keys (Edit edit) random more g e = gives_more table unsaved keys (Edit edit) random more g e
line_more table form answers before unsaved keys (Bad why) random more g e = gives_more table unsaved keys (Bad why) random more g e

pub saving_settled : (table : Table) (form : Form) (answers : StoreAnswers) → AreSettled (saving table form answers)
saving_settled table form answers before unsaved keys line random more g e = line_more table form answers before unsaved keys (line_of line) random more g e

pub talks_are_steady : TalksAreSteady
talks_are_steady table keys = steady_by (by_lines table) (lines_settled table) keys

pub saves_are_steady : SavesAreSteady
saves_are_steady table form answers keys = steady_by (saving table form answers) (saving_settled table form answers) keys
