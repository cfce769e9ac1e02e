-- What a session in a run drew: the slices of the lines that it answered.
use Rattle.std.proofs.Common.{◌≡◌, ◌∙◌, refl, sym, ap, subst, ℕ, ◌+◌, ◌≤◌, Bool, false, List, [], ◌++◌, length, drop, map, arith}
use Rattle.std.proofs.lemmas.List.{append-nil, append_assoc, length-append}
use Rattle.keyset_model.specs.Keyset.{Keys}
use Rattle.managers.specs.Table.{Table}
use Rattle.random_draws.proofs.OrderLemmas.{order-moved}
use Rattle.random_draws.proofs.SessionLemmas.{follow-slices, slices-within}
use Rattle.random_draws.specs.Runs.{AreInOrder, IsSaving, SessionDrew, lines_drawn, moved_by}
use Rattle.random_draws.specs.Sessions.{SlicesAreSettled}
use Rattle.random_draws.specs.Slices.{Slice, size_of, slices}
use Rattle.tinkey_plans.specs.Promises.{HasReplied, IsTalkLeft, Moved, talk_passed, talk_starved, talk_undrawn, talk_unread, talk_unwritten}
use Rattle.tinkey_plans.specs.declared.status.Status.{Status}
use Rattle.tinkey_session.specs.Lines.{Line, line_of}
use Rattle.tinkey_session.proofs.SavedLemmas.{lines_more}
use Rattle.tinkey_session.specs.Saving.{Form, Resolves, StoreAnswers, resolved}
use Rattle.tinkey_session.specs.Session.{lines_by, turns}
use Rattle.tinkey_session.specs.TalkLaws.{SavesAreTurns, replies_text}
use Rattle.tinkey_session.specs.Talking.{Exchange, Stop, saving, talk_by}

-- the slices of a session, among the bytes that the run drew
abbrev pub DrewWithin : (stream : List ℕ) (place : ℕ) → Table → Resolves → Keys → Moved → Type 0
DrewWithin stream place table resolve keys moved =
    (mine : List Slice) × SessionDrew stream place table resolve keys moved mine × AreInOrder place mine (place + length moved.drawn)

-- where a session drew these bytes, and others behind them that no line used
drew : SlicesAreSettled → SavesAreTurns → (table : Table) (form : Form) (answers : StoreAnswers) (keys : Keys) (stream : List ℕ) (place : ℕ) (taken more bytes unused rest unwritten : List ℕ) (ended : Bool) (moved : Moved)
    → taken ++ more ≡ moved.taken → bytes ++ unused ≡ moved.drawn → moved.drawn ++ rest ≡ drop place stream
    → moved.written ++ unwritten ≡ (talk_by (saving table form answers) keys taken bytes ended).output → DrewWithin stream place table (resolved form answers) keys moved
drew settled is_turns table form answers keys stream place taken more bytes unused rest unwritten ended moved front parts stands told =
    let t = is_turns table form answers keys taken bytes ended in
    let asked : List Line = map line_of t.answered in
    let lines : List Line = lines_by table (resolved form answers) [] false keys asked bytes in
    let split : bytes ++ (unused ++ rest) ≡ drop place stream = sym (append_assoc bytes unused rest) ∙ ap (λ l. l ++ rest) parts ∙ stands in
    let same = settled table keys lines bytes (unused ++ rest) t.last t.remains' in
    let lines_same : lines_drawn stream place table (resolved form answers) keys t.answered ≡ lines =
    ap (lines_by table (resolved form answers) [] false keys asked) (sym split) ∙ lines_more table form answers [] false keys asked bytes (unused ++ rest) t.last t.remains' in
    let turns_same : turns table keys (lines_drawn stream place table (resolved form answers) keys t.answered) (drop place stream) ≡ turns table keys lines bytes =
    ap (λ ls. turns table keys ls (drop place stream)) lines_same ∙ ap (turns table keys lines) (sym split) ∙ same.0 in
    let slices_same : slices table keys (lines_drawn stream place table (resolved form answers) keys t.answered) (drop place stream) ≡ slices table keys lines bytes =
    ap (λ ls. slices table keys ls (drop place stream)) lines_same ∙ ap (slices table keys lines) (sym split) ∙ same.1 in
    let mine = slices table keys (lines_drawn stream place table (resolved form answers) keys t.answered) (drop place stream) in
    let count = ap size_of slices_same in
    let within = slices-within 0 0 table keys lines bytes in
    let size : length moved.drawn ≡ length bytes + length unused = sym (ap length parts) ∙ length-append bytes unused in
    let least : 0 + size_of mine ≤ length moved.drawn = omega (arith, count, within, size) in
    let start : place + 0 ≡ place = omega arith in (
      map (moved_by place) mine,
      record {
        taken = taken;
        more = more;
        front = front;
        answered = t.answered;
        later = t.later;
        cut = t.cut;
        whole = ap length turns_same ∙ t.whole;
        unwritten = unwritten;
        told = told ∙ t.output ∙ ap replies_text (sym turns_same);
        are = refl;
      },
      subst (λ n. AreInOrder n (map (moved_by place) mine) (place + length moved.drawn)) start
          (order-moved place 0 (length moved.drawn) mine (follow-slices 0 0 table keys (lines_drawn stream place table (resolved form answers) keys t.answered) (drop place stream)) least),
    )

-- the output of a session, by its own name
named : (exchange same : Exchange) → exchange ≡ same → (taken bytes : List ℕ) (ended : Bool) → (exchange taken bytes ended).output ≡ (same taken bytes ended).output
named exchange same is taken bytes ended = ap (λ x. (x taken bytes ended).output) is

pub replied_drew : SlicesAreSettled → SavesAreTurns → (table : Table) (form : Form) (keys : Keys) (exchange : StoreAnswers → Exchange) → IsSaving exchange table form keys → (answers : StoreAnswers) (stream rest : List ℕ) (place : ℕ) (moved : Moved) (ended : Bool) (stop : Stop)
    → moved.drawn ++ rest ≡ drop place stream → HasReplied (exchange answers) moved ended stop → DrewWithin stream place table (resolved form answers) keys moved
replied_drew settled is_turns table form keys exchange is answers stream rest place moved ended stop stands has =
    drew settled is_turns table form answers keys stream place moved.taken [] moved.drawn [] rest [] ended moved (append-nil moved.taken) (append-nil moved.drawn) stands
    (append-nil moved.written ∙ has.written ∙ named (exchange answers) _ (is answers) moved.taken moved.drawn ended)

pub left_drew : SlicesAreSettled → SavesAreTurns → (table : Table) (form : Form) (keys : Keys) (exchange : StoreAnswers → Exchange) → IsSaving exchange table form keys → (answers : StoreAnswers) (stream rest : List ℕ) (place : ℕ) (s : Status) (moved : Moved)
    → moved.drawn ++ rest ≡ drop place stream → IsTalkLeft (exchange answers) s moved → DrewWithin stream place table (resolved form answers) keys moved
left_drew settled is_turns table form keys exchange is answers stream rest place s moved stands (talk_passed limit status has) =
    replied_drew settled is_turns table form keys exchange is answers stream rest place moved _ _ stands has
left_drew settled is_turns table form keys exchange is answers stream rest place s moved stands (talk_unread status has) =
    replied_drew settled is_turns table form keys exchange is answers stream rest place moved _ _ stands has
left_drew settled is_turns table form keys exchange is answers stream rest place s moved stands (talk_undrawn ended status has) =
    replied_drew settled is_turns table form keys exchange is answers stream rest place moved ended _ stands has
left_drew settled is_turns table form keys exchange is answers stream rest place s moved stands (talk_unwritten ended status front later files) =
    drew settled is_turns table form answers keys stream place moved.taken [] moved.drawn [] rest front.rest ended moved (append-nil moved.taken) (append-nil moved.drawn) stands
    (front.is ∙ named (exchange answers) _ (is answers) moved.taken moved.drawn ended)
left_drew settled is_turns table form keys exchange is answers stream rest place s moved stands (talk_starved taken more drawn part status front parts goes' written files) =
    drew settled is_turns table form answers keys stream place taken more drawn part rest [] false moved front parts stands
    (append-nil moved.written ∙ written ∙ named (exchange answers) _ (is answers) taken drawn false)
