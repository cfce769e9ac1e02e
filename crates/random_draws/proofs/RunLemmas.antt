-- The slices of a run, by its plan, and those of runs one after another.
use Rattle.std.proofs.Common.{◌≡◌, ◌∙◌, inl, inr, refl, sym, ap, subst, ℕ, ◌+◌, ◌≤◌, List, [], ◌∷◌, ◌++◌, length, drop, Option, Some, arith, true}
use Rattle.std.proofs.lemmas.List.{append_assoc, drop-drop, drop_at, length-append, length-drop}
use Rattle.random_draws.proofs.MakeLemmas.{makes_of}
use Rattle.random_draws.proofs.OrderLemmas.{order-append, order-placed, order-wider}
use Rattle.random_draws.proofs.PlanLemmas.{IsDrawing, plans_are_drawing}
use Rattle.random_draws.proofs.StepLemmas.{steps_draw_just}
use Rattle.random_draws.proofs.TalkLemmas.{left_drew, replied_drew}
use Rattle.random_draws.specs.Runs.{AreInARow, AreInOrder, DrewInARow, HasDrawn, OneRun, RunsDraw, RunsDrawInOrder, behind}
use Rattle.random_draws.specs.Sessions.{SlicesAreSettled}
use Rattle.random_draws.specs.Slices.{Slice, placed}
use Rattle.random_draws.specs.Steps.{step_fills}
use Rattle.tink_spec.specs.Files.{Files}
use Rattle.tink_spec.specs.Outside.{EntropyState}
use Rattle.tinkey_plans.specs.Commands.{plan_of}
use Rattle.tinkey_plans.specs.Plan.{Plan, ends, writes, creates, looks, allocates, loads, reads_all, reads_front, ranges, draws, pumps, collects, exchanges}
use Rattle.tinkey_plans.specs.Promises.{IsLeft, Moved}
use Rattle.tinkey_plans.specs.declared.status.Status.{Status}
use Rattle.tinkey_session.proofs.Options.{map_some}
use Rattle.tinkey_session.specs.TalkLaws.{SavesAreTurns}

-- the slices of a run, among the bytes that it drew
abbrev Slices : (stream : List ℕ) (place : ℕ) (p : Plan) (files : Option Files) (s : Status) (moved : Moved) → IsLeft p files s moved → Type 0
Slices stream place p files s moved left =
    (mine : List Slice) × HasDrawn stream place p files s moved left mine × AreInOrder place mine (place + length moved.drawn)

-- what stands behind the bytes that were drawn first
stands_behind : (stream first more rest : List ℕ) (place : ℕ) → first ++ (more ++ rest) ≡ drop place stream → more ++ rest ≡ drop (place + length first) stream
stands_behind stream first more rest place is = sym (drop_at first (more ++ rest) (length first) refl) ∙ ap (drop (length first)) is ∙ drop-drop (length first) place stream

-- two parts of what was drawn
two_parts : (stream first more all rest : List ℕ) (place : ℕ) → first ++ more ≡ all → all ++ rest ≡ drop place stream → first ++ (more ++ rest) ≡ drop place stream
two_parts stream first more all rest place parts is = sym (append_assoc first more rest) ∙ ap (λ l. l ++ rest) parts ∙ is

-- the second part ends where all of it does
end_of : (first more all : List ℕ) (place : ℕ) (mine later : List Slice) → first ++ more ≡ all → AreInOrder place mine (place + length first) → AreInOrder (place + length first) later (place + length first + length more)
    → AreInOrder place (mine ++ later) (place + length all)
end_of first more all place mine later parts one two =
    let size : length all ≡ length first + length more = sym (ap length parts) ∙ length-append first more in
    let same : place + length first + length more ≡ place + length all = omega (arith, size) in
    subst (AreInOrder place (mine ++ later)) same (order-append place (place + length first) (place + length first + length more) mine later one two)

none : (place size : ℕ) → AreInOrder place [] (place + size)
none place size = omega arith

slices_of : SlicesAreSettled → SavesAreTurns → (p : Plan) → IsDrawing p → (files : Option Files) (s : Status) (moved : Moved) (left : IsLeft p files s moved) (stream rest : List ℕ) (place : ℕ)
    → moved.drawn ++ rest ≡ drop place stream → Slices stream place p files s moved left
slices_of settled is_turns (ends t stated) drawing files s moved left stream rest place stands = ([], refl, none place _)
slices_of settled is_turns (writes output) drawing files s moved left stream rest place stands = ([], refl, none place _)
slices_of settled is_turns (creates name output taken stated) drawing files s moved left stream rest place stands = ([], refl, none place _)
slices_of settled is_turns (looks name taken stated next) drawing files s moved (inl here) stream rest place stands = ([], refl, none place _)
slices_of settled is_turns (looks name taken stated next) drawing files s moved (inr on) stream rest place stands =
    slices_of settled is_turns next drawing files s moved on.1 stream rest place stands
slices_of settled is_turns (allocates next) drawing files s moved (inl here) stream rest place stands = ([], refl, none place _)
slices_of settled is_turns (allocates next) drawing files s moved (inr on) stream rest place stands =
    slices_of settled is_turns next drawing files s moved on stream rest place stands
slices_of settled is_turns (loads name limit absent long a l next) drawing files s moved (inl here) stream rest place stands = ([], refl, none place _)
slices_of settled is_turns (loads name limit absent long a l next) drawing files s moved (inr on) stream rest place stands =
    slices_of settled is_turns (next on.0) (drawing on.0) files s moved on.3 stream rest place stands
slices_of settled is_turns (ranges x absent a next) drawing files s moved (inl here) stream rest place stands = ([], refl, none place _)
slices_of settled is_turns (ranges x absent a next) drawing files s moved (inr on) stream rest place stands =
    slices_of settled is_turns (next on.0) (drawing on.0) files s moved on.2 stream rest place stands
slices_of settled is_turns (reads_all limit long stated next) drawing files s moved (inl here) stream rest place stands = ([], refl, none place _)
slices_of settled is_turns (reads_all limit long stated next) drawing files s moved (inr on) stream rest place stands =
    slices_of settled is_turns (next on.0) (drawing on.0) files s (record moved { taken = on.1 }) on.4 stream rest place stands
slices_of settled is_turns (reads_front size next) drawing files s moved (inl here) stream rest place stands = ([], refl, none place _)
slices_of settled is_turns (reads_front size next) drawing files s moved (inr on) stream rest place stands =
    slices_of settled is_turns (next on.0) (drawing on.0) files s (record moved { taken = on.1 }) on.4 stream rest place stands
slices_of settled is_turns (draws kind give next) drawing files s moved (inl here) stream rest place stands = ([], refl, none place _)
slices_of settled is_turns (draws kind give next) drawing files s moved (inr on) stream rest place stands =
    let used = drawing.0.0 in
    let is = drawing.0.1 in
    let drawn = on.0 in
    let whole = two_parts stream drawn on.1 moved.drawn rest place on.3 stands in
    let just = steps_draw_just kind give used is drawn on.2 on.4 in
    let first = placed 0 place (step_fills used drawn) in
    let later = slices_of settled is_turns (next on.2) (drawing.1 on.2) files s (record moved { drawn = on.1 }) on.5 stream rest (place + length drawn) (stands_behind stream drawn on.1 rest place whole) in
    let order = subst (λ n. AreInOrder place first (place + n)) just (order-placed 0 place (step_fills used drawn)) in (
      first ++ later.0,
      (used, first, later.0, refl, is, refl, makes_of stream drawn (on.1 ++ rest) place kind give on.2 used whole is on.4 just, later.1),
      end_of drawn on.1 moved.drawn place first later.0 on.3 order later.2,
    )
slices_of settled is_turns (pumps part) drawing files s moved left stream rest place stands = ([], refl, none place _)
slices_of settled is_turns (collects part next) drawing files s moved (inl here) stream rest place stands = ([], refl, none place _)
slices_of settled is_turns (collects part next) drawing files s moved (inr on) stream rest place stands =
    slices_of settled is_turns (next (part.output on.0 true)) (drawing (part.output on.0 true)) files s (record moved { taken = on.1 }) on.4 stream rest place stands
slices_of settled is_turns (exchanges exchange next) drawing files s moved (inl here) stream rest place stands =
    let at = drawing.0 in
    let d = left_drew settled is_turns at.0 at.1 at.2 exchange at.3 here.0 stream rest place s moved stands here.2 in
    (d.0, (at.0, at.1, at.2, at.3, d.1), d.2)
slices_of settled is_turns (exchanges exchange next) drawing files s moved (inr on) stream rest place stands =
    let at = drawing.0 in
    let parts = ap (λ m. m.drawn) on.3 in
    let whole = two_parts stream on.0.drawn on.1.drawn moved.drawn rest place parts stands in
    let d = replied_drew settled is_turns at.0 at.1 at.2 exchange at.3 on.5 stream (on.1.drawn ++ rest) place on.0 _ _ whole on.7 in
    let keys = (exchange on.5 on.0.taken on.0.drawn _).keys in
    let later = slices_of settled is_turns (next keys) (drawing.1 keys) on.2 s on.1 on.8 stream rest (place + length on.0.drawn) (stands_behind stream on.0.drawn on.1.drawn rest place whole) in (
      d.0 ++ later.0,
      (at.0, at.1, at.2, at.3, d.0, later.0, refl, d.1, later.1),
      end_of on.0.drawn on.1.drawn moved.drawn place d.0 later.0 parts d.2 later.2,
    )

-- ---- runs

pub runs_draw : SlicesAreSettled → SavesAreTurns → RunsDraw
runs_draw settled is_turns r leaves stream place within left =
    let bytes = leaves.moved.drawn in
    let lost = leaves.gone.lost in
    let there = map_some (λ rest. bytes ++ lost ++ rest) r.new.entropy.left (drop place stream) (sym leaves.gone.drew.left ∙ left) in
    let rest = there.0 in
    let whole : bytes ++ lost ++ rest ≡ drop place stream = there.2 in
    let drawn : bytes ++ (lost ++ rest) ≡ drop place stream = sym (append_assoc bytes lost rest) ∙ whole in
    let size = ap length whole ∙ length-drop place stream in
    let both = length-append (bytes ++ lost) rest in
    let parts = length-append bytes lost in
    let sum : place + length (bytes ++ lost) ≡ place + length bytes + length lost = omega (arith, parts) in
    let next : rest ≡ drop (place + length bytes + length lost) stream
    = sym (drop_at (bytes ++ lost) rest (length (bytes ++ lost)) refl) ∙ ap (drop (length (bytes ++ lost))) whole ∙ drop-drop (length (bytes ++ lost)) place stream
    ∙ ap (λ n. drop n stream) sum in
    let mine = slices_of settled is_turns (plan_of r.table r.words) (plans_are_drawing r.table r.words) r.old.store.files r.status leaves.moved leaves.is stream (lost ++ rest) place drawn in (
      mine.0,
      record {
        has = mine.1;
        order = mine.2;
        enough = omega (arith, size, both, parts, within);
        left = there.1 ∙ ap Some next;
      },
    )

in_order : SlicesAreSettled → SavesAreTurns → (runs : List OneRun) (entropy : EntropyState) (stream : List ℕ) (place : ℕ) → place ≤ length stream → AreInARow runs entropy → entropy.left ≡ Some (drop place stream)
    → (all : List Slice) × DrewInARow stream place runs all × AreInOrder place all (length stream)
in_order settled is_turns [] entropy stream place within row left = ([], refl, within)
in_order settled is_turns (r ∷ later) entropy stream place within row left =
    let leaves = row.1 in
    let mine = runs_draw settled is_turns r leaves stream place within (ap (λ y. y.left) row.0 ∙ left) in
    let next = behind place r leaves in
    let rest = in_order settled is_turns later r.new.entropy stream next mine.1.enough row.2 mine.1.left in
    let order = order-wider place place (place + length leaves.moved.drawn) next mine.0 (omega arith) (omega arith) mine.1.order in (
      mine.0 ++ rest.0,
      (leaves, mine.0, rest.0, refl, mine.1, rest.1),
      order-append place next (length stream) mine.0 rest.0 order rest.2,
    )

pub runs_draw_in_order : SlicesAreSettled → SavesAreTurns → RunsDrawInOrder
runs_draw_in_order settled is_turns runs entropy stream row left = in_order settled is_turns runs entropy stream 0 (omega arith) row left
