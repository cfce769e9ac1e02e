-- What seals or tags in a session that does so only under a saved keyset.
use Rattle.std.proofs.Common.{◌≡◌, ◌∙◌, ◌⊎◌, inl, inr, refl, sym, ap, ℕ, zero, suc, true, false, Bool, List, [], ◌∷◌, ◌++◌, Option, Some, None, arith}
use Rattle.std.specs.Prelude.{◌&&◌, if◌then◌else◌, slice_get}
use Rattle.std.proofs.lemmas.Option.{same_Some}
use Rattle.keyset_model.specs.Keyset.{Keys}
use Rattle.managers.specs.Table.{Table}
use Rattle.tinkey_session.proofs.DrawLemmas.{refusals_leave}
use Rattle.tinkey_session.proofs.KeptLineLemmas.{line_keeps}
use Rattle.tinkey_session.proofs.Options.{clash, no_truth}
use Rattle.tinkey_session.specs.Lines.{Line, Seal, Dseal, Open, Dopen, Reseal, Dreseal, Tag, Verify, Derive, Edit, Save, Outcome, Bad}
use Rattle.tinkey_session.specs.Saving.{FileAsked, Form, StoreAnswers, files_of, makes, resolved}
use Rattle.tinkey_session.specs.Serving.{Served, serve}
use Rattle.tinkey_session.specs.Session.{Turn, lines_by, lines_then, turn_then, turns}
use Rattle.tinkey_session.specs.TalkLaws.{SavedBeforeSealing, WasSaved}
use Rattle.tinkey_session.specs.Talking.{unsaved_after, unsaved_by_edit, unsaved_by_save}
use Rattle.tinkey_session.specs.declared.reply.LineRefusal.{LineRefusal}
use Rattle.tinkey_session.specs.declared.reply.LineRefusal.TheVariants.{NotSaved}
use Rattle.tinkey_session.specs.declared.reply.Reply.{Reply}
use Rattle.tinkey_session.specs.declared.reply.Reply.TheVariants.{Done, Gives, NewId, Refuses}

-- ---- a line that seals or tags

-- a line that could be refused for an edit that no file has isn't, so there is none
not_refused : (m only unsaved : Bool) (line : Line) → makes line ≡ m → only ≡ true → makes (if m && (only && unsaved) then Bad NotSaved else line) ≡ true → unsaved ≡ false
not_refused m only false line is all e = refl
not_refused true true true line is all e = no_truth e
not_refused true false true line is all e = no_truth all
not_refused false only true line is all e = no_truth (sym is ∙ e)

saved_line : (form : Form) (answers : StoreAnswers) (first : List FileAsked) (unsaved : Bool) (keys : Keys) (random : List ℕ) (line : Line) → form.saved_only ≡ true → makes (resolved form answers first unsaved keys random line) ≡ true → unsaved ≡ false
saved_line form answers first unsaved keys random (Save name outcome) all e = no_truth e
saved_line form answers first unsaved keys random (Seal plain ad) all e = not_refused true form.saved_only unsaved (Seal plain ad) refl all e
saved_line form answers first unsaved keys random (Dseal plain ad) all e = not_refused true form.saved_only unsaved (Dseal plain ad) refl all e
saved_line form answers first unsaved keys random (Open sealed ad) all e = no_truth e
saved_line form answers first unsaved keys random (Dopen sealed ad) all e = no_truth e
saved_line form answers first unsaved keys random (Reseal sealed ad) all e = not_refused true form.saved_only unsaved (Reseal sealed ad) refl all e
saved_line form answers first unsaved keys random (Dreseal sealed ad) all e = not_refused true form.saved_only unsaved (Dreseal sealed ad) refl all e
saved_line form answers first unsaved keys random (Tag body) all e = not_refused true form.saved_only unsaved (Tag body) refl all e
saved_line form answers first unsaved keys random (Verify tag body) all e = no_truth e
saved_line form answers first unsaved keys random (Derive size input) all e = no_truth e
saved_line form answers first unsaved keys random (Edit edit) all e = no_truth e
saved_line form answers first unsaved keys random (Bad why) all e = no_truth e

-- ---- after a line

-- a save was done
record IsSave (line : Line) (reply : Reply) : Type 0 where
  name : List ℕ
  outcome : Outcome
  saves : line ≡ Save name outcome
  done : reply ≡ Done

-- an edit that leaves no edit unsaved was refused
edit_refused : (unsaved : Bool) (reply : Reply) → unsaved_by_edit unsaved reply ≡ false → (unsaved ≡ false) × (why : LineRefusal) × (reply ≡ Refuses why)
edit_refused unsaved Done e = no_truth (sym e)
edit_refused unsaved (Gives bytes) e = no_truth (sym e)
edit_refused unsaved (NewId id) e = no_truth (sym e)
edit_refused unsaved (Refuses why) e = (e, why, refl)

save_done : (unsaved : Bool) (reply : Reply) → unsaved_by_save unsaved reply ≡ false → (unsaved ≡ false) ⊎ (reply ≡ Done)
save_done unsaved Done e = inr refl
save_done unsaved (Gives bytes) e = inl e
save_done unsaved (NewId id) e = inl e
save_done unsaved (Refuses why) e = inl e

-- where no edit is unsaved after a line, it left the keyset; none was unsaved before it, or it saved the keyset
abbrev Settles : (unsaved : Bool) → Keys → Line → Served → Type 0
Settles unsaved keys line x = (keys ≡ x.keys) × ((unsaved ≡ false) ⊎ IsSave line x.reply)

settled : (table : Table) (unsaved : Bool) (keys : Keys) (line : Line) (random : List ℕ) (x : Served) → serve table keys line random ≡ Some x → unsaved_after unsaved line x.reply ≡ false → Settles unsaved keys line x
settled table unsaved keys (Edit edit) random x e is =
    let refused = edit_refused unsaved x.reply is in
    (sym (refusals_leave table keys (Edit edit) random x refused.1 e refused.2), inl refused.0)
settled table unsaved keys (Save name outcome) random x e is = (
  line_keeps (λ k. keys ≡ k) table keys (Save name outcome) random x refl tt e,
  elim (save_done unsaved x.reply is) [
    | inl before ↦ inl before
    | inr done ↦ inr (record { name = name; outcome = outcome; saves = refl; done = done })
  ],
)
settled table unsaved keys (Seal plain ad) random x e is = (line_keeps (λ k. keys ≡ k) table keys (Seal plain ad) random x refl tt e, inl is)
settled table unsaved keys (Dseal plain ad) random x e is = (line_keeps (λ k. keys ≡ k) table keys (Dseal plain ad) random x refl tt e, inl is)
settled table unsaved keys (Open sealed ad) random x e is = (line_keeps (λ k. keys ≡ k) table keys (Open sealed ad) random x refl tt e, inl is)
settled table unsaved keys (Dopen sealed ad) random x e is = (line_keeps (λ k. keys ≡ k) table keys (Dopen sealed ad) random x refl tt e, inl is)
settled table unsaved keys (Reseal sealed ad) random x e is = (line_keeps (λ k. keys ≡ k) table keys (Reseal sealed ad) random x refl tt e, inl is)
settled table unsaved keys (Dreseal sealed ad) random x e is = (line_keeps (λ k. keys ≡ k) table keys (Dreseal sealed ad) random x refl tt e, inl is)
settled table unsaved keys (Tag body) random x e is = (line_keeps (λ k. keys ≡ k) table keys (Tag body) random x refl tt e, inl is)
settled table unsaved keys (Verify tag body) random x e is = (line_keeps (λ k. keys ≡ k) table keys (Verify tag body) random x refl tt e, inl is)
settled table unsaved keys (Derive size input) random x e is = (line_keeps (λ k. keys ≡ k) table keys (Derive size input) random x refl tt e, inl is)
settled table unsaved keys (Bad why) random x e is = (line_keeps (λ k. keys ≡ k) table keys (Bad why) random x refl tt e, inl is)

-- ---- turns

-- a turn's keyset is the first one, which counts as saved, or one that an earlier line saved
abbrev pub IsSavedAt : (unsaved : Bool) → Keys → List Turn → ℕ → Turn → Type 0
IsSavedAt unsaved keys session i t = ((unsaved ≡ false) × (t.before ≡ keys)) ⊎ WasSaved session i t

-- behind a first turn
saved_behind : (unsaved : Bool) (keys : Keys) (line : Line) (x : Served) (session : List Turn) (later : Bool) (i : ℕ) (t : Turn) → (later ≡ false → Settles unsaved keys line x) → IsSavedAt later x.keys session i t
    → IsSavedAt unsaved keys (record { before = keys; line = line; reply = x.reply } ∷ session) (suc i) t
saved_behind unsaved keys line x session later i t settles (inr saved) = let earlier = saved.earlier in inr (record {
  j = suc saved.j;
  earlier = omega (arith, earlier);
  save = saved.save;
  at = saved.at;
  name = saved.name;
  outcome = saved.outcome;
  saves = saved.saves;
  done = saved.done;
  same = saved.same;
})
saved_behind unsaved keys line x session later i t settles (inl both) =
    let so = settles both.0 in
    let same : keys ≡ t.before = so.0 ∙ sym both.1 in
    elim so.1 [
      | inl before ↦ inl (before, sym same)
      | inr saves ↦ inr (record {
        j = 0;
        earlier = omega arith;
        save = record { before = keys; line = line; reply = x.reply };
        at = refl;
        name = saves.name;
        outcome = saves.outcome;
        saves = saves.saves;
        done = saves.done;
        same = same;
      })
    ]

-- Where lines that seal or tag are refused while an edit is unsaved, one that isn't refused has a saved keyset.
pub makes_saved : (table : Table) (form : Form) (answers : StoreAnswers) (before : List FileAsked) (unsaved : Bool) (keys : Keys) (lines : List Line) (random : List ℕ) (i : ℕ) (t : Turn) → form.saved_only ≡ true
    → slice_get (turns table keys (lines_by table (resolved form answers) before unsaved keys lines random) random) i ≡ Some t → makes t.line ≡ true
    → IsSavedAt unsaved keys (turns table keys (lines_by table (resolved form answers) before unsaved keys lines random) random) i t
unfolding turns lines_by
makes_saved table form answers before unsaved keys [] random i t all at e = clash at
makes_saved table form answers before unsaved keys (line ∷ later) random i t all at e =
    by (λ x j k. makes_saved table form answers (before ++ files_of l) (unsaved_after unsaved l x.reply) x.keys later x.left j t all k e) i (serve table keys l random) refl at
  where
    l : Line
    l = resolved form answers before unsaved keys random line

    over : Served → List Line
    over x = lines_by table (resolved form answers) (before ++ files_of l) (unsaved_after unsaved l x.reply) x.keys later x.left

    rest : Option Served → Served → List Turn
    rest o x = turns table x.keys (lines_then later o over) x.left

    by : ((x : Served) (j : ℕ) → slice_get (turns table x.keys (over x) x.left) j ≡ Some t → IsSavedAt (unsaved_after unsaved l x.reply) x.keys (turns table x.keys (over x) x.left) j t)
        → (i : ℕ) (o : Option Served) → serve table keys l random ≡ o → slice_get (turn_then keys l o (rest o)) i ≡ Some t → IsSavedAt unsaved keys (turn_then keys l o (rest o)) i t
    by behind i None s k = clash k
    by behind zero (Some x) s k =
        let first = same_Some _ _ k in
        inl (saved_line form answers before unsaved keys random line all (ap (λ y. makes y.line) first ∙ e), ap (λ y. y.before) (sym first))
    by behind (suc i) (Some x) s k = saved_behind unsaved keys l x (turns table x.keys (over x) x.left) (unsaved_after unsaved l x.reply) i t (settled table unsaved keys l random x s) (behind x i k)

pub saved_before_sealing : SavedBeforeSealing
saved_before_sealing table form answers keys lines random i t output all at is gives =
    elim (makes_saved table form answers [] false keys lines random i t all at is) [
      | inl first ↦ inl first.1
      | inr saved ↦ inr saved
    ]
