-- What answering a line over the entropy in memory says.
use Rattle.std.proofs.Common.{add-one, ◌≡◌, ◌∙◌, refl, sym, ap, subst, ℕ, zero, suc, ◌+◌, ◌*◌, ◌≤◌, Bool, true, List, [], ◌∷◌, ◌++◌, drop, length, Some, None, Ok, Err, arith}
use Rattle.std.specs.Prelude.{slice_get, ◌||◌, ◌%◌}
use Rattle.std.specs.Int.{to_le_bytes, w32}
use Rattle.std.specs.List.{AllByRecursion, list_any, repeat}
use Rattle.std.proofs.Math.Nat.{suc-mul}
use Rattle.std.proofs.lemmas.List.{append-nil, length-append}
use Rattle.std.proofs.lemmas.Option.{same_Some}
use Rattle.key_msgs.specs.Templates.{Row}
use Rattle.keyset_model.specs.Keyset.{Keys, fault_of, primary_of}
use Rattle.keyset_model.specs.declared.record.Record.{Record}
use Rattle.managers.specs.Table.{Table}
use Rattle.tink_base.specs.Memory.{EntropyInMemory, told_entropy}
use Rattle.tink_spec.specs.Outside.{Drew}
use Rattle.tinkey_cmds.proofs.Kept.{firsts_are_keysets, firsts_have_bounds}
use Rattle.tinkey_cmds.proofs.Lists.{each-append}
use Rattle.tinkey_cmds.specs.Applying.{Draws, RanOut}
use Rattle.keyset_model.specs.Writing.{HasWireBounds}
use Rattle.tinkey_cmds.specs.Edits.{first}
use Rattle.tinkey_cmds.specs.declared.command.EditRefusal.{EditRefusal}
use Rattle.tinkey_selftest.proofs.EntropyLemmas.{first_is_template}
use Rattle.tinkey_selftest.proofs.ShortLemmas.{sealed_small}
use Rattle.tinkey_selftest.specs.Ready.{IsSmall, kept_of, trial_of}
use Rattle.tinkey_selftest.specs.Trial.{Task, Edits, Seals, Trial, after_line, counted, first_row, line_of_task, seal_task, sealed_by, sealed_now, task_done}
use Rattle.tinkey_selftest.specs.declared.numbers.Words.{Words}
use Rattle.tinkey_selftest.specs.declared.counts.Counts.{Counts}
use Rattle.tinkey_selftest.specs.declared.trial.Sealing.{Sealing}
use Rattle.tinkey_session.proofs.FewLemmas.{firsts_draw_few, lines_draw_few}
use Rattle.tinkey_session.proofs.Options.{clash}
use Rattle.tinkey_session.proofs.SoundLemmas.{edited_keyset}
use Rattle.tinkey_session.proofs.TurnLemmas.{serve_edits}
use Rattle.tinkey_session.specs.Answered.{IsAnswered, IsUnanswered}
use Rattle.tinkey_session.specs.Lines.{Line, Seal}
use Rattle.tinkey_session.specs.Serving.{serve}
use Rattle.tinkey_session.specs.declared.reply.Reply.{Reply}
use Rattle.tinkey_session.specs.declared.reply.Reply.TheVariants.{Done, Gives, NewId, Refuses}
use Rattle.wrapped_prims.specs.Laws.{IsKeyset}
use Rattle.wrapped_prims.specs.Making.{HasWordId}

-- the bytes drawn stand in front of those left
drew_left : (old new : EntropyInMemory) (drawn : List ℕ) → Drew (told_entropy old) (told_entropy new) drawn → old.left ≡ drawn ++ new.left
drew_left old new drawn d = same_Some _ _ d.left

pub answered_now : (table : Table) (keys after : Keys) (line : Line) (reply : Reply) (old new : EntropyInMemory)
    → IsAnswered (λ random. serve table keys line random) reply after (told_entropy old) (told_entropy new)
    → serve table keys line old.left ≡ Some (record { reply = reply; keys = after; left = new.left })
answered_now table keys after line reply old new a = ap (serve table keys line) (drew_left old new a.drawn a.drew) ∙ a.is new.left

pub few_now : (table : Table) (keys after : Keys) (line : Line) (reply : Reply) (old new : EntropyInMemory) → fault_of keys ≡ None → 320 ≤ length old.left
    → IsAnswered (λ random. serve table keys line random) reply after (told_entropy old) (told_entropy new)
    → length old.left ≤ length new.left + 320
few_now table keys after line reply old new k enough a =
    let there = lines_draw_few table keys line old.left k enough in
    let same = ap (λ x. length x.left) (same_Some _ _ (sym there.1 ∙ answered_now table keys after line reply old new a)) in
    let few = there.2 in
    omega (arith, same, few)

pub never_unanswered : {P : Type 0} (table : Table) (keys : Keys) (line : Line) (old new : EntropyInMemory) → fault_of keys ≡ None → 320 ≤ length old.left → (told_entropy old).steady ≡ true
    → IsUnanswered (λ random. serve table keys line random) (told_entropy old) (told_entropy new) → P
never_unanswered table keys line old new k enough steady u =
    let there = lines_draw_few table keys line old.left k enough in
    let short : serve table keys line old.left ≡ None = u.short steady in
    clash (sym short ∙ there.1)

-- ---- the first keyset

words_held : (rs : List Record) → AllByRecursion HasWireBounds rs → AllByRecursion HasWordId rs
words_held [] all = tt
words_held (r ∷ rs) all = (all.0.id, words_held rs all.1)

keyset_first : (keys : Keys) (random left : List ℕ) → first first_row random ≡ Some (record { answer = Ok keys; left = left }) → IsKeyset keys
keyset_first keys random left e = record {
  faultless = firsts_are_keysets keys first_row random (record { answer = Ok keys; left = left }) first_is_template e refl;
  words = words_held keys.records (firsts_have_bounds keys first_row random (record { answer = Ok keys; left = left }) first_is_template e refl);
}

pub first_now : (row : Row) (keys : Keys) (old new : EntropyInMemory) → row ≡ first_row → 320 ≤ length old.left → (told_entropy old).steady ≡ true
    → Draws (first row) (told_entropy old) (told_entropy new) (Ok keys)
    → (first first_row old.left ≡ Some (record { answer = Ok keys; left = new.left })) × (length old.left ≤ length new.left + 320) × ((told_entropy new).steady ≡ true) × IsKeyset keys
first_now row keys old new e enough steady d =
    let is : first first_row old.left ≡ Some (record { answer = Ok keys; left = new.left })
    = ap (λ r. first r old.left) (sym e) ∙ ap (first row) (drew_left old new d.0 d.1) ∙ d.2 new.left in
    let there = firsts_draw_few first_row old.left first_is_template enough in
    let same = ap (λ s. length s.left) (same_Some _ _ (sym there.1 ∙ is)) in
    let few = there.2 in
    (is, omega (arith, same, few), d.1.steady ∙ steady, keyset_first keys old.left _ is)

pub refused_now : (row : Row) (fault : EditRefusal) (old new : EntropyInMemory) → row ≡ first_row
    → Draws (first row) (told_entropy old) (told_entropy new) (Err fault)
    → (left : List ℕ) × (first first_row old.left ≡ Some (record { answer = Err fault; left = left }))
refused_now row fault old new e d = (new.left, ap (λ r. first r old.left) (sym e) ∙ ap (first row) (drew_left old new d.0 d.1) ∙ d.2 new.left)

pub never_ran_out : {P : Type 0} (row : Row) (old new : EntropyInMemory) → row ≡ first_row → 320 ≤ length old.left → (told_entropy old).steady ≡ true
    → RanOut (first row) (told_entropy old) (told_entropy new) → P
never_ran_out row old new e enough steady u =
    let there = firsts_draw_few first_row old.left first_is_template enough in
    let short : first row old.left ≡ None = u.short steady in
    clash (sym short ∙ ap (λ r. first r old.left) e ∙ there.1)

-- ---- what is done

pub done_now : (table : Table) (trial : Trial) (task : Task) (reply : Reply) (keys : Keys) (left : List ℕ) (sealings : List Sealing) (counts : Counts)
    → serve table trial.keys (line_of_task task) trial.left ≡ Some (record { reply = reply; keys = keys; left = left })
    → sealings ≡ trial.sealings ++ sealed_now trial.keys task reply → counts ≡ counted trial.keys task reply trial.counts
    → trial_of keys sealings left counts ≡ task_done table trial task
done_now table trial task reply keys left sealings counts e s n =
    ap (λ l. trial_of keys l left counts) s
    ∙ ap (λ c. trial_of keys (trial.sealings ++ sealed_now trial.keys task reply) left c) n
    ∙ sym (ap (after_line trial task) e)

-- an edit
pub edited_now : (table : Table) (trial : Trial) (line : Line) (reply : Reply) (keys : Keys) (left : List ℕ) (sealings : List Sealing) (counts : Counts)
    → serve table trial.keys line trial.left ≡ Some (record { reply = reply; keys = keys; left = left })
    → sealings ≡ trial.sealings → counts ≡ counted trial.keys (Edits line) reply trial.counts
    → trial_of keys sealings left counts ≡ task_done table trial (Edits line)
edited_now table trial line reply keys left sealings counts e s n = done_now table trial (Edits line) reply keys left sealings counts e (s ∙ sym (append-nil trial.sealings)) n

-- a seal
sealed_kept : (keys : Keys) (plain a ad : List ℕ) (reply : Reply) (sealer : Record) → primary_of keys ≡ Some sealer → a ≡ ad → kept_of reply a sealer ≡ sealed_now keys (Seals plain ad) reply
sealed_kept keys plain a ad (Gives bytes) sealer primary same = ap (λ x. sealed_by (Some sealer) bytes x) same ∙ ap (λ o. sealed_by o bytes ad) (sym primary)
sealed_kept keys plain a ad Done sealer primary same = refl
sealed_kept keys plain a ad (NewId id) sealer primary same = refl
sealed_kept keys plain a ad (Refuses why) sealer primary same = refl

pub sealed_done : (table : Table) (trial : Trial) (w : Words) (plain ad own : List ℕ) (sealer : Record) (reply : Reply) (keys : Keys) (left : List ℕ) (before sealings : List Sealing) (counts : Counts)
    → primary_of trial.keys ≡ Some sealer → plain ≡ repeat (w.b % 64) (to_le_bytes w32 w.c) → ad ≡ to_le_bytes w32 w.d → own ≡ to_le_bytes w32 w.d
    → serve table trial.keys (Seal plain ad) trial.left ≡ Some (record { reply = reply; keys = keys; left = left })
    → before ≡ trial.sealings → sealings ≡ before ++ kept_of reply own sealer → counts ≡ counted trial.keys (Seals plain ad) reply trial.counts
    → trial_of keys sealings left counts ≡ task_done table trial (seal_task w)
sealed_done table trial w plain ad own sealer reply keys left before sealings counts primary p a o e b s n =
    done_now table trial (Seals plain ad) reply keys left sealings counts e
    (s ∙ ap (λ x. x ++ kept_of reply own sealer) b ∙ ap (λ x. trial.sealings ++ x) (sealed_kept trial.keys plain own ad reply sealer primary (o ∙ sym a))) n
    ∙ ap (λ x. task_done table trial (Seals x ad)) p ∙ ap (λ x. task_done table trial (Seals (repeat (w.b % 64) (to_le_bytes w32 w.c)) x)) a

kept_small : (table : Table) (keys after : Keys) (plain ad own random left : List ℕ) (sealer : Record) (reply : Reply) → fault_of keys ≡ None → 320 ≤ length random → length plain ≤ 1000 → length own ≤ 1000
    → serve table keys (Seal plain ad) random ≡ Some (record { reply = reply; keys = after; left = left }) → AllByRecursion IsSmall (kept_of reply own sealer)
kept_small table keys after plain ad own random left sealer (Gives bytes) k enough p o e =
    let few = sealed_small lines_draw_few table keys plain ad random bytes (record { reply = Gives bytes; keys = after; left = left }) k enough e refl in
    (record { bytes = omega (arith, few, p); ad = omega (arith, o) }, tt)
kept_small table keys after plain ad own random left sealer Done k enough p o e = tt
kept_small table keys after plain ad own random left sealer (NewId id) k enough p o e = tt
kept_small table keys after plain ad own random left sealer (Refuses why) k enough p o e = tt

pub all_small : (table : Table) (keys after : Keys) (plain ad own random left : List ℕ) (sealer : Record) (reply : Reply) (before sealings : List Sealing) → fault_of keys ≡ None → 320 ≤ length random
    → length plain ≤ 1000 → length own ≤ 1000 → serve table keys (Seal plain ad) random ≡ Some (record { reply = reply; keys = after; left = left })
    → AllByRecursion IsSmall before → sealings ≡ before ++ kept_of reply own sealer → AllByRecursion IsSmall sealings
all_small table keys after plain ad own random left sealer reply before sealings k enough p o e small s =
    subst (AllByRecursion IsSmall) (sym s) (each-append IsSmall before (kept_of reply own sealer) small (kept_small table keys after plain ad own random left sealer reply k enough p o e))

long_repeat : (n : ℕ) (xs : List ℕ) → length (repeat n xs) ≡ n * length xs
long_repeat zero xs = omega arith
long_repeat (suc n) xs =
    let all = length-append xs (repeat n xs) in
    let rest = long_repeat n xs in
    let more = suc-mul n (length xs) in
    omega (arith, all, rest, more)

pub plain_small : (plain : List ℕ) (b c : ℕ) → plain ≡ repeat (b % 64) (to_le_bytes w32 c) → length plain ≤ 1000
plain_small plain b c e =
    let long : length plain ≡ b % 64 * 4 = ap (λ x. length x) e ∙ long_repeat (b % 64) (to_le_bytes w32 c) in
    omega (arith, long)

pub word_small : (own : List ℕ) (d : ℕ) → own ≡ to_le_bytes w32 d → length own ≤ 1000
word_small own d e = let long : length own ≡ 4 = ap (λ x. length x) e in omega (arith, long)

-- the keyset after a line is one
pub keyset_now : (table : Table) (keys after : Keys) (line : Line) (reply : Reply) (old new : EntropyInMemory) → IsKeyset keys
    → IsAnswered (λ random. serve table keys line random) reply after (told_entropy old) (told_entropy new) → IsKeyset after
keyset_now table keys after line reply old new k a =
    edited_keyset keys after (serve_edits table keys line old.left (record { reply = reply; keys = after; left = new.left }) (answered_now table keys after line reply old new a)) k

-- a search for a key goes on
pub any_here : {A : Type 0} (test : A → Bool) (xs : List A) (i : ℕ) (x : A) → slice_get xs i ≡ Some x → list_any test (drop i xs) ≡ (test x || list_any test (drop (suc i) xs))
any_here test [] i x at = clash at
any_here test (y ∷ ys) zero x at = ap (λ z. test z || list_any test ys) (same_Some _ _ at)
any_here test (y ∷ ys) (suc i) x at = any_here test ys i x at

pub any_next : {A : Type 0} (test : A → Bool) (xs : List A) (i : ℕ) (x : A) (b : Bool) → slice_get xs i ≡ Some x → b ≡ test x → list_any test (drop i xs) ≡ (b || list_any test (drop (i + 1) xs))
any_next test xs i x b at is = any_here test xs i x at ∙ ap (λ n. test x || list_any test (drop n xs)) (sym (add-one i)) ∙ ap (λ c. c || list_any test (drop (i + 1) xs)) (sym is)
