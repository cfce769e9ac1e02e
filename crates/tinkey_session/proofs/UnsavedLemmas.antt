-- A session over no store saves nothing.
use Rattle.std.proofs.Common.{◌≡◌, ◌∙◌, refl, sym, ap, subst, ℕ, true, false, Bool, List, [], ◌∷◌, ◌++◌, length, map, Option, None, Result, append_assoc}
use Rattle.std.specs.List.{flat_map}
use Rattle.std.proofs.Math.Path.{fun_ext}
use Rattle.std.proofs.lemmas.List.Concat.{flat_map-cons}
use Rattle.keyset_model.specs.Keyset.{Keys}
use Rattle.managers.specs.Table.{Table}
use Rattle.tink_spec.specs.Files.{StoreState}
use Rattle.tinkey_session.proofs.TalkTurns.{talk_is_turns}
use Rattle.tinkey_session.proofs.WithinLemmas.{line_within}
use Rattle.tinkey_session.specs.Lines.{Line, Seal, Dseal, Open, Dopen, Reseal, Dreseal, Tag, Verify, Derive, Edit, Save, Bad, line_of}
use Rattle.tinkey_session.specs.Reading.{IsWithin}
use Rattle.tinkey_session.specs.Saving.{Agrees, FileAsked, Asks, StoreAnswers, files_of, no_form, resolved}
use Rattle.tinkey_session.specs.TalkLaws.{NothingIsSaved}
use Rattle.tinkey_session.specs.Talking.{Exchange, by_lines, gives, saving, talk, talk_by}
use Rattle.tinkey_session.specs.Talks.{HasAsked, Sides, Talks, TalksWith, passed, starved, talked, undrawn, unread, unwritten}
use Rattle.tinkey_session.specs.declared.reply.LineRefusal.{LineRefusal}
use Rattle.tinkey_session.specs.declared.talk.TalkFault.{TalkFault}

-- ---- a store that answers so

answer_at : (asked before : List FileAsked) → Option LineRefusal
answer_at [] before = None
answer_at (a ∷ asked) [] = a.why
answer_at (a ∷ asked) (b ∷ before) = answer_at asked before

answers_of : List FileAsked → StoreAnswers
answers_of asked before name = answer_at asked before

answer_here : (first : List FileAsked) (a : FileAsked) (later : List FileAsked) → answer_at (first ++ a ∷ later) first ≡ a.why
unfolding answer_at
answer_here [] a later = refl
answer_here (b ∷ first) a later = answer_here first a later

agrees_later : (first later : List FileAsked) → Agrees (answers_of (first ++ later)) first later
unfolding answers_of
agrees_later first [] = tt
agrees_later first (a ∷ later) = (answer_here first a later, subst (λ l. Agrees (answers_of l) (first ++ a ∷ []) later) (append_assoc first (a ∷ []) later) (agrees_later (first ++ a ∷ []) later))

-- a session that has ended over some store is one under some answers
pub some_session : (talk : StoreAnswers → Exchange) (result : Result Keys TalkFault) (old new : Sides) (before after : StoreState) (t : TalksWith talk result old new before after)
    → (answers : StoreAnswers) × Agrees answers [] t.asked × (so : Talks (talk answers) result old new) × HasAsked (talk answers) result old new t.asked so
some_session talk result old new before after t =
    let agrees = agrees_later [] t.asked in
    let session = t.talks (answers_of t.asked) agrees in
    (answers_of t.asked, agrees, session.0, session.1)

-- ---- lines

not_saved : (answers : StoreAnswers) (before : List FileAsked) (unsaved : Bool) (keys : Keys) (random : List ℕ) (most : ℕ) (line : Line) → IsWithin most line → resolved no_form answers before unsaved keys random line ≡ line
not_saved answers before unsaved keys random most (Save name outcome) is = ap (Save name) (sym is)
not_saved answers before unsaved keys random most (Seal plain ad) is = refl
not_saved answers before unsaved keys random most (Dseal plain ad) is = refl
not_saved answers before unsaved keys random most (Open sealed ad) is = refl
not_saved answers before unsaved keys random most (Dopen sealed ad) is = refl
not_saved answers before unsaved keys random most (Reseal sealed ad) is = refl
not_saved answers before unsaved keys random most (Dreseal sealed ad) is = refl
not_saved answers before unsaved keys random most (Tag body) is = refl
not_saved answers before unsaved keys random most (Verify tag body) is = refl
not_saved answers before unsaved keys random most (Derive size input) is = refl
not_saved answers before unsaved keys random most (Edit edit) is = refl
not_saved answers before unsaved keys random most (Bad why) is = refl

no_files : (most : ℕ) (line : Line) → IsWithin most line → files_of line ≡ []
no_files most (Save name outcome) is = ap (λ o. files_of (Save name o)) is
no_files most (Seal plain ad) is = refl
no_files most (Dseal plain ad) is = refl
no_files most (Open sealed ad) is = refl
no_files most (Dopen sealed ad) is = refl
no_files most (Reseal sealed ad) is = refl
no_files most (Dreseal sealed ad) is = refl
no_files most (Tag body) is = refl
no_files most (Verify tag body) is = refl
no_files most (Derive size input) is = refl
no_files most (Edit edit) is = refl
no_files most (Bad why) is = refl

same_replies : (table : Table) (answers : StoreAnswers) → saving table no_form answers ≡ by_lines table
same_replies table answers = fun_ext (λ before. fun_ext (λ unsaved. fun_ext (λ keys. fun_ext (λ line. fun_ext (λ random. ap (λ l. gives table unsaved keys l random) (not_saved answers before unsaved keys random (length line) (line_of line) (line_within line)))))))

lines_ask_none : (lines : List (List ℕ)) → flat_map files_of (map line_of lines) ≡ []
lines_ask_none [] = refl
lines_ask_none (line ∷ lines) = flat_map-cons files_of (line_of line) (map line_of lines) ∙ ap (λ l. l ++ flat_map files_of (map line_of lines)) (no_files (length line) (line_of line) (line_within line)) ∙ lines_ask_none lines

asks_none : (table : Table) (keys : Keys) (taken random : List ℕ) (ended : Bool) → (talk table keys taken random ended).asked ≡ []
asks_none table keys taken random ended = let turns = talk_is_turns table keys taken random ended in turns.asked ∙ lines_ask_none turns.answered

-- ---- the session

none_first : (asked later : List FileAsked) → asked ++ later ≡ [] → asked ≡ []
none_first [] later e = refl
none_first (a ∷ asked) later e = absurd cc

asked_none : (table : Table) (keys : Keys) (result : Result Keys TalkFault) (old new : Sides) (asked : List FileAsked) (so : Talks (talk table keys) result old new) → HasAsked (talk table keys) result old new asked so → asked ≡ []
asked_none table keys result old new asked (talked taken drawn is has none) e = sym e ∙ asks_none table keys taken drawn true
asked_none table keys result old new asked (passed taken drawn limit is has none) e = sym e ∙ asks_none table keys taken drawn false
asked_none table keys result old new asked (unread taken drawn is has rose sink entropy) e = sym e ∙ asks_none table keys taken drawn false
asked_none table keys result old new asked (undrawn taken drawn ended is has rose source sink) e = sym e ∙ asks_none table keys taken drawn ended
asked_none table keys result old new asked (unwritten taken drawn ended is gave drew took end rose source entropy) e = none_first asked e.0 (sym e.1 ∙ asks_none table keys taken drawn ended)
asked_none table keys result old new asked (starved taken more drawn part is gave drew took stop none) e = sym e ∙ asks_none table keys taken drawn false

pub nothing_is_saved : NothingIsSaved
nothing_is_saved table keys result old new before after t =
    let so : (so : Talks (talk table keys) result old new) × HasAsked (talk table keys) result old new t.asked so =
    subst (λ give. (so : Talks (talk_by give keys) result old new) × HasAsked (talk_by give keys) result old new t.asked so)
    (same_replies table (answers_of t.asked)) (t.talks (answers_of t.asked) (agrees_later [] t.asked)) in
    (so.0, subst (λ l. Asks l before after) (asked_none table keys result old new t.asked so.0 so.1) t.asks)
