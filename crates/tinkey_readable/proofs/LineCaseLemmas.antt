-- What was made by runs and lines among runs that hand a keyset on, and is read by later ones: cases of what
-- is read over any keyset that has the key.
use Rattle.std.proofs.Common.{◌≡◌, ◌∙◌, sym, refl, ap, subst, ℕ, ◌≤◌, false, List, [], length, Some, None, option_map}
use Rattle.std.proofs.lemmas.Option.{same_Some}
use Rattle.std.specs.List.{flat_map}
use Rattle.key_msgs.specs.declared.primitive.Primitive.{Primitive}
use Rattle.key_msgs.specs.declared.primitive.Primitive.TheVariants.{Aead, Daead, Mac}
use Rattle.keyset_model.specs.Keyset.{Keys}
use Rattle.keyset_model.specs.declared.record.Record.{Record}
use Rattle.managers.specs.Standard.{standard_table}
use Rattle.tinkey_session.proofs.TurnLemmas.{edited_on, reached}
use Rattle.tinkey_session.specs.Laws.{IsEdited, SoundIsUsable}
use Rattle.tinkey_session.specs.Reading.{IsWithin}
use Rattle.tinkey_session.specs.Serving.{Served, sealed_reply, serve}
use Rattle.tinkey_session.specs.Saving.{by_files, files_of, with_saved_only}
use Rattle.tinkey_session.specs.Session.{asked_in, lines_of}
use Rattle.tinkey_session.specs.TalkLaws.{SavesAreTurns}
use Rattle.tinkey_session.specs.Talking.{line_limit}
use Rattle.tinkey_session.specs.declared.reply.Reply.TheVariants.{Gives}
use Rattle.wrapped_prims.specs.Answers.{dseal_answer, seal_answer, tag_answer}
use Rattle.wrapped_prims.specs.Fitness.{unfit}
use Rattle.wrapped_prims.specs.Laws.{IsKeyset}
use Rattle.tinkey_plans.specs.Session.{form_under}
use Rattle.tinkey_plans.specs.Steps.{keyset_limit}
use Rattle.tinkey_readable.proofs.CaseLemmas.{RunLaws}
use Rattle.tinkey_readable.proofs.LineRunLemmas.{computed_gave, gave, input_fits, line_at, lines_short, session_does, turn_on}
use Rattle.tinkey_readable.proofs.RunLemmas.{done_within, hands_within, led, read_keyset, started, still_fit}
use Rattle.tinkey_readable.specs.Anywhere.{DopensAnywhere, DopensSomehowAnywhere, IsReadAnywhere, IsReadSomehowAnywhere, OpensAnywhere, OpensSomehowAnywhere, VerifiesAnywhere, WasMadeBy}
use Rattle.tinkey_readable.specs.Anywhere as anywhere
use Rattle.tinkey_readable.specs.LineRuns.{IsRead, IsReadSomehow, MadeDopens, MadeDopensPresent, MadeOpens, MadeOpensPresent, MadeVerifies, WasMade, asks, by_line, by_run}
use Rattle.tinkey_readable.specs.Runs.{Written, keyset_of, saving_lines, told_lines}
use Rattle.tinkey_readable.proofs.SessionLineLemmas.{line_there, work_read}
use Rattle.tinkey_words.specs.Words.{AskedWork, primitive_for, to_dopen, to_dseal, to_open, to_seal, to_tag, to_verify}

-- ---- where something was made

-- it was made so, over whichever keyset
made_by : SavesAreTurns → (work : AskedWork) (input output : List ℕ) (r : Record) (after : Written) → WasMade work input output r after → WasMadeBy work input output r
made_by talks work input output r after (by_run runs before old lead told was same primary) = anywhere.by_run before old lead.read told was same primary
made_by talks work input output r after (by_line run runs before old lead name form out saved_only is place t there line reply primary) =
    let saves = with_saved_only saved_only (form_under standard_table None out.form) in
    let answers = by_files run.told.files in
    let short = lines_short talks standard_table run before lead.are.0 old name form out saved_only is lead.are.1 lead.read in
    let at = line_there standard_table saves answers [] false old (asked_in run.told.input) run.told.random place t there in
    let read = work_read saves answers (flat_map files_of at.front) at.unsaved' t.before at.left at.line work input (sym at.is ∙ line) in
    let spelled = line_at (lines_of run.told.input) place at.line short at.at in
    anywhere.by_line before run.told t (record { keys = old; read = lead.read; form = saves; answers = answers; place = place; there = there })
    (input_fits work input (subst (IsWithin line_limit) read spelled)) line reply primary

-- the keyset that made it serves the primitive, and some edits of it are the last one
record Origin (p : Primitive) (after : Written) : Type 0 where
  old : Keys
  last : Keys
  lies : keyset_of after ≡ Some last
  within : length after.bytes ≤ keyset_limit
  edited : IsEdited old last
  keyset : IsKeyset old
  fit : unfit old p standard_table ≡ None

origin : RunLaws → (work : AskedWork) (input output : List ℕ) (r : Record) (after : Written)
    → ((keys : Keys) (random : List ℕ) (x : Served) → serve standard_table keys (asks work input) random ≡ Some x → x.reply ≡ Gives output → unfit keys (primitive_for work) standard_table ≡ None)
    → WasMade work input output r after → Origin (primitive_for work) after
origin l work input output r after of_line (by_run runs before old lead told was same primary) =
    let within = done_within work before told output was in
    let d = led l.run l.wrap l.sessions runs before after old lead.are lead.bytes lead.holds lead.read within in
    record {
      old = old;
      last = d.new;
      lies = d.read;
      within = d.within;
      edited = d.edited;
      keyset = read_keyset l.fit before.form before.bytes old within lead.read;
      fit = (started work before old told output lead.read was).fit;
    }
origin l work input output r after of_line (by_line run runs before old lead name form out saved_only is place t there line reply primary) =
    let between = lead.are.0 in
    let hands = lead.are.1 in
    let step' = l.run standard_table run before between old hands lead.bytes.0 lead.holds lead.read in
    let d = led l.run l.wrap l.sessions runs between after step'.new lead.are.2 lead.bytes.1 step'.holds step'.read step'.within in
    let lines = told_lines standard_table None out.form saved_only old run.told in
    let at = reached standard_table lines old run.told.random place t there in
    let does = session_does standard_table run.told old step'.new run.asked name form out saved_only is step'.does in
    let on = turn_on standard_table lines old run.told.random place t does.0 there does.1 in
    let behind = subst (λ k. IsEdited t.before k) does.2 (l.sessions standard_table t.before on.0 on.1 does.0 on.2) in
    record {
      old = t.before;
      last = d.new;
      lies = d.read;
      within = d.within;
      edited = edited_on t.before step'.new d.new behind d.edited;
      keyset = l.keyset old t.before at.edited (read_keyset l.fit before.form before.bytes old (hands_within standard_table run before between hands) lead.read);
      fit = of_line t.before at.random at.served (subst (λ asked. serve standard_table t.before asked at.random ≡ Some at.served) line at.is) (sym at.reply ∙ reply);
    }

-- ---- where it is read

-- the last keyset, and that before each line over it, serves the primitive too
read_case : {While : Record → Keys → Type 0} (p : Primitive) → SoundIsUsable p → RunLaws → (work : AskedWork) (input output : List ℕ) (r : Record) (after : Written) → primitive_for work ≡ p → Origin p after → IsReadAnywhere While work input output r → IsRead While work input output r after
read_case p usable l work input output r after same o read = record {
  by_run = λ new lies while'.
      let edited = subst (λ k. IsEdited o.old k) (same_Some _ _ (sym o.lies ∙ lies)) o.edited in
      read.by_run after new (record { read = lies; within = o.within; fit = ap (λ q. unfit new q standard_table) same ∙ still_fit p usable l.sound l.keyset o.old new o.keyset edited o.fit }) while';
  by_line = λ told t has line while'.
      let at = reached standard_table (saving_lines standard_table has.form has.answers has.keys (asked_in told.input) told.random) has.keys told.random has.place t has.there in
      let edited = edited_on o.old o.last t.before o.edited (subst (λ k. IsEdited k t.before) (same_Some _ _ (sym has.read ∙ o.lies)) at.edited) in
      read.by_line after told t has line (ap (λ q. unfit t.before q standard_table) same ∙ still_fit p usable l.sound l.keyset o.old t.before o.keyset edited o.fit) while';
}

read_somehow_case : (p : Primitive) → SoundIsUsable p → RunLaws → (work : AskedWork) (input : List ℕ) (r : Record) (after : Written) → primitive_for work ≡ p → Origin p after → IsReadSomehowAnywhere work input r → IsReadSomehow work input r after
read_somehow_case p usable l work input r after same o read = record {
  by_run = λ new lies has.
      let edited = subst (λ k. IsEdited o.old k) (same_Some _ _ (sym o.lies ∙ lies)) o.edited in
      read.by_run after new (record { read = lies; within = o.within; fit = ap (λ q. unfit new q standard_table) same ∙ still_fit p usable l.sound l.keyset o.old new o.keyset edited o.fit }) has;
  by_line = λ told t turn line has.
      let at = reached standard_table (saving_lines standard_table turn.form turn.answers turn.keys (asked_in told.input) told.random) turn.keys told.random turn.place t turn.there in
      let edited = edited_on o.old o.last t.before o.edited (subst (λ k. IsEdited k t.before) (same_Some _ _ (sym turn.read ∙ o.lies)) at.edited) in
      read.by_line after told t turn line (ap (λ q. unfit t.before q standard_table) same ∙ still_fit p usable l.sound l.keyset o.old t.before o.keyset edited o.fit) has;
}

-- ---- seals and tags

seal_origin : RunLaws → (ad plain sealed : List ℕ) (r : Record) (after : Written) → WasMade (to_seal ad) plain sealed r after → Origin Aead after
unfolding serve
seal_origin l ad plain sealed r after was = origin l (to_seal ad) plain sealed r after
    (λ keys random x e is. (gave Aead keys random (option_map (sealed_reply keys) (seal_answer keys standard_table plain ad random)) x sealed e is).0) was

dseal_origin : RunLaws → (ad plain sealed : List ℕ) (r : Record) (after : Written) → WasMade (to_dseal ad) plain sealed r after → Origin Daead after
unfolding serve
dseal_origin l ad plain sealed r after was = origin l (to_dseal ad) plain sealed r after
    (λ keys random x e is. (computed_gave Daead keys random (dseal_answer keys standard_table plain ad) sealed x e is).0) was

tag_origin : RunLaws → (tag body : List ℕ) (r : Record) (after : Written) → WasMade to_tag body tag r after → Origin Mac after
unfolding serve
tag_origin l tag body r after was = origin l to_tag body tag r after
    (λ keys random x e is. (computed_gave Mac keys random (tag_answer keys standard_table body) tag x e is).0) was

pub made_opens : OpensAnywhere → SavesAreTurns → SoundIsUsable Aead → RunLaws → MadeOpens
made_opens law talks usable l ad plain sealed prefix r after is was =
    read_case Aead usable l (to_open ad) sealed plain r after refl (seal_origin l ad plain sealed r after was) (law ad plain sealed prefix r is (made_by talks (to_seal ad) plain sealed r after was))

pub made_opens_present : OpensSomehowAnywhere → SavesAreTurns → SoundIsUsable Aead → RunLaws → MadeOpensPresent
made_opens_present law talks usable l ad plain sealed r after was =
    read_somehow_case Aead usable l (to_open ad) sealed r after refl (seal_origin l ad plain sealed r after was) (law ad plain sealed r (made_by talks (to_seal ad) plain sealed r after was))

pub made_dopens : DopensAnywhere → SavesAreTurns → SoundIsUsable Daead → RunLaws → MadeDopens
made_dopens law talks usable l ad plain sealed prefix r after is was =
    read_case Daead usable l (to_dopen ad) sealed plain r after refl (dseal_origin l ad plain sealed r after was) (law ad plain sealed prefix r is (made_by talks (to_dseal ad) plain sealed r after was))

pub made_dopens_present : DopensSomehowAnywhere → SavesAreTurns → SoundIsUsable Daead → RunLaws → MadeDopensPresent
made_dopens_present law talks usable l ad plain sealed r after was =
    read_somehow_case Daead usable l (to_dopen ad) sealed r after refl (dseal_origin l ad plain sealed r after was) (law ad plain sealed r (made_by talks (to_dseal ad) plain sealed r after was))

pub made_verifies : VerifiesAnywhere → SavesAreTurns → SoundIsUsable Mac → RunLaws → MadeVerifies
made_verifies law talks usable l tag body r after was =
    read_case Mac usable l (to_verify tag) body [] r after refl (tag_origin l tag body r after was) (law tag body r (made_by talks to_tag body tag r after was))
