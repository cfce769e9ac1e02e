-- What was made under a key, read over any keyset that has it.
use Rattle.std.proofs.Common.{arith, ◌≡◌, ◌∙◌, sym, refl, ap, subst, false, ℕ, ◌≤◌, ◌∷◌, [], List, length, Some, None, Ok, Err, option_map}
use Rattle.std.specs.Prelude.{take, drop}
use Rattle.key_msgs.specs.KeyTypes.{primitive_of_type, url_of_type}
use Rattle.key_msgs.specs.Templates.{Row, row_named, type_made}
use Rattle.key_msgs.specs.declared.primitive.Primitive.TheVariants.{Aead, Daead, Mac}
use Rattle.keyset_json.specs.Writing.{JsonBack}
use Rattle.keyset_model.specs.Keyset.{Keys, primary_of}
use Rattle.keyset_model.specs.WellFormed.{FaultlessKeysets}
use Rattle.keyset_model.specs.Writing.{BinaryBack, ReadKeysFit}
use Rattle.keyset_model.specs.declared.record.Record.{Record}
use Rattle.managers.specs.Standard.{standard_table}
use Rattle.managers.specs.Schemes.{Scheme}
use Rattle.managers.specs.Table.{scheme_at}
use Rattle.envelopes.specs.EnvelopeLaws.{DataKeysAreServed, EnvelopeBack, EnvelopesFit, IsDataKeyRow}
use Rattle.envelopes.specs.Enveloped.{open_envelope_of}
use Rattle.envelopes.specs.Enveloping.{IsAead, url_made}
use Rattle.seal_wrap.specs.Laws.{WrapBackBytes}
use Rattle.seal_wrap.specs.Sealings.{DsealingsFit, SealingsFit}
use Rattle.seal_wrap.specs.Unwrapped.{unwrap_of}
use Rattle.segment_stream.specs.KeysModel.{KeysForStreams}
use Rattle.segment_stream.specs.Laws.{RangeIsSlice, StreamBack}
use Rattle.segment_stream.specs.Range.{past_end}
use Rattle.segment_stream.specs.Segments.{cipher_of}
use Rattle.segment_stream.specs.Opening.{stream_answer}
use Rattle.segment_stream.specs.StreamKeys.{primary_key, stream_key_of}
use Rattle.segment_stream.specs.declared.key.StreamKey.{StreamKey}
use Rattle.tinkey_session.proofs.Options.{map_some}
use Rattle.tinkey_session.proofs.TurnLemmas.{reached}
use Rattle.tinkey_session.specs.Laws.{KeptDopen, KeptDopenPresent, KeptOpen, KeptOpenPresent, KeptTag}
use Rattle.tinkey_session.specs.Serving.{Served, sealed_reply, serve}
use Rattle.tinkey_session.specs.Saving.{Form, StoreAnswers}
use Rattle.tinkey_session.specs.Session.{Turn, asked_in}
use Rattle.tinkey_session.specs.declared.reply.Reply.TheVariants.{Gives}
use Rattle.wrapped_prims.specs.Answers.{dseal_answer, open_answer, seal_answer, tag_answer}
use Rattle.wrapped_prims.specs.Fitness.{unfit}
use Rattle.wrapped_prims.specs.Laws.{HasKey, IsKeyset}
use Rattle.tinkey_plans.specs.declared.origin.Origin.TheVariants as origins
use Rattle.tinkey_plans.proofs.StreamSoundLemmas.{sound_key}
use Rattle.tinkey_plans.proofs.EnvelopeLemmas.{row_known}
use Rattle.tinkey_plans.specs.Envelopes.{envelope_limit, envelopes}
use Rattle.tinkey_plans.specs.Laws.{FitKeysetsAnswer}
use Rattle.tinkey_plans.specs.Plan.{Answer, Plan, Told, answer, writes}
use Rattle.tinkey_plans.specs.Ranging.{opens_file_range}
use Rattle.tinkey_plans.specs.Steps.{input_limit, origin_of, puts, puts_keyset, sealed_limit}
use Rattle.tinkey_plans.specs.Streaming.{begins_file, loads_stream_keys, opens_stream, seals_stream}
use Rattle.tinkey_plans.specs.Handles.{handles, unless_unfit}
use Rattle.tinkey_plans.specs.Using.{limit_for}
use Rattle.tinkey_plans.specs.Wrapping.{is_json, unwraps}
use Rattle.ready_keysets.specs.Working.{answer as call_answer}
use Rattle.ready_keysets.specs.declared.ready.ReadyKeyset.{ReadyKeyset}
use Rattle.ready_keysets.specs.declared.work.Work.{Work}
use Rattle.tinkey_readable.proofs.CallLemmas.{call_dseals, call_seals, call_tags, called_answer, calls_give}
use Rattle.tinkey_readable.proofs.EnvelopeRunLemmas.{aead_scheme, gives_key_for, sealed_by as enveloped_by, used_done, used_reached}
use Rattle.tinkey_readable.proofs.LineRunLemmas.{Answers, MakesSeal, computed_gave, dopen_answers, gave, open_answers, same_bytes, verify_answers}
use Rattle.tinkey_readable.proofs.LockLemmas.{finished_under, given_is_keyset as sealed_is_keyset, started_under}
use Rattle.tinkey_readable.proofs.LyingLemmas.{given_is_keyset, same_lying, taken_behind}
use Rattle.tinkey_readable.proofs.PutLemmas.{envelope_worked, made_is, made_put, made_written}
use Rattle.tinkey_readable.proofs.RangeRunLemmas.{puts_reached, range_past, range_within, file_range_reached}
use Rattle.tinkey_readable.proofs.ReachLemmas.{IsDoneAnswer, behind, bytes_put, load_reached, put_done}
use Rattle.tinkey_plans.specs.Sealers.{envelope_sealer_of}
use Rattle.tinkey_plans.specs.declared.sealer.Unopened.TheVariants as unopened
use Rattle.tinkey_readable.proofs.RunLemmas.{Started, done_within, dsealed_by, dsealed_fits, finished, opens_so, read_keyset, sealed_by, sealed_fits, started, tagged_by}
use Rattle.tinkey_readable.proofs.StreamKeyLemmas.{first_under, fit_sound, opens_under, primary_gives, primary_key_there}
use Rattle.tinkey_readable.proofs.StreamRunLemmas.{chosen_so, keys_loaded, keys_reached, opened_so, opens_alone, sealed_by as stream_by, with_primary}
use Rattle.tinkey_readable.proofs.WrappedRunLemmas.{behind_files, form_within, given_keyset, opens_plan, put_reached, text_reached, unwrapped, wraps_done}
use Rattle.tinkey_readable.specs.Anywhere.{DopensAnywhere, DopensSomehowAnywhere, IsReadAnywhere, IsReadSomehowAnywhere, IsTaken, OpensAnywhere, OpensEnvelopeAnywhere, OpensFirstAnywhere, OpensRangeAnywhere, OpensSomehowAnywhere, OpensStreamAnywhere, ServesStreams, UnwrapsAnywhere, VerifiesAnywhere, WasMadeBy, by_call, by_line, by_locked, by_locked_line, by_run, ServesEnvelopes}
use Rattle.tinkey_readable.specs.Calls.{CallsGive, IsHandle, asked_by, input_of}
use Rattle.tinkey_readable.specs.EnvelopeRuns.{IsEnveloped, MakeOneType, WasEnveloped}
use Rattle.tinkey_readable.specs.LineRuns.{IsTurnAt, asks, done_reply}
use Rattle.tinkey_readable.specs.LockedRuns.{IsDoneUnder}
use Rattle.tinkey_readable.specs.Lying.{Lies, LiesAs, Lying, lock_in}
use Rattle.tinkey_readable.specs.RangeRuns.{IsRanged}
use Rattle.tinkey_readable.specs.Runs.{IsDone, IsFree, ReadIsStored, bytes_at, saving_lines}
use Rattle.tinkey_readable.specs.StreamRuns.{IsOpened, NoOtherBefore, WasSealed}
use Rattle.tinkey_words.specs.Words.{AskedEnvelope, AskedWork, primitive_for, to_dopen, to_dseal, to_eopen, to_eseal, to_open, to_seal, to_tag, to_verify}
use Rattle.tinkey_plans.specs.UnfitKeys.{unfit_key}

-- ---- where something was made

-- the keyset that made it of an input within a limit
pub record Maker (input : List ℕ) (most : ℕ) (Makes : Keys → Type 0) (r : Record) : Type 0 where
  pub old : Keys
  pub primary : primary_of old ≡ Some r
  pub short : length input ≤ most
  pub makes : Makes old

unfoldable pub line_maker : (work : AskedWork) (input output : List ℕ) (r : Record) (Makes : Keys → Type 0)
    → ((keys : Keys) (random : List ℕ) (x : Served) → serve standard_table keys (asks work input) random ≡ Some x → x.reply ≡ Gives output → Makes keys)
    → (form : Form) (answers : StoreAnswers) (keys : Keys) (told : Told) (place : ℕ) (t : Turn) → IsTurnAt form answers keys told place t → length input ≤ limit_for work → t.line ≡ asks work input → t.reply ≡ Gives output → primary_of t.before ≡ Some r
    → Maker input (limit_for work) Makes r
line_maker work input output r Makes of_line form answers keys told place t there short line reply primary =
    let at = reached standard_table (saving_lines standard_table form answers keys (asked_in told.input) told.random) keys told.random place t there in
    record {
      old = t.before;
      primary = primary;
      short = short;
      makes = of_line t.before at.random at.served (subst (λ asked. serve standard_table t.before asked at.random ≡ Some at.served) line at.is) (sym at.reply ∙ reply);
    }

unfoldable pub maker : ReadKeysFit → (work : AskedWork) (input output : List ℕ) (r : Record) (Makes : Keys → Type 0)
    → ((old : Keys) (told : Told) → IsKeyset old → Started work old told output → told.input ≡ input → Makes old)
    → ((keys : Keys) (random : List ℕ) (x : Served) → serve standard_table keys (asks work input) random ≡ Some x → x.reply ≡ Gives output → Makes keys)
    → ((keys : Keys) (call : Work) → asked_by call ≡ work → input_of call ≡ input → call_answer keys call ≡ Some output → Makes keys)
    → WasMadeBy work input output r → Maker input (limit_for work) Makes r
maker fit work input output r Makes of_run of_line of_call (by_run before old read told was same primary) =
    let k = read_keyset fit before.form before.bytes old (done_within work before told output was) read in
    let b = started work before old told output read was in
    record { old = old; primary = primary; short = subst (λ i. length i ≤ limit_for work) same b.fits; makes = of_run old told k b same }
maker fit work input output r Makes of_run of_line of_call (by_locked master text over old read gives told was same primary) =
    let b = started_under work master text over old told output read gives was in
    record {
      old = old;
      primary = primary;
      short = subst (λ i. length i ≤ limit_for work) same b.fits;
      makes = of_run old told (sealed_is_keyset over text old gives) b same;
    }
maker fit work input output r Makes of_run of_line of_call (by_line before told t has short line reply primary) = line_maker work input output r Makes of_line has.form has.answers has.keys told has.place t has.there short line reply primary
maker fit work input output r Makes of_run of_line of_call (by_locked_line master text told t has short line reply primary) = line_maker work input output r Makes of_line has.form has.answers has.keys told has.place t has.there short line reply primary
maker fit work input output r Makes of_run of_line of_call (by_call was short) = record {
  old = was.keys;
  primary = was.primary;
  short = short;
  makes = of_call was.keys was.call was.asks was.takes (called_answer work input output r was);
}

-- ---- where it is read

-- by each call of a handle of some keyset
call_reads : (work : AskedWork) (input : List ℕ) (P : List ℕ → Type 0) (keys : Keys) (ready : ReadyKeyset) → IsHandle (primitive_for work) keys ready → (a : Answers work input P keys) → CallsGive work ready input a.other
call_reads work input P keys ready handle a = calls_give work keys ready input a.other handle a.of_call

-- by a line over some keyset
line_reads : (work : AskedWork) (input : List ℕ) (P : List ℕ → Type 0) (form : Form) (answers : StoreAnswers) (keys : Keys) (told : Told) (place : ℕ) (t : Turn) → IsTurnAt form answers keys told place t → t.line ≡ asks work input → unfit t.before (primitive_for work) standard_table ≡ None
    → (a : Answers work input P t.before) → t.reply ≡ done_reply work a.other
line_reads work input P form answers keys told place t there line fit a =
    let at = reached standard_table (saving_lines standard_table form answers keys (asked_in told.input) told.random) keys told.random place t there in
    at.reply ∙ a.of_line at.random at.served fit (subst (λ asked. serve standard_table t.before asked at.random ≡ Some at.served) line at.is)

pub read_over : {While : Record → Keys → Type 0} (work : AskedWork) (input output : List ℕ) (r : Record) → length input ≤ limit_for work → ((keys : Keys) → While r keys → Answers work input (λ other. other ≡ output) keys) → IsReadAnywhere While work input output r
read_over work input output r fits answers = record {
  by_run = λ written keys serves while'.
      let a = answers keys while' in
      subst (λ o. IsDone work written input o) a.is (finished work written keys input a.other serves.read serves.within serves.fit fits a.of_run);
  by_locked = λ master text keys serves while'.
      let a = answers keys while' in
      subst (λ o. IsDoneUnder work master text input o) a.is (finished_under work master text keys input a.other serves fits a.of_run);
  by_line = λ written told t has line fit while'.
      let a = answers t.before while' in
      line_reads work input (λ other. other ≡ output) has.form has.answers has.keys told has.place t has.there line fit a ∙ ap (done_reply work) a.is;
  by_locked_line = λ master text told t has line fit while'.
      let a = answers t.before while' in
      line_reads work input (λ other. other ≡ output) has.form has.answers has.keys told has.place t has.there line fit a ∙ ap (done_reply work) a.is;
  by_call = λ keys ready handle while'.
      let a = answers keys while' in
      subst (λ o. CallsGive work ready input o) a.is (call_reads work input (λ other. other ≡ output) keys ready handle a);
}

read_somehow_over : (work : AskedWork) (input : List ℕ) (r : Record) → length input ≤ limit_for work → ((keys : Keys) → HasKey r keys → Answers work input (λ other. Unit {0}) keys) → IsReadSomehowAnywhere work input r
read_somehow_over work input r fits answers = record {
  by_run = λ written keys serves has.
      let a = answers keys has in
      (a.other, finished work written keys input a.other serves.read serves.within serves.fit fits a.of_run);
  by_locked = λ master text keys serves has.
      let a = answers keys has in
      (a.other, finished_under work master text keys input a.other serves fits a.of_run);
  by_line = λ written told t turn line fit has.
      let a = answers t.before has in
      (a.other, line_reads work input (λ other. Unit {0}) turn.form turn.answers turn.keys told turn.place t turn.there line fit a);
  by_locked_line = λ master text told t turn line fit has.
      let a = answers t.before has in
      (a.other, line_reads work input (λ other. Unit {0}) turn.form turn.answers turn.keys told turn.place t turn.there line fit a);
  by_call = λ keys ready handle has.
      let a = answers keys has in
      (a.other, call_reads work input (λ other. Unit {0}) keys ready handle a);
}

-- ---- seals

-- what a call sealed, a keyset sealed with some random bytes
pub call_makes_seal : (keys : Keys) (ad plain sealed : List ℕ) (call : Work) → asked_by call ≡ to_seal ad → input_of call ≡ plain → call_answer keys call ≡ Some sealed → MakesSeal plain ad sealed keys
call_makes_seal keys ad plain sealed call how takes is =
    let s = call_seals keys ad plain sealed call how takes is in
    record { random = s.0; made = s.1; is = s.2; bytes = s.3 }

pub seal_maker : ReadKeysFit → (ad plain sealed : List ℕ) (r : Record) → WasMadeBy (to_seal ad) plain sealed r → Maker plain input_limit (MakesSeal plain ad sealed) r
unfolding serve
seal_maker fit ad plain sealed r was = maker fit (to_seal ad) plain sealed r (MakesSeal plain ad sealed)
    (λ old told k b same. let s = sealed_by old ad told sealed b in record { random = told.random; made = s.0; is = ap (λ i. seal_answer old standard_table i ad told.random) (sym same) ∙ s.1; bytes = s.2 })
    (λ keys random x e is.
    let g = gave Aead keys random (option_map (sealed_reply keys) (seal_answer keys standard_table plain ad random)) x sealed e is in
    let there = map_some (sealed_reply keys) (seal_answer keys standard_table plain ad random) x g.1 in
    record { random = random; made = there.0; is = there.1; bytes = same_bytes _ _ (ap (λ y. y.reply) there.2 ∙ is) })
    (λ keys call how takes is. call_makes_seal keys ad plain sealed call how takes is)
    was

pub opens_anywhere : SealingsFit → ReadKeysFit → KeptOpen → OpensAnywhere
opens_anywhere sizes fit kept ad plain sealed prefix r is was =
    let o = seal_maker fit ad plain sealed r was in
    let m = o.makes in
    read_over (to_open ad) sealed plain r (sealed_fits sizes o.old plain ad m.random m.made sealed m.is m.bytes o.short) (λ keys same.
    open_answers (λ other. other ≡ plain) keys sealed ad plain refl (ap (λ c. open_answer keys standard_table c ad) (sym m.bytes) ∙ kept o.old keys r prefix plain ad m.random m.made same o.primary is m.is))

pub opens_somehow_anywhere : SealingsFit → ReadKeysFit → KeptOpenPresent → OpensSomehowAnywhere
opens_somehow_anywhere sizes fit kept ad plain sealed r was =
    let o = seal_maker fit ad plain sealed r was in
    let m = o.makes in
    read_somehow_over (to_open ad) sealed r (sealed_fits sizes o.old plain ad m.random m.made sealed m.is m.bytes o.short) (λ keys has.
    let opened = kept o.old keys r plain ad m.random m.made has o.primary m.is in
    open_answers (λ other. Unit {0}) keys sealed ad opened.0 tt (ap (λ c. open_answer keys standard_table c ad) (sym m.bytes) ∙ opened.1))

-- ---- seals without an IV

pub dseal_maker : FitKeysetsAnswer → ReadKeysFit → (ad plain sealed : List ℕ) (r : Record) → WasMadeBy (to_dseal ad) plain sealed r → Maker plain input_limit (λ keys. dseal_answer keys standard_table plain ad ≡ Some sealed) r
unfolding serve
dseal_maker fits fit ad plain sealed r was = maker fit (to_dseal ad) plain sealed r (λ keys. dseal_answer keys standard_table plain ad ≡ Some sealed)
    (λ old told k b same. ap (λ i. dseal_answer old standard_table i ad) (sym same) ∙ dsealed_by fits old ad told sealed k b)
    (λ keys random x e is. (computed_gave Daead keys random (dseal_answer keys standard_table plain ad) sealed x e is).1)
    (λ keys call how takes is. call_dseals keys ad plain sealed call how takes is)
    was

pub dopens_anywhere : DsealingsFit → FitKeysetsAnswer → ReadKeysFit → KeptDopen → DopensAnywhere
dopens_anywhere sizes fits fit kept ad plain sealed prefix r is was =
    let o = dseal_maker fits fit ad plain sealed r was in
    read_over (to_dopen ad) sealed plain r (dsealed_fits sizes o.old plain ad sealed o.makes o.short) (λ keys same.
    dopen_answers (λ other. other ≡ plain) keys sealed ad plain refl (kept o.old keys r prefix plain ad sealed same o.primary is o.makes))

pub dopens_somehow_anywhere : DsealingsFit → FitKeysetsAnswer → ReadKeysFit → KeptDopenPresent → DopensSomehowAnywhere
dopens_somehow_anywhere sizes fits fit kept ad plain sealed r was =
    let o = dseal_maker fits fit ad plain sealed r was in
    read_somehow_over (to_dopen ad) sealed r (dsealed_fits sizes o.old plain ad sealed o.makes o.short) (λ keys has.
    let opened = kept o.old keys r plain ad sealed has o.primary o.makes in
    dopen_answers (λ other. Unit {0}) keys sealed ad opened.0 tt opened.1)

-- ---- tags

pub tag_maker : FitKeysetsAnswer → ReadKeysFit → (tag body : List ℕ) (r : Record) → WasMadeBy to_tag body tag r → Maker body input_limit (λ keys. tag_answer keys standard_table body ≡ Some tag) r
unfolding serve
tag_maker fits fit tag body r was = maker fit to_tag body tag r (λ keys. tag_answer keys standard_table body ≡ Some tag)
    (λ old told k b same. ap (λ i. tag_answer old standard_table i) (sym same) ∙ tagged_by fits old told tag k b)
    (λ keys random x e is. (computed_gave Mac keys random (tag_answer keys standard_table body) tag x e is).1)
    (λ keys call how takes is. call_tags keys body tag call how takes is)
    was

pub verifies_anywhere : FitKeysetsAnswer → ReadKeysFit → KeptTag → VerifiesAnywhere
verifies_anywhere fits fit kept tag body r was =
    let o = tag_maker fits fit tag body r was in
    read_over (to_verify tag) body [] r o.short (λ keys has.
    verify_answers keys tag body (kept o.old keys r tag body has o.primary o.makes))

-- ---- streams

-- a stream that was sealed under a key of this record
pub record MadeStream (r : Record) (ad stream plain : List ℕ) : Type 0 where
  pub key : StreamKey
  pub gives : stream_key_of r ≡ Ok key
  pub alone : stream_answer (cipher_of ad key ∷ []) stream ≡ (plain, None)

pub stream_maker : StreamBack → (before : Lying) (old : Keys) (r : Record) (ad stream : List ℕ) (told : Told) → Lies before old → primary_of old ≡ Some r → WasSealed ad before told stream → MadeStream r ad stream told.input
stream_maker back before old r ad stream told lies primary was =
    let u = keys_loaded standard_table (lock_in before.master was.lock) was.name before.text.form (λ k. begins_file was.out (seals_stream k ad was.out)) told was.done in
    let same = same_lying before old u.keys told was.lock was.name lies was.lies u.lies in
    let s = stream_by (with_primary u.keys u.primary) ad was.out told stream _ u.goes_on was.done was.gave in
    let gives : stream_key_of r ≡ Ok u.primary = primary_gives old r u.primary primary (ap primary_key (sym same) ∙ u.there) in
    record { key = u.primary; gives = gives; alone = opens_alone back u.primary ad told stream (sound_key r u.primary gives) s }

-- a keyset that is taken is one
taken_keyset : ReadKeysFit → (other : Lying) (keys : Keys) → IsTaken other keys → IsKeyset keys
taken_keyset fit other keys taken = given_is_keyset fit standard_table taken.master other.text.form other.text.bytes keys taken.gives taken.within

-- a keyset that serves streams has a primary key for them
primary_there : ReadKeysFit → (other : Lying) (keys : Keys) → ServesStreams other keys → (key : StreamKey) × (primary_key keys ≡ Some key)
primary_there fit other keys serves = primary_key_there keys (fit_sound keys (taken_keyset fit other keys serves.taken) serves.fit)

-- the steps behind its keys are reached
served_reached : (other : Lying) (keys : Keys) (primary : StreamKey) (next : KeysForStreams → Plan) (told : Told) (lock name : List ℕ) → ServesStreams other keys → primary_key keys ≡ Some primary → LiesAs other told lock name
    → answer (loads_stream_keys standard_table (lock_in other.master lock) name other.text.form next) told ≡ answer (next (with_primary keys primary)) told
served_reached other keys primary next told lock name serves is there =
    keys_reached standard_table (lock_in other.master lock) name other.text.form keys primary next told (taken_behind other keys told lock name serves.taken there) serves.fit is

pub opens_made : ReadKeysFit → (other : Lying) (keys : Keys) (r : Record) (ad stream plain : List ℕ) → MadeStream r ad stream plain → ServesStreams other keys → (has : HasKey r keys) → NoOtherBefore r has.place ad stream keys → IsOpened ad other stream plain
opens_made fit other keys r ad stream plain m serves has only =
    let p = primary_there fit other keys serves in
    let opens = opens_under keys r m.key ad stream plain has m.gives only m.alone in
    λ t lock name out there input free.
    opened_so (with_primary keys p.0) ad out t stream plain _ (served_reached other keys p.0 (λ k. begins_file out (opens_stream k ad out)) t lock name serves p.1 there) input free opens.answer

pub opens_stream_anywhere : StreamBack → ReadKeysFit → OpensStreamAnywhere
opens_stream_anywhere back fit before other old keys r ad stream told lies primary was serves has only =
    opens_made fit other keys r ad stream told.input (stream_maker back before old r ad stream told lies primary was) serves has only

pub opens_first_anywhere : StreamBack → ReadKeysFit → OpensFirstAnywhere
opens_first_anywhere back fit before other old keys r ad stream told lies primary was serves has =
    let m = stream_maker back before old r ad stream told lies primary was in
    let p = primary_there fit other keys serves in
    let f = first_under keys r m.key ad stream told.input has m.gives m.alone in
    record {
      key = f.key;
      place = f.place;
      there = f.there;
      first = f.first;
      answers = λ t lock name out there input free.
          served_reached other keys p.0 (λ k. begins_file out (opens_stream k ad out)) t lock name serves p.1 there
          ∙ chosen_so (with_primary keys p.0) f.key ad out t stream input free f.choice;
    }

pub ranges_made : RangeIsSlice → ReadKeysFit → (other : Lying) (keys : Keys) (r : Record) (ad stream plain : List ℕ) → MadeStream r ad stream plain → ServesStreams other keys → (has : HasKey r keys) → NoOtherBefore r has.place ad stream keys → IsRanged ad other stream plain
ranges_made slice fit other keys r ad stream plain m serves has only =
    let p = primary_there fit other keys serves in
    let opens = opens_under keys r m.key ad stream plain has m.gives only m.alone in
    let with' = with_primary keys p.0 in
    record {
      within = λ t lock name range out lie free within.
          let reached' = served_reached other keys p.0 (λ k. opens_file_range k ad range (puts out)) t lock name serves p.1 lie.keyset in
          let part : List ℕ = take range.size (drop range.from plain) in
          let e = reached' ∙ file_range_reached with' ad stream range out t (Ok part) lie.sealed (range_within slice keys ad stream plain range.from range.size opens within) in
          let done = puts_reached out part t free in
          (ap (λ (a : Answer). a.status) e ∙ done, ap (λ (a : Answer). bytes_at out a.files a.output) e ∙ bytes_put out part t done);
      past = λ t lock name range out lie behind'.
          let reached' = served_reached other keys p.0 (λ k. opens_file_range k ad range (puts out)) t lock name serves p.1 lie.keyset in
          reached' ∙ file_range_reached with' ad stream range out t (Err past_end) lie.sealed (range_past slice keys ad stream plain range.from range.size opens behind');
    }

pub opens_range_anywhere : StreamBack → RangeIsSlice → ReadKeysFit → OpensRangeAnywhere
opens_range_anywhere back slice fit before other old keys r ad stream told lies primary was serves has only =
    ranges_made slice fit other keys r ad stream told.input (stream_maker back before old r ad stream told lies primary was) serves has only

-- ---- envelopes

-- what a run did by data keys over a keyset, as its answer to standard output
pub record WasUsed (work : AskedEnvelope) (template : List ℕ) (told : Told) (output : List ℕ) (keys : Keys) : Type 0 where
  pub row : Row
  pub named : row_named template ≡ Some row
  pub aead : IsAead row
  pub scheme : Scheme
  pub served : scheme_at standard_table Aead (url_made row) ≡ Some scheme
  pub keyset : IsKeyset keys
  pub fit : unfit keys Aead standard_table ≡ None
  pub short : length told.input ≤ envelope_limit work
  pub done : IsDoneAnswer (answer (envelopes standard_table keys scheme row work told.input writes) (record told { input = [] }))
  pub gave : (answer (envelopes standard_table keys scheme row work told.input writes) (record told { input = [] })).output ≡ output

pub was_used : ReadKeysFit → (work : AskedEnvelope) (before : Lying) (old : Keys) (template output : List ℕ) (told : Told) → Lies before old → WasEnveloped work template before told output → WasUsed work template told output old
was_used fit work before old template output told lies was =
    let lock = lock_in before.master was.lock in
    let u = used_done standard_table lock was.name before.text.form template work (puts was.out) told was.done in
    let from = u.keys in
    let here : from ≡ old = same_lying before old from told was.lock was.name lies was.lies u.lies in
    let left = record told { input = [] } in
    let steps = envelopes standard_table from u.scheme u.row work told.input in
    let done : IsDoneAnswer (answer (envelopes standard_table from u.scheme u.row work told.input (puts was.out)) (record told { input = [] })) = ap (λ (a : Answer). a.status) (sym u.goes_on) ∙ was.done in
    let w = envelope_worked standard_table from u.scheme u.row work told.input (puts was.out) left done in
    let made = made_is steps left false was.out output w done (ap (λ (a : Answer). bytes_at was.out a.files a.output) (sym u.goes_on) ∙ was.gave) (λ hex. absurd (cc)) in
    let gone = made_written steps left output w made in
    subst (WasUsed work template told output) here (record {
      row = u.row;
      named = u.named;
      aead = u.aead;
      scheme = u.scheme;
      served = u.served;
      keyset = given_is_keyset fit standard_table u.lies.master before.text.form u.lies.lies.bytes from u.lies.lies.gives u.lies.lies.within;
      fit = u.fit;
      short = u.fits;
      done = gone.0;
      gave = gone.1;
    })

-- an envelope that opens is opened so
pub is_opened : (other : Lying) (keys : Keys) (row : Row) (scheme : Scheme) (template again ad sealed plain : List ℕ) → row_named template ≡ Some row → IsAead row → scheme_at standard_table Aead (url_made row) ≡ Some scheme → MakeOneType template again → ServesEnvelopes other keys
    → length sealed ≤ sealed_limit → open_envelope_of keys standard_table scheme sealed ad ≡ Some plain → IsEnveloped (to_eopen ad) again other sealed plain
is_opened other keys row scheme template again ad sealed plain named aead served one_type serves short opened =
    let found = map_some type_made (row_named again) (type_made row) (sym one_type ∙ ap (option_map type_made) named) in
    λ t file name out there input free.
    let r' = used_reached standard_table (lock_in other.master file) name other.text.form again found.0 scheme (to_eopen ad) (puts out) keys t found.1 (ap primitive_of_type found.2 ∙ aead) (ap (λ made. scheme_at standard_table Aead (url_of_type made)) found.2 ∙ served) (taken_behind other keys t file name serves.taken there) serves.fit (subst (λ i. length i ≤ sealed_limit) (sym input) short) in
    let g = opens_so unopened.Envelope (envelope_sealer_of keys t.input) (open_envelope_of keys standard_table scheme t.input ad) plain (record t { input = [] }) (ap (λ i. open_envelope_of keys standard_table scheme i ad) input ∙ opened) in
    let opening = envelope_worked standard_table keys scheme found.0 (to_eopen ad) t.input writes (record t { input = [] }) g.0 in
    let p = made_put (envelopes standard_table keys scheme found.0 (to_eopen ad) t.input) (record t { input = [] }) false out plain opening g.1 free in
    (ap (λ (a : Answer). a.status) r' ∙ p.0, ap (λ (a : Answer). bytes_at out a.files a.output) r' ∙ p.1)

pub opens_envelope_anywhere : EnvelopeBack → EnvelopesFit → DataKeysAreServed → ReadKeysFit → OpensEnvelopeAnywhere
opens_envelope_anywhere back sizes served fit before other old keys r prefix template again ad sealed told lies primary is was one_type serves same =
    let u = was_used fit (to_eseal ad) before old template sealed told lies was in
    let s = enveloped_by old u.scheme u.row ad told sealed u.done u.gave in
    let row : IsDataKeyRow u.row = record { known = row_known template u.row u.named; aead = u.aead } in
    let opened = back standard_table u.scheme u.row old keys r prefix told.input ad told.random sealed s.0 row (aead_scheme served u.row u.scheme u.aead u.served) primary is (gives_key_for old r u.fit u.keyset primary) same s.1 in
    let short : length sealed ≤ sealed_limit = omega (arith, sizes standard_table u.scheme u.row old told.input ad told.random sealed s.0 row s.1, u.short) in
    is_opened other keys u.row u.scheme template again ad sealed told.input u.named u.aead u.served one_type serves short opened

-- ---- wrapped keysets

pub unwraps_anywhere : FaultlessKeysets → BinaryBack → JsonBack → ReadIsStored → WrapBackBytes → UnwrapsAnywhere
unwraps_anywhere law binary json stored back master other old new r prefix holds_master is_master primary prefixed wrap before text keys x random holds is serves same told name in' out lies in_form read free short =
    let w = wraps_done wrap master before text old keys x is_master is in
    let gave' = unwrapped law binary json stored back wrap master before text old new keys r prefix x is_master is holds_master holds random primary prefixed same in
    let l = load_reached origins.Master name other.form other.bytes new (λ m. handles origins.Master standard_table Aead m (λ fit. opens_plan in' out m)) told lies serves.read serves.within in
    let f : answer (unless_unfit (unfit_key origins.Master new) (unfit new Aead standard_table) (opens_plan in' out new)) told ≡ answer (opens_plan in' out new) told = ap (λ u. answer (unless_unfit (unfit_key origins.Master new) u (opens_plan in' out new)) told) serves.fit in
    let t = text_reached origins.In in'.file text.bytes (λ text. unwraps (origin_of origins.In in'.file) new standard_table in'.form text (puts_keyset out)) told read w.short in
    let behind' = behind in'.file told in
    let g = given_keyset (origin_of origins.In in'.file) new in'.form text.bytes keys (puts_keyset out) behind' (ap (λ f. unwrap_of new standard_table text.bytes (is_json f)) in_form ∙ gave') in
    let whole = l ∙ f ∙ t ∙ g in
    let done = put_reached out keys behind' (form_within out.form keys w.binary_within short) (subst (IsFree out.file) (sym (behind_files in'.file told)) free) in
    let p = put_done out keys behind' done in
    (ap (λ (a : Answer). a.status) whole ∙ done, ap (λ (a : Answer). bytes_at out.file a.files a.output) whole ∙ p.there)
