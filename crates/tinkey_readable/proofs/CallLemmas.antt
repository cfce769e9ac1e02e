-- Calls of the library: what they answer over the keyset of their handle, and of which keysets there are handles.
use Rattle.std.proofs.Common.{arith, ◌≡◌, ◌∙◌, inl, inr, sym, refl, ap, subst, ℕ, ◌≤◌, true, List, [], length, Option, Some, None, Result, Ok, Err}
use Rattle.std.specs.Prelude.{IsErr, IsSome}
use Rattle.std.specs.Result.{result_ok}
use Rattle.std.proofs.lemmas.Option.{same_Some}
use Rattle.key_msgs.specs.declared.primitive.Primitive.{Primitive}
use Rattle.key_msgs.specs.declared.primitive.Primitive.TheVariants.{Aead}
use Rattle.keyset_json.specs.Reading.{reads_json}
use Rattle.keyset_model.specs.Keyset.{Keys}
use Rattle.keyset_model.specs.Reading.{reads_binary}
use Rattle.keyset_model.specs.declared.record.Record.{Record}
use Rattle.managers.specs.Standard.{standard_table}
use Rattle.ready_keysets.specs.Texts.{IsNoKeyset, IsOf, ReadUnfit}
use Rattle.ready_keysets.specs.Unwrapping.{IsNoWrapped, IsNoneInside, IsNotInside, Lack, inside_by, master_in, of_fit}
use Rattle.ready_keysets.specs.Working.{IsOutcome, NeedsMore, primitive_of, verified}
use Rattle.ready_keysets.specs.Working.{answer as call_answer}
use Rattle.ready_keysets.specs.declared.ready.ReadyKeyset.{ReadyKeyset}
use Rattle.ready_keysets.specs.declared.refusal.Refusal.{Refusal}
use Rattle.ready_keysets.specs.declared.refusal.Refusal.TheVariants as refusals
use Rattle.ready_keysets.specs.declared.work.Work.{Work}
use Rattle.ready_keysets.specs.declared.work.Work.TheVariants as calls
use Rattle.tinkey_plans.specs.Steps.{keyset_limit}
use Rattle.tinkey_plans.specs.Wrapping.{is_json, wrapped_limit}
use Rattle.tinkey_readable.specs.Calls.{CallsGive, IsHandle, IsMadeIn, IsNotMadeIn, Says, WasCalled, asked_by, input_of, inside_of, of_text, of_wrapped}
use Rattle.tinkey_readable.specs.LibraryTexts.{HandlesAreMade, HandlesServe, WrappedHandlesAreMade}
use Rattle.tinkey_readable.specs.LockedRuns.{GivesUnder}
use Rattle.tinkey_readable.specs.Runs.{Written, keyset_of, read_in}
use Rattle.tinkey_session.proofs.Options.{clash, map_some, no_truth}
use Rattle.tinkey_words.specs.declared.words.rows.Format.{Format}
use Rattle.tinkey_words.specs.declared.words.rows.Format.TheVariants as formats
use Rattle.tinkey_words.specs.Words.{AskedWork, primitive_for, to_dopen, to_dreseal, to_dseal, to_open, to_reseal, to_seal, to_tag, to_verify}
use Rattle.wrapped_prims.specs.Answers.{Sealed, dopen_answer, dseal_answer, open_answer, seal_answer, tag_answer, verify_answer}
use Rattle.wrapped_prims.specs.Fitness.{Unfit, unfit}

-- ---- the keyset of a handle

-- what was read of its text is the keyset
text_keyset : (form : Format) (primitive : Primitive) (text : List ℕ) (keys : Keys) (ready : ReadyKeyset) → read_in form text ≡ Some keys → IsMadeIn form primitive text ready → ready.keyset ≡ keys
text_keyset formats.Json primitive text keys ready read made = same_Some _ _ (ap result_ok (sym made.keyset) ∙ read)
text_keyset formats.Binary primitive text keys ready read made = same_Some _ _ (ap result_ok (sym made.keyset) ∙ read)

master_read : (form : Format) (text : List ℕ) (over : Keys) → read_in form text ≡ Some over → master_in (is_json form) text ≡ Some over
master_read formats.Json text over read = read
master_read formats.Binary text over read = read

-- what the two texts give, by what the encrypted one gives under the master
pub inside_is : (master text : Written) (over keys : Keys) → keyset_of master ≡ Some over → GivesUnder over text keys → inside_of master text ≡ of_fit (unfit over Aead standard_table) (Ok keys)
inside_is master text over keys read gives =
    ap (inside_by text.bytes (is_json text.form)) (master_read master.form master.bytes over read)
    ∙ ap (of_fit (unfit over Aead standard_table)) gives

pub fit_keys : (fault : Option (ℕ × Unfit)) (keys got : Keys) → of_fit fault (Ok keys) ≡ Ok got → got ≡ keys
fit_keys None keys got e = let same : keys ≡ got = cc in sym same
fit_keys (Some fault) keys got e = absurd (cc)

pub handle_keyset : (primitive : Primitive) (keys : Keys) (ready : ReadyKeyset) → IsHandle primitive keys ready → ready.keyset ≡ keys
handle_keyset primitive keys ready (of_text written read made) = text_keyset written.form primitive written.bytes keys ready read made
handle_keyset primitive keys ready (of_wrapped master text over read gives made) =
    fit_keys (unfit over Aead standard_table) keys ready.keyset (sym (inside_is master text over keys read gives) ∙ made.keyset)

text_primitive : (form : Format) (primitive : Primitive) (text : List ℕ) (ready : ReadyKeyset) → IsMadeIn form primitive text ready → ready.keys.primitive ≡ primitive
text_primitive formats.Json primitive text ready made = made.primitive'
text_primitive formats.Binary primitive text ready made = made.primitive'

handle_primitive : (primitive : Primitive) (keys : Keys) (ready : ReadyKeyset) → IsHandle primitive keys ready → ready.keys.primitive ≡ primitive
handle_primitive primitive keys ready (of_text written read made) = text_primitive written.form primitive written.bytes ready made
handle_primitive primitive keys ready (of_wrapped master text over read gives made) = made.primitive'

-- ---- what a call answers over that keyset

-- a call that was done gave the answer of the keyset
pub called_answer : (work : AskedWork) (input output : List ℕ) (r : Record) (was : WasCalled work input output r) → call_answer was.keys was.call ≡ Some output
called_answer work input output r was =
    ap (λ k. call_answer k was.call) (sym (handle_keyset (primitive_for work) was.keys was.ready was.handle))
    ∙ was.outcome.1.front ∙ ap Some was.gave

call_primitive : (call : Work) → primitive_of call ≡ primitive_for (asked_by call)
call_primitive (calls.Seal plain ad random) = refl
call_primitive (calls.Open sealed ad) = refl
call_primitive (calls.Dseal plain ad) = refl
call_primitive (calls.Dopen sealed ad) = refl
call_primitive (calls.Tag body) = refl
call_primitive (calls.Verify tag body) = refl
call_primitive (calls.Derive input size) = refl

-- a call whose answer is known says so
says : (primitive : Primitive) (keys : Keys) (call : Work) (output old new : List ℕ) (result : Result ℕ Refusal) → primitive_of call ≡ primitive → call_answer keys call ≡ Some output → IsOutcome primitive keys call old new result → Says call output old new result
says primitive keys call output old new (Ok size) own is outcome = same_Some _ _ (sym outcome.1.front ∙ is)
says primitive keys call output old new (Err refusals.NoMaster) own is outcome = absurd outcome
says primitive keys call output old new (Err refusals.UnfitMaster) own is outcome = absurd outcome
says primitive keys call output old new (Err refusals.NoWrapped) own is outcome = absurd outcome
says primitive keys call output old new (Err refusals.NoKeyset) own is outcome = absurd outcome
says primitive keys call output old new (Err refusals.UnfitKey) own is outcome = absurd outcome
says primitive keys call output old new (Err refusals.OtherPrimitive) own is outcome = absurd (outcome own)
says primitive keys call output old new (Err refusals.TooLong) own is outcome = elim outcome [
  | inl long ↦ long
  | inr none ↦ clash (sym none.0 ∙ is)
]
says primitive keys call output old new (Err refusals.FewRandomBytes) own is outcome = clash (sym outcome.0 ∙ is)
says primitive keys call output old new (Err refusals.Refused) own is outcome = clash (sym outcome.0 ∙ is)
says primitive keys call output old new (Err refusals.NoRoom) own is outcome = subst (λ (found : Option (List ℕ)). NeedsMore found (length old)) is outcome
says primitive keys call output old new (Err refusals.NoMemory) own is outcome = tt

-- so each call of a handle gives what its keyset answers
pub calls_give : (work : AskedWork) (keys : Keys) (ready : ReadyKeyset) (input output : List ℕ) → IsHandle (primitive_for work) keys ready
    → ((call : Work) → asked_by call ≡ work → input_of call ≡ input → call_answer keys call ≡ Some output) → CallsGive work ready input output
calls_give work keys ready input output handle answers call old new result asks takes outcome =
    says ready.keys.primitive ready.keyset call output old new result
    (call_primitive call ∙ ap primitive_for asks ∙ sym (handle_primitive (primitive_for work) keys ready handle))
    (ap (λ k. call_answer k call) (handle_keyset (primitive_for work) keys ready handle) ∙ answers call asks takes)
    outcome

-- ---- each work

pub call_seals : (keys : Keys) (ad plain sealed : List ℕ) (call : Work) → asked_by call ≡ to_seal ad → input_of call ≡ plain → call_answer keys call ≡ Some sealed
    → (random : List ℕ) × (s : Sealed) × (seal_answer keys standard_table plain ad random ≡ Some s) × (s.bytes ≡ sealed)
call_seals keys ad plain sealed (calls.Seal text datum random) asks takes is =
    let same : datum.now ≡ ad = cc in
    let there = map_some (λ (s : Sealed). s.bytes) (seal_answer keys standard_table text.now datum.now random.now) sealed is in (
      random.now,
      there.0,
      ap (λ d. seal_answer keys standard_table plain d random.now) (sym same) ∙ ap (λ t. seal_answer keys standard_table t datum.now random.now) (sym takes) ∙ there.1,
      there.2,
    )
call_seals keys ad plain sealed (calls.Open bytes datum) asks takes is = absurd (cc)
call_seals keys ad plain sealed (calls.Dseal text datum) asks takes is = absurd (cc)
call_seals keys ad plain sealed (calls.Dopen bytes datum) asks takes is = absurd (cc)
call_seals keys ad plain sealed (calls.Tag body) asks takes is = absurd (cc)
call_seals keys ad plain sealed (calls.Verify tag body) asks takes is = absurd (cc)
call_seals keys ad plain sealed (calls.Derive input size) asks takes is = absurd (cc)

pub call_dseals : (keys : Keys) (ad plain sealed : List ℕ) (call : Work) → asked_by call ≡ to_dseal ad → input_of call ≡ plain → call_answer keys call ≡ Some sealed → dseal_answer keys standard_table plain ad ≡ Some sealed
call_dseals keys ad plain sealed (calls.Dseal text datum) asks takes is =
    let same : datum.now ≡ ad = cc in
    ap (λ d. dseal_answer keys standard_table plain d) (sym same) ∙ ap (λ t. dseal_answer keys standard_table t datum.now) (sym takes) ∙ is
call_dseals keys ad plain sealed (calls.Seal text datum random) asks takes is = absurd (cc)
call_dseals keys ad plain sealed (calls.Open bytes datum) asks takes is = absurd (cc)
call_dseals keys ad plain sealed (calls.Dopen bytes datum) asks takes is = absurd (cc)
call_dseals keys ad plain sealed (calls.Tag body) asks takes is = absurd (cc)
call_dseals keys ad plain sealed (calls.Verify tag body) asks takes is = absurd (cc)
call_dseals keys ad plain sealed (calls.Derive input size) asks takes is = absurd (cc)

pub call_tags : (keys : Keys) (body tag : List ℕ) (call : Work) → asked_by call ≡ to_tag → input_of call ≡ body → call_answer keys call ≡ Some tag → tag_answer keys standard_table body ≡ Some tag
call_tags keys body tag (calls.Tag text) asks takes is = ap (tag_answer keys standard_table) (sym takes) ∙ is
call_tags keys body tag (calls.Seal text datum random) asks takes is = absurd (cc)
call_tags keys body tag (calls.Open bytes datum) asks takes is = absurd (cc)
call_tags keys body tag (calls.Dseal text datum) asks takes is = absurd (cc)
call_tags keys body tag (calls.Dopen bytes datum) asks takes is = absurd (cc)
call_tags keys body tag (calls.Verify other text) asks takes is = absurd (cc)
call_tags keys body tag (calls.Derive input size) asks takes is = absurd (cc)

pub call_opens : (keys : Keys) (ad sealed plain : List ℕ) → open_answer keys standard_table sealed ad ≡ Some plain → (call : Work) → asked_by call ≡ to_open ad → input_of call ≡ sealed → call_answer keys call ≡ Some plain
call_opens keys ad sealed plain is (calls.Open bytes datum) asks takes =
    let same : datum.now ≡ ad = cc in
    ap (λ b. open_answer keys standard_table b datum.now) takes ∙ ap (λ d. open_answer keys standard_table sealed d) same ∙ is
call_opens keys ad sealed plain is (calls.Seal text datum random) asks takes = absurd (cc)
call_opens keys ad sealed plain is (calls.Dseal text datum) asks takes = absurd (cc)
call_opens keys ad sealed plain is (calls.Dopen bytes datum) asks takes = absurd (cc)
call_opens keys ad sealed plain is (calls.Tag body) asks takes = absurd (cc)
call_opens keys ad sealed plain is (calls.Verify tag body) asks takes = absurd (cc)
call_opens keys ad sealed plain is (calls.Derive input size) asks takes = absurd (cc)

pub call_dopens : (keys : Keys) (ad sealed plain : List ℕ) → dopen_answer keys standard_table sealed ad ≡ Some plain → (call : Work) → asked_by call ≡ to_dopen ad → input_of call ≡ sealed → call_answer keys call ≡ Some plain
call_dopens keys ad sealed plain is (calls.Dopen bytes datum) asks takes =
    let same : datum.now ≡ ad = cc in
    ap (λ b. dopen_answer keys standard_table b datum.now) takes ∙ ap (λ d. dopen_answer keys standard_table sealed d) same ∙ is
call_dopens keys ad sealed plain is (calls.Seal text datum random) asks takes = absurd (cc)
call_dopens keys ad sealed plain is (calls.Open bytes datum) asks takes = absurd (cc)
call_dopens keys ad sealed plain is (calls.Dseal text datum) asks takes = absurd (cc)
call_dopens keys ad sealed plain is (calls.Tag body) asks takes = absurd (cc)
call_dopens keys ad sealed plain is (calls.Verify tag body) asks takes = absurd (cc)
call_dopens keys ad sealed plain is (calls.Derive input size) asks takes = absurd (cc)

pub call_verifies : (keys : Keys) (tag body : List ℕ) → verify_answer keys standard_table tag body ≡ true → (call : Work) → asked_by call ≡ to_verify tag → input_of call ≡ body → call_answer keys call ≡ Some []
call_verifies keys tag body is (calls.Verify other text) asks takes =
    let same : other.now ≡ tag = cc in
    let whole = ap (λ b. verify_answer keys standard_table other.now b) takes ∙ ap (λ t. verify_answer keys standard_table t body) same ∙ is in
    ap verified whole
call_verifies keys tag body is (calls.Seal text datum random) asks takes = absurd (cc)
call_verifies keys tag body is (calls.Open bytes datum) asks takes = absurd (cc)
call_verifies keys tag body is (calls.Dseal text datum) asks takes = absurd (cc)
call_verifies keys tag body is (calls.Dopen bytes datum) asks takes = absurd (cc)
call_verifies keys tag body is (calls.Tag text) asks takes = absurd (cc)
call_verifies keys tag body is (calls.Derive input size) asks takes = absurd (cc)

-- no call reseals
pub no_reseal : {P : Type 0} (ad : List ℕ) (call : Work) → asked_by call ≡ to_reseal ad → P
no_reseal ad (calls.Seal text datum random) asks = absurd (cc)
no_reseal ad (calls.Open bytes datum) asks = absurd (cc)
no_reseal ad (calls.Dseal text datum) asks = absurd (cc)
no_reseal ad (calls.Dopen bytes datum) asks = absurd (cc)
no_reseal ad (calls.Tag body) asks = absurd (cc)
no_reseal ad (calls.Verify tag body) asks = absurd (cc)
no_reseal ad (calls.Derive input size) asks = absurd (cc)

pub no_dreseal : {P : Type 0} (ad : List ℕ) (call : Work) → asked_by call ≡ to_dreseal ad → P
no_dreseal ad (calls.Seal text datum random) asks = absurd (cc)
no_dreseal ad (calls.Open bytes datum) asks = absurd (cc)
no_dreseal ad (calls.Dseal text datum) asks = absurd (cc)
no_dreseal ad (calls.Dopen bytes datum) asks = absurd (cc)
no_dreseal ad (calls.Tag body) asks = absurd (cc)
no_dreseal ad (calls.Verify tag body) asks = absurd (cc)
no_dreseal ad (calls.Derive input size) asks = absurd (cc)

-- ---- of which keysets there are handles

pub ok_same : {X : Type 0} (read : Result Keys X) (a b : Keys) → read ≡ Ok a → read ≡ Ok b → a ≡ b
ok_same (Ok got) a b is other = let first : got ≡ a = cc in let second : got ≡ b = cc in sym first ∙ second
ok_same (Err why) a b is other = absurd (cc)

-- a keyset that was read isn't unfit where it serves
not_unfit : {X : Type 0} {P : Type 0} (primitive : Primitive) (read : Result Keys X) (keys : Keys) → read ≡ Ok keys → unfit keys primitive standard_table ≡ None → ReadUnfit primitive read → P
not_unfit primitive read keys is fit why =
    let same = ok_same read keys why.keys is why.keyset in
    let some : IsSome (unfit keys primitive standard_table) = subst (λ (k : Keys). IsSome (unfit k primitive standard_table)) (sym same) why.unfit' in
    no_truth (subst (λ (o : Option (ℕ × Unfit)). IsSome o) fit some)

-- nor is a result without an error one with an error
pub not_failed : {X P : Type 0} (read : Result Keys X) (keys : Keys) → read ≡ Ok keys → IsErr read → P
not_failed (Ok got) keys is failed = no_truth failed
not_failed (Err why) keys is failed = absurd (cc)

read_made : {X : Type 0} (primitive : Primitive) (size : ℕ) (read : Result Keys X) (keys : Keys) (refusal : Refusal) → read ≡ Ok keys → unfit keys primitive standard_table ≡ None → size ≤ keyset_limit → IsNoKeyset primitive size read refusal → refusal ≡ refusals.NoMemory
read_made primitive size read keys refusals.NoMaster is fit within why = absurd why
read_made primitive size read keys refusals.UnfitMaster is fit within why = absurd why
read_made primitive size read keys refusals.NoWrapped is fit within why = absurd why
read_made primitive size read keys refusals.NoKeyset is fit within why = not_failed read keys is why
read_made primitive size read keys refusals.UnfitKey is fit within why = not_unfit primitive read keys is fit why
read_made primitive size read keys refusals.OtherPrimitive is fit within why = absurd why
read_made primitive size read keys refusals.TooLong is fit within why = absurd (omega (arith, within, why))
read_made primitive size read keys refusals.FewRandomBytes is fit within why = absurd why
read_made primitive size read keys refusals.Refused is fit within why = absurd why
read_made primitive size read keys refusals.NoRoom is fit within why = absurd why
read_made primitive size read keys refusals.NoMemory is fit within why = refl

pub ok_read : {X : Type 0} (read : Result Keys X) (keys : Keys) → result_ok read ≡ Some keys → read ≡ Ok keys
ok_read (Ok got) keys is = ap Ok (same_Some _ _ is)
ok_read (Err why) keys is = clash is

pub handles_are_made : HandlesAreMade
handles_are_made primitive written keys refusal serves why = by written.form serves.read why
  where
    by : (form : Format) → read_in form written.bytes ≡ Some keys → IsNotMadeIn form primitive written.bytes refusal → refusal ≡ refusals.NoMemory
    by formats.Json read why = read_made primitive (length written.bytes) (reads_json written.bytes) keys refusal (ok_read (reads_json written.bytes) keys read) serves.fit serves.within why
    by formats.Binary read why = read_made primitive (length written.bytes) (reads_binary written.bytes) keys refusal (ok_read (reads_binary written.bytes) keys read) serves.fit serves.within why

inside_made : (primitive : Primitive) (size master_size : ℕ) (read : Result Keys Lack) (keys : Keys) (refusal : Refusal) → read ≡ Ok keys → unfit keys primitive standard_table ≡ None → size ≤ wrapped_limit → master_size ≤ keyset_limit → IsNotInside primitive size master_size read refusal → refusal ≡ refusals.NoMemory
inside_made primitive size master_size read keys refusals.NoMaster is fit within master_within why = absurd (cc)
inside_made primitive size master_size read keys refusals.UnfitMaster is fit within master_within why = absurd (cc)
inside_made primitive size master_size read keys refusals.NoWrapped is fit within master_within why = absurd (subst (λ (r : Result Keys Lack). IsNoWrapped r) is why)
inside_made primitive size master_size read keys refusals.NoKeyset is fit within master_within why = absurd (subst (λ (r : Result Keys Lack). IsNoneInside r) is why)
inside_made primitive size master_size read keys refusals.UnfitKey is fit within master_within why = not_unfit primitive read keys is fit why
inside_made primitive size master_size read keys refusals.OtherPrimitive is fit within master_within why = absurd why
inside_made primitive size master_size read keys refusals.TooLong is fit within master_within why = elim why [
  | inl long ↦ absurd (omega (arith, within, long))
  | inr long ↦ absurd (omega (arith, master_within, long))
]
inside_made primitive size master_size read keys refusals.FewRandomBytes is fit within master_within why = absurd why
inside_made primitive size master_size read keys refusals.Refused is fit within master_within why = absurd (cc)
inside_made primitive size master_size read keys refusals.NoRoom is fit within master_within why = absurd why
inside_made primitive size master_size read keys refusals.NoMemory is fit within master_within why = refl

pub wrapped_handles_are_made : WrappedHandlesAreMade
wrapped_handles_are_made primitive master text keys refusal serves why =
    let over = serves.over in
    let is = inside_is master text over keys serves.opens.read serves.gives ∙ ap (λ (u : Option (ℕ × Unfit)). of_fit u (Ok keys)) serves.opens.fit in
    inside_made primitive (length text.bytes) (length master.bytes) (inside_of master text) keys refusal is serves.fit serves.within serves.opens.within why

-- what is held for a primitive serves it
held_serves : {X : Type 0} (primitive : Primitive) (read : Result Keys X) (keys : Keys) (ready : ReadyKeyset) → ready.keyset ≡ keys → IsOf primitive read ready → unfit keys primitive standard_table ≡ None
held_serves primitive read keys ready same made =
    let held : unfit ready.keyset primitive standard_table ≡ None = subst (λ (p : Primitive). unfit ready.keyset p standard_table ≡ None) made.primitive' made.ready.fit in
    ap (λ (k : Keys). unfit k primitive standard_table) (sym same) ∙ held

text_serves : (form : Format) (primitive : Primitive) (text : List ℕ) (keys : Keys) (ready : ReadyKeyset) → ready.keyset ≡ keys → IsMadeIn form primitive text ready → unfit keys primitive standard_table ≡ None
text_serves formats.Json primitive text keys ready same made = held_serves primitive (reads_json text) keys ready same made
text_serves formats.Binary primitive text keys ready same made = held_serves primitive (reads_binary text) keys ready same made

pub handles_serve : HandlesServe
handles_serve primitive keys ready (of_text written read made) =
    text_serves written.form primitive written.bytes keys ready (handle_keyset primitive keys ready (of_text written read made)) made
handles_serve primitive keys ready (of_wrapped master text over read gives made) =
    held_serves primitive (inside_of master text) keys ready (handle_keyset primitive keys ready (of_wrapped master text over read gives made)) made
