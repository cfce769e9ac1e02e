-- What runs show of a keyset that they put under a master.
use Rattle.std.proofs.Common.{arith, ◌≡◌, ◌∙◌, sym, refl, ap, subst, ℕ, ◌+◌, Bool, false, List, [], ◌++◌, length, min, take, drop, map as each, Option, Some, None}
use Rattle.std.specs.Prelude.{if◌then◌else◌, nat_lt, option_and_then, option_map}
use Rattle.std.specs.FinMap as map
use Rattle.std.proofs.lemmas.Bool.Decides.{nat_tests}
use Rattle.std.proofs.lemmas.List.{append-nil, length-append, length-take}
use Rattle.std.proofs.lemmas.Option.{same_Some}
use Rattle.aead_kinds.proofs.CtrHmacLemmas.{ctr_hmac-is_scheme}
use Rattle.aead_kinds.proofs.GcmLemmas.{length-gcm_seal}
use Rattle.aead_kinds.specs.CtrHmac.{authenticated, ctr_hmac_seal, ctr_hmac_tag, ctr_hmac_text}
use Rattle.aead_kinds.specs.EncryptThenTag.{sealed_by}
use Rattle.aead_kinds.proofs.GcmSivLemmas.{length-gcm_siv_seal}
use Rattle.key_msgs.specs.declared.key.KeyKind.{KeyKind}
use Rattle.key_msgs.specs.declared.key.KeyKind.TheVariants as kinds
use Rattle.key_msgs.specs.declared.primitive.Primitive.TheVariants.{Aead}
use Rattle.keyset_model.specs.Keyset.{Keys, primary_of}
use Rattle.keyset_model.specs.Writing.{binary_of}
use Rattle.managers.specs.Table.{Table}
use Rattle.managers.specs.Uses.{iv_size, seal_of}
use Rattle.mac_prf.proofs.HmacLemmas.{length-hmac}
use Rattle.mac_prf.specs.Hmac.{hmac}
use Rattle.managers.proofs.SizeLemmas.{length-eax}
use Rattle.seal_wrap.proofs.SealedSizes.{sealed_behind, then_some}
use Rattle.seal_wrap.specs.Info.{info_of}
use Rattle.seal_wrap.specs.Laws.{TextHidesKeys}
use Rattle.seal_wrap.specs.Wrapped.{Wrapped, wrap_of, wrapped_text, wrapped_with}
use Rattle.tink_base.specs.Hash.{hash_size}
use Rattle.tink_base.specs.declared.hash.Hash.{Hash}
use Rattle.tink_base.specs.declared.hash.Hash.TheVariants.{Sha1}
use Rattle.tinkey_session.specs.Lines.{line_of}
use Rattle.tinkey_session.specs.Saving.{files_after, with_saved_only}
use Rattle.tinkey_session.specs.TalkLaws.{SavesAreTurns}
use Rattle.tinkey_session.specs.Talking.{goes}
use Rattle.wrapped_prims.specs.Answers.{Sealed, seal_answer, seal_behind, seal_under}
use Rattle.wrapped_prims.specs.Candidates.{prefix_bytes, prefix_of}
use Rattle.wrapped_prims.specs.Fitness.{key_of_record}
use Rattle.tinkey_plans.specs.Commands.{command_plan}
use Rattle.tinkey_plans.specs.Locks.{puts_under}
use Rattle.tinkey_plans.specs.Plan.{Answer, Told, answer, create_answer, refused}
use Rattle.tinkey_plans.specs.Session.{form_under, saves_as}
use Rattle.tinkey_plans.specs.Steps.{puts}
use Rattle.tinkey_plans.specs.Wrapping.{is_json}
use Rattle.tinkey_plans.specs.declared.status.Status.TheVariants as status
use Rattle.tinkey_words.specs.declared.words.rows.Format.{Format}
use Rattle.tinkey_words.specs.Words.{Asked, AskedEdit, Lock, Master, KeysetFile, as_taken, convert_keyset, create_keyset, edit_keyset, under}
use Rattle.tinkey_readable.specs.LockedHiding.{LockedLinesSave, LockedRunsPut, LockedSessionsSave, Makes, PutsAlone, PutsSealed, SavesLast, SealedAlike, SealedPut, ShowsInfoAlone}
use Rattle.tinkey_readable.specs.DoneWhere.{IsSavedWithin}
use Rattle.tinkey_readable.specs.Lying.{FitsThere, LiesBehind, LiesThere, OpensLock, OpensMaster}
use Rattle.tinkey_readable.specs.Runs.{IsFree, told_session}
use Rattle.tinkey_readable.proofs.DoneSessionLemmas.{session_answers, session_is, stands}
use Rattle.tinkey_readable.proofs.DoneWhereLemmas.{convert_answers, convert_goes, create_answers, create_goes, edit_answers, edit_goes}
use Rattle.tinkey_readable.proofs.LyingLemmas.{writes_reached}
use Rattle.tinkey_readable.proofs.ReachLemmas.{IsDoneAnswer, behind}
use Rattle.tinkey_readable.proofs.SavedFormLemmas.{asked_written, written_under}
use Rattle.tinkey_readable.proofs.WrappedRunLemmas.{behind_files, behind_random}
use Rattle.tinkey_session.proofs.Options.{clash}

-- ---- a run puts out one text

puts_alone : (file : Option (List ℕ)) (bytes : List ℕ) (told : Told) → IsFree file told.files → PutsAlone file told bytes (answer (puts file bytes) told)
puts_alone None bytes told free = (refl, refl)
puts_alone (Some name) bytes told free =
    let made : answer (puts (Some name) bytes) told ≡ record (refused told status.Done) { files = map.insert told.files name bytes } = ap (λ (found : Option (List ℕ)). create_answer found told name bytes (refused told status.OutExists)) free in
    (ap (λ (a : Answer). a.output) made, ap (λ (a : Answer). a.files) made)

alone_over : (file : Option (List ℕ)) (told left : Told) (text : List ℕ) (a : Answer) → left.files ≡ told.files → PutsAlone file left text a → PutsAlone file told text a
alone_over None told left text a same alone = (alone.0, alone.1 ∙ same)
alone_over (Some name) told left text a same alone = (alone.0, alone.1 ∙ ap (λ files. map.insert files name text) same)

shows : TextHidesKeys → (table : Table) (over keys : Keys) (form : Format) (random : List ℕ) (wrapped : Wrapped) → wrap_of keys over table random (is_json form) ≡ Some wrapped → ShowsInfoAlone table over keys form wrapped.text
shows hides table over keys form random wrapped made =
    let h = hides (is_json form) table keys over random wrapped made in
    record { random = random; sealed = h.0; seals = h.1; is = h.3 }

put_so : TextHidesKeys → (table : Table) (lock : Master) (master : Option Keys) (out : KeysetFile) (keys : Keys) (told left : Told) (a : Answer) → OpensLock table (Some lock) told master → FitsThere table master out.form keys left.random → IsFree out.file left.files → left.files ≡ told.files → a ≡ answer (puts_under table master out keys) left
    → PutsSealed table lock out told keys a
put_so hides table lock None out keys told left a opens fits free same is = absurd opens
put_so hides table lock (Some over) out keys told left a opens fits free same is =
    let text = fits.wrapped.text in
    let last = record left { random = fits.wrapped.left } in
    let e = is ∙ writes_reached table (Some over) out.form keys (puts out.file) left fits in
    record {
      over = over;
      opens = opens;
      text = text;
      shows = shows hides table over keys out.form left.random fits.wrapped fits.made;
      alone = subst (PutsAlone out.file told text) (sym e) (alone_over out.file told last text (answer (puts out.file text) last) same (puts_alone out.file text last free));
    }

-- what a run makes, and the text of it
abbrev Put : Table → Asked → Told → SealedPut → Type 0
Put table asked told put = (keys : Keys) × Makes table told keys asked × PutsSealed table put.lock put.out told keys (answer (command_plan table asked) told)

created : TextHidesKeys → (table : Table) (lock : Master) (template : List ℕ) (out : KeysetFile) (told : Told) → IsDoneAnswer (answer (command_plan table (create_keyset (Some lock) template out)) told) → Put table (create_keyset (Some lock) template out) told (record { lock = lock; out = out })
created hides table lock template out told done =
    let x = create_goes table (Some lock) template out told done in
    (x.new, x.created, put_so hides table lock x.master out x.new told (record told { random = x.created.stepped.left }) _ x.opens x.fits x.free refl (create_answers table (Some lock) template out told x))

edited : TextHidesKeys → (table : Table) (lock : Master) (asked : AskedEdit) (in' out : KeysetFile) (told : Told) → IsDoneAnswer (answer (command_plan table (edit_keyset (Some lock) asked in' out)) told) → Put table (edit_keyset (Some lock) asked in' out) told (record { lock = lock; out = out })
edited hides table lock asked in' out told done =
    let x = edit_goes table (Some lock) asked in' out told done in
    let same = behind_files in'.file told in
    let left = record (behind in'.file told) { random = x.accepted.stepped.left } in
    (x.new, (x.old, record { master = x.master; opens = x.opens; lies = x.lies }, x.accepted), put_so hides table lock x.master out x.new told left _ x.opens x.fits (subst (IsFree out.file) (sym same) x.free) same (edit_answers table (Some lock) asked in' out told x))

-- a keyset that is converted, under the lock that it is put under
converted_so : TextHidesKeys → (table : Table) (lock : Lock) (put : Master) (in' out : KeysetFile) (told : Told) (a : Answer) (taken master : Option Keys) (keys : Keys) → OpensLock table (Some put) told master → FitsThere table master out.form keys told.random → IsFree out.file told.files → a ≡ answer (puts_under table master out keys) (behind in'.file told)
    → PutsSealed table put out told keys a
converted_so hides table lock put in' out told a taken master keys opens fits free is =
    let same = behind_files in'.file told in
    put_so hides table put master out keys told (behind in'.file told) a opens (subst (FitsThere table master out.form keys) (sym (behind_random in'.file told)) fits) (subst (IsFree out.file) (sym same) free) same is

converted : TextHidesKeys → (table : Table) (lock : Master) (in' out : KeysetFile) (told : Told) → IsDoneAnswer (answer (command_plan table (convert_keyset (Some lock) as_taken in' out)) told) → Put table (convert_keyset (Some lock) as_taken in' out) told (record { lock = lock; out = out })
converted hides table lock in' out told done =
    let x = convert_goes table (Some lock) as_taken in' out told done in
    (x.keys, record { master = x.taken; opens = x.opens; lies = x.lies }, converted_so hides table (Some lock) lock in' out told _ x.taken x.put x.keys (subst (OpensLock table (Some lock) told) x.opens_new x.opens) x.fits x.free (convert_answers table (Some lock) as_taken in' out told x))

converted_under : TextHidesKeys → (table : Table) (lock : Lock) (new : Master) (in' out : KeysetFile) (told : Told) → IsDoneAnswer (answer (command_plan table (convert_keyset lock (under new) in' out)) told) → Put table (convert_keyset lock (under new) in' out) told (record { lock = new; out = out })
converted_under hides table lock new in' out told done =
    let x = convert_goes table lock (under new) in' out told done in
    (x.keys, record { master = x.taken; opens = x.opens; lies = x.lies }, converted_so hides table lock new in' out told _ x.taken x.put x.keys x.opens_new x.fits x.free (convert_answers table lock (under new) in' out told x))

pub locked_runs_put : TextHidesKeys → LockedRunsPut
locked_runs_put hides table (create_keyset (Some lock) template out) told put e done = subst (Put table (create_keyset (Some lock) template out) told) (same_Some _ _ e) (created hides table lock template out told done)
locked_runs_put hides table (edit_keyset (Some lock) asked in' out) told put e done = subst (Put table (edit_keyset (Some lock) asked in' out) told) (same_Some _ _ e) (edited hides table lock asked in' out told done)
locked_runs_put hides table (convert_keyset (Some lock) as_taken in' out) told put e done = subst (Put table (convert_keyset (Some lock) as_taken in' out) told) (same_Some _ _ e) (converted hides table lock in' out told done)
locked_runs_put hides table (convert_keyset None (under new) in' out) told put e done = subst (Put table (convert_keyset None (under new) in' out) told) (same_Some _ _ e) (converted_under hides table None new in' out told done)
locked_runs_put hides table (convert_keyset (Some lock) (under new) in' out) told put e done = subst (Put table (convert_keyset (Some lock) (under new) in' out) told) (same_Some _ _ e) (converted_under hides table (Some lock) new in' out told done)
locked_runs_put hides table _ told put e done = clash e

-- ---- a session saves one

-- so does each of its lines
pub locked_lines_save : TextHidesKeys → SavesAreTurns → LockedLinesSave
locked_lines_save hides law table over keys form saved_only answers taken random ended a there =
    let saves = with_saved_only saved_only (form_under table (Some over) form) in
    let t = law table saves answers keys taken random ended in
    let w = asked_written table saves answers keys (each line_of t.answered) random t.last _ a t.remains' t.asked there in
    let u = written_under table over form w.saved w.iv a.bytes w.is in
    (w.saved, w.edited, subst (ShowsInfoAlone table over w.saved form) u.text (shows hides table over w.saved form w.iv u.wrapped u.is))

-- and its end, which puts out nothing
last_saved : TextHidesKeys → (table : Table) (over : Keys) (file : Option (List ℕ)) (form : Format) (keys : Keys) (left : Told) → IsFree file left.files → IsSavedWithin table (Some over) file form keys left.random
    → ((answer (saves_as table (Some over) file form keys) left).output ≡ []) × SavesLast table over keys file form left.files (answer (saves_as table (Some over) file form keys) left).files
last_saved hides table over None form keys left free fits = (refl, refl)
last_saved hides table over (Some name) form keys left free fits =
    let text = fits.wrapped.text in
    let last = record left { random = fits.wrapped.left } in
    let e = writes_reached table (Some over) form keys (puts (Some name)) left fits in
    let alone = puts_alone (Some name) text last free in
    (ap (λ (a : Answer). a.output) e ∙ alone.0, (text, shows hides table over keys form left.random fits.wrapped fits.made, ap (λ (a : Answer). a.files) e ∙ alone.1))

-- what a session that is Done leaves, under its master
record LockedEnd (table : Table) (lock : Master) (name : List ℕ) (form : Format) (out : KeysetFile) (saved_only : Bool) (told : Told) (a : Answer) : Type 0 where
  over : Keys
  old : Keys
  opens : OpensMaster table lock told over
  lies : LiesBehind table (Some lock) (record { file = Some name; form = form }) told old
  output : a.output ≡ (told_session table (Some over) out.form saved_only old told).output
  files : let x = told_session table (Some over) out.form saved_only old told in SavesLast table over x.keys out.file out.form (files_after told.files x.asked) a.files

locked_end : TextHidesKeys → (table : Table) (lock : Master) (name : List ℕ) (form : Format) (out : KeysetFile) (saved_only : Bool) (told : Told) (master : Option Keys) (keys : Keys) (a : Answer)
    → OpensLock table (Some lock) told master → LiesThere table master (record { file = Some name; form = form }) told keys
    → IsFree out.file (files_after told.files (told_session table master out.form saved_only keys told).asked)
    → IsSavedWithin table master out.file out.form (told_session table master out.form saved_only keys told).keys (told_session table master out.form saved_only keys told).random
    → a ≡ stands table master keys out saved_only told goes → LockedEnd table lock name form out saved_only told a
locked_end hides table lock name form out saved_only told None keys a opens lies free fits is = absurd opens
locked_end hides table lock name form out saved_only told (Some over) keys a opens lies free fits is =
    let x = told_session table (Some over) out.form saved_only keys told in
    let files = files_after told.files x.asked in
    let left : Told = record { input = []; files = files; random = x.random } in
    let p = last_saved hides table over out.file out.form x.keys left free fits in
    record {
      over = over;
      old = keys;
      opens = opens;
      lies = record { master = Some over; opens = opens; lies = lies };
      output = ap (λ (a : Answer). a.output) is ∙ ap (λ l. x.output ++ l) p.0 ∙ append-nil x.output;
      files = subst (SavesLast table over x.keys out.file out.form files) (sym (ap (λ (a : Answer). a.files) is)) p.1;
    }

pub locked_sessions_save : TextHidesKeys → LockedSessionsSave
locked_sessions_save hides table lock name form out saved_only told done =
    let x = session_is table (Some lock) name form out saved_only told done in
    let e = locked_end hides table lock name form out saved_only told x.master x.keys _ x.opens x.lies x.free x.saved (session_answers table (Some lock) name form out saved_only told x) in
    (e.over, e.old, e.opens, e.lies, (e.output, e.files))

-- ---- keysets that differ in keys alone

length-ctr_hmac : (aes : List ℕ) (hash : Hash) (mac : List ℕ) (tag_size : ℕ) (iv plain ad : List ℕ) → length (ctr_hmac_seal aes hash mac tag_size iv plain ad) ≡ length iv + length plain + min tag_size (hash_size hash)
unfolding ctr_hmac_seal sealed_by ctr_hmac_tag
length-ctr_hmac aes hash mac tag_size iv plain ad =
    let text : List ℕ = ctr_hmac_text aes iv plain in
    let whole : List ℕ = hmac hash mac (authenticated iv ad text) in
    let long : length text ≡ length plain = (ctr_hmac-is_scheme aes Sha1 mac 1 (omega arith) (omega arith)).long iv plain in
    length-append (iv ++ text) (take tag_size whole)
    ∙ ap (λ n. n + length (take tag_size whole)) (length-append iv text ∙ ap (λ n. length iv + n) long)
    ∙ ap (λ n. length iv + length plain + n) (length-take tag_size whole ∙ ap (λ n. min tag_size n) (length-hmac hash mac (authenticated iv ad text)))

length-alike : (key : KeyKind) (iv one two ad : List ℕ) → length one ≡ length two → length (seal_of key iv one ad) ≡ length (seal_of key iv two ad)
length-alike (kinds.AesGcm key) iv one two ad same = let a = length-gcm_seal key iv one ad in let b = length-gcm_seal key iv two ad in omega (arith, a, b, same)
length-alike (kinds.AesEax key size) iv one two ad same = let a = length-eax key iv one ad in let b = length-eax key iv two ad in omega (arith, a, b, same)
length-alike (kinds.AesCtrHmac aes size hash mac tag_size) iv one two ad same = length-ctr_hmac aes hash mac tag_size iv one ad ∙ ap (λ n. length iv + n + min tag_size (hash_size hash)) same ∙ sym (length-ctr_hmac aes hash mac tag_size iv two ad)
length-alike (kinds.AesGcmSiv key) iv one two ad same = let a = length-gcm_siv_seal key iv one ad in let b = length-gcm_siv_seal key iv two ad in omega (arith, a, b, same)
length-alike _ iv one two ad same = refl

-- what is sealed of a plaintext of the same length
record Resealed (table : Table) (over : Keys) (plain random : List ℕ) (s : Sealed) : Type 0 where
  again : Sealed
  is : seal_answer over table plain [] random ≡ Some again
  same : length s.bytes ≡ length again.bytes

resealed : (table : Table) (over : Keys) (one two random : List ℕ) (s : Sealed) → length one ≡ length two → seal_answer over table one [] random ≡ Some s → Resealed table over two random s
resealed table over one two random s same e =
    let first = then_some (seal_under table one [] random) (primary_of over) s e in
    let r = first.0 in
    let prefix = prefix_bytes (prefix_of r) in
    let second = then_some (seal_behind prefix one [] random) (key_of_record table Aead r) s first.2 in
    let key = second.0 in
    let sealing = sealed_behind prefix one [] random key s second.2 in
    let iv : List ℕ = take (iv_size key) random in
    let enough = sealing.enough in
    let test : nat_lt (length random) (iv_size key) ≡ false = grind (arith, nat_tests, enough) in
    let again : Sealed = record { bytes = prefix ++ seal_of key iv two []; left = drop (iv_size key) random } in
    record {
      again = again;
      is = ap (option_and_then (seal_under table two [] random)) first.1
          ∙ ap (option_and_then (seal_behind prefix two [] random)) second.1
          ∙ ap (λ (b : Bool). if b then None else Some again) test;
      same = ap length sealing.bytes
          ∙ length-append prefix (seal_of key iv one [])
          ∙ ap (λ n. length prefix + n) (length-alike key iv one two [] same)
          ∙ sym (length-append prefix (seal_of key iv two []));
    }

pub sealed_alike : TextHidesKeys → SealedAlike
sealed_alike hides table over one two json random wrapped same long made =
    let h = hides json table one over random wrapped made in
    let again = resealed table over (binary_of one) (binary_of two) random h.0 long h.1 in
    let other = wrapped_with json (info_of two) again.again in
    let is : wrap_of two over table random json ≡ Some other = ap (option_map (wrapped_with json (info_of two))) again.is in
    let g = hides json table two over random other is in
    let here : g.0 ≡ again.again = same_Some _ _ (sym g.1 ∙ again.is) in (
      other,
      is,
      h.0.bytes,
      g.0.bytes,
      again.same ∙ ap (λ (s : Sealed). length s.bytes) (sym here),
      h.3,
      g.3 ∙ ap (λ keys. wrapped_text json g.0.bytes (info_of keys)) (sym same),
    )
