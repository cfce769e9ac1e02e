-- A keyset that is written, as a step of a plan and in the form of a session.
use Rattle.std.proofs.Common.{◌≡◌, ◌∙◌, refl, sym, ap, subst, inl, inr, ◌⊎◌, ℕ, ◌≤◌, Bool, true, false, List, [], ◌++◌, append-nil, length, drop, Option, Some, None, Result, Ok, Err, arith, option_map}
use Rattle.std.specs.Prelude.{nat_le, if◌then◌else◌}
use Rattle.std.specs.Option.{option_and_then}
use Rattle.std.specs.Result.{IsErrAnd}
use Rattle.std.proofs.lemmas.Bool.{le-leb}
use Rattle.std.proofs.lemmas.List.{length-drop}
use Rattle.std.proofs.lemmas.Option.{same_Some}
use Rattle.key_msgs.specs.declared.key.KeyKind.{KeyKind}
use Rattle.key_msgs.specs.declared.primitive.Primitive.TheVariants.{Aead}
use Rattle.keyset_model.specs.Keyset.{Keys, primary_of}
use Rattle.keyset_model.specs.Writing.{binary_of}
use Rattle.managers.proofs.SizeLemmas.{iv-short}
use Rattle.managers.specs.Table.{Table}
use Rattle.managers.specs.Uses.{iv_size}
use Rattle.seal_wrap.proofs.SealedSizes.{key-valid, sealed_behind, then_some}
use Rattle.seal_wrap.specs.Wrapped.{Wrapped, wrap_of, wrapped_with}
use Rattle.seal_wrap.specs.Wrapping.{IsWrapping}
use Rattle.seal_wrap.specs.Info.{info_of}
use Rattle.tink_spec.proofs.Moves.{drew_nothing}
use Rattle.tink_spec.specs.Outside.{EntropyState, Drew, Stood}
use Rattle.tinkey_plans.specs.Ends.{World, Ends, Exchanges, sides_of}
use Rattle.tinkey_plans.specs.Locks.{IsLock, IsSomeLock}
use Rattle.tinkey_plans.specs.Plan.{Plan, ends}
use Rattle.tinkey_plans.specs.Session.{file_within, form_clear, form_sealed, form_under, is_short, iv_under, saving_session, wrapped_within}
use Rattle.tinkey_plans.specs.Steps.{keyset_limit, within_limit, writes_keyset, written_in, Passes}
use Rattle.tinkey_plans.specs.Wrapping.{is_json, wrapped_limit}
use Rattle.tinkey_plans.specs.declared.status.Status.{Status}
use Rattle.tinkey_plans.specs.declared.status.Status.TheVariants as status
use Rattle.tinkey_actions.proofs.LockLemmas.{lock_over}
use Rattle.tinkey_actions.proofs.UseLemmas.{behind_memory, primary_is}
use Rattle.tinkey_actions.specs.Written.{IsWritten, form_held, kept_within, with_status, write_status}
use Rattle.tinkey_session.specs.Answered.{DrewSome}
use Rattle.tinkey_session.proofs.TalkLemmas.{saves_are_steady}
use Rattle.tinkey_session.specs.Saving.{Form, StoreAnswers, iv_drawn, with_saved_only}
use Rattle.tinkey_session.specs.Talking.{saving, talk_by}
use Rattle.tinkey_session.specs.Talks.{IsSteady, TalksWith}
use Rattle.tinkey_session.specs.Writing.{Unwrote, Writes, Wrote}
use Rattle.tinkey_session.specs.declared.reply.LineRefusal.{LineRefusal}
use Rattle.tinkey_session.specs.declared.reply.LineRefusal.TheVariants.{KeysetTooLong}
use Rattle.tinkey_session.specs.declared.saving.WriteError.{WriteError}
use Rattle.tinkey_session.specs.declared.saving.WriteError.TheVariants as errors
use Rattle.tinkey_session.specs.declared.talk.TalkFault.{TalkFault}
use Rattle.tinkey_words.specs.declared.words.rows.Format.{Format}
use Rattle.tinkey_words.specs.declared.words.rows.Format.TheVariants as formats
use Rattle.wrapped_prims.specs.Answers.{Sealed, primary_key, seal_answer, seal_behind, seal_under}
use Rattle.wrapped_prims.specs.Candidates.{prefix_bytes, prefix_of}
use Rattle.wrapped_prims.specs.Fitness.{key_of_record}
use Rattle.wrapped_prims.specs.Sealing.{DrewIv, IsSealFault}
use Rattle.wrapped_prims.specs.declared.held.Held.{Held}
use Rattle.wrapped_prims.specs.declared.sealing.SealFault.TheVariants as seal_faults

-- ---- as a step

-- bytes within a limit go on, and longer ones end the plan
pub kept_passes : (limit : ℕ) (bytes : List ℕ) (w : World) (r : Result (List ℕ) WriteError) → r ≡ kept_within limit bytes → Passes (λ next. within_limit limit next bytes) w (with_status r) w
kept_passes limit bytes w r is = subst (λ (x : Result (List ℕ) WriteError). Passes (λ next. within_limit limit next bytes) w (with_status x) w) (sym is) (by (nat_le (length bytes) limit))
  where
    by : (b : Bool) → Passes {A = List ℕ} (λ next. if b then next bytes else ends status.KeysetOutgrown tt) w (with_status (if b then Ok bytes else Err (errors.Refused KeysetTooLong))) w
    by true = λ next s last run. run
    by false = λ next. (refl, refl)

pub written_passes : (form : Format) (keys : Keys) (w : World) (r : Result (List ℕ) WriteError) → IsWritten form keys r → Passes (writes_keyset form keys) w (with_status r) w
written_passes form keys w r (inl is) = behind_memory (λ next. within_limit keyset_limit next (written_in form keys)) w w (with_status r) (kept_passes keyset_limit (written_in form keys) w r is)
written_passes form keys w r (inr starved) = subst (λ (x : Result (List ℕ) WriteError). Passes (writes_keyset form keys) w (with_status x) w) (sym starved) (λ next. inr (refl, refl))

-- the error that a `?` hands on, as a status
pub handed_as : {A : Type 0} (r : Result A WriteError) (error : WriteError) → IsErrAnd r (λ e. e ≡ error) → IsErrAnd (with_status r) (λ e. e ≡ write_status error)
handed_as (Ok value) error is = absurd is
handed_as (Err e) error is = ap write_status is

-- ---- in a form

-- bytes of a form, if they are within its limit
kept_writes : (form : Form) (keys : Keys) (limit : ℕ) (bytes : List ℕ) (old new : EntropyState) (r : Result (List ℕ) WriteError) → r ≡ kept_within limit bytes → Wrote form keys (file_within limit bytes) old new → Writes form keys r old new
kept_writes form keys limit bytes old new r is wrote = subst (λ (x : Result (List ℕ) WriteError). Writes form keys x old new) (sym is) (by (nat_le (length bytes) limit) wrote)
  where
    by : (b : Bool) → Wrote form keys (if b then Ok bytes else Err KeysetTooLong) old new → Writes form keys (if b then Ok bytes else Err (errors.Refused KeysetTooLong)) old new
    by true so = so
    by false so = so

drew_none : (s : EntropyState) → DrewSome s s
drew_none s = record { drawn = []; drew = drew_nothing s; stood = refl }

-- in clear

pub clear_writes : (form : Format) (keys : Keys) (s : EntropyState) (r : Result (List ℕ) WriteError) → IsWritten form keys r → Writes (form_clear form) keys r s s
clear_writes form keys s r (inl is) = kept_writes (form_clear form) keys keyset_limit (written_in form keys) s s r is (record {
  drawn = [];
  drew = drew_nothing s;
  stood = refl;
  exact = refl;
  is = refl;
})
clear_writes form keys s r (inr starved) = subst (λ (x : Result (List ℕ) WriteError). Writes (form_clear form) keys x s s) (sym starved) (drew_none s)

-- ---- under a master

-- a keyset that is too long is refused, and nothing is drawn
long_wrote : (own : Table) (its : Keys) (form : Format) (keys : Keys) (s : EntropyState) → is_short keys ≡ false → Wrote (form_sealed own its form) keys (Err KeysetTooLong) s s
long_wrote own its form keys s long = record {
  drawn = [];
  drew = drew_nothing s;
  stood = refl;
  exact = ap (λ b. let size = if b then iv_under (primary_key its own Aead) else 0 in if nat_le size 16 then size else 16) (sym long);
  is = ap (λ b. if b then wrapped_within (wrap_of keys its own [] (is_json form)) else Err KeysetTooLong) long;
}

-- the error of two results that are equal
error_in : Result (List ℕ) WriteError → WriteError
error_in (Ok bytes) = errors.NoMemory
error_in (Err error) = error

same_error : (one two : WriteError) → ◌≡◌ {A = Result (List ℕ) WriteError} (Err one) (Err two) → one ≡ two
unfolding error_in
same_error one two e = ap error_in e

-- its binary form isn't written
unsealed : (own : Table) (its : Keys) (form : Format) (keys : Keys) (s : EntropyState) (r : Result (List ℕ) WriteError) (error : WriteError) → IsErrAnd r (λ e. e ≡ error) → IsWritten formats.Binary keys (Err error) → Writes (form_sealed own its form) keys r s s
unsealed own its form keys s (Ok bytes) error is written = absurd is
unsealed own its form keys s (Err e) error is written = so e error is (by written)
  where
    so : (one two : WriteError) → one ≡ two → Writes (form_sealed own its form) keys (Err two) s s → Writes (form_sealed own its form) keys (Err one) s s
    so one two same writes = subst (λ (x : WriteError). Writes (form_sealed own its form) keys (Err x) s s) (sym same) writes

    long : (b : Bool) → is_short keys ≡ b → Err error ≡ (if b then Ok (binary_of keys) else Err (errors.Refused KeysetTooLong)) → Writes (form_sealed own its form) keys (Err error) s s
    long true t e = absurd cc
    long false t e = so error (errors.Refused KeysetTooLong) (same_error _ _ e) (long_wrote own its form keys s t)

    by : IsWritten formats.Binary keys (Err error) → Writes (form_sealed own its form) keys (Err error) s s
    by (inl k) = long (is_short keys) refl k
    by (inr k) = so error errors.NoMemory (same_error _ _ k) (drew_none s)

pub unsealed_writes : (lock : Option (Table × Keys × Held)) (h : Table × Keys × Held) (form : Format) (keys : Keys) (s : EntropyState) (r : Result (List ℕ) WriteError) (error : WriteError) → lock ≡ Some h → IsErrAnd r (λ e. e ≡ error) → IsWritten formats.Binary keys (Err error) → Writes (form_held lock form) keys r s s
unsealed_writes lock (own, its, held) form keys s r error some is written = subst (λ (l : Option (Table × Keys × Held)). Writes (form_held l form) keys r s s) (sym some) (unsealed own its form keys s r error is written)

-- as many bytes are drawn as the IV has
iv_whole : (own : Table) (its : Keys) (form : Format) (keys : Keys) (key : KeyKind) → length (binary_of keys) ≤ keyset_limit → primary_key its own Aead ≡ Some key → iv_drawn (form_sealed own its form) keys ≡ iv_size key
iv_whole own its form keys key short primary =
    let under = primary_is own (primary_of its) key primary in
    ap (λ b. let size = if b then iv_under (primary_key its own Aead) else 0 in if nat_le size 16 then size else 16) (le-leb (length (binary_of keys)) keyset_limit short)
    ∙ ap (λ found. if nat_le (iv_under found) 16 then iv_under found else 16) primary
    ∙ ap (λ b. if b then iv_size key else 16) (le-leb (iv_size key) 16 (iv-short key (key-valid own Aead under.0 key under.2)))

-- a text that leaves none of its random bytes has drawn an IV
drew_whole : (own : Table) (its : Keys) (plain drawn : List ℕ) (sealed : Sealed) → seal_answer its own plain [] drawn ≡ Some sealed → sealed.left ≡ [] → (key : KeyKind) × (primary_key its own Aead ≡ Some key) × (length drawn ≡ iv_size key)
drew_whole own its plain drawn sealed e none =
    let first = then_some (seal_under own plain [] drawn) (primary_of its) sealed e in
    let r = first.0 in
    let second = then_some (seal_behind (prefix_bytes (prefix_of r)) plain [] drawn) (key_of_record own Aead r) sealed first.2 in
    let key = second.0 in
    let sealing = sealed_behind (prefix_bytes (prefix_of r)) plain [] drawn key sealed second.2 in (
      key,
      ap (option_and_then (key_of_record own Aead)) first.1 ∙ second.1,
      omega (arith, sealing.enough, ap length (sym none ∙ sealing.left), length-drop (iv_size key) drawn),
    )

-- what a text is made of
wrapped_of : (json : Bool) (keys : Keys) (found : Option Sealed) (wrapped : Wrapped) → option_map (wrapped_with json (info_of keys)) found ≡ Some wrapped → (sealed : Sealed) × (found ≡ Some sealed) × (sealed.left ≡ wrapped.left)
wrapped_of json keys None wrapped e = absurd cc
wrapped_of json keys (Some sealed) wrapped e = (sealed, refl, ap (λ x. x.left) (same_Some _ _ e))

pub wrapped_writes : (own : Table) (its : Keys) (form : Format) (keys : Keys) (text : List ℕ) (old new : EntropyState) (r : Result (List ℕ) WriteError) → length (binary_of keys) ≤ keyset_limit → IsWrapping keys its own (is_json form) old new text → Stood old.faults new.faults → r ≡ kept_within wrapped_limit text
    → Writes (form_sealed own its form) keys r old new
wrapped_writes own its form keys text old new r short wrapping stood is =
    let whole : wrap_of keys its own wrapping.drawn (is_json form) ≡ Some (record { text = text; left = [] }) = subst (λ (random : List ℕ). wrap_of keys its own random (is_json form) ≡ Some (record { text = text; left = [] })) (append-nil wrapping.drawn) (wrapping.answer []) in
    let sealed = wrapped_of (is_json form) keys (seal_answer its own (binary_of keys) [] wrapping.drawn) (record { text = text; left = [] }) whole in
    let iv = drew_whole own its (binary_of keys) wrapping.drawn sealed.0 sealed.1 sealed.2 in
    kept_writes (form_sealed own its form) keys wrapped_limit text old new r is (record {
      drawn = wrapping.drawn;
      drew = wrapping.drew;
      stood = stood;
      exact = iv.2 ∙ sym (iv_whole own its form keys iv.0 short iv.1);
      is = ap (λ b. if b then wrapped_within (wrap_of keys its own wrapping.drawn (is_json form)) else Err KeysetTooLong) (le-leb (length (binary_of keys)) keyset_limit short)
          ∙ ap wrapped_within whole;
    })

-- the entropy failed at the IV, or memory was wanting
pub undrawn_writes : (own : Table) (its : Keys) (form : Format) (keys : Keys) (old new : EntropyState) → length (binary_of keys) ≤ keyset_limit → IsSealFault its own old new seal_faults.EntropyFault → Unwrote (form_sealed own its form) keys old new
undrawn_writes own its form keys old new short fault = record {
  rose = fault.entropy.1.rose;
  drawn = [];
  gone = fault.entropy.1.gone;
  fewer = omega (arith, iv_whole own its form keys fault.key short fault.primary, fault.entropy.0);
}

pub starved_writes : (own : Table) (its : Keys) (old new : EntropyState) → IsSealFault its own old new seal_faults.NoMemory → DrewSome old new
starved_writes own its old new fault = by fault.entropy
  where
    by : Stood old.faults new.faults × (Drew old new [] ⊎ DrewIv fault.key old new) → DrewSome old new
    by (stood, inl drew) = record { drawn = []; drew = drew; stood = stood }
    by (stood, inr iv) = record { drawn = iv.drawn; drew = iv.drew; stood = stood }

-- ---- by a lock

-- what is held of a lock gives its form
pub form_of_lock : (held : Option (Table × Keys × Held)) (table : Table) (master : Option Keys) (form : Format) → IsLock held table master → form_held held form ≡ form_under table master form
form_of_lock None table None form is = refl
form_of_lock None table (Some m) form is = absurd is.is
form_of_lock (Some (own, keys, held)) table None form is = absurd is.is
form_of_lock (Some (own, keys, held)) table (Some m) form is = ap (λ t. form_sealed t keys form) is.is.0 ∙ ap (λ k. form_sealed table k form) is.is.1

-- so a session whose lines are written in that form is the session of its plan
pub session_in : (held : Option (Table × Keys × Held)) (table : Table) (master : Option Keys) (form : Format) (saved_only : Bool) (keys : Keys) (r : Result Keys TalkFault) (old new : World) → IsLock held table master
    → TalksWith (λ answers. talk_by (saving table (with_saved_only saved_only (form_held held form)) answers) keys) r (sides_of old) (sides_of new) old.store new.store → Exchanges (saving_session table master form saved_only keys) r old new
session_in held table master form saved_only keys r old new is talks =
    subst (λ (f : Form). TalksWith (λ answers. talk_by (saving table (with_saved_only saved_only f) answers) keys) r (sides_of old) (sides_of new) old.store new.store) (form_of_lock held table master form is) talks

pub session_steady : {held : Option (Table × Keys × Held)} {table : Table} {master : Option Keys} → IsLock held table master → (form : Format) (saved_only : Bool) (keys : Keys) (answers : StoreAnswers) → IsSteady (saving_session table master form saved_only keys answers)
session_steady {table = table} {master = master} is form saved_only keys answers = saves_are_steady table (with_saved_only saved_only (form_under table master form)) answers keys
