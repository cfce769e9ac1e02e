-- Envelope sealing, as steps.
use Rattle.std.proofs.Common.{◌≡◌, ◌∙◌, refl, sym, ap, subst, inl, inr, ◌⊎◌, ℕ, ◌+◌, ◌<◌, Bool, true, false, List, [], ◌++◌, length, length-append, Option, Some, None, Result, Ok, Err, arith}
use Rattle.std.specs.Prelude.{IfSome, nat_lt, option_map, if◌then◌else◌}
use Rattle.std.specs.Option.{option_and_then}
use Rattle.std.specs.Result.{IsErrAnd}
use Rattle.std.proofs.lemmas.Bool.{cases_lt}
use Rattle.std.proofs.lemmas.Bool.Decides.{nat_tests}
use Rattle.std.proofs.lemmas.List.{append_assoc, append-nil}
use Rattle.std.proofs.lemmas.Option.{same_Some}
use Rattle.key_msgs.specs.Templates.{Row, random_of}
use Rattle.key_msgs.specs.declared.key.KeyKind.{KeyKind}
use Rattle.key_msgs.specs.declared.primitive.Primitive.TheVariants.{Aead}
use Rattle.key_msgs.specs.declared.rule.Rule.{Rule}
use Rattle.keyset_model.specs.Keyset.{Keys, primary_of}
use Rattle.keyset_model.specs.declared.record.Record.{Record}
use Rattle.managers.specs.Schemes.{Scheme, key_under}
use Rattle.managers.specs.Table.{Table}
use Rattle.managers.specs.Uses.{iv_size, seal_of}
use Rattle.envelopes.specs.Enveloped.{Enveloped, Parts, behind_data_key, data_key_of, envelope, envelope_of, under_data_key}
use Rattle.envelopes.specs.EnvelopeSteps.{IsResealing}
use Rattle.envelopes.specs.Enveloping.{Asks, FailedAtFill, IsEnveloping, MakesDataKey, RefusedKey, StoodAtFill}
use Rattle.envelopes.proofs.EnvelopeLemmas.{envelope-drawn}
use Rattle.tink_spec.specs.Outside.{EntropyState, Drew, Stood}
use Rattle.tinkey_cmds.specs.Draws.{Draw}
use Rattle.tinkey_cmds.specs.declared.command.EditRefusal.{EditRefusal}
use Rattle.tinkey_plans.specs.declared.status.Status.{Status}
use Rattle.tinkey_plans.specs.declared.status.Status.TheVariants as status
use Rattle.tinkey_plans.specs.Ends.{World, Ends, Settles, settled, draw_failed, draw_starved}
use Rattle.tinkey_plans.specs.declared.sealer.Sealer.{Sealer}
use Rattle.tinkey_plans.specs.declared.sealer.Unopened.TheVariants as unopened
use Rattle.tinkey_plans.specs.Envelopes.{as_enveloped, envelope_limit, envelope_output, envelopes, finds_dek, finds_scheme, reseals_key, seals_envelope, with_parts}
use Rattle.tinkey_plans.specs.Plan.{Plan, allocates, draws, envelopings}
use Rattle.tinkey_plans.specs.Steps.{reads_input, with_made, Passes}
use Rattle.tinkey_plans.specs.Handles.{handles}
use Rattle.tinkey_plans.specs.Locks.{loads_locked}
use Rattle.tinkey_plans.proofs.StepLemmas.{passes_then, ends_there}
use Rattle.tinkey_words.specs.declared.words.rows.Format.{Format}
use Rattle.tinkey_plans.specs.Using.{as_drawn, seals}
use Rattle.tinkey_words.specs.Words.{AskedEnvelope, Lock, to_eseal}
use Rattle.wrapped_prims.specs.Answers.{Sealed, primary_key, seal_answer, seal_behind, seal_under}
use Rattle.wrapped_prims.specs.Candidates.{prefix_of, prefix_bytes}
use Rattle.wrapped_prims.specs.Fitness.{key_of_record}
use Rattle.wrapped_prims.specs.Making.{IsOver}
use Rattle.wrapped_prims.specs.Sealing.{IsSealFault}
use Rattle.wrapped_prims.specs.declared.held.Held.{Held}
use Rattle.wrapped_prims.specs.declared.sealing.SealFault.TheVariants as seal_faults
use Rattle.tinkey_actions.proofs.UseLemmas.{Rest, behind_memory, draw_failed_there, no_handle, no_keyset, primary_is, same_entropy, sealed_with, serves, short_random, starved_sealing, too_few, whole_iv, with_handle}
use Rattle.tinkey_plans.specs.declared.origin.Origin.TheVariants as origins

-- ---- too few random bytes

none_given : {A : Type 0} (b : Bool) (rest : Option A) → b ≡ true → (if b then None else rest) ≡ None
none_given true rest is = refl
none_given false rest is = absurd (cc)

-- for a data key
short_key : (keys : Keys) (table : Table) (scheme : Scheme) (row : Row) (plain ad random : List ℕ) → length random < random_of row → envelope_of keys table scheme row plain ad random ≡ None
short_key keys table scheme row plain ad random short = none_given (nat_lt (length random) (random_of row)) _ (grind (arith, nat_tests))

-- behind those of a valid data key, its message is sealed
behind_key : (keys : Keys) (table : Table) (scheme : Scheme) (row : Row) (plain ad random rest : List ℕ) (data_key : KeyKind) → MakesDataKey scheme row random data_key
    → envelope_of keys table scheme row plain ad (random ++ rest) ≡ option_and_then (behind_data_key plain ad data_key) (seal_answer keys table (data_key_of row random) [] rest)
behind_key keys table scheme row plain ad random rest data_key makes =
    envelope-drawn keys table scheme row plain ad random rest makes.whole
    ∙ ap (under_data_key keys table (data_key_of row random) plain ad rest) makes.valid

-- for an IV under the keyset
short_iv : (keys : Keys) (table : Table) (scheme : Scheme) (row : Row) (plain ad random rest : List ℕ) (data_key key : KeyKind) → MakesDataKey scheme row random data_key → primary_key keys table Aead ≡ Some key → length rest < iv_size key
    → envelope_of keys table scheme row plain ad (random ++ rest) ≡ None
short_iv keys table scheme row plain ad random rest data_key key makes primary short =
    behind_key keys table scheme row plain ad random rest data_key makes
    ∙ ap (option_and_then (behind_data_key plain ad data_key)) (short_random key table keys (data_key_of row random) [] rest primary short)

-- the data key, sealed under a record with this IV
abbrev sealed_key : Record → KeyKind → (value iv : List ℕ) → List ℕ
sealed_key r key value iv = prefix_bytes (prefix_of r) ++ seal_of key iv value []

-- an envelope of that and of a payload
abbrev in_envelope : (sealed : List ℕ) → Sealed → Enveloped
in_envelope sealed payload = record { answer = Ok (envelope sealed payload.bytes); left = payload.left }

-- behind both fills the payload is sealed
behind_iv : (keys : Keys) (table : Table) (scheme : Scheme) (row : Row) (plain ad random iv rest : List ℕ) (data_key key : KeyKind) (r : Record) → MakesDataKey scheme row random data_key → primary_of keys ≡ Some r → key_of_record table Aead r ≡ Some key → length iv ≡ iv_size key
    → envelope_of keys table scheme row plain ad (random ++ (iv ++ rest)) ≡ option_map (in_envelope (sealed_key r key (data_key_of row random) iv)) (seal_behind [] plain ad rest data_key)
behind_iv keys table scheme row plain ad random iv rest data_key key r makes primary there whole =
    behind_key keys table scheme row plain ad random (iv ++ rest) data_key makes
    ∙ ap (option_and_then (behind_data_key plain ad data_key)) (sealed_with r key table keys (data_key_of row random) [] (iv ++ rest) primary there ∙ whole_iv key (prefix_bytes (prefix_of r)) (data_key_of row random) [] iv rest whole)

-- for an IV of the data key
short_payload : (keys : Keys) (table : Table) (scheme : Scheme) (row : Row) (plain ad random iv rest : List ℕ) (data_key key : KeyKind) → MakesDataKey scheme row random data_key → primary_key keys table Aead ≡ Some key → length iv ≡ iv_size key → length rest < iv_size data_key
    → envelope_of keys table scheme row plain ad (random ++ (iv ++ rest)) ≡ None
short_payload keys table scheme row plain ad random iv rest data_key key makes primary whole short =
    let under = primary_is table (primary_of keys) key primary in
    behind_iv keys table scheme row plain ad random iv rest data_key key under.0 makes under.1 under.2 whole
    ∙ ap (option_map (in_envelope (sealed_key under.0 key (data_key_of row random) iv))) (too_few (nat_lt (length rest) (iv_size data_key)) _ (grind (arith, nat_tests)))

-- fewer than are asked for, behind what was drawn
pub asks_none : (keys : Keys) (table : Table) (scheme : Scheme) (row : Row) (plain ad before rest : List ℕ) (asked : ℕ) → Asks keys table scheme row before asked → length rest < asked → envelope_of keys table scheme row plain ad (before ++ rest) ≡ None
asks_none keys table scheme row plain ad before rest asked (inl (nothing, size)) short =
    ap (λ (front : List ℕ). envelope_of keys table scheme row plain ad (front ++ rest)) nothing
    ∙ short_key keys table scheme row plain ad rest (subst (λ (n : ℕ). length rest < n) size short)
asks_none keys table scheme row plain ad before rest asked (inr (inl asks)) short =
    short_iv keys table scheme row plain ad before rest asks.data_key asks.key asks.makes asks.primary (subst (λ (n : ℕ). length rest < n) asks.size short)
asks_none keys table scheme row plain ad before rest asked (inr (inr asks)) short =
    ap (envelope_of keys table scheme row plain ad) (ap (λ (front : List ℕ). front ++ rest) asks.both ∙ append_assoc asks.random asks.iv rest)
    ∙ short_payload keys table scheme row plain ad asks.random asks.iv rest asks.data_key asks.key asks.makes asks.primary asks.whole (subst (λ (n : ℕ). length rest < n) asks.size short)

-- ---- whole fills

-- these bytes settle nothing yet, or what is made
abbrev Decides : Draw (Result (List ℕ) Rule) → (drawn : List ℕ) → Type 0
Decides give drawn = (give drawn ≡ None) ⊎ ((given : Result (Result (List ℕ) Rule) EditRefusal) × Settles give drawn given)

settles_refused : (keys : Keys) (table : Table) (scheme : Scheme) (row : Row) (plain ad random : List ℕ) (rule : Rule) → length random ≡ random_of row → key_under scheme (data_key_of row random) ≡ Err rule
    → Settles (seals_envelope keys table scheme row plain ad) random (Ok (Err rule))
settles_refused keys table scheme row plain ad random rule whole broken = λ more.
    ap (option_map as_enveloped) (envelope-drawn keys table scheme row plain ad random more whole ∙ ap (under_data_key keys table (data_key_of row random) plain ad more) broken)

-- all three
settles_payload : (keys : Keys) (table : Table) (scheme : Scheme) (row : Row) (plain ad random iv last : List ℕ) (data_key key : KeyKind) → MakesDataKey scheme row random data_key → primary_key keys table Aead ≡ Some key → length iv ≡ iv_size key → length last ≡ iv_size data_key
    → Decides (seals_envelope keys table scheme row plain ad) ((random ++ iv) ++ last)
settles_payload keys table scheme row plain ad random iv last data_key key makes primary whole size =
    let under = primary_is table (primary_of keys) key primary in
    let sealed = sealed_key under.0 key (data_key_of row random) iv in
    inr (
      Ok (Ok (envelope sealed ([] ++ seal_of data_key last plain ad))),
      λ more.
          ap (option_map as_enveloped) (
          ap (envelope_of keys table scheme row plain ad) (append_assoc (random ++ iv) last more ∙ append_assoc random iv (last ++ more))
          ∙ behind_iv keys table scheme row plain ad random iv (last ++ more) data_key key under.0 makes under.1 under.2 whole
          ∙ ap (option_map (in_envelope sealed)) (whole_iv data_key [] plain ad last more size)
          ),
    )

-- two, and the third one where it has no bytes
settles_iv : (keys : Keys) (table : Table) (scheme : Scheme) (row : Row) (plain ad random iv : List ℕ) (data_key key : KeyKind) → MakesDataKey scheme row random data_key → primary_key keys table Aead ≡ Some key → length iv ≡ iv_size key
    → Decides (seals_envelope keys table scheme row plain ad) (random ++ iv)
settles_iv keys table scheme row plain ad random iv data_key key makes primary whole = elim (cases_lt 0 (iv_size data_key)) [
  | inl some ↦ inl (ap (option_map as_enveloped) (
      ap (λ (behind : List ℕ). envelope_of keys table scheme row plain ad (random ++ behind)) (sym (append-nil iv))
      ∙ short_payload keys table scheme row plain ad random iv [] data_key key makes primary whole some
      ))
  | inr none ↦ subst (Decides (seals_envelope keys table scheme row plain ad)) (append-nil (random ++ iv)) (settles_payload keys table scheme row plain ad random iv [] data_key key makes primary whole (omega (arith, none)))
]

-- a keyset without a primary key seals nothing
no_primary : (table : Table) (plain ad random : List ℕ) (found : Option Record) → option_and_then (key_of_record table Aead) found ≡ None → option_and_then (seal_under table plain ad random) found ≡ None
no_primary table plain ad random None is = refl
no_primary table plain ad random (Some r) is = ap (option_and_then (seal_behind (prefix_bytes (prefix_of r)) plain ad random)) is

-- one, of a valid data key
settles_made : (keys : Keys) (table : Table) (scheme : Scheme) (row : Row) (plain ad random : List ℕ) (data_key : KeyKind) → MakesDataKey scheme row random data_key → Decides (seals_envelope keys table scheme row plain ad) random
settles_made keys table scheme row plain ad random data_key makes = by (primary_key keys table Aead) refl
  where
    by : (o : Option KeyKind) → primary_key keys table Aead ≡ o → Decides (seals_envelope keys table scheme row plain ad) random
    by None none = inl (ap (option_map as_enveloped) (
        ap (envelope_of keys table scheme row plain ad) (sym (append-nil random))
        ∙ behind_key keys table scheme row plain ad random [] data_key makes
        ∙ ap (option_and_then (behind_data_key plain ad data_key)) (no_primary table (data_key_of row random) [] [] (primary_of keys) none)
        ))
    by (Some key) primary = elim (cases_lt 0 (iv_size key)) [
      | inl some ↦ inl (ap (option_map as_enveloped) (
          ap (envelope_of keys table scheme row plain ad) (sym (append-nil random))
          ∙ short_iv keys table scheme row plain ad random [] data_key key makes primary some
          ))
      | inr none ↦ subst (Decides (seals_envelope keys table scheme row plain ad)) (append-nil random) (settles_iv keys table scheme row plain ad random [] data_key key makes primary (omega (arith, none)))
    ]

-- one, of any
settles_key : (keys : Keys) (table : Table) (scheme : Scheme) (row : Row) (plain ad random : List ℕ) → length random ≡ random_of row → Decides (seals_envelope keys table scheme row plain ad) random
settles_key keys table scheme row plain ad random whole = by (key_under scheme (data_key_of row random)) refl
  where
    by : (o : Result KeyKind Rule) → key_under scheme (data_key_of row random) ≡ o → Decides (seals_envelope keys table scheme row plain ad) random
    by (Ok data_key) valid = settles_made keys table scheme row plain ad random data_key (record { whole = whole; valid = valid })
    by (Err rule) broken = inr (Ok (Err rule), settles_refused keys table scheme row plain ad random rule whole broken)

-- ---- sealing

-- an envelope
pub enveloped_passes : (table : Table) (keys : Keys) (scheme : Scheme) (row : Row) (plain ad bytes : List ℕ) (old : World) (entropy : EntropyState) → IsEnveloping keys table scheme row plain ad old.entropy entropy bytes → Stood old.entropy.faults entropy.faults
    → Passes (envelopes table keys scheme row (to_eseal ad) plain) old (Ok bytes) (record old { entropy = entropy })
enveloped_passes table keys scheme row plain ad bytes old entropy is stood = λ next s last run.
    inl (settled is.drawn entropy (Ok (Ok bytes)) is.drew stood (λ more. ap (option_map as_enveloped) (is.answer more)) (inl run))

-- the data key was refused
pub envelope_refused : (table : Table) (keys : Keys) (scheme : Scheme) (row : Row) (plain ad : List ℕ) (rule : Rule) (old : World) (entropy : EntropyState) → RefusedKey keys table scheme row plain ad old.entropy entropy rule
    → (next : List ℕ → Plan) → Ends (envelopes table keys scheme row (to_eseal ad) plain next) old (status.DekRefused rule) (record old { entropy = entropy })
envelope_refused table keys scheme row plain ad rule old entropy is next =
    inl (settled is.drawn entropy (Ok (Err rule)) is.drew is.stood (λ more. ap (option_map as_enveloped) (is.answer more)) (inl (refl, refl)))

-- what is lost comes behind what was drawn
lost_first : (drawn lost : List ℕ) (o : Option (List ℕ)) → option_map (λ rest. (drawn ++ lost) ++ rest) o ≡ option_map (λ rest. drawn ++ rest) (option_map (λ rest. lost ++ rest) o)
lost_first drawn lost None = refl
lost_first drawn lost (Some rest) = ap Some (append_assoc drawn lost rest)

-- the entropy failed at a fill
pub envelope_failed : (table : Table) (keys : Keys) (scheme : Scheme) (row : Row) (plain ad : List ℕ) (old : World) (entropy : EntropyState) → FailedAtFill keys table scheme row old.entropy entropy
    → (next : List ℕ → Plan) → Ends (envelopes table keys scheme row (to_eseal ad) plain next) old status.EntropyFault (record old { entropy = entropy })
envelope_failed table keys scheme row plain ad old entropy fault next =
    inl (draw_failed refl (record { source = refl; sink = refl; store = refl }) (record {
      rose = fault.rose;
      drawn = fault.before;
      gone = fault.gone;
      undecided = ap (option_map as_enveloped) (
          ap (envelope_of keys table scheme row plain ad) (sym (append-nil fault.before))
          ∙ asks_none keys table scheme row plain ad fault.before [] fault.asked fault.asks fault.some
          );
      short = λ steady. short_left old.entropy.left (option_map (λ rest. fault.gone.lost ++ rest) entropy.left)
          (fault.gone.drew.left ∙ lost_first fault.before fault.gone.lost entropy.left) (fault.short steady);
    }))
  where
    short_left : (left behind : Option (List ℕ)) → left ≡ option_map (λ rest. fault.before ++ rest) behind → IfSome left (λ all. length all < length fault.before + fault.asked)
        → IfSome left (λ all. seals_envelope keys table scheme row plain ad all ≡ None)
    short_left None behind is short = tt
    short_left (Some all) None is short = absurd (cc)
    short_left (Some all) (Some rest) is short =
        let same : all ≡ fault.before ++ rest = same_Some _ _ is in
        ap (option_map as_enveloped) (
        ap (envelope_of keys table scheme row plain ad) same
        ∙ asks_none keys table scheme row plain ad fault.before rest fault.asked fault.asks (omega (arith, ap length same, length-append fault.before rest, short))
        )

-- memory was wanting behind bytes that were drawn
starved_behind : (give : Draw (Result (List ℕ) Rule)) (drawn : List ℕ) (old : World) (entropy : EntropyState) → Decides give drawn → Drew old.entropy entropy drawn → Stood old.entropy.faults entropy.faults
    → (next : Result (Result (List ℕ) Rule) EditRefusal → Plan) → Ends (allocates (draws envelopings give (λ made. allocates (next made)))) old status.NoMemory (record old { entropy = entropy })
starved_behind give drawn old entropy (inl none) drew stood next = inl (draw_starved tt refl (record { source = refl; sink = refl; store = refl }) drawn drew stood none)
starved_behind give drawn old entropy (inr (given, settles)) drew stood next = inl (settled drawn entropy given drew stood settles (inr (refl, refl)))

-- it was, at a fill or behind it
pub starved_enveloping : (table : Table) (keys : Keys) (scheme : Scheme) (row : Row) (plain ad : List ℕ) (old : World) (entropy : EntropyState) → StoodAtFill keys table scheme row old.entropy entropy
    → (next : Result (Result (List ℕ) Rule) EditRefusal → Plan) → Ends (allocates (draws envelopings (seals_envelope keys table scheme row plain ad) (λ made. allocates (next made)))) old status.NoMemory (record old { entropy = entropy })
starved_enveloping table keys scheme row plain ad old entropy fault next = by fault.asks fault.part
  where
    Ended : Type 0
    Ended = Ends (allocates (draws envelopings (seals_envelope keys table scheme row plain ad) (λ made. allocates (next made)))) old status.NoMemory (record old { entropy = entropy })

    behind : (drawn : List ℕ) → drawn ≡ fault.before ++ fault.fill → Decides (seals_envelope keys table scheme row plain ad) drawn → Ended
    behind drawn is decided = starved_behind (seals_envelope keys table scheme row plain ad) drawn old entropy decided (subst (Drew old.entropy entropy) (sym is) fault.drew) fault.stood next

    all_before : fault.fill ≡ [] → fault.before ≡ fault.before ++ fault.fill
    all_before none = sym (ap (λ (fill : List ℕ). fault.before ++ fill) none ∙ append-nil fault.before)

    by : Asks keys table scheme row fault.before fault.asked → (fault.fill ≡ []) ⊎ (length fault.fill ≡ fault.asked) → Ended
    by (inl (nothing, size)) (inl none) =
        inr (refl, ap (λ (e : EntropyState). record old { entropy = e }) (same_entropy old.entropy entropy (subst (Drew old.entropy entropy) (ap (λ (front : List ℕ). front ++ fault.fill) nothing ∙ none) fault.drew) fault.stood))
    by (inl (nothing, size)) (inr whole) =
        behind fault.fill (sym (ap (λ (front : List ℕ). front ++ fault.fill) nothing)) (settles_key keys table scheme row plain ad fault.fill (whole ∙ size))
    by (inr (inl asks)) (inl none) = behind fault.before (all_before none) (settles_made keys table scheme row plain ad fault.before asks.data_key asks.makes)
    by (inr (inl asks)) (inr whole) =
        behind (fault.before ++ fault.fill) refl (settles_iv keys table scheme row plain ad fault.before fault.fill asks.data_key asks.key asks.makes asks.primary (whole ∙ asks.size))
    by (inr (inr asks)) (inl none) =
        behind (asks.random ++ asks.iv) (sym asks.both ∙ all_before none) (settles_iv keys table scheme row plain ad asks.random asks.iv asks.data_key asks.key asks.makes asks.primary asks.whole)
    by (inr (inr asks)) (inr whole) =
        behind ((asks.random ++ asks.iv) ++ fault.fill) (ap (λ (front : List ℕ). front ++ fault.fill) (sym asks.both))
        (settles_payload keys table scheme row plain ad asks.random asks.iv fault.fill asks.data_key asks.key asks.makes asks.primary asks.whole (whole ∙ asks.size))

-- ---- resealing

-- the data key was sealed anew
pub resealed_key_passes : (table : Table) (keys : Keys) (parts : Parts) (bytes : List ℕ) (old : World) (entropy : EntropyState) → IsResealing keys table parts old.entropy entropy bytes → Stood old.entropy.faults entropy.faults
    → Passes (reseals_key table keys parts) old (Ok bytes) (record old { entropy = entropy })
resealed_key_passes table keys parts bytes old entropy is stood = λ next s last run.
    inl (settled is.sealing.drawn entropy (Ok is.sealed) is.sealing.drew stood (λ more. ap (option_map as_drawn) (is.sealing.answer more)) (inl (subst (λ (b : List ℕ). Ends (next b) (record old { entropy = entropy }) s last) is.joined run)))

-- the entropy failed at its IV, or memory was wanting
pub resealing_failed : (table : Table) (keys : Keys) (parts : Parts) (old : World) (entropy : EntropyState) → IsSealFault keys table old.entropy entropy seal_faults.EntropyFault
    → Passes {A = List ℕ} (reseals_key table keys parts) old (Err status.EntropyFault) (record old { entropy = entropy })
resealing_failed table keys parts old entropy fault = λ next.
    draw_failed_there table keys parts.value [] (λ sealed. sealed) (seals keys table parts.value []) (λ random. refl) old entropy fault (λ made. allocates (with_made made (λ sealed. next (envelope sealed parts.payload))))

pub resealing_starved : (table : Table) (keys : Keys) (parts : Parts) (old : World) (entropy : EntropyState) → IsSealFault keys table old.entropy entropy seal_faults.NoMemory
    → Passes {A = List ℕ} (reseals_key table keys parts) old (Err status.NoMemory) (record old { entropy = entropy })
resealing_starved table keys parts old entropy fault = λ next.
    starved_sealing table keys parts.value [] (λ sealed. sealed) (seals keys table parts.value []) (λ random. refl) old entropy fault (λ made. with_made made (λ sealed. next (envelope sealed parts.payload)))

-- the data key was opened, and the rest ended so
pub parts_pass : (table : Table) (keys : Keys) (held : Held) (sealer : Sealer) (parts : Parts) (found : Option Parts) (old new : World) (r : Result (List ℕ) Status) → IsOver table Aead keys held → Some parts ≡ found → Passes (reseals_key table keys parts) old r new
    → Passes (λ next. allocates (with_parts sealer found (λ p. reseals_key table keys p next))) old r new
parts_pass table keys held sealer parts found old new r over is passes =
    subst (λ (o : Option Parts). Passes (λ next. allocates (with_parts sealer o (λ p. reseals_key table keys p next))) old r new) is (behind_memory (reseals_key table keys parts) old new r passes)

-- it wasn't
pub no_parts : (table : Table) (keys : Keys) (held : Held) (sealer own : Sealer) (found : Option Parts) (old : World) → IsOver table Aead keys held → sealer ≡ own → None ≡ found
    → (next : List ℕ → Plan) → Ends (allocates (with_parts own found (λ p. reseals_key table keys p next))) old (status.OpenFailed unopened.DataKey sealer) old
no_parts table keys held sealer own found old over same is next =
    subst (λ (s : Sealer). Ends (allocates (with_parts s found (λ p. reseals_key table keys p next))) old (status.OpenFailed unopened.DataKey sealer) old) same
    (subst (λ (o : Option Parts). Ends (allocates (with_parts sealer o (λ p. reseals_key table keys p next))) old (status.OpenFailed unopened.DataKey sealer) old) is (inl (refl, refl)))

-- ---- the steps, one behind another

-- the plan from the input on, and from the handle on
abbrev pub reads_envelope : Table → Row → AskedEnvelope → Keys → Scheme → (List ℕ → Plan) → Plan
reads_envelope table row work keys scheme next = reads_input (envelope_limit work) (λ input. envelopes table keys scheme row work input next)

abbrev pub with_data_keys : Table → Row → AskedEnvelope → Rest (List ℕ)
with_data_keys table row work keys next = finds_scheme table row (λ scheme. reads_envelope table row work keys scheme next)

-- and from the template on
abbrev of_row : Table → Lock → List ℕ → Format → AskedEnvelope → Row → (List ℕ → Plan) → Plan
of_row table lock name form work row next = serves table Aead lock name form (with_data_keys table row work) next

-- there is no such template
pub envelope_no_template : (table : Table) (lock : Lock) (name : List ℕ) (form : Format) (template : List ℕ) (work : AskedEnvelope) (old new : World) (r : Result (List ℕ) Status) (s : Status) → IsErrAnd r (λ e. e ≡ s) → Passes {A = Row} (finds_dek template) old (Err s) new
    → Passes (envelope_output table lock name form template work) old r new
envelope_no_template table lock name form template work old new r s is one = ends_there (finds_dek template) (of_row table lock name form work) old new r s is one

pub envelope_no_keyset : (table : Table) (lock : Lock) (name : List ℕ) (form : Format) (template : List ℕ) (work : AskedEnvelope) (old new : World) (row : Row) (r : Result (List ℕ) Status) (s : Status) → Passes (finds_dek template) old (Ok row) old
    → IsErrAnd r (λ e. e ≡ s) → Passes {A = Keys} (loads_locked table lock name form) old (Err s) new → Passes (envelope_output table lock name form template work) old r new
envelope_no_keyset table lock name form template work old new row r s one is two =
    passes_then (finds_dek template) (of_row table lock name form work) old old new row r one (no_keyset table Aead lock name form (with_data_keys table row work) old new r s is two)

pub envelope_no_handle : (table : Table) (lock : Lock) (name : List ℕ) (form : Format) (template : List ℕ) (work : AskedEnvelope) (old mid : World) (row : Row) (keys : Keys) (r : Result (List ℕ) Status) (s : Status) → Passes (finds_dek template) old (Ok row) old → Passes (loads_locked table lock name form) old (Ok keys) mid
    → IsErrAnd r (λ e. e ≡ s) → ((next : Unit {0} → Plan) → Ends (handles origins.Keyset table Aead keys next) mid s mid) → Passes (envelope_output table lock name form template work) old r mid
envelope_no_handle table lock name form template work old mid row keys r s one two is three =
    passes_then (finds_dek template) (of_row table lock name form work) old old mid row r one (no_handle table Aead lock name form (with_data_keys table row work) old mid keys Aead r s is refl two three)

-- there is a template, and a keyset whose records can serve, and the rest ended so
pub envelope_with_handle : (table : Table) (lock : Lock) (name : List ℕ) (form : Format) (template : List ℕ) (work : AskedEnvelope) (old mid new : World) (row : Row) (keys : Keys) (r : Result (List ℕ) Status) → Passes (finds_dek template) old (Ok row) old → Passes (loads_locked table lock name form) old (Ok keys) mid
    → Passes (handles origins.Keyset table Aead keys) mid (Ok tt) mid → Passes (with_data_keys table row work keys) mid r new → Passes (envelope_output table lock name form template work) old r new
envelope_with_handle table lock name form template work old mid new row keys r one two three four =
    passes_then (finds_dek template) (of_row table lock name form work) old old new row r one (with_handle table Aead lock name form (with_data_keys table row work) old mid new keys Aead r refl two three four)

-- the template's keys have no manager
pub envelope_no_manager : (table : Table) (lock : Lock) (name : List ℕ) (form : Format) (template : List ℕ) (work : AskedEnvelope) (old mid : World) (row : Row) (keys : Keys) (r : Result (List ℕ) Status) (s : Status) → Passes (finds_dek template) old (Ok row) old → Passes (loads_locked table lock name form) old (Ok keys) mid
    → Passes (handles origins.Keyset table Aead keys) mid (Ok tt) mid → IsErrAnd r (λ e. e ≡ s) → Passes {A = Scheme} (finds_scheme table row) mid (Err s) mid → Passes (envelope_output table lock name form template work) old r mid
envelope_no_manager table lock name form template work old mid row keys r s one two three is four =
    envelope_with_handle table lock name form template work old mid mid row keys r one two three (ends_there (finds_scheme table row) (reads_envelope table row work keys) mid mid r s is four)

-- the input wasn't read
pub envelope_no_input : (table : Table) (lock : Lock) (name : List ℕ) (form : Format) (template : List ℕ) (work : AskedEnvelope) (old mid new : World) (row : Row) (keys : Keys) (scheme : Scheme) (r : Result (List ℕ) Status) (s : Status) → Passes (finds_dek template) old (Ok row) old → Passes (loads_locked table lock name form) old (Ok keys) mid
    → Passes (handles origins.Keyset table Aead keys) mid (Ok tt) mid → Passes (finds_scheme table row) mid (Ok scheme) mid → IsErrAnd r (λ e. e ≡ s) → Passes {A = List ℕ} (reads_input (envelope_limit work)) mid (Err s) new → Passes (envelope_output table lock name form template work) old r new
envelope_no_input table lock name form template work old mid new row keys scheme r s one two three four is five =
    envelope_with_handle table lock name form template work old mid new row keys r one two three
    (passes_then (finds_scheme table row) (reads_envelope table row work keys) mid mid new scheme r four (ends_there (reads_input (envelope_limit work)) (envelopes table keys scheme row work) mid new r s is five))

-- it was, and the work ended so
pub envelope_with_input : (table other : Table) (row : Row) (work : AskedEnvelope) (keys : Keys) (scheme : Scheme) (old mid new : World) (input : List ℕ) (r : Result (List ℕ) Status) → other ≡ table → Passes (finds_scheme table row) old (Ok scheme) old
    → Passes (reads_input (envelope_limit work)) old (Ok input) mid → Passes (envelopes other keys scheme row work input) mid r new → Passes (with_data_keys table row work keys) old r new
envelope_with_input table other row work keys scheme old mid new input r same one two three =
    passes_then (finds_scheme table row) (reads_envelope table row work keys) old old new scheme r one
    (passes_then (reads_input (envelope_limit work)) (envelopes table keys scheme row work) old mid new input r two (subst (λ (t : Table). Passes (envelopes t keys scheme row work input) mid r new) same three))
