-- Envelopes whose data key was resealed, any number of times, open.
use Rattle.std.proofs.Common.{◌≡◌, ◌∙◌, arith, sym, refl, ap, ℕ, List, [], ◌∷◌, Option, Some, None, option_map}
use Rattle.std.specs.Option.{option_and_then}
use Rattle.std.proofs.lemmas.Option.{same_Some}
use Rattle.key_msgs.specs.KeyTypes.{url_of_type}
use Rattle.key_msgs.specs.Templates.{Row, row_named, type_made}
use Rattle.key_msgs.specs.declared.primitive.Primitive.TheVariants.{Aead}
use Rattle.keyset_model.specs.Keyset.{Keys}
use Rattle.keyset_model.specs.Writing.{ReadKeysFit}
use Rattle.managers.specs.Schemes.{Scheme}
use Rattle.managers.specs.Standard.{standard_table}
use Rattle.managers.specs.Table.{scheme_at}
use Rattle.envelopes.specs.Enveloped.{Parts, envelope, parts_in, reseal_envelope_of, seal_parts, with_payload}
use Rattle.envelopes.specs.EnvelopeLaws.{AreKeysResealed, DataKeysAreServed, EnvelopeResealed, EnvelopeUnder, IsDataKeyRow, IsKeyResealed}
use Rattle.tinkey_cmds.specs.Draws.{Drawn}
use Rattle.wrapped_prims.specs.Answers.{Sealed, seal_answer}
use Rattle.tinkey_plans.proofs.EnvelopeLemmas.{row_known}
use Rattle.tinkey_plans.specs.declared.status.Status.TheVariants as status
use Rattle.tinkey_plans.specs.Sealers.{envelope_sealer_of}
use Rattle.tinkey_plans.specs.declared.sealer.Sealer.{Sealer}
use Rattle.tinkey_plans.specs.Envelopes.{envelopes, reseals_key, with_parts}
use Rattle.tinkey_plans.specs.Plan.{Answer, Told, answer, draw_answer, refused, writes}
use Rattle.tinkey_plans.specs.Steps.{with_made}
use Rattle.tinkey_plans.specs.Using.{as_drawn}
use Rattle.tinkey_words.specs.Words.{to_ereseal, to_eseal}
use Rattle.tinkey_readable.proofs.AnywhereLemmas.{is_opened, was_used}
use Rattle.tinkey_readable.proofs.EnvelopeRunLemmas.{aead_scheme, gives_key_for, sealed_by}
use Rattle.tinkey_readable.proofs.ReachLemmas.{IsDoneAnswer}
use Rattle.tinkey_readable.specs.Resealing.{AreEnvelopesResealed, IsEnvelopeResealed, ResealedEnvelopesOpen, SealedText}

-- ---- what a keyset reseals

-- an answer made this of these random bytes
abbrev Reseals : Option Sealed → (output : List ℕ) → Type 0
Reseals o output = (x : Sealed) × (o ≡ Some x) × (x.bytes ≡ output)

abbrev resealed_so : (payload : List ℕ) → Told → Option Sealed → Answer
resealed_so payload told o =
    draw_answer (option_map as_drawn o) (refused told status.EntropyFault) (λ (d : Drawn (List ℕ)). answer (with_made d.answer (λ sealed. writes (envelope sealed payload))) (record told { random = d.left }))

by_sealing : (payload output : List ℕ) (told : Told) (o : Option Sealed) → IsDoneAnswer (resealed_so payload told o) → (resealed_so payload told o).output ≡ output → Reseals (option_map (with_payload payload) o) output
by_sealing payload output told None done gave = absurd (cc)
by_sealing payload output told (Some sealed) done gave = (with_payload payload sealed, refl, gave)

by_parts : (keys : Keys) (sealer : Sealer) (output : List ℕ) (told : Told) (o : Option Parts) → IsDoneAnswer (answer (with_parts sealer o (λ parts. reseals_key standard_table keys parts writes)) told) → (answer (with_parts sealer o (λ parts. reseals_key standard_table keys parts writes)) told).output ≡ output
    → Reseals (option_and_then (seal_parts keys standard_table told.random) o) output
by_parts keys sealer output told None done gave = absurd (cc)
by_parts keys sealer output told (Some parts) done gave = by_sealing parts.payload output told (seal_answer keys standard_table parts.value [] told.random) done gave

resealed_by : (keys : Keys) (scheme : Scheme) (row : Row) (told : Told) (output : List ℕ) → IsDoneAnswer (answer (envelopes standard_table keys scheme row to_ereseal told.input writes) (record told { input = [] }))
    → (answer (envelopes standard_table keys scheme row to_ereseal told.input writes) (record told { input = [] })).output ≡ output → Reseals (reseal_envelope_of keys standard_table scheme told.input told.random) output
resealed_by keys scheme row told output done gave = by_parts keys (envelope_sealer_of keys told.input) output (record told { input = [] }) (parts_in keys standard_table scheme told.input) done gave

-- ---- the law

-- an envelope with the keyset that sealed its data key
abbrev under_keys : SealedText → Keys → EnvelopeUnder
under_keys text keys = record { bytes = text.bytes; keys = keys; primary = text.under' }

-- envelopes that runs resealed are so by the definitions, and the last of them under some keyset
record ResealedAll (scheme : Scheme) (first : EnvelopeUnder) (last : SealedText) : Type 0 where
  keys : Keys
  between : List EnvelopeUnder
  are : AreKeysResealed standard_table scheme first between (under_keys last keys)

reseal_next : ReadKeysFit → (scheme : Scheme) (row : Row) (template : List ℕ) (from : Keys) (old new : SealedText) → row_named template ≡ Some row → scheme_at standard_table Aead (url_of_type (type_made row)) ≡ Some scheme → (x : IsEnvelopeResealed template old new)
    → IsKeyResealed standard_table scheme (under_keys old from) (under_keys new x.keys)
reseal_next fit scheme row template from old new named served x =
    let v = was_used fit to_ereseal x.lying x.keys x.again new.bytes x.told x.lies x.was in
    let y = resealed_by x.keys v.scheme v.row x.told new.bytes v.done v.gave in
    let made : type_made v.row ≡ type_made row = same_Some _ _ (ap (option_map type_made) (sym v.named) ∙ sym x.alike ∙ ap (option_map type_made) named) in
    let same : v.scheme ≡ scheme = same_Some _ _ (sym v.served ∙ ap (λ made. scheme_at standard_table Aead (url_of_type made)) made ∙ served) in
    record {
      prefix = x.prefix;
      has = x.has;
      there = x.there;
      is_primary = x.primary;
      gives = gives_key_for x.keys new.under' v.fit v.keyset x.primary;
      random = x.told.random;
      resealed = y.0;
      is = ap (λ (k : Scheme). reseal_envelope_of x.keys standard_table k old.bytes x.told.random) (sym same)
          ∙ ap (λ (i : List ℕ). reseal_envelope_of x.keys standard_table v.scheme i x.told.random) (sym x.same)
          ∙ y.1;
      bytes = y.2;
    }

reseal_all : ReadKeysFit → (scheme : Scheme) (row : Row) (template : List ℕ) (between : List SealedText) (from : Keys) (first last : SealedText) → row_named template ≡ Some row → scheme_at standard_table Aead (url_of_type (type_made row)) ≡ Some scheme
    → AreEnvelopesResealed template first between last → ResealedAll scheme (under_keys first from) last
unfolding AreEnvelopesResealed AreKeysResealed
reseal_all fit scheme row template [] from first last named served are =
    record { keys = from; between = []; are = ap (λ (t : SealedText). under_keys t from) are }
reseal_all fit scheme row template (next ∷ later) from first last named served are =
    let one = reseal_next fit scheme row template from first next named served are.0 in
    let all = reseal_all fit scheme row template later are.0.keys next last named served are.1 in
    record { keys = all.keys; between = under_keys next are.0.keys ∷ all.between; are = (one, all.are) }

pub resealed_envelopes_open : EnvelopeResealed → DataKeysAreServed → ReadKeysFit → ResealedEnvelopesOpen
resealed_envelopes_open back served fit before other old keys prefix template again ad told first last between lies primary was are one_type is serves same =
    let u = was_used fit (to_eseal ad) before old template first.bytes told lies was in
    let s = sealed_by old u.scheme u.row ad told first.bytes u.done u.gave in
    let row : IsDataKeyRow u.row = record { known = row_known template u.row u.named; aead = u.aead } in
    let all = reseal_all fit u.scheme u.row template between old first last u.named u.served are in
    let opened = back standard_table u.scheme u.row (under_keys first old) (under_keys last all.keys) all.between keys prefix told.input ad told.random s.0 row (aead_scheme served u.row u.scheme u.aead u.served) primary (gives_key_for old first.under' u.fit u.keyset primary) s.1 all.are is same in
    is_opened other keys u.row u.scheme template again ad last.bytes told.input u.named u.aead u.served one_type serves (omega (arith, opened.1, u.short)) opened.0
