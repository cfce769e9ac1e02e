-- Where an envelope is sealed or opened.
use Rattle.std.proofs.Common.{◌≡◌, ◌∙◌, sym, refl, ap, subst, ℕ, false, List, [], Option, Some, None, option_map, Result, Ok, Err}
use Rattle.key_msgs.specs.Templates.{Row}
use Rattle.key_msgs.specs.declared.rule.Rule.{Rule}
use Rattle.keyset_model.specs.Keyset.{Keys}
use Rattle.managers.specs.Schemes.{Scheme}
use Rattle.managers.specs.Table.{Table}
use Rattle.envelopes.specs.Enveloped.{Enveloped, Parts, envelope, envelope_of, open_envelope_of, parts_in, seal_parts, with_payload}
use Rattle.std.specs.Option.{option_and_then}
use Rattle.wrapped_prims.specs.Answers.{Sealed, seal_answer}
use Rattle.tinkey_cmds.specs.Draws.{Drawn}
use Rattle.tinkey_plans.specs.declared.status.Status.TheVariants as status
use Rattle.tinkey_plans.specs.Commands.{command_plan}
use Rattle.tinkey_plans.specs.Envelopes.{as_enveloped, envelopes, reseals_key, with_enveloped, with_parts}
use Rattle.tinkey_plans.specs.Plan.{Answer, Plan, Told, answer, draw_answer, refused, writes}
use Rattle.tinkey_plans.specs.Steps.{puts, with_made}
use Rattle.tinkey_plans.specs.Sealers.{envelope_sealer_of}
use Rattle.tinkey_plans.specs.declared.sealer.Sealer.{Sealer}
use Rattle.tinkey_plans.specs.declared.sealer.Unopened.TheVariants as unopened
use Rattle.tinkey_plans.specs.Using.{as_drawn, with_opened}
use Rattle.tinkey_words.specs.declared.words.rows.Format.{Format}
use Rattle.tinkey_words.specs.Words.{AskedEnvelope, Lock, to_eopen, to_ereseal, to_eseal, use_envelope}
use Rattle.tinkey_readable.specs.DoneWhere.{EnvelopeGoes, EnvelopeIsDone, EnvelopesDone}
use Rattle.tinkey_readable.specs.Runs.{IsFree}
use Rattle.tinkey_readable.proofs.DoneWhereLemmas.{opened_goes}
use Rattle.tinkey_readable.proofs.EnvelopeRunLemmas.{used_done, used_reached}
use Rattle.tinkey_readable.proofs.LyingLemmas.{name_free}
use Rattle.tinkey_readable.proofs.PutLemmas.{envelope_worked, made_put}
use Rattle.tinkey_readable.proofs.ReachLemmas.{IsDoneAnswer}

-- the answer by what the random bytes give
abbrev sealed_so : (next : List ℕ → Plan) → Told → Option Enveloped → Answer
sealed_so next told o =
    draw_answer (option_map as_enveloped o) (refused told status.EntropyFault) (λ (d : Drawn (Result (List ℕ) Rule)). answer (with_made d.answer (λ e. with_enveloped e next)) (record told { random = d.left }))

sealed_goes : (table : Table) (keys : Keys) (scheme : Scheme) (row : Row) (ad input : List ℕ) (next : List ℕ → Plan) (told : Told) → IsDoneAnswer (answer (envelopes table keys scheme row (to_eseal ad) input next) told) → EnvelopeGoes table keys scheme row (to_eseal ad) input told.random
sealed_goes table keys scheme row ad input next told done = by (envelope_of keys table scheme row input ad told.random) refl done
  where
    by_answer : (r : Result (List ℕ) Rule) (left : List ℕ) → envelope_of keys table scheme row input ad told.random ≡ Some (record { answer = r; left = left }) → IsDoneAnswer (sealed_so next told (Some (record { answer = r; left = left }))) → EnvelopeGoes table keys scheme row (to_eseal ad) input told.random
    by_answer (Ok bytes) left is done = (bytes, left, is)
    by_answer (Err rule) left is done = absurd (cc)

    by : (o : Option Enveloped) → envelope_of keys table scheme row input ad told.random ≡ o → IsDoneAnswer (sealed_so next told o) → EnvelopeGoes table keys scheme row (to_eseal ad) input told.random
    by (Some e) is done = by_answer e.answer e.left is done
    by None is done = absurd (cc)

-- the answer by what the primary key seals of the data key's message
abbrev resealed_so : (next : List ℕ → Plan) → (payload : List ℕ) → Told → Option Sealed → Answer
resealed_so next payload told o =
    draw_answer (option_map as_drawn o) (refused told status.EntropyFault) (λ (d : Drawn (List ℕ)). answer (with_made d.answer (λ sealed. next (envelope sealed payload))) (record told { random = d.left }))

resealed_goes : (table : Table) (keys : Keys) (sealer : Sealer) (o : Option Parts) (next : List ℕ → Plan) (told : Told) → IsDoneAnswer (answer (with_parts sealer o (λ parts. reseals_key table keys parts next)) told) → (resealed : Sealed) × (option_and_then (seal_parts keys table told.random) o ≡ Some resealed)
resealed_goes table keys sealer None next told done = absurd (cc)
resealed_goes table keys sealer (Some parts) next told done = by (seal_answer keys table parts.value [] told.random) done
  where
    by : (o : Option Sealed) → IsDoneAnswer (resealed_so next parts.payload told o) → (resealed : Sealed) × (option_map (with_payload parts.payload) o ≡ Some resealed)
    by (Some sealed) done = (with_payload parts.payload sealed, refl)
    by None done = absurd (cc)

resealed_done : (table : Table) (keys : Keys) (sealer : Sealer) (o : Option Parts) (told : Told) (resealed : Sealed) → option_and_then (seal_parts keys table told.random) o ≡ Some resealed → IsDoneAnswer (answer (with_parts sealer o (λ parts. reseals_key table keys parts writes)) told)
resealed_done table keys sealer None told resealed goes = absurd (cc)
resealed_done table keys sealer (Some parts) told resealed goes = by (seal_answer keys table parts.value [] told.random) goes
  where
    by : (o : Option Sealed) → option_map (with_payload parts.payload) o ≡ Some resealed → IsDoneAnswer (resealed_so writes parts.payload told o)
    by (Some sealed) goes = refl
    by None goes = absurd (cc)

goes_of : (table : Table) (keys : Keys) (scheme : Scheme) (row : Row) (work : AskedEnvelope) (input : List ℕ) (next : List ℕ → Plan) (told : Told) → IsDoneAnswer (answer (envelopes table keys scheme row work input next) told) → EnvelopeGoes table keys scheme row work input told.random
goes_of table keys scheme row (to_eseal ad) input next told done = sealed_goes table keys scheme row ad input next told done
goes_of table keys scheme row (to_eopen ad) input next told done = opened_goes unopened.Envelope (envelope_sealer_of keys input) (open_envelope_of keys table scheme input ad) next told done
goes_of table keys scheme row to_ereseal input next told done = resealed_goes table keys (envelope_sealer_of keys input) (parts_in keys table scheme input) next told done

done_of : (table : Table) (keys : Keys) (scheme : Scheme) (row : Row) (work : AskedEnvelope) (input : List ℕ) (told : Told) → EnvelopeGoes table keys scheme row work input told.random → IsDoneAnswer (answer (envelopes table keys scheme row work input writes) told)
done_of table keys scheme row (to_eseal ad) input told goes = ap (λ o. (sealed_so writes told o).status) goes.2
done_of table keys scheme row (to_eopen ad) input told goes = ap (λ o. (answer (with_opened unopened.Envelope (envelope_sealer_of keys input) o writes) told).status) goes.1
done_of table keys scheme row to_ereseal input told goes = resealed_done table keys (envelope_sealer_of keys input) (parts_in keys table scheme input) told goes.0 goes.1

envelope_is : (table : Table) (lock : Lock) (name : List ℕ) (form : Format) (template : List ℕ) (work : AskedEnvelope) (out : Option (List ℕ)) (told : Told) → IsDoneAnswer (answer (command_plan table (use_envelope lock name form template work out)) told) → EnvelopeIsDone table lock name form template work out told
envelope_is table lock name form template work out told is =
    let u = used_done table lock name form template work (puts out) told is in
    let left = record told { input = [] } in
    let worked : IsDoneAnswer (answer (envelopes table u.keys u.scheme u.row work told.input (puts out)) left) = ap (λ (a : Answer). a.status) (sym u.goes_on) ∙ is in
    let w = envelope_worked table u.keys u.scheme u.row work told.input (puts out) left worked in
    record {
      row = u.row;
      named = u.named;
      aead = u.aead;
      scheme = u.scheme;
      served = u.served;
      keys = u.keys;
      lies = u.lies;
      fit = u.fit;
      short = u.fits;
      goes = goes_of table u.keys u.scheme u.row work told.input (puts out) left worked;
      free = subst (IsFree out) w.files (name_free out w.made w.left (ap (λ (a : Answer). a.status) (sym (w.is (puts out))) ∙ worked));
    }

envelope_comes : (table : Table) (lock : Lock) (name : List ℕ) (form : Format) (template : List ℕ) (work : AskedEnvelope) (out : Option (List ℕ)) (told : Told) → EnvelopeIsDone table lock name form template work out told → IsDoneAnswer (answer (command_plan table (use_envelope lock name form template work out)) told)
envelope_comes table lock name form template work out told x =
    let left = record told { input = [] } in
    let reached = used_reached table lock name form template x.row x.scheme work (puts out) x.keys told x.named x.aead x.served x.lies x.fit x.short in
    let steps = envelopes table x.keys x.scheme x.row work told.input in
    let w = envelope_worked table x.keys x.scheme x.row work told.input writes left (done_of table x.keys x.scheme x.row work told.input left x.goes) in
    let p = made_put steps left false out (answer (steps writes) left).output w refl x.free in
    ap (λ (a : Answer). a.status) reached ∙ p.0

pub envelopes_done : EnvelopesDone
envelopes_done table lock name form template work out told = (envelope_is table lock name form template work out told, envelope_comes table lock name form template work out told)
