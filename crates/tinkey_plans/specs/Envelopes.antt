-- Envelope sealing, as steps of plans. What an envelope is, and what one opens to, is said apart from
-- plans, in Enveloped of seal_wrap.
use Rattle.std.specs.Prelude.{ℕ, List, [], Option, Some, None, Result, Ok, Err}
use Rattle.std.specs.Option.{option_map}
use Rattle.key_msgs.specs.KeyTypes.{primitive_of_type}
use Rattle.key_msgs.specs.Templates.{Row, type_made}
use Rattle.key_msgs.specs.declared.primitive.Primitive.{Primitive}
use Rattle.key_msgs.specs.declared.primitive.Primitive.TheVariants.{Aead, Daead, Mac, Prf, Stream}
use Rattle.key_msgs.specs.declared.rule.Rule.{Rule}
use Rattle.keyset_model.specs.Keyset.{Keys}
use Rattle.managers.specs.Schemes.{Scheme}
use Rattle.managers.specs.Table.{Table, scheme_at}
use Rattle.envelopes.specs.Enveloped.{Enveloped, Parts, envelope, envelope_of, open_envelope_of, parts_in}
use Rattle.envelopes.specs.Enveloping.{url_made}
use Rattle.tinkey_cmds.specs.Draws.{Draw, Drawn}
use Rattle.tinkey_plans.specs.declared.origin.Origin.TheVariants as origins
use Rattle.tinkey_plans.specs.declared.status.Status.TheVariants as status
use Rattle.tinkey_plans.specs.Plan.{Plan, ends, allocates, draws, envelopings}
use Rattle.tinkey_plans.specs.Handles.{handles}
use Rattle.tinkey_plans.specs.Locks.{loads_locked}
use Rattle.tinkey_plans.specs.Steps.{finds_template, input_limit, reads_input, sealed_limit, with_made}
use Rattle.tinkey_plans.specs.Sealers.{envelope_sealer_of}
use Rattle.tinkey_plans.specs.declared.sealer.Sealer.{Sealer}
use Rattle.tinkey_plans.specs.declared.sealer.Unopened.TheVariants as unopened
use Rattle.tinkey_plans.specs.Using.{seals_plain, with_opened}
use Rattle.tinkey_words.specs.declared.words.rows.Format.{Format}
use Rattle.tinkey_words.specs.Words.{AskedEnvelope, Lock, to_eseal, to_eopen, to_ereseal}

-- the primitive is that of AEADs, or the template is refused
abbrev pub with_aead : Primitive → Plan → Plan
with_aead Aead next = next
with_aead Daead next = ends status.DekTemplate tt
with_aead Mac next = ends status.DekTemplate tt
with_aead Prf next = ends status.DekTemplate tt
with_aead Stream next = ends status.DekTemplate tt

-- the template of this name, whose keys are of an AEAD
abbrev pub finds_dek : List ℕ → (Row → Plan) → Plan
finds_dek name next =
    finds_template name (λ row. with_aead (primitive_of_type (type_made row)) (next row))

-- the scheme goes on, or there is no manager
abbrev pub with_scheme : Option Scheme → (Scheme → Plan) → Plan
with_scheme None next = ends status.NoDekManager tt
with_scheme (Some scheme) next = next scheme

-- the scheme of the manager of a template's keys
abbrev pub finds_scheme : Table → Row → (Scheme → Plan) → Plan
finds_scheme table row next = with_scheme (scheme_at table Aead (url_made row)) next

-- an envelope, or the rule that the data key breaks, and the random bytes that are left
abbrev pub as_enveloped : Enveloped → Drawn (Result (List ℕ) Rule)
as_enveloped enveloped = record { answer = Ok enveloped.answer; left = enveloped.left }

-- the envelope of a plaintext, of random bytes
abbrev pub seals_envelope : Keys → Table → Scheme → Row → (plain ad : List ℕ)
    → Draw (Result (List ℕ) Rule)
seals_envelope keys table scheme row plain ad random =
    option_map as_enveloped (envelope_of keys table scheme row plain ad random)

-- the envelope goes on, or the data key is refused
abbrev pub with_enveloped : Result (List ℕ) Rule → (List ℕ → Plan) → Plan
with_enveloped (Ok bytes) next = next bytes
with_enveloped (Err rule) next = ends (status.DekRefused rule) tt

-- the parts of an envelope go on, or its data key didn't open, and this is told of the key that sealed it
abbrev pub with_parts : Sealer → Option Parts → (Parts → Plan) → Plan
with_parts sealer None next = ends (status.OpenFailed unopened.DataKey sealer) tt
with_parts sealer (Some parts) next = next parts

-- the message of the data key, sealed anew under the primary key, before the same payload
abbrev pub reseals_key : Table → Keys → Parts → (List ℕ → Plan) → Plan
reseals_key table keys parts next =
    seals_plain table keys parts.value [] (λ sealed. next (envelope sealed parts.payload))

-- what is put out for the whole input
abbrev pub envelopes : Table → Keys → Scheme → Row → AskedEnvelope → List ℕ → (List ℕ → Plan) → Plan
envelopes table keys scheme row (to_eseal ad) input next =
    allocates (draws envelopings (seals_envelope keys table scheme row input ad)
    (λ made. allocates (with_made made (λ enveloped. with_enveloped enveloped next))))
envelopes table keys scheme row (to_eopen ad) input next =
    allocates (with_opened unopened.Envelope (envelope_sealer_of keys input)
    (open_envelope_of keys table scheme input ad) next)
envelopes table keys scheme row to_ereseal input next =
    allocates (with_parts (envelope_sealer_of keys input) (parts_in keys table scheme input)
    (λ parts. reseals_key table keys parts next))

-- how many bytes the input of such work may have
abbrev pub envelope_limit : AskedEnvelope → ℕ
envelope_limit (to_eseal ad) = input_limit
envelope_limit (to_eopen ad) = sealed_limit
envelope_limit to_ereseal = sealed_limit

-- eseal, eopen and ereseal: work on the whole input, by data keys under the keys of the keyset in a file
abbrev pub envelope_output : Table → Lock → List ℕ → Format → (template : List ℕ) → AskedEnvelope
    → (List ℕ → Plan) → Plan
envelope_output table lock name form template work next =
    finds_dek template (λ row.
    loads_locked table lock name form (λ keys.
    handles origins.Keyset table Aead keys (λ fit.
    finds_scheme table row (λ scheme.
    reads_input (envelope_limit work) (λ input.
    envelopes table keys scheme row work input next)))))
