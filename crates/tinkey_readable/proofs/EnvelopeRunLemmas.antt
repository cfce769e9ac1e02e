-- Envelopes that were sealed before runs, and opened after them.
use Rattle.std.proofs.Common.{◌≡◌, ◌∙◌, sym, refl, ap, subst, ℕ, ◌≤◌, List, [], length, Option, Some, None, Result, Ok, Err}
use Rattle.std.specs.Prelude.{option_map}
use Rattle.std.proofs.lemmas.Option.{same_Some}
use Rattle.key_msgs.specs.KeyTypes.{primitive_of_type}
use Rattle.key_msgs.specs.Templates.{Row, row_named, type_made}
use Rattle.key_msgs.specs.declared.primitive.Primitive.{Primitive}
use Rattle.key_msgs.specs.declared.primitive.Primitive.TheVariants.{Aead, Daead, Mac, Prf, Stream}
use Rattle.key_msgs.specs.declared.rule.Rule.{Rule}
use Rattle.keyset_model.specs.Keyset.{Keys, primary_of}
use Rattle.keyset_model.specs.declared.record.Record.{Record}
use Rattle.managers.specs.Schemes.{Scheme}
use Rattle.managers.specs.Standard.{standard_table}
use Rattle.managers.specs.Table.{Table, scheme_at}
use Rattle.envelopes.specs.EnvelopeLaws.{DataKeysAreServed, IsAeadScheme}
use Rattle.envelopes.specs.Enveloped.{Enveloped, envelope_of}
use Rattle.envelopes.specs.Enveloping.{IsAead, url_made}
use Rattle.tinkey_cmds.specs.Draws.{Drawn}
use Rattle.tinkey_session.proofs.UsableLemmas.{valid_key}
use Rattle.wrapped_prims.specs.Fitness.{key_of_record, unfit}
use Rattle.tinkey_plans.proofs.AnswerLemmas.{has_key}
use Rattle.wrapped_prims.specs.Laws.{GivesKeyFor, IsKeyset}
use Rattle.tinkey_plans.specs.declared.status.Status.TheVariants as status
use Rattle.tinkey_words.specs.declared.words.rows.Format.{Format}
use Rattle.tinkey_words.specs.Words.{AskedEnvelope, Lock, to_eseal}
use Rattle.tinkey_plans.specs.Locks.{loads_locked}
use Rattle.tinkey_plans.specs.Envelopes.{as_enveloped, envelope_limit, envelope_output, envelopes, finds_dek, finds_scheme, with_aead, with_enveloped, with_scheme}
use Rattle.tinkey_plans.specs.Plan.{Answer, Plan, Told, answer, draw_answer, refused, writes}
use Rattle.tinkey_plans.specs.Steps.{reads_input, with_made, with_row}
use Rattle.tinkey_plans.specs.Handles.{handles, unless_unfit}
use Rattle.tinkey_readable.specs.Lying.{LiesBehind}
use Rattle.tinkey_readable.proofs.LyingLemmas.{loads_reached, loads_there}
use Rattle.tinkey_readable.proofs.ReachLemmas.{IsDoneAnswer, input_done, input_reached, input_within, unfit_done}
use Rattle.tinkey_plans.specs.UnfitKeys.{unfit_key}
use Rattle.tinkey_plans.specs.declared.origin.Origin.TheVariants as origins

-- ---- the template of data keys

-- a template that was found
pub record FoundDek (name : List ℕ) (next : Row → Plan) (told : Told) : Type 0 where
  pub row : Row
  pub is : row_named name ≡ Some row
  pub aead : IsAead row
  pub goes_on : answer (finds_dek name next) told ≡ answer (next row) told

dek_reached : (name : List ℕ) (row : Row) (next : Row → Plan) (told : Told) → row_named name ≡ Some row → IsAead row → answer (finds_dek name next) told ≡ answer (next row) told
dek_reached name row next told is aead =
    ap (λ o. answer (with_row o name (λ r. with_aead (primitive_of_type (type_made r)) (next r))) told) is
    ∙ ap (λ p. answer (with_aead p (next row)) told) aead

dek_done : (name : List ℕ) (next : Row → Plan) (told : Told) → IsDoneAnswer (answer (finds_dek name next) told) → FoundDek name next told
dek_done name next told done = by (row_named name) refl done
  where
    by_aead : (row : Row) (p : Primitive) → row_named name ≡ Some row → primitive_of_type (type_made row) ≡ p → IsDoneAnswer (answer (with_aead p (next row)) told) → FoundDek name next told
    by_aead row Aead is aead done = record { row = row; is = is; aead = aead; goes_on = dek_reached name row next told is aead }
    by_aead row Daead is aead done = absurd (cc)
    by_aead row Mac is aead done = absurd (cc)
    by_aead row Prf is aead done = absurd (cc)
    by_aead row Stream is aead done = absurd (cc)

    by : (found : Option Row) → row_named name ≡ found → IsDoneAnswer (answer (with_row found name (λ r. with_aead (primitive_of_type (type_made r)) (next r))) told) → FoundDek name next told
    by (Some row) is done = by_aead row (primitive_of_type (type_made row)) is refl done
    by None is done = absurd (cc)

-- ---- its scheme

scheme_done : (found : Option Scheme) (next : Scheme → Plan) (told : Told) → IsDoneAnswer (answer (with_scheme found next) told) → (scheme : Scheme) × (found ≡ Some scheme)
scheme_done (Some scheme) next told done = (scheme, refl)
scheme_done None next told done = absurd (cc)

-- under the standard table its keys are those of an AEAD
pub aead_scheme : DataKeysAreServed → (row : Row) (scheme : Scheme) → IsAead row → scheme_at standard_table Aead (url_made row) ≡ Some scheme → IsAeadScheme scheme
aead_scheme served row scheme aead is =
    let s = served row aead in
    let same : s.0 ≡ scheme = same_Some _ _ (sym s.1 ∙ is) in
    subst IsAeadScheme same (ap primitive_of_type s.2 ∙ aead)

-- ---- the whole

-- the plan from the template on, and from the keyset on
abbrev behind_keys : Table → Row → AskedEnvelope → (List ℕ → Plan) → Keys → Plan
behind_keys table row work next keys =
    handles origins.Keyset table Aead keys (λ fit.
    finds_scheme table row (λ scheme.
    reads_input (envelope_limit work) (λ input.
    envelopes table keys scheme row work input next)))

abbrev behind_dek : Table → Lock → (name : List ℕ) → Format → AskedEnvelope → (List ℕ → Plan) → Row → Plan
behind_dek table lock name form work next row = loads_locked table lock name form (behind_keys table row work next)

abbrev behind_fit : Table → Row → AskedEnvelope → (List ℕ → Plan) → Keys → Plan
behind_fit table row work next keys =
    finds_scheme table row (λ scheme.
    reads_input (envelope_limit work) (λ input.
    envelopes table keys scheme row work input next))

abbrev behind_scheme : Table → Row → AskedEnvelope → (List ℕ → Plan) → Keys → Scheme → Plan
behind_scheme table row work next keys scheme =
    reads_input (envelope_limit work) (λ input. envelopes table keys scheme row work input next)

pub record UsedEnvelope (table : Table) (lock : Lock) (name : List ℕ) (form : Format) (template : List ℕ) (work : AskedEnvelope) (next : List ℕ → Plan) (told : Told) (a : Answer) : Type 0 where
  pub row : Row
  pub named : row_named template ≡ Some row
  pub aead : IsAead row
  pub keys : Keys
  pub lies : LiesBehind table lock (record { file = Some name; form = form }) told keys
  pub fit : unfit keys Aead table ≡ None
  pub scheme : Scheme
  pub served : scheme_at table Aead (url_made row) ≡ Some scheme
  pub fits : length told.input ≤ envelope_limit work
  pub goes_on : a ≡ answer (envelopes table keys scheme row work told.input next) (record told { input = [] })

pub used_done : (table : Table) (lock : Lock) (name : List ℕ) (form : Format) (template : List ℕ) (work : AskedEnvelope) (next : List ℕ → Plan) (told : Told) → IsDoneAnswer (answer (envelope_output table lock name form template work next) told)
    → UsedEnvelope table lock name form template work next told (answer (envelope_output table lock name form template work next) told)
used_done table lock name form template work next told done =
    let d = dek_done template (behind_dek table lock name form work next) told done in
    let done1 : IsDoneAnswer (answer (behind_dek table lock name form work next d.row) told) = ap (λ (a : Answer). a.status) (sym d.goes_on) ∙ done in
    let k = loads_there table lock name form (behind_keys table d.row work next) told done1 in
    let keys = k.0 in
    let l = loads_reached table lock name form keys (behind_keys table d.row work next) told k.1 in
    let done2 : IsDoneAnswer (answer (unless_unfit (unfit_key origins.Keyset keys) (unfit keys Aead table) (behind_fit table d.row work next keys)) told) = ap (λ (a : Answer). a.status) (sym l) ∙ done1 in
    let fit = unfit_done _ (unfit keys Aead table) (behind_fit table d.row work next keys) told done2 in
    let f : answer (unless_unfit (unfit_key origins.Keyset keys) (unfit keys Aead table) (behind_fit table d.row work next keys)) told ≡ answer (behind_fit table d.row work next keys) told = ap (λ u. answer (unless_unfit (unfit_key origins.Keyset keys) u (behind_fit table d.row work next keys)) told) fit in
    let done3 : IsDoneAnswer (answer (behind_fit table d.row work next keys) told) = ap (λ (a : Answer). a.status) (sym f) ∙ done2 in
    let s = scheme_done (scheme_at table Aead (url_made d.row)) (behind_scheme table d.row work next keys) told done3 in
    let g : answer (behind_fit table d.row work next keys) told ≡ answer (behind_scheme table d.row work next keys s.0) told = ap (λ o. answer (with_scheme o (behind_scheme table d.row work next keys)) told) s.1 in
    let done4 : IsDoneAnswer (answer (behind_scheme table d.row work next keys s.0) told) = ap (λ (a : Answer). a.status) (sym g) ∙ done3 in
    record {
      row = d.row;
      named = d.is;
      aead = d.aead;
      keys = keys;
      lies = k.1;
      fit = fit;
      scheme = s.0;
      served = s.1;
      fits = input_within (envelope_limit work) (λ input. envelopes table keys s.0 d.row work input next) told done4;
      goes_on = d.goes_on ∙ l ∙ f ∙ g ∙ input_done (envelope_limit work) (λ input. envelopes table keys s.0 d.row work input next) told done4;
    }

pub used_reached : (table : Table) (lock : Lock) (name : List ℕ) (form : Format) (template : List ℕ) (row : Row) (scheme : Scheme) (work : AskedEnvelope) (next : List ℕ → Plan) (keys : Keys) (told : Told) → row_named template ≡ Some row → IsAead row → scheme_at table Aead (url_made row) ≡ Some scheme
    → LiesBehind table lock (record { file = Some name; form = form }) told keys → unfit keys Aead table ≡ None → length told.input ≤ envelope_limit work
    → answer (envelope_output table lock name form template work next) told ≡ answer (envelopes table keys scheme row work told.input next) (record told { input = [] })
used_reached table lock name form template row scheme work next keys told named aead served lies fit fits =
    dek_reached template row (behind_dek table lock name form work next) told named aead
    ∙ loads_reached table lock name form keys (behind_keys table row work next) told lies
    ∙ ap (λ u. answer (unless_unfit (unfit_key origins.Keyset keys) u (behind_fit table row work next keys)) told) fit
    ∙ ap (λ o. answer (with_scheme o (behind_scheme table row work next keys)) told) served
    ∙ input_reached (envelope_limit work) (λ input. envelopes table keys scheme row work input next) told fits

-- ---- an envelope before and after

-- the primary record of a keyset that can serve gives a key
pub gives_key_for : (old : Keys) (r : Record) → unfit old Aead standard_table ≡ None → IsKeyset old → primary_of old ≡ Some r → GivesKeyFor standard_table Aead r
gives_key_for old r fit keyset primary =
    let h = has_key standard_table Aead old (record { faultless = keyset.faultless; fit = fit }) in
    let there = subst (λ x. key_of_record standard_table Aead x ≡ Some h.key) (same_Some _ _ (sym h.primary ∙ primary)) h.there in
    (h.key, there, valid_key Aead r h.key there)

-- what was sealed, by the answer of its work
pub sealed_by : (old : Keys) (scheme : Scheme) (row : Row) (ad : List ℕ) (told : Told) (output : List ℕ) → IsDoneAnswer (answer (envelopes standard_table old scheme row (to_eseal ad) told.input writes) (record told { input = [] }))
    → (answer (envelopes standard_table old scheme row (to_eseal ad) told.input writes) (record told { input = [] })).output ≡ output
    → (left : List ℕ) × (envelope_of old standard_table scheme row told.input ad told.random ≡ Some (record { answer = Ok output; left = left }))
sealed_by old scheme row ad told output done gave = by (envelope_of old standard_table scheme row told.input ad told.random) refl done gave
  where
    a : Option Enveloped → Answer
    a o = draw_answer (option_map as_enveloped o) (refused (record told { input = [] }) status.EntropyFault) (λ (d : Drawn (Result (List ℕ) Rule)). answer (with_made d.answer (λ e. with_enveloped e writes)) (record { input = []; files = told.files; random = d.left }))

    by_answer : (r : Result (List ℕ) Rule) (left : List ℕ) → envelope_of old standard_table scheme row told.input ad told.random ≡ Some (record { answer = r; left = left }) → IsDoneAnswer (a (Some (record { answer = r; left = left }))) → (a (Some (record { answer = r; left = left }))).output ≡ output
        → (left : List ℕ) × (envelope_of old standard_table scheme row told.input ad told.random ≡ Some (record { answer = Ok output; left = left }))
    by_answer (Ok bytes) left is done gave = (left, is ∙ ap (λ (b : List ℕ). Some (record { answer = Ok b; left = left })) gave)
    by_answer (Err rule) left is done gave = absurd (cc)

    by : (o : Option Enveloped) → envelope_of old standard_table scheme row told.input ad told.random ≡ o → IsDoneAnswer (a o) → (a o).output ≡ output
        → (left : List ℕ) × (envelope_of old standard_table scheme row told.input ad told.random ≡ Some (record { answer = Ok output; left = left }))
    by None is done gave = absurd (cc)
    by (Some e) is done gave = by_answer e.answer e.left is done gave
