-- What each step leaves of the random bytes, and the parts of an envelope.
use Rattle.std.proofs.Common.{◌≡◌, ◌∙◌, refl, sym, ap, subst, ℕ, ◌+◌, ◌≤◌, ltb, Bool, true, false, cond, List, [], ◌∷◌, ◌++◌, length, take, drop, Some, None, Result, Ok, Err, arith}
use Rattle.std.proofs.lemmas.Bool.{ltb-false}
use Rattle.std.proofs.lemmas.List.{append-nil, drop-drop, length-drop}
use Rattle.std.proofs.lemmas.Option.{same_Some}
use Rattle.key_msgs.specs.Templates.{Row, random_of}
use Rattle.key_msgs.specs.declared.key.KeyKind.{KeyKind}
use Rattle.key_msgs.specs.declared.primitive.Primitive.TheVariants.{Aead}
use Rattle.key_msgs.specs.declared.rule.Rule.{Rule}
use Rattle.keyset_model.specs.Keyset.{Keys}
use Rattle.managers.specs.Schemes.{Scheme, key_under}
use Rattle.managers.specs.Table.{Table}
use Rattle.managers.specs.Uses.{iv_size, seal_of}
use Rattle.envelopes.specs.Enveloped.{Enveloped, behind_data_key, data_key_of, envelope, envelope_of, under_data_key}
use Rattle.seal_wrap.specs.Info.{info_of}
use Rattle.seal_wrap.specs.Wrapped.{Wrapped, wrap_of, wrapped_with}
use Rattle.keyset_model.specs.Writing.{binary_of}
use Rattle.random_draws.proofs.FillLemmas.{IsSealing, Took, grown_took, is_sealing, primary_is, step_took, took-fill, took-one}
use Rattle.random_draws.proofs.StepFacts.{DrawsJust, HasThree, LeavesBehind}
use Rattle.random_draws.specs.Steps.{IsStep, Step, behind_key_fills, creation, edition, envelope_fills, enveloping, heading, sealing, step_fills, wrapping}
use Rattle.random_draws.specs.Slices.{DataKey, Fill, Header, Iv, edit_fills, new_fills, fill_of, iv_fills, total}
use Rattle.tinkey_cmds.specs.Draws.{Draw, Drawn, fill}
use Rattle.tinkey_cmds.specs.Edits.{Edit, Stepped, alone, first, step}
use Rattle.tinkey_plans.specs.Envelopes.{as_enveloped, seals_envelope}
use Rattle.tinkey_plans.specs.Plan.{Made, Of, envelopings, keysets, sealings}
use Rattle.tinkey_plans.specs.Using.{as_drawn, seals}
use Rattle.tinkey_plans.specs.Wrapping.{as_wrapping, is_json, wraps}
use Rattle.tinkey_words.specs.declared.words.rows.Format.{Format}
use Rattle.tinkey_session.proofs.Options.{clash, map_some, then_some}
use Rattle.wrapped_prims.specs.Answers.{Sealed, primary_key, seal_answer, seal_behind}
use Rattle.wrapped_prims.specs.Candidates.{prefix_bytes, prefix_of}

behind_took : (filled : List Fill) (random left : List ℕ) → Took (total filled) random left → LeavesBehind filled random left
behind_took filled random left took = record { enough = took.enough; behind = took.behind }

creates_draw : (row : Row) (random : List ℕ) (s : Stepped) → first row random ≡ Some s
    → LeavesBehind (new_fills 64 (random_of row) [] random) random s.left
creates_draw row random s e = behind_took _ random s.left (grown_took alone row [] random s e)

edits_draw : (keys : Keys) (edit : Edit) (random : List ℕ) (s : Stepped) → step keys edit random ≡ Some s
    → LeavesBehind (edit_fills keys random edit) random s.left
edits_draw keys edit random s e = behind_took _ random s.left (step_took keys edit random s e)

seal_leaves : (keys : Keys) (table : Table) (plain ad random : List ℕ) (made : Sealed) → IsSealing table keys plain ad random made → Took (total (iv_fills (primary_key keys table Aead))) random made.left
seal_leaves keys table plain ad random made s =
    subst (λ k. Took (total (iv_fills k)) random made.left) (sym (primary_is table keys s.under' s.key s.primary s.is)) (took-one (fill_of Iv (iv_size s.key)) random made.left s.took)

seals_draw : (keys : Keys) (table : Table) (plain ad random : List ℕ) (made : Sealed) → seal_answer keys table plain ad random ≡ Some made
    → LeavesBehind (iv_fills (primary_key keys table Aead)) random made.left
seals_draw keys table plain ad random made e = behind_took _ random made.left (seal_leaves keys table plain ad random made (is_sealing table keys plain ad random made e))

wraps_draw : (keys master : Keys) (table : Table) (random : List ℕ) (json : Bool) (wrapped : Wrapped) → wrap_of keys master table random json ≡ Some wrapped
    → LeavesBehind (iv_fills (primary_key master table Aead)) random wrapped.left
wraps_draw keys master table random json wrapped e =
    let there = map_some (wrapped_with json (info_of keys)) (seal_answer master table (binary_of keys) [] random) wrapped e in
    subst (LeavesBehind (iv_fills (primary_key master table Aead)) random) (ap (λ w. w.left) there.2) (seals_draw master table (binary_of keys) [] random there.0 there.1)

-- ---- envelopes

-- the parts of what is sealed under a data key
record UnderData (keys : Keys) (table : Table) (value plain ad random : List ℕ) (key : KeyKind) (e : Enveloped) : Type 0 where
  sealed : Sealed
  is : IsSealing table keys value [] random sealed
  took : Took (iv_size key) sealed.left e.left
  made : e.answer ≡ Ok (envelope sealed.bytes (seal_of key (take (iv_size key) sealed.left) plain ad))

under_data : (keys : Keys) (table : Table) (value plain ad random : List ℕ) (key : KeyKind) (e : Enveloped) → under_data_key keys table value plain ad random (Ok key) ≡ Some e → UnderData keys table value plain ad random key e
under_data keys table value plain ad random key e k =
    let one = then_some (behind_data_key plain ad key) (seal_answer keys table value [] random) e k in
    let sealed = one.0 in
    let two = map_some (λ (payload : Sealed). record { answer = Ok (envelope sealed.bytes payload.bytes); left = payload.left }) (seal_behind [] plain ad sealed.left key) e one.2 in
    let payload = two.0 in
    elim (ltb (length sealed.left) (iv_size key)) as (λ b. ltb (length sealed.left) (iv_size key) ≡ b
    → cond b None (Some (record { bytes = [] ++ seal_of key (take (iv_size key) sealed.left) plain ad; left = drop (iv_size key) sealed.left })) ≡ Some payload
    → UnderData keys table value plain ad random key e) [
      | true ↦ λ t h. clash h
      | false ↦ λ t h. record {
        sealed = sealed;
        is = is_sealing table keys value [] random sealed one.1;
        took = record { behind = sym (ap (λ y. y.left) two.2) ∙ sym (ap (λ y. y.left) (same_Some _ _ h)); enough = ltb-false _ _ t };
        made = sym (ap (λ y. y.answer) two.2) ∙ ap (λ y. Ok (envelope sealed.bytes y.bytes)) (sym (same_Some _ _ h));
      }
    ] refl two.1

-- the data key's bytes are there, and this came of those behind them
past_key : (keys : Keys) (table : Table) (scheme : Scheme) (row : Row) (plain ad random : List ℕ) (e : Enveloped) → envelope_of keys table scheme row plain ad random ≡ Some e
    → (random_of row ≤ length random)
    × (under_data_key keys table (data_key_of row (take (random_of row) random)) plain ad (drop (random_of row) random) (key_under scheme (data_key_of row (take (random_of row) random))) ≡ Some e)
past_key keys table scheme row plain ad random e k =
    let value = data_key_of row (take (random_of row) random) in
    elim (ltb (length random) (random_of row)) as (λ b. ltb (length random) (random_of row) ≡ b
    → cond b None (under_data_key keys table value plain ad (drop (random_of row) random) (key_under scheme value)) ≡ Some e
    → (random_of row ≤ length random) × (under_data_key keys table value plain ad (drop (random_of row) random) (key_under scheme value) ≡ Some e)) [
      | true ↦ λ t h. clash h
      | false ↦ λ t h. (ltb-false _ _ t, h)
    ] refl k

behind_key : (keys : Keys) (table : Table) (value plain ad random : List ℕ) (reading : Result KeyKind Rule) (e : Enveloped) → under_data_key keys table value plain ad random reading ≡ Some e
    → Took (total (behind_key_fills (iv_fills (primary_key keys table Aead)) reading)) random e.left
behind_key keys table value plain ad random (Err rule) e k = record { behind = sym (ap (λ y. y.left) (same_Some _ _ k)); enough = omega arith }
behind_key keys table value plain ad random (Ok key) e k =
    let u = under_data keys table value plain ad random key e k in
    let s = u.is in
    subst (λ o. Took (total (behind_key_fills (iv_fills o) (Ok key))) random e.left) (sym (primary_is table keys s.under' s.key s.primary s.is))
    (took-fill (fill_of Iv (iv_size s.key)) (fill_of Iv (iv_size key) ∷ []) random u.sealed.left e.left s.took (took-one (fill_of Iv (iv_size key)) u.sealed.left e.left u.took))

envelopes_draw : (keys : Keys) (table : Table) (scheme : Scheme) (row : Row) (plain ad random : List ℕ) (e : Enveloped) → envelope_of keys table scheme row plain ad random ≡ Some e
    → LeavesBehind (envelope_fills keys table scheme row random) random e.left
envelopes_draw keys table scheme row plain ad random e k =
    let past = past_key keys table scheme row plain ad random e k in
    let value = data_key_of row (take (random_of row) random) in
    let rest = drop (random_of row) random in
    behind_took (envelope_fills keys table scheme row random) random e.left
    (took-fill (fill_of DataKey (random_of row)) (behind_key_fills (iv_fills (primary_key keys table Aead)) (key_under scheme value)) random rest e.left
    (record { behind = refl; enough = past.0 }) (behind_key keys table value plain ad rest (key_under scheme value) e past.1))

same_answer : (a b : List ℕ) → ◌≡◌ {A = Result (List ℕ) Rule} (Ok a) (Ok b) → a ≡ b
same_answer a b e = cc

broken : {P : Type 0} (rule : Rule) (bytes : List ℕ) → ◌≡◌ {A = Result (List ℕ) Rule} (Err rule) (Ok bytes) → P
broken rule bytes e = absurd cc

pub envelopes_are_drawn : (keys : Keys) (table : Table) (scheme : Scheme) (row : Row) (plain ad random bytes : List ℕ) (e : Enveloped)
    → envelope_of keys table scheme row plain ad random ≡ Some e → e.answer ≡ Ok bytes → HasThree keys table scheme row plain ad random bytes
envelopes_are_drawn keys table scheme row plain ad random bytes e k ok =
    let past = past_key keys table scheme row plain ad random e k in
    let size = random_of row in
    let value = data_key_of row (take size random) in
    let rest = drop size random in
    elim (key_under scheme value) as (λ reading. key_under scheme value ≡ reading → under_data_key keys table value plain ad rest reading ≡ Some e
    → HasThree keys table scheme row plain ad random bytes) [
      | Err rule ↦ λ t h. broken rule bytes (ap (λ y. y.answer) (same_Some _ _ h) ∙ ok)
      | Ok key ↦ λ t h.
          let u = under_data keys table value plain ad rest key e h in
          let s = u.is in
          let left : u.sealed.left ≡ drop (size + iv_size s.key) random = s.took.behind ∙ drop-drop (iv_size s.key) size random in
          record {
            under' = s.under';
            primary = s.primary;
            key = s.key;
            is = s.is;
            data' = key;
            reads = t;
            made = same_answer _ _ (sym ok ∙ u.made)
                ∙ ap (λ b. envelope b (seal_of key (take (iv_size key) u.sealed.left) plain ad)) s.bytes
                ∙ ap (λ l. envelope (prefix_bytes (prefix_of s.under') ++ seal_of s.key (take (iv_size s.key) rest) value []) (seal_of key (take (iv_size key) l) plain ad)) left;
          }
    ] refl past.1

-- ---- each step

-- what leaves all but its fills, and settled with nothing left, drew these alone
just : {A : Type 0} (give : Draw A) (filled : List ℕ → List Fill) → ((random : List ℕ) (s : Drawn A) → give random ≡ Some s → LeavesBehind (filled random) random s.left) → DrawsJust give filled
just {A} give filled leaves drawn given settled =
    let s : Drawn A = record { answer = given; left = [] } in
    let l = leaves drawn s (ap give (sym (append-nil drawn)) ∙ settled []) in
    let enough = l.enough in
    let none = ap length l.behind ∙ length-drop (total (filled drawn)) drawn in
    omega (arith, enough, none)

seals_leave : (keys : Keys) (table : Table) (plain ad random : List ℕ) (s : Drawn (List ℕ)) → seals keys table plain ad random ≡ Some s → LeavesBehind (iv_fills (primary_key keys table Aead)) random s.left
seals_leave keys table plain ad random s e =
    let there = map_some as_drawn (seal_answer keys table plain ad random) s e in
    subst (LeavesBehind (iv_fills (primary_key keys table Aead)) random) (ap (λ y. y.left) there.2) (seals_draw keys table plain ad random there.0 there.1)

wraps_leave : (keys master : Keys) (table : Table) (form : Format) (random : List ℕ) (s : Drawn (List ℕ)) → wraps keys master table form random ≡ Some s
    → LeavesBehind (iv_fills (primary_key master table Aead)) random s.left
wraps_leave keys master table form random s e =
    let there = map_some as_wrapping (wrap_of keys master table random (is_json form)) s e in
    subst (LeavesBehind (iv_fills (primary_key master table Aead)) random) (ap (λ y. y.left) there.2) (wraps_draw keys master table random (is_json form) there.0 there.1)

envelopes_leave : (keys : Keys) (table : Table) (scheme : Scheme) (row : Row) (plain ad random : List ℕ) (s : Drawn (Result (List ℕ) Rule)) → seals_envelope keys table scheme row plain ad random ≡ Some s
    → LeavesBehind (envelope_fills keys table scheme row random) random s.left
envelopes_leave keys table scheme row plain ad random s e =
    let there = map_some as_enveloped (envelope_of keys table scheme row plain ad random) s e in
    subst (LeavesBehind (envelope_fills keys table scheme row random) random) (ap (λ y. y.left) there.2) (envelopes_draw keys table scheme row plain ad random there.0 there.1)

fill_leaves : (size : ℕ) (random : List ℕ) (s : Drawn (List ℕ)) → fill size random ≡ Some s → LeavesBehind (fill_of Header size ∷ []) random s.left
fill_leaves size random s e = elim (ltb (length random) size) as (λ b. ltb (length random) size ≡ b
    → cond b None (Some (record { answer = Ok (take size random); left = drop size random })) ≡ Some s → LeavesBehind (fill_of Header size ∷ []) random s.left) [
      | true ↦ λ t k. clash k
      | false ↦ λ t k. behind_took _ random s.left (took-one (fill_of Header size) random s.left (record { behind = sym (ap (λ y. y.left) (same_Some _ _ k)); enough = ltb-false _ _ t }))
    ] refl e

-- what a step's fills are where it settled: all that was drawn, and nothing else
pub steps_draw_just : (kind : Made) (give : Draw (Of kind)) (used : Step) → IsStep kind give used → DrawsJust give (step_fills used)
steps_draw_just keysets give (creation row) is =
    subst (λ g. DrawsJust g (step_fills (creation row))) (sym is) (just (first row) (new_fills 64 (random_of row) []) (creates_draw row))
steps_draw_just keysets give (edition keys edit) is =
    subst (λ g. DrawsJust g (step_fills (edition keys edit))) (sym is) (just (step keys edit) (λ random. edit_fills keys random edit) (edits_draw keys edit))
steps_draw_just keysets give (sealing table keys plain ad) is = absurd is
steps_draw_just keysets give (wrapping table keys master form) is = absurd is
steps_draw_just keysets give (enveloping table keys scheme row plain ad) is = absurd is
steps_draw_just keysets give (heading size) is = absurd is
steps_draw_just sealings give (creation row) is = absurd is
steps_draw_just sealings give (edition keys edit) is = absurd is
steps_draw_just sealings give (sealing table keys plain ad) is =
    subst (λ g. DrawsJust g (step_fills (sealing table keys plain ad))) (sym is)
    (just (seals keys table plain ad) (λ random. iv_fills (primary_key keys table Aead)) (seals_leave keys table plain ad))
steps_draw_just sealings give (wrapping table keys master form) is =
    subst (λ g. DrawsJust g (step_fills (wrapping table keys master form))) (sym is)
    (just (wraps keys master table form) (λ random. iv_fills (primary_key master table Aead)) (wraps_leave keys master table form))
steps_draw_just sealings give (enveloping table keys scheme row plain ad) is = absurd is
steps_draw_just sealings give (heading size) is =
    subst (λ g. DrawsJust g (step_fills (heading size))) (sym is) (just (fill size) (λ random. fill_of Header size ∷ []) (fill_leaves size))
steps_draw_just envelopings give (creation row) is = absurd is
steps_draw_just envelopings give (edition keys edit) is = absurd is
steps_draw_just envelopings give (sealing table keys plain ad) is = absurd is
steps_draw_just envelopings give (wrapping table keys master form) is = absurd is
steps_draw_just envelopings give (enveloping table keys scheme row plain ad) is =
    subst (λ g. DrawsJust g (step_fills (enveloping table keys scheme row plain ad))) (sym is)
    (just (seals_envelope keys table scheme row plain ad) (envelope_fills keys table scheme row) (envelopes_leave keys table scheme row plain ad))
steps_draw_just envelopings give (heading size) is = absurd is
