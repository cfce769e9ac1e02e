-- What a step gave is made of its slices of the stream.
use Rattle.std.proofs.Common.{◌≡◌, ◌∙◌, refl, sym, ap, subst, ℕ, ◌+◌, ◌≤◌, ltb, true, false, cond, List, [], ◌∷◌, ◌++◌, length, take, drop, Option, Some, None, Result, Ok, arith}
use Rattle.std.proofs.lemmas.Bool.{ltb-false}
use Rattle.std.proofs.lemmas.List.{append-nil, drop-append-le, drop-drop, length-drop, take-append-le}
use Rattle.std.proofs.lemmas.List.Sums.{sum_by-append, sum_by-cons}
use Rattle.std.proofs.lemmas.Option.{same_Some}
use Rattle.key_msgs.specs.Templates.{Row, random_of}
use Rattle.key_msgs.specs.declared.primitive.Primitive.TheVariants.{Aead}
use Rattle.key_msgs.specs.declared.rule.Rule.{Rule}
use Rattle.keyset_model.specs.Keyset.{Keys}
use Rattle.keyset_model.specs.Writing.{binary_of}
use Rattle.keyset_model.specs.declared.record.Record.{Record}
use Rattle.managers.specs.Schemes.{Scheme, key_under}
use Rattle.managers.specs.Table.{Table}
use Rattle.managers.specs.Uses.{iv_size, seal_of}
use Rattle.random_draws.proofs.FillLemmas.{is_sealing, primary_is}
use Rattle.random_draws.proofs.KeyLemmas.{created_are_drawn, edit_adds, edit_rotates, id_at, key_at, placed-made}
use Rattle.random_draws.proofs.StepFacts.{HasNewKey, HasThree}
use Rattle.random_draws.proofs.StepLemmas.{envelopes_are_drawn}
use Rattle.random_draws.specs.Slices.{DataKey, Fill, Header, Id, Iv, Key, edit_fills, fill_of, iv_fills, placed, total, unless_there}
use Rattle.random_draws.specs.Steps.{EditMakesOf, IsEnvelopeOf, IsHeaderOf, IsNewOf, IsSealedOf, IsStep, MakesOf, Step, behind_key_fills, creation, edition, envelope_fills, enveloping, heading, sealing, step_fills, wrapping}
use Rattle.envelopes.specs.Enveloped.{data_key_of, envelope, envelope_of}
use Rattle.seal_wrap.specs.Info.{info_of}
use Rattle.seal_wrap.specs.Wrapped.{wrap_of, wrapped_text, wrapped_with}
use Rattle.tinkey_cmds.specs.Draws.{Draw, Drawn, fill}
use Rattle.tinkey_cmds.specs.Edits.{Edit, Add, Rotate, Promote, Enable, Disable, Destroy, Delete, first, id_of, record_of, refusal_of, step}
use Rattle.tinkey_cmds.specs.declared.command.EditRefusal.{EditRefusal}
use Rattle.tinkey_plans.specs.Ends.{Settles}
use Rattle.tinkey_plans.specs.Envelopes.{as_enveloped, seals_envelope}
use Rattle.tinkey_plans.specs.Plan.{Made, Of, envelopings, keysets, sealings}
use Rattle.tinkey_plans.specs.Using.{as_drawn, seals}
use Rattle.tinkey_plans.specs.Wrapping.{as_wrapping, is_json, wraps}
use Rattle.tinkey_words.specs.declared.words.rows.Format.{Format}
use Rattle.tinkey_session.proofs.Options.{clash, map_some}
use Rattle.wrapped_prims.specs.Answers.{Sealed, primary_key, seal_answer}
use Rattle.wrapped_prims.specs.Candidates.{prefix_bytes, prefix_of}

-- ---- bytes of the stream

-- these bytes stand there, and others behind them
abbrev pub StandsAt : (stream : List ℕ) (place : ℕ) (drawn rest : List ℕ) → Type 0
StandsAt stream place drawn rest = drawn ++ rest ≡ drop place stream

same_front : (stream drawn rest : List ℕ) (place n : ℕ) → StandsAt stream place drawn rest → n ≤ length drawn → take n drawn ≡ take n (drop place stream)
same_front stream drawn rest place n is within = sym (take-append-le n drawn rest within) ∙ ap (take n) is

same_part : (stream drawn rest : List ℕ) (place k n : ℕ) → StandsAt stream place drawn rest → k + n ≤ length drawn → take n (drop k drawn) ≡ take n (drop (place + k) stream)
same_part stream drawn rest place k n is within =
    let size = length-drop k drawn in
    let first : k ≤ length drawn = omega (arith, within) in
    let last : n ≤ length (drop k drawn) = omega (arith, within, size) in
    sym (take-append-le n (drop k drawn) rest last)
    ∙ ap (take n) (sym (drop-append-le k drawn rest first) ∙ ap (drop k) is ∙ drop-drop k place stream)

-- ---- new keys

total-append : (xs ys : List Fill) → total (xs ++ ys) ≡ total xs + total ys
total-append xs ys = sum_by-append (λ f. f.size) xs ys

total-cons : (f : Fill) (later : List Fill) → total (f ∷ later) ≡ f.size + total later
total-cons f later = sum_by-cons (λ g. g.size) f later

total-two : (a b : Fill) → total (a ∷ b ∷ []) ≡ a.size + b.size
total-two a b = let one = total-cons a (b ∷ []) in let two = total-cons b [] in omega (arith, one, two)

new_of : (stream drawn rest : List ℕ) (place : ℕ) (row : Row) (filled : List Fill) (r : Record) → StandsAt stream place drawn rest → total filled ≡ length drawn
    → HasNewKey row filled drawn r → IsNewOf stream (placed 0 place filled) row r
new_of stream drawn rest place row filled r is just h =
    let start = total h.before in
    let size = random_of row in
    let sum : total filled ≡ start + (4 + size) = ap total h.split ∙ total-append h.before (fill_of Id 4 ∷ fill_of Key size ∷ []) ∙ ap (λ n. start + n) (total-two (fill_of Id 4) (fill_of Key size)) in
    let id_bytes : take 4 (drop start drawn) ≡ take 4 (drop (place + start) stream) = same_part stream drawn rest place start 4 is (omega (arith, sum, just)) in
    let there : place + (start + 4) ≡ place + start + 4 = omega arith in
    let key_bytes : take size (drop (start + 4) drawn) ≡ take size (drop (place + start + 4) stream)
    = same_part stream drawn rest place (start + 4) size is (omega (arith, sum, just)) ∙ ap (λ n. take size (drop n stream)) there in
    record {
      tries = placed 0 place h.before;
      id = id_at 0 (place + start);
      key = key_at 0 (place + start) size;
      are = ap (placed 0 place) h.split ∙ placed-made 0 place start size h.before refl;
      for_id = refl;
      four = refl;
      for_key = refl;
      whole = refl;
      made = h.made ∙ ap (λ b. record_of row (id_of b) (take size (drop (start + 4) drawn))) id_bytes ∙ ap (λ b. record_of row (id_of (take 4 (drop (place + start) stream))) b) key_bytes;
    }

-- ---- sealings

placed-iv : (place size : ℕ) → placed 0 place (fill_of Iv size ∷ []) ≡ record { line = 0; purpose = Iv; place = place; size = size } ∷ []
unfolding placed
placed-iv place size = refl

sealed_of : (stream drawn rest : List ℕ) (place : ℕ) (table : Table) (keys : Keys) (plain ad : List ℕ) (made : Sealed) → StandsAt stream place drawn rest
    → seal_answer keys table plain ad drawn ≡ Some made → IsSealedOf stream (placed 0 place (iv_fills (primary_key keys table Aead))) table keys plain ad made.bytes
sealed_of stream drawn rest place table keys plain ad made is e =
    let s = is_sealing table keys plain ad drawn made e in
    let size = iv_size s.key in
    let enough = s.took.enough in
    record {
      under' = s.under';
      primary = s.primary;
      key = s.key;
      reads = s.is;
      iv = record { line = 0; purpose = Iv; place = place; size = size };
      are = ap (λ k. placed 0 place (iv_fills k)) (primary_is table keys s.under' s.key s.primary s.is) ∙ placed-iv place size;
      for_iv = refl;
      whole = refl;
      made = s.bytes ∙ ap (λ b. prefix_bytes (prefix_of s.under') ++ seal_of s.key b plain ad) (same_front stream drawn rest place size is enough);
    }

same_given : {A : Type 0} (x y : A) → ◌≡◌ {A = Result A EditRefusal} (Ok x) (Ok y) → x ≡ y
same_given x y e = cc

same_envelope : (x y : Result (List ℕ) Rule) → ◌≡◌ {A = Result (Result (List ℕ) Rule) EditRefusal} (Ok x) (Ok y) → x ≡ y
same_envelope x y e = cc

-- ---- envelopes

placed-three : (place a b c : ℕ) → placed 0 place (fill_of DataKey a ∷ fill_of Iv b ∷ fill_of Iv c ∷ [])
    ≡ record { line = 0; purpose = DataKey; place = place; size = a } ∷ record { line = 0; purpose = Iv; place = place + a; size = b }
    ∷ record { line = 0; purpose = Iv; place = place + a + b; size = c } ∷ []
unfolding placed
placed-three place a b c = refl

three_of : (stream drawn rest : List ℕ) (place : ℕ) (table : Table) (keys : Keys) (scheme : Scheme) (row : Row) (plain ad bytes : List ℕ) → StandsAt stream place drawn rest
    → total (envelope_fills keys table scheme row drawn) ≡ length drawn → HasThree keys table scheme row plain ad drawn bytes
    → IsEnvelopeOf stream (placed 0 place (envelope_fills keys table scheme row drawn)) table keys scheme row plain ad bytes
three_of stream drawn rest place table keys scheme row plain ad bytes is just h =
    let a = random_of row in
    let b = iv_size h.key in
    let c = iv_size h.data' in
    let filled : envelope_fills keys table scheme row drawn ≡ fill_of DataKey a ∷ fill_of Iv b ∷ fill_of Iv c ∷ []
    = ap (λ k. fill_of DataKey a ∷ behind_key_fills (iv_fills k) (key_under scheme (data_key_of row (take a drawn)))) (primary_is table keys h.under' h.key h.primary h.is)
    ∙ ap (λ reading. fill_of DataKey a ∷ behind_key_fills (fill_of Iv b ∷ []) reading) h.reads in
    let one = total-cons (fill_of DataKey a) (fill_of Iv b ∷ fill_of Iv c ∷ []) in
    let two = total-two (fill_of Iv b) (fill_of Iv c) in
    let sum : a + (b + c) ≡ length drawn = sym (ap total filled ∙ one ∙ ap (λ n. a + n) two) ∙ just in
    let data_bytes : take a drawn ≡ take a (drop place stream) = same_front stream drawn rest place a is (omega (arith, sum)) in
    let data_iv_bytes : take b (drop a drawn) ≡ take b (drop (place + a) stream) = same_part stream drawn rest place a b is (omega (arith, sum)) in
    let there : place + (a + b) ≡ place + a + b = omega arith in
    let iv_bytes : take c (drop (a + b) drawn) ≡ take c (drop (place + a + b) stream)
    = same_part stream drawn rest place (a + b) c is (omega (arith, sum)) ∙ ap (λ n. take c (drop n stream)) there in
    let front = prefix_bytes (prefix_of h.under') in
    record {
      under' = h.under';
      primary = h.primary;
      key = h.key;
      reads = h.is;
      data_slice = record { line = 0; purpose = DataKey; place = place; size = a };
      data_iv = record { line = 0; purpose = Iv; place = place + a; size = b };
      iv = record { line = 0; purpose = Iv; place = place + a + b; size = c };
      are = ap (placed 0 place) filled ∙ placed-three place a b c;
      for_data = refl;
      whole_data = refl;
      data_key = h.data';
      valid = ap (λ d. key_under scheme (data_key_of row d)) (sym data_bytes) ∙ h.reads;
      for_data_iv = refl;
      whole_data_iv = refl;
      for_iv = refl;
      whole_iv = refl;
      made = h.made
          ∙ ap (λ d. envelope (front ++ seal_of h.key (take b (drop a drawn)) (data_key_of row d) []) (seal_of h.data' (take c (drop (a + b) drawn)) plain ad)) data_bytes
          ∙ ap (λ d. envelope (front ++ seal_of h.key d (data_key_of row (take a (drop place stream))) []) (seal_of h.data' (take c (drop (a + b) drawn)) plain ad)) data_iv_bytes
          ∙ ap (λ d. envelope (front ++ seal_of h.key (take b (drop (place + a) stream)) (data_key_of row (take a (drop place stream))) []) (seal_of h.data' d plain ad)) iv_bytes;
    }

-- ---- headers

placed-header : (place size : ℕ) → placed 0 place (fill_of Header size ∷ []) ≡ record { line = 0; purpose = Header; place = place; size = size } ∷ []
unfolding placed
placed-header place size = refl

header_of : (stream drawn rest : List ℕ) (place size : ℕ) (s : Drawn (List ℕ)) (bytes : List ℕ) → StandsAt stream place drawn rest → fill size drawn ≡ Some s → s.answer ≡ Ok bytes
    → IsHeaderOf stream (placed 0 place (fill_of Header size ∷ [])) size bytes
header_of stream drawn rest place size s bytes is e ok =
    elim (ltb (length drawn) size) as (λ b. ltb (length drawn) size ≡ b
    → cond b None (Some (record { answer = Ok (take size drawn); left = drop size drawn })) ≡ Some s → IsHeaderOf stream (placed 0 place (fill_of Header size ∷ [])) size bytes) [
      | true ↦ λ t k. clash k
      | false ↦ λ t k. record {
        header = record { line = 0; purpose = Header; place = place; size = size };
        are = placed-header place size;
        for_header = refl;
        whole = refl;
        made = sym (same_given _ _ (ap (λ y. y.answer) (same_Some _ _ k) ∙ ok)) ∙ same_front stream drawn rest place size is (ltb-false _ _ t);
      }
    ] refl e

-- ---- every step

-- what settled, as what it gave of exactly these bytes
abbrev settled_as : {A : Type 0} → Result A EditRefusal → Drawn A
settled_as given = record { answer = given; left = [] }

gave : {A : Type 0} (give mine : Draw A) (drawn : List ℕ) (given : Result A EditRefusal) → give ≡ mine → Settles give drawn given → mine drawn ≡ Some (settled_as given)
gave give mine drawn given is settled = ap (λ g. g drawn) (sym is) ∙ ap give (sym (append-nil drawn)) ∙ settled []

nothing_placed : (place : ℕ) (filled : List Fill) → filled ≡ [] → placed 0 place filled ≡ []
unfolding placed
nothing_placed place filled e = ap (placed 0 place) e

no_fills : (o : Option EditRefusal) → unless_there o [] ≡ []
no_fills None = refl
no_fills (Some fault) = refl

edit_made : (stream drawn rest : List ℕ) (place : ℕ) (keys : Keys) (edit : Edit) (given : Result Keys EditRefusal) (new : Keys) → StandsAt stream place drawn rest
    → total (edit_fills keys drawn edit) ≡ length drawn → step keys edit drawn ≡ Some (settled_as given) → given ≡ Ok new
    → EditMakesOf stream (placed 0 place (edit_fills keys drawn edit)) keys edit new
edit_made stream drawn rest place keys (Add row) given new is just e ok =
    let h = edit_adds keys row drawn (settled_as given) new e ok in (h.0, h.1, new_of stream drawn rest place row (edit_fills keys drawn (Add row)) h.0 is just h.2)
edit_made stream drawn rest place keys (Rotate row) given new is just e ok =
    let h = edit_rotates keys row drawn (settled_as given) new e ok in (h.0, h.1, new_of stream drawn rest place row (edit_fills keys drawn (Rotate row)) h.0 is just h.2)
edit_made stream drawn rest place keys (Promote id) given new is just e ok = nothing_placed place _ (no_fills (refusal_of keys (Promote id)))
edit_made stream drawn rest place keys (Enable id) given new is just e ok = nothing_placed place _ (no_fills (refusal_of keys (Enable id)))
edit_made stream drawn rest place keys (Disable id) given new is just e ok = nothing_placed place _ (no_fills (refusal_of keys (Disable id)))
edit_made stream drawn rest place keys (Destroy id) given new is just e ok = nothing_placed place _ (no_fills (refusal_of keys (Destroy id)))
edit_made stream drawn rest place keys (Delete id) given new is just e ok = nothing_placed place _ (no_fills (refusal_of keys (Delete id)))

sealing_made : (stream drawn rest : List ℕ) (place : ℕ) (table : Table) (keys : Keys) (plain ad : List ℕ) (given : Result (List ℕ) EditRefusal) (sealed : List ℕ) → StandsAt stream place drawn rest
    → seals keys table plain ad drawn ≡ Some (settled_as given) → given ≡ Ok sealed → IsSealedOf stream (placed 0 place (iv_fills (primary_key keys table Aead))) table keys plain ad sealed
sealing_made stream drawn rest place table keys plain ad given sealed is e ok =
    let there = map_some as_drawn (seal_answer keys table plain ad drawn) (settled_as given) e in
    let same : there.0.bytes ≡ sealed = same_given _ _ (ap (λ y. y.answer) there.2 ∙ ok) in
    subst (IsSealedOf stream (placed 0 place (iv_fills (primary_key keys table Aead))) table keys plain ad) same (sealed_of stream drawn rest place table keys plain ad there.0 is there.1)

wrapping_made : (stream drawn rest : List ℕ) (place : ℕ) (table : Table) (keys master : Keys) (form : Format) (given : Result (List ℕ) EditRefusal) (text : List ℕ) → StandsAt stream place drawn rest
    → wraps keys master table form drawn ≡ Some (settled_as given) → given ≡ Ok text
    → (sealed : List ℕ) × IsSealedOf stream (placed 0 place (iv_fills (primary_key master table Aead))) table master (binary_of keys) [] sealed
    × (text ≡ wrapped_text (is_json form) sealed (info_of keys))
wrapping_made stream drawn rest place table keys master form given text is e ok =
    let one = map_some as_wrapping (wrap_of keys master table drawn (is_json form)) (settled_as given) e in
    let two = map_some (wrapped_with (is_json form) (info_of keys)) (seal_answer master table (binary_of keys) [] drawn) one.0 one.1 in
    let same : one.0.text ≡ text = same_given _ _ (ap (λ y. y.answer) one.2 ∙ ok) in
    (two.0.bytes, sealed_of stream drawn rest place table master (binary_of keys) [] two.0 is two.1, sym same ∙ sym (ap (λ y. y.text) two.2))

envelope_made : (stream drawn rest : List ℕ) (place : ℕ) (table : Table) (keys : Keys) (scheme : Scheme) (row : Row) (plain ad : List ℕ) (given : Result (Result (List ℕ) Rule) EditRefusal) (bytes : List ℕ)
    → StandsAt stream place drawn rest → total (envelope_fills keys table scheme row drawn) ≡ length drawn → seals_envelope keys table scheme row plain ad drawn ≡ Some (settled_as given)
    → given ≡ Ok (Ok bytes) → IsEnvelopeOf stream (placed 0 place (envelope_fills keys table scheme row drawn)) table keys scheme row plain ad bytes
envelope_made stream drawn rest place table keys scheme row plain ad given bytes is just e ok =
    let there = map_some as_enveloped (envelope_of keys table scheme row plain ad drawn) (settled_as given) e in
    let same : there.0.answer ≡ Ok bytes = same_envelope _ _ (ap (λ y. y.answer) there.2 ∙ ok) in
    three_of stream drawn rest place table keys scheme row plain ad bytes is just (envelopes_are_drawn keys table scheme row plain ad drawn bytes there.0 there.1 same)

pub makes_of : (stream drawn rest : List ℕ) (place : ℕ) (kind : Made) (give : Draw (Of kind)) (given : Result (Of kind) EditRefusal) (used : Step) → StandsAt stream place drawn rest
    → IsStep kind give used → Settles give drawn given → total (step_fills used drawn) ≡ length drawn → MakesOf stream (placed 0 place (step_fills used drawn)) kind given used
makes_of stream drawn rest place keysets give given (creation row) is step settled just = λ new ok.
    let h = created_are_drawn row drawn (settled_as given) new (gave give (first row) drawn given step settled) ok in
    (h.0, h.1, new_of stream drawn rest place row (step_fills (creation row) drawn) h.0 is just h.2)
makes_of stream drawn rest place keysets give given (edition keys edit) is same settled just = λ new ok.
    edit_made stream drawn rest place keys edit given new is just (gave give (step keys edit) drawn given same settled) ok
makes_of stream drawn rest place keysets give given (sealing table keys plain ad) is step settled just = absurd step
makes_of stream drawn rest place keysets give given (wrapping table keys master form) is step settled just = absurd step
makes_of stream drawn rest place keysets give given (enveloping table keys scheme row plain ad) is step settled just = absurd step
makes_of stream drawn rest place keysets give given (heading size) is step settled just = absurd step
makes_of stream drawn rest place sealings give given (creation row) is step settled just = absurd step
makes_of stream drawn rest place sealings give given (edition keys edit) is step settled just = absurd step
makes_of stream drawn rest place sealings give given (sealing table keys plain ad) is step settled just = λ sealed ok.
    sealing_made stream drawn rest place table keys plain ad given sealed is (gave give (seals keys table plain ad) drawn given step settled) ok
makes_of stream drawn rest place sealings give given (wrapping table keys master form) is step settled just = λ text ok.
    wrapping_made stream drawn rest place table keys master form given text is (gave give (wraps keys master table form) drawn given step settled) ok
makes_of stream drawn rest place sealings give given (enveloping table keys scheme row plain ad) is step settled just = absurd step
makes_of stream drawn rest place sealings give given (heading size) is step settled just = λ bytes ok.
    header_of stream drawn rest place size (settled_as given) bytes is (gave give (fill size) drawn given step settled) ok
makes_of stream drawn rest place envelopings give given (creation row) is step settled just = absurd step
makes_of stream drawn rest place envelopings give given (edition keys edit) is step settled just = absurd step
makes_of stream drawn rest place envelopings give given (sealing table keys plain ad) is step settled just = absurd step
makes_of stream drawn rest place envelopings give given (wrapping table keys master form) is step settled just = absurd step
makes_of stream drawn rest place envelopings give given (enveloping table keys scheme row plain ad) is step settled just = λ bytes ok.
    envelope_made stream drawn rest place table keys scheme row plain ad given bytes is just (gave give (seals_envelope keys table scheme row plain ad) drawn given step settled) ok
makes_of stream drawn rest place envelopings give given (heading size) is step settled just = absurd step
