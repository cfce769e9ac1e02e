-- What an edit that takes a key away changes, for bytes that key-of doesn't name it for.
use Rattle.std.proofs.Common.{◌≡◌, inl, inr, ◌∙◌, ap, refl, sym, subst, arith, Bool, true, false, cond, ◌&&◌, ◌||◌, ◌++◌, ℕ, ◌==◌, ◌<◌, List, [], ◌∷◌, length, take, drop, Option, Some, None, Ok, nat_le, nat_lt, eqb-true, take-take, length-take}
use Rattle.std.specs.Prelude.{filter, map}
use Rattle.std.specs.Int.{from_be_bytes, to_be_bytes, w32}
use Rattle.std.specs.List.{list_any}
use Rattle.std.specs.Option.{option_and_then}
use Rattle.std.specs.Str.{bytes_eq}
use Rattle.std.proofs.lemmas.Bool.{and_right, leb-false, leb-true, or_parts}
use Rattle.std.proofs.lemmas.List.{drop-take}
use Rattle.std.proofs.lemmas.Slice.Eq.{bytes_eq-Decides}
use Rattle.keyset_model.specs.Keyset.{Keys, first_some, has_id, is_enabled}
use Rattle.keyset_model.specs.declared.record.Record.{Record}
use Rattle.key_msgs.specs.declared.primitive.Primitive.TheVariants.{Aead, Daead}
use Rattle.managers.specs.Schemes.{key_under}
use Rattle.envelopes.specs.Enveloped.{open_behind, open_payload}
use Rattle.tinkey_cmds.proofs.Among.{Among, contains-among}
use Rattle.tinkey_cmds.proofs.Cases.{Seven, edit_case, yielded}
use Rattle.tinkey_cmds.specs.Edits.{Edit, changed, destroyed, step, with_status, without}
use Rattle.tinkey_plans.proofs.StreamRetiringLemmas.{streams_alike}
use Rattle.tinkey_plans.specs.KeyOf.{front_of}
use Rattle.tinkey_plans.specs.Retiring.{IsUnnamed, OpensAlike, Retires, RetiringLosesNothing, UnwrapsAlike}
use Rattle.tinkey_plans.specs.Sealers.{stands_under}
use Rattle.tinkey_words.specs.declared.words.rows.SealedForm.TheVariants as forms
use Rattle.wrapped_prims.specs.Answers.{is_tag_of, opened}
use Rattle.wrapped_prims.specs.Candidates.{candidates, each_with, enabled_with, first_byte, is_enabled_with, is_raw, prefix_of, same_prefix}

-- ---- the ENABLED records of a prefix

dropped : (p : Record → Bool) (r : Record) (later : List Record) → p r ≡ false → filter p (r ∷ later) ≡ filter p later
dropped p r later fails = ap (λ b. cond b (r ∷ filter p later) (filter p later)) fails

kept : (p : Record → Bool) (r : Record) (left right : List Record) → filter p left ≡ filter p right → filter p (r ∷ left) ≡ filter p (r ∷ right)
kept p r left right same = ap (λ l. cond (p r) (r ∷ l) l) same

-- no record of the id has the prefix
abbrev Lacks : Option (List ℕ) → ℕ → List Record → Type 0
Lacks prefix id records = (r : Record) → Among r records → r.id ≡ id → same_prefix (prefix_of r) prefix ≡ false

-- one of them is none of those with the prefix
unlike : (prefix : Option (List ℕ)) (id : ℕ) (r : Record) (later : List Record) → Lacks prefix id (r ∷ later) → has_id id r ≡ true → is_enabled_with prefix r ≡ false
unlike prefix id r later lacks is = and_right (is_enabled r) (same_prefix (prefix_of r) prefix) (lacks r (inl refl) (eqb-true r.id id is))

changed_alike : (prefix : Option (List ℕ)) (change : Record → Record) (id : ℕ) (records : List Record) → ((r : Record) → is_enabled (change r) ≡ false) → Lacks prefix id records → enabled_with prefix (changed change id records) ≡ enabled_with prefix records
unfolding changed
changed_alike prefix change id [] off lacks = refl
changed_alike prefix change id (r ∷ later) off lacks = by (has_id id r) refl (changed_alike prefix change id later off (λ s a. lacks s (inr a)))
  where
    by : (b : Bool) → has_id id r ≡ b → enabled_with prefix (changed change id later) ≡ enabled_with prefix later → enabled_with prefix (cond b (change r ∷ later) (r ∷ changed change id later)) ≡ enabled_with prefix (r ∷ later)
    by true is same =
        dropped (is_enabled_with prefix) (change r) later (ap (λ b. b && same_prefix (prefix_of (change r)) prefix) (off r))
        ∙ sym (dropped (is_enabled_with prefix) r later (unlike prefix id r later lacks is))
    by false is same = kept (is_enabled_with prefix) r (changed change id later) later same

without_alike : (prefix : Option (List ℕ)) (id : ℕ) (records : List Record) → Lacks prefix id records → enabled_with prefix (without id records) ≡ enabled_with prefix records
unfolding without
without_alike prefix id [] lacks = refl
without_alike prefix id (r ∷ later) lacks = by (has_id id r) refl (without_alike prefix id later (λ s a. lacks s (inr a)))
  where
    by : (b : Bool) → has_id id r ≡ b → enabled_with prefix (without id later) ≡ enabled_with prefix later → enabled_with prefix (cond b later (r ∷ without id later)) ≡ enabled_with prefix (r ∷ later)
    by true is same = sym (dropped (is_enabled_with prefix) r later (unlike prefix id r later lacks is))
    by false is same = kept (is_enabled_with prefix) r (without id later) later same

-- ---- an edit that takes the key away

-- the ENABLED records with a prefix that none of the id has are the same
abbrev Leaves : Keys → Edit → Keys → Type 0
Leaves old edit new = (id : ℕ) → Retires edit id → (prefix : Option (List ℕ)) → Lacks prefix id old.records
    → enabled_with prefix new.records ≡ enabled_with prefix old.records

seven_leave : (old : Keys) → Seven old (Leaves old)
seven_leave old = record {
  add = λ row r room same new id retires. absurd retires;
  rotate = λ row r room same new id retires. absurd retires;
  promote = λ named r found enabled others id retires. absurd retires;
  enable = λ named r found there clear same valid id retires. absurd retires;
  disable = λ named r found other there id retires prefix lacks.
      changed_alike prefix (with_status 2) named old.records (λ s. refl) (λ s a e. lacks s a (e ∙ retires));
  destroy = λ named r found other id retires prefix lacks.
      changed_alike prefix destroyed named old.records (λ s. refl) (λ s a e. lacks s a (e ∙ retires));
  delete = λ named r found other id retires prefix lacks.
      without_alike prefix named old.records (λ s a e. lacks s a (e ∙ retires));
}

leaves : (old new : Keys) (edit : Edit) (random left : List ℕ) → step old edit random ≡ Some (record { answer = Ok new; left = left }) → Leaves old edit new
leaves old new edit random left is = yielded (Leaves old edit) (step old edit) random _ new (edit_case old (Leaves old) (seven_leave old) edit) is refl

-- ---- the candidates

candidates_alike : (old new : Keys) (bytes : List ℕ) → enabled_with (Some (take 5 bytes)) new.records ≡ enabled_with (Some (take 5 bytes)) old.records → enabled_with None new.records ≡ enabled_with None old.records → candidates new bytes ≡ candidates old bytes
candidates_alike old new bytes some none =
    ap (λ l. each_with (drop 5 bytes) l ++ each_with bytes (enabled_with None new.records)) some
    ∙ ap (λ l. each_with (drop 5 bytes) (enabled_with (Some (take 5 bytes)) old.records) ++ each_with bytes l) none

opens_alike : (old new : Keys) (bytes : List ℕ) → candidates new bytes ≡ candidates old bytes → OpensAlike old new bytes
opens_alike old new bytes same = record {
  opens = λ table ad. ap (λ l. first_some (map (opened table Aead ad) l)) same;
  dopens = λ table ad. ap (λ l. first_some (map (opened table Daead ad) l)) same;
  verifies = λ table body. ap (λ l. list_any (is_tag_of table body) l) same;
}

-- a record that isn't RAW has a prefix, so not none
prefixed : (r : Record) → is_raw r ≡ false → same_prefix (prefix_of r) None ≡ false
prefixed r is = ap (λ b. same_prefix (cond b None (Some (first_byte r ∷ to_be_bytes w32 r.id))) None) is

unnamed_lacks : (old : Keys) (id : ℕ) (front : List ℕ) → IsUnnamed old id front → Lacks (Some front) id old.records × Lacks None id old.records
unnamed_lacks old id front unnamed = (
  λ r a is. (or_parts (is_raw r) (stands_under front r) (unnamed r (contains-among _ r a) is)).1,
  λ r a is. prefixed r (or_parts (is_raw r) (stands_under front r) (unnamed r (contains-among _ r a) is)).0,
)

texts_alike : (old new : Keys) (edit : Edit) (id : ℕ) (bytes random left : List ℕ) → Retires edit id → step old edit random ≡ Some (record { answer = Ok new; left = left }) → IsUnnamed old id (front_of forms.Text bytes) → OpensAlike old new bytes
texts_alike old new edit id bytes random left retires is unnamed =
    let lacks = unnamed_lacks old id (take 5 bytes) unnamed in
    let left_is = leaves old new edit random left is id retires in
    opens_alike old new bytes (candidates_alike old new bytes (left_is (Some (take 5 bytes)) lacks.0) (left_is None lacks.1))

-- ---- envelopes

-- a prefix that isn't the front of some bytes isn't that of fewer of them
shorter : (prefix rest : List ℕ) (size : ℕ) → length prefix ≡ 5 → bytes_eq prefix (take 5 rest) ≡ false → bytes_eq prefix (take 5 (take size rest)) ≡ false
shorter prefix rest size five other = by (nat_le 5 size) refl
  where
    short : (b : Bool) → bytes_eq prefix (take 5 (take size rest)) ≡ b → size < 5 → b ≡ false
    short true is few =
        let same : prefix ≡ take 5 (take size rest) = (bytes_eq-Decides prefix (take 5 (take size rest))).0 is in
        let size_is : length prefix ≡ length (take 5 (take size rest)) = ap length same in
        absurd (omega (arith, five, size_is, few, length-take 5 (take size rest), length-take size rest))
    short false is few = refl

    by : (b : Bool) → nat_le 5 size ≡ b → bytes_eq prefix (take 5 (take size rest)) ≡ false
    by true is = ap (λ (l : List ℕ). bytes_eq prefix l) (take-take 5 size rest (leb-true 5 size is)) ∙ other
    by false is = short (bytes_eq prefix (take 5 (take size rest))) refl (leb-false 5 size is)

-- the same of a record's prefix
cut_lacks : (old : Keys) (id : ℕ) (rest : List ℕ) (size : ℕ) → Lacks (Some (take 5 rest)) id old.records → Lacks (Some (take 5 (take size rest))) id old.records
cut_lacks old id rest size lacks r a is = by (is_raw r) (lacks r a is)
  where
    by : (b : Bool) → same_prefix (cond b None (Some (first_byte r ∷ to_be_bytes w32 r.id))) (Some (take 5 rest)) ≡ false → same_prefix (cond b None (Some (first_byte r ∷ to_be_bytes w32 r.id))) (Some (take 5 (take size rest))) ≡ false
    by true other = refl
    by false other = shorter (first_byte r ∷ to_be_bytes w32 r.id) rest size refl other

envelope_front : (bytes : List ℕ) → front_of forms.Envelope bytes ≡ take 5 (drop 4 bytes)
envelope_front bytes = drop-take 4 5 bytes

unwraps_alike : (old new : Keys) (bytes : List ℕ) → ((size : ℕ) → OpensAlike old new (take size (drop 4 bytes))) → UnwrapsAlike old new bytes
unwraps_alike old new bytes alike table scheme ad = ap (λ o. cond (nat_lt (length bytes) 4) None o) inside
  where
    size : ℕ
    size = from_be_bytes w32 (take 4 bytes)

    rest : List ℕ
    rest = drop 4 bytes

    inside : open_behind new table scheme size rest ad ≡ open_behind old table scheme size rest ad
    inside = ap (λ o. cond (size == 0 || nat_lt (length rest) size) None (option_and_then (λ value. open_payload (drop size rest) ad (key_under scheme value)) o)) ((alike size).opens table [])

envelopes_alike : (old new : Keys) (edit : Edit) (id : ℕ) (bytes random left : List ℕ) → Retires edit id → step old edit random ≡ Some (record { answer = Ok new; left = left }) → IsUnnamed old id (front_of forms.Envelope bytes) → UnwrapsAlike old new bytes
envelopes_alike old new edit id bytes random left retires is unnamed =
    let lacks = unnamed_lacks old id (take 5 (drop 4 bytes)) (subst (λ (l : List ℕ). IsUnnamed old id l) (envelope_front bytes) unnamed) in
    let left_is = leaves old new edit random left is id retires in
    unwraps_alike old new bytes (λ size. opens_alike old new (take size (drop 4 bytes))
    (candidates_alike old new (take size (drop 4 bytes))
    (left_is (Some (take 5 (take size (drop 4 bytes)))) (cut_lacks old id (drop 4 bytes) size lacks.0)) (left_is None lacks.1)))

pub retiring_loses_nothing : RetiringLosesNothing
retiring_loses_nothing = record { texts = texts_alike; envelopes = envelopes_alike; streams = streams_alike }
