-- An edit that takes a key away changes nothing for a stream that key-of names another key for.
use Rattle.std.proofs.Common.{◌≡◌, ◌∙◌, ap, refl, sym, Bool, true, false, cond, ℕ, List, [], ◌∷◌, Option, Some, None, Ok, eqb-true}
use Rattle.std.specs.Prelude.{find, if◌then◌else◌}
use Rattle.keyset_model.specs.Keyset.{Keys, has_id, is_enabled}
use Rattle.keyset_model.specs.declared.record.Record.{Record}
use Rattle.segment_stream.specs.Opening.{Choice, StreamRefusal, chosen, decides_by, fits, released_by, stream_answer}
use Rattle.segment_stream.specs.Segments.{cipher_of, ciphers_of}
use Rattle.segment_stream.specs.StreamKeys.{given, key_in, stream_key_of, stream_keys}
use Rattle.segment_stream.specs.declared.key.StreamKey.{StreamKey}
use Rattle.tinkey_cmds.proofs.Cases.{Seven, edit_case, yielded}
use Rattle.tinkey_cmds.specs.Edits.{Edit, changed, destroyed, step, with_status, without}
use Rattle.tinkey_plans.proofs.StreamNamingLemmas.{choice_of, choice_with, front_found}
use Rattle.tinkey_plans.specs.KeyOf.{key_fits, opens_first, stream_record}
use Rattle.tinkey_plans.specs.Naming.{stream_front}
use Rattle.tinkey_plans.specs.Retiring.{Retires}

-- the record whose key opens the stream, if there is one, has another id
abbrev Spares : (ad bytes : List ℕ) (id : ℕ) → List Record → Type 0
Spares ad bytes id rs = (r : Record) → find (opens_first ad bytes) rs ≡ Some r → r.id ≡ id → ⊥

-- a first record with this id isn't it, so the choice is the same without it
spared : (ad bytes : List ℕ) (id : ℕ) (x : Record) (later : List Record) → Spares ad bytes id (x ∷ later) → x.id ≡ id → choice_of ad bytes (x ∷ later) ≡ choice_of ad bytes later
spared ad bytes id x later spares is = by (key_in x) (λ e. spares x e is)
  where
    by_fit : (key : StreamKey) (b : Bool) → (cond b (Some x) (find (opens_first ad bytes) later) ≡ Some x → ⊥) → (if b then chosen (cipher_of ad key) else choice_of ad bytes later) ≡ choice_of ad bytes later
    by_fit key true never = absurd (never refl)
    by_fit key false never = refl

    by : (o : Option StreamKey) → (cond (key_fits ad bytes o) (Some x) (find (opens_first ad bytes) later) ≡ Some x → ⊥) → choice_with ad bytes o later ≡ choice_of ad bytes later
    by None never = refl
    by (Some key) never = by_fit key (fits (cipher_of ad key) bytes) never

-- behind one and the same record only those count where its key doesn't fit
behind_same : (ad bytes : List ℕ) (x : Record) (left right : List Record) → (opens_first ad bytes x ≡ false → choice_of ad bytes left ≡ choice_of ad bytes right) → choice_of ad bytes (x ∷ left) ≡ choice_of ad bytes (x ∷ right)
behind_same ad bytes x left right same = by (key_in x) same
  where
    by_fit : (key : StreamKey) (b : Bool) → (b ≡ false → choice_of ad bytes left ≡ choice_of ad bytes right) → (if b then chosen (cipher_of ad key) else choice_of ad bytes left) ≡ (if b then chosen (cipher_of ad key) else choice_of ad bytes right)
    by_fit key true same = refl
    by_fit key false same = same refl

    by : (o : Option StreamKey) → (key_fits ad bytes o ≡ false → choice_of ad bytes left ≡ choice_of ad bytes right) → choice_with ad bytes o left ≡ choice_with ad bytes o right
    by None same = same refl
    by (Some key) same = by_fit key (fits (cipher_of ad key) bytes) same

spares_behind : (ad bytes : List ℕ) (id : ℕ) (x : Record) (later : List Record) → Spares ad bytes id (x ∷ later) → opens_first ad bytes x ≡ false → Spares ad bytes id later
spares_behind ad bytes id x later spares never r is = spares r (ap (λ (b : Bool). cond b (Some x) (find (opens_first ad bytes) later)) never ∙ is)

-- a record that isn't ENABLED gives never key
key_off : (r : Record) → is_enabled r ≡ false → key_in r ≡ None
key_off r off = ap (λ (b : Bool). if b then given (stream_key_of r) else None) off

changed_alike : (ad bytes : List ℕ) (change : Record → Record) (id : ℕ) (rs : List Record) → ((r : Record) → is_enabled (change r) ≡ false) → Spares ad bytes id rs → choice_of ad bytes (changed change id rs) ≡ choice_of ad bytes rs
unfolding changed
changed_alike ad bytes change id [] off spares = refl
changed_alike ad bytes change id (x ∷ later) off spares = by (has_id id x) refl (λ s. changed_alike ad bytes change id later off s)
  where
    by : (b : Bool) → has_id id x ≡ b → (Spares ad bytes id later → choice_of ad bytes (changed change id later) ≡ choice_of ad bytes later) → choice_of ad bytes (cond b (change x ∷ later) (x ∷ changed change id later)) ≡ choice_of ad bytes (x ∷ later)
    by true is same = ap (λ (o : Option StreamKey). choice_with ad bytes o later) (key_off (change x) (off x)) ∙ sym (spared ad bytes id x later spares (eqb-true x.id id is))
    by false is same = behind_same ad bytes x (changed change id later) later (λ never. same (spares_behind ad bytes id x later spares never))

without_alike : (ad bytes : List ℕ) (id : ℕ) (rs : List Record) → Spares ad bytes id rs → choice_of ad bytes (without id rs) ≡ choice_of ad bytes rs
unfolding without
without_alike ad bytes id [] spares = refl
without_alike ad bytes id (x ∷ later) spares = by (has_id id x) refl (λ s. without_alike ad bytes id later s)
  where
    by : (b : Bool) → has_id id x ≡ b → (Spares ad bytes id later → choice_of ad bytes (without id later) ≡ choice_of ad bytes later) → choice_of ad bytes (cond b later (x ∷ without id later)) ≡ choice_of ad bytes (x ∷ later)
    by true is same = sym (spared ad bytes id x later spares (eqb-true x.id id is))
    by false is same = behind_same ad bytes x (without id later) later (λ never. same (spares_behind ad bytes id x later spares never))

-- ---- the edits

abbrev Leaves : Keys → Edit → Keys → Type 0
Leaves old edit new = (id : ℕ) (ad bytes : List ℕ) → Retires edit id → Spares ad bytes id old.records → choice_of ad bytes new.records ≡ choice_of ad bytes old.records

seven_leave : (old : Keys) → Seven old (Leaves old)
seven_leave old = record {
  add = λ row r room same new id ad bytes retires. absurd retires;
  rotate = λ row r room same new id ad bytes retires. absurd retires;
  promote = λ named r found enabled others id ad bytes retires. absurd retires;
  enable = λ named r found there clear same valid id ad bytes retires. absurd retires;
  disable = λ named r found other there id ad bytes retires spares.
      changed_alike ad bytes (with_status 2) named old.records (λ s. refl) (λ r e is. spares r e (is ∙ retires));
  destroy = λ named r found other id ad bytes retires spares.
      changed_alike ad bytes destroyed named old.records (λ s. refl) (λ r e is. spares r e (is ∙ retires));
  delete = λ named r found other id ad bytes retires spares.
      without_alike ad bytes named old.records (λ r e is. spares r e (is ∙ retires));
}

pub streams_alike : (old new : Keys) (edit : Edit) (id : ℕ) (ad bytes random left : List ℕ) → Retires edit id → step old edit random ≡ Some (record { answer = Ok new; left = left })
    → ((r : Record) → stream_record old ad (stream_front old bytes) ≡ Some r → r.id ≡ id → ⊥)
    → stream_answer (ciphers_of ad (stream_keys new)) bytes ≡ stream_answer (ciphers_of ad (stream_keys old)) bytes
unfolding stream_keys
streams_alike old new edit id ad bytes random left retires is other =
    let leaves : Leaves old edit new = yielded (Leaves old edit) (step old edit) random _ new (edit_case old (Leaves old) (seven_leave old) edit) is refl in
    ap {A = Choice} {B = List ℕ × Option StreamRefusal} (λ c. (released_by c bytes true, decides_by c bytes true)) (leaves id ad bytes retires (λ r e. other r (front_found old ad bytes ∙ e)))
