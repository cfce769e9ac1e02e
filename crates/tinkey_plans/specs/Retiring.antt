-- What an edit that takes a key away changes, for bytes that key-of doesn't name it for.
--
--   Retires        the edit takes the key of this id away
--   IsUnnamed      no record of this id may have made bytes with this front
--   OpensAlike     two keysets open some bytes alike, and verify them alike
--   UnwrapsAlike   two keysets open some envelope alike
--   RetiringLosesNothing   so it is of the keyset before such an edit and the one after; and a stream opens alike
use Rattle.std.specs.Prelude.{◌≡◌, ℕ, List, false, Some, Ok, Contains}
use Rattle.keyset_model.specs.Keyset.{Keys}
use Rattle.keyset_model.specs.declared.record.Record.{Record}
use Rattle.managers.specs.Schemes.{Scheme}
use Rattle.managers.specs.Table.{Table}
use Rattle.envelopes.specs.Enveloped.{open_envelope_of}
use Rattle.tinkey_cmds.specs.Edits.{Edit, Disable, Destroy, Delete, step}
use Rattle.segment_stream.specs.Opening.{stream_answer}
use Rattle.segment_stream.specs.Segments.{ciphers_of}
use Rattle.segment_stream.specs.StreamKeys.{stream_keys}
use Rattle.tinkey_plans.specs.KeyOf.{front_of, stream_record}
use Rattle.tinkey_plans.specs.Naming.{stream_front}
use Rattle.tinkey_plans.specs.Sealers.{may_have_made}
use Rattle.tinkey_words.specs.declared.words.rows.SealedForm.TheVariants as forms
use Rattle.wrapped_prims.specs.Answers.{dopen_answer, open_answer, verify_answer}

-- the edit disables, destroys or deletes the key of this id
abbrev pub Retires : Edit → (id : ℕ) → Type 0
Retires (Disable named) id = named ≡ id
Retires (Destroy named) id = named ≡ id
Retires (Delete named) id = named ≡ id
Retires _ id = ⊥

-- No record of this id may have made bytes with this front: key-of names none of them for it, and none of
-- them is RAW.
abbrev pub IsUnnamed : Keys → (id : ℕ) → (front : List ℕ) → Type 0
IsUnnamed keys id front =
    (r : Record) → Contains keys.records r → r.id ≡ id → may_have_made front r ≡ false

-- these bytes open to the same under both keysets, or under neither, and are a tag under both or neither
pub record OpensAlike (old new : Keys) (bytes : List ℕ) : Type 0 where
  pub opens : (table : Table) (ad : List ℕ) → open_answer new table bytes ad ≡ open_answer old table bytes ad
  pub dopens : (table : Table) (ad : List ℕ)
      → dopen_answer new table bytes ad ≡ dopen_answer old table bytes ad
  pub verifies : (table : Table) (body : List ℕ)
      → verify_answer new table bytes body ≡ verify_answer old table bytes body

-- this envelope opens to the same under both keysets, or under neither
abbrev pub UnwrapsAlike : (old new : Keys) → (bytes : List ℕ) → Type 0
UnwrapsAlike old new bytes = (table : Table) (scheme : Scheme) (ad : List ℕ)
    → open_envelope_of new table scheme bytes ad ≡ open_envelope_of old table scheme bytes ad

-- A key is disabled, destroyed or deleted. Bytes that no record of its id may have made open as before, and
-- verify as before; so does an envelope whose data key none of them may have sealed, and a stream of which
-- key-of names a record with another id, or none.
pub record RetiringLosesNothing : Type 0 where
  pub texts : (old new : Keys) (edit : Edit) (id : ℕ) (bytes random left : List ℕ) → Retires edit id
      → step old edit random ≡ Some (record { answer = Ok new; left = left })
      → IsUnnamed old id (front_of forms.Text bytes) → OpensAlike old new bytes
  pub envelopes : (old new : Keys) (edit : Edit) (id : ℕ) (bytes random left : List ℕ) → Retires edit id
      → step old edit random ≡ Some (record { answer = Ok new; left = left })
      → IsUnnamed old id (front_of forms.Envelope bytes) → UnwrapsAlike old new bytes
  pub streams : (old new : Keys) (edit : Edit) (id : ℕ) (ad bytes random left : List ℕ) → Retires edit id
      → step old edit random ≡ Some (record { answer = Ok new; left = left })
      → ((r : Record) → stream_record old ad (stream_front old bytes) ≡ Some r → r.id ≡ id → ⊥)
      → stream_answer (ciphers_of ad (stream_keys new)) bytes
      ≡ stream_answer (ciphers_of ad (stream_keys old)) bytes
