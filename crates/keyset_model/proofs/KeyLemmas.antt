-- What a field gives, what the text of fields is, one field after the other, and where the reading
-- of a key stops.
use Rattle.std.proofs.Common.{◌≡◌, ◌∙◌, ℕ, ◌+◌, ◌≤◌, Bool, true, false, List, ◌∷◌, length, drop, refl, ap, arith, eq-eqb, Some, Ok, Err, Result}
use Rattle.std.specs.Prelude.{fold, slice_get, slice_range}
use Rattle.std.specs.Result.{IfErr, IsErrAnd}
use Rattle.std.specs.Str.{IsUtf8, is_utf8}
use Rattle.std.proofs.lemmas.Bool.{ne_eqb}
use Rattle.std.proofs.lemmas.List.{drop_more, length-take, length-drop}
use Rattle.std.proofs.lemmas.Option.{get_or_from_slice_get, slice_get_within}
use Rattle.std.proofs.lemmas.Str.{is_utf8-from_IsUtf8, IsUtf8-from_is_utf8}
use Rattle.tink_spec.specs.Wire.{bytes, WireField}
use Rattle.tink_spec.specs.Messages.{is_text, of_number, first_other, unless_at, later_bytes, at_place, embedded, text_in}
use Rattle.proto_wire.specs.Fields.{GivesFields, payload_of, seen, seen_all}
use Rattle.proto_wire.specs.declared.field.Field.{Field}
use Rattle.proto_wire.specs.declared.field.FieldsError.{FieldsError}
use Rattle.proto_wire.specs.declared.field.FieldsError.TheVariants as fields_errors
use Rattle.proto_wire.specs.declared.field.Kind.{Kind}
use Rattle.proto_wire.specs.declared.field.Kind.TheVariants.{Varint, Eight, Bytes, Four}
use Rattle.proto_wire.specs.declared.field.Wire.{Wire}
use Rattle.keyset_model.specs.declared.reading.ReadError.{ReadError}
use Rattle.keyset_model.specs.declared.reading.ReadError.TheVariants as errors
use Rattle.keyset_model.specs.declared.record.Record.{Record}
use Rattle.keyset_model.specs.Reading.{key_of}
use Rattle.keyset_model.specs.Steps.{IsTextOf, IsNoText, message_of, GivesRecord, of_fields_error}

no_message : (kind : Kind) (source : List ℕ) (field : Field) → (kind ≡ Bytes → ⊥) → embedded (payload_of kind source field) ≡ Err 0
no_message Varint source field other = refl
no_message Eight source field other = refl
no_message Bytes source field other = absurd (other refl)
no_message Four source field other = refl

within_source : (source : List ℕ) (start end : ℕ) → length (slice_range source start end) ≤ length source
within_source source start end = omega (arith, length-take {A = ℕ}, length-drop {A = ℕ})

pub text_given : (source : List ℕ) (field : Field) (text : List ℕ) → field.kind ≡ Bytes → text ≡ slice_range source field.start field.end → IsUtf8 (slice_range source field.start field.end) → IsTextOf source field text
text_given source field text kind is utf8 = record {
  payload = rw (kind, is) refl;
  utf8 = rw is (is_utf8-from_IsUtf8 _ utf8);
  within = rw is (within_source source field.start field.end);
}

no_utf8 : (text : List ℕ) (b : Bool) → is_utf8 text ≡ b → (IsUtf8 text → ⊥) → is_utf8 text ≡ false
no_utf8 text true is none = absurd (none (IsUtf8-from_is_utf8 text is))
no_utf8 text false is none = is

pub no_text_given : (source : List ℕ) (field : Field) → field.kind ≡ Bytes → (IsUtf8 (slice_range source field.start field.end) → ⊥) → IsNoText source field field.at
no_text_given source field kind none = record { other = rw kind (no_utf8 _ _ refl none); at = refl }

-- the fields from a place on, seen
pub seen_from : (source : List ℕ) (fields : List Field) (i : ℕ) (field : Field) → slice_get fields i ≡ Some field → seen_all source (drop i fields) ≡ seen source field ∷ seen_all source (drop (i + 1) fields)
seen_from source fields i field there =
    ap (seen_all source) (drop_more fields i field (slice_get_within fields i field there)
    ∙ ap (λ (x : Field). x ∷ drop (i + 1) fields) (get_or_from_slice_get fields i field field there))

-- the text that these fields give behind another
abbrev pub text_from : ℕ → ℕ × List ℕ → List WireField → Result (ℕ × List ℕ) ℕ
text_from number before fields = let these = of_number number fields in
    unless_at (first_other is_text these) (fold (λ before field. later_bytes before field.payload) before these)

pub text_skips : (number : ℕ) (before : ℕ × List ℕ) (field : WireField) (rest : List WireField) → (field.number ≡ number → ⊥) → text_from number before (field ∷ rest) ≡ text_from number before rest
text_skips number before field rest other = rw ne_eqb refl

pub text_takes : (number : ℕ) (before : ℕ × List ℕ) (field : WireField) (rest : List WireField) (start : ℕ) (text : List ℕ) → field.number ≡ number → field.payload ≡ bytes start text → is_utf8 text ≡ true → text_from number before (field ∷ rest) ≡ text_from number (start, text) rest
text_takes number before field rest start text same payload utf8 = rw (eq-eqb field.number number same, payload, utf8) refl

pub text_stops : (number : ℕ) (before : ℕ × List ℕ) (field : WireField) (rest : List WireField) → field.number ≡ number → is_text field.payload ≡ false → text_from number before (field ∷ rest) ≡ Err field.at
text_stops number before field rest same other = rw (eq-eqb field.number number same, other) refl

-- the text that the fields before a place give, and what the fields from there on add
pub record TextSoFar (source : List ℕ) (message : List Field) (number i : ℕ) (text : List ℕ) : Type 0 where
  pub utf8 : IsUtf8 text
  pub within : length text ≤ length source
  pub read : (start : ℕ) × (text_in number (seen_all source message) ≡ text_from number (start, text) (seen_all source (drop i message)))

pub so_far_skips : (source : List ℕ) (message : List Field) (number i : ℕ) (text : List ℕ) (field : Field) → TextSoFar source message number i text → slice_get message i ≡ Some field → (field.number ≡ number → ⊥) → TextSoFar source message number (i + 1) text
so_far_skips source message number i text field before there other = record {
  utf8 = before.utf8;
  within = before.within;
  read = (
    before.read.0,
    before.read.1 ∙ ap (text_from number (before.read.0, text)) (seen_from source message i field there)
        ∙ text_skips number (before.read.0, text) (seen source field) (seen_all source (drop (i + 1) message)) other,
  );
}

pub so_far_takes : (source : List ℕ) (message : List Field) (number i : ℕ) (old text : List ℕ) (field : Field) → TextSoFar source message number i old → slice_get message i ≡ Some field → field.number ≡ number → IsTextOf source field text → TextSoFar source message number (i + 1) text
so_far_takes source message number i old text field before there same is = record {
  utf8 = IsUtf8-from_is_utf8 text is.utf8;
  within = is.within;
  read = (
    field.start,
    before.read.1 ∙ ap (text_from number (before.read.0, old)) (seen_from source message i field there)
        ∙ text_takes number (before.read.0, old) (seen source field) (seen_all source (drop (i + 1) message)) field.start text same is.payload is.utf8,
  );
}

pub so_far_stops : (source : List ℕ) (message : List Field) (number i : ℕ) (text : List ℕ) (field : Field) (place : ℕ) → TextSoFar source message number i text → slice_get message i ≡ Some field → field.number ≡ number → IsNoText source field place → text_in number (seen_all source message) ≡ Err place
so_far_stops source message number i text field place before there same is =
    before.read.1 ∙ ap (text_from number (before.read.0, text)) (seen_from source message i field there)
    ∙ text_stops number (before.read.0, text) (seen source field) (seen_all source (drop (i + 1) message)) same is.other ∙ ap Err is.at

-- a key in bytes is the message there, with the place of its tag
pub key_in_bytes : (source : List ℕ) (field : Field) → field.kind ≡ Bytes → key_of (seen source field) ≡ at_place field.at (message_of field.start (slice_range source field.start field.end))
unfolding key_of
key_in_bytes source field kind = rw kind refl

pub key_of_other_kind : (source : List ℕ) (field : Field) → (field.kind ≡ Bytes → ⊥) → key_of (seen source field) ≡ Err field.at
unfolding key_of
key_of_other_kind source field other = rw (no_message field.kind source field other) refl

pub key_stops : (error : ReadError) (read : Result Record ℕ) (place : ℕ) → (error ≡ errors.NoMemory → ⊥) → GivesRecord (Err error) read → at_place place read ≡ Err place
key_stops (errors.Wire wire) read place other is = rw is refl
key_stops (errors.Fault fault) read place other is = absurd is
key_stops errors.NoMemory read place other is = absurd (other refl)

-- what is handed on by a `?`
pub text_handed_on : {T : Type 0} (r : Result T Wire) (wire : Wire) (read : Result (ℕ × List ℕ) ℕ) → IsErrAnd r (λ e. e ≡ wire) → read ≡ Err wire.at → IfErr r (λ e. read ≡ Err e.at)
text_handed_on (Ok text) wire read is at = absurd is
text_handed_on (Err e) wire read is at = rw is at

pub wire_handed_on : (r : Result Record ReadError) (wire : Wire) (read : Result Record ℕ) → IsErrAnd r (λ e. e ≡ errors.Wire wire) → read ≡ Err wire.at → GivesRecord r read
wire_handed_on (Ok key) wire read is at = absurd is
wire_handed_on (Err e) wire read is at = rw is at

pub fields_handed_on : (source : List ℕ) (r : Result Record ReadError) (error : FieldsError) (cutting : Result (List WireField) ℕ) (read : Result Record ℕ) → IsErrAnd r (λ e. e ≡ of_fields_error error) → GivesFields source (Err error) cutting → ((at : ℕ) → cutting ≡ Err at → read ≡ Err at) → GivesRecord r read
fields_handed_on source (Ok key) error cutting read is gives stop = absurd is
fields_handed_on source (Err e) (fields_errors.Wire wire) cutting read is gives stop = rw is (stop wire.at gives)
fields_handed_on source (Err e) fields_errors.NoMemory cutting read is gives stop = rw is tt
