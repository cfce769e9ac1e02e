-- Where the reading of a key message stops, and what it gives in the end.
use Rattle.std.proofs.Common.{◌≡◌, ℕ, List, length, refl, ap, arith, Ok, Err, Result}
use Rattle.std.specs.Prelude.{slice_range}
use Rattle.std.specs.Result.{IsErrAnd}
use Rattle.std.proofs.Math.Seq.{take-length}
use Rattle.tink_spec.specs.Wire.{WireField, cut}
use Rattle.proto_wire.specs.Fields.{GivesFields}
use Rattle.proto_wire.specs.declared.field.FieldsError.{FieldsError}
use Rattle.proto_wire.specs.declared.field.FieldsError.TheVariants as errors
use Rattle.key_msgs.specs.Contents.{Contents}
use Rattle.key_msgs.specs.declared.key.KeyKind.{KeyKind}
use Rattle.key_msgs.specs.declared.key.KeyFault.{KeyFault}
use Rattle.key_msgs.specs.declared.key.KeyFault.TheVariants as faults
use Rattle.key_msgs.specs.declared.key_type.KeyType.{KeyType}
use Rattle.key_msgs.specs.declared.rule.Rule.{Rule}
use Rattle.key_msgs.specs.declared.rule.Rule.TheVariants as broken
use Rattle.key_msgs.specs.Reading.{contents_in, checked, formed, key_of, GivesKey, of_fields_error}

-- what is handed on by a `?`
pub handed_on : {A : Type 0} (r : Result A KeyFault) (fault : KeyFault) (read : Result A Rule) → IsErrAnd r (λ e. e ≡ fault) → GivesKey {A = A} (Err fault) read → GivesKey r read
handed_on (Ok value) fault read is gives = absurd is
handed_on (Err e) fault read is gives = rw is gives

pub wire_handed_on : {A B : Type 0} (r : Result A KeyFault) (first : Result B ℕ) (place : ℕ) (read : Result A ℕ) → IsErrAnd r (λ e. e ≡ faults.Bad broken.Form) → first ≡ Err place → (first ≡ Err place → read ≡ Err place) → GivesKey r (formed read)
wire_handed_on (Ok value) first place read is at stop = absurd is
wire_handed_on (Err e) first place read is at stop = rw (is, stop at) refl

pub fields_handed_on : {A : Type 0} (source : List ℕ) (r : Result A KeyFault) (error : FieldsError) (cutting : Result (List WireField) ℕ) (read : Result A ℕ) → IsErrAnd r (λ e. e ≡ of_fields_error error) → GivesFields source (Err error) cutting → ((at : ℕ) → cutting ≡ Err at → read ≡ Err at) → GivesKey r (formed read)
fields_handed_on source (Ok value) error cutting read is gives stop = absurd is
fields_handed_on source (Err e) (errors.Wire wire) cutting read is gives stop = rw (is, stop wire.at gives) refl
fields_handed_on source (Err e) errors.NoMemory cutting read is gives stop = rw is tt

inner_fault : {A B : Type 0} (fault : KeyFault) (inner : Result A ℕ) (read : Result B ℕ) → GivesKey {A = A} (Err fault) (formed inner) → ((at : ℕ) → inner ≡ Err at → read ≡ Err at) → GivesKey {A = B} (Err fault) (formed read)
inner_fault faults.NotKnown inner read gives stop = absurd gives
inner_fault (faults.Bad rule) (Ok value) read gives stop = cc
inner_fault (faults.Bad rule) (Err place) read gives stop = let same : broken.Form ≡ rule = cc in rw (stop place refl) (ap Err same)
inner_fault faults.NoMemory inner read gives stop = tt

-- what an inner message hands on
pub inner_handed_on : {A B : Type 0} (r : Result B KeyFault) (fault : KeyFault) (inner : Result A ℕ) (read : Result B ℕ) → IsErrAnd r (λ e. e ≡ fault) → GivesKey {A = A} (Err fault) (formed inner) → ((at : ℕ) → inner ≡ Err at → read ≡ Err at) → GivesKey r (formed read)
inner_handed_on r fault inner read is gives stop = handed_on r fault (formed read) is (inner_fault fault inner read gives stop)

pub formed-ok : {A : Type 0} (read : Result A ℕ) (value : A) → formed read ≡ Ok value → read ≡ Ok value
formed-ok (Ok other) value is = cc
formed-ok (Err place) value is = cc

pub whole : (bytes : List ℕ) → slice_range bytes 0 (length bytes) ≡ bytes
whole bytes = grind (arith, take-length bytes)

pub cut_fails : (type : KeyType) (source bytes : List ℕ) (error : FieldsError) → GivesFields source (Err error) (cut 0 bytes) → GivesKey {A = KeyKind} (Err (of_fields_error error)) (key_of type bytes)
unfolding key_of
cut_fails type source bytes (errors.Wire wire) gives = rw gives refl
cut_fails type source bytes errors.NoMemory gives = tt

pub message_fails : (type : KeyType) (bytes : List ℕ) (fields : List WireField) (fault : KeyFault) → cut 0 bytes ≡ Ok fields → GivesKey {A = Contents} (Err fault) (formed (contents_in type fields)) → GivesKey {A = KeyKind} (Err fault) (key_of type bytes)
unfolding key_of
message_fails type bytes fields faults.NotKnown is gives = absurd gives
message_fails type bytes fields (faults.Bad rule) is gives = rw (is, gives) refl
message_fails type bytes fields faults.NoMemory is gives = tt

pub message_gives : (type : KeyType) (bytes : List ℕ) (fields : List WireField) (m : Contents) → cut 0 bytes ≡ Ok fields → formed (contents_in type fields) ≡ Ok m → key_of type bytes ≡ checked type m
unfolding key_of
message_gives type bytes fields m is gives = rw (is, gives) refl
