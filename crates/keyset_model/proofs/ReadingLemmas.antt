-- The fields of a keyset, one after the other, and where the reading of a keyset stops.
use Rattle.std.proofs.Common.{◌≡◌, ◌⊎◌, ◌∙◌, ◌==◌, ℕ, ◌+◌, Bool, true, false, List, [], ◌∷◌, ◌++◌, length, take, drop, ◌<◌, ◌≤◌, inl, inr, refl, ap, sym, append_assoc, append-nil, arith, Option, Some, None, Ok, Err, Result}
use Rattle.std.specs.Prelude.{slice_get, slice_range, nat_le}
use Rattle.std.specs.List.{AllByRecursion}
use Rattle.std.specs.Result.{IfErr, IsErrAnd, result_ok}
use Rattle.std.proofs.Math.Seq.{take-length}
use Rattle.std.proofs.lemmas.List.{take_all, take-append-le, length-take, length-append}
use Rattle.std.proofs.lemmas.Bool.Decides.{nat_tests}
use Rattle.tink_spec.specs.Wire.{WireField, cut}
use Rattle.tink_spec.specs.Messages.{is_varint, of_number, first_other, last_number, number_in, at_place}
use Rattle.proto_wire.specs.Fields.{GivesFields, seen, seen_all}
use Rattle.proto_wire.specs.declared.field.Field.{Field}
use Rattle.proto_wire.specs.declared.field.FieldsError.{FieldsError}
use Rattle.proto_wire.specs.declared.field.FieldsError.TheVariants as fields_errors
use Rattle.keyset_model.specs.declared.keyset.Keyset.{Keyset}
use Rattle.keyset_model.specs.declared.keyset.KeysetRefusal.{KeysetRefusal}
use Rattle.keyset_model.specs.declared.keyset.KeysetRefusal.TheVariants as faults
use Rattle.keyset_model.specs.declared.reading.ReadError.{ReadError}
use Rattle.keyset_model.specs.declared.reading.ReadError.TheVariants as errors
use Rattle.keyset_model.specs.declared.record.Record.{Record}
use Rattle.keyset_model.specs.Keyset.{Keys, IsWithin, fault_of, unless_fault, built}
use Rattle.keyset_model.specs.Reading.{key_of, is_at_fault, fault_at, records_in, Refusal, without_fault, reads_binary, GivesKeyset}
use Rattle.keyset_model.specs.Steps.{GivesRecord, IsRead, KeepsRead, IsFaultAt, of_fields_error}
use Rattle.keyset_model.proofs.Exits.{here, on, fails, more}
use Rattle.keyset_model.proofs.KeyLemmas.{seen_from}

-- a fault inside a key is one at its tag
place_of : {A : Type 0} (read : Result A ℕ) (tag place : ℕ) → at_place tag read ≡ Err place → tag ≡ place
place_of (Ok value) tag place is = cc
place_of (Err inside) tag place is = cc

key_fault : (field : WireField) (place : ℕ) → field.number ≡ 2 → key_of field ≡ Err place → fault_at (field ∷ []) ≡ Some field.at
key_fault field place same is = rw (is, same) refl

key_place : (field : WireField) (place : ℕ) → key_of field ≡ Err place → field.at ≡ place
unfolding key_of
key_place field place is = place_of _ field.at place is

pub key_handed_on : {T : Type 0} (r : Result T ReadError) (error : ReadError) (field : WireField) → IsErrAnd r (λ e. e ≡ error) → field.number ≡ 2 → GivesRecord (Err error) (key_of field) → IfErr r (λ e. IsFaultAt e (fault_at (field ∷ [])))
key_handed_on (Ok key) error field is same gives = absurd is
key_handed_on (Err e) (errors.Wire wire) field is same gives = rw is (key_fault field wire.at same gives ∙ ap Some (key_place field wire.at gives))
key_handed_on (Err e) (errors.Fault fault) field is same gives = absurd gives
key_handed_on (Err e) errors.NoMemory field is same gives = rw is tt

-- a fault of the first field is that of all, and with none there it is that of the others
fault_first : (field : WireField) (rest : List WireField) (b : Bool) (place : ℕ) → is_at_fault field ≡ b → fault_at (field ∷ []) ≡ Some place → fault_at (field ∷ rest) ≡ Some place
fault_first field rest true place is at = rw is (rw is at at)
fault_first field rest false place is at = let clash : None ≡ Some place = rw is at at in cc

fault_rest : (field : WireField) (rest : List WireField) (b : Bool) → is_at_fault field ≡ b → fault_at (field ∷ []) ≡ None → fault_at (field ∷ rest) ≡ fault_at rest
fault_rest field rest true is none = let clash : Some field.at ≡ None = rw is at none in cc
fault_rest field rest false is none = rw is refl

records_first : (field : WireField) (rest : List WireField) (b : Bool) (read : Option Record) → (field.number == 2) ≡ b → result_ok (key_of field) ≡ read → records_in (field ∷ rest) ≡ records_in (field ∷ []) ++ records_in rest
records_first field rest true None number read = rw (number, read) refl
records_first field rest true (Some key) number read = rw (number, read) refl
records_first field rest false read number is = rw number refl

all_behind : {A : Type 0} (P : A → Type 0) (xs ys : List A) → AllByRecursion P xs → AllByRecursion P ys → AllByRecursion P (xs ++ ys)
all_behind P [] ys front back = back
all_behind P (x ∷ xs) ys front back = (front.0, all_behind P xs ys front.1 back)

-- the records of the fields before a place, of which the first ones are kept, and what the fields
-- from there on add
pub record RecordsSoFar (source : List ℕ) (message : List Field) (i : ℕ) (kept : List Record) : Type 0 where
  pub records : List Record
  pub first : kept ≡ take 1001 records
  pub fault : fault_at (seen_all source message) ≡ fault_at (seen_all source (drop i message))
  pub all : records_in (seen_all source message) ≡ records ++ records_in (seen_all source (drop i message))
  pub within : AllByRecursion (IsWithin (length source)) kept

-- these records are read next, and these are kept then
reads_on : (source : List ℕ) (message : List Field) (i : ℕ) (kept more keeps : List Record) (field : Field) → (before : RecordsSoFar source message i kept) → slice_get message i ≡ Some field → IsRead more (seen source field ∷ []) → keeps ≡ take 1001 (before.records ++ more) → AllByRecursion (IsWithin (length source)) keeps → RecordsSoFar source message (i + 1) keeps
reads_on source message i kept more keeps field before there read first within =
    let records = before.records in
    let rest : List WireField = seen_all source (drop (i + 1) message) in
    let here = seen_from source message i field there in
    record {
      records = records ++ more;
      first = first;
      fault = before.fault ∙ ap fault_at here ∙ fault_rest (seen source field) rest _ refl read.faultless;
      all = before.all ∙ ap (λ (fields : List WireField). records ++ records_in fields) here
          ∙ ap (λ (all : List Record). records ++ all) (records_first (seen source field) rest _ _ refl refl)
          ∙ ap (λ (these : List Record). records ++ (these ++ records_in rest)) (sym read.all)
          ∙ sym (append_assoc records more (records_in rest));
      within = within;
    }

-- a list is cut at a place behind its end, and one more element is kept
take_short : {A : Type 0} (n : ℕ) (xs : List A) (y : A) → length (take n xs) < n → take n xs ++ (y ∷ []) ≡ take n (xs ++ (y ∷ []))
take_short {A} n xs y short =
    let whole : length xs < n = omega (arith, length-take n xs) in
    let all : length (xs ++ (y ∷ [])) ≤ n = omega (arith, length-append xs (y ∷ [])) in
    ap (λ (l : List A). l ++ (y ∷ [])) (take_all n xs (omega arith)) ∙ sym (take_all n (xs ++ (y ∷ [])) all)

take_full : {A : Type 0} (n : ℕ) (xs : List A) (y : A) → (length (take n xs) < n → ⊥) → take n xs ≡ take n (xs ++ (y ∷ []))
take_full n xs y full = sym (take-append-le n xs (y ∷ []) (omega (arith, length-take n xs)))

pub so_far_keeps : (source : List ℕ) (message : List Field) (i : ℕ) (kept : List Record) (key : Record) (field : Field) → RecordsSoFar source message i kept → slice_get message i ≡ Some field → IsRead (key ∷ []) (seen source field ∷ []) → IsWithin (length source) key → length kept < 1001 → RecordsSoFar source message (i + 1) (kept ++ (key ∷ []))
so_far_keeps source message i kept key field before there read within short =
    let more = take_short 1001 before.records key (rw before.first at short) in
    reads_on source message i kept (key ∷ []) (kept ++ (key ∷ [])) field before there read
    (ap (λ (l : List Record). l ++ (key ∷ [])) before.first ∙ more) (all_behind (IsWithin (length source)) kept (key ∷ []) before.within (within, tt))

pub so_far_leaves : (source : List ℕ) (message : List Field) (i : ℕ) (kept : List Record) (key : Record) (field : Field) → RecordsSoFar source message i kept → slice_get message i ≡ Some field → IsRead (key ∷ []) (seen source field ∷ []) → (length kept < 1001 → ⊥) → RecordsSoFar source message (i + 1) kept
so_far_leaves source message i kept key field before there read full =
    let same = take_full 1001 before.records key (rw before.first at full) in
    reads_on source message i kept (key ∷ []) kept field before there read (before.first ∙ same) before.within

pub so_far_passes : (source : List ℕ) (message : List Field) (i : ℕ) (kept : List Record) (field : Field) → RecordsSoFar source message i kept → slice_get message i ≡ Some field → IsRead [] (seen source field ∷ []) → RecordsSoFar source message (i + 1) kept
so_far_passes source message i kept field before there read =
    reads_on source message i kept [] kept field before there read (before.first ∙ ap (λ (l : List Record). take 1001 l) (sym (append-nil before.records))) before.within

pub so_far_fails : {T : Type 0} (r : Result T ReadError) (error : ReadError) (source : List ℕ) (message : List Field) (i : ℕ) (records : List Record) (field : Field) → IsErrAnd r (λ e. e ≡ error) → RecordsSoFar source message i records → slice_get message i ≡ Some field → IsFaultAt error (fault_at (seen source field ∷ [])) → IfErr r (λ e. IsFaultAt e (fault_at (seen_all source message)))
so_far_fails (Ok all) error source message i records field is before there fault = absurd is
so_far_fails (Err e) (errors.Wire wire) source message i records field is before there fault =
    rw is (before.fault ∙ ap fault_at (seen_from source message i field there)
    ∙ fault_first (seen source field) (seen_all source (drop (i + 1) message)) _ wire.at refl fault)
so_far_fails (Err e) (errors.Fault wrong) source message i records field is before there fault = absurd fault
so_far_fails (Err e) errors.NoMemory source message i records field is before there fault = rw is tt

-- with no field at fault each primary id is a varint
primary_first : (field : WireField) (rest : List WireField) (one number : Bool) → (field.number == 1) ≡ one → is_varint field.payload ≡ number → fault_at (field ∷ []) ≡ None → first_other is_varint (of_number 1 (field ∷ rest)) ≡ first_other is_varint (of_number 1 rest)
primary_first field rest true true one number none = rw (one, number) refl
primary_first field rest true false one number none = let clash : Some field.at ≡ None = rw (one, number) at none in cc
primary_first field rest false number one is none = rw one refl

fault_none : (field : WireField) (rest : List WireField) (b : Bool) → is_at_fault field ≡ b → fault_at (field ∷ rest) ≡ None → fault_at (field ∷ []) ≡ None
fault_none field rest true is none = let clash : Some field.at ≡ None = rw is at none in cc
fault_none field rest false is none = rw is refl

primaries : (fields : List WireField) → fault_at fields ≡ None → first_other is_varint (of_number 1 fields) ≡ None
primaries [] none = refl
primaries (field ∷ fields) none =
    let first = fault_none field fields _ refl none in
    primary_first field fields _ _ refl refl first ∙ primaries fields (sym (fault_rest field fields _ refl first) ∙ none)

pub primary_read : (fields : List WireField) → fault_at fields ≡ None → number_in 1 fields ≡ Ok (last_number (of_number 1 fields))
primary_read fields none = rw (primaries fields none) refl

pub whole : (bytes : List ℕ) → slice_range bytes 0 (length bytes) ≡ bytes
whole bytes = grind (arith, take-length bytes)

-- what is handed on by a `?`
pub keyset_handed_on : (r : Result Keyset ReadError) (error : ReadError) (read : Result Keys Refusal) → IsErrAnd r (λ e. e ≡ error) → GivesKeyset (Err error) read → GivesKeyset r read
keyset_handed_on (Ok keyset) error read is gives = absurd is
keyset_handed_on (Err e) error read is gives = rw is gives

pub cut_fails : (source bytes : List ℕ) (error : FieldsError) → GivesFields source (Err error) (cut 0 bytes) → GivesKeyset (Err (of_fields_error error)) (reads_binary bytes)
unfolding reads_binary
cut_fails source bytes (fields_errors.Wire wire) gives = rw gives refl
cut_fails source bytes fields_errors.NoMemory gives = tt

pub reading_fails : (bytes : List ℕ) (fields : List WireField) (error : ReadError) → cut 0 bytes ≡ Ok fields → IsFaultAt error (fault_at fields) → GivesKeyset (Err error) (reads_binary bytes)
unfolding reads_binary
reading_fails bytes fields (errors.Wire wire) is fault = rw (is, fault) refl
reading_fails bytes fields (errors.Fault wrong) is fault = absurd fault
reading_fails bytes fields errors.NoMemory is fault = tt

-- 1,001 records have the fault of any longer list, which has too many
many : (keys : Keys) → 1001 ≤ length keys.records → built keys ≡ Err faults.TooMany
unfolding fault_of
many keys long =
    let some : false ≡ (length keys.records == 0) = grind (arith, nat_tests) in
    ap (λ (fault : Option KeysetRefusal). unless_fault fault keys)
    (sym (on _ (fails faults.Empty some) (here _ (more (length keys.records) faults.TooMany (omega arith)))))

bool_cases : (b : Bool) → (b ≡ true) ⊎ (b ≡ false)
bool_cases true = inl refl
bool_cases false = inr refl

built_first : (primary : ℕ) (kept records : List Record) → kept ≡ take 1001 records → (nat_le 1001 (length records)) ≡ true ⊎ (nat_le 1001 (length records) ≡ false) → built (record { primary = primary; records = records }) ≡ built (record { primary = primary; records = kept })
built_first primary kept records first (inl long) =
    let all_long : 1001 ≤ length records = grind (arith, nat_tests) in
    let kept_long : 1001 ≤ length kept = omega (arith, ap length first, length-take 1001 records) in
    many (record { primary = primary; records = records }) all_long ∙ sym (many (record { primary = primary; records = kept }) kept_long)
built_first primary kept records first (inr short) =
    let few : length records ≤ 1001 = grind (arith, nat_tests) in
    ap (λ (l : List Record). built (record { primary = primary; records = l })) (sym (first ∙ take_all 1001 records few))

-- the keyset, or its fault, of what was read
pub builds : (bytes : List ℕ) (fields : List WireField) (primary : ℕ) (kept : List Record) → cut 0 bytes ≡ Ok fields → number_in 1 fields ≡ Ok primary → KeepsRead kept fields → reads_binary bytes ≡ without_fault (built (record { primary = primary; records = kept }))
unfolding reads_binary
builds bytes fields primary kept is number read =
    let last : last_number (of_number 1 fields) ≡ primary = let all = primary_read fields read.faultless in cc in
    let same = built_first primary kept (records_in fields) read.first (bool_cases (nat_le 1001 (length (records_in fields)))) in
    rw (is, read.faultless, last, same) refl

pub primary_never_fails : (fields : List WireField) (place : ℕ) → fault_at fields ≡ None → number_in 1 fields ≡ Err place → ⊥
primary_never_fails fields place none refused =
    let clash : Ok (last_number (of_number 1 fields)) ≡ Err place = sym (primary_read fields none) ∙ refused in cc
