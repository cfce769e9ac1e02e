-- A keyset that is read of JSON is held to what the types of its records hold.
use Rattle.std.proofs.Common.{◌≡◌, ◌∙◌, ℕ, ◌+◌, ◌-◌, ◌<◌, ◌^◌, Bool, true, false, List, [], ◌∷◌, ◌++◌, length, take, slice_index, nat_lt, Option, Some, None, Result, Ok, Err, refl, sym, ap, subst, arith}
use Rattle.std.specs.Prelude.{⊤, ◌&&◌, if◌then◌else◌}
use Rattle.std.specs.List.{AllByRecursion}
use Rattle.std.specs.Str.{IsUtf8, is_utf8}
use Rattle.std.proofs.Math.Seq.{take-length}
use Rattle.std.proofs.lemmas.Bool.{and_parts, eqb-true, ltb-true}
use Rattle.std.proofs.lemmas.List.{take_more}
use Rattle.std.proofs.lemmas.Str.{IsUtf8-from_is_utf8, IsUtf8-nil, is_utf8-from_IsUtf8}
use Rattle.base64.specs.GeneralPurpose.{IsBytes}
use Rattle.serde_json.specs.Data.{Num, unsigned, negative, float, Data, null, boolean, number, string, array, object, Items, no_items, item}
use Rattle.serde_json.specs.Find.{as_str, as_array}
use Rattle.serde_json.specs.Read.{read}
use Rattle.keyset_model.specs.declared.keyset.KeysetRefusal.{KeysetRefusal}
use Rattle.keyset_model.specs.Keyset.{Keys, fault_of, unless_fault}
use Rattle.keyset_json.specs.declared.member.Member.TheVariants as members
use Rattle.keyset_json.specs.declared.member.Path.{Path}
use Rattle.keyset_json.specs.Base64Text.{bytes_of_text}
use Rattle.keyset_json.specs.Members.{member_of}
use Rattle.keyset_json.specs.Numbers.{within_32_bits, number_of_num, uint32_of}
use Rattle.tink_base.specs.Decimal.{number_in}
use Rattle.tink_base.proofs.DecimalLemmas.{number_passes}
use Rattle.keyset_json.specs.Nesting.{is_shallow}
use Rattle.keyset_json.specs.Reading.{◌>>=◌, of_key, of_keyset, or_at, given, field, bytes_of, object_of, record_of, records_of, records_in, keys_of, json_value, ends_in_newline, without_newline, without_fault, well_formed, of_value, reads_json}
use Rattle.keyset_json.specs.Stored.{JsonIsShort, JsonIsStored}
use Rattle.keyset_json.specs.Writing.{HasJsonBounds}
use Rattle.keyset_json.proofs.ByteLemmas.{AreBytes, bytes_append, bytes_held, utf8_bytes}
use Rattle.keyset_json.proofs.MemberLemmas.{IfRead, any_read, array_all, at_all, field_all, next_read, object_all, str_all}
use Rattle.keyset_json.proofs.ReadingLemmas.{material_at, status_at, prefix_at}
use Rattle.keyset_json.proofs.SizeLemmas.{short_of, value_of, within_source}
use Rattle.keyset_json.proofs.TextLemmas.{Holds, ItemsHold, IfThere}
use Rattle.keyset_json.proofs.Utf8Lemmas.{utf8_value}

-- ---- numbers

abbrev IsWord : ℕ → Type 0
IsWord n = n < 2 ^ 32

word_within : (n : ℕ) → IfThere IsWord (within_32_bits n)
word_within n = by_test (nat_lt n (2 ^ 32)) refl
  where
    by_test : (b : Bool) → nat_lt n (2 ^ 32) ≡ b → IfThere IsWord (if b then Some n else None)
    by_test true is = ltb-true n (2 ^ 32) is
    by_test false is = tt

num_word : (n : Num) → IfThere IsWord (number_of_num n)
num_word (unsigned n) = word_within n
num_word (negative z) = tt
num_word (float x) = tt

digits_word : (s : List ℕ) → IfThere IsWord (number_in s)
digits_word s = by_read (number_in s) refl
  where
    by_read : (o : Option ℕ) → number_in s ≡ o → IfThere IsWord o
    by_read (Some n) is = let tests = number_passes s n is in rw⁻¹ tests.4 tests.3
    by_read None is = tt

data_word : (d : Data) → IfThere IsWord (uint32_of d)
data_word null = tt
data_word (boolean b) = tt
data_word (number n) = num_word n
data_word (string s) = digits_word s
data_word (array ds) = tt
data_word (object ms) = tt

field_word : (path : Path) (d : Data) → IfRead IsWord (field uint32_of 0 path d)
field_word path d = given_word (member_of path.member d)
  where
    given_word : (o : Option Data) → IfRead IsWord (given uint32_of 0 path o)
    given_word None = omega arith
    given_word (Some e) = at_all IsWord path (uint32_of e) (data_word e)

-- ---- records

decoded_held : (s : List ℕ) (o : Option (List ℕ)) → IsUtf8 s → o ≡ bytes_of_text s → IfThere IsBytes o
decoded_held s None utf8 is = tt
decoded_held s (Some b) utf8 is = bytes_held s b utf8 (sym is)

base64_held : (d : Data) → Holds IsUtf8 d → IfThere IsBytes (bytes_of d)
base64_held null h = tt
base64_held (boolean b) h = tt
base64_held (number m) h = tt
base64_held (string s) h = decoded_held s (bytes_of_text s) h refl
base64_held (array ds) h = tt
base64_held (object ms) h = tt

no_bytes : IsBytes []
no_bytes i = omega arith

record_held : (i : ℕ) (d : Data) → Holds IsUtf8 d → IfRead HasJsonBounds (record_of i d)
unfolding record_of
record_held i d h =
    next_read (Holds IsUtf8) HasJsonBounds _ _ (at_all (Holds IsUtf8) (of_key i members.Key) (object_of d) (object_all IsUtf8 d h)) (λ key hk.
    next_read (Holds IsUtf8) HasJsonBounds _ _ (field_all IsUtf8 (Holds IsUtf8) object_of null (of_key i members.KeyData) key tt (object_all IsUtf8) hk) (λ inner hi.
    next_read IsUtf8 HasJsonBounds _ _ (field_all IsUtf8 IsUtf8 as_str [] (of_key i members.TypeUrl) inner IsUtf8-nil (str_all IsUtf8) hi) (λ url hu.
    next_read IsBytes HasJsonBounds _ _ (field_all IsUtf8 IsBytes bytes_of [] (of_key i members.Value) inner no_bytes base64_held hi) (λ value hv.
    next_read (λ _. ⊤) HasJsonBounds _ _ (any_read (material_at i inner)) (λ material _.
    next_read (λ _. ⊤) HasJsonBounds _ _ (any_read (status_at i key)) (λ status _.
    next_read IsWord HasJsonBounds _ _ (field_word (of_key i members.KeyId) key) (λ id word.
    next_read (λ _. ⊤) HasJsonBounds _ _ (any_read (prefix_at i key)) (λ prefix _. record { id = word; utf8 = is_utf8-from_IsUtf8 url hu; bytes = hv }))))))))

items_held : (i : ℕ) (ds : Items) → ItemsHold IsUtf8 ds → IfRead (AllByRecursion HasJsonBounds) (records_of i ds)
unfolding records_of
items_held i no_items h = tt
items_held i (item d ds) h =
    next_read HasJsonBounds (AllByRecursion HasJsonBounds) _ _ (record_held i d h.0) (λ r hr.
    next_read (AllByRecursion HasJsonBounds) (AllByRecursion HasJsonBounds) _ _ (items_held (i + 1) ds h.1) (λ rs hrs. (hr, hrs)))

records_held : (d : Data) → Holds IsUtf8 d → IfRead (AllByRecursion HasJsonBounds) (records_in d)
records_held d h =
    next_read (ItemsHold IsUtf8) (AllByRecursion HasJsonBounds) _ _ (field_all IsUtf8 (ItemsHold IsUtf8) as_array no_items (of_keyset members.Key) d tt (array_all IsUtf8) h)
    (λ ds hds. items_held 0 ds hds)

-- ---- what was read, taken apart

then_ok : {A B : Type 0} (read : Result A Path) (next : A → Result B Path) (b : B) → (read >>= next) ≡ Ok b → (a : A) × (read ≡ Ok a) × (next a ≡ Ok b)
then_ok (Ok a) next b is = (a, refl, is)
then_ok (Err path) next b is = absurd (cc)

-- what gave a keyset
record IsReadOf (bytes : List ℕ) (keys : Keys) : Type 0 where
  value : Data
  is : json_value (without_newline bytes) ≡ Some value
  primary : field uint32_of 0 (of_keyset members.PrimaryKeyId) value ≡ Ok keys.primary
  records : records_in value ≡ Ok keys.records
  faultless : fault_of keys ≡ None

object_is : (d whole : Data) → or_at (of_keyset members.Keyset) (object_of d) ≡ Ok whole → whole ≡ d
object_is null whole is = absurd (cc)
object_is (boolean b) whole is = absurd (cc)
object_is (number n) whole is = absurd (cc)
object_is (string s) whole is = absurd (cc)
object_is (array ds) whole is = absurd (cc)
object_is (object ms) whole is = cc

keys_parts : (d : Data) (keys : Keys) → keys_of d ≡ Ok keys
    → (field uint32_of 0 (of_keyset members.PrimaryKeyId) d ≡ Ok keys.primary) × (records_in d ≡ Ok keys.records)
unfolding keys_of
keys_parts d keys is =
    let whole = then_ok (or_at (of_keyset members.Keyset) (object_of d)) _ keys is in
    let same = object_is d whole.0 whole.1 in
    let primary = then_ok (field uint32_of 0 (of_keyset members.PrimaryKeyId) whole.0) _ keys whole.2 in
    let records = then_ok (records_in whole.0) _ keys primary.2 in
    let last : record { primary = primary.0; records = records.0 } ≡ keys = let end = records.2 in cc in (
      subst (λ d. field uint32_of 0 (of_keyset members.PrimaryKeyId) d ≡ Ok keys.primary) same (subst (λ (k : Keys). field uint32_of 0 (of_keyset members.PrimaryKeyId) whole.0 ≡ Ok k.primary) last primary.1),
      subst (λ d. records_in d ≡ Ok keys.records) same (subst (λ (k : Keys). records_in whole.0 ≡ Ok k.records) last records.1),
    )

unless_fault-ok : (fault : Option KeysetRefusal) (got keys : Keys) → fault_of got ≡ fault → without_fault (unless_fault fault got) ≡ Ok keys → (got ≡ keys) × (fault_of keys ≡ None)
unless_fault-ok None got keys none is = let same : got ≡ keys = cc in (same, subst (λ k. fault_of k ≡ None) same none)
unless_fault-ok (Some fault) got keys some is = absurd (cc)

read_of : (bytes : List ℕ) (keys : Keys) → reads_json bytes ≡ Ok keys → IsReadOf bytes keys
unfolding reads_json
read_of bytes keys e = of_data (json_value (without_newline bytes)) refl e
  where
    of_keys : (d : Data) (r : Result Keys Path) → json_value (without_newline bytes) ≡ Some d → keys_of d ≡ r → well_formed r ≡ Ok keys → IsReadOf bytes keys
    of_keys d (Ok got) value is e =
        let sound = unless_fault-ok (fault_of got) got keys refl e in
        let parts = keys_parts d keys (subst (λ k. keys_of d ≡ Ok k) sound.0 is) in
        record { value = d; is = value; primary = parts.0; records = parts.1; faultless = sound.1 }
    of_keys d (Err path) value is e = absurd (cc)

    of_data : (o : Option Data) → json_value (without_newline bytes) ≡ o → of_value o ≡ Ok keys → IsReadOf bytes keys
    of_data None value e = absurd (cc)
    of_data (Some d) value e = of_keys d (keys_of d) value refl e

-- ---- a keyset

text_utf8 : (text : List ℕ) (d : Data) → json_value text ≡ Some d → IsUtf8 text
unfolding json_value
text_utf8 text d is = by_tests (is_utf8 text) (is_shallow text) refl is
  where
    by_tests : (a b : Bool) → is_utf8 text ≡ a → (if a && b then read text else None) ≡ Some d → IsUtf8 text
    by_tests true b utf8 e = IsUtf8-from_is_utf8 text utf8
    by_tests false b utf8 e = absurd (cc)

value_utf8 : (text : List ℕ) (d : Data) → json_value text ≡ Some d → Holds IsUtf8 d
value_utf8 text d is = utf8_value text d (text_utf8 text d is) (value_of text _ d refl is)

-- the source is bytes too: a UTF-8 text, and a newline
pub source_bytes : (bytes : List ℕ) (keys : Keys) → reads_json bytes ≡ Ok keys → AreBytes bytes
unfolding without_newline
source_bytes bytes keys e = by_end (ends_in_newline bytes) refl
  where
    text : AreBytes (without_newline bytes)
    text = let r = read_of bytes keys e in utf8_bytes (without_newline bytes) (text_utf8 (without_newline bytes) r.value r.is)

    by_end : (b : Bool) → ends_in_newline bytes ≡ b → AreBytes bytes
    by_end false is = rw is at text
    by_end true is =
        let front : AreBytes (take (length bytes - 1) bytes) = rw is at text in
        let parts = and_parts (nat_lt 0 (length bytes)) _ is in
        let some = ltb-true 0 (length bytes) parts.0 in
        let last = eqb-true (slice_index bytes (length bytes - 1)) 10 parts.1 in
        let all : length bytes - 1 + 1 ≡ length bytes = omega arith in
        let whole : take (length bytes - 1) bytes ++ slice_index bytes (length bytes - 1) ∷ [] ≡ bytes = sym (take_more bytes (length bytes - 1) 0 (omega arith)) ∙ ap (λ n. take n bytes) all ∙ take-length bytes in
        subst AreBytes whole (bytes_append (take (length bytes - 1) bytes) _ front (omega arith, tt))

pub json_is_stored : JsonIsStored
json_is_stored bytes keys e =
    let r = read_of bytes keys e in (
      r.faultless,
      subst (IfRead IsWord) r.primary (field_word (of_keyset members.PrimaryKeyId) r.value),
      subst (IfRead (AllByRecursion HasJsonBounds)) r.records (records_held r.value (value_utf8 (without_newline bytes) r.value r.is)),
    )

pub json_is_short : JsonIsShort
json_is_short bytes keys few e =
    let r = read_of bytes keys e in
    short_of (length bytes) keys.records few (within_source bytes r.value keys.records r.is r.records)
