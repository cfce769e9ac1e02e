-- The JSON form of keys without a fault reads back to them.
use Rattle.std.proofs.Common.{◌≡◌, ◌∙◌, ℕ, zero, suc, ◌+◌, ◌-◌, ◌<◌, ◌≤◌, ◌^◌, ◌&&◌, ◌==◌, Bool, true, false, List, [], ◌∷◌, ◌++◌, length, map, Some, Ok, refl, sym, ap, arith, length-append}
use Rattle.std.proofs.Math.Seq.{get_or-append_seam, take-append_seam}
use Rattle.std.proofs.lemmas.Bool.{lt-ltb, and_parts, eqb-true}
use Rattle.std.proofs.lemmas.Str.{IsUtf8-from_is_utf8, IsUtf8-from_ascii}
use Rattle.std.specs.List.{AllByRecursion}
use Rattle.std.specs.Str.{IsUtf8}
use Rattle.json.specs.Tree as tree
use Rattle.json.proofs.Printed.Utf8.{IsUtf8-are_ascii}
use Rattle.base64.specs.GeneralPurpose.{encode_of, decoded_of, IsBytes}
use Rattle.base64.specs.Engines.{standard}
use Rattle.base64.proofs.EngineFacts.{IsAscii-encode_of, decode_of-encode_of}
use Rattle.serde_json.specs.Data.{null, array}
use Rattle.serde_json.specs.Read.{of_json, of_items}
use Rattle.serde_json.specs.View.{items_of}
use Rattle.serde_json.specs.Written.{outline, items_outline, compact_text}
use Rattle.serde_json.proofs.Numbers.{number_of-decimal}
use Rattle.keyset_model.specs.declared.record.Record.{Record}
use Rattle.keyset_model.specs.Keyset.{Keys, IsKnown, is_bare, unless_fault}
use Rattle.keyset_model.specs.WellFormed.{HasData}
use Rattle.keyset_model.proofs.PrimaryLemmas.{primary_same}
use Rattle.keyset_model.proofs.WellFormedLemmas.{all_known, all_data}
use Rattle.keyset_json.specs.declared.member.Member.TheVariants as members
use Rattle.keyset_json.specs.Base64Text.{bytes_of_text}
use Rattle.keyset_json.specs.Members.{member_of, name_of, field_name_of}
use Rattle.keyset_json.specs.Names.{status_names, prefix_names, material_names, number_named, name_at}
use Rattle.keyset_json.specs.Numbers.{uint32_of, within_32_bits}
use Rattle.keyset_json.specs.Reading.{of_keyset, of_key, or_at, object_of, field, without_newline, json_value, record_of, records_of, without_fault}
use Rattle.keyset_json.specs.Writing.{data_value, key_value, keyset_value, json_of, HasJsonBounds, JsonBack}
use Rattle.keyset_json.proofs.Base64Lemmas.{first}
use Rattle.keyset_json.proofs.ReadingLemmas.{whole_record, ahead, list_of, keyset_built}
use Rattle.keyset_json.proofs.PrintedLemmas.{Good, GoodItems}
use Rattle.keyset_json.proofs.NestingLemmas.{value_printed}

-- ---- names and numbers

status_back : (n : ℕ) → n < 4 → number_named status_names (name_at status_names n) ≡ Some n
status_back zero h = refl
status_back (suc zero) h = refl
status_back (suc (suc zero)) h = refl
status_back (suc (suc (suc zero))) h = refl
status_back (suc (suc (suc (suc n)))) h = absurd (omega arith)

prefix_back : (n : ℕ) → n < 5 → number_named prefix_names (name_at prefix_names n) ≡ Some n
prefix_back zero h = refl
prefix_back (suc zero) h = refl
prefix_back (suc (suc zero)) h = refl
prefix_back (suc (suc (suc zero))) h = refl
prefix_back (suc (suc (suc (suc zero)))) h = refl
prefix_back (suc (suc (suc (suc (suc n))))) h = absurd (omega arith)

material_back : (n : ℕ) → n < 5 → number_named material_names (name_at material_names n) ≡ Some n
material_back zero h = refl
material_back (suc zero) h = refl
material_back (suc (suc zero)) h = refl
material_back (suc (suc (suc zero))) h = refl
material_back (suc (suc (suc (suc zero)))) h = refl
material_back (suc (suc (suc (suc (suc n))))) h = absurd (omega arith)

pub status_ascii : (n : ℕ) → IsUtf8 (name_at status_names n)
status_ascii zero = IsUtf8-are_ascii _ refl
status_ascii (suc zero) = IsUtf8-are_ascii _ refl
status_ascii (suc (suc zero)) = IsUtf8-are_ascii _ refl
status_ascii (suc (suc (suc zero))) = IsUtf8-are_ascii _ refl
status_ascii (suc (suc (suc (suc n)))) = IsUtf8-are_ascii [] refl

pub prefix_ascii : (n : ℕ) → IsUtf8 (name_at prefix_names n)
prefix_ascii zero = IsUtf8-are_ascii _ refl
prefix_ascii (suc zero) = IsUtf8-are_ascii _ refl
prefix_ascii (suc (suc zero)) = IsUtf8-are_ascii _ refl
prefix_ascii (suc (suc (suc zero))) = IsUtf8-are_ascii _ refl
prefix_ascii (suc (suc (suc (suc zero)))) = IsUtf8-are_ascii _ refl
prefix_ascii (suc (suc (suc (suc (suc n))))) = IsUtf8-are_ascii [] refl

material_ascii : (n : ℕ) → IsUtf8 (name_at material_names n)
material_ascii zero = IsUtf8-are_ascii _ refl
material_ascii (suc zero) = IsUtf8-are_ascii _ refl
material_ascii (suc (suc zero)) = IsUtf8-are_ascii _ refl
material_ascii (suc (suc (suc zero))) = IsUtf8-are_ascii _ refl
material_ascii (suc (suc (suc (suc zero)))) = IsUtf8-are_ascii _ refl
material_ascii (suc (suc (suc (suc (suc n))))) = IsUtf8-are_ascii [] refl

pub bytes_back : (b : List ℕ) → IsBytes b → bytes_of_text (encode_of standard b) ≡ Some b
unfolding decoded_of
bytes_back b bytes = sym (first (encode_of standard b) b (rw (decode_of-encode_of standard b refl bytes) refl))

within : (n : ℕ) → n < 2 ^ 32 → within_32_bits n ≡ Some n
within n h = rw (lt-ltb _ _ h) refl

-- ---- the text is read as the value

pub newline_off : (text : List ℕ) → without_newline (text ++ 10 ∷ []) ≡ text
unfolding without_newline
newline_off text =
    let last : length (text ++ 10 ∷ []) - 1 ≡ length text = omega (arith, length-append text (10 ∷ [])) in
    let some : 0 < length (text ++ 10 ∷ []) = omega (arith, length-append text (10 ∷ [])) in
    rw (lt-ltb _ _ some, last, get_or-append_seam text 10 [] 0) (take-append_seam text (10 ∷ []))

data_back : (r : Record) → of_json (outline (data_value r)) ≡ Some (data_value r)
unfolding data_value
data_back r = refl

key_back : (r : Record) (b : Bool) → r.id < 2 ^ 32 → is_bare r ≡ b → of_json (outline (key_value r)) ≡ Some (key_value r)
unfolding key_value
key_back r true small is = let fits : r.id < 2 ^ 64 = omega arith in rw (is, number_of-decimal r.id fits) refl
key_back r false small is = let fits : r.id < 2 ^ 64 = omega arith in rw (is, number_of-decimal r.id fits, data_back r) refl

items_back : (rs : List Record) → AllByRecursion HasJsonBounds rs → of_items (items_outline (items_of (map key_value rs))) ≡ Some (items_of (map key_value rs))
items_back [] all = refl
items_back (r ∷ rs) all = rw (key_back r (is_bare r) all.0.id refl, items_back rs all.1) refl

value_back : (keys : Keys) → keys.primary < 2 ^ 32 → AllByRecursion HasJsonBounds keys.records → of_json (outline (keyset_value keys)) ≡ Some (keyset_value keys)
unfolding keyset_value
value_back keys small all = let fits : keys.primary < 2 ^ 64 = omega arith in rw (items_back keys.records all, number_of-decimal keys.primary fits) refl

key_depth : (r : Record) (b : Bool) → is_bare r ≡ b → tree.depth (outline (key_value r)) ≤ 2
unfolding key_value data_value
key_depth r true is = rw is (omega arith)
key_depth r false is = rw is (omega arith)

items_depth : (rs : List Record) → tree.items_depth (items_outline (items_of (map key_value rs))) ≤ 2
items_depth [] = omega arith
items_depth (r ∷ rs) = omega (arith, key_depth r (is_bare r) refl, items_depth rs)

value_depth : (keys : Keys) → tree.depth (outline (keyset_value keys)) ≤ 32
unfolding keyset_value
value_depth keys = omega (arith, items_depth keys.records)

data_good : (r : Record) → HasJsonBounds r → Good (data_value r)
unfolding data_value
data_good r h =
    (IsUtf8-are_ascii _ refl, material_ascii r.material, (IsUtf8-are_ascii _ refl, IsUtf8-from_is_utf8 r.url h.utf8, (IsUtf8-are_ascii _ refl, IsUtf8-from_ascii _ (IsAscii-encode_of standard r.value), tt)))

key_good : (r : Record) (b : Bool) → HasJsonBounds r → is_bare r ≡ b → Good (key_value r)
unfolding key_value
key_good r true h is =
    let small = h.id in
    rw is (IsUtf8-are_ascii _ refl, omega arith, (IsUtf8-are_ascii _ refl, prefix_ascii r.prefix, (IsUtf8-are_ascii _ refl, status_ascii r.status, tt)))
key_good r false h is =
    let small = h.id in
    rw is (IsUtf8-are_ascii _ refl, data_good r h, (IsUtf8-are_ascii _ refl, omega arith, (IsUtf8-are_ascii _ refl, prefix_ascii r.prefix, (IsUtf8-are_ascii _ refl, status_ascii r.status, tt))))

items_good : (rs : List Record) → AllByRecursion HasJsonBounds rs → GoodItems (items_of (map key_value rs))
items_good [] all = tt
items_good (r ∷ rs) all = (key_good r (is_bare r) all.0 refl, items_good rs all.1)

value_good : (keys : Keys) → keys.primary < 2 ^ 32 → AllByRecursion HasJsonBounds keys.records → Good (keyset_value keys)
unfolding keyset_value
value_good keys small all = (IsUtf8-are_ascii _ refl, items_good keys.records all, (IsUtf8-are_ascii _ refl, omega arith, tt))

text_back : (keys : Keys) → keys.primary < 2 ^ 32 → AllByRecursion HasJsonBounds keys.records → json_value (without_newline (json_of keys)) ≡ Some (keyset_value keys)
unfolding json_of
text_back keys small all =
    let v = keyset_value keys in
    let good = value_good keys small all in
    ap json_value (newline_off (compact_text v)) ∙ value_printed v good (value_back keys small all) (value_depth keys)

-- ---- the value gives the keys

-- of a bare record
empty_list : (s : List ℕ) → (length s == 0) ≡ true → s ≡ []
empty_list [] h = refl
empty_list (x ∷ xs) h = let none : length (x ∷ xs) ≡ 0 = eqb-true _ _ h in absurd (omega arith)

record_back : (i : ℕ) (r : Record) (b : Bool) → HasJsonBounds r → IsKnown r → HasData r → is_bare r ≡ b → record_of i (key_value r) ≡ Ok r
unfolding key_value data_value member_of name_of field_name_of
record_back i r true h known has is =
    let parts = and_parts ((length r.url == 0) && (length r.value == 0)) (r.material == 0) is in
    let texts = and_parts (length r.url == 0) (length r.value == 0) parts.0 in
    let url = empty_list r.url texts.0 in
    let value = empty_list r.value texts.1 in
    let material : r.material ≡ 0 = eqb-true _ _ parts.1 in
    let st : r.status < 4 = omega (arith, known.most_status) in
    let pr : r.prefix < 5 = omega (arith, known.most_prefix) in
    whole_record i (key_value r) (key_value r) (rw is refl) null (rw is refl) r.url (ap Ok (sym url)) r.value (ap Ok (sym value)) r.material (ap Ok (sym material))
    r.status (rw is (ap (or_at (of_key i members.Status)) (status_back r.status st)))
    r.id (rw is (ap (or_at (of_key i members.KeyId)) (within r.id h.id)))
    r.prefix (rw is (ap (or_at (of_key i members.OutputPrefixType)) (prefix_back r.prefix pr)))
record_back i r false h known has is =
    let st : r.status < 4 = omega (arith, known.most_status) in
    let pr : r.prefix < 5 = omega (arith, known.most_prefix) in
    let ma : r.material < 5 = omega (arith, has.most_material) in
    whole_record i (key_value r) (key_value r) (rw is refl) (data_value r) (rw is refl) r.url refl
    r.value (ap (or_at (of_key i members.Value)) (bytes_back r.value h.bytes))
    r.material (ap (or_at (of_key i members.KeyMaterialType)) (material_back r.material ma))
    r.status (rw is (ap (or_at (of_key i members.Status)) (status_back r.status st)))
    r.id (rw is (ap (or_at (of_key i members.KeyId)) (within r.id h.id)))
    r.prefix (rw is (ap (or_at (of_key i members.OutputPrefixType)) (prefix_back r.prefix pr)))

all_back : (i : ℕ) (rs : List Record) → AllByRecursion HasJsonBounds rs → AllByRecursion IsKnown rs → AllByRecursion HasData rs
    → records_of i (items_of (map key_value rs)) ≡ Ok rs
unfolding records_of
all_back i [] bounds known has = refl
all_back i (r ∷ rs) bounds known has =
    ahead i (key_value r) (map key_value rs) r rs (record_back i r (is_bare r) bounds.0 known.0 has.0 refl) (all_back (i + 1) rs bounds.1 known.1 has.1)

list_back : (keys : Keys) → member_of members.Key (keyset_value keys) ≡ Some (array (items_of (map key_value keys.records)))
unfolding keyset_value member_of name_of field_name_of
list_back keys = refl

whole_back : (keys : Keys) → or_at (of_keyset members.Keyset) (object_of (keyset_value keys)) ≡ Ok (keyset_value keys)
unfolding keyset_value
whole_back keys = refl

primary_back : (keys : Keys) → keys.primary < 2 ^ 32 → field uint32_of 0 (of_keyset members.PrimaryKeyId) (keyset_value keys) ≡ Ok keys.primary
unfolding keyset_value member_of name_of field_name_of
primary_back keys small = ap (or_at (of_keyset members.PrimaryKeyId)) (within keys.primary small)

pub json_back : JsonBack
json_back keys faultless bounds =
    let there = primary_same HasJsonBounds keys faultless bounds in
    let small : keys.primary < 2 ^ 32 = omega (arith, there.1.id, there.2) in
    let v = keyset_value keys in
    let items = items_of (map key_value keys.records) in
    let records = list_of v (array items) items (list_back keys) refl ∙ all_back 0 keys.records bounds (all_known keys faultless) (all_data keys faultless) in
    keyset_built (json_of keys) v (text_back keys small bounds) (whole_back keys) keys.primary (primary_back keys small) keys.records records
    ∙ ap (λ fault. without_fault (unless_fault fault keys)) faultless
