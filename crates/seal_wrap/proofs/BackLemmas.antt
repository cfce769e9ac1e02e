-- What was wrapped unwraps.
use Rattle.std.proofs.Common.{◌≡◌, ◌∙◌, refl, sym, ap, ℕ, ◌*◌, ◌<◌, ◌≤◌, ◌^◌, ◌==◌, Bool, true, false, List, [], ◌∷◌, length, map, inl, inr, lit<, lit≤, Some, None, Ok, IsTrue, arith}
use Rattle.std.specs.List.{AllByRecursion}
use Rattle.std.specs.Str.{is_utf8}
use Rattle.std.proofs.lemmas.Bool.Decides.{eqb_tells}
use Rattle.std.proofs.lemmas.List.{length-append}
use Rattle.std.proofs.lemmas.Str.{IsUtf8-from_ascii, IsUtf8-from_is_utf8}
use Rattle.json.specs.Tree as tree
use Rattle.json.proofs.Printed.Utf8.{IsUtf8-are_ascii}
use Rattle.base64.specs.GeneralPurpose.{IsBytes}
use Rattle.base64.specs.Engines.{standard}
use Rattle.base64.proofs.EngineFacts.{IsAscii-encode_of}
use Rattle.serde_json.specs.Read.{of_items, of_json}
use Rattle.serde_json.specs.View.{items_of}
use Rattle.serde_json.specs.Written.{compact_text, items_outline, outline}
use Rattle.serde_json.proofs.Numbers.{number_of-decimal}
use Rattle.proto_wire.specs.Written.{uint32, written, written_all, fields_of_all}
use Rattle.proto_wire.proofs.ReadBack.{AreWritable, cut-all}
use Rattle.proto_wire.proofs.Writing.{length-written}
use Rattle.keyset_model.specs.declared.record.Record.{Record}
use Rattle.keyset_model.specs.Keyset.{Keys, fault_of}
use Rattle.keyset_model.specs.Reading.{reads_binary}
use Rattle.keyset_model.specs.Writing.{BinaryBack, HasWireBounds, binary_of, key_entry}
use Rattle.keyset_model.proofs.PrimaryLemmas.{primary_same, well_formed-faultless}
use Rattle.keyset_model.proofs.WritingLemmas.{length-record}
use Rattle.keyset_json.specs.Reading.{json_value, without_newline}
use Rattle.keyset_json.proofs.BackLemmas.{bytes_back, newline_off, prefix_ascii, status_ascii}
use Rattle.keyset_json.proofs.NestingLemmas.{value_printed}
use Rattle.keyset_json.proofs.PrintedLemmas.{Good, GoodItems}
use Rattle.managers.specs.Table.{Table}
use Rattle.wrapped_prims.specs.Answers.{Sealed, open_answer, seal_answer}
use Rattle.wrapped_prims.specs.Laws.{SameKeyOpens}
use Rattle.seal_wrap.specs.Info.{Info, KeyInfo, info_of, key_info_of}
use Rattle.seal_wrap.specs.Laws.{WrapBack}
use Rattle.seal_wrap.specs.Unwrapped.{encrypted_in, encrypted_of, or_member, sealed_in, sealed_in_binary, unwrap_of}
use Rattle.seal_wrap.specs.Wrapped.{Wrapped, info_value, info_written, key_info_value, wrapped_binary, wrapped_entries, wrapped_json, wrapped_text, wrapped_value, wrapped_with}
use Rattle.seal_wrap.specs.Wrapping.{SealsBytes}
use Rattle.seal_wrap.proofs.FieldLemmas.{cut_gives}
use Rattle.seal_wrap.proofs.JsonLemmas.{value_there}
use Rattle.seal_wrap.proofs.SealedSizes.{sealing-long}
use Rattle.seal_wrap.proofs.WrapLemmas.{map_some}
use Rattle.seal_wrap.proofs.WrittenSizes.{info-long}

-- ---- the binary form

no_length : (l : List ℕ) → length l ≡ 0 → l ≡ []
no_length [] none = refl
no_length (b ∷ l) none = absurd (omega arith)

fields-back : (at : ℕ) (sealed : List ℕ) (info : Info) → encrypted_in (fields_of_all at (wrapped_entries sealed info)) ≡ Ok sealed
fields-back at sealed info = elim (eqb_tells (length sealed) 0) [
  | inl none ↦ rw none.0 (ap Ok (sym (no_length sealed none.1)))
  | inr some ↦ rw some.0 refl
]

pub binary-back : (sealed : List ℕ) (info : Info) → length sealed < 2 ^ 64 → length (info_written info) < 2 ^ 64 → sealed_in_binary (wrapped_binary sealed info) ≡ Ok sealed
unfolding wrapped_binary
binary-back sealed info few short =
    let entries = wrapped_entries sealed info in
    let are : AreWritable entries = (((lit< tt, lit≤ tt), few), (((lit< tt, lit≤ tt), short), tt)) in
    cut_gives (written_all entries) (fields_of_all 0 entries) sealed (cut-all 0 entries are) (fields-back 0 sealed info)

-- ---- the JSON form

-- the id is below 2 ^ 32, and the URL is UTF-8
record HasTextBounds (k : KeyInfo) : Type 0 where
  id : k.id < 2 ^ 32
  utf8 : is_utf8 k.url ≡ true

key_back : (k : KeyInfo) (b : Bool) → k.id < 2 ^ 32 → (length k.url == 0) ≡ b → of_json (outline (key_info_value k)) ≡ Some (key_info_value k)
unfolding key_info_value
key_back k true small is = let fits : k.id < 2 ^ 64 = omega arith in rw (is, number_of-decimal k.id fits) refl
key_back k false small is = let fits : k.id < 2 ^ 64 = omega arith in rw (is, number_of-decimal k.id fits) refl

items_back : (ks : List KeyInfo) → AllByRecursion HasTextBounds ks → of_items (items_outline (items_of (map key_info_value ks))) ≡ Some (items_of (map key_info_value ks))
items_back [] all = refl
items_back (k ∷ ks) all = rw (key_back k _ all.0.id refl, items_back ks all.1) refl

value_back : (sealed : List ℕ) (info : Info) → info.primary < 2 ^ 32 → AllByRecursion HasTextBounds info.keys → of_json (outline (wrapped_value sealed info)) ≡ Some (wrapped_value sealed info)
unfolding wrapped_value info_value
value_back sealed info small all = let fits : info.primary < 2 ^ 64 = omega arith in rw (items_back info.keys all, number_of-decimal info.primary fits) refl

key_depth : (k : KeyInfo) (b : Bool) → (length k.url == 0) ≡ b → tree.depth (outline (key_info_value k)) ≤ 2
unfolding key_info_value
key_depth k true is = rw is (omega arith)
key_depth k false is = rw is (omega arith)

items_depth : (ks : List KeyInfo) → tree.items_depth (items_outline (items_of (map key_info_value ks))) ≤ 2
items_depth [] = omega arith
items_depth (k ∷ ks) = omega (arith, key_depth k _ refl, items_depth ks)

value_depth : (sealed : List ℕ) (info : Info) → tree.depth (outline (wrapped_value sealed info)) ≤ 32
unfolding wrapped_value info_value
value_depth sealed info = omega (arith, items_depth info.keys)

key_good : (k : KeyInfo) (b : Bool) → HasTextBounds k → (length k.url == 0) ≡ b → Good (key_info_value k)
unfolding key_info_value
key_good k true h is =
    let small = h.id in
    rw is (IsUtf8-are_ascii _ refl, omega arith, (IsUtf8-are_ascii _ refl, prefix_ascii k.prefix, (IsUtf8-are_ascii _ refl, status_ascii k.status, tt)))
key_good k false h is =
    let small = h.id in
    rw is (IsUtf8-are_ascii _ refl, omega arith, (IsUtf8-are_ascii _ refl, prefix_ascii k.prefix, (IsUtf8-are_ascii _ refl, status_ascii k.status, (IsUtf8-are_ascii _ refl, IsUtf8-from_is_utf8 k.url h.utf8, tt))))

items_good : (ks : List KeyInfo) → AllByRecursion HasTextBounds ks → GoodItems (items_of (map key_info_value ks))
items_good [] all = tt
items_good (k ∷ ks) all = (key_good k _ all.0 refl, items_good ks all.1)

value_good : (sealed : List ℕ) (info : Info) → info.primary < 2 ^ 32 → AllByRecursion HasTextBounds info.keys → Good (wrapped_value sealed info)
unfolding wrapped_value info_value
value_good sealed info small all =
    (IsUtf8-are_ascii _ refl, IsUtf8-from_ascii _ (IsAscii-encode_of standard sealed), (IsUtf8-are_ascii _ refl, (IsUtf8-are_ascii _ refl, items_good info.keys all, (IsUtf8-are_ascii _ refl, omega arith, tt)), tt))

text_back : (sealed : List ℕ) (info : Info) → info.primary < 2 ^ 32 → AllByRecursion HasTextBounds info.keys → json_value (without_newline (wrapped_json sealed info)) ≡ Some (wrapped_value sealed info)
unfolding wrapped_json
text_back sealed info small all =
    let v = wrapped_value sealed info in
    let good = value_good sealed info small all in
    ap json_value (newline_off (compact_text v)) ∙ value_printed v good (value_back sealed info small all) (value_depth sealed info)

member_back : (sealed : List ℕ) (info : Info) → IsBytes sealed → or_member (encrypted_of (wrapped_value sealed info)) ≡ Ok sealed
unfolding wrapped_value encrypted_of
member_back sealed info bytes = ap or_member (bytes_back sealed bytes)

-- ---- the bounds of a keyset

keys-bounded : (rs : List Record) → AllByRecursion HasWireBounds rs → length (written_all (map key_entry rs)) ≤ 4294967496 * length rs
keys-bounded [] all = omega arith
keys-bounded (r ∷ rs) all =
    omega (arith, length-append (written (key_entry r)) (written_all (map key_entry rs)), length-written (key_entry r), length-record r, all.0.short, keys-bounded rs all.1)

binary-bounded : (keys : Keys) → fault_of keys ≡ None → AllByRecursion HasWireBounds keys.records → length (binary_of keys) ≤ 2 ^ 43
unfolding binary_of
binary-bounded keys faultless all =
    omega (
      arith,
      length-append (written (uint32 1 keys.primary)) (written_all (map key_entry keys.records)),
      length-written (uint32 1 keys.primary),
      keys-bounded keys.records all,
      (well_formed-faultless keys faultless).most,
    )

text_bounds : (rs : List Record) → AllByRecursion HasWireBounds rs → AllByRecursion HasTextBounds (map key_info_of rs)
text_bounds [] all = tt
text_bounds (r ∷ rs) all = (record { id = all.0.id; utf8 = all.0.utf8 }, text_bounds rs all.1)

-- ---- a text in either form

outer-back : (json : Bool) (table : Table) (keys old : Keys) (random : List ℕ) (s : Sealed) → fault_of keys ≡ None → AllByRecursion HasWireBounds keys.records → (IsTrue json → SealsBytes keys old table random)
    → seal_answer old table (binary_of keys) [] random ≡ Some s → sealed_in json (wrapped_text json s.bytes (info_of keys)) ≡ Ok s.bytes
outer-back true table keys old random s faultless bounds bytes e =
    let info = info_of keys in
    let there = primary_same HasWireBounds keys faultless bounds in
    let small : keys.primary < 2 ^ 32 = omega (arith, there.1.id, there.2) in
    value_there (wrapped_json s.bytes info) (wrapped_value s.bytes info) (text_back s.bytes info small (text_bounds keys.records bounds))
    ∙ member_back s.bytes info (bytes refl s e)
outer-back false table keys old random s faultless bounds bytes e =
    let few = binary-bounded keys faultless bounds in
    let long = sealing-long table old (binary_of keys) [] random s e in
    let info = info-long keys in
    let most = (well_formed-faultless keys faultless).most in
    binary-back s.bytes (info_of keys) (omega (arith, few, long)) (omega (arith, few, info, most))

unwraps : (json : Bool) (table : Table) (new keys : Keys) (text sealed plain : List ℕ) → sealed_in json text ≡ Ok sealed → open_answer new table sealed [] ≡ Some plain → reads_binary plain ≡ Ok keys
    → unwrap_of new table text json ≡ Ok keys
unwraps json table new keys text sealed plain outer opened inner = rw (outer, opened, inner) refl

pub wrap_back : BinaryBack → SameKeyOpens → WrapBack
wrap_back back opens json table keys old new r prefix random wrapped primary is gives has faultless bounds bytes e =
    let made = map_some (wrapped_with json (info_of keys)) (seal_answer old table (binary_of keys) [] random) wrapped e in
    let s : Sealed = made.0 in
    let text : wrapped_text json s.bytes (info_of keys) ≡ wrapped.text = ap (λ (w : Wrapped). w.text) made.2 in
    unwraps json table new keys wrapped.text s.bytes (binary_of keys)
    (ap (sealed_in json) (sym text) ∙ outer-back json table keys old random s faultless bounds bytes made.1)
    (opens table old new r prefix (binary_of keys) [] random s primary is gives has made.1)
    (back keys faultless bounds)
