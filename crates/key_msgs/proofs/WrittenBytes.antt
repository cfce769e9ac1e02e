-- The messages of keys, as they are written: of bytes they are bytes.
use Rattle.std.proofs.Common.{◌≡◌, inl, inr, refl, sym, subst, ℕ, zero, suc, ◌+◌, ◌*◌, ◌/◌, ◌%◌, ◌^◌, ◌<◌, ◌≤◌, ◌==◌, true, false, cond, nat_lt, List, [], ◌∷◌, ◌++◌, length, Contains, arith, lit≤, lit<}
use Rattle.std.specs.List.{AllByRecursion}
use Rattle.std.proofs.lemmas.Bool.{ltb-true}
use Rattle.proto_wire.specs.Written.{Entry, bytes_field, content, groups_of, message, number_field, tag_of, uint32, varint_of, written, written_all}
use Rattle.key_msgs.proofs.Forms.{form_of, hmac_laid, aes_laid}
use Rattle.key_msgs.proofs.Made.{is_made, made-within, made_are_numbers}
use Rattle.key_msgs.proofs.TableLemmas.{most_random}
use Rattle.key_msgs.proofs.WritingLemmas.{length-hmac, length-params, length-plain}
use Rattle.key_msgs.specs.Contents.{Contents}
use Rattle.key_msgs.specs.KeyTypes.{aes_ctr_fields, hmac_fields, layout_of}
use Rattle.key_msgs.specs.Keys.{contents_of, type_of}
use Rattle.key_msgs.specs.Templates.{Row, made, random_of, templates}
use Rattle.key_msgs.specs.Writing.{AreNumbers, IsLayout, ListsWithin, hmac_entries, if_field, mac_contents, params_entries, params_entry, plain_written, value_of, written_by}
use Rattle.key_msgs.specs.declared.key_type.KeyType.{KeyType}
use Rattle.key_msgs.specs.declared.key_type.KeyType.TheVariants as types
use Rattle.key_msgs.specs.declared.layout.Layout.{Layout}

-- ---- bytes

-- each is below 256
abbrev pub AreBytes : List ℕ → Type 0
AreBytes bytes = AllByRecursion (λ b. b < 256) bytes

pub each-append : {A : Type 0} (P : A → Type 0) (xs ys : List A) → AllByRecursion P xs → AllByRecursion P ys → AllByRecursion P (xs ++ ys)
each-append P [] ys front back = back
each-append P (x ∷ xs) ys front back = (front.0, each-append P xs ys front.1 back)

bytes-append : (xs ys : List ℕ) → AreBytes xs → AreBytes ys → AreBytes (xs ++ ys)
bytes-append = each-append (λ b. b < 256)

pub bytes-front : (xs ys : List ℕ) → AreBytes (xs ++ ys) → AreBytes xs
bytes-front [] ys all = tt
bytes-front (x ∷ xs) ys all = (all.0, bytes-front xs ys all.1)

pub bytes-behind : (xs ys : List ℕ) → AreBytes (xs ++ ys) → AreBytes ys
bytes-behind [] ys all = all
bytes-behind (x ∷ xs) ys all = bytes-behind xs ys all.1

-- ---- fields as they are written

-- below this number so many groups have a group behind them
abbrev bound : ℕ → ℕ
bound zero = 128
bound (suc more) = 128 * bound more

bytes-groups : (more value : ℕ) → value < bound more → AreBytes (groups_of more value)
unfolding groups_of
bytes-groups zero value below = (omega arith, tt)
bytes-groups (suc more) value below = elim (nat_lt value 128) as (λ b. nat_lt value 128 ≡ b → AreBytes (cond b (value ∷ []) ((128 + value % 128) ∷ groups_of more (value / 128)))) [
  | true ↦ λ t. let low = ltb-true _ _ t in (omega arith, tt)
  | false ↦ λ t. (omega arith, bytes-groups more (value / 128) (omega arith))
] refl

bytes-varint : (value : ℕ) → value < 2 ^ 64 → AreBytes (varint_of value)
bytes-varint value below = bytes-groups 9 value (omega arith)

bytes-number : (number value : ℕ) → number < 2 ^ 32 → value < 2 ^ 32 → AreBytes (number_field number value)
bytes-number number value n v = bytes-append (tag_of number 0) (varint_of value) (bytes-varint (number * 8 + 0) (omega arith)) (bytes-varint value (omega arith))

bytes-field : (number : ℕ) (of : List ℕ) → number < 2 ^ 32 → length of < 2 ^ 64 → AreBytes of → AreBytes (bytes_field number of)
bytes-field number of n short h = bytes-append (tag_of number 2) (varint_of (length of) ++ of) (bytes-varint (number * 8 + 2) (omega arith))
    (bytes-append (varint_of (length of)) of (bytes-varint (length of) (omega arith)) h)

-- an entry with numbers of 32 bits, and bytes, of which a length of 64 bits tells
abbrev pub IsPlain : Entry → Type 0
IsPlain (uint32 number value) = (number < 2 ^ 32) × (value < 2 ^ 32)
IsPlain (content number of) = (number < 2 ^ 32) × (length of < 2 ^ 64) × AreBytes of
IsPlain (message number payload) = (number < 2 ^ 32) × (length payload < 2 ^ 64) × AreBytes payload

bytes-written : (entry : Entry) → IsPlain entry → AreBytes (written entry)
bytes-written (uint32 number value) h = elim (value == 0) as (λ b. AreBytes (cond b [] (number_field number value))) [
  | true ↦ tt
  | false ↦ bytes-number number value h.0 h.1
]
bytes-written (content number of) h = elim (length of == 0) as (λ b. AreBytes (cond b [] (bytes_field number of))) [
  | true ↦ tt
  | false ↦ bytes-field number of h.0 h.1 h.2
]
bytes-written (message number payload) h = bytes-field number payload h.0 h.1 h.2

pub bytes-all : (entries : List Entry) → AllByRecursion IsPlain entries → AreBytes (written_all entries)
bytes-all [] h = tt
bytes-all (entry ∷ entries) h = bytes-append (written entry) (written_all entries) (bytes-written entry h.0) (bytes-all entries h.1)

-- ---- the messages of keys

-- contents whose numbers have 32 bits, and whose bytes are bytes, and not many
record IsWhole (m : Contents) : Type 0 where
  numbers : AreNumbers m
  lists : ListsWithin (2 ^ 30) m
  key : AreBytes m.key
  salt : AreBytes m.salt
  mac : AreBytes m.mac

if_field-plain : (number : ℕ) (entry : Entry) → IsPlain entry → AllByRecursion IsPlain (if_field number entry)
if_field-plain number entry is = elim (number == 0) as (λ b. AllByRecursion IsPlain (cond b [] (entry ∷ []))) [
  | true ↦ tt
  | false ↦ (is, tt)
]

params-plain : (layout : Layout) (m : Contents) → IsLayout layout → IsWhole m → AllByRecursion IsPlain (params_entries layout m)
params-plain layout m laid h =
    each-append IsPlain _ _ (if_field-plain layout.iv_size (uint32 layout.iv_size m.iv_size) (omega (arith, laid.iv_size), h.numbers.iv_size))
    (each-append IsPlain _ _ (if_field-plain layout.segment (uint32 layout.segment m.segment) (omega (arith, laid.segment), h.numbers.segment))
    (each-append IsPlain _ _ (if_field-plain layout.derived (uint32 layout.derived m.derived) (omega (arith, laid.derived), h.numbers.derived))
    (each-append IsPlain _ _ (if_field-plain layout.hash (uint32 layout.hash m.hash) (omega (arith, laid.hash), h.numbers.hash))
    (each-append IsPlain _ _ (if_field-plain layout.tag_size (uint32 layout.tag_size m.tag_size) (omega (arith, laid.tag_size), h.numbers.tag_size))
    (each-append IsPlain _ _ (if_field-plain layout.salt (content layout.salt m.salt) (omega (arith, laid.salt), omega (arith, h.lists.salt), h.salt))
    (if_field-plain layout.hmac_params (message layout.hmac_params (written_all (hmac_entries m)))
    (omega (arith, laid.hmac_params), omega (arith, length-hmac m), bytes-all (hmac_entries m) ((lit< tt, h.numbers.mac_hash), ((lit< tt, h.numbers.mac_tag_size), tt)))))))))

bytes-plain : (layout : Layout) (m : Contents) → IsLayout layout → IsWhole m → AreBytes (plain_written layout m)
unfolding plain_written
bytes-plain layout m laid h =
    let key : IsPlain (content layout.key_value m.key) = (omega (arith, laid.key_value), omega (arith, h.lists.key), h.key) in
    let params : AllByRecursion IsPlain (params_entry layout m) = if_field-plain layout.params (message layout.params (written_all (params_entries layout m)))
    (omega (arith, laid.params), omega (arith, length-params layout m, h.lists.salt), bytes-all (params_entries layout m) (params-plain layout m laid h)) in
    elim (nat_lt layout.key_value layout.params) as (λ b. AreBytes (written_all (cond b (content layout.key_value m.key ∷ params_entry layout m) (params_entry layout m ++ (content layout.key_value m.key ∷ []))))) [
      | true ↦ bytes-all (content layout.key_value m.key ∷ params_entry layout m) (key, params)
      | false ↦ bytes-all _ (each-append IsPlain (params_entry layout m) (content layout.key_value m.key ∷ []) params (key, tt))
    ]

-- so is the HMAC key beside a cipher
whole_mac : (m : Contents) → IsWhole m → IsWhole (mac_contents m)
whole_mac m h =
    let none : 0 < 2 ^ 32 = lit< tt in
    record {
      numbers = record { version = none; iv_size = none; segment = none; derived = none; hash = h.numbers.mac_hash; tag_size = h.numbers.mac_tag_size; mac_hash = none; mac_tag_size = none };
      lists = record { key = h.lists.mac; salt = lit≤ tt; mac = lit≤ tt };
      key = h.mac;
      salt = tt;
      mac = tt;
    }

bytes-ctr_hmac : (m : Contents) → IsWhole m → AreBytes (written_by types.AesCtrHmac m)
bytes-ctr_hmac m h =
    let mac = whole_mac m h in
    bytes-all (message 2 (plain_written aes_ctr_fields m) ∷ message 3 (plain_written hmac_fields (mac_contents m)) ∷ []) (
      (lit< tt, omega (arith, length-plain aes_ctr_fields m, h.lists.key, h.lists.salt), bytes-plain aes_ctr_fields m aes_laid h),
      ((lit< tt, omega (arith, length-plain hmac_fields (mac_contents m), mac.lists.key), bytes-plain hmac_fields (mac_contents m) hmac_laid mac), tt),
    )

bytes-of_type : (type : KeyType) (m : Contents) → IsWhole m → AreBytes (written_by type m)
bytes-of_type type m h = elim (form_of type) [
  | inl one ↦ subst AreBytes (sym (one.written m)) (bytes-plain (layout_of type) m one.laid h)
  | inr both ↦ subst (λ t. AreBytes (written_by t m)) (sym both) (bytes-ctr_hmac m h)
]

-- the message of a made key
pub bytes-made : (row : Row) (random : List ℕ) → Contains templates row → length random ≡ random_of row → AreBytes random → AreBytes (value_of (made row random))
bytes-made row random is size h =
    let m = contents_of (made row random) in
    let known = is_made row.recipe random in
    let material = subst AreBytes (sym known.material) h in
    bytes-of_type (type_of (made row random)) m (record {
      numbers = made_are_numbers row random is;
      lists = made-within (2 ^ 30) row.recipe random (omega (arith, most_random row is, size));
      key = bytes-front m.key m.mac material;
      salt = subst AreBytes (sym known.salt) tt;
      mac = bytes-behind m.key m.mac material;
    })
