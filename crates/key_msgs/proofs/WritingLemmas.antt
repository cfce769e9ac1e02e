-- What is written of a key, and how long it is.
use Rattle.std.proofs.Common.{◌≡◌, ◌∙◌, ap, sym, refl, ℕ, suc, ◌+◌, ◌<◌, ◌≤◌, List, [], ◌∷◌, ◌++◌, length, arith, inl, inr}
use Rattle.std.proofs.lemmas.Bool.Decides.{leb_tells, eqb_tells}
use Rattle.std.proofs.lemmas.List.{append_assoc, append-nil, length-append}
use Rattle.proto_wire.specs.Written.{Entry, uint32, content, message, written, written_all}
use Rattle.proto_wire.proofs.Writing.{written_all-append, size_of, length-written}
use Rattle.key_msgs.specs.declared.layout.Layout.{Layout}
use Rattle.key_msgs.specs.Contents.{Contents}
use Rattle.key_msgs.specs.KeyTypes.{aes_ctr_fields}
use Rattle.key_msgs.specs.Writing.{if_field, hmac_entries, params_entries, params_entry, plain_written}

pub length-if_field : (number : ℕ) (entry : Entry) → length (written_all (if_field number entry)) ≤ 20 + size_of entry
length-if_field number entry = elim (eqb_tells number 0) [
  | inl none ↦ rw none.0 (omega arith)
  | inr some ↦ rw (some.0, append-nil) (length-written entry)
]

pub length-hmac : (m : Contents) → length (written_all (hmac_entries m)) ≤ 40
length-hmac m = omega (arith, length-append (written (uint32 1 m.mac_hash)) (written (uint32 2 m.mac_tag_size) ++ []), length-append (written (uint32 2 m.mac_tag_size)) [], length-written (uint32 1 m.mac_hash), length-written (uint32 2 m.mac_tag_size))

length-both : (front more : List Entry) → length (written_all (front ++ more)) ≡ length (written_all front) + length (written_all more)
length-both front more = ap length (written_all-append front more) ∙ length-append (written_all front) (written_all more)

pub length-params : (layout : Layout) (m : Contents) → length (written_all (params_entries layout m)) ≤ 180 + length m.salt
length-params layout m =
    let iv = if_field layout.iv_size (uint32 layout.iv_size m.iv_size) in
    let segment = if_field layout.segment (uint32 layout.segment m.segment) in
    let derived = if_field layout.derived (uint32 layout.derived m.derived) in
    let hash = if_field layout.hash (uint32 layout.hash m.hash) in
    let tag = if_field layout.tag_size (uint32 layout.tag_size m.tag_size) in
    let salt = if_field layout.salt (content layout.salt m.salt) in
    let hmac = if_field layout.hmac_params (message layout.hmac_params (written_all (hmac_entries m))) in
    omega (
      arith,
      length-both iv (segment ++ (derived ++ (hash ++ (tag ++ (salt ++ hmac))))),
      length-both segment (derived ++ (hash ++ (tag ++ (salt ++ hmac)))),
      length-both derived (hash ++ (tag ++ (salt ++ hmac))),
      length-both hash (tag ++ (salt ++ hmac)),
      length-both tag (salt ++ hmac),
      length-both salt hmac,
      length-if_field layout.iv_size (uint32 layout.iv_size m.iv_size),
      length-if_field layout.segment (uint32 layout.segment m.segment),
      length-if_field layout.derived (uint32 layout.derived m.derived),
      length-if_field layout.hash (uint32 layout.hash m.hash),
      length-if_field layout.tag_size (uint32 layout.tag_size m.tag_size),
      length-if_field layout.salt (content layout.salt m.salt),
      length-if_field layout.hmac_params (message layout.hmac_params (written_all (hmac_entries m))),
      length-hmac m,
    )

-- params and the key value, in either order
pub params-behind : (layout : Layout) (m : Contents) → layout.key_value < layout.params → plain_written layout m ≡ written (content layout.key_value m.key) ++ written_all (params_entry layout m)
unfolding plain_written
params-behind layout m before = elim (leb_tells (suc layout.key_value) layout.params) [
  | inl is ↦ rw is.0 refl
  | inr other ↦ absurd (omega (arith, other.1))
]

pub params-before : (layout : Layout) (m : Contents) → layout.params ≤ layout.key_value → plain_written layout m ≡ written_all (params_entry layout m) ++ written (content layout.key_value m.key)
unfolding plain_written
params-before layout m before = elim (leb_tells (suc layout.key_value) layout.params) [
  | inl is ↦ absurd (omega (arith, is.1))
  | inr other ↦ rw other.0 (written_all-append (params_entry layout m) (content layout.key_value m.key ∷ []) ∙ ap (λ (l : List ℕ). written_all (params_entry layout m) ++ l) (append-nil (written (content layout.key_value m.key))))
]

pub length-plain : (layout : Layout) (m : Contents) → length (plain_written layout m) ≤ 240 + length m.salt + length m.key
length-plain layout m =
    let payload = written_all (params_entries layout m) in
    elim (leb_tells (suc layout.key_value) layout.params) [
      | inl is ↦ omega (arith, ap length (params-behind layout m (omega (arith, is.1))), length-append (written (content layout.key_value m.key)) (written_all (params_entry layout m)), length-if_field layout.params (message layout.params payload), length-written (content layout.key_value m.key), length-params layout m)
      | inr other ↦ omega (arith, ap length (params-before layout m (omega (arith, other.1))), length-append (written_all (params_entry layout m)) (written (content layout.key_value m.key)), length-if_field layout.params (message layout.params payload), length-written (content layout.key_value m.key), length-params layout m)
    ]

-- an AES-CTR key has no salt, whatever the contents have
pub length-aes : (m : Contents) → length (plain_written aes_ctr_fields m) ≤ 240 + length m.key
unfolding plain_written
length-aes m =
    let without : length (plain_written aes_ctr_fields m) ≤ 240 + 0 + length m.key = length-plain aes_ctr_fields (record m { salt = [] }) in
    omega (arith, without)

-- ---- what a writer has in the end

-- the entries of params with those of hmac_params
abbrev params_with : Layout → Contents → List Entry → List Entry
params_with layout m hmac =
    if_field layout.iv_size (uint32 layout.iv_size m.iv_size)
    ++ (if_field layout.segment (uint32 layout.segment m.segment)
    ++ (if_field layout.derived (uint32 layout.derived m.derived)
    ++ (if_field layout.hash (uint32 layout.hash m.hash)
    ++ (if_field layout.tag_size (uint32 layout.tag_size m.tag_size)
    ++ (if_field layout.salt (content layout.salt m.salt)
    ++ if_field layout.hmac_params (message layout.hmac_params (written_all hmac)))))))

onto : (v w all : List ℕ) (front more : List Entry) → w ≡ v ++ written_all front → all ≡ w ++ written_all more → all ≡ v ++ written_all (front ++ more)
onto v w all front more first last =
    last ∙ ap (λ (l : List ℕ). l ++ written_all more) first ∙ append_assoc v (written_all front) (written_all more)
    ∙ ap (λ (l : List ℕ). v ++ l) (sym (written_all-append front more))

-- of contents that are seen as m
pub params-are : (layout : Layout) (v m : Contents) → v ≡ m → (payload w0 w1 w2 w3 w4 w5 w6 w7 : List ℕ) → payload ≡ written_all (hmac_entries m) → w0 ≡ []
    → w1 ≡ w0 ++ written_all (if_field layout.iv_size (uint32 layout.iv_size v.iv_size))
    → w2 ≡ w1 ++ written_all (if_field layout.segment (uint32 layout.segment v.segment))
    → w3 ≡ w2 ++ written_all (if_field layout.derived (uint32 layout.derived v.derived))
    → w4 ≡ w3 ++ written_all (if_field layout.hash (uint32 layout.hash v.hash))
    → w5 ≡ w4 ++ written_all (if_field layout.tag_size (uint32 layout.tag_size v.tag_size))
    → w6 ≡ w5 ++ written_all (if_field layout.salt (content layout.salt v.salt))
    → w7 ≡ w6 ++ written_all (if_field layout.hmac_params (message layout.hmac_params payload))
    → w7 ≡ written_all (params_entries layout m)
params-are layout v m seen payload w0 w1 w2 w3 w4 w5 w6 w7 is none p1 p2 p3 p4 p5 p6 p7 =
    let hmac = if_field layout.hmac_params (message layout.hmac_params (written_all (hmac_entries m))) in
    let salt = if_field layout.salt (content layout.salt v.salt) in
    let tag = if_field layout.tag_size (uint32 layout.tag_size v.tag_size) in
    let hash = if_field layout.hash (uint32 layout.hash v.hash) in
    let derived = if_field layout.derived (uint32 layout.derived v.derived) in
    let segment = if_field layout.segment (uint32 layout.segment v.segment) in
    let iv = if_field layout.iv_size (uint32 layout.iv_size v.iv_size) in
    let last : w7 ≡ w6 ++ written_all hmac = p7 ∙ ap (λ (l : List ℕ). w6 ++ written_all (if_field layout.hmac_params (message layout.hmac_params l))) is in
    let e6 : w7 ≡ w5 ++ written_all (salt ++ hmac) = onto w5 w6 w7 salt hmac p6 last in
    let e5 : w7 ≡ w4 ++ written_all (tag ++ (salt ++ hmac)) = onto w4 w5 w7 tag (salt ++ hmac) p5 e6 in
    let e4 : w7 ≡ w3 ++ written_all (hash ++ (tag ++ (salt ++ hmac))) = onto w3 w4 w7 hash (tag ++ (salt ++ hmac)) p4 e5 in
    let e3 : w7 ≡ w2 ++ written_all (derived ++ (hash ++ (tag ++ (salt ++ hmac)))) = onto w2 w3 w7 derived (hash ++ (tag ++ (salt ++ hmac))) p3 e4 in
    let e2 : w7 ≡ w1 ++ written_all (segment ++ (derived ++ (hash ++ (tag ++ (salt ++ hmac))))) = onto w1 w2 w7 segment (derived ++ (hash ++ (tag ++ (salt ++ hmac)))) p2 e3 in
    let all = iv ++ (segment ++ (derived ++ (hash ++ (tag ++ (salt ++ hmac))))) in
    onto w0 w1 w7 iv (segment ++ (derived ++ (hash ++ (tag ++ (salt ++ hmac))))) p1 e2
    ∙ ap (λ (l : List ℕ). l ++ written_all all) none
    ∙ ap (λ (u : Contents). written_all (params_with layout u (hmac_entries m))) seen

pub behind-is : (layout : Layout) (v m : Contents) → v ≡ m → (payload w0 w1 w2 : List ℕ) → layout.key_value < layout.params → payload ≡ written_all (params_entries layout m) → w0 ≡ []
    → w1 ≡ w0 ++ written (content layout.key_value v.key) → w2 ≡ w1 ++ written_all (if_field layout.params (message layout.params payload))
    → w2 ≡ plain_written layout m
behind-is layout v m seen payload w0 w1 w2 order is none p1 p2 =
    p2 ∙ ap (λ (l : List ℕ). w1 ++ written_all (if_field layout.params (message layout.params l))) is
    ∙ ap (λ (l : List ℕ). l ++ written_all (params_entry layout m)) (p1 ∙ ap (λ (l : List ℕ). l ++ written (content layout.key_value v.key)) none ∙ ap (λ (u : Contents). written (content layout.key_value u.key)) seen)
    ∙ sym (params-behind layout m order)

pub before-is : (layout : Layout) (v m : Contents) → v ≡ m → (payload w0 w1 w2 : List ℕ) → layout.params ≤ layout.key_value → payload ≡ written_all (params_entries layout m) → w0 ≡ []
    → w1 ≡ w0 ++ written_all (if_field layout.params (message layout.params payload)) → w2 ≡ w1 ++ written (content layout.key_value v.key)
    → w2 ≡ plain_written layout m
before-is layout v m seen payload w0 w1 w2 order is none p1 p2 =
    let first : w1 ≡ written_all (params_entry layout m) =
    p1 ∙ ap (λ (l : List ℕ). w0 ++ written_all (if_field layout.params (message layout.params l))) is ∙ ap (λ (l : List ℕ). l ++ written_all (params_entry layout m)) none in
    p2 ∙ ap (λ (l : List ℕ). l ++ written (content layout.key_value v.key)) first ∙ ap (λ (u : Contents). written_all (params_entry layout m) ++ written (content layout.key_value u.key)) seen ∙ sym (params-before layout m order)
