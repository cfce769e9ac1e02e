-- What is written of several fields reads back: each field by its number.
use Rattle.std.proofs.Common.{◌≡◌, ◌∙◌, ap, refl, ℕ, ◌+◌, ◌^◌, ◌<◌, List, [], ◌∷◌, ◌++◌, length, arith, inl, inr, Ok, true, false}
use Rattle.std.specs.Prelude.{◌==◌, filter}
use Rattle.std.proofs.lemmas.Bool.Decides.{eqb_tells}
use Rattle.std.proofs.lemmas.List.{append-nil}
use Rattle.tink_spec.specs.Wire.{WireField, cut, cut_within}
use Rattle.tink_spec.specs.Messages.{is_varint, is_bytes, of_number, first_other, unless_at, last_number, last_bytes, number_in, bytes_in, embedded_all, merged}
use Rattle.proto_wire.specs.Written.{varint_of, Entry, uint32, content, message, tag_of, written, written_all, fields_of, fields_of_all, IsWritable}
use Rattle.proto_wire.proofs.Writing.{written-cut}

abbrev pub AreWritable : List Entry → Type 0
AreWritable [] = Unit {0}
AreWritable (entry ∷ entries) = IsWritable entry × AreWritable entries

cut-none : (at : ℕ) → cut at [] ≡ Ok []
unfolding cut_within
cut-none at = refl

pub cut-all : (at : ℕ) (entries : List Entry) → AreWritable entries → cut at (written_all entries) ≡ Ok (fields_of_all at entries)
cut-all at [] are = cut-none at
cut-all at (entry ∷ entries) are =
    let rest = cut-all (at + length (written entry)) entries are.1 in
    written-cut at entry (written_all entries) are.0 ∙ rw rest refl

-- the number of the field that is asked for
abbrev pub number_of : Entry → ℕ
number_of (uint32 number value) = number
number_of (content number of) = number
number_of (message number payload) = number

abbrev pub entries_of : ℕ → List Entry → List Entry
entries_of number entries = filter (λ entry. number_of entry == number) entries

-- these fields are those of these entries, each from some place on
abbrev Stand : List Entry → List WireField → Type 0
Stand [] fields = fields ≡ []
Stand (entry ∷ entries) fields = (place : ℕ) × (more : List WireField) × (fields ≡ fields_of place entry ++ more) × Stand entries more

passed : (n at : ℕ) (entry : Entry) (fields : List WireField) → (number_of entry == n) ≡ false → of_number n (fields_of at entry ++ fields) ≡ of_number n fields
passed n at (uint32 number value) fields other = elim (eqb_tells value 0) [
  | inl none ↦ rw none.0 refl
  | inr some ↦ rw (some.0, other) refl
]
passed n at (content number of) fields other = elim (eqb_tells (length of) 0) [
  | inl none ↦ rw none.0 refl
  | inr some ↦ rw (some.0, other) refl
]
passed n at (message number payload) fields other = rw other refl

taken : (n at : ℕ) (entry : Entry) (fields : List WireField) → (number_of entry == n) ≡ true → of_number n (fields_of at entry ++ fields) ≡ fields_of at entry ++ of_number n fields
taken n at (uint32 number value) fields same = elim (eqb_tells value 0) [
  | inl none ↦ rw none.0 refl
  | inr some ↦ rw (some.0, same) refl
]
taken n at (content number of) fields same = elim (eqb_tells (length of) 0) [
  | inl none ↦ rw none.0 refl
  | inr some ↦ rw (some.0, same) refl
]
taken n at (message number payload) fields same = rw same refl

stand : (n at : ℕ) (entries : List Entry) → Stand (entries_of n entries) (of_number n (fields_of_all at entries))
stand n at [] = refl
stand n at (entry ∷ entries) =
    let rest = stand n (at + length (written entry)) entries in
    let behind = fields_of_all (at + length (written entry)) entries in
    elim (eqb_tells (number_of entry) n) [
      | inl same ↦ rw same.0 (at, of_number n behind, taken n at entry behind same.0, rest)
      | inr other ↦ rw (other.0, passed n at entry behind other.0) rest
    ]

-- the number that these entries hold, at most one of them
abbrev pub IsNumber : List Entry → ℕ → Type 0
IsNumber [] value = 0 ≡ value
IsNumber (uint32 number given ∷ []) value = given ≡ value
IsNumber _ value = ⊥

-- the bytes
abbrev pub IsContent : List Entry → List ℕ → Type 0
IsContent [] of = [] ≡ of
IsContent (content number given ∷ []) of = given ≡ of
IsContent _ of = ⊥

-- the message with these fields
abbrev pub IsMessage : List Entry → List Entry → Type 0
IsMessage [] inner = [] ≡ inner
IsMessage (message number payload ∷ []) inner = payload ≡ written_all inner
IsMessage _ inner = ⊥

number_of-stand : (found : List Entry) (fields : List WireField) (value : ℕ) → Stand found fields → IsNumber found value → value < 2 ^ 32 → unless_at (first_other is_varint fields) (last_number fields) ≡ Ok value
number_of-stand [] fields value all is below = rw all (ap (λ (n : ℕ). Ok n) is)
number_of-stand (uint32 number given ∷ []) fields value all is below = rw (all.2, all.3) (elim (eqb_tells given 0) [
  | inl none ↦ rw none.0 (ap (λ (n : ℕ). Ok n) (omega (arith, none.1)))
  | inr some ↦ rw some.0 (ap (λ (n : ℕ). Ok n) (omega arith))
])
number_of-stand (uint32 number given ∷ entry ∷ more) fields value all is below = absurd is
number_of-stand (content number of ∷ more) fields value all is below = absurd is
number_of-stand (message number payload ∷ more) fields value all is below = absurd is

length-none : (l : List ℕ) → length l ≡ 0 → l ≡ []
length-none [] none = refl
length-none (b ∷ l) none = absurd (omega arith)

content_of-stand : (found : List Entry) (fields : List WireField) (of : List ℕ) → Stand found fields → IsContent found of → (start : ℕ) × (unless_at (first_other is_bytes fields) (last_bytes fields) ≡ Ok (start, of))
content_of-stand [] fields of all is = (0, rw (all, ← is) refl)
content_of-stand (content number given ∷ []) fields of all is = rw (all.2, all.3) (elim (eqb_tells (length given) 0) [
  | inl none ↦ rw (none.0, ← is, length-none given none.1) (0, refl)
  | inr some ↦ rw (some.0, ← is) (all.0 + length (tag_of number 2) + length (varint_of (length given)), refl)
])
content_of-stand (content number given ∷ entry ∷ more) fields of all is = absurd is
content_of-stand (uint32 number value ∷ more) fields of all is = absurd is
content_of-stand (message number payload ∷ more) fields of all is = absurd is

message_of-stand : (found : List Entry) (fields : List WireField) (inner : List Entry) → Stand found fields → IsMessage found inner → AreWritable inner → (start : ℕ) × (embedded_all fields ≡ Ok (fields_of_all start inner))
message_of-stand [] fields inner all is are = (0, rw (all, ← is) refl)
message_of-stand (message number payload ∷ []) fields inner all is are =
    let start = all.0 + length (tag_of number 2) + length (varint_of (length payload)) in
    let read : cut start payload ≡ Ok (fields_of_all start inner) = ap (λ (l : List ℕ). cut start l) is ∙ cut-all start inner are in
    (start, rw (all.2, all.3, read) (ap (λ (l : List WireField). Ok l) (append-nil (fields_of_all start inner))))
message_of-stand (message number payload ∷ entry ∷ more) fields inner all is are = absurd is
message_of-stand (uint32 number value ∷ more) fields inner all is are = absurd is
message_of-stand (content number of ∷ more) fields inner all is are = absurd is

pub number-back : (n at : ℕ) (entries : List Entry) (value : ℕ) → IsNumber (entries_of n entries) value → value < 2 ^ 32 → number_in n (fields_of_all at entries) ≡ Ok value
number-back n at entries value is below = number_of-stand (entries_of n entries) _ value (stand n at entries) is below

pub content-back : (n at : ℕ) (entries : List Entry) (of : List ℕ) → IsContent (entries_of n entries) of → (start : ℕ) × (bytes_in n (fields_of_all at entries) ≡ Ok (start, of))
content-back n at entries of is = content_of-stand (entries_of n entries) _ of (stand n at entries) is

pub message-back : (n at : ℕ) (entries inner : List Entry) → IsMessage (entries_of n entries) inner → AreWritable inner → (start : ℕ) × (merged n (fields_of_all at entries) ≡ Ok (fields_of_all start inner))
message-back n at entries inner is are = message_of-stand (entries_of n entries) _ inner (stand n at entries) is are
