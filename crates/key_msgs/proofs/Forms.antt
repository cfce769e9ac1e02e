-- The form of each type's message, by one line for each: all but AES-CTR-HMAC's have one key value.
use Rattle.std.proofs.Common.{◌≡◌, ◌⊎◌, inl, inr, refl, ℕ, nat_lt, nat_le, Bool, true, ◌&&◌, List}
use Rattle.std.proofs.lemmas.Bool.{and_parts, ltb-true}
use Rattle.tink_spec.specs.Wire.{WireField, greatest_number}
use Rattle.key_msgs.proofs.TableLemmas.{leb-le}
use Rattle.key_msgs.specs.Contents.{Contents}
use Rattle.key_msgs.specs.KeyTypes.{aes_ctr_fields, hmac_fields, layout_of}
use Rattle.key_msgs.specs.Reading.{contents_in, plain}
use Rattle.key_msgs.specs.Writing.{IsLayout, plain_written, written_by}
use Rattle.key_msgs.specs.declared.key_type.KeyType.{KeyType}
use Rattle.key_msgs.specs.declared.key_type.KeyType.TheVariants as types
use Rattle.key_msgs.specs.declared.layout.Layout.{Layout}

abbrev is_layout : Layout → Bool
is_layout l =
    nat_le l.params greatest_number && (nat_le l.iv_size greatest_number && (nat_le l.segment greatest_number
    && (nat_le l.derived greatest_number && (nat_le l.hash greatest_number && (nat_le l.tag_size greatest_number
    && (nat_le l.salt greatest_number && (nat_le l.hmac_params greatest_number && (nat_lt 0 l.key_value
    && nat_le l.key_value greatest_number))))))))

layout_true : (l : Layout) → is_layout l ≡ true → IsLayout l
layout_true l e =
    let a = and_parts _ _ e in
    let b = and_parts _ _ a.1 in
    let c = and_parts _ _ b.1 in
    let d = and_parts _ _ c.1 in
    let f = and_parts _ _ d.1 in
    let g = and_parts _ _ f.1 in
    let h = and_parts _ _ g.1 in
    let i = and_parts _ _ h.1 in
    let j = and_parts _ _ i.1 in
    record {
      params = leb-le _ _ a.0;
      iv_size = leb-le _ _ b.0;
      segment = leb-le _ _ c.0;
      derived = leb-le _ _ d.0;
      hash = leb-le _ _ f.0;
      tag_size = leb-le _ _ g.0;
      salt = leb-le _ _ h.0;
      hmac_params = leb-le _ _ i.0;
      least = ltb-true _ _ j.0;
      key_value = leb-le _ _ j.1;
    }

-- the type's message has one key value, and is written and read by its layout
pub record HasLayout (type : KeyType) : Type 0 where
  pub written : (m : Contents) → written_by type m ≡ plain_written (layout_of type) m
  pub read : (fields : List WireField) → contents_in type fields ≡ plain (layout_of type) fields
  pub laid : IsLayout (layout_of type)

one_key : (type : KeyType) → ((m : Contents) → written_by type m ≡ plain_written (layout_of type) m)
    → ((fields : List WireField) → contents_in type fields ≡ plain (layout_of type) fields) → is_layout (layout_of type) ≡ true
    → HasLayout type ⊎ (type ≡ types.AesCtrHmac)
one_key type written read laid = inl (record { written = written; read = read; laid = layout_true (layout_of type) laid })

pub form_of : (type : KeyType) → HasLayout type ⊎ (type ≡ types.AesCtrHmac)
form_of types.AesGcm = one_key types.AesGcm (λ m. refl) (λ fields. refl) refl
form_of types.AesEax = one_key types.AesEax (λ m. refl) (λ fields. refl) refl
form_of types.AesCtrHmac = inr refl
form_of types.AesSiv = one_key types.AesSiv (λ m. refl) (λ fields. refl) refl
form_of types.Hmac = one_key types.Hmac (λ m. refl) (λ fields. refl) refl
form_of types.AesCmac = one_key types.AesCmac (λ m. refl) (λ fields. refl) refl
form_of types.HkdfPrf = one_key types.HkdfPrf (λ m. refl) (λ fields. refl) refl
form_of types.HmacPrf = one_key types.HmacPrf (λ m. refl) (λ fields. refl) refl
form_of types.CmacPrf = one_key types.CmacPrf (λ m. refl) (λ fields. refl) refl
form_of types.GcmStream = one_key types.GcmStream (λ m. refl) (λ fields. refl) refl
form_of types.CtrStream = one_key types.CtrStream (λ m. refl) (λ fields. refl) refl
form_of types.AesGcmSiv = one_key types.AesGcmSiv (λ m. refl) (λ fields. refl) refl

-- the messages inside AES-CTR-HMAC's have layouts too
pub aes_laid : IsLayout aes_ctr_fields
aes_laid = layout_true aes_ctr_fields refl

pub hmac_laid : IsLayout hmac_fields
hmac_laid = layout_true hmac_fields refl
