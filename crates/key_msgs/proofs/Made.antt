-- What the keys of templates are known by, by one line for each recipe.
use Rattle.std.proofs.Common.{◌≡◌, ◌∙◌, ℕ, ◌+◌, ◌≤◌, ◌^◌, nat_lt, Bool, true, ◌&&◌, List, [], ◌++◌, length, Contains, ap, arith, refl}
use Rattle.std.proofs.lemmas.Bool.{and_parts, ltb-true}
use Rattle.std.proofs.lemmas.List.{append-nil, length-append, take-append-drop}
use Rattle.key_msgs.proofs.TableLemmas.{each_row}
use Rattle.key_msgs.specs.declared.template.Recipe.{Recipe}
use Rattle.key_msgs.specs.declared.template.Recipe.TheVariants.{Gcm, Eax, CtrHmac, Siv, Hmac, Cmac, HkdfPrf, HmacPrf, CmacPrf, GcmStream, CtrStream, GcmSiv}
use Rattle.key_msgs.specs.Contents.{Contents}
use Rattle.key_msgs.specs.Keys.{contents_of, type_of}
use Rattle.key_msgs.specs.Templates.{Row, made, made_by, templates}
use Rattle.key_msgs.specs.Writing.{AreNumbers, ListsWithin}

-- contents without the bytes of keys
abbrev pub without_keys : Contents → Contents
without_keys m = record m { key = []; mac = [] }

-- The random bytes are the key's, cut in two where it has an HMAC key too. Nothing else depends on them.
pub record IsMade (recipe : Recipe) (random : List ℕ) : Type 0 where
  pub type : type_of (made_by recipe random) ≡ type_of (made_by recipe [])
  pub others : without_keys (contents_of (made_by recipe random)) ≡ without_keys (contents_of (made_by recipe []))
  pub salt : (contents_of (made_by recipe random)).salt ≡ []
  pub material : (contents_of (made_by recipe random)).key ++ (contents_of (made_by recipe random)).mac ≡ random

pub is_made : (recipe : Recipe) (random : List ℕ) → IsMade recipe random
is_made (Gcm size) random = record { type = refl; others = refl; salt = refl; material = append-nil random }
is_made (Eax size) random = record { type = refl; others = refl; salt = refl; material = append-nil random }
is_made (CtrHmac size tag) random = record { type = refl; others = refl; salt = refl; material = take-append-drop size random }
is_made Siv random = record { type = refl; others = refl; salt = refl; material = append-nil random }
is_made (Hmac size hash tag) random = record { type = refl; others = refl; salt = refl; material = append-nil random }
is_made Cmac random = record { type = refl; others = refl; salt = refl; material = append-nil random }
is_made HkdfPrf random = record { type = refl; others = refl; salt = refl; material = append-nil random }
is_made (HmacPrf size hash) random = record { type = refl; others = refl; salt = refl; material = append-nil random }
is_made CmacPrf random = record { type = refl; others = refl; salt = refl; material = append-nil random }
is_made (GcmStream size segment) random = record { type = refl; others = refl; salt = refl; material = append-nil random }
is_made (CtrStream size segment) random = record { type = refl; others = refl; salt = refl; material = append-nil random }
is_made (GcmSiv size) random = record { type = refl; others = refl; salt = refl; material = append-nil random }

-- ---- its lists

-- as many bytes as its material
pub length-material : (recipe : Recipe) (random : List ℕ)
    → length (contents_of (made_by recipe random)).key + length (contents_of (made_by recipe random)).mac ≡ length random
length-material recipe random =
    let m = contents_of (made_by recipe random) in omega (arith, length-append m.key m.mac, ap length (is_made recipe random).material)

-- a made key has no more bytes than its material
pub made-within : (size : ℕ) (recipe : Recipe) (random : List ℕ) → length random ≤ size → ListsWithin size (contents_of (made_by recipe random))
made-within size recipe random most =
    let all = length-material recipe random in
    record { key = omega (arith, all, most); salt = omega (arith, ap length (is_made recipe random).salt); mac = omega (arith, all, most) }

-- ---- its numbers

abbrev are_numbers : Contents → Bool
are_numbers m =
    nat_lt m.version (2 ^ 32) && (nat_lt m.iv_size (2 ^ 32) && (nat_lt m.segment (2 ^ 32) && (nat_lt m.derived (2 ^ 32)
    && (nat_lt m.hash (2 ^ 32) && (nat_lt m.tag_size (2 ^ 32) && (nat_lt m.mac_hash (2 ^ 32) && nat_lt m.mac_tag_size (2 ^ 32)))))))

numbers_true : (m : Contents) → are_numbers m ≡ true → AreNumbers m
numbers_true m e =
    let a = and_parts _ _ e in
    let b = and_parts _ _ a.1 in
    let c = and_parts _ _ b.1 in
    let d = and_parts _ _ c.1 in
    let f = and_parts _ _ d.1 in
    let g = and_parts _ _ f.1 in
    let h = and_parts _ _ g.1 in
    record {
      version = ltb-true _ _ a.0;
      iv_size = ltb-true _ _ b.0;
      segment = ltb-true _ _ c.0;
      derived = ltb-true _ _ d.0;
      hash = ltb-true _ _ f.0;
      tag_size = ltb-true _ _ g.0;
      mac_hash = ltb-true _ _ h.0;
      mac_tag_size = ltb-true _ _ h.1;
    }

pub made_are_numbers : (row : Row) (random : List ℕ) → Contains templates row → AreNumbers (contents_of (made row random))
made_are_numbers row random is =
    numbers_true _ (ap are_numbers (is_made row.recipe random).others ∙ each_row (λ x. are_numbers (contents_of (made x []))) refl row is)
