-- A valid key for streams has sound sizes.
use Rattle.std.proofs.Common.{◌≡◌, ◌≤◌, ◌⊎◌, ℕ, ◌+◌, Bool, true, false, refl, Option, Some, None, List, arith, inl, inr}
use Rattle.std.proofs.lemmas.Grind.{common_steps}
use Rattle.std.proofs.lemmas.Bool.{and_parts, ltb-true}
use Rattle.std.proofs.lemmas.Bool.Decides.{eqb_tells}
use Rattle.std.specs.Prelude.{not, ◌^◌, nat_lt, if◌then◌else◌}
use Rattle.tink_base.specs.Hash.{hash_size, hash_of_number}
use Rattle.tink_base.specs.declared.hash.Hash.{Hash}
use Rattle.tink_base.specs.declared.hash.Hash.TheVariants.{Sha1, Sha224, Sha256, Sha384, Sha512}
use Rattle.key_msgs.specs.Keys.{IsValid, contents_of, hash_number}
use Rattle.key_msgs.specs.Rules.{derived_fits, hash_fits, is_either, is_tag_of, is_within, key_fits, segment_fits, tag_fits}
use Rattle.key_msgs.specs.declared.key_type.KeyType.TheVariants as types
use Rattle.key_msgs.specs.declared.rule.Rule.{Rule}
use Rattle.key_msgs.specs.declared.rule.Rule.TheVariants as broken
use Rattle.key_msgs.specs.declared.key.KeyKind.TheVariants as kinds
use Rattle.segment_stream.specs.Segments.{IsSound}
use Rattle.segment_stream.specs.declared.key.SegmentScheme.TheVariants as schemes

past : (b : Bool) (rule : Rule) (rest : Option Rule) → (if not b then Some rule else rest) ≡ None
    → (b ≡ true) × (rest ≡ None)
past true rule rest none = (refl, none)
past false rule rest none = cc

within : (least most n : ℕ) → is_within least most n ≡ true → (least ≤ n) × (n ≤ most)
within least most n is = grind (arith, common_steps)

tag_within : (hash : Hash) (n : ℕ) → is_tag_of (hash_of_number (hash_number hash)) n ≡ true
    → (10 ≤ n) × (n ≤ hash_size hash)
tag_within Sha1 n is = within 10 20 n is
tag_within Sha224 n is = within 10 28 n is
tag_within Sha256 n is = within 10 32 n is
tag_within Sha384 n is = within 10 48 n is
tag_within Sha512 n is = within 10 64 n is

either : (n : ℕ) → is_either 16 32 n ≡ true → (n ≡ 16) ⊎ (n ≡ 32)
either n is = elim (eqb_tells n 16) [
  | inl one ↦ inl one.1
  | inr other ↦ elim (eqb_tells n 32) [
    | inl two ↦ inr two.1
    | inr neither ↦ let clash : false ≡ true = rw (other.0, neither.0) at is in absurd cc
  ]
]

pub gcm_stream-sound : (key : List ℕ) (segment derived : ℕ) (hash : Hash)
    → IsValid (kinds.GcmStream key segment derived hash)
    → IsSound (record { value = key; segment = segment; derived = derived; hash = hash; scheme = schemes.Gcm })
gcm_stream-sound key segment derived hash valid =
    let m = contents_of (kinds.GcmStream key segment derived hash) in
    let from_hash = (past (hash_fits types.GcmStream m) broken.Hash _ valid).1 in
    let from_key = (past (key_fits types.GcmStream m) broken.KeySize _ from_hash).1 in
    let size = past (derived_fits types.GcmStream m) broken.DerivedSize _ from_key in
    let whole = past (segment_fits types.GcmStream m) broken.Segment _ size.1 in
    let parts = and_parts (nat_lt (derived + 24) segment) (nat_lt segment (2 ^ 31)) whole.0 in
    let room = ltb-true (derived + 24) segment parts.0 in
    record {
      derived = either derived size.0;
      tag = tt;
      room = omega (arith, room);
      most = ltb-true segment (2 ^ 31) parts.1;
    }

pub ctr_stream-sound : (key : List ℕ) (segment derived : ℕ) (hash mac_hash : Hash) (tag_size : ℕ)
    → IsValid (kinds.CtrStream key segment derived hash mac_hash tag_size)
    → IsSound (record {
      value = key;
      segment = segment;
      derived = derived;
      hash = hash;
      scheme = schemes.CtrHmac mac_hash tag_size;
    })
ctr_stream-sound key segment derived hash mac_hash tag_size valid =
    let m = contents_of (kinds.CtrStream key segment derived hash mac_hash tag_size) in
    let from_hash = (past (hash_fits types.CtrStream m) broken.Hash _ valid).1 in
    let from_key = (past (key_fits types.CtrStream m) broken.KeySize _ from_hash).1 in
    let tag = past (tag_fits types.CtrStream m) broken.TagSize _ from_key in
    let size = past (derived_fits types.CtrStream m) broken.DerivedSize _ tag.1 in
    let whole = past (segment_fits types.CtrStream m) broken.Segment _ size.1 in
    let parts = and_parts (nat_lt (derived + 8 + tag_size) segment) (nat_lt segment (2 ^ 31)) whole.0 in
    record {
      derived = either derived size.0;
      tag = tag_within mac_hash tag_size tag.0;
      room = ltb-true (derived + 8 + tag_size) segment parts.0;
      most = ltb-true segment (2 ^ 31) parts.1;
    }
