-- How long what is sealed is.
use Rattle.std.proofs.Common.{◌≡◌, ◌∙◌, refl, sym, ap, ℕ, ◌+◌, ◌≤◌, Bool, true, false, cond, ltb, List, ◌∷◌, ◌++◌, length, take, drop, Option, Some, None, Ok, Err, Result, arith}
use Rattle.std.specs.Int.{to_be_bytes, w32}
use Rattle.std.specs.Option.{option_and_then, option_map}
use Rattle.std.proofs.lemmas.Bool.{ltb-false}
use Rattle.std.proofs.lemmas.List.{length-append, length-take-le}
use Rattle.std.proofs.lemmas.Option.{same_Some}
use Rattle.key_msgs.specs.Keys.{IsValid}
use Rattle.key_msgs.specs.declared.key.KeyKind.{KeyKind}
use Rattle.key_msgs.specs.declared.primitive.Primitive.{Primitive}
use Rattle.key_msgs.specs.declared.primitive.Primitive.TheVariants.{Aead, Daead}
use Rattle.key_msgs.specs.declared.rule.Rule.{Rule}
use Rattle.keyset_model.specs.Keyset.{Keys, primary_of}
use Rattle.keyset_model.specs.declared.record.Record.{Record}
use Rattle.managers.proofs.ReadingLemmas.{read_of_type}
use Rattle.managers.proofs.SizeLemmas.{dseal_facts, iv-short, seal_facts}
use Rattle.managers.specs.Schemes.{Scheme, key_under, type_under}
use Rattle.managers.specs.Table.{Table, scheme_at}
use Rattle.managers.specs.Uses.{dseal_of, iv_size, seal_of}
use Rattle.wrapped_prims.specs.Answers.{Sealed, dseal_answer, made_by, seal_answer, seal_behind, seal_under}
use Rattle.wrapped_prims.specs.Candidates.{first_byte, is_raw, prefix_bytes, prefix_of}
use Rattle.wrapped_prims.specs.Fitness.{key_of_record, read_key}

-- what is there, behind a step
pub then_some : {A B : Type 0} (f : A → Option B) (o : Option A) (b : B) → option_and_then f o ≡ Some b → (a : A) × (o ≡ Some a) × (f a ≡ Some b)
then_some f None b e = cc
then_some f (Some a) b e = (a, refl, e)

-- ---- a record's key is valid

read-valid : (scheme : Option Scheme) (value : List ℕ) (key : KeyKind) → read_key (option_map (λ s. key_under s value) scheme) ≡ Some key → IsValid key
read-valid None value key e = cc
read-valid (Some scheme) value key e = by (key_under scheme value) refl e
  where
    by : (read : Result KeyKind Rule) → key_under scheme value ≡ read → read_key (Some read) ≡ Some key → IsValid key
    by (Ok k) is same = (read_of_type (type_under scheme) value key (is ∙ ap Ok (same_Some _ _ same))).1
    by (Err rule) is same = cc

pub key-valid : (table : Table) (p : Primitive) (r : Record) (key : KeyKind) → key_of_record table p r ≡ Some key → IsValid key
key-valid table p r key e = read-valid (scheme_at table p r.url) r.value key e

-- ---- a sealing is at most 85 bytes longer

length-prefix : (r : Record) → length (prefix_bytes (prefix_of r)) ≤ 5
length-prefix r = by (is_raw r)
  where
    by : (b : Bool) → length (prefix_bytes (cond b None (Some (first_byte r ∷ to_be_bytes w32 r.id)))) ≤ 5
    by true = omega arith
    by false = omega arith

-- what a sealing under a key is made of
pub record IsSealed (key : KeyKind) (prefix plain ad random : List ℕ) (s : Sealed) : Type 0 where
  pub enough : iv_size key ≤ length random
  pub bytes : s.bytes ≡ prefix ++ seal_of key (take (iv_size key) random) plain ad
  pub left : s.left ≡ drop (iv_size key) random

pub sealed_behind : (prefix plain ad random : List ℕ) (key : KeyKind) (s : Sealed) → seal_behind prefix plain ad random key ≡ Some s → IsSealed key prefix plain ad random s
sealed_behind prefix plain ad random key s e = by (ltb (length random) (iv_size key)) refl e
  where
    by : (b : Bool) → ltb (length random) (iv_size key) ≡ b
        → cond b None (Some (record { bytes = prefix ++ seal_of key (take (iv_size key) random) plain ad; left = drop (iv_size key) random })) ≡ Some s
        → IsSealed key prefix plain ad random s
    by true t k = cc
    by false t k = let is = same_Some _ _ (sym k) in record {
      enough = ltb-false _ _ t;
      bytes = ap (λ x. x.bytes) is;
      left = ap (λ x. x.left) is;
    }

-- a sealing has at most 85 bytes more than the plaintext: a prefix, an IV and a tag
pub sealing-long : (table : Table) (keys : Keys) (plain ad random : List ℕ) (s : Sealed) → seal_answer keys table plain ad random ≡ Some s → length s.bytes ≤ length plain + 85
sealing-long table keys plain ad random s e =
    let first = then_some (seal_under table plain ad random) (primary_of keys) s e in
    let r = first.0 in
    let second = then_some (seal_behind (prefix_bytes (prefix_of r)) plain ad random) (key_of_record table Aead r) s first.2 in
    let key = second.0 in
    let sealing = sealed_behind (prefix_bytes (prefix_of r)) plain ad random key s second.2 in
    let iv : List ℕ = take (iv_size key) random in
    omega (
      arith,
      ap length sealing.bytes,
      length-append (prefix_bytes (prefix_of r)) (seal_of key iv plain ad),
      (seal_facts key).long iv plain ad,
      length-take-le (iv_size key) random sealing.enough,
      iv-short key (key-valid table Aead r key second.1),
      length-prefix r,
    )

-- ---- without an IV

dsealed_under : (table : Table) (r : Record) (plain ad bytes : List ℕ) (key : Option KeyKind) → option_map (λ key. prefix_bytes (prefix_of r) ++ dseal_of key plain ad) key ≡ Some bytes
    → length bytes ≤ length plain + 21
dsealed_under table r plain ad bytes None e = cc
dsealed_under table r plain ad bytes (Some key) e =
    omega (
      arith,
      ap length (same_Some _ _ e),
      length-append (prefix_bytes (prefix_of r)) (dseal_of key plain ad),
      (dseal_facts key).long plain ad,
      length-prefix r,
    )

pub dsealing-long : (table : Table) (keys : Keys) (plain ad bytes : List ℕ) → dseal_answer keys table plain ad ≡ Some bytes → length bytes ≤ length plain + 21
dsealing-long table keys plain ad bytes e =
    let first = then_some (made_by table Daead (λ key r. dseal_of key plain ad)) (primary_of keys) bytes e in
    dsealed_under table first.0 plain ad bytes (key_of_record table Daead first.0) first.2
