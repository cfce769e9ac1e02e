-- What is sealed of bytes are bytes: a key that is read of bytes has bytes, and so on.
use Rattle.std.proofs.Common.{◌≡◌, ◌∙◌, ap, refl, sym, subst, ℕ, zero, suc, ◌<◌, ◌==◌, Bool, true, false, cond, List, [], ◌∷◌, ◌++◌, take, Option, Some, None, Ok, Err, Result, arith}
use Rattle.std.specs.Prelude.{find}
use Rattle.std.specs.Int.{to_be_bytes, w32}
use Rattle.std.specs.List.{AllByRecursion}
use Rattle.std.specs.Option.{option_map}
use Rattle.std.proofs.lemmas.List.Elements.{All-from_recursion, All-take, recursion_from_All}
use Rattle.std.proofs.lemmas.Option.{same_Some}
use Rattle.base64.specs.GeneralPurpose.{IsBytes}
use Rattle.key_msgs.proofs.ReadBytes.{IsOfBytes, message-bytes}
use Rattle.key_msgs.proofs.WrittenBytes.{each-append}
use Rattle.key_msgs.specs.declared.key.KeyKind.{KeyKind}
use Rattle.key_msgs.specs.declared.primitive.Primitive.TheVariants.{Aead}
use Rattle.key_msgs.specs.declared.rule.Rule.{Rule}
use Rattle.keyset_model.specs.Keyset.{is_primary, primary_of}
use Rattle.keyset_model.specs.declared.record.Record.{Record}
use Rattle.managers.proofs.SizeLemmas.{Bytes, SealBytes, seal_facts}
use Rattle.managers.specs.Schemes.{Scheme, key_under, type_under}
use Rattle.managers.specs.Table.{scheme_at}
use Rattle.managers.specs.Uses.{iv_size, seal_of}
use Rattle.wrapped_prims.specs.Answers.{seal_behind, seal_under}
use Rattle.wrapped_prims.specs.Candidates.{first_byte, is_raw, prefix_bytes, prefix_of}
use Rattle.wrapped_prims.specs.Fitness.{key_of_record, read_key}
use Rattle.seal_wrap.specs.Sealings.{AreBytes, SealingsAreBytes}
use Rattle.seal_wrap.proofs.SealedSizes.{key-valid, sealed_behind, then_some}

-- ---- lists

by_place : (xs : List ℕ) → AreBytes xs → IsBytes xs
by_place [] all i = omega arith
by_place (x ∷ xs) all zero = all.0
by_place (x ∷ xs) all (suc i) = by_place xs all.1 i

found_here : {A : Type 0} (P : A → Type 0) (b : Bool) (x y : A) (later : Option A) → P x → (later ≡ Some y → P y) → cond b (Some x) later ≡ Some y → P y
found_here P true x y later here there is = subst P (same_Some _ _ is) here
found_here P false x y later here there is = there is

found : {A : Type 0} (P : A → Type 0) (test : A → Bool) (xs : List A) (y : A) → AllByRecursion P xs → find test xs ≡ Some y → P y
found P test [] y all is = cc
found P test (x ∷ xs) y all is = found_here P (test x) x y (find test xs) all.0 (found P test xs y all.1) is

-- ---- keys

read-bytes : (scheme : Option Scheme) (value : List ℕ) (key : KeyKind) → AreBytes value → read_key (option_map (λ s. key_under s value) scheme) ≡ Some key → IsOfBytes key
read-bytes None value key all e = cc
read-bytes (Some scheme) value key all e = by (key_under scheme value) refl e
  where
    by : (read : Result KeyKind Rule) → key_under scheme value ≡ read → read_key (Some read) ≡ Some key → IsOfBytes key
    by (Ok k) is same = message-bytes (type_under scheme) value key all (is ∙ ap Ok (same_Some _ _ same))
    by (Err rule) is same = cc

-- ---- sealings

bytes-prefix : (r : Record) → AreBytes (prefix_bytes (prefix_of r))
bytes-prefix r = by (is_raw r)
  where
    first : (b : Bool) → cond b 1 0 < 256
    first true = omega arith
    first false = omega arith

    by : (b : Bool) → AreBytes (prefix_bytes (cond b None (Some (first_byte r ∷ to_be_bytes w32 r.id))))
    by true = tt
    by false = (first (r.prefix == 1), (omega arith, (omega arith, (omega arith, (omega arith, tt)))))

pub sealings_are_bytes : SealBytes → SealingsAreBytes
sealings_are_bytes laws table keys plain ad random s values text drawn e =
    let first = then_some (seal_under table plain ad random) (primary_of keys) s e in
    let r = first.0 in
    let second = then_some (seal_behind (prefix_bytes (prefix_of r)) plain ad random) (key_of_record table Aead r) s first.2 in
    let key = second.0 in
    let sealing = sealed_behind (prefix_bytes (prefix_of r)) plain ad random key s second.2 in
    let iv : List ℕ = take (iv_size key) random in
    let value = found (λ (r : Record). AreBytes r.value) (is_primary keys.primary) keys.records r values first.1 in
    let from = All-from_recursion (λ b. b < 256) in
    let body : Bytes (seal_of key iv plain ad) = (seal_facts key).bytes laws iv plain ad (key-valid table Aead r key second.1)
    (from _ (read-bytes (scheme_at table Aead r.url) r.value key value second.1))
    (All-take (λ b. b < 256) (iv_size key) random (from random drawn)) (from plain text) in
    let whole : AreBytes (prefix_bytes (prefix_of r) ++ seal_of key iv plain ad) = each-append (λ b. b < 256) (prefix_bytes (prefix_of r)) (seal_of key iv plain ad) (bytes-prefix r) (recursion_from_All (λ b. b < 256) _ body) in
    by_place s.bytes (subst AreBytes (sym sealing.bytes) whole)
