-- What wrapping says of the entropy, and what a text is made of.
use Rattle.std.proofs.Common.{◌≡◌, ◌∙◌, inl, inr, refl, sym, ap, subst, ℕ, ◌+◌, ◌≤◌, Bool, List, [], ◌∷◌, ◌++◌, length, map, Option, Some, None, arith}
use Rattle.std.specs.Option.{option_and_then, option_map}
use Rattle.std.proofs.lemmas.List.{length-append, length-drop}
use Rattle.std.proofs.lemmas.Option.{same_Some}
use Rattle.base64.specs.GeneralPurpose.{IsBytes}
use Rattle.key_msgs.specs.declared.primitive.Primitive.TheVariants.{Aead}
use Rattle.key_msgs.specs.declared.key.KeyKind.{KeyKind}
use Rattle.keyset_model.specs.Keyset.{Keys, primary_of}
use Rattle.keyset_model.specs.Writing.{binary_of}
use Rattle.keyset_model.specs.declared.record.Record.{Record}
use Rattle.managers.specs.Table.{Table}
use Rattle.managers.specs.Uses.{iv_size}
use Rattle.tink_spec.specs.Outside.{Drew, EntropyState, Stood}
use Rattle.wrapped_prims.proofs.HandleLemmas.{has_primary, key-primary}
use Rattle.wrapped_prims.specs.Answers.{Sealed, primary_key, seal_answer, seal_behind, seal_under}
use Rattle.wrapped_prims.specs.Candidates.{prefix_bytes, prefix_of}
use Rattle.wrapped_prims.specs.Fitness.{key_of_record}
use Rattle.wrapped_prims.specs.Making.{IsOver}
use Rattle.wrapped_prims.specs.Sealing.{IsSealing}
use Rattle.wrapped_prims.specs.declared.held.Held.{Held}
use Rattle.seal_wrap.specs.Info.{info_of, key_info_of, without_key}
use Rattle.seal_wrap.specs.Laws.{TextHidesKeys}
use Rattle.seal_wrap.specs.Wrapped.{Wrapped, wrapped_text, wrapped_with}
use Rattle.seal_wrap.specs.Wrapping.{IsWrapFault, IsWrapping}
use Rattle.seal_wrap.specs.declared.encrypted.wrapping.WrapFault.TheVariants as wraps
use Rattle.seal_wrap.proofs.SealedSizes.{sealed_behind, sealing-long, then_some}

-- ---- the entropy

none_left : (left : Option (List ℕ)) → left ≡ option_map (λ rest. [] ++ rest) left
none_left None = refl
none_left (Some rest) = refl

-- an entropy that wasn't asked gave nothing
nothing_drawn : (state : EntropyState) → Drew state state []
nothing_drawn state = record { left = none_left state.left; faults = omega arith; steady = refl }

-- memory was wanting before the entropy was asked
pub wanting_before : (table : Table) (master : Keys) (held : Held) (state : EntropyState) → IsOver table Aead master held → IsWrapFault master table state state wraps.NoMemory
wanting_before table master held state over =
    let there = has_primary table Aead master held over in
    record {
      key = there.kept.key;
      primary = key-primary table Aead master there.kept there.primary;
      entropy = (refl, inl (nothing_drawn state));
    }

-- the primary key under which something was sealed, whose IV was drawn
pub record HasSealed (table : Table) (master : Keys) (drawn : List ℕ) : Type 0 where
  pub key : KeyKind
  pub primary : primary_key master table Aead ≡ Some key
  pub whole : length drawn ≡ iv_size key

pub has_sealed : (table : Table) (master : Keys) (plain ad : List ℕ) (old new : EntropyState) (sealed : List ℕ) → (is : IsSealing master table plain ad old new sealed) → HasSealed table master is.drawn
has_sealed table master plain ad old new sealed is =
    let random : List ℕ = is.drawn ++ [] in
    let s : Sealed = record { bytes = sealed; left = [] } in
    let first = then_some (seal_under table plain ad random) (primary_of master) s (is.answer []) in
    let r = first.0 in
    let second = then_some (seal_behind (prefix_bytes (prefix_of r)) plain ad random) (key_of_record table Aead r) s first.2 in
    let key = second.0 in
    let sealing = sealed_behind (prefix_bytes (prefix_of r)) plain ad random key s second.2 in
    record {
      key = key;
      primary = ap (option_and_then (key_of_record table Aead)) first.1 ∙ second.1;
      whole = omega (arith, sealing.enough, ap length sealing.left, length-drop (iv_size key) random, length-append is.drawn []);
    }

-- memory was wanting behind it
pub wanting_behind : (table : Table) (master : Keys) (plain ad : List ℕ) (old new : EntropyState) (sealed : List ℕ) → IsSealing master table plain ad old new sealed → Stood old.faults new.faults
    → IsWrapFault master table old new wraps.NoMemory
wanting_behind table master plain ad old new sealed is stood =
    let has = has_sealed table master plain ad old new sealed is in
    record {
      key = has.key;
      primary = has.primary;
      entropy = (stood, inr (record { drawn = is.drawn; drew = is.drew; whole = has.whole }));
    }

-- the sealing is short
pub sealing-bound : (table : Table) (master : Keys) (plain ad : List ℕ) (old new : EntropyState) (sealed : List ℕ) → IsSealing master table plain ad old new sealed → length sealed ≤ length plain + 85
sealing-bound table master plain ad old new sealed is = sealing-long table master plain ad (is.drawn ++ []) (record { bytes = sealed; left = [] }) (is.answer [])

-- that of a short message too
pub sealing-short : (table : Table) (master : Keys) (shown plain ad : List ℕ) (old new : EntropyState) (sealed : List ℕ) → IsSealing master table shown ad old new sealed → shown ≡ plain → length plain ≤ 1000 → length sealed ≤ 1085
sealing-short table master shown plain ad old new sealed is same most =
    omega (arith, ap length same, sealing-bound table master shown ad old new sealed is)

-- the text of a sealing
pub wrapping : (table : Table) (keys master : Keys) (json : Bool) (old new : EntropyState) (plain sealed text : List ℕ) → plain ≡ binary_of keys → IsSealing master table plain [] old new sealed → IsBytes sealed
    → text ≡ wrapped_text json sealed (info_of keys) → IsWrapping keys master table json old new text
wrapping table keys master json old new plain sealed text whole is bytes made = record {
  drawn = is.drawn;
  drew = is.drew;
  answer = λ more. ap (option_map (wrapped_with json (info_of keys))) (answer more) ∙ ap (λ (t : List ℕ). Some (record { text = t; left = more })) (sym made);
  bytes = λ more s e. subst IsBytes (ap (λ (x : Sealed). x.bytes) (same_Some _ _ (sym (answer more) ∙ e))) bytes;
}
  where
    answer : (more : List ℕ) → seal_answer master table (binary_of keys) [] (is.drawn ++ more) ≡ Some (record { bytes = sealed; left = more })
    answer more = ap (λ (p : List ℕ). seal_answer master table p [] (is.drawn ++ more)) (sym whole) ∙ is.answer more

-- ---- the text hides keys

pub map_some : {A B : Type 0} (f : A → B) (o : Option A) (b : B) → option_map f o ≡ Some b → (a : A) × (o ≡ Some a) × (f a ≡ b)
map_some f None b e = cc
map_some f (Some a) b e = (a, refl, same_Some _ _ e)

same_info : (rs : List Record) → map key_info_of rs ≡ map key_info_of (map without_key rs)
same_info [] = refl
same_info (r ∷ rs) = ap (λ (l : List _). key_info_of r ∷ l) (same_info rs)

pub text_hides_keys : TextHidesKeys
text_hides_keys json table keys master random wrapped e =
    let made = map_some (wrapped_with json (info_of keys)) (seal_answer master table (binary_of keys) [] random) wrapped e in
    let sealed : Sealed = made.0 in (
      sealed,
      made.1,
      sym (ap (λ (w : Wrapped). w.left) made.2),
      sym (ap (λ (w : Wrapped). w.text) made.2)
          ∙ ap (λ (l : List _). wrapped_text json sealed.bytes (record { primary = keys.primary; keys = l })) (same_info keys.records),
    )
