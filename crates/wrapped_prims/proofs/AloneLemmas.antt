-- The key that is kept at a place is tried alone.
use Rattle.std.proofs.Common.{◌≡◌, ◌∙◌, ℕ, ◌+◌, ◌≤◌, refl, sym, subst, List, Option, Some, None, option_to_list, Bool, true, false, ◌||◌, cond, length, slice_get, arith}
use Rattle.std.specs.Option.{option_flatten, option_or}
use Rattle.std.specs.Prelude.{is_some}
use Rattle.std.specs.Str.{bytes_eq}
use Rattle.std.specs.declared.ops.Range.{Range}
use Rattle.std.proofs.lemmas.Option.{same_Some}
use Rattle.key_msgs.specs.declared.primitive.Primitive.{Primitive}
use Rattle.tink_spec.specs.InPlace.{OpensTo}
use Rattle.tink_spec.specs.Outside.{next}
use Rattle.wrapped_prims.specs.Answers.{opened_under}
use Rattle.wrapped_prims.specs.Held.{kept_in, open_with, tag_tries_with, tag_with, tries_with, verify_with}
use Rattle.wrapped_prims.specs.declared.held.Kept.{Kept}

-- what holds of each slot holds of the key that is kept here
pub each_here : {P : Option Kept → Type 0} (slots : List (Option Kept)) (place : ℕ) (kept : Kept)
    → ((i : ℕ) (slot : Option Kept) → slice_get slots i ≡ Some slot → P slot) → Some kept ≡ kept_in slots place → P (Some kept)
each_here {P} slots place kept each is = by (slice_get slots place) refl is
  where
    by : (slot : Option (Option Kept)) → slice_get slots place ≡ slot → Some kept ≡ option_flatten slot → P (Some kept)
    by None there is = absurd cc
    by (Some None) there is = absurd cc
    by (Some (Some other)) there is = subst (λ k. P (Some k)) (sym (same_Some kept other is)) (each place (Some other) there)

or_none : {X : Type 0} (x : Option X) → x ≡ option_or x None
or_none None = refl
or_none (Some x) = refl

alike : {X : Type 0} (b : Bool) (x : X) → x ≡ cond b x x
alike true x = refl
alike false x = refl

-- what is tried is the one key, if there is one
pub opened_here : (p : Primitive) (slots : List (Option Kept)) (place : ℕ) (kept : Kept) (old new ad : List ℕ) (found : Option (Range ℕ))
    → Some kept ≡ kept_in slots place → OpensTo (opened_under p old ad kept.key) old new found
    → OpensTo (open_with p old ad (option_to_list (kept_in slots place))) old new found
opened_here p slots place kept old new ad found is opens =
    subst (λ (k : Option Kept). OpensTo (open_with p old ad (option_to_list k)) old new found) is
    (subst (λ (plain : Option (List ℕ)). OpensTo plain old new found) (or_none (opened_under p old ad kept.key)) opens)

pub opened_nowhere : (p : Primitive) (slots : List (Option Kept)) (place : ℕ) (old ad : List ℕ)
    → None ≡ kept_in slots place → OpensTo (open_with p old ad (option_to_list (kept_in slots place))) old old None
opened_nowhere p slots place old ad is =
    subst (λ (k : Option Kept). OpensTo (open_with p old ad (option_to_list k)) old old None) is (refl, refl)

pub tries_here : (p : Primitive) (slots : List (Option Kept)) (place : ℕ) (kept : Kept) (part ad : List ℕ) (before now : ℕ)
    → Some kept ≡ kept_in slots place → now ≡ next before → now ≡ tries_with p part ad (option_to_list (kept_in slots place)) before
tries_here p slots place kept part ad before now is one =
    subst (λ (k : Option Kept). now ≡ tries_with p part ad (option_to_list k) before) is
    (one ∙ alike (is_some (opened_under p part ad kept.key)) (next before))

pub tries_nowhere : (p : Primitive) (slots : List (Option Kept)) (place : ℕ) (part ad : List ℕ) (count : ℕ)
    → None ≡ kept_in slots place → count ≡ tries_with p part ad (option_to_list (kept_in slots place)) count
tries_nowhere p slots place part ad count is =
    subst (λ (k : Option Kept). count ≡ tries_with p part ad (option_to_list k) count) is refl

pub few_here : (slots : List (Option Kept)) (place : ℕ) (kept : Kept) (before now : ℕ)
    → Some kept ≡ kept_in slots place → now ≡ next before → now ≤ before + length (option_to_list (kept_in slots place))
few_here slots place kept before now is one =
    subst (λ (k : Option Kept). now ≤ before + length (option_to_list k)) is (omega (arith, one))

pub few_nowhere : (slots : List (Option Kept)) (place count : ℕ) → count ≤ count + length (option_to_list (kept_in slots place))
few_nowhere slots place count = omega arith

pub verified_here : (slots : List (Option Kept)) (place : ℕ) (kept : Kept) (tag body : List ℕ) (result : Bool)
    → Some kept ≡ kept_in slots place → result ≡ bytes_eq tag (tag_with kept body) → result ≡ verify_with tag body (option_to_list (kept_in slots place))
verified_here slots place kept tag body result is holds =
    subst (λ (k : Option Kept). result ≡ verify_with tag body (option_to_list k)) is (holds ∙ or_false (bytes_eq tag (tag_with kept body)))
  where
    or_false : (b : Bool) → b ≡ b || false
    or_false true = refl
    or_false false = refl

pub verified_nowhere : (slots : List (Option Kept)) (place : ℕ) (tag body : List ℕ)
    → None ≡ kept_in slots place → false ≡ verify_with tag body (option_to_list (kept_in slots place))
verified_nowhere slots place tag body is =
    subst (λ (k : Option Kept). false ≡ verify_with tag body (option_to_list k)) is refl

pub tag_tries_here : (slots : List (Option Kept)) (place : ℕ) (kept : Kept) (tag body : List ℕ) (before now : ℕ)
    → Some kept ≡ kept_in slots place → now ≡ next before → now ≡ tag_tries_with tag body (option_to_list (kept_in slots place)) before
tag_tries_here slots place kept tag body before now is one =
    subst (λ (k : Option Kept). now ≡ tag_tries_with tag body (option_to_list k) before) is
    (one ∙ alike (bytes_eq tag (tag_with kept body)) (next before))

pub tag_tries_nowhere : (slots : List (Option Kept)) (place : ℕ) (tag body : List ℕ) (count : ℕ)
    → None ≡ kept_in slots place → count ≡ tag_tries_with tag body (option_to_list (kept_in slots place)) count
tag_tries_nowhere slots place tag body count is =
    subst (λ (k : Option Kept). count ≡ tag_tries_with tag body (option_to_list k) count) is refl
