-- What stands behind a prefix is opened in place.
use Rattle.std.proofs.Common.{◌≡◌, ◌∙◌, ℕ, ◌+◌, ◌-◌, ◌≤◌, sym, ap, subst, List, ◌++◌, Option, Some, length, take, drop, arith}
use Rattle.std.proofs.lemmas.List.{append-nil, drop_all, drop_min, length-append, length-drop, length-take, length-take-le, take_all}
use Rattle.std.specs.Prelude.{slice_range}
use Rattle.std.specs.declared.ops.Range.{Range}
use borrow.Rule.Slice.PartMut.{mid_of, put_mid}
use Rattle.key_msgs.specs.declared.primitive.Primitive.{Primitive}
use Rattle.tink_spec.proofs.InPlaceLemmas.{after_behind, before_behind, range_behind}
use Rattle.tink_spec.specs.InPlace.{OpensTo}
use Rattle.wrapped_prims.specs.Held.{kept_at, kept_under, open_with, places_at}
use Rattle.wrapped_prims.specs.declared.held.Held.{Held}
use Rattle.wrapped_prims.specs.declared.held.Kept.{Kept}

-- the keys at the places that were looked up
pub same_keys : (held : Held) (slots : List (Option Kept)) (places hint bytes : List ℕ) → slots ≡ held.slots.items → places ≡ places_at hint held.index.entries → hint ≡ take 5 bytes → kept_at slots places ≡ kept_under (take 5 bytes) held
same_keys held slots places hint bytes same found head =
    let under : places ≡ places_at (take 5 bytes) held.index.entries = found ∙ ap (λ h. places_at h held.index.entries) head in
    (λ j. kept_at (same j) (under j))

-- what those keys open behind the first five bytes, or behind all of fewer, stands so much further on
pub opened_behind : (p : Primitive) (kept all : List Kept) (bytes part ad : List ℕ) (size : ℕ) (range : Range ℕ) → kept ≡ all → size ≡ length (take 5 bytes)
    → OpensTo (open_with p (mid_of size (length bytes - size) bytes) ad kept) (mid_of size (length bytes - size) bytes) part (Some range)
    → OpensTo (open_with p (drop 5 bytes) ad all) bytes (put_mid size (length bytes - size) bytes part) (Some (record { start = size + range.start; end = size + range.end }))
opened_behind p kept all bytes part ad size range same is opens =
    let rest : ℕ = length bytes - size in
    let five = length-take 5 bytes in
    let left : length (drop size bytes) ≤ rest = omega (arith, length-drop size bytes) in
    let behind : mid_of size rest bytes ≡ drop 5 bytes = take_all rest (drop size bytes) left ∙ ap (λ n. drop n bytes) (is ∙ five) ∙ drop_min 5 bytes in
    let lent : mid_of size rest bytes ≡ drop size bytes = take_all rest (drop size bytes) left in
    let fits : size ≤ length bytes = omega (arith, is, five) in
    let new : put_mid size rest bytes part ≡ take size bytes ++ part =
    ap (λ l. take size bytes ++ (part ++ l)) (drop_all rest (drop size bytes) left) ∙ ap (λ l. take size bytes ++ l) (append-nil part) in
    let front : length (take size bytes) ≡ size = length-take-le size bytes (omega (arith, is, five)) in
    let whole = length-append (take size bytes) part in
    let moved : slice_range (take size bytes ++ part) (size + range.start) (size + range.end) ≡ slice_range part range.start range.end =
    subst (λ (n : ℕ). slice_range (take size bytes ++ part) (n + range.start) (n + range.end) ≡ slice_range part range.start range.end) front
    (range_behind (take size bytes) part range.start range.end) in
    let plain : open_with p (mid_of size rest bytes) ad kept ≡ open_with p (drop 5 bytes) ad all = (λ j. open_with p (behind j) ad (same j)) in
    subst (λ (l : List ℕ). OpensTo (open_with p (drop 5 bytes) ad all) bytes l (Some (record { start = size + range.start; end = size + range.end }))) (sym new) (
      omega (arith, opens.0),
      omega (arith, opens.1, front, whole),
      sym plain ∙ opens.2 ∙ ap Some (sym moved),
      before_behind size range.start bytes part fits (opens.3 ∙ ap (take range.start) lent),
      after_behind size range.end bytes part fits (opens.4 ∙ ap (drop range.end) lent),
    )
