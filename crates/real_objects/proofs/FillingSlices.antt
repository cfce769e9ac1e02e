-- A slice that is filled from a stream, part by part.
use Rattle.std.proofs.Common.{◌≡◌, ℕ, ◌+◌, ◌-◌, ◌≤◌, List, ◌++◌, Option, arith, length, take, slice_range, sym, ap, ◌∙◌, subst, le_refl, drop_at, length-take-le, Some, None, append_assoc, Result, Ok, Err, OnErr}
use Rattle.std.proofs.lemmas.List.{length-take, length-append}
use Rattle.std.proofs.lemmas.Slice.{take-put_mid_below}
use Rattle.std.specs.Io.KnownBytes.{Consumes, Keeps, prepend_known}
use Rattle.std.proofs.KnownBytes.{Consumes-trans, Consumes-kept}
use borrow.Rule.Slice.PartMut.{put_mid, post_of}
use lib.Seq.{take-add, take-append-le}
use Rattle.real_objects.specs.Device.{Skips}

take_split : (a b : ℕ) (old new : List ℕ) → a ≤ b → take a new ≡ take a old → take a old ++ slice_range new a b ≡ take b new
take_split a b old new h front =
    let same : a + (b - a) ≡ b = omega arith in
    ap (λ l. l ++ slice_range new a b) (sym front) ∙ sym (take-add a (b - a) new) ∙ ap (λ n. take n new) same

slice_range-put_mid : (a k n : ℕ) (xs ys : List ℕ) → a ≤ length xs → n ≤ length ys → slice_range (put_mid a k xs ys) a (a + n) ≡ take n ys
slice_range-put_mid a k n xs ys within fits =
    let same : (a + n) - a ≡ n = omega arith in
    let after = post_of a k xs in
    ap (take ((a + n) - a)) (drop_at (take a xs) (ys ++ after) a (length-take-le a xs within)) ∙ ap (λ m. take m (ys ++ after)) same ∙ take-append-le n ys after fits

-- a slice whose front was filled, with one read more behind it
pub filled_on : (a b c : Option (List ℕ)) (at room n : ℕ) (out part : List ℕ) → at ≤ length out → n ≤ length part → Consumes a b (take at out) → Consumes b c (take n part) → Consumes a c (take (at + n) (put_mid at room out part))
filled_on a b c at room n out part within fits before read =
    let read_is = slice_range-put_mid at room n out part within fits in
    let joined = take_split at (at + n) out (put_mid at room out part) (omega arith) (take-put_mid_below _ _ _ _ _ (le_refl _) within) in
    subst (Consumes a c) (ap (λ l. take at out ++ l) (sym read_is) ∙ joined) (Consumes-trans _ _ _ _ _ before read)

-- what is gone where the fill ends early
pub gone_so_far : (a b c : Option (List ℕ)) (at : ℕ) (out : List ℕ) → Consumes a b (take at out) → Keeps b c → Skips a c (length out)
gone_so_far a b c at out before kept = record {
  skipped = take at out;
  within = omega (arith, length-take at out);
  gone = Consumes-kept a b c (take at out) before kept;
}

pub gone_at_the_end : (a b c : Option (List ℕ)) (at n : ℕ) (out part : List ℕ) → n ≡ 0 → Consumes a b (take at out) → Consumes b c (take n part) → Skips a c (length out)
gone_at_the_end a b c at n out part none before read = record {
  skipped = take at out ++ take n part;
  within = omega (arith, none, length-append (take at out) (take n part), length-take at out, length-take n part);
  gone = Consumes-trans a b c (take at out) (take n part) before read;
}

-- what was held and handed out is gone from what is left
held_first : (a : Option (List ℕ)) (old new front : List ℕ) → old ≡ front ++ new → Consumes (prepend_known old a) (prepend_known new a) front
held_first None old new front is = tt
held_first (Some x) old new front is = ap (λ l. l ++ x) is ∙ append_assoc front new x

-- what is gone where the front of a slice was held, and its rest wasn't filled
pub gone_behind : {T E : Type 0} (result : Result T E) (a c : Option (List ℕ)) (old new : List ℕ) (n most : ℕ) (out : List ℕ) → n ≤ length out → n + most ≤ length out → old ≡ take n out ++ new → OnErr result (Skips (prepend_known new a) c most) → OnErr result (Skips (prepend_known old a) c (length out))
gone_behind (Ok _) a c old new n most out within room is gone = tt
gone_behind (Err _) a c old new n most out within room is gone = record {
  skipped = take n out ++ gone.skipped;
  within = omega (arith, room, length-append (take n out) gone.skipped, length-take-le n out within, gone.within);
  gone = Consumes-trans _ _ _ _ _ (held_first a old new (take n out) is) gone.gone;
}
