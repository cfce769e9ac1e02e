-- What is opened is no longer than the bytes that it was opened from.
use Rattle.std.proofs.Common.{◌≡◌, ◌⊎◌, inl, inr, ℕ, ◌+◌, ◌≤◌, List, [], ◌∷◌, ◌++◌, length, take, drop, map, Option, Some, None, arith}
use Rattle.std.specs.List.{AllByRecursion}
use Rattle.std.specs.Option.{option_and_then, option_or}
use Rattle.std.proofs.lemmas.List.{length-drop}
use Rattle.key_msgs.specs.declared.key.KeyKind.{KeyKind}
use Rattle.key_msgs.specs.declared.primitive.Primitive.{Primitive}
use Rattle.key_msgs.specs.declared.primitive.Primitive.TheVariants.{Aead, Daead, Mac, Prf, Stream}
use Rattle.keyset_model.specs.Keyset.{Keys, first_some}
use Rattle.keyset_model.specs.declared.record.Record.{Record}
use Rattle.managers.proofs.SizeLemmas.{dseal_facts, seal_facts}
use Rattle.managers.specs.Table.{Table}
use Rattle.wrapped_prims.specs.Answers.{opened, opened_by, opened_under}
use Rattle.wrapped_prims.specs.Candidates.{candidates, each_with, enabled_with}
use Rattle.wrapped_prims.specs.Fitness.{key_of_record}

-- ---- under a key

under-short : (primitive : Primitive) (key : KeyKind) (bytes plain ad : List ℕ) → opened_under primitive bytes ad key ≡ Some plain → length plain ≤ length bytes
under-short Aead key bytes plain ad e = (seal_facts key).short bytes plain ad e
under-short Daead key bytes plain ad e = (dseal_facts key).short bytes plain ad e
under-short Mac key bytes plain ad e = cc
under-short Prf key bytes plain ad e = cc
under-short Stream key bytes plain ad e = cc

-- ---- under a keyset

-- a candidate's part has at most so many bytes
abbrev IsPart : ℕ → Record × List ℕ → Type 0
IsPart n candidate = length candidate.1 ≤ n

then_some : {A B : Type 0} (f : A → Option B) (o : Option A) (b : B) → option_and_then f o ≡ Some b → (a : A) × (f a ≡ Some b)
then_some f None b e = cc
then_some f (Some a) b e = (a, e)

candidate-short : (primitive : Primitive) (table : Table) (ad : List ℕ) (candidate : Record × List ℕ) (plain : List ℕ) → opened table primitive ad candidate ≡ Some plain → length plain ≤ length candidate.1
candidate-short primitive table ad candidate plain e =
    let under' = then_some (opened_under primitive candidate.1 ad) (key_of_record table primitive candidate.0) plain e in
    under-short primitive under'.0 candidate.1 plain ad under'.1

first_or : (o later : Option (List ℕ)) (plain : List ℕ) → option_or o later ≡ Some plain → (o ≡ Some plain) ⊎ (later ≡ Some plain)
first_or None later plain e = inr e
first_or (Some p) later plain e = inl e

first-short : (primitive : Primitive) (table : Table) (ad : List ℕ) (n : ℕ) (cs : List (Record × List ℕ)) (plain : List ℕ) → AllByRecursion (IsPart n) cs
    → first_some (map (opened table primitive ad) cs) ≡ Some plain → length plain ≤ n
unfolding first_some
first-short primitive table ad n [] plain all e = cc
first-short primitive table ad n (candidate ∷ cs) plain all e = elim (first_or (opened table primitive ad candidate) (first_some (map (opened table primitive ad) cs)) plain e) [
  | inl is ↦ omega (arith, all.0, candidate-short primitive table ad candidate plain is)
  | inr later ↦ first-short primitive table ad n cs plain all.1 later
]

each-part : (n : ℕ) (part : List ℕ) (rs : List Record) → length part ≤ n → AllByRecursion (IsPart n) (each_with part rs)
each-part n part [] few = tt
each-part n part (r ∷ rs) few = (few, each-part n part rs few)

both-parts : (n : ℕ) (cs ds : List (Record × List ℕ)) → AllByRecursion (IsPart n) cs → AllByRecursion (IsPart n) ds → AllByRecursion (IsPart n) (cs ++ ds)
both-parts n [] ds front back = back
both-parts n (c ∷ cs) ds front back = (front.0, both-parts n cs ds front.1 back)

pub opened-short : (primitive : Primitive) (table : Table) (keys : Keys) (bytes ad plain : List ℕ) → opened_by primitive keys table bytes ad ≡ Some plain → length plain ≤ length bytes
opened-short primitive table keys bytes ad plain e =
    first-short primitive table ad (length bytes) (candidates keys bytes) plain
    (both-parts (length bytes) (each_with (drop 5 bytes) (enabled_with (Some (take 5 bytes)) keys.records)) (each_with bytes (enabled_with None keys.records))
    (each-part (length bytes) (drop 5 bytes) (enabled_with (Some (take 5 bytes)) keys.records) (omega (arith, length-drop 5 bytes)))
    (each-part (length bytes) bytes (enabled_with None keys.records) (omega arith))) e
