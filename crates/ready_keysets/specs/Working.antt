-- What a piece of work is of a keyset, and what a call says of it.
--
--   primitive_of   the primitive whose keys do it
--   IsWithin, IsTooLong   no input has more bytes than can be taken, or one has
--   answer         the bytes that the keyset answers under the standard table, or none
--   lack_of        what it is called that there is none
--   IsReady        keys are held of a keyset, each checked by its manager
--   IsOutcome      what a call says of the answer
--   IsUnfit        why a keyset isn't ready
use Rattle.std.specs.Prelude.{◌≡◌, ◌≢◌, ◌<◌, ◌≤◌, ◌^◌, ◌⊎◌, ℕ, Bool, true, false, List, [], length, take, drop, Option, Some, None, Result, Ok, Err, IsSome}
use Rattle.std.specs.Option.{option_map}
use Rattle.key_msgs.specs.declared.primitive.Primitive.{Primitive}
use Rattle.key_msgs.specs.declared.primitive.Primitive.TheVariants.{Aead, Daead, Mac, Prf}
use Rattle.keyset_model.specs.Keyset.{Keys}
use Rattle.managers.specs.Standard.{standard_table}
use Rattle.wrapped_prims.specs.Answers.{Sealed, derive_answer, dopen_answer, dseal_answer, open_answer, seal_answer, tag_answer, verify_answer}
use Rattle.wrapped_prims.specs.Fitness.{unfit}
use Rattle.wrapped_prims.specs.Making.{IsOver}
use Rattle.ready_keysets.specs.declared.ready.ReadyKeyset.{ReadyKeyset}
use Rattle.ready_keysets.specs.declared.refusal.Refusal.{Refusal}
use Rattle.ready_keysets.specs.declared.refusal.Refusal.TheVariants as refusals
use Rattle.ready_keysets.specs.declared.work.Work.{Work}
use Rattle.ready_keysets.specs.declared.work.Work.TheVariants as works

abbrev pub primitive_of : Work → Primitive
primitive_of (works.Seal plain ad random) = Aead
primitive_of (works.Open sealed ad) = Aead
primitive_of (works.Dseal plain ad) = Daead
primitive_of (works.Dopen sealed ad) = Daead
primitive_of (works.Tag body) = Mac
primitive_of (works.Verify tag body) = Mac
primitive_of (works.Derive input size) = Prf

-- ---- bounds

-- one of the two has more than 2^30 bytes, or both have at most as many
abbrev pub IsLong : List ℕ → List ℕ → Type 0
IsLong first second = (2 ^ 30 < length first) ⊎ (2 ^ 30 < length second)

abbrev pub AreShort : List ℕ → List ℕ → Type 0
AreShort first second = (length first ≤ 2 ^ 30) × (length second ≤ 2 ^ 30)

-- a tag and the random bytes have no bound
abbrev pub IsTooLong : Work → Type 0
IsTooLong (works.Seal plain ad random) = IsLong plain.now ad.now
IsTooLong (works.Open sealed ad) = IsLong sealed.now ad.now
IsTooLong (works.Dseal plain ad) = IsLong plain.now ad.now
IsTooLong (works.Dopen sealed ad) = IsLong sealed.now ad.now
IsTooLong (works.Tag body) = 2 ^ 30 < length body.now
IsTooLong (works.Verify tag body) = 2 ^ 30 < length body.now
IsTooLong (works.Derive input size) = 2 ^ 30 < length input.now

abbrev pub IsWithin : Work → Type 0
IsWithin (works.Seal plain ad random) = AreShort plain.now ad.now
IsWithin (works.Open sealed ad) = AreShort sealed.now ad.now
IsWithin (works.Dseal plain ad) = AreShort plain.now ad.now
IsWithin (works.Dopen sealed ad) = AreShort sealed.now ad.now
IsWithin (works.Tag body) = length body.now ≤ 2 ^ 30
IsWithin (works.Verify tag body) = length body.now ≤ 2 ^ 30
IsWithin (works.Derive input size) = length input.now ≤ 2 ^ 30

-- ---- answers

-- no bytes, where a tag is one of its body
abbrev pub verified : Bool → Option (List ℕ)
verified true = Some []
verified false = None

-- the bytes, where there are as many
abbrev pub derived : Option (Result (List ℕ) ℕ) → Option (List ℕ)
derived (Some (Ok bytes)) = Some bytes
derived (Some (Err greatest)) = None
derived None = None

-- the bytes that a keyset answers under the standard table of managers, or none
abbrev pub answer : Keys → Work → Option (List ℕ)
answer keys (works.Seal plain ad random) =
    option_map (λ (s : Sealed). s.bytes) (seal_answer keys standard_table plain.now ad.now random.now)
answer keys (works.Open sealed ad) = open_answer keys standard_table sealed.now ad.now
answer keys (works.Dseal plain ad) = dseal_answer keys standard_table plain.now ad.now
answer keys (works.Dopen sealed ad) = dopen_answer keys standard_table sealed.now ad.now
answer keys (works.Tag body) = tag_answer keys standard_table body.now
answer keys (works.Verify tag body) = verified (verify_answer keys standard_table tag.now body.now)
answer keys (works.Derive input size) = derived (derive_answer keys standard_table input.now size)

-- ---- ready keysets, and calls

-- the keys of the keyset are held, each of which its manager has checked
abbrev pub IsReady : ReadyKeyset → Type 0
IsReady r = IsOver standard_table r.keys.primitive r.keyset r.keys.held

-- there are bytes, and more of them than the room
abbrev pub NeedsMore : Option (List ℕ) → ℕ → Type 0
NeedsMore None room = ⊥
NeedsMore (Some bytes) room = room < length bytes

-- the answer stands at the front of the output, and behind it nothing has changed
pub record IsWritten (found : Option (List ℕ)) (old new : List ℕ) (size : ℕ) : Type 0 where
  pub front : found ≡ Some (take size new)
  pub rest : drop size new ≡ drop size old

-- what it is called that there is no answer. To sealing without an IV and to tagging there always is one.
abbrev pub lack_of : Work → Refusal
lack_of (works.Seal plain ad random) = refusals.FewRandomBytes
lack_of (works.Derive input size) = refusals.TooLong
lack_of _ = refusals.Refused

-- what is said of an answer to work within the bounds, by what the lack of one is called. Of want of
-- memory nothing is said.
abbrev pub IsAnswered : Refusal → Option (List ℕ) → (old new : List ℕ) → Result ℕ Refusal → Type 0
IsAnswered lack found old new (Ok size) = IsWritten found old new size
IsAnswered lack found old new (Err refusals.TooLong) = (found ≡ None) × (lack ≡ refusals.TooLong)
IsAnswered lack found old new (Err refusals.FewRandomBytes) =
    (found ≡ None) × (lack ≡ refusals.FewRandomBytes)
IsAnswered lack found old new (Err refusals.Refused) = (found ≡ None) × (lack ≡ refusals.Refused)
IsAnswered lack found old new (Err refusals.NoRoom) = NeedsMore found (length old)
IsAnswered lack found old new (Err refusals.NoMemory) = Unit {0}
IsAnswered lack found old new (Err _) = ⊥

-- what a call says, of keys for a primitive
abbrev pub IsOutcome : Primitive → Keys → Work → (old new : List ℕ) → Result ℕ Refusal → Type 0
IsOutcome primitive keys work old new (Ok size) =
    (primitive_of work ≡ primitive) × IsWritten (answer keys work) old new size
IsOutcome primitive keys work old new (Err refusals.OtherPrimitive) = primitive_of work ≢ primitive
IsOutcome primitive keys work old new (Err refusals.TooLong) =
    IsTooLong work ⊎ ((answer keys work ≡ None) × (lack_of work ≡ refusals.TooLong))
IsOutcome primitive keys work old new (Err refusal) =
    IsAnswered (lack_of work) (answer keys work) old new (Err refusal)

-- an ENABLED key can't serve for the primitive. Of want of memory nothing is said.
abbrev pub IsUnfit : Primitive → Keys → Refusal → Type 0
IsUnfit primitive keys refusals.UnfitKey = IsSome (unfit keys primitive standard_table)
IsUnfit primitive keys refusals.NoMemory = Unit {0}
IsUnfit primitive keys _ = ⊥
