-- What a keyset answers under a table of managers, apart from how it is found. An answer that rests
-- on a key is none where the record has no key under the table.
--
--   primary_key     the key of the primary record
--   seal_answer     the sealing of a plaintext, with the first random bytes as IV
--   open_answer     the plaintext of the first candidate that opens
--   dseal_answer, dopen_answer   the same two, deterministic
--   tag_answer      the tag of a body
--   verify_answer   some candidate's part is its tag of the body
--   derive_answer   bytes of the primary's pseudo-random function
--   tried           a count of trials, after some candidates were tried
--   open_trials, verify_trials   after bytes were opened, or a tag was verified
use Rattle.std.specs.Prelude.{ℕ, Bool, false, List, [], ◌∷◌, ◌++◌, map, length, take, drop, nat_lt, Option, Some, None, is_some, Result, Ok, Err, if◌then◌else◌}
use Rattle.std.specs.List.{list_any}
use Rattle.std.specs.Option.{option_and_then, option_map}
use Rattle.std.specs.Str.{bytes_eq}
use Rattle.tink_spec.specs.Outside.{next}
use Rattle.key_msgs.specs.declared.key.KeyKind.{KeyKind}
use Rattle.key_msgs.specs.declared.primitive.Primitive.{Primitive}
use Rattle.key_msgs.specs.declared.primitive.Primitive.TheVariants.{Aead, Daead, Mac, Prf}
use Rattle.keyset_model.specs.Keyset.{Keys, primary_of, first_some}
use Rattle.keyset_model.specs.declared.record.Record.{Record}
use Rattle.managers.specs.Table.{Table}
use Rattle.managers.specs.Uses.{dopen_key, dseal_of, greatest, iv_size, open_key, prf_of, seal_of, tag_of, tagged}
use Rattle.wrapped_prims.specs.Candidates.{candidates, is_legacy, prefix_bytes, prefix_of}
use Rattle.wrapped_prims.specs.Fitness.{key_of_record}

-- ---- under the primary record

-- the key of the primary record
abbrev pub primary_key : Keys → Table → Primitive → Option KeyKind
primary_key keys table primitive =
    option_and_then (key_of_record table primitive) (primary_of keys)

-- some bytes that a record makes with its key, behind its prefix
abbrev pub made_by : Table → Primitive → (KeyKind → Record → List ℕ) → Record → Option (List ℕ)
made_by table primitive make r =
    option_map (λ key. prefix_bytes (prefix_of r) ++ make key r) (key_of_record table primitive r)

-- the same of the primary record
abbrev pub made : Keys → Table → Primitive → (KeyKind → Record → List ℕ) → Option (List ℕ)
made keys table primitive make =
    option_and_then (made_by table primitive make) (primary_of keys)

-- a sealing, and the random bytes that are left
pub record Sealed : Type 0 where
  pub bytes : List ℕ
  pub left : List ℕ

-- under a key and behind these bytes, with the first random bytes; none where they are too few
abbrev pub seal_behind : List ℕ → List ℕ → List ℕ → List ℕ → KeyKind → Option Sealed
seal_behind prefix plain ad random key =
    if nat_lt (length random) (iv_size key) then None
    else Some (record {
      bytes = prefix ++ seal_of key (take (iv_size key) random) plain ad;
      left = drop (iv_size key) random;
    })

-- under a record, behind its prefix
abbrev pub seal_under : Table → List ℕ → List ℕ → List ℕ → Record → Option Sealed
seal_under table plain ad random r =
    option_and_then (seal_behind (prefix_bytes (prefix_of r)) plain ad random)
    (key_of_record table Aead r)

-- prefix, IV, ciphertext and tag
abbrev pub seal_answer : Keys → Table → (plain ad random : List ℕ) → Option Sealed
seal_answer keys table plain ad random =
    option_and_then (seal_under table plain ad random) (primary_of keys)

-- prefix, tag and ciphertext
abbrev pub dseal_answer : Keys → Table → (plain ad : List ℕ) → Option (List ℕ)
dseal_answer keys table plain ad = made keys table Daead (λ key _. dseal_of key plain ad)

-- prefix and tag; LEGACY keys tag the body and one byte 0
abbrev pub tag_answer : Keys → Table → (body : List ℕ) → Option (List ℕ)
tag_answer keys table body = made keys table Mac (λ key r. tag_of key (tagged (is_legacy r) body))

-- that many bytes, or how many there can be at the most
abbrev pub derive_under : List ℕ → ℕ → KeyKind → Result (List ℕ) ℕ
derive_under input size key =
    if nat_lt (greatest key) size then Err (greatest key) else Ok (prf_of key input size)

-- under the primary's key
abbrev pub derive_answer : Keys → Table → (input : List ℕ) → (size : ℕ) → Option (Result (List ℕ) ℕ)
derive_answer keys table input size =
    option_map (derive_under input size) (primary_key keys table Prf)

-- ---- over the candidates

-- what a key opens bytes to, by the primitive
abbrev pub opened_under : Primitive → List ℕ → List ℕ → KeyKind → Option (List ℕ)
opened_under Aead part ad key = open_key key part ad
opened_under Daead part ad key = dopen_key key part ad
opened_under _ part ad key = None

-- what a candidate opens its part to, or none
abbrev pub opened : Table → Primitive → List ℕ → Record × List ℕ → Option (List ℕ)
opened table primitive ad candidate =
    option_and_then (opened_under primitive candidate.1 ad)
    (key_of_record table primitive candidate.0)

-- the plaintext of the first candidate that opens
abbrev pub opened_by : Primitive → Keys → Table → (bytes ad : List ℕ) → Option (List ℕ)
opened_by primitive keys table bytes ad =
    first_some (map (opened table primitive ad) (candidates keys bytes))

-- that of sealed bytes, with their associated data
abbrev pub open_answer : Keys → Table → (bytes ad : List ℕ) → Option (List ℕ)
open_answer keys table bytes ad = opened_by Aead keys table bytes ad

-- that of bytes that were sealed without an IV
abbrev pub dopen_answer : Keys → Table → (bytes ad : List ℕ) → Option (List ℕ)
dopen_answer keys table bytes ad = opened_by Daead keys table bytes ad

-- these bytes are the whole tag of the body under the key, where there is one
abbrev pub is_tag_under : Option KeyKind → Bool → (tag body : List ℕ) → Bool
is_tag_under None zero tag body = false
is_tag_under (Some key) zero tag body = bytes_eq tag (tag_of key (tagged zero body))

-- a candidate's part is its tag of the body
abbrev pub is_tag_of : Table → List ℕ → Record × List ℕ → Bool
is_tag_of table body candidate =
    is_tag_under (key_of_record table Mac candidate.0) (is_legacy candidate.0) candidate.1 body

-- some candidate's is
abbrev pub verify_answer : Keys → Table → (tag body : List ℕ) → Bool
verify_answer keys table tag body = list_any (is_tag_of table body) (candidates keys tag)

-- ---- trials

-- the count of trials after these were tried in their order, up to the first that passes
abbrev pub tried : {X : Type 0} → (X → Bool) → List X → ℕ → ℕ
tried test [] count = count
tried test (x ∷ later) count =
    if test x then next count else tried test later (next count)

-- after bytes were opened, or found not to open
abbrev pub open_trials : Primitive → Keys → Table → (bytes ad : List ℕ) → ℕ → ℕ
open_trials primitive keys table bytes ad count =
    tried (λ candidate. is_some (opened table primitive ad candidate)) (candidates keys bytes) count

-- after a tag was verified, or found not to be one
abbrev pub verify_trials : Keys → Table → (tag body : List ℕ) → ℕ → ℕ
verify_trials keys table tag body count =
    tried (is_tag_of table body) (candidates keys tag) count
