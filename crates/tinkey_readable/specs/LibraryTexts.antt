-- What calls of the library made under a key, and of which keysets there are handles. What runs and lines made,
-- and calls then open or verify, is in Anywhere.antt.
--
--   LibraryTextsOpen ..   what a call sealed or tagged is read by calls, runs and lines
--   HandlesAreMade ..     a handle is made of each keyset that commands accept
--   HandlesServe          and of no other one
use Rattle.std.specs.Prelude.{◌≡◌, ℕ, ◌≤◌, List, [], length, None, Some}
use Rattle.key_msgs.specs.declared.primitive.Primitive.{Primitive}
use Rattle.keyset_model.specs.Keyset.{Keys}
use Rattle.keyset_model.specs.declared.record.Record.{Record}
use Rattle.managers.specs.Standard.{standard_table}
use Rattle.ready_keysets.specs.Unwrapping.{IsNotInside}
use Rattle.ready_keysets.specs.declared.ready.ReadyKeyset.{ReadyKeyset}
use Rattle.ready_keysets.specs.declared.refusal.Refusal.{Refusal}
use Rattle.ready_keysets.specs.declared.refusal.Refusal.TheVariants as refusals
use Rattle.tinkey_plans.specs.Steps.{input_limit}
use Rattle.tinkey_readable.specs.Anywhere.{IsReadAnywhere, Serves, ServesUnder}
use Rattle.tinkey_readable.specs.Calls.{IsCalled, IsHandle, IsNotMadeIn, WasCalled, inside_of}
use Rattle.tinkey_readable.specs.Runs.{Written}
use Rattle.tinkey_words.specs.Words.{to_dopen, to_dseal, to_open, to_seal, to_tag, to_verify}
use Rattle.wrapped_prims.specs.Candidates.{prefix_of}
use Rattle.wrapped_prims.specs.Fitness.{unfit}
use Rattle.wrapped_prims.specs.Laws.{HasKey, HasSameKey}

-- What a call sealed under a key with a prefix opens to its plaintext, with its associated data, by calls of
-- each handle of a keyset in which that key is ENABLED and alone under its prefix, however long it is; and
-- where the plaintext is within the limit of a run's input, by runs and lines over each such keyset that serves
-- AEADs.
abbrev pub LibraryTextsOpen : Type 0
LibraryTextsOpen = (ad plain sealed prefix : List ℕ) (r : Record) → prefix_of r ≡ Some prefix
    → WasCalled (to_seal ad) plain sealed r
    → IsCalled HasSameKey (to_open ad) sealed plain r
    × (length plain ≤ input_limit → IsReadAnywhere HasSameKey (to_open ad) sealed plain r)

-- the same without an IV
abbrev pub LibraryTextsDopen : Type 0
LibraryTextsDopen = (ad plain sealed prefix : List ℕ) (r : Record) → prefix_of r ≡ Some prefix
    → WasCalled (to_dseal ad) plain sealed r
    → IsCalled HasSameKey (to_dopen ad) sealed plain r
    × (length plain ≤ input_limit → IsReadAnywhere HasSameKey (to_dopen ad) sealed plain r)

-- a tag verifies so, while the key is there, ENABLED, whatever the output prefix type
abbrev pub LibraryTagsVerify : Type 0
LibraryTagsVerify = (tag body : List ℕ) (r : Record) → WasCalled to_tag body tag r
    → IsCalled HasKey (to_verify tag) body [] r
    × (length body ≤ input_limit → IsReadAnywhere HasKey (to_verify tag) body [] r)

-- Of each keyset that a command for this primitive accepts a handle is made, unless memory is refused.
abbrev pub HandlesAreMade : Type 0
HandlesAreMade = (primitive : Primitive) (written : Written) (keys : Keys) (refusal : Refusal)
    → Serves primitive written keys → IsNotMadeIn written.form primitive written.bytes refusal
    → refusal ≡ refusals.NoMemory

-- the same of one that lies under a master
abbrev pub WrappedHandlesAreMade : Type 0
WrappedHandlesAreMade =
    (primitive : Primitive) (master text : Written) (keys : Keys) (refusal : Refusal)
    → ServesUnder primitive master text keys
    → IsNotInside primitive (length text.bytes) (length master.bytes) (inside_of master text) refusal
    → refusal ≡ refusals.NoMemory

-- The ENABLED records of the keyset of a handle all serve the primitive, so a command accepts it too where it is
-- within its limit.
abbrev pub HandlesServe : Type 0
HandlesServe = (primitive : Primitive) (keys : Keys) (ready : ReadyKeyset)
    → IsHandle primitive keys ready → unfit keys primitive standard_table ≡ None
