-- The laws of wrapped keysets, over the definitions alone.
use Rattle.std.specs.Prelude.{◌≡◌, ℕ, Bool, IsTrue, List, [], Some, None, Ok}
use Rattle.std.specs.List.{AllByRecursion}
use Rattle.key_msgs.specs.declared.primitive.Primitive.TheVariants.{Aead}
use Rattle.keyset_model.specs.Keyset.{Keys, fault_of, primary_of}
use Rattle.keyset_model.specs.Writing.{HasWireBounds, binary_of}
use Rattle.keyset_model.specs.declared.record.Record.{Record}
use Rattle.managers.specs.Table.{Table}
use Rattle.wrapped_prims.specs.Answers.{Sealed, seal_answer}
use Rattle.wrapped_prims.specs.Candidates.{prefix_of}
use Rattle.wrapped_prims.specs.Laws.{GivesKeyFor, HasSameKey}
use Rattle.seal_wrap.specs.Info.{info_of, without_keys}
use Rattle.seal_wrap.specs.Sealings.{AreBytes, HasByteValues}
use Rattle.seal_wrap.specs.Unwrapped.{unwrap_of}
use Rattle.seal_wrap.specs.Wrapped.{Wrapped, wrap_of, wrapped_text}
use Rattle.seal_wrap.specs.Wrapping.{SealsBytes}

-- What was wrapped under an old master unwraps, in the form in which it was written, to the keyset under
-- a new one in which the same key is ENABLED and alone under its prefix. The primary record of the old
-- master has a prefix; of RAW records another one may open the bytes by chance. The keyset is one whose
-- binary form reads back.
abbrev pub WrapBack : Type 0
WrapBack = (json : Bool) (table : Table) (keys old new : Keys) (r : Record) (prefix random : List ℕ)
    (wrapped : Wrapped) → primary_of old ≡ Some r → prefix_of r ≡ Some prefix
    → GivesKeyFor table Aead r → HasSameKey r new
    → fault_of keys ≡ None → AllByRecursion HasWireBounds keys.records
    → (IsTrue json → SealsBytes keys old table random)
    → wrap_of keys old table random json ≡ Some wrapped
    → unwrap_of new table wrapped.text json ≡ Ok keys

-- The same where the key messages of the old master, the keyset's binary form and the random bytes are
-- bytes. What was sealed are bytes then, and nothing is asked of it.
abbrev pub WrapBackBytes : Type 0
WrapBackBytes = (json : Bool) (table : Table) (keys old new : Keys) (r : Record)
    (prefix random : List ℕ) (wrapped : Wrapped) → primary_of old ≡ Some r
    → prefix_of r ≡ Some prefix → GivesKeyFor table Aead r → HasSameKey r new
    → fault_of keys ≡ None → AllByRecursion HasWireBounds keys.records
    → HasByteValues old → AreBytes (binary_of keys) → AreBytes random
    → wrap_of keys old table random json ≡ Some wrapped
    → unwrap_of new table wrapped.text json ≡ Ok keys

-- A text is made of the sealed bytes and of the info alone, and the info is that of the keyset less its
-- key messages: so no byte of these is in the text but inside what was sealed.
abbrev pub TextHidesKeys : Type 0
TextHidesKeys = (json : Bool) (table : Table) (keys master : Keys) (random : List ℕ)
    (wrapped : Wrapped) → wrap_of keys master table random json ≡ Some wrapped
    → (sealed : Sealed) × (seal_answer master table (binary_of keys) [] random ≡ Some sealed)
    × (wrapped.left ≡ sealed.left)
    × (wrapped.text ≡ wrapped_text json sealed.bytes (info_of (without_keys keys)))
