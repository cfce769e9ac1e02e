-- What the lemmas on steps state: what a step leaves of the random bytes, and what it makes of them.
use Rattle.std.proofs.Common.{◌≡◌, ℕ, ◌+◌, ◌≤◌, List, [], ◌∷◌, ◌++◌, length, take, drop, Some, Result, Ok}
use Rattle.key_msgs.specs.Templates.{Row, random_of}
use Rattle.key_msgs.specs.declared.key.KeyKind.{KeyKind}
use Rattle.key_msgs.specs.declared.primitive.Primitive.TheVariants.{Aead}
use Rattle.keyset_model.specs.Keyset.{Keys, primary_of}
use Rattle.keyset_model.specs.declared.record.Record.{Record}
use Rattle.managers.specs.Schemes.{Scheme, key_under}
use Rattle.managers.specs.Table.{Table}
use Rattle.managers.specs.Uses.{iv_size, seal_of}
use Rattle.random_draws.specs.Slices.{Fill, Id, Key, edit_fills, fill_of, new_fills, total}
use Rattle.envelopes.specs.Enveloped.{data_key_of, envelope}
use Rattle.tinkey_cmds.specs.Draws.{Draw}
use Rattle.tinkey_cmds.specs.Edits.{Edit, Stepped, alone, first, id_of, record_of, step}
use Rattle.tinkey_cmds.specs.declared.command.EditRefusal.{EditRefusal}
use Rattle.tinkey_plans.specs.Ends.{Settles}
use Rattle.wrapped_prims.specs.Candidates.{prefix_bytes, prefix_of}
use Rattle.wrapped_prims.specs.Fitness.{key_of_record}

-- exactly the random bytes behind these fills are left
pub record LeavesBehind (filled : List Fill) (random left : List ℕ) : Type 0 where
  pub enough : total filled ≤ length random
  pub behind : left ≡ drop (total filled) random

-- what settled has drawn its fills and nothing else
abbrev pub DrawsJust : {A : Type 0} → Draw A → (List ℕ → List Fill) → Type 0
DrawsJust {A} give filled = (drawn : List ℕ) (given : Result A EditRefusal) → Settles give drawn given
    → total (filled drawn) ≡ length drawn

-- the record of a new key is made of the last two fills
pub record HasNewKey (row : Row) (filled : List Fill) (random : List ℕ) (r : Record) : Type 0 where
  pub before : List Fill
  pub split : filled ≡ before ++ fill_of Id 4 ∷ fill_of Key (random_of row) ∷ []
  pub made : r ≡ record_of row (id_of (take 4 (drop (total before) random)))
      (take (random_of row) (drop (total before + 4) random))

-- so is that of a first keyset
abbrev pub CreatedAreDrawn : Type 0
CreatedAreDrawn = (row : Row) (random : List ℕ) (s : Stepped) (new : Keys)
    → first row random ≡ Some s → s.answer ≡ Ok new
    → (r : Record) × (new ≡ alone r) × HasNewKey row (new_fills 64 (random_of row) [] random) random r

-- and that of an edit
abbrev pub AddedAreDrawn : (Row → Edit) → (Keys → Record → Keys) → Type 0
AddedAreDrawn edit keys_with = (keys : Keys) (row : Row) (random : List ℕ) (s : Stepped) (new : Keys)
    → step keys (edit row) random ≡ Some s → s.answer ≡ Ok new
    → (r : Record) × (new ≡ keys_with keys r) × HasNewKey row (edit_fills keys random (edit row)) random r

-- an envelope is made of three slices: the data key, the IV that it is sealed with, and that of the payload
pub record HasThree (keys : Keys) (table : Table) (scheme : Scheme) (row : Row)
    (plain ad random bytes : List ℕ) : Type 0 where
  pub under' : Record
  pub primary : primary_of keys ≡ Some under'
  pub key : KeyKind
  pub is : key_of_record table Aead under' ≡ Some key
  pub data' : KeyKind
  pub reads : key_under scheme (data_key_of row (take (random_of row) random)) ≡ Ok data'
  pub made : bytes ≡ envelope (prefix_bytes (prefix_of under')
      ++ seal_of key (take (iv_size key) (drop (random_of row) random))
      (data_key_of row (take (random_of row) random)) [])
      (seal_of data' (take (iv_size data') (drop (random_of row + iv_size key) random)) plain ad)
