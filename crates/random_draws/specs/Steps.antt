-- The steps of commands that draw random bytes: what each draws, and what it makes of the slices.
--
--   Step         the six of them
--   IsStep       the step of a plan is this one
--   step_fills   what it draws
--   MakesOf      what it gave is made of its slices
use Rattle.std.specs.Prelude.{◌≡◌, ℕ, List, [], ◌∷◌, ◌++◌, take, Some, Result, Ok, Err}
use Rattle.key_msgs.specs.Templates.{Row, random_of}
use Rattle.key_msgs.specs.declared.key.KeyKind.{KeyKind}
use Rattle.key_msgs.specs.declared.primitive.Primitive.TheVariants.{Aead}
use Rattle.key_msgs.specs.declared.rule.Rule.{Rule}
use Rattle.keyset_model.specs.Keyset.{Keys, primary_of}
use Rattle.keyset_model.specs.Writing.{binary_of}
use Rattle.keyset_model.specs.declared.record.Record.{Record}
use Rattle.managers.specs.Schemes.{Scheme, key_under}
use Rattle.managers.specs.Table.{Table}
use Rattle.managers.specs.Uses.{iv_size, seal_of}
use Rattle.random_draws.specs.Slices.{DataKey, Fill, Header, Id, Iv, Key, Slice, bytes_of, edit_fills, fill_of, iv_fills, new_fills}
use Rattle.envelopes.specs.Enveloped.{data_key_of, envelope}
use Rattle.seal_wrap.specs.Info.{info_of}
use Rattle.seal_wrap.specs.Wrapped.{wrapped_text}
use Rattle.tinkey_cmds.specs.Draws.{Draw, fill}
use Rattle.tinkey_cmds.specs.Edits.{Edit, Add, Rotate, added, alone, first, id_of, record_of, rotated, step}
use Rattle.tinkey_cmds.specs.declared.command.EditRefusal.{EditRefusal}
use Rattle.tinkey_plans.specs.Envelopes.{seals_envelope}
use Rattle.tinkey_plans.specs.Plan.{Made, Of, keysets, sealings, envelopings}
use Rattle.tinkey_plans.specs.Using.{seals}
use Rattle.tinkey_plans.specs.Wrapping.{is_json, wraps}
use Rattle.tinkey_words.specs.declared.words.rows.Format.{Format}
use Rattle.wrapped_prims.specs.Answers.{primary_key}
use Rattle.wrapped_prims.specs.Candidates.{prefix_bytes, prefix_of}
use Rattle.wrapped_prims.specs.Fitness.{key_of_record}

-- a first keyset, an edit, a whole input sealed, a keyset wrapped under its master, an envelope, or
-- the salt and nonce prefix of a stream
pub data Step : Type 0 where
  creation : Row → Step
  edition : Keys → Edit → Step
  sealing : Table → Keys → (plain ad : List ℕ) → Step
  wrapping : Table → (keys master : Keys) → Format → Step
  enveloping : Table → Keys → Scheme → Row → (plain ad : List ℕ) → Step
  heading : (size : ℕ) → Step

-- what a plan makes of random bytes is what this step makes
abbrev pub IsStep : (kind : Made) → Draw (Of kind) → Step → Type 0
IsStep keysets give (creation row) = give ≡ first row
IsStep keysets give (edition keys edit) = give ≡ step keys edit
IsStep sealings give (sealing table keys plain ad) = give ≡ seals keys table plain ad
IsStep sealings give (wrapping table keys master form) = give ≡ wraps keys master table form
IsStep sealings give (heading size) = give ≡ fill size
IsStep envelopings give (enveloping table keys scheme row plain ad) =
    give ≡ seals_envelope keys table scheme row plain ad
IsStep kind give other = ⊥

-- ---- what is drawn

-- behind a data key the IV under the keyset, and then the one under the data key; where that breaks a
-- rule, nothing is sealed
abbrev pub behind_key_fills : List Fill → Result KeyKind Rule → List Fill
behind_key_fills ivs (Ok key) = ivs ++ fill_of Iv (iv_size key) ∷ []
behind_key_fills ivs (Err rule) = []

-- an envelope
abbrev pub envelope_fills : Keys → Table → Scheme → Row → (random : List ℕ) → List Fill
envelope_fills keys table scheme row random =
    fill_of DataKey (random_of row) ∷ behind_key_fills (iv_fills (primary_key keys table Aead))
    (key_under scheme (data_key_of row (take (random_of row) random)))

-- each step
abbrev pub step_fills : Step → (random : List ℕ) → List Fill
step_fills (creation row) random = new_fills 64 (random_of row) [] random
step_fills (edition keys edit) random = edit_fills keys random edit
step_fills (sealing table keys plain ad) random = iv_fills (primary_key keys table Aead)
step_fills (wrapping table keys master form) random = iv_fills (primary_key master table Aead)
step_fills (enveloping table keys scheme row plain ad) random =
    envelope_fills keys table scheme row random
step_fills (heading size) random = fill_of Header size ∷ []

-- ---- what is made of it

-- A new record: its id is one slice of the stream, its key the next one. In front of them stand the
-- tries that gave no id.
pub record IsNewOf (stream : List ℕ) (mine : List Slice) (row : Row) (r : Record) : Type 0 where
  pub tries : List Slice
  pub id : Slice
  pub key : Slice
  pub are : mine ≡ tries ++ id ∷ key ∷ []
  pub for_id : id.purpose ≡ Id
  pub four : id.size ≡ 4
  pub for_key : key.purpose ≡ Key
  pub whole : key.size ≡ random_of row
  pub made : r ≡ record_of row (id_of (bytes_of id stream)) (bytes_of key stream)

-- a sealing under the primary key, with the one slice as IV
pub record IsSealedOf (stream : List ℕ) (mine : List Slice) (table : Table) (keys : Keys)
    (plain ad sealed : List ℕ) : Type 0 where
  pub under' : Record
  pub primary : primary_of keys ≡ Some under'
  pub key : KeyKind
  pub reads : key_of_record table Aead under' ≡ Some key
  pub iv : Slice
  pub are : mine ≡ iv ∷ []
  pub for_iv : iv.purpose ≡ Iv
  pub whole : iv.size ≡ iv_size key
  pub made : sealed ≡ prefix_bytes (prefix_of under') ++ seal_of key (bytes_of iv stream) plain ad

-- An envelope of three slices: a data key, the IV with which that is sealed under the primary key,
-- and the IV with which the payload is sealed under the data key.
pub record IsEnvelopeOf (stream : List ℕ) (mine : List Slice) (table : Table) (keys : Keys)
    (scheme : Scheme) (row : Row) (plain ad bytes : List ℕ) : Type 0 where
  pub under' : Record
  pub primary : primary_of keys ≡ Some under'
  pub key : KeyKind
  pub reads : key_of_record table Aead under' ≡ Some key
  pub data_slice : Slice
  pub data_iv : Slice
  pub iv : Slice
  pub are : mine ≡ data_slice ∷ data_iv ∷ iv ∷ []
  pub for_data : data_slice.purpose ≡ DataKey
  pub whole_data : data_slice.size ≡ random_of row
  pub data_key : KeyKind
  pub valid : key_under scheme (data_key_of row (bytes_of data_slice stream)) ≡ Ok data_key
  pub for_data_iv : data_iv.purpose ≡ Iv
  pub whole_data_iv : data_iv.size ≡ iv_size key
  pub for_iv : iv.purpose ≡ Iv
  pub whole_iv : iv.size ≡ iv_size data_key
  pub made : bytes ≡ envelope
      (prefix_bytes (prefix_of under') ++ seal_of key (bytes_of data_iv stream)
      (data_key_of row (bytes_of data_slice stream)) [])
      (seal_of data_key (bytes_of iv stream) plain ad)

-- the random bytes of a stream's header are the one slice
pub record IsHeaderOf (stream : List ℕ) (mine : List Slice) (size : ℕ) (bytes : List ℕ)
    : Type 0 where
  pub header : Slice
  pub are : mine ≡ header ∷ []
  pub for_header : header.purpose ≡ Header
  pub whole : header.size ≡ size
  pub made : bytes ≡ bytes_of header stream

-- the keyset of an accepted edit: add and rotate make a key of their slices, all others draw nothing
abbrev pub EditMakesOf : (stream : List ℕ) (mine : List Slice) → Keys → Edit → (new : Keys) → Type 0
EditMakesOf stream mine keys (Add row) new =
    (r : Record) × (new ≡ added keys r) × IsNewOf stream mine row r
EditMakesOf stream mine keys (Rotate row) new =
    (r : Record) × (new ≡ rotated keys r) × IsNewOf stream mine row r
EditMakesOf stream mine keys edit new = mine ≡ []

-- What the step gave, where it isn't refused, is made of its slices of the stream.
abbrev pub MakesOf : (stream : List ℕ) (mine : List Slice) (kind : Made) → Result (Of kind) EditRefusal
    → Step → Type 0
MakesOf stream mine keysets given (creation row) = (new : Keys) → given ≡ Ok new
    → (r : Record) × (new ≡ alone r) × IsNewOf stream mine row r
MakesOf stream mine keysets given (edition keys edit) = (new : Keys) → given ≡ Ok new
    → EditMakesOf stream mine keys edit new
MakesOf stream mine sealings given (sealing table keys plain ad) = (sealed : List ℕ)
    → given ≡ Ok sealed → IsSealedOf stream mine table keys plain ad sealed
MakesOf stream mine sealings given (wrapping table keys master form) = (text : List ℕ)
    → given ≡ Ok text → (sealed : List ℕ)
    × IsSealedOf stream mine table master (binary_of keys) [] sealed
    × (text ≡ wrapped_text (is_json form) sealed (info_of keys))
MakesOf stream mine sealings given (heading size) = (bytes : List ℕ)
    → given ≡ Ok bytes → IsHeaderOf stream mine size bytes
MakesOf stream mine envelopings given (enveloping table keys scheme row plain ad) =
    (bytes : List ℕ) → given ≡ Ok (Ok bytes)
    → IsEnvelopeOf stream mine table keys scheme row plain ad bytes
MakesOf stream mine kind given other = ⊥
