-- Lines of sessions beside commands, among runs that hand a keyset on: what either sealed or tagged,
-- either opens or verifies later.
--
--   asks      the line of a session that asks for work of keys
--   IsTurnAt  a turn of a session
--   WasMade   what a run or a line made of an input, and the runs that led on from there
--   IsRead    what a run or a line reads of that, over the keyset that they led to
use Rattle.std.specs.Prelude.{◌≡◌, ℕ, Bool, List, [], ◌∷◌, Some, None, slice_get}
use Rattle.std.specs.List.{AllByRecursion}
use Rattle.keyset_model.specs.Keyset.{Keys, primary_of}
use Rattle.keyset_model.specs.declared.record.Record.{Record}
use Rattle.managers.specs.Standard.{standard_table}
use Rattle.tinkey_session.specs.Lines.{Line, Seal, Open, Dseal, Dopen, Reseal, Dreseal, Tag, Verify, Derive}
use Rattle.tinkey_session.specs.Saving.{Form, StoreAnswers, by_files, with_saved_only}
use Rattle.tinkey_session.specs.Session.{Turn, asked_in, turns}
use Rattle.tinkey_session.specs.declared.reply.Reply.{Reply}
use Rattle.tinkey_session.specs.declared.reply.Reply.TheVariants.{Done, Gives}
use Rattle.wrapped_prims.specs.Candidates.{prefix_of}
use Rattle.wrapped_prims.specs.Laws.{HasKey, HasSameKey}
use Rattle.tinkey_plans.specs.Plan.{Told}
use Rattle.tinkey_plans.specs.Session.{form_under}
use Rattle.tinkey_readable.specs.Runs.{AreRuns, HoldsBytes, IsDone, Passage, PassesBytes, Run, WasDone, Written, keyset_of, saving_lines}
use Rattle.tinkey_readable.specs.Runs as passages
use Rattle.tinkey_words.specs.declared.words.rows.Format.{Format}
use Rattle.tinkey_words.specs.Words.{AskedWork, KeysetFile, session, to_seal, to_open, to_dseal, to_dopen, to_reseal, to_dreseal, to_tag, to_verify, to_derive}

-- the line of a session that asks for this work on this input
abbrev pub asks : AskedWork → (input : List ℕ) → Line
asks (to_seal ad) input = Seal input ad
asks (to_open ad) input = Open input ad
asks (to_dseal ad) input = Dseal input ad
asks (to_dopen ad) input = Dopen input ad
asks (to_reseal ad) input = Reseal input ad
asks (to_dreseal ad) input = Dreseal input ad
asks to_tag input = Tag input
asks (to_verify tag) input = Verify tag input
asks (to_derive size) input = Derive size input

-- its reply, where it is done with this output; a tag that verifies has none
abbrev pub done_reply : AskedWork → (output : List ℕ) → Reply
done_reply (to_verify tag) output = Done
done_reply _ output = Gives output

-- the turn of this place of a session over this keyset that saves it in this form, in a store that answers so,
-- of the lines and random bytes that are told
abbrev pub IsTurnAt : Form → StoreAnswers → Keys → Told → (place : ℕ) → Turn → Type 0
IsTurnAt form answers keys told place t =
    let lines = saving_lines standard_table form answers keys (asked_in told.input) told.random in
    slice_get (turns standard_table keys lines told.random) place ≡ Some t

-- a turn of a session over the keyset that lies here, of the lines and random bytes that are told, in whatever
-- form it saves, and whatever the store answers
pub record HasTurn (told : Told) (written : Written) (t : Turn) : Type 0 where
  pub keys : Keys
  pub read : keyset_of written ≡ Some keys
  pub form : Form
  pub answers : StoreAnswers
  pub place : ℕ
  pub there : IsTurnAt form answers keys told place t

-- runs, of which each reads what the one before put out, from this keyset on
pub record Lead (runs : List Passage) (before after : Written) (old : Keys) : Type 0 where
  pub are : AreRuns standard_table runs before after
  pub bytes : AllByRecursion PassesBytes runs
  pub holds : HoldsBytes before
  pub read : keyset_of before ≡ Some old

-- By this work this output was made of this input, by the key of this primary record: by a run of the
-- command over a keyset, wherever that put it, or by a line of a session that hands the keyset on. From
-- there runs have led to the keyset that lies here.
pub data WasMade (work : AskedWork) (input output : List ℕ) (r : Record) (after : Written)
    : Type 0 where
  by_run : (runs : List Passage) (before : Written) (old : Keys) → Lead runs before after old →
      (told : Told) → WasDone work before told output → told.input ≡ input →
      primary_of old ≡ Some r → WasMade work input output r after
  by_line : (run : Run) (runs : List Passage) (before : Written) (old : Keys) →
      Lead (passages.by_run run ∷ runs) before after old → (name : List ℕ) (form : Format)
      (out : KeysetFile) (saved_only : Bool) → run.asked ≡ session None name form out saved_only →
      (place : ℕ) (t : Turn) →
      IsTurnAt (with_saved_only saved_only (form_under standard_table None out.form))
      (by_files run.told.files) old run.told place t →
      t.line ≡ asks work input → t.reply ≡ Gives output →
      primary_of t.before ≡ Some r → WasMade work input output r after

-- This work on this input is done with this output, while that record's key is in the keyset as it is
-- said here: by a run of the command over the keyset that lies here, in whichever file, wherever that puts
-- it, and by each line of a session over it.
pub record IsRead (While : Record → Keys → Type 0) (work : AskedWork) (input output : List ℕ)
    (r : Record) (written : Written) : Type 0 where
  pub by_run : (new : Keys) → keyset_of written ≡ Some new → While r new
      → IsDone work written input output
  pub by_line : (told : Told) (t : Turn) → HasTurn told written t → t.line ≡ asks work input
      → While r t.before → t.reply ≡ done_reply work output

-- the same with some output, while the key is there, ENABLED
pub record IsReadSomehow (work : AskedWork) (input : List ℕ) (r : Record) (written : Written)
    : Type 0 where
  pub by_run : (new : Keys) → keyset_of written ≡ Some new → HasKey r new
      → (other : List ℕ) × IsDone work written input other
  pub by_line : (told : Told) (t : Turn) → HasTurn told written t → t.line ≡ asks work input
      → HasKey r t.before → (other : List ℕ) × (t.reply ≡ done_reply work other)

-- what was sealed under a key with a prefix opens to its plaintext, with its associated data, while that
-- key is ENABLED and alone under its prefix
abbrev pub MadeOpens : Type 0
MadeOpens = (ad plain sealed prefix : List ℕ) (r : Record) (after : Written)
    → prefix_of r ≡ Some prefix → WasMade (to_seal ad) plain sealed r after
    → IsRead HasSameKey (to_open ad) sealed plain r after

-- the same without an IV
abbrev pub MadeDopens : Type 0
MadeDopens = (ad plain sealed prefix : List ℕ) (r : Record) (after : Written)
    → prefix_of r ≡ Some prefix → WasMade (to_dseal ad) plain sealed r after
    → IsRead HasSameKey (to_dopen ad) sealed plain r after

-- while the key is there, ENABLED, it opens to some plaintext, whatever the output prefix type
abbrev pub MadeOpensPresent : Type 0
MadeOpensPresent = (ad plain sealed : List ℕ) (r : Record) (after : Written)
    → WasMade (to_seal ad) plain sealed r after
    → IsReadSomehow (to_open ad) sealed r after

-- the same without an IV
abbrev pub MadeDopensPresent : Type 0
MadeDopensPresent = (ad plain sealed : List ℕ) (r : Record) (after : Written)
    → WasMade (to_dseal ad) plain sealed r after
    → IsReadSomehow (to_dopen ad) sealed r after

-- a tag verifies, while the key is there, ENABLED, whatever the output prefix type
abbrev pub MadeVerifies : Type 0
MadeVerifies = (tag body : List ℕ) (r : Record) (after : Written)
    → WasMade to_tag body tag r after → IsRead HasKey (to_verify tag) body [] r after
