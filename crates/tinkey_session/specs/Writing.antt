-- What writing a keyset, and saving it, say of the random bytes and the store.
use Rattle.std.specs.Prelude.{◌≡◌, ℕ, ◌<◌, Bool, List, length, Option, Result, Ok, Err}
use Rattle.std.specs.Result.{result_ok}
use Rattle.keyset_model.specs.Keyset.{Keys}
use Rattle.tink_spec.specs.Files.{StoreState}
use Rattle.tink_spec.specs.Outside.{EntropyState, Drew, DrewLosing, Rose, Stood}
use Rattle.tinkey_session.specs.Answered.{DrewSome}
use Rattle.tinkey_session.specs.Saving.{Asks, Form, file_asked, iv_drawn, why_of}
use Rattle.tinkey_session.specs.Serving.{saved_reply}
use Rattle.tinkey_session.specs.Talking.{unsaved_by_save}
use Rattle.tinkey_session.specs.Texts.{reply_text}
use Rattle.tinkey_session.specs.declared.reply.LineRefusal.{LineRefusal}
use Rattle.tinkey_session.specs.declared.saving.WriteError.{WriteError}
use Rattle.tinkey_session.specs.declared.saving.WriteError.TheVariants as errors
use Rattle.tinkey_session.specs.declared.session.LineFault.{LineFault}
use Rattle.tinkey_session.specs.declared.session.LineFault.TheVariants as line_faults

-- an IV was drawn, and with it the keyset becomes this
pub record Wrote (form : Form) (keys : Keys) (answer : Result (List ℕ) LineRefusal)
    (old new : EntropyState) : Type 0 where
  pub drawn : List ℕ
  pub drew : Drew old new drawn
  pub stood : Stood old.faults new.faults
  pub exact : length drawn ≡ iv_drawn form keys
  pub is : form.written keys drawn ≡ answer

-- the entropy failed, and fewer bytes were drawn than the IV has; some behind them may be lost
pub record Unwrote (form : Form) (keys : Keys) (old new : EntropyState) : Type 0 where
  pub rose : Rose old.faults new.faults
  pub drawn : List ℕ
  pub gone : DrewLosing old new drawn
  pub fewer : length drawn < iv_drawn form keys

-- what came of writing a keyset
abbrev pub Writes : Form → Keys → Result (List ℕ) WriteError → (old new : EntropyState) → Type 0
Writes form keys (Ok bytes) old new = Wrote form keys (Ok bytes) old new
Writes form keys (Err (errors.Refused why)) old new = Wrote form keys (Err why) old new
Writes form keys (Err errors.EntropyFault) old new = Unwrote form keys old new
Writes form keys (Err errors.NoMemory) old new = DrewSome old new

-- A keyset was saved under this name, or refused, and the reply has this text. Where it was written, a file was asked for.
-- `unsaved` and `later` say whether an accepted edit stands that no file has, before the save and after it.
pub record IsSaved (form : Form) (keys : Keys) (name text : List ℕ) (unsaved later : Bool) (old new : EntropyState)
    (before after : StoreState) : Type 0 where
  pub answer : Result (List ℕ) LineRefusal
  pub wrote : Wrote form keys answer old new
  pub why : Option LineRefusal
  pub asks : Asks (file_asked name (why_of why answer) (result_ok answer)) before after
  pub spelled : text ≡ reply_text (saved_reply (why_of why answer))
  pub after' : later ≡ unsaved_by_save unsaved (saved_reply (why_of why answer))

-- why there is no reply
abbrev pub IsUnsaved : Form → Keys → LineFault → (old new : EntropyState) → Type 0
IsUnsaved form keys line_faults.EntropyFault old new = Unwrote form keys old new
IsUnsaved form keys line_faults.NoMemory old new = DrewSome old new
