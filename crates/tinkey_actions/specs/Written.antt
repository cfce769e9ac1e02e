-- How a keyset is written, for a command and for a line of a session.
--
--   form_held      what it becomes, by what is held of a lock
--   IsWritten      what came of writing it in clear
--   write_status   the status of one that isn't written
use Rattle.std.specs.Prelude.{◌≡◌, ◌⊎◌, ℕ, List, length, nat_le, Option, Some, None, Result, Ok, Err, if◌then◌else◌}
use Rattle.keyset_model.specs.Keyset.{Keys}
use Rattle.managers.specs.Table.{Table}
use Rattle.tinkey_plans.specs.Session.{form_clear, form_sealed}
use Rattle.tinkey_plans.specs.Steps.{keyset_limit, written_in}
use Rattle.tinkey_plans.specs.declared.status.Status.{Status}
use Rattle.tinkey_plans.specs.declared.status.Status.TheVariants as status
use Rattle.tinkey_session.specs.Saving.{Form}
use Rattle.tinkey_session.specs.declared.reply.LineRefusal.TheVariants.{KeysetTooLong}
use Rattle.tinkey_session.specs.declared.saving.WriteError.{WriteError}
use Rattle.tinkey_session.specs.declared.saving.WriteError.TheVariants as errors
use Rattle.tinkey_words.specs.declared.words.rows.Format.{Format}
use Rattle.wrapped_prims.specs.declared.held.Held.{Held}

-- in clear, or under the master that is held of a lock
abbrev pub form_held : Option (Table × Keys × Held) → Format → Form
form_held None form = form_clear form
form_held (Some (own, keys, held)) form = form_sealed own keys form

-- bytes within a limit, or why they aren't written
abbrev pub kept_within : (limit : ℕ) → List ℕ → Result (List ℕ) WriteError
kept_within limit bytes =
    if nat_le (length bytes) limit then Ok bytes else Err (errors.Refused KeysetTooLong)

-- the keyset was written in this form, or is too long; or memory was refused
abbrev pub IsWritten : Format → Keys → Result (List ℕ) WriteError → Type 0
IsWritten form keys result =
    (result ≡ kept_within keyset_limit (written_in form keys)) ⊎ (result ≡ Err errors.NoMemory)

-- the status of a keyset that isn't written
abbrev pub write_status : WriteError → Status
write_status (errors.Refused why) = status.KeysetOutgrown
write_status errors.EntropyFault = status.EntropyFault
write_status errors.NoMemory = status.NoMemory

-- that status in the place of the error
abbrev pub with_status : {A : Type 0} → Result A WriteError → Result A Status
with_status (Ok value) = Ok value
with_status (Err error) = Err (write_status error)
