-- Why a call on files failed, and what the store tells of it.
use Rattle.std.specs.Prelude.{ℕ, ℤ, pos, int_lt, unsigned_abs, ◌==◌, ◌||◌, if◌then◌else◌, Option, Some, None, Result, Ok, Err}
use Rattle.std.specs.IoError.{error_kind, raw_os_error}
use Rattle.std.specs.declared.io.Error.{Error}
use Rattle.std.specs.declared.io.ErrorKind.{ErrorKind}
use Rattle.std.specs.declared.io.ErrorKind.TheVariants as kind
use Rattle.tink_base.specs.declared.store.StoreError.{StoreError}
use Rattle.tink_base.specs.declared.store.StoreError.TheVariants as stored
use Rattle.real_objects.specs.declared.cause.Cause.{Cause}
use Rattle.real_objects.specs.declared.cause.Cause.TheVariants as cause
use Rattle.real_objects.specs.declared.cause.FileError.{FileError}
use Rattle.real_objects.specs.declared.cause.FileError.TheVariants as error

-- by the number of an error that has no kind of its own (Linux, errno(3)): 5 is a device that failed, and 23 and 24
-- are too many open files
abbrev pub listed_cause : ℕ → Cause
listed_cause number =
    if number == 5 then cause.BadDevice
    else if (number == 23) || (number == 24) then cause.TooManyFiles
    else cause.Other

abbrev pub numbered_cause : Option ℤ → Cause
numbered_cause None = cause.Other
numbered_cause (Some number) =
    if int_lt number (pos 0) then cause.Other else listed_cause (unsigned_abs number)

-- by the kind of an error, and by its number where that has no kind
unfoldable pub kind_cause : ErrorKind → Option ℤ → Cause
kind_cause kind.NotFound number = cause.NoFolder
kind_cause kind.NotADirectory number = cause.NoFolder
kind_cause kind.PermissionDenied number = cause.NoPermission
kind_cause kind.IsADirectory number = cause.IsFolder
kind_cause kind.StorageFull number = cause.NoSpace
kind_cause kind.QuotaExceeded number = cause.NoSpace
kind_cause kind.FileTooLarge number = cause.TooLarge
kind_cause kind.InvalidFilename number = cause.NameTooLong
kind_cause kind.ReadOnlyFilesystem number = cause.ReadOnly
kind_cause kind.FilesystemLoop number = cause.TooManyLinks
kind_cause kind.StaleNetworkFileHandle number = cause.Changed
kind_cause kind.Unsupported number = cause.Unsupported
kind_cause kind.OutOfMemory number = cause.NoMemory
kind_cause kind.Other number = cause.NoRandom
kind_cause kind.Uncategorized number = numbered_cause number
kind_cause _ number = cause.Other

-- why a call failed with this error
abbrev pub cause_of : Error → Cause
cause_of e = kind_cause (error_kind e) (raw_os_error e)

-- the error as the store tells it
abbrev pub stored_error : FileError → StoreError
stored_error (error.Failed cause) = stored.Failed
stored_error error.NoMemory = stored.NoMemory

-- the answer as the store tells it
abbrev pub stored_answer : {A : Type 0} → Result A FileError → Result A StoreError
stored_answer (Ok answer) = Ok answer
stored_answer (Err e) = Err (stored_error e)
