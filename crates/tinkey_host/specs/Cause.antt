-- What is told of why a file couldn't be read or made.
use Rattle.std.specs.Prelude.{ℕ, List, codes}
use Rattle.real_objects.specs.declared.cause.Cause.{Cause}
use Rattle.real_objects.specs.declared.cause.Cause.TheVariants as cause

-- the line of a cause
abbrev pub cause_line : Cause → List ℕ
cause_line cause.NoFolder = codes "tinkey: there is no such folder\n"
cause_line cause.NoPermission = codes "tinkey: no permission\n"
cause_line cause.IsFolder = codes "tinkey: this is a folder\n"
cause_line cause.NoLength = codes "tinkey: this is a pipe or a device, which has no length\n"
cause_line cause.NoSpace = codes "tinkey: no space is left, on the device or for this user\n"
cause_line cause.TooLarge = codes "tinkey: the file system takes no file that large\n"
cause_line cause.NameTooLong = codes "tinkey: the name is too long\n"
cause_line cause.ReadOnly = codes "tinkey: the file system is read-only\n"
cause_line cause.TooManyLinks = codes "tinkey: too many symbolic links follow one another\n"
cause_line cause.TooManyFiles = codes "tinkey: too many files are open\n"
cause_line cause.BadDevice = codes "tinkey: the device failed\n"
cause_line cause.Changed = codes "tinkey: the file has changed meanwhile\n"
cause_line cause.Unsupported = codes "tinkey: the file system can't do this\n"
cause_line cause.NoMemory = codes "tinkey: memory was refused\n"
cause_line cause.NoRandom = codes "tinkey: there are no random bytes for a temporary name\n"
cause_line cause.Other = codes "tinkey: the system gave another reason\n"
