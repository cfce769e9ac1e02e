-- Devices: a fixed count of bytes, which are read at any place.
--
--   told        a device tells its bytes: what it holds is `Some` of them. A real device tells none.
--   files       the files of the store that it is one of, where it is one and the store tells
--   given       how many bytes it has given. The count never falls, and stands still at 2 ^ 64 - 1.
--   faults      how often a call of it has failed. The count never falls, and stands still there too.
use Rattle.std.specs.Prelude.{◌≡◌, ℕ, ◌≤◌, List, length, take, drop, Option, IfSome}
use Rattle.tink_spec.specs.Files.{Files}

-- a device, as contracts see it
pub record DeviceState : Type 0 where
  pub size : ℕ
  pub bytes : Option (List ℕ)
  pub files : Option Files
  pub given : ℕ
  pub faults : ℕ

-- neither size nor bytes have changed, nor any file of its store, and the count of faults hasn't fallen
pub record KeptDevice (old new : DeviceState) : Type 0 where
  pub size : new.size ≡ old.size
  pub bytes : new.bytes ≡ old.bytes
  pub files : new.files ≡ old.files
  pub faults : old.faults ≤ new.faults

-- its size is the length of its bytes, where it tells them
abbrev pub TellsSize : DeviceState → Type 0
TellsSize device = IfSome device.bytes (λ bytes. length bytes ≡ device.size)

-- these are its bytes from that place on, where it tells them
abbrev pub HasAt : DeviceState → (at : ℕ) → (piece : List ℕ) → Type 0
HasAt device at piece = IfSome device.bytes (λ bytes. take (length piece) (drop at bytes) ≡ piece)

-- so many bytes were read, which are those from that place on
abbrev pub ReadsSome : DeviceState → (at : ℕ) → (out : List ℕ) → ℕ → Type 0
ReadsSome device at out n = (1 ≤ n) × (n ≤ length out) × HasAt device at (take n out)
