-- What a device in memory is, and what it tells.
use Rattle.std.specs.Prelude.{ℕ, List, length, Some, None}
use Rattle.stream_range.specs.Device.{DeviceState}

-- the bytes, how many a read gives at the most, the numbers of the calls that fail, from 1, how many
-- calls and faults there were, and how many bytes were given
pub record DeviceInMemory : Type 0 where
  pub bytes : List ℕ
  pub piece : ℕ
  pub fails : List ℕ
  pub calls : ℕ
  pub faults : ℕ
  pub given : ℕ

-- what it tells
abbrev pub told_device : DeviceInMemory → DeviceState
told_device s = record {
  size = length s.bytes;
  bytes = Some s.bytes;
  files = None;
  given = s.given;
  faults = s.faults;
}
