-- A file of a store as a device.
use Rattle.std.specs.Prelude.{ℕ, List, length, Option, Some, None, option_map}
use Rattle.std.specs.FinMap as map
use Rattle.tink_spec.specs.Files.{Files, StoreState}
use Rattle.stream_range.specs.Device.{DeviceState}

-- the bytes of the file of that name, where the files are told
abbrev pub bytes_in : Option Files → (name : List ℕ) → Option (List ℕ)
bytes_in None name = None
bytes_in (Some files) name = map.get files name

-- how many bytes the file of that name has, where there is one; where the files aren't told, so many
abbrev pub size_in : Option Files → (name : List ℕ) → (size : ℕ) → Option ℕ
size_in None name size = Some size
size_in (Some files) name size = option_map length (map.get files name)

-- the file of that name, of that size; the counts are the store's
abbrev pub stored_device : StoreState → (name : List ℕ) → (size : ℕ) → DeviceState
stored_device store name size = record {
  size = size;
  bytes = bytes_in store.files name;
  files = store.files;
  given = store.given;
  faults = store.faults;
}
