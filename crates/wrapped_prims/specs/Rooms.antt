-- How many bytes a handle's sealing has before its ciphertext.
--
--   room_of, siv_room_of      under a kept key: its prefix, and an IV; its prefix, and a SIV
--   seal_room, dseal_room     under the primary record's key
-- And how many it has in all.
--
--   kept_size                 under a kept key
use Rattle.std.specs.Prelude.{ℕ, ◌+◌, length, option_map, unwrap_or}
use Rattle.managers.specs.Uses.{iv_size, sealed_size}
use Rattle.wrapped_prims.specs.Candidates.{prefix_bytes}
use Rattle.wrapped_prims.specs.Held.{kept_in}
use Rattle.wrapped_prims.specs.declared.held.Held.{Held}
use Rattle.wrapped_prims.specs.declared.held.Kept.{Kept}

-- the bytes of its prefix, and those of an IV
abbrev pub room_of : Kept → ℕ
room_of kept = length (prefix_bytes kept.prefix) + iv_size kept.key

-- the bytes of its prefix, and the 16 of a SIV (RFC 5297)
abbrev pub siv_room_of : Kept → ℕ
siv_room_of kept = length (prefix_bytes kept.prefix) + 16

-- of the key that is kept of the primary record
abbrev pub seal_room : Held → ℕ
seal_room held = unwrap_or (option_map room_of (kept_in held.slots.items held.primary)) 0

-- the same without an IV
abbrev pub dseal_room : Held → ℕ
dseal_room held = unwrap_or (option_map siv_room_of (kept_in held.slots.items held.primary)) 0

-- the bytes of a kept key's prefix, and those of its sealing of so many bytes
abbrev pub kept_size : Kept → ℕ → ℕ
kept_size kept n = length (prefix_bytes kept.prefix) + sealed_size kept.key n
