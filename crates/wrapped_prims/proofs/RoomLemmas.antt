-- The room that a sealing has in front.
use Rattle.std.proofs.Common.{◌≡◌, ap, Option, Some}
use Rattle.std.specs.Prelude.{option_map, unwrap_or}
use Rattle.wrapped_prims.specs.Held.{kept_in}
use Rattle.wrapped_prims.specs.Rooms.{room_of, seal_room}
use Rattle.wrapped_prims.specs.declared.held.Held.{Held}
use Rattle.wrapped_prims.specs.declared.held.Kept.{Kept}

-- it is that of the key which is kept of the primary record
pub seal_room-kept : (held : Held) (kept : Kept) → kept_in held.slots.items held.primary ≡ Some kept → seal_room held ≡ room_of kept
seal_room-kept held kept is = ap (λ (o : Option Kept). unwrap_or (option_map room_of o) 0) is
