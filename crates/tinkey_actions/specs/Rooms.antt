-- Room in front of an input, which is sealed where it stands.
use Rattle.std.specs.Prelude.{ℕ}
use Rattle.tinkey_words.specs.Words.{AskedEnvelope, AskedWork, to_seal, to_open, to_dseal, to_dopen, to_reseal, to_dreseal, to_tag, to_verify, to_derive, to_eseal, to_eopen, to_ereseal}
use Rattle.wrapped_prims.specs.Rooms.{seal_room, dseal_room}
use Rattle.wrapped_prims.specs.declared.held.Held.{Held}

-- how many bytes go before the ciphertext, where the work seals, and else none
abbrev pub room_for : Held → AskedWork → ℕ
room_for held (to_seal ad) = seal_room held
room_for held (to_open ad) = 0
room_for held (to_dseal ad) = dseal_room held
room_for held (to_dopen ad) = 0
room_for held (to_reseal ad) = 0
room_for held (to_dreseal ad) = 0
room_for held to_tag = 0
room_for held (to_verify tag) = 0
room_for held (to_derive size) = 0

-- how many go before the plaintext that is sealed in an envelope: ENVELOPE_ROOM of seal_wrap
abbrev pub envelope_room : AskedEnvelope → ℕ
envelope_room (to_eseal ad) = 4096
envelope_room (to_eopen ad) = 0
envelope_room to_ereseal = 4096
