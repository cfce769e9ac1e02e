-- Printed examples of SP 800-38B (2005), computed from the definitions alone.
use Rattle.std.proofs.Common.{◌≡◌, refl}
use Rattle.ghash.specs.Field.{doubled}

-- D.1 and D.3: K1 of the cipher of the block of zeros, and K2 of K1

pub doubled-k1_128 : doubled 0x7DF76B0C1AB899B33E42F047B91B546F ≡ 0xFBEED618357133667C85E08F7236A8DE
doubled-k1_128 = refl

pub doubled-k2_128 : doubled 0xFBEED618357133667C85E08F7236A8DE ≡ 0xF7DDAC306AE266CCF90BC11EE46D513B
doubled-k2_128 = refl

pub doubled-k1_256 : doubled 0xE568F68194CF76D6174D4CC04310A854 ≡ 0xCAD1ED03299EEDAC2E9A99808621502F
doubled-k1_256 = refl

pub doubled-k2_256 : doubled 0xCAD1ED03299EEDAC2E9A99808621502F ≡ 0x95A3DA06533DDB585D3533010C42A0D9
doubled-k2_256 = refl
