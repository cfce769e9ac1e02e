-- What a buffer ends as, where its bytes are lent. No public clause cites this module.
use Rattle.std.specs.Prelude.{List, ℕ}
use Rattle.std.specs.Borrow.{Lends, Fml, MutBor, Array, u8 as byte}
use Rattle.std.specs.Vec.{with_items}
use Rattle.segment_stream.specs.contracts.buffer.Buffer.{the_row}

-- the bytes that were last written
abbrev pub lends_bytes : MutBor the_row.Denot → MutBor (List ℕ) → Fml
lends_bytes buffer lent =
    Lends the_row (Array byte 0) buffer lent (λ bytes. record { bytes = with_items buffer.now.bytes bytes })
