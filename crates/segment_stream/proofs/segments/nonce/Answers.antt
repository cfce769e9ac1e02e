use Rattle.std.proofs.Common.{◌≡◌, ◌∷◌, ◌++◌, [], ◌∙◌, ap, refl, length, Bool, true, false, List, ℕ}
use Rattle.std.specs.Int.{w32, to_be_bytes}
use Rattle.std.specs.Prelude.{if◌then◌else◌}
use mir.Val.{bool_byte}
use Rattle.segment_stream.proofs.SegmentLemmas.{nonce_parts}
use Rattle.segment_stream.proofs.segments.nonce.Goals as goal

last_byte : (b : Bool) → bool_byte b ≡ (if b then 1 else 0)
last_byte true = refl
last_byte false = refl

pub returns : goal.returns
returns c =
    let prefix = c.copy_from_slice.new.self in
    let number = c.copy_from_slice-2.new.self in
    nonce_parts prefix number c.from.result c.copy_from_slice.auto.self
    (ap length c.copy_from_slice-2.ensures.after ∙ ap length c.to_be_bytes.ensures)
    ∙ ap (λ (l : List ℕ). l ++ (number ++ c.from.result ∷ [])) c.copy_from_slice.ensures.after
    ∙ ap (λ (l : List ℕ). c.args.prefix.now ++ (l ++ c.from.result ∷ []))
    (c.copy_from_slice-2.ensures.after ∙ c.to_be_bytes.ensures)
    ∙ ap (λ n. c.args.prefix.now ++ (to_be_bytes w32 c.args.number ++ n ∷ []))
    (c.from.ensures ∙ last_byte c.args.last)
