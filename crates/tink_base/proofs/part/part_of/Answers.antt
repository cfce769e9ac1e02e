-- What stands in the range is copied to the front, and what is behind it then goes.
use Rattle.std.proofs.Common.{◌≡◌, ◌-◌, ◌≤◌, ◌∙◌, List, ℕ, ap, arith, drop, length, length-drop, length-take-le, take, take_at}
use Rattle.std.specs.List.{copy_within}
use Rattle.tink_base.proofs.part.part_of.Goals as goal

pub returns : goal.returns
returns c =
    let items = c.args.bytes.items in
    let from = c.args.range.start in
    let to = c.args.range.end in
    let new : List ℕ = c.copy_within.new.self in
    let size : to - from ≤ length (drop from items) = omega (arith, length-drop from items, c.requires.within) in
    let fits : length new ≡ c.args.bytes.len
    = omega (arith, c.copy_within.ensures.len, c.as_mut_slice.ensures.len) in
    c.truncate.ensures.items
    ∙ ap (take (to - from)) (take_at new _ _ fits ∙ c.copy_within.ensures.after
    ∙ ap (λ (l : List ℕ). copy_within l from to 0) c.as_mut_slice.ensures.value)
    ∙ take_at (take (to - from) (drop from items)) _ (to - from)
    (length-take-le (to - from) (drop from items) size)
