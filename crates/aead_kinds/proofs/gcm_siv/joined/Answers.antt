use Rattle.std.proofs.Common.{ℕ, List, ◌++◌, length, replicate, ap, refl, ◌∙◌}
use Rattle.aead_kinds.proofs.BlockLemmas.{halves_written}
use Rattle.aead_kinds.proofs.gcm_siv.joined.Goals as goal

pub returns : goal.returns
returns c =
    let front : List ℕ = c.copy_from_slice.new.self in
    let back : List ℕ = c.copy_from_slice-2.new.self in
    let first = c.copy_from_slice.ensures.after in
    let second = c.copy_from_slice-2.ensures.after in
    halves_written 16 front (replicate 16 0) back c.copy_from_slice.ensures.len refl
    (ap length second ∙ c.told-back)
    ∙ (λ i. first i ++ second i)
