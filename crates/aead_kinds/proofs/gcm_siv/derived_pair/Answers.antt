use Rattle.std.proofs.Common.{ℕ, List, ◌+◌, ◌++◌, length, replicate, ap, refl, ◌∙◌}
use Rattle.aead_kinds.proofs.BlockLemmas.{halves_written}
use Rattle.aead_kinds.proofs.GcmSivLemmas.{length-derived_half}
use Rattle.aead_kinds.proofs.gcm_siv.derived_pair.Goals as goal

pub returns : goal.returns
returns c =
    let front : List ℕ = c.copy_from_slice.new.self in
    let back : List ℕ = c.copy_from_slice-2.new.self in
    let first = c.copy_from_slice.ensures.after ∙ c.derived_half.ensures in
    let second = c.copy_from_slice-2.ensures.after ∙ c.derived_half-2.ensures in
    halves_written 8 front (replicate 8 0) back c.copy_from_slice.ensures.len refl
    (ap length second
    ∙ length-derived_half c.args.main.now c.args.iv.now (c.args.number + 1))
    ∙ (λ i. first i ++ second i)
