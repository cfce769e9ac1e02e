-- The number's other bytes are zeros.
use Rattle.std.proofs.Common.{ℕ, List, ◌∷◌, ◌++◌, take, ap, sym, ◌∙◌, append-nil, arith}
use Rattle.aes_core.specs.Aes.{cipher}
use Rattle.aead_kinds.specs.GcmSiv.{derived_half}
use Rattle.aead_kinds.proofs.BlockLemmas.{le_bytes-small}
use Rattle.aead_kinds.proofs.gcm_siv.derived_half.Goals as goal

pub returns : goal.returns
unfolding derived_half
returns c =
    let main = c.args.main.now in
    let n = c.args.number in
    let iv = c.args.iv.now in
    c.copy_from_slice-2.ensures.after
    ∙ ap (take 8) (c.encrypt_block.ensures
    ∙ ap (λ (l : List ℕ). cipher main (n ∷ 0 ∷ 0 ∷ 0 ∷ l))
    (append-nil c.copy_from_slice.new.self ∙ c.copy_from_slice.ensures.after)
    ∙ ap (λ (l : List ℕ). cipher main (l ++ iv)) (sym (le_bytes-small n (omega arith))))
