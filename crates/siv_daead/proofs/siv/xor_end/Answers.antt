-- The last 16 bytes are a block.
use Rattle.std.proofs.Common.{◌≡◌, ◌-◌, ◌++◌, ◌∙◌, List, ℕ, ap, drop, length, sym, take}
use Rattle.aes_core.specs.Bytes.{xor_bytes}
use Rattle.siv_daead.proofs.siv.xor_end.Goals as goal

pub returns : goal.returns
returns c =
    let bytes = c.args.bytes.now in
    let block = c.args.block.now in
    let at = length bytes - 16 in
    let sum : c.xor-sum.result ≡ xor_bytes (drop at bytes) block
    = c.xor-sum.ensures
    ∙ ap (λ (l : List ℕ). xor_bytes l block) (c.block_of.ensures ∙ c.split_at_mut-back.ensures.back) in
    ap (λ (l : List ℕ). l ++ c.copy_from_slice.new.self) c.split_at_mut-back.ensures.front
    ∙ ap (λ (l : List ℕ). take at bytes ++ l) (c.copy_from_slice.ensures.after ∙ sum)
    ∙ ap (λ n. take (length bytes - n) bytes ++ xor_bytes (drop (length bytes - n) bytes) block)
    (sym c.told-block)
