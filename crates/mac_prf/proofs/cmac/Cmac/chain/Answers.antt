-- The blocks are so many more of those in front.
use Rattle.std.proofs.Common.{◌≡◌, ◌++◌, ◌∙◌, [], List, ℕ, ap, append-nil, arith, length-append, sym, take}
use Rattle.aes_core.specs.Chain.{chained, whole_blocks}
use Rattle.mac_prf.proofs.CmacLemmas.{chained-behind}
use Rattle.mac_prf.proofs.cmac.Cmac.chain.Goals as goal

pub returns-clause-keeps : goal.returns-clause-keeps
returns-clause-keeps c = λ key m keeps.
    let held = c.args.self.now.held in
    let front = keeps.front in
    let blocks = c.args.blocks.now in
    let none : take c.args.self.now.size held ≡ [] = ap (λ n. take n held) c.requires.none in
    let before : m ≡ front = keeps.parts ∙ ap (λ (u : List ℕ). front ++ u) none ∙ append-nil front in
    record {
      front = front ++ blocks;
      under = keeps.under;
      parts = ap (λ (u : List ℕ). u ++ blocks) before ∙ sym (append-nil (front ++ blocks))
          ∙ ap (λ (u : List ℕ). (front ++ blocks) ++ u) (sym none);
      whole = omega (arith, length-append front blocks, keeps.whole, c.requires.whole);
      room = keeps.room;
      value = c.chain-self.ensures
          ∙ ap (λ (k : List ℕ). chained k c.args.self.now.chained (whole_blocks blocks)) keeps.under
          ∙ ap (λ (b : List ℕ). chained key b (whole_blocks blocks)) keeps.value
          ∙ chained-behind key front blocks keeps.whole;
    }
