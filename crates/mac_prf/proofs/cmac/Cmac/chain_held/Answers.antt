-- What was held is one block more of those in front.
use Rattle.std.proofs.Common.{◌≡◌, ◌++◌, ◌∙◌, List, ℕ, ap, append-nil, arith, length-append, sym, take}
use Rattle.std.proofs.lemmas.List.{take_all}
use Rattle.aes_core.specs.Chain.{chained, whole_blocks}
use Rattle.mac_prf.proofs.CmacLemmas.{chained-behind}
use Rattle.mac_prf.proofs.cmac.Cmac.chain_held.Goals as goal

pub returns-clause-keeps : goal.returns-clause-keeps
returns-clause-keeps c = λ key m keeps.
    let held = c.args.self.now.held in
    let front = keeps.front in
    let all : take c.args.self.now.size held ≡ held
    = ap (λ n. take n held) c.requires ∙ take_all 16 held (omega (arith, keeps.room)) in
    record {
      front = front ++ held;
      under = keeps.under;
      parts = keeps.parts ∙ ap (λ (u : List ℕ). front ++ u) all ∙ sym (append-nil (front ++ held));
      whole = omega (arith, length-append front held, keeps.whole, keeps.room);
      room = keeps.room;
      value = c.chain-self.ensures
          ∙ ap (λ (k : List ℕ). chained k c.args.self.now.chained (whole_blocks held)) keeps.under
          ∙ ap (λ (b : List ℕ). chained key b (whole_blocks held)) keeps.value
          ∙ chained-behind key front held keeps.whole;
    }
