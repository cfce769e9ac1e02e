-- All but the last of the held block and the new ones are so many more of those in front.
use Rattle.std.proofs.Common.{◌≡◌, ◌+◌, ◌++◌, ◌∙◌, List, ℕ, ap, append_assoc, arith, length, length-append, sym, take}
use Rattle.std.proofs.lemmas.List.{length-drop, length-take-le, take-append-drop, take_all}
use Rattle.aes_core.specs.Chain.{chained, whole_blocks}
use Rattle.aes_core.specs.declared.counter.CtrKind.TheVariants.{All128}
use Rattle.aes_core.proofs.CounterMode.{length-ctr}
use Rattle.mac_prf.proofs.CmacLemmas.{chained-behind}
use Rattle.mac_prf.proofs.cmac.Cmac.chain_encrypted.Goals as goal

pub returns-clause-message : goal.returns-clause-message
returns-clause-message c = λ under m holds.
    let keeps = holds.keeps in
    let state = c.args.self.now in
    let held : List ℕ = state.held in
    let old : List ℕ = c.args.blocks.now in
    let new : List ℕ = c.ctr_chain.new.body in
    let front : List ℕ = keeps.front in
    let n = length old in
    let long : length new ≡ n = ap length c.ctr_chain.ensures.text
    ∙ length-ctr c.args.key.now c.args.start.now All128 old in
    let all : List ℕ = held ++ new in
    let size : length all ≡ 16 + n = omega (arith, length-append held new, keeps.room, long) in
    let before : take state.size held ≡ held
    = ap (λ k. take k held) c.requires.full ∙ take_all 16 held (omega (arith, keeps.room)) in
    let later : List ℕ = c.ctr_chain.new.held in
    let room : length later ≡ 16
    = ap length c.ctr_chain.ensures.held ∙ length-drop n all ∙ omega (arith, size) in
    let after : take state.size later ≡ later
    = ap (λ k. take k later) c.requires.full ∙ take_all 16 later (omega (arith, room)) in
    record {
      keeps = record {
        front = front ++ take n all;
        under = keeps.under;
        parts = ap (λ (l : List ℕ). l ++ new) (keeps.parts ∙ ap (λ (l : List ℕ). front ++ l) before)
            ∙ append_assoc front held new
            ∙ ap (λ (l : List ℕ). front ++ l) (sym (take-append-drop n all)
            ∙ ap (λ (l : List ℕ). take n all ++ l) (sym (after ∙ c.ctr_chain.ensures.held)))
            ∙ sym (append_assoc front (take n all) (take state.size later));
        whole = omega (
          arith,
          length-append front (take n all),
          length-take-le n all (omega (arith, size)),
          keeps.whole,
          c.requires.whole,
        );
        room = room;
        value = c.ctr_chain.ensures.last
            ∙ ap (λ (k : List ℕ). chained k state.chained (whole_blocks (take n all))) keeps.under
            ∙ ap (λ (b : List ℕ). chained under b (whole_blocks (take n all))) keeps.value
            ∙ chained-behind under front (take n all) keeps.whole;
      };
      some = λ none. absurd (omega (arith, c.requires.full, none));
    }
