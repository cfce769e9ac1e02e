-- The room is filled, all but the last block is chained, and that one is held.
use Rattle.std.proofs.Common.{rules, ◌≡◌, ◌++◌, ◌∙◌, List, ℕ, ap, append_assoc, arith, subst}
use Rattle.mac_prf.specs.CmacState.{Keeps}
use Rattle.mac_prf.proofs.cmac.Cmac.update.Goals as goal

pub returns-else-body-room : goal.returns-else-body-room
returns-else-body-room c = λ key m holds.
    let body = c.args.body.now in
    let front = c.split_at.result.0.now in
    let back = c.split_at.result.1.now in
    let blocks = c.split_at-else-body-room.result.0.now in
    let last = c.split_at-else-body-room.result.1.now in
    let filled = c.hold-else-body-room.ensures.keeps key m holds.keeps in
    let chained = c.chain.ensures.keeps key (m ++ front)
    (c.chain_held.ensures.keeps key (m ++ front) filled) in
    let held = c.hold-else-body-room-2.ensures.keeps key ((m ++ front) ++ blocks) chained in
    let behind : blocks ++ last ≡ back = search rules in
    let all : front ++ back ≡ body = search rules in
    let joined : ((m ++ front) ++ blocks) ++ last ≡ m ++ body
    = append_assoc (m ++ front) blocks last
    ∙ ap (λ (u : List ℕ). (m ++ front) ++ u) behind ∙ append_assoc m front back
    ∙ ap (λ (u : List ℕ). m ++ u) all in
    record {
      keeps = subst (Keeps _ key) joined held;
      some = λ none. absurd (omega arith);
    }
