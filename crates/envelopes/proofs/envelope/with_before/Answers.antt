-- Behind what was written stands what was there.
use borrow.Rule.Slice.PartMut.{mid_len, put_mid, same_len_mid}
use Rattle.std.proofs.Common.{◌≡◌, ◌+◌, ◌-◌, ◌≤◌, ◌∙◌, List, ℕ, ap, arith, drop, length, take_at}
use Rattle.std.proofs.lemmas.Slice.{drop-put_mid}
use Rattle.envelopes.proofs.envelope.with_before.Goals as goal

pub returns-clause-behind : goal.returns-clause-behind
returns-clause-behind c = λ n least.
    let start = c.args.start in
    let end = start + 4 + length c.args.sealed.now in
    let old : List ℕ = c.deref_mut.result.now in
    let front : List ℕ = c.write_before.new.front in
    let new : List ℕ = put_mid start (end - start) old front in
    let value = c.deref_mut.ensures.value in
    let within : end ≤ length old = omega (arith, ap length value, c.requires.within) in
    let size : length front ≡ end - start
    = c.write_before.auto.front ∙ mid_len start end old within in
    let fits : length new ≡ c.args.bytes.len
    = same_len_mid start (end - start) old front c.write_before.auto.front ∙ c.deref_mut.ensures.len in
    ap (drop n) (take_at new _ _ fits)
    ∙ drop-put_mid start (end - start) old front n (omega (arith, least)) (omega (arith, within)) size
    ∙ ap (drop n) value
