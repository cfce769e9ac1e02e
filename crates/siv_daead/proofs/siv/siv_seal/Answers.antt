-- The list is as long as before.
use Rattle.std.proofs.Common.{◌≡◌, ◌++◌, ◌∙◌, List, ℕ, ap, arith, drop, length, take}
use Rattle.std.proofs.lemmas.List.{drop-drop, take_at}
use Rattle.siv_daead.specs.Siv.{siv_seal}
use Rattle.siv_daead.proofs.siv.siv_seal.Goals as goal

pub returns : goal.returns
returns c =
    let key = c.args.key.now in
    let at = c.args.at in
    let items = c.args.bytes.items in
    let ad = c.args.ad.now in
    let new : List ℕ = c.seal_behind.new.bytes in
    let kept : length new ≡ length c.deref_mut.result.now = c.seal_behind.auto.bytes in
    let fits : length new ≡ c.args.bytes.len = omega (arith, kept, c.deref_mut.ensures.len) in
    take_at new _ _ fits
    ∙ c.seal_behind.ensures
    ∙ ap (λ (l : List ℕ). take at l ++ siv_seal key (drop 16 (drop at l)) ad) c.deref_mut.ensures.value
    ∙ ap (λ (l : List ℕ). take at items ++ siv_seal key l ad) (drop-drop 16 at items)
