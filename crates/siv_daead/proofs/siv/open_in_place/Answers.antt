-- Counter mode undoes itself.
use Rattle.std.proofs.Common.{◌≡◌, ◌↔◌, ◌∙◌, IsTrue, List, ℕ, ap, sym}
use Rattle.std.proofs.lemmas.Bool.{OnFalse_from}
use Rattle.siv_daead.specs.Siv.{mac_key, s2v, siv_text}
use Rattle.siv_daead.proofs.SivLemmas.{siv_text-joined, siv_text-siv_text}
use Rattle.siv_daead.proofs.siv.open_in_place.Goals as goal
use Rattle.siv_daead.proofs.siv.open_in_place.Goals.{After-same_bytes-same}

authentic : (c : After-same_bytes-same) → IsTrue c.same_bytes-same.result
    ↔ (c.args.siv.now ≡ s2v (mac_key c.args.key.now) c.args.ad.now
    (siv_text c.args.key.now c.args.siv.now c.args.body.now))
authentic c =
    let anew = c.decrypt_and_mac.ensures.mac
    ∙ ap (λ (l : List ℕ). s2v (mac_key c.args.key.now) c.args.ad.now l) c.decrypt_and_mac.ensures.text in (
      λ same. c.same_bytes-same.ensures.0 same ∙ anew,
      λ same. c.same_bytes-same.ensures.1 (same ∙ sym anew),
    )

pub returns-then-not-same-clause-authentic : goal.returns-then-not-same-clause-authentic
returns-then-not-same-clause-authentic c =
    authentic (goal.at.returns-then-not-same-clause-authentic c).After-same_bytes-same

pub returns-then-not-same-clause-kept : goal.returns-then-not-same-clause-kept
returns-then-not-same-clause-kept c =
    let key = c.args.key.now in
    let siv = c.args.siv.now in
    let text : List ℕ = c.decrypt_and_mac.new.body in
    OnFalse_from _ _ (λ other. c.crypt.ensures
    ∙ siv_text-joined c.key.inside.mac c.key.inside.ctr siv text c.key.invariant
    ∙ ap (λ (k : List ℕ). siv_text k siv text) c.key.view_is
    ∙ ap (λ (l : List ℕ). siv_text key siv l) c.decrypt_and_mac.ensures.text
    ∙ siv_text-siv_text key siv c.args.body.now)

pub returns-else-not-same-clause-authentic : goal.returns-else-not-same-clause-authentic
returns-else-not-same-clause-authentic c =
    authentic (goal.at.returns-else-not-same-clause-authentic c).After-same_bytes-same
