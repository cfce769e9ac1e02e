use Rattle.std.proofs.Common.{refl}
use Rattle.key_msgs.specs.Reading.{ctr_hmac}
use Rattle.key_msgs.proofs.ReadingLemmas.{wire_handed_on, fields_handed_on, inner_handed_on, formed-ok}
use Rattle.key_msgs.proofs.reading.read_ctr_hmac.Goals as goal

pub returns-in_err-version : goal.returns-in_err-version
unfolding ctr_hmac
returns-in_err-version c =
    wire_handed_on _ _ _ _ c.from_residual.ensures.1 (c.in_err-version.ensures c.args.source.now) (λ is. rw is refl)

pub returns-in_err-aes_message : goal.returns-in_err-aes_message
unfolding ctr_hmac
returns-in_err-aes_message c =
    let source = c.args.source.now in
    fields_handed_on source _ _ _ _ c.from_residual-in_err-aes_message.ensures.1 c.in_err-aes_message.ensures.merged (λ at is. rw (c.in_ok-version.ensures source, is) refl)

pub returns-in_err-aes : goal.returns-in_err-aes
unfolding ctr_hmac
returns-in_err-aes c =
    let source = c.args.source.now in
    inner_handed_on _ _ _ _ c.from_residual-in_err-aes.ensures.1 (rw c.aes_ctr_layout.ensures.fields at c.in_err-aes.ensures)
    (λ at is. rw (c.in_ok-version.ensures source, c.in_ok-aes_message.ensures.merged, is) refl)

pub returns-in_err-mac_message : goal.returns-in_err-mac_message
unfolding ctr_hmac
returns-in_err-mac_message c =
    let source = c.args.source.now in
    fields_handed_on source _ _ _ _ c.from_residual-in_err-mac_message.ensures.1 c.in_err-mac_message.ensures.merged
    (λ at is. rw (c.in_ok-version.ensures source, c.in_ok-aes_message.ensures.merged, formed-ok _ _ (rw c.aes_ctr_layout.ensures.fields at c.in_ok-aes.ensures), is) refl)

pub returns-in_err-mac : goal.returns-in_err-mac
unfolding ctr_hmac
returns-in_err-mac c =
    let source = c.args.source.now in
    inner_handed_on _ _ _ _ c.from_residual-in_err-mac.ensures.1 (rw c.fields_of_type.ensures.fields at c.in_err-mac.ensures)
    (λ at is. rw (c.in_ok-version.ensures source, c.in_ok-aes_message.ensures.merged, formed-ok _ _ (rw c.aes_ctr_layout.ensures.fields at c.in_ok-aes.ensures), c.in_ok-mac_message.ensures.merged, is) refl)

pub returns : goal.returns
unfolding ctr_hmac
returns c =
    let source = c.args.source.now in
    rw (c.in_ok-version.ensures source, c.in_ok-aes_message.ensures.merged, formed-ok _ _ (rw c.aes_ctr_layout.ensures.fields at c.in_ok-aes.ensures), c.in_ok-mac_message.ensures.merged, formed-ok _ _ (rw c.fields_of_type.ensures.fields at c.in_ok-mac.ensures), ← c.aes.view_is, ← c.mac.view_is, c.max-2.ensures, c.max.ensures) refl
