use Rattle.std.proofs.Common.{[], ◌++◌, length, take, ap, ◌∙◌}
use Rattle.mac_prf.specs.Hmac.{hmac}
use Rattle.mac_prf.specs.HmacState.{Holds}
use Rattle.aead_kinds.specs.CtrHmac.{ctr_hmac_tag}
use Rattle.aead_kinds.proofs.ctr_hmac.write_tag.Goals as goal

pub returns : goal.returns
unfolding ctr_hmac_tag
returns c = λ hash mac held.
    let ad = c.args.ad.now in
    let front = ad ++ c.args.iv.now ++ c.args.text.now in
    let size = c.to_be_bytes.result in
    let empty : Holds c.copy-hmac.result hash mac [] = rw c.copy-hmac.ensures held in
    let one = c.update.ensures.holds hash mac [] empty in
    let two = c.update-2.ensures.holds hash mac ad one in
    let three = c.update-3.ensures.holds hash mac (ad ++ c.args.iv.now) two in
    let four = c.update-4.ensures.holds hash mac front three in
    c.finish.ensures hash mac (front ++ size) four
    ∙ ap (λ b. take (length c.args.tag.now) (hmac hash mac (front ++ b))) c.to_be_bytes.ensures
