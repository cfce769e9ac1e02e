-- What stands between the two rooms is the plaintext.
use Rattle.std.proofs.Common.{◌≡◌, ◌+◌, ◌-◌, ◌++◌, ◌∙◌, List, ℕ, ap, arith, drop, length, sym, take}
use Rattle.std.proofs.lemmas.List.{append_assoc}
use Rattle.aead_kinds.specs.EncryptThenTag.{sealed_by, text_of}
use Rattle.aead_kinds.specs.SchemeState.{crypt_under, tag_size_of, tag_under}
use Rattle.aead_kinds.proofs.scheme.Scheme.seal.Goals as goal

pub returns : goal.returns
unfolding sealed_by
returns c = λ hash mac under.
    let scheme = c.args.self.now in
    let iv = c.args.iv.now in
    let ad = c.args.ad.now in
    let bytes = c.args.sealed.now in
    let v : ℕ = length iv in
    let t = c.tag_size.result in
    let plain : List ℕ = text_of v (tag_size_of scheme) bytes in
    let text : List ℕ = c.encrypt_and_tag.new.body in
    let tag : List ℕ = c.encrypt_and_tag.new.tag in
    let size : length bytes - t - v ≡ length bytes - (v + tag_size_of scheme)
    = omega (arith, c.tag_size.ensures.size) in
    let body : c.split_at_mut-body.result.0.now ≡ plain
    = c.split_at_mut-body.ensures.front
    ∙ ap (λ (l : List ℕ). take (length bytes - t - v) l) c.split_at_mut-room.ensures.back
    ∙ ap (λ n. take n (drop v bytes)) size in
    let crypted : text ≡ crypt_under scheme iv plain
    = c.encrypt_and_tag.ensures.text ∙ ap (λ (l : List ℕ). crypt_under scheme iv l) body in
    let whole : List ℕ → List ℕ = λ l. iv ++ (l ++ tag_under scheme hash mac iv ad l) in
    ap (λ (l : List ℕ). l ++ (text ++ tag)) c.copy_from_slice.ensures.after
    ∙ ap (λ (l : List ℕ). iv ++ (text ++ l)) (c.encrypt_and_tag.ensures.tag hash mac under)
    ∙ ap whole crypted
    ∙ sym (append_assoc iv (crypt_under scheme iv plain) (tag_under scheme hash mac iv ad (crypt_under scheme iv plain)))
