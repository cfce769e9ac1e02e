-- The text behind the room is enciphered under the second half of the key.
use Rattle.std.proofs.Common.{◌≡◌, ◌++◌, ◌∙◌, List, ℕ, ap, drop, sym}
use Rattle.aes_core.specs.Counter.{ctr}
use Rattle.aes_core.specs.declared.counter.CtrKind.TheVariants.{All128}
use Rattle.siv_daead.specs.Siv.{first_counter, mac_key, s2v, siv_seal, siv_text}
use Rattle.siv_daead.proofs.SivLemmas.{mac_key-joined, siv_text-joined}
use Rattle.siv_daead.proofs.siv.seal_in_place.Goals as goal

pub returns : goal.returns
unfolding siv_seal
returns c =
    let key = c.args.key.now in
    let ad = c.args.ad.now in
    let plain : List ℕ = drop 16 c.args.sealed.now in
    let mac : List ℕ = c.key.inside.mac in
    let second : List ℕ = c.key.inside.ctr in
    let siv : List ℕ = c.synthetic_iv-siv.result in
    let v : List ℕ = s2v (mac_key key) ad plain in
    let body : c.split_at_mut-room.result.1.now ≡ plain = c.split_at_mut-room.ensures.back in
    let is_siv : siv ≡ v
    = c.synthetic_iv-siv.ensures ∙ ap (λ (l : List ℕ). s2v mac ad l) body
    ∙ ap (λ (k : List ℕ). s2v k ad plain) (sym (mac_key-joined mac second c.key.invariant)
    ∙ ap mac_key c.key.view_is) in
    let text : c.crypt.new.body ≡ siv_text key siv plain
    = c.crypt.ensures ∙ ap (λ (l : List ℕ). ctr second (first_counter siv) All128 l) body
    ∙ siv_text-joined mac second siv plain c.key.invariant
    ∙ ap (λ (k : List ℕ). siv_text k siv plain) c.key.view_is in
    ap (λ (l : List ℕ). l ++ c.crypt.new.body) c.copy_from_slice.ensures.after
    ∙ ap (λ (l : List ℕ). siv ++ l) text
    ∙ ap (λ (u : List ℕ). u ++ siv_text key u plain) is_siv
