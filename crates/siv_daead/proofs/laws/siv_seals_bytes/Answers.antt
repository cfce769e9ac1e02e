-- V is a tag of CMAC, and counter mode keeps to bytes.
use Rattle.std.proofs.Common.{◌<◌, ◌/◌, List, ℕ, length}
use Rattle.std.proofs.lemmas.List.Elements.{All-append, All-drop, All-take}
use Rattle.aes_core.specs.declared.counter.CtrKind.TheVariants.{All128}
use Rattle.aes_core.proofs.Bounds.{ctr-gives_bytes}
use Rattle.siv_daead.specs.Siv.{ctr_key, first_counter, mac_key, s2v, siv_seal, siv_text}
use Rattle.siv_daead.proofs.laws.siv_seals_bytes.Goals as goal

pub returns : goal.returns
unfolding siv_seal s2v siv_text
returns c = λ key plain ad k p.
    let half = length key / 2 in
    let v : List ℕ = s2v (mac_key key) ad plain in
    let is_siv = (c.cmac_has_a_block.ensures (mac_key key) _ (All-take (λ b. b < 256) half key k)).1 in
    let is_text = (ctr-gives_bytes (ctr_key key) (first_counter v) All128 plain
    (All-drop (λ b. b < 256) half key k) p).1 in
    All-append (λ b. b < 256) v (siv_text key v plain) is_siv is_text
