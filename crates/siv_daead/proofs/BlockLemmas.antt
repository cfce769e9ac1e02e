-- The text that S2V authenticates.
use Rattle.std.proofs.Common.{◌≡◌, ℕ, ◌-◌, ◌<◌, ◌≤◌, List, ◌++◌, length, drop, take, ap, ◌∙◌}
use Rattle.std.proofs.lemmas.Bool.{cond-false, cond-true, le-ltb, lt-ltb}
use Rattle.aes_core.specs.Bytes.{xor_bytes}
use Rattle.mac_prf.specs.Cmac.{doubled_block}
use Rattle.siv_daead.specs.Siv.{mac_text, pad, xor_end}

pub mac_text-short : (d plain : List ℕ) → length plain < 16
    → mac_text d plain ≡ xor_bytes (doubled_block d) (pad plain)
unfolding mac_text
mac_text-short d plain short = cond-true _ _ _ (lt-ltb (length plain) 16 short)

pub mac_text-block : (d plain : List ℕ) → 16 ≤ length plain → mac_text d plain ≡ xor_end plain d
unfolding mac_text
mac_text-block d plain long = cond-false _ _ _ (le-ltb (length plain) 16 long)

pub mac_text-long : (d plain : List ℕ) → length d ≡ 16 → 16 ≤ length plain
    → mac_text d plain
    ≡ take (length plain - 16) plain ++ xor_bytes (drop (length plain - 16) plain) d
mac_text-long d plain block long =
    mac_text-block d plain long
    ∙ ap (λ n. take (length plain - n) plain ++ xor_bytes (drop (length plain - n) plain) d) block
