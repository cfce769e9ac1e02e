-- What the calls in place compute: the counter of the text.
use Rattle.std.proofs.Common.{◌≡◌, ℕ, ◌+◌, ◌%◌, ◌^◌, List, [], ◌∷◌, ◌++◌, length, drop, ap, ◌∙◌}
use Rattle.std.proofs.lemmas.List.{drop_at, take_at}
use Rattle.std.specs.Int.{w32, from_be_bytes, to_be_bytes}
use Rattle.aes_core.specs.Counter.{counter_plus}
use Rattle.aead_kinds.specs.Gcm.{first_counter, incremented}

-- the counter behind the first one
pub second_counter : (iv : List ℕ) → length iv ≡ 12
    → incremented (first_counter iv) ≡ iv ++ 0 ∷ 0 ∷ 0 ∷ 2 ∷ []
unfolding counter_plus
second_counter iv h =
    let last : List ℕ = 0 ∷ 0 ∷ 0 ∷ 1 ∷ [] in
    ap (λ front. front ++ to_be_bytes w32 ((from_be_bytes w32 (drop 12 (iv ++ last)) + 1) % 2 ^ 32))
    (take_at iv last 12 h)
    ∙ ap (λ back. iv ++ to_be_bytes w32 ((from_be_bytes w32 back + 1) % 2 ^ 32))
    (drop_at iv last 12 h)
