-- From line to line of a self-test.
use Rattle.std.proofs.Common.{◌≡◌, ◌∙◌, sym, ap, add-one, ℕ, ◌+◌, ◌*◌, arith}
use Rattle.managers.specs.Table.{Table}
use Rattle.rand_chacha.specs.ChaCha.{ChaCha, key_of}
use Rattle.tinkey_selftest.specs.Numbers.{seed_bytes, words_at, words_of}
use Rattle.tinkey_selftest.specs.Trial.{Trial, after_lines, tried}
use Rattle.tinkey_selftest.specs.declared.numbers.Words.{Words}

pub line_done : (own table : Table) (seed i : ℕ) (first : Trial) (words : Words) (generator : ChaCha) (old new : Trial) → own ≡ table
    → words ≡ words_at generator.key generator.word_pos
    → generator ≡ record { key = key_of (seed_bytes seed 0); stream = 0; word_pos = 4 * i }
    → old ≡ after_lines table seed first i → new ≡ tried own words old → new ≡ after_lines table seed first (i + 1)
unfolding after_lines
line_done own table seed i first words generator old new m w g before is =
    is
    ∙ ap (λ t. tried t words old) m
    ∙ ap (λ x. tried table x old) (w ∙ ap (λ x. words_at x.key x.word_pos) g)
    ∙ ap (tried table (words_of seed i)) before
    ∙ sym (ap (after_lines table seed first) (add-one i))

pub generator_done : (seed i : ℕ) (old new : ChaCha) → old ≡ record { key = key_of (seed_bytes seed 0); stream = 0; word_pos = 4 * i }
    → new ≡ record old { word_pos = old.word_pos + 4 } → new ≡ record { key = key_of (seed_bytes seed 0); stream = 0; word_pos = 4 * (i + 1) }
generator_done seed i old new g e =
    let more : 4 * i + 4 ≡ 4 * (i + 1) = omega arith in
    let from : ChaCha → ChaCha = λ x. record x { word_pos = x.word_pos + 4 } in
    let at : ℕ → ChaCha = λ n. record { key = key_of (seed_bytes seed 0); stream = 0; word_pos = n } in
    e ∙ ap from g ∙ ap at more
