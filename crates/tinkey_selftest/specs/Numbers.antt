-- The numbers of a self-test: two generators of ChaCha20 (RFC 8439), seeded by one number.
--
--   words_of       the words of a line, from the first generator
--   random_bytes   the bytes that the second one gives
use Rattle.std.specs.Prelude.{ℕ, ◌+◌, ◌*◌, List, [], ◌∷◌, ◌++◌, replicate}
use Rattle.std.specs.Int.{w32, to_be_bytes}
use Rattle.rand_chacha.specs.ChaCha.{key_of, next_word, of_seed, word_at}
use Rattle.rand_core.specs.Steps.{fill_via_u32}
use Rattle.tinkey_selftest.specs.declared.numbers.Words.{Words}

-- ten double rounds
abbrev pub double_rounds : ℕ
double_rounds = 10

-- The 32 bytes that seed a generator: the number as four bytes, big-endian, and zeros, of which the
-- last one is 1 for the second generator.
abbrev pub seed_bytes : (seed last : ℕ) → List ℕ
seed_bytes seed last = to_be_bytes w32 seed ++ (replicate 27 0 ++ last ∷ [])

-- the first bytes of the second one, so many, each word as four bytes, little-endian
abbrev pub random_bytes : (seed count : ℕ) → List ℕ
random_bytes seed count =
    (fill_via_u32 (next_word double_rounds) count (of_seed (seed_bytes seed 1))).0

-- four words of the key stream, from this place on
abbrev pub words_at : (key : List ℕ) (place : ℕ) → Words
words_at key place = record {
  a = word_at double_rounds key 0 place;
  b = word_at double_rounds key 0 (place + 1);
  c = word_at double_rounds key 0 (place + 2);
  d = word_at double_rounds key 0 (place + 3);
}

-- the words of line k of the first generator, lines being counted from 0
abbrev pub words_of : (seed k : ℕ) → Words
words_of seed k = words_at (key_of (seed_bytes seed 0)) (4 * k)
