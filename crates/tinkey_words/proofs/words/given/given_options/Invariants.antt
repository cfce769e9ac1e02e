use Rattle.std.proofs.Common.{◌≡◌, ◌+◌, drop, map, string_bytes}
use Rattle.tinkey_words.specs.Words.{options_of, given_in, seen_options}
use Rattle.tinkey_words.proofs.words.given.given_options.Given as goal

-- the options of the rest, behind those so far, are those of all
abbrev pub invariant-loop-i : goal.invariant-loop-i
invariant-loop-i l = options_of l.command (l.i + 1) (seen_options l.so_far) (map string_bytes (drop l.i l.words)) ≡ given_in l.command (map string_bytes l.words)
