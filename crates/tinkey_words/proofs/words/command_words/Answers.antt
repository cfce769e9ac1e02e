use Rattle.std.proofs.Common.{◌≡◌, List, [], ◌∷◌, length, map, string_bytes, String, Global}
use Rattle.tinkey_words.specs.Words.{Reads, command_words, seen_command, with_options}
use Rattle.tinkey_words.proofs.words.command_words.Goals as goal

pub returns-in-None : goal.returns-in-None
returns-in-None c = by c.args.words.now c.in-None.ensures.cases c.with_options.ensures
  where
    by : (words : List (String Global)) → length words ≡ 0 → Reads seen_command c.with_options.result (with_options c.args.command (map string_bytes words)) → Reads seen_command c.with_options.result (command_words c.args.command (map string_bytes words))
    by [] none reads = reads
    by (word ∷ words) none reads = absurd (cc)
