use Rattle.std.proofs.Common.{◌∙◌, sym, rules, tests}
use Rattle.std.specs.Str.{bytes_eq}
use Rattle.std.proofs.lemmas.Iterator.{YieldsList-from_slice}
use Rattle.std.proofs.lemmas.Iterator.Consumers.{YieldsList-from_copied}
use Rattle.std.proofs.lemmas.Iterator.Search.{find_from_yields_List}
use Rattle.tinkey_words.specs.declared.words.names.CommandName.{CommandName}
use Rattle.tinkey_words.specs.Names.{row_of, all_commands}
use Rattle.tinkey_words.specs.Rows.{command_of}
use Rattle.tinkey_words.proofs.RowLemmas.{same_option}
use Rattle.tinkey_words.proofs.words.rows.command_named.Goals as goal

pub returns : goal.returns
unfolding command_of
returns c =
    let found = find_from_yields_List (λ (command : CommandName). bytes_eq (row_of command).word c.args.name.now) _ _ c.find.result c.find.ensures.ran (YieldsList-from_copied (YieldsList-from_slice all_commands cc)) (λ x b q k. search (rules, tests)) in
    sym (same_option c.find.result) ∙ found
