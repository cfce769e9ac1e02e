use Rattle.std.proofs.Common.{◌∙◌, sym, rules, tests}
use Rattle.std.specs.Str.{bytes_eq}
use Rattle.std.proofs.lemmas.Iterator.{YieldsList-from_slice}
use Rattle.std.proofs.lemmas.Iterator.Consumers.{YieldsList-from_copied}
use Rattle.std.proofs.lemmas.Iterator.Search.{find_from_yields_List}
use Rattle.tinkey_words.specs.declared.words.names.OptionName.{OptionName}
use Rattle.tinkey_words.specs.Names.{option_row, all_options}
use Rattle.tinkey_words.specs.Rows.{option_of}
use Rattle.tinkey_words.proofs.RowLemmas.{same_option}
use Rattle.tinkey_words.proofs.words.rows.option_named.Goals as goal

pub returns : goal.returns
unfolding option_of
returns c =
    let found = find_from_yields_List (λ (option : OptionName). bytes_eq (option_row option).word c.args.name.now) _ _ c.find.result c.find.ensures.ran (YieldsList-from_copied (YieldsList-from_slice all_options cc)) (λ x b q k. search (rules, tests)) in
    sym (same_option c.find.result) ∙ found
