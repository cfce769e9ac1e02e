use Rattle.std.proofs.Common.{◌≡◌, ◌++◌, ◌∙◌, [], ap, ℕ, List}
use Rattle.std.specs.Prelude.{codes}
use Rattle.tinkey_words.specs.Names.{form_for, option_row}
use Rattle.tinkey_words.specs.Rows.{temporary}
use Rattle.tinkey_plans.specs.Misfits.{dash_text, misfit_text, told_of}
use Rattle.tinkey_plans.proofs.misfit.push_misfit.Goals as goal

pub returns-in-Temporary-clause-text : goal.returns-in-Temporary-clause-text
unfolding misfit_text
returns-in-Temporary-clause-text c =
    rw c.in-Temporary.is
    (c.push_told-in-Temporary.ensures.text
    ∙ ap (λ (word : List ℕ). c.args.line.now ++ told_of word (codes " takes no name that begins as tinkey's own do, ") temporary c.in-Temporary.command) c.option_word-in-Temporary.ensures.word)

pub returns-in-Dash-clause-text : goal.returns-in-Dash-clause-text
unfolding misfit_text
returns-in-Dash-clause-text c =
    let why : c.dash_text-why.result.now ≡ dash_text (form_for c.in-Dash.name c.in-Dash.command) = c.dash_text-why.ensures.text ∙ ap dash_text c.form_for.ensures in
    rw c.in-Dash.is
    (c.push_told-in-Dash.ensures.text
    ∙ ap (λ (word : List ℕ). c.args.line.now ++ told_of word (codes " takes no -") c.dash_text-why.result.now c.in-Dash.command) c.option_word-in-Dash.ensures.word
    ∙ ap (λ (text : List ℕ). c.args.line.now ++ told_of (option_row c.in-Dash.name).word (codes " takes no -") text c.in-Dash.command) why)

pub returns-in-OddHex-clause-text : goal.returns-in-OddHex-clause-text
unfolding misfit_text
returns-in-OddHex-clause-text c =
    rw c.in-OddHex.is
    (c.push_told-in-OddHex.ensures.text
    ∙ ap (λ (word : List ℕ). c.args.line.now ++ told_of word (codes " takes an even number of digits, two for each byte") [] c.in-OddHex.command) c.option_word-in-OddHex.ensures.word)

pub returns-in-NoStream-clause-text : goal.returns-in-NoStream-clause-text
unfolding misfit_text
returns-in-NoStream-clause-text c =
    rw c.in-NoStream.is
    (c.push_told-in-NoStream.ensures.text
    ∙ ap (λ (word : List ℕ). c.args.line.now ++ told_of word (codes " stands without ") (codes "--as stream") c.in-NoStream.command) c.option_word-in-NoStream.ensures.word)
