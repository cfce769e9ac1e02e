-- Cut by cut.
use Rattle.std.proofs.Common.{◌≡◌, ◌∙◌, sym, ap, subst, ◌∷◌, IfOk, arith}
use Rattle.std.proofs.lemmas.Str.Pattern.{split_once_first}
use Rattle.tinkey_session.proofs.ReadingLemmas.{cut_words, too_many, uncut}
use Rattle.tinkey_session.specs.Lines.{line_of_words}
use Rattle.tinkey_session.specs.Reading.{seen_line}
use Rattle.tinkey_session.proofs.line.read_words.Goals as goal

pub returns-in-None : goal.returns-in-None
returns-in-None c = sym (ap line_of_words (uncut c.args.text.now c.split_once.result (split_once_first 32 c.args.text.now c.split_once.result c.split_once.ensures.cases (omega arith)) c.in-None.is))

pub returns-in-None-split_once : goal.returns-in-None-split_once
returns-in-None-split_once c =
    let first = cut_words c.args.text.now c.split_once.result c.in-Some.name c.in-Some.words (split_once_first 32 c.args.text.now c.split_once.result c.split_once.ensures.cases (omega arith)) c.in-Some.is in
    let second = uncut c.in-Some.words.now c.split_once-in-Some.result (split_once_first 32 c.in-Some.words.now c.split_once-in-Some.result c.split_once-in-Some.ensures.cases (omega arith)) c.in-None-split_once.is in
    let words = first ∙ ap (λ ws. c.in-Some.name.now ∷ ws) second in
    subst (λ line. IfOk c.line_with_one.result (λ read. seen_line read ≡ line)) (sym (ap line_of_words words)) c.line_with_one.ensures

pub returns-in-None-split_once-2 : goal.returns-in-None-split_once-2
returns-in-None-split_once-2 c =
    let first = cut_words c.args.text.now c.split_once.result c.in-Some.name c.in-Some.words (split_once_first 32 c.args.text.now c.split_once.result c.split_once.ensures.cases (omega arith)) c.in-Some.is in
    let second = cut_words c.in-Some.words.now c.split_once-in-Some.result c.in-Some-split_once.first c.in-Some-split_once.second (split_once_first 32 c.in-Some.words.now c.split_once-in-Some.result c.split_once-in-Some.ensures.cases (omega arith)) c.in-Some-split_once.is in
    let third = uncut c.in-Some-split_once.second.now c.split_once-in-Some-split_once.result (split_once_first 32 c.in-Some-split_once.second.now c.split_once-in-Some-split_once.result c.split_once-in-Some-split_once.ensures.cases (omega arith)) c.in-None-split_once-2.is in
    let words = first ∙ ap (λ ws. c.in-Some.name.now ∷ ws) (second ∙ ap (λ ws. c.in-Some-split_once.first.now ∷ ws) third) in
    subst (λ line. IfOk c.line_with_two.result (λ read. seen_line read ≡ line)) (sym (ap line_of_words words)) c.line_with_two.ensures

pub returns-in-Some-split_once-2 : goal.returns-in-Some-split_once-2
returns-in-Some-split_once-2 c =
    let cut = c.in-Some-split_once-2.field-0 in
    let first = cut_words c.args.text.now c.split_once.result c.in-Some.name c.in-Some.words (split_once_first 32 c.args.text.now c.split_once.result c.split_once.ensures.cases (omega arith)) c.in-Some.is in
    let second = cut_words c.in-Some.words.now c.split_once-in-Some.result c.in-Some-split_once.first c.in-Some-split_once.second (split_once_first 32 c.in-Some.words.now c.split_once-in-Some.result c.split_once-in-Some.ensures.cases (omega arith)) c.in-Some-split_once.is in
    let third = cut_words c.in-Some-split_once.second.now c.split_once-in-Some-split_once.result cut.0 cut.1 (split_once_first 32 c.in-Some-split_once.second.now c.split_once-in-Some-split_once.result c.split_once-in-Some-split_once.ensures.cases (omega arith)) c.in-Some-split_once-2.is in
    let words = first ∙ ap (λ ws. c.in-Some.name.now ∷ ws) (second ∙ ap (λ ws. c.in-Some-split_once.first.now ∷ ws) third) in
    too_many c.in-Some.name.now c.in-Some-split_once.first.now cut.0.now cut.1.now ∙ sym (ap line_of_words words)
