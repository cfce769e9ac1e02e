use Rattle.std.proofs.Common.{◌≡◌, ◌∙◌, sym, ap, true, arith}
use Rattle.tinkey_words.specs.declared.words.rows.ValueForm.{ValueForm}
use Rattle.tinkey_words.specs.Names.{form_for}
use Rattle.tinkey_words.specs.Rows.{is_value}
use Rattle.tinkey_words.proofs.WordLemmas.{value_put}
use Rattle.tinkey_words.proofs.words.given.with_value.Goals as goal

pub returns : goal.returns
returns c =
    let formed : is_value (form_for c.args.name c.args.command) c.args.value.now ≡ true = ap (λ (form : ValueForm). is_value form c.args.value.now) (sym c.form_for-form.ensures) ∙ sym c.is_value.ensures ∙ c.if-not-is_value.false in
    rw c.write.ensures.written (value_put c.args.command c.args.name c.args.so_far.now.values c.args.so_far.now.waiting c.args.value c.args.place c.place.result c.place.ensures.place (omega (arith, c.write.ensures.size, c.place.ensures.within)) formed)
