use Rattle.std.proofs.Common.{◌∙◌, refl, sym}
use Rattle.keyset_json.specs.Reading.{without_newline}
use Rattle.keyset_json.proofs.reading.without_newline.Goals as goal

pub returns-then-ends_in_newline : goal.returns-then-ends_in_newline
unfolding without_newline
returns-then-ends_in_newline c = rw (sym c.ends_in_newline.ensures.newline ∙ c.if-ends_in_newline.true) refl

pub returns-else-ends_in_newline : goal.returns-else-ends_in_newline
unfolding without_newline
returns-else-ends_in_newline c = rw (sym c.ends_in_newline.ensures.newline ∙ c.if-ends_in_newline.false) refl
