-- A text that is UTF-8 is read as it stands.
use Rattle.std.proofs.Common.{◌∙◌, ap, sym}
use Rattle.serde_json.specs.Read.{read}
use Rattle.keyset_json.proofs.ReadingLemmas.{value_read, no_value, too_deep}
use Rattle.keyset_json.proofs.reading.read_value.Goals as goal

pub returns-then-not-is_shallow-clause-none : goal.returns-then-not-is_shallow-clause-none
returns-then-not-is_shallow-clause-none c = too_deep c.args.text.now (sym c.is_shallow.ensures ∙ c.if-not-is_shallow.true)

pub returns-in-Ok-from_str-clause-value : goal.returns-in-Ok-from_str-clause-value
returns-in-Ok-from_str-clause-value c =
    value_read c.args.text.now _ c.in-Ok.ensures.cases.1 (sym c.is_shallow.ensures ∙ c.if-not-is_shallow.false) (ap read (sym c.in-Ok.ensures.cases.0) ∙ c.in-Ok-from_str.ensures.ok)

pub returns-in_default-clause-none : goal.returns-in_default-clause-none
returns-in_default-clause-none c = no_value c.args.text.now (λ utf8. absurd (c.in_default.ensures.cases.0 utf8))

pub returns-in_default-classify-clause-none : goal.returns-in_default-classify-clause-none
returns-in_default-classify-clause-none c =
    no_value c.args.text.now (λ utf8. ap read (sym c.in-Ok.ensures.cases.0)
    ∙ c.in-Err.ensures.err (λ memory. c.in_default-classify.not-Memory (c.classify.ensures.memory.1 memory)))
