use Rattle.std.proofs.Common.{◌∙◌, ap, sym, refl, List, ℕ, arith}
use Rattle.std.specs.Str.{bytes_eq}
use Rattle.key_msgs.specs.declared.key_type.KeyType.{KeyType}
use Rattle.key_msgs.specs.KeyTypes.{type_of_url, url_of_type, all_types}
use Rattle.key_msgs.proofs.Finding.{find-passes, find-stops, find-end}
use Rattle.key_msgs.proofs.key_type.KeyType.from_url.Goals as goal

pub loop-key_type-init : goal.loop-key_type-init
unfolding type_of_url
loop-key_type-init c = refl

pub loop-key_type-preserved : goal.loop-key_type-preserved
loop-key_type-preserved c =
    let url = c.args.url.now in
    c.loop-key_type.invariant ∙ find-passes (λ (type : KeyType). bytes_eq (url_of_type type) url) all_types c.loop-key_type.key_type-index _ c.loop-key_type-test.true
    (ap (λ (u : List ℕ). bytes_eq u url) (sym c.url.ensures) ∙ sym c.eq.ensures ∙ c.if-eq.false)

pub returns-then-eq : goal.returns-then-eq
returns-then-eq c =
    let url = c.args.url.now in
    sym (c.loop-key_type.invariant ∙ find-stops (λ (type : KeyType). bytes_eq (url_of_type type) url) all_types c.loop-key_type.key_type-index _ c.loop-key_type-test.true
    (ap (λ (u : List ℕ). bytes_eq u url) (sym c.url.ensures) ∙ sym c.eq.ensures ∙ c.if-eq.true))

pub returns : goal.returns
returns c =
    let url = c.args.url.now in
    sym (c.loop-key_type.invariant ∙ find-end (λ (type : KeyType). bytes_eq (url_of_type type) url) all_types c.loop-key_type.key_type-index (omega arith))
