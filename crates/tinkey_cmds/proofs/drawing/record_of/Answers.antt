-- A template's key is short.
use Rattle.std.proofs.Common.{◌∙◌, ap, ◌≤◌, ◌^◌, length, arith, subst, sym}
use Rattle.key_msgs.specs.Keys.{contents_of}
use Rattle.key_msgs.specs.Templates.{seen}
use Rattle.key_msgs.specs.Writing.{ListsWithin, value_of}
use Rattle.key_msgs.proofs.Made.{made-within}
use Rattle.key_msgs.proofs.TableLemmas.{most_random}
use Rattle.tinkey_cmds.proofs.Kept.{sizes_made}
use Rattle.tinkey_cmds.proofs.drawing.record_of.Goals as goal

pub write_key-requires : goal.write_key-requires
write_key-requires c =
    let row = seen c.args.template.now in
    let few : length c.args.random.now ≤ 2 ^ 30 = omega (arith, c.requires.size, most_random row c.requires.template) in
    record { lists_bound = subst (λ key. ListsWithin (2 ^ 30) (contents_of key)) (sym c.in_ok-key.ensures) (made-within (2 ^ 30) row.recipe c.args.random.now few) }

pub returns-clause-sizes : goal.returns-clause-sizes
returns-clause-sizes c =
    let sizes = sizes_made (seen c.args.template.now) c.args.id c.args.random.now _ _ c.requires.template c.requires.size
    (c.in_ok-copy.ensures ∙ c.url.ensures) (c.own.ensures ∙ c.in_ok-value.ensures ∙ ap value_of c.in_ok-key.ensures) in
    record { url = sizes.0; value = sizes.1 }
