-- The new record, alone.
use Rattle.std.proofs.Common.{◌≡◌, ◌∙◌, [], Ok, None, sym, ap, subst}
use Rattle.keyset_model.specs.declared.record.Record.{Record}
use Rattle.keyset_model.specs.Keyset.{Keys, fault_of}
use Rattle.key_msgs.specs.Templates.{seen}
use Rattle.tinkey_cmds.specs.Applying.{Applied}
use Rattle.tinkey_cmds.specs.Edits.{alone, first}
use Rattle.tinkey_cmds.proofs.Applications.{applied-grown, draws-grown, first-faultless, short-alone}
use Rattle.tinkey_cmds.proofs.Wholes.{error-whole}
use Rattle.tinkey_cmds.proofs.applying.create.Goals as goal

pub returns-in-Err-clause-first : goal.returns-in-Err-clause-first
returns-in-Err-clause-first g c = applied-grown alone (seen c.args.template.now) [] c.in-Err.error _ _ c.in-Err.ensures.drawn

pub returns-in-Err-alone-clause-first : goal.returns-in-Err-alone-clause-first
returns-in-Err-alone-clause-first g c =
    (c.in-Ok.ensures.drawn.0, (Ok (alone c.in-Ok.key), draws-grown alone (seen c.args.template.now) [] c.in-Ok.key _ _ c.in-Ok.ensures.drawn.1))

pub rebuilt-requires-clause-faultless : goal.rebuilt-requires-clause-faultless
rebuilt-requires-clause-faultless g c = subst (λ rs. fault_of (record { primary = c.in-Ok.key.id; records = rs }) ≡ None) (sym c.in-Ok-alone.ensures)
    (first-faultless (seen c.args.template.now) (alone c.in-Ok.key) _ _ c.new_record.ensures.known (draws-grown alone (seen c.args.template.now) [] c.in-Ok.key _ _ c.in-Ok.ensures.drawn.1))

pub returns-clause-first : goal.returns-clause-first
returns-clause-first g c = subst (λ k. Applied (Ok k) (first (seen c.args.template.now)) (g.E.Entropy.state c.args.entropy.now) (g.E.Entropy.state c.new_record.new.entropy))
    (sym (c.rebuilt.ensures ∙ ap (λ rs. record { primary = c.in-Ok.key.id; records = rs }) c.in-Ok-alone.ensures))
    (c.in-Ok.ensures.drawn.0, draws-grown alone (seen c.args.template.now) [] c.in-Ok.key _ _ c.in-Ok.ensures.drawn.1)

pub returns-clause-short : goal.returns-clause-short
returns-clause-short g c = short-alone (seen c.args.template.now) c.in-Ok.key c.rebuilt.result _ _ c.new_record.ensures.known c.in-Ok.ensures.drawn.1
    (c.rebuilt.ensures ∙ ap (λ rs. record { primary = c.in-Ok.key.id; records = rs }) c.in-Ok-alone.ensures)

pub returns-in-Err-clause-whole : goal.returns-in-Err-clause-whole
returns-in-Err-clause-whole g c = error-whole Record Keys c.in-Err.error _ _ c.in-Err.ensures.whole
