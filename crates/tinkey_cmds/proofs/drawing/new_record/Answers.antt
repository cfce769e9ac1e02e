-- The id first, then the key.
use Rattle.std.proofs.Common.{◌≡◌, ◌∙◌, ◌≤◌, length, take, arith, Ok, subst, sym}
use Rattle.std.specs.Option.{option_copied}
use Rattle.std.proofs.lemmas.List.{length-take-le}
use Rattle.key_msgs.specs.Templates.{seen, random_of}
use Rattle.tinkey_cmds.specs.Applying.{records_in, Draws}
use Rattle.tinkey_cmds.specs.Edits.{new_record, record_of}
use Rattle.tinkey_cmds.proofs.Drawings.{ran_out-key, draws-key}
use Rattle.tinkey_cmds.proofs.Wholes.{id-fault, ids-lost}
use Rattle.tinkey_cmds.proofs.drawing.new_record.Goals as goal

pub returns-in-Err-draw_key-clause-drawn : goal.returns-in-Err-draw_key-clause-drawn
returns-in-Err-draw_key-clause-drawn g c =
    let id = rw c.in-Ok-Some.field-0-is at c.in-Ok-Some.ensures.id in
    ran_out-key (seen c.args.template.now) (records_in (option_copied c.args.keyset)) c.in-Ok-Some.id c.random_len-size.result _ _ _ id.1 c.random_len-size.ensures.size
    (subst (λ n. 1 ≤ n) c.random_len-size.ensures.size c.random_len-size.ensures.least) c.in-Err-draw_key.ensures.failed

pub returns-in-Ok-record_of-clause-drawn : goal.returns-in-Ok-record_of-clause-drawn
returns-in-Ok-record_of-clause-drawn g c =
    let row = seen c.args.template.now in
    let records = records_in (option_copied c.args.keyset) in
    let id = rw c.in-Ok-Some.field-0-is at c.in-Ok-Some.ensures.id in
    let size : length (take c.random_len-size.result c.draw_key.new.material) ≡ random_of row
    = length-take-le c.random_len-size.result c.draw_key.new.material (omega (arith, c.draw_key.array_long, c.random_len-size.ensures.most)) ∙ c.random_len-size.ensures.size in (
      c.in-Ok.ensures.no_fault ∙ id.0,
      subst (λ key. Draws (new_record row records) (g.E.Entropy.state c.args.entropy.now) (g.E.Entropy.state c.draw_key.new.entropy) (Ok key)) (sym c.in-Ok-record_of.ensures.key)
          (draws-key row records c.in-Ok-Some.id _ _ _ _ id.1 c.in-Ok.ensures.key size),
    )

pub returns-in-Err-record_of-clause-drawn : goal.returns-in-Err-record_of-clause-drawn
returns-in-Err-record_of-clause-drawn g c =
    let row = seen c.args.template.now in
    let records = records_in (option_copied c.args.keyset) in
    let id = rw c.in-Ok-Some.field-0-is at c.in-Ok-Some.ensures.id in
    let size : length (take c.random_len-size.result c.draw_key.new.material) ≡ random_of row
    = length-take-le c.random_len-size.result c.draw_key.new.material (omega (arith, c.draw_key.array_long, c.random_len-size.ensures.most)) ∙ c.random_len-size.ensures.size in (
      c.in-Ok.ensures.no_fault ∙ id.0,
      (
        Ok (record_of row c.in-Ok-Some.id (take c.random_len-size.result c.draw_key.new.material)),
        draws-key row records c.in-Ok-Some.id _ _ _ _ id.1 c.in-Ok.ensures.key size,
      ),
    )

pub returns-in-Err-draw_key-clause-whole : goal.returns-in-Err-draw_key-clause-whole
returns-in-Err-draw_key-clause-whole g c = ids-lost _ _ _ c.random_len-size.result 64 c.random_len-size.ensures.most c.in-Ok-Some.ensures.ids c.in-Err-draw_key.ensures.failed

pub returns-in-Err-clause-whole : goal.returns-in-Err-clause-whole
returns-in-Err-clause-whole g c = id-fault _ _ c.in-Err.ensures.lost
