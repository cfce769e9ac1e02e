use Rattle.std.proofs.Common.{◌≡◌, List, Result, Ok, Err}
use Rattle.std.specs.Prelude.{slice_range}
use Rattle.tink_spec.specs.Wire.{cut}
use Rattle.proto_wire.specs.Fields.{seen_all}
use Rattle.proto_wire.specs.declared.field.Field.{Field}
use Rattle.proto_wire.specs.declared.field.FieldsError.{FieldsError}
use Rattle.proto_wire.specs.declared.field.FieldsError.TheVariants as errors
use Rattle.proto_wire.proofs.Pieces.{front-read, read-more, read-stop, read-end, gives-spelled, gives-only, gives-fails, gives-fails_only}
use Rattle.proto_wire.proofs.cutting.fields.Goals as goal
use Rattle.proto_wire.proofs.cutting.fields.Goals.{After-drop-items, After-own}

abbrev failed : After-drop-items → Result (List Field) FieldsError
failed c = Err (errors.Wire (record { at = c.loop-at.at }))

stopped : (c : After-drop-items) → cut c.args.start (slice_range c.args.source.now c.args.start c.args.end) ≡ Err c.loop-at.at
stopped c = read-stop _ _ _ _ _ c.requires.within c.loop-at.invariant c.loop-at-test.true c.in_default.ensures.read

pub returns-in_default-clause-cut : goal.returns-in_default-clause-cut
returns-in_default-clause-cut c = stopped c

pub returns-in_default-clause-only : goal.returns-in_default-clause-only
returns-in_default-clause-only c = gives-only c.args.source.now c.args.start _ (failed c) (stopped c)

pub returns-in_default-clause-fails : goal.returns-in_default-clause-fails
returns-in_default-clause-fails c = gives-fails c.args.source.now c.args.start _ (failed c) (stopped c)

pub returns-in_default-clause-fails_only : goal.returns-in_default-clause-fails_only
returns-in_default-clause-fails_only c = gives-fails_only c.args.source.now c.args.start _ (failed c) (stopped c)

pub returns-in-Err-clause-no_memory : goal.returns-in-Err-clause-no_memory
returns-in-Err-clause-no_memory c = λ none. front-read _ _ _ _ _ _ c.loop-at.invariant c.in-Some.ensures.read

pub loop-at-preserved : goal.loop-at-preserved
loop-at-preserved c =
    let more = read-more _ _ _ _ c.in-Some.behind _ c.in-Some.field c.requires.within c.loop-at.invariant c.in-Some.ensures.behind.0 c.in-Some.ensures.behind.1 c.in-Some.ensures.read c.in-Some.ensures.of_source in
    rw c.in-Ok.ensures.items more

finished : (c : After-own) → cut c.args.start (slice_range c.args.source.now c.args.start c.args.end) ≡ Ok (seen_all c.args.source.now c.own.result)
finished c = rw c.own.ensures (read-end _ _ _ _ _ c.loop-at.invariant c.loop-at-test.false)

pub returns-clause-cut : goal.returns-clause-cut
returns-clause-cut c = finished c

pub returns-clause-spelled : goal.returns-clause-spelled
returns-clause-spelled c = gives-spelled c.args.source.now c.args.start _ (Ok c.own.result) (finished c)

pub returns-clause-only : goal.returns-clause-only
returns-clause-only c = gives-only c.args.source.now c.args.start _ (Ok c.own.result) (finished c)

pub returns-clause-fails_only : goal.returns-clause-fails_only
returns-clause-fails_only c = gives-fails_only c.args.source.now c.args.start _ (Ok c.own.result) (finished c)
