-- Keysets that are created by the templates that list-key-templates --for names.
use Rattle.std.specs.Prelude.{◌≡◌, ℕ, List, true, None, Some}
use Rattle.key_msgs.specs.declared.primitive.Primitive.{Primitive}
use Rattle.key_msgs.specs.declared.primitive.Primitive.TheVariants.{Stream}
use Rattle.keyset_model.specs.Keyset.{Keys}
use Rattle.managers.specs.Standard.{standard_table}
use Rattle.segment_stream.specs.StreamKeys.{stream_unfit}
use Rattle.tinkey_plans.specs.Commands.{makes_for}
use Rattle.tinkey_readable.specs.Runs.{IsCreated}
use Rattle.wrapped_prims.specs.Fitness.{unfit}

-- The first keyset of a template that is named for this primitive serves it.
abbrev pub TemplatesServe : Primitive → Type 0
TemplatesServe primitive = (template random : List ℕ) (new : Keys)
    (created : IsCreated template random new) → makes_for (Some primitive) created.row ≡ true
    → unfit new primitive standard_table ≡ None

-- so it is of streams
abbrev pub StreamTemplatesServe : Type 0
StreamTemplatesServe = (template random : List ℕ) (new : Keys)
    (created : IsCreated template random new) → makes_for (Some Stream) created.row ≡ true
    → stream_unfit new ≡ None
