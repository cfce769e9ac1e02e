-- How far a name of the tests has come. Its files tell no bytes.
use Rattle.std.specs.Prelude.{Some, None}
use Rattle.real_objects.specs.Naming.{Stage, Place}
use Rattle.real_objects.specs.Naming as stage
use Rattle.host_tests.specs.declared.folder.came.Came.{Came}
use Rattle.host_tests.specs.declared.folder.came.Came.TheVariants as came
use Rattle.host_tests.specs.declared.folder.came.Stands.{Stands}
use Rattle.host_tests.specs.declared.folder.came.Stands.TheVariants as stands

-- the stage that a test's mark stands for
abbrev pub stage_of : Came → Stage
stage_of came.Free = stage.Free
stage_of came.Starved = stage.Starved
stage_of came.Begun = stage.Begun
stage_of came.Taken = stage.Taken
stage_of came.Linkless = stage.Linkless
stage_of (came.Linked lasted) = stage.Linked None (Some lasted)
stage_of came.Opened = stage.Opened
stage_of (came.Kept lasted) = stage.Kept None (Some lasted)

-- the place that a test's mark stands for
abbrev pub place_of : Stands → Place
place_of stands.Gone = stage.Gone
place_of stands.There = stage.There
place_of stands.Left = stage.Left
