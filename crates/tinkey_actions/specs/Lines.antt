-- The line that list-key-templates writes of a template.
use Rattle.std.specs.Prelude.{ℕ, List, [], ◌++◌, Option, if◌then◌else◌, codes}
use Rattle.key_msgs.specs.Templates.{Row}
use Rattle.key_msgs.specs.declared.primitive.Primitive.{Primitive}
use Rattle.tinkey_plans.specs.Commands.{makes_for}

-- its name and a newline, where its keys have the primitive that is asked for, and else nothing
abbrev pub line_for : Option Primitive → Row → List ℕ
line_for primitive row = if makes_for primitive row then row.name ++ codes "\n" else []
