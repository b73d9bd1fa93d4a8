-- What holds of every command of a script.
use Rattle.std.specs.Prelude.{◌≤◌, length}
use Rattle.model_numbers.specs.Numbers.{field_limit}
use Rattle.heap_world.specs.declared.command.Verb.{Verb}
use Rattle.heap_world.specs.declared.command.Verb.TheVariants as verb

-- a class line declares at most 4,096 fields
abbrev pub HasFewFields : Verb → Type 0
HasFewFields (verb.Class name parent fields) = length fields ≤ field_limit
HasFewFields v = Unit {0}
