-- Shapes whose class stands.
use Rattle.std.specs.Prelude.{◌<◌, ◌≤◌, List, length}
use Rattle.model_numbers.specs.Numbers.{number_limit}
use Rattle.class_layout.specs.ClassList.{Class}
use Rattle.heap_graph.specs.declared.names.Shape.{Shape}
use Rattle.heap_graph.specs.declared.names.Shape.TheVariants.{Instance, Array}
use Rattle.heap_graph.specs.Graph.{Object}
use Rattle.heap_graph.specs.Formed.{AreObjects}

-- the class of an instance stands; an array has none
abbrev pub HasClass : List Class → Shape → Type 0
HasClass cs (Instance class) = class < length cs
HasClass cs (Array kind count) = Unit {0}

-- the classes of the objects stand, none is too large, and there are at most 268,435,456
pub record AreSmall (cs : List Class) (os : List Object) : Type 0 where
  pub objects : AreObjects cs os
  pub few : length os ≤ number_limit
