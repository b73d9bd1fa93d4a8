-- Small dumps to compute with.
use Rattle.std.specs.Prelude.{ℕ, zero, suc, ◌+◌, ◌*◌, true, false, List, [], ◌∷◌, ◌++◌, Some, codes, pos}
use Rattle.model_numbers.specs.Numbers.{image_base}
use Rattle.class_layout.specs.declared.kind.Kind.TheVariants.{Byte, Int}
use Rattle.class_layout.specs.ClassList.{Class, builtin_classes}
use Rattle.heap_graph.specs.declared.names.Held.TheVariants as held
use Rattle.heap_graph.specs.declared.names.Place.TheVariants.{Image}
use Rattle.heap_graph.specs.declared.names.Shape.TheVariants.{Instance}
use Rattle.heap_graph.specs.declared.names.Content.TheVariants.{Number}
use Rattle.heap_graph.specs.Graph.{Graph, Object}
use Rattle.hprof_records.specs.declared.top_record.TopRecord.{TopRecord}
use Rattle.hprof_records.specs.declared.top_record.TopRecord.TheVariants.{Text, LoadClass, Trace, Segment, Other}

-- a sealed process with the two built-in classes and no objects
abbrev pub bare_process : Graph
bare_process =
    record { classes = builtin_classes; next = 1; budget = 64; sealed = true; dumps = 0; roots = []; objects = [] }

-- so many objects without fields in the image, from a number on, 8 bytes apart
abbrev pub bare_objects : ℕ → ℕ → List Object
bare_objects number zero = []
bare_objects number (suc count) =
    record { number = number; shape = Instance 0; slots = []; place = Image (image_base + 8 * number) } ∷ bare_objects (number + 1) count

-- a process with so many objects without fields, the last of which the root `a` holds
abbrev pub process_of : ℕ → Graph
process_of count =
    record bare_process { next = count + 1; roots = record { name = codes "a"; holds = held.Object count } ∷ []; objects = bare_objects 1 count }

-- the lengths of the segments of a dump
abbrev pub segment_lengths : List TopRecord → List ℕ
segment_lengths [] = []
segment_lengths (Text time id bytes ∷ rs) = segment_lengths rs
segment_lengths (LoadClass time serial class stack name rest ∷ rs) = segment_lengths rs
segment_lengths (Trace time serial thread frames rest ∷ rs) = segment_lengths rs
segment_lengths (Segment time tag size parts ∷ rs) = size ∷ segment_lengths rs
segment_lengths (Other time tag body ∷ rs) = segment_lengths rs

-- class 2 has an int, and class 3 below it a byte
abbrev pub two_classes : List Class
two_classes =
    builtin_classes
    ++ record { name = codes "A"; parent = Some 0; fields = record { name = codes "x"; kind = Int } ∷ [] }
    ∷ record { name = codes "B"; parent = Some 2; fields = record { name = codes "y"; kind = Byte } ∷ [] }
    ∷ []

-- an object of class 3 whose int is 1 and whose byte is 2
abbrev pub one_of_each : Object
one_of_each =
    record {
      number = 1;
      shape = Instance 3;
      place = Image image_base;
      slots = record { at = record { kind = Int; offset = 8; weak = false }; value = Number (pos 1) }
          ∷ record { at = record { kind = Byte; offset = 12; weak = false }; value = Number (pos 2) } ∷ [];
    }
