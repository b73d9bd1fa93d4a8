-- The classes of a wide dump, and the layouts of instances.
use Rattle.std.specs.Prelude.{ℕ, nat_eq, List, [], map, sum_by, Option, None, Some, option_and_then, if◌then◌else◌}
use Rattle.std.specs.List.{filter_map, flat_map}
use Rattle.hprof_wide.specs.declared.wide_sub.WideSub.{WideSub}
use Rattle.hprof_wide.specs.declared.wide_sub.WideSub.TheVariants.{ClassDump}
use Rattle.hprof_wide.specs.declared.wide_top.WideTop.{WideTop}
use Rattle.hprof_wide.specs.declared.wide_top.WideTop.TheVariants.{Segment}
use Rattle.hprof_wide.specs.Parts.{wide_value_bytes}
use Rattle.dump_graph.specs.Classes.{Class, layout}

-- the parts of a dump's segments, in order
abbrev pub wide_parts_of : WideTop → List WideSub
wide_parts_of (Segment time tag size parts) = parts
wide_parts_of _ = []

abbrev pub wide_parts : List WideTop → List WideSub
wide_parts records = flat_map wide_parts_of records

-- the class that a part tells
abbrev pub wide_class_of : WideSub → Option Class
wide_class_of (ClassDump id stack parent loader signers domain spare_a spare_b size constants statics fields) =
    Some (record { id = id; parent = parent; codes = map (λ f. f.1) fields })
wide_class_of _ = None

-- the class dumps, in order
abbrev pub wide_classes : List WideTop → List Class
wide_classes records = filter_map wide_class_of (wide_parts records)

-- these types, where their values have so many bytes together
abbrev pub if_of_size : ℕ → ℕ → List ℕ → Option (List ℕ)
if_of_size w size codes = if nat_eq (sum_by (wide_value_bytes w) codes) size then Some codes else None

-- the layout of an instance with so many bytes: the types of its values. It has one where the first class dumps of its
-- class and of the superclasses lead to superclass 0 without a repeat, and their fields have as many bytes together.
abbrev pub instance_layout : ℕ → List Class → ℕ → ℕ → Option (List ℕ)
instance_layout w known class size = option_and_then (if_of_size w size) (layout known class)
