-- The values of instances, as they are read through class dumps.
use Rattle.std.specs.Prelude.{ℕ, List, length, Option, None, option_map}
use Rattle.hprof_records.specs.declared.sub_record.SubRecord.{SubRecord}
use Rattle.hprof_records.specs.declared.sub_record.SubRecord.TheVariants as part
use Rattle.hprof_wide.specs.declared.wide_sub.WideSub.{WideSub}
use Rattle.hprof_wide.specs.declared.wide_sub.WideSub.TheVariants.{Instance}
use Rattle.dump_graph.specs.Classes.{Class}
use Rattle.hprof_convert.specs.Values.{values_of, renamed_value}
use Rattle.hprof_convert.specs.Layouts.{instance_layout}

-- the values of an instance of a class, each behind its type: its bytes cut by its layout, where it has one
abbrev pub instance_values : ℕ → List Class → ℕ → List ℕ → Option (List (ℕ × List ℕ))
instance_values w known class bytes =
    option_map (λ codes. values_of w codes bytes) (instance_layout w known class (length bytes))

-- the same of a part that is an instance, in a wide dump and in one with identifiers of 4 bytes
abbrev pub wide_values_read : ℕ → List Class → WideSub → Option (List (ℕ × List ℕ))
wide_values_read w known (Instance id stack class bytes) = instance_values w known class bytes
wide_values_read w known _ = None

abbrev pub values_read : List Class → SubRecord → Option (List (ℕ × List ℕ))
values_read known (part.Instance id stack class bytes) = instance_values 4 known class bytes
values_read known _ = None

-- a value behind its type, with its identifier renamed, if it is one
abbrev pub renamed_typed : ℕ → List ℕ → ℕ × List ℕ → ℕ × List ℕ
renamed_typed w names v = (v.0, renamed_value w names v)
