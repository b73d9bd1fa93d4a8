-- The first instance without a layout.
use Rattle.std.specs.Prelude.{◌≡◌, ℕ, ◌+◌, List, [], ◌∷◌, length, Bool, false, is_none, Option, None, Some, if◌then◌else◌}
use Rattle.hprof_convert.specs.declared.convert_error.ConvertError.{ConvertError}
use Rattle.hprof_convert.specs.declared.convert_error.ConvertError.TheVariants.{NoLayout, OutOfMemory}
use Rattle.std.specs.Option.{option_or}
use Rattle.hprof_wide.specs.declared.wide_sub.WideSub.{WideSub}
use Rattle.hprof_wide.specs.declared.wide_sub.WideSub.TheVariants.{Instance}
use Rattle.hprof_wide.specs.declared.wide_top.WideTop.{WideTop}
use Rattle.hprof_wide.specs.Parts.{wide_part_bytes}
use Rattle.hprof_wide.specs.Records.{wide_record_bytes}
use Rattle.dump_graph.specs.Classes.{Class}
use Rattle.hprof_convert.specs.Layouts.{instance_layout, wide_parts_of, wide_classes}

-- whether a part is an instance without a layout
abbrev pub lacks_layout : ℕ → List Class → WideSub → Bool
lacks_layout w known (Instance id stack class bytes) = is_none (instance_layout w known class (length bytes))
lacks_layout w known _ = false

-- the place of the first such part, the first part standing at a place
abbrev pub missing_in_parts : ℕ → List Class → ℕ → List WideSub → Option ℕ
missing_in_parts w known at [] = None
missing_in_parts w known at (p ∷ ps) =
    if lacks_layout w known p then Some at else missing_in_parts w known (at + length (wide_part_bytes w p)) ps

-- the same among records, of which the first stands at a place, and its parts 9 bytes behind
abbrev pub missing_from : ℕ → List Class → ℕ → List WideTop → Option ℕ
missing_from w known at [] = None
missing_from w known at (r ∷ rs) =
    option_or (missing_in_parts w known (at + 9) (wide_parts_of r)) (missing_from w known (at + length (wide_record_bytes w r)) rs)

-- the place of the first instance without a layout in a dump of these records, whose header has 31 bytes
abbrev pub missing_layout : ℕ → List WideTop → Option ℕ
missing_layout w records = missing_from w (wide_classes records) 31 records

-- why a dump whose first instance without a layout stands at this place, if there is one, isn't converted
abbrev pub IsMissing : ConvertError → Option ℕ → Type 0
IsMissing (NoLayout offset) place = place ≡ Some offset
IsMissing OutOfMemory place = Unit {0}
