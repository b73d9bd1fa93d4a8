-- Two wide dumps, converted, and one that isn't, to read the definitions by.
use Rattle.std.specs.Prelude.{List, [], ◌∷◌}
use Rattle.hprof_records.specs.declared.sub_record.SubRecord.TheVariants as part
use Rattle.hprof_records.specs.declared.top_record.TopRecord.{TopRecord}
use Rattle.hprof_records.specs.declared.top_record.TopRecord.TheVariants as record_of
use Rattle.hprof_wide.specs.declared.wide_sub.WideSub.TheVariants as wide_part
use Rattle.hprof_wide.specs.declared.wide_top.WideTop.{WideTop}
use Rattle.hprof_wide.specs.declared.wide_top.WideTop.TheVariants as wide_record

-- the string `A`, whose identifier is the only one
abbrev pub one_string : List TopRecord
one_string = record_of.Text 0 1 (0x41 ∷ []) ∷ []

-- a segment with a class that has one field, a reference, and an instance that refers to itself: the class is 1, the name
-- of its field 2, the instance and its value 3
abbrev pub loop_of_one : List TopRecord
loop_of_one =
    record_of.Segment 0 0x1c 69
    (part.ClassDump 1 0 0 0 0 0 0 0 8 [] [] ((2, 2) ∷ []) ∷ part.Instance 3 0 1 (0 ∷ 0 ∷ 0 ∷ 3 ∷ []) ∷ [])
    ∷ []

-- a segment with that instance, without its class
abbrev pub no_class : List WideTop
no_class =
    wide_record.Segment 0 0x1c 33 (wide_part.Instance 0x30 0 0x20 (0 ∷ 0 ∷ 0 ∷ 0 ∷ 0 ∷ 0 ∷ 0 ∷ 0x30 ∷ []) ∷ []) ∷ []

-- two records that are passed over, of which the second is the end of a heap dump
abbrev pub an_end : List WideTop
an_end = wide_record.Other 0 0x0e (0 ∷ []) ∷ wide_record.Other 0 0x2c [] ∷ []
