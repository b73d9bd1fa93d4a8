-- The records of a dump with identifiers of 4 bytes, as those of a wide dump.
use Rattle.std.specs.Prelude.{map}
use Rattle.hprof_records.specs.declared.sub_record.SubRecord.{SubRecord}
use Rattle.hprof_records.specs.declared.sub_record.SubRecord.TheVariants as narrow
use Rattle.hprof_records.specs.declared.top_record.TopRecord.{TopRecord}
use Rattle.hprof_records.specs.declared.top_record.TopRecord.TheVariants as narrow_top
use Rattle.hprof_wide.specs.declared.wide_sub.WideSub.{WideSub}
use Rattle.hprof_wide.specs.declared.wide_sub.WideSub.TheVariants.{Root, HeapInfo, ClassDump, Instance, ObjectArray, PrimitiveArray, NoData}
use Rattle.hprof_wide.specs.declared.wide_top.WideTop.{WideTop}
use Rattle.hprof_wide.specs.declared.wide_top.WideTop.TheVariants.{Text, LoadClass, Trace, Segment, Other}

-- a part with the same fields
abbrev pub wide_part_of : SubRecord → WideSub
wide_part_of (narrow.Root tag id first second) = Root tag id first second
wide_part_of (narrow.HeapInfo heap name) = HeapInfo heap name
wide_part_of (narrow.ClassDump id stack parent loader signers domain spare_a spare_b size constants statics fields) =
    ClassDump id stack parent loader signers domain spare_a spare_b size constants statics fields
wide_part_of (narrow.Instance id stack class bytes) = Instance id stack class bytes
wide_part_of (narrow.ObjectArray id stack class items) = ObjectArray id stack class items
wide_part_of (narrow.PrimitiveArray id stack code count bytes) = PrimitiveArray id stack code count bytes
wide_part_of (narrow.NoData id stack count code) = NoData id stack count code

-- a record with the same fields
abbrev pub wide_record_of : TopRecord → WideTop
wide_record_of (narrow_top.Text time id bytes) = Text time id bytes
wide_record_of (narrow_top.LoadClass time serial class stack name rest) = LoadClass time serial class stack name rest
wide_record_of (narrow_top.Trace time serial thread frames rest) = Trace time serial thread frames rest
wide_record_of (narrow_top.Segment time tag size parts) = Segment time tag size (map wide_part_of parts)
wide_record_of (narrow_top.Other time tag body) = Other time tag body
