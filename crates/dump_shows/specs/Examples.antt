-- Small dumps to read.
use Rattle.std.specs.Prelude.{List, [], ◌∷◌, None, codes}
use Rattle.hprof_records.specs.declared.sub_record.SubRecord.TheVariants.{Root, HeapInfo, ClassDump, Instance, PrimitiveArray}
use Rattle.hprof_records.specs.declared.top_record.TopRecord.{TopRecord}
use Rattle.hprof_records.specs.declared.top_record.TopRecord.TheVariants.{Text, LoadClass, Segment}

-- class A has an int x, and class B below it a byte y; an object of B has the values 1 and -2, and a root holds it
abbrev pub one_object : List TopRecord
one_object =
    Text 0 1 (codes "A")
    ∷ Text 0 2 (codes "x")
    ∷ Text 0 3 (codes "B")
    ∷ Text 0 4 (codes "y")
    ∷ LoadClass 0 1 0x10000080 0 1 []
    ∷ LoadClass 0 2 0x100000c0 0 3 []
    ∷ Segment 0 0x1c 123
    (Root 0xff 0x20000000 None None
    ∷ ClassDump 0x10000080 0 0x10000000 0 0 0 0 0 12 [] [] ((2, 10) ∷ [])
    ∷ ClassDump 0x100000c0 0 0x10000080 0 0 0 0 0 13 [] [] ((4, 8) ∷ [])
    ∷ Instance 0x20000000 0 0x100000c0 (0xfe ∷ 0 ∷ 0 ∷ 0 ∷ 1 ∷ [])
    ∷ [])
    ∷ []

-- an object in the image, an array of two shorts in the app's heap, and in a segment of its own an object in no heap
abbrev pub three_heaps : List TopRecord
three_heaps =
    Text 0 1 (codes "app")
    ∷ Text 0 2 (codes "image")
    ∷ Segment 0 0x1c 53
    (HeapInfo 73 2
    ∷ Instance 0x20000000 0 0x10000000 []
    ∷ HeapInfo 65 1
    ∷ PrimitiveArray 0x40000000 0 9 2 (0x00 ∷ 0x01 ∷ 0xff ∷ 0xff ∷ [])
    ∷ [])
    ∷ Segment 0 0x1c 17 (Instance 0x20000008 0 0x10000000 [] ∷ [])
    ∷ []
