-- A small dump's listing, and that of a dump with each kind of record and part.
use Rattle.std.specs.Prelude.{ℕ, List, [], ◌∷◌, ◌++◌, None, codes}
use Rattle.hprof_records.specs.declared.sub_record.SubRecord.TheVariants as part
use Rattle.hprof_records.specs.declared.top_record.TopRecord.{TopRecord}
use Rattle.hprof_records.specs.declared.top_record.TopRecord.TheVariants as record_of
use Rattle.hprof_records.specs.Examples as dump

-- the listing of a record that is passed over, and of a segment with an array without its data
abbrev pub small_listing : List ℕ
small_listing =
    codes "JAVA PROFILE 1.0.3 id 4 time 0\n"
    ++ codes "other 0x0e length 6\n"
    ++ codes "segment 0x1c length 14\n"
    ++ codes "nodata 0x80000000 stack 0 count 12288 type 8\n"
    ++ codes "records 2 classes 0 objects 1 roots 0\n"

-- each kind of record, and in a segment each kind of part
abbrev pub each : List TopRecord
each =
    record_of.Text 17 1 (0x61 ∷ 0x5c ∷ 0x62 ∷ 0x7f ∷ 0x7e ∷ 0x20 ∷ 0x0a ∷ 0xc3 ∷ [])
    ∷ record_of.LoadClass 0 5 0x10000080 3 1 []
    ∷ record_of.Trace 0 9 4 (1 ∷ 0xdeadbeef ∷ []) []
    ∷ record_of.Segment 0 0x0c 201 (dump.parts ++ part.Root 0x90 0x80000040 None None ∷ part.Instance 0x80000050 6 0x10000000 [] ∷ [])
    ∷ record_of.Other 0 0x2c []
    ∷ []

-- their listing, as another reader of dumps made it
abbrev pub each_listing : List ℕ
each_listing =
    codes "JAVA PROFILE 1.0.3 id 4 time 1234567890123\n"
    ++ codes "string 1 a\\x5cb\\x7f~ \\x0a\\xc3\n"
    ++ codes "load 5 class 0x10000080 stack 3 name 1\n"
    ++ codes "trace 9 thread 4 frames 2 0x00000001 0xdeadbeef\n"
    ++ codes "segment 0x0c length 201\n"
    ++ codes "root 0xff 0x00000001\n"
    ++ codes "root 0x01 0x00000001 2\n"
    ++ codes "root 0x08 0x00000001 2 3\n"
    ++ codes "heap 65 name 5\n"
    ++ codes "class 0x10000080 stack 0 super 0x10000000 loader 0x00000001 signers 0x00000002 domain 0x00000003 size 16 constants 1 statics 1 fields 2\n"
    ++ codes "constant 7 type 8 ff\n"
    ++ codes "static 9 type 5 0041\n"
    ++ codes "field 10 type 10\n"
    ++ codes "field 11 type 4\n"
    ++ codes "instance 0x80000000 stack 0 class 0x10000080 0200000001\n"
    ++ codes "array 0x80000010 stack 0 class 0x10000020 count 2 0x80000000 0x00000000\n"
    ++ codes "primitive 0x80000020 stack 0 type 9 count 2 0001ffff\n"
    ++ codes "nodata 0x80000030 stack 0 count 12288 type 8\n"
    ++ codes "root 0x90 0x80000040\n"
    ++ codes "instance 0x80000050 stack 6 class 0x10000000 -\n"
    ++ codes "other 0x2c length 0\n"
    ++ codes "records 5 classes 1 objects 5 roots 4\n"
