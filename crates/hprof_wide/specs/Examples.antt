-- Two wide dumps beside their bytes, to read the definitions by.
use Rattle.std.specs.Prelude.{ℕ, List, [], ◌∷◌}
use Rattle.hprof_wide.specs.declared.wide_sub.WideSub.TheVariants as part
use Rattle.hprof_wide.specs.declared.wide_top.WideTop.{WideTop}
use Rattle.hprof_wide.specs.declared.wide_top.WideTop.TheVariants as record_of

-- the string `A`
abbrev pub one_string : List WideTop
one_string = record_of.Text 0 0x7f0000000010 (0x41 ∷ []) ∷ []

-- its dump of 1.0.3 with identifiers of 8 bytes, at time 0
abbrev pub one_string_bytes : List ℕ
one_string_bytes =
    0x4a ∷ 0x41 ∷ 0x56 ∷ 0x41 ∷ 0x20 ∷ 0x50 ∷ 0x52 ∷ 0x4f ∷ 0x46 ∷ 0x49 ∷ 0x4c ∷ 0x45 ∷ 0x20 ∷ 0x31 ∷ 0x2e ∷ 0x30
    ∷ 0x2e ∷ 0x33 ∷ 0x00 ∷ 0x00 ∷ 0x00 ∷ 0x00 ∷ 0x08 ∷ 0x00 ∷ 0x00 ∷ 0x00 ∷ 0x00 ∷ 0x00 ∷ 0x00 ∷ 0x00 ∷ 0x00 ∷ 0x01
    ∷ 0x00 ∷ 0x00 ∷ 0x00 ∷ 0x00 ∷ 0x00 ∷ 0x00 ∷ 0x00 ∷ 0x09 ∷ 0x00 ∷ 0x00 ∷ 0x7f ∷ 0x00 ∷ 0x00 ∷ 0x00 ∷ 0x00 ∷ 0x10
    ∷ 0x41 ∷ []

-- a segment with a class that has one field, a reference, and an instance that refers to itself
abbrev pub loop_of_one : List WideTop
loop_of_one =
    record_of.Segment 0 0x1c 113
    (part.ClassDump 0x20 0 0 0 0 0 0 0 8 [] [] ((0x10, 2) ∷ [])
    ∷ part.Instance 0x30 0 0x20 (0 ∷ 0 ∷ 0 ∷ 0 ∷ 0 ∷ 0 ∷ 0 ∷ 0x30 ∷ []) ∷ [])
    ∷ []
