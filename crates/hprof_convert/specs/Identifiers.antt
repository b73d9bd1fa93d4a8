-- The identifiers of a wide dump, in the order of its bytes.
use Rattle.std.specs.Prelude.{ℕ, nat_eq, List, [], ◌∷◌, ◌++◌, length, Option, None, Some, if◌then◌else◌}
use Rattle.std.specs.List.{flat_map}
use Rattle.hprof_wide.specs.declared.wide_sub.WideSub.{WideSub}
use Rattle.hprof_wide.specs.declared.wide_sub.WideSub.TheVariants.{Root, HeapInfo, ClassDump, Instance, ObjectArray, PrimitiveArray, NoData}
use Rattle.hprof_wide.specs.declared.wide_top.WideTop.{WideTop}
use Rattle.hprof_wide.specs.declared.wide_top.WideTop.TheVariants.{Text, LoadClass, Trace, Segment, Other}
use Rattle.dump_graph.specs.Classes.{Class}
use Rattle.hprof_convert.specs.Values.{ids_in, ids_among}
use Rattle.hprof_convert.specs.Layouts.{instance_layout, wide_classes}

-- the tag of a global reference of JNI, whose further field is an identifier
abbrev pub jni_global : ℕ
jni_global = 0x01

-- the identifier among a root's further fields
abbrev pub further_ids : ℕ → Option ℕ → List ℕ
further_ids tag None = []
further_ids tag (Some first) = if nat_eq tag jni_global then first ∷ [] else []

-- the identifiers in the values of an instance with this layout: none where it has no layout
abbrev pub laid_out_ids : ℕ → Option (List ℕ) → List ℕ → List ℕ
laid_out_ids w None bytes = []
laid_out_ids w (Some codes) bytes = ids_among w codes bytes

-- the identifiers in the constants, static fields and fields of a class
abbrev pub constant_ids : ℕ → ℕ × ℕ × List ℕ → List ℕ
constant_ids w c = ids_in w (c.1, c.2)

abbrev pub static_ids : ℕ → ℕ × ℕ × List ℕ → List ℕ
static_ids w s = s.0 ∷ ids_in w (s.1, s.2)

abbrev pub field_ids : ℕ × ℕ → List ℕ
field_ids f = f.0 ∷ []

-- the identifiers of a part
abbrev pub ids_of_part : ℕ → List Class → WideSub → List ℕ
ids_of_part w known (Root tag id first second) = id ∷ further_ids tag first
ids_of_part w known (HeapInfo heap name) = name ∷ []
ids_of_part w known (ClassDump id stack parent loader signers domain spare_a spare_b size constants statics fields) =
    (id ∷ parent ∷ loader ∷ signers ∷ domain ∷ spare_a ∷ spare_b ∷ [])
    ++ (flat_map (constant_ids w) constants ++ (flat_map (static_ids w) statics ++ flat_map field_ids fields))
ids_of_part w known (Instance id stack class bytes) =
    (id ∷ class ∷ []) ++ laid_out_ids w (instance_layout w known class (length bytes)) bytes
ids_of_part w known (ObjectArray id stack class items) = (id ∷ class ∷ []) ++ items
ids_of_part w known (PrimitiveArray id stack code count bytes) = id ∷ []
ids_of_part w known (NoData id stack count code) = id ∷ []

-- the identifiers of a record
abbrev pub ids_of_record : ℕ → List Class → WideTop → List ℕ
ids_of_record w known (Text time id bytes) = id ∷ []
ids_of_record w known (LoadClass time serial class stack name rest) = class ∷ name ∷ []
ids_of_record w known (Trace time serial thread frames rest) = frames
ids_of_record w known (Segment time tag size parts) = flat_map (ids_of_part w known) parts
ids_of_record w known (Other time tag body) = []

-- the identifiers of a dump's records
abbrev pub ids_of : ℕ → List WideTop → List ℕ
ids_of w records = flat_map (ids_of_record w (wide_classes records)) records
