-- The strings of a dump: one for each different text.
use Rattle.std.specs.Prelude.{ℕ, ◌+◌, if◌then◌else◌, List, [], ◌∷◌, ◌++◌, codes, fold, map, position, unwrap_or}
use Rattle.std.specs.List.{flat_map, list_any}
use Rattle.class_layout.specs.ClassList.{Class}
use Rattle.class_layout.specs.Names.{same_name}
use Rattle.hprof_records.specs.declared.top_record.TopRecord.{TopRecord}
use Rattle.hprof_records.specs.declared.top_record.TopRecord.TheVariants.{Text}

-- the name of the class of arrays of references
abbrev pub array_name : List ℕ
array_name = codes "java.lang.Object[]"

-- the names of the heaps
abbrev pub heap_names : List (List ℕ)
heap_names = codes "app" ∷ codes "image" ∷ codes "zygote" ∷ []

-- a class's name, and then its own fields' names
abbrev pub class_texts : Class → List (List ℕ)
class_texts c = c.name ∷ map (λ f. f.name) c.fields

-- all texts of a dump, in order
abbrev pub texts : List Class → List (List ℕ)
texts cs = flat_map class_texts cs ++ array_name ∷ heap_names

-- a text that is new goes last
abbrev pub with_text : List (List ℕ) → List ℕ → List (List ℕ)
with_text ss text = if list_any (same_name text) ss then ss else ss ++ text ∷ []

-- the different texts, in order of first appearance
abbrev pub strings : List Class → List (List ℕ)
strings cs = fold with_text [] (texts cs)

-- the identifier of a text among these: 1 for the first
abbrev pub string_id : List (List ℕ) → List ℕ → ℕ
string_id ss text = unwrap_or (position (same_name text) ss) 0 + 1

-- the records of texts, the first with this identifier
abbrev pub text_records : ℕ → List (List ℕ) → List TopRecord
text_records id [] = []
text_records id (s ∷ ss) = Text 0 id s ∷ text_records (id + 1) ss
