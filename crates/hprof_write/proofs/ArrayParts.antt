-- Arrays: their heads, and then their elements.
use Rattle.std.proofs.Common.{◌≡◌, ℕ, zero, suc, ◌+◌, Bool, true, false, List, [], ◌∷◌, ◌++◌, length, map, refl, sym, ap, ◌∙◌}
use Rattle.std.proofs.lemmas.List.{append-nil, length-map}
use Rattle.std.specs.List.{flat_map}
use Rattle.class_layout.specs.declared.kind.FieldAt.{FieldAt}
use Rattle.class_layout.specs.declared.kind.Kind.{Kind}
use Rattle.class_layout.specs.declared.kind.Kind.TheVariants.{Ref, Boolean, Byte, Char, Short, Int, Long}
use Rattle.class_layout.specs.ClassList.{Class}
use Rattle.class_layout.specs.Kinds.{is_ref}
use Rattle.heap_graph.specs.declared.names.Shape.TheVariants.{Instance, Array}
use Rattle.heap_graph.specs.Graph.{Object}
use Rattle.heap_graph.specs.Places.{element, elements_from}
use Rattle.object_view.specs.Seen.{value_in}
use Rattle.object_view.proofs.Laid.{ref-kind}
use Rattle.hprof_records.specs.declared.sub_record.SubRecord.TheVariants as part
use Rattle.hprof_records.specs.Fields.{field}
use Rattle.hprof_records.specs.Parts.{bytes_of_part, word}
use Rattle.hprof_write.specs.Classes.{array_class_id, class_id}
use Rattle.hprof_write.specs.Objects.{array_head, array_head_if, array_part, bits_of, dumped_places, items_of, shape_part, values_bytes}
use Rattle.hprof_write.proofs.RecordBytes.{three-appends, two-appends}
use Rattle.hprof_write.proofs.ValuesAt.{length-elements}

-- an instance, by its values
pub instance-put : (o a b c values : List ℕ) (at class : ℕ) → a ≡ o ++ field 1 0x21 → b ≡ a ++ flat_map word (at ∷ 0 ∷ class ∷ length values ∷ []) → c ≡ b ++ values
    → c ≡ o ++ bytes_of_part (part.Instance at 0 class values)
instance-put o a b c values at class ha hb hc =
    three-appends o (field 1 0x21) (flat_map word (at ∷ 0 ∷ class ∷ length values ∷ [])) values a b c ha hb hc
    ∙ ap (λ (l : List ℕ). o ++ (field 1 0x21 ++ (flat_map word (at ∷ 0 ∷ class ∷ length values ∷ []) ++ l))) (sym (append-nil values))

-- only references are references
pub other-kind : (kind : Kind) → (kind ≡ Ref → ⊥) → is_ref kind ≡ false
other-kind Ref h = absurd (h refl)
other-kind Boolean h = refl
other-kind Byte h = refl
other-kind Char h = refl
other-kind Short h = refl
other-kind Int h = refl
other-kind Long h = refl

items-bytes : (table : ℕ → ℕ) (o : Object) (from count : ℕ)
    → values_bytes table o (elements_from Ref from count) ≡ flat_map word (map (λ p. bits_of (value_in table o p)) (elements_from Ref from count))
items-bytes table o from zero = refl
items-bytes table o from (suc count) = ap (λ (l : List ℕ). word (bits_of (value_in table o (element Ref from))) ++ l) (items-bytes table o (from + 1) count)

length-items : (table : ℕ → ℕ) (o : Object) (count : ℕ) → length (items_of table o count) ≡ count
length-items table o count = length-map (elements_from Ref 0 count) (λ (p : FieldAt). bits_of (value_in table o p)) ∙ length-elements Ref 0 count

array-by : (table : ℕ → ℕ) (o : Object) (kind : Kind) (count at : ℕ) (b : Bool) → is_ref kind ≡ b → table o.number ≡ at
    → array_head_if b at kind count ++ values_bytes table o (elements_from kind 0 count) ≡ bytes_of_part (array_part b table o kind count)
array-by table o kind count at true e is =
    let k = ref-kind kind e in
    let values : values_bytes table o (elements_from kind 0 count) ≡ flat_map word (items_of table o count) =
    ap (λ (x : Kind). values_bytes table o (elements_from x 0 count)) k ∙ items-bytes table o 0 count in
    let head : ℕ → ℕ → List ℕ = λ a n. field 1 0x22 ++ (word a ++ (word 0 ++ (word n ++ word array_class_id))) in
    ap (λ (l : List ℕ). head at count ++ l) values
    ∙ ap (λ (a : ℕ). head a count ++ flat_map word (items_of table o count)) (sym is)
    ∙ ap (λ (n : ℕ). head (table o.number) n ++ flat_map word (items_of table o count)) (sym (length-items table o count))
    ∙ ap (λ (l : List ℕ). head (table o.number) (length (items_of table o count)) ++ l) (sym (append-nil (flat_map word (items_of table o count))))
array-by table o kind count at false e is =
    ap (λ (a : ℕ). array_head_if false a kind count ++ values_bytes table o (elements_from kind 0 count)) (sym is)
    ∙ ap (λ (l : List ℕ). array_head_if false (table o.number) kind count ++ l) (sym (append-nil (values_bytes table o (elements_from kind 0 count))))

-- an array, by its head and its elements
pub array-put : (cs : List Class) (table : ℕ → ℕ) (o : Object) (kind : Kind) (count at : ℕ) (first a b : List ℕ) → table o.number ≡ at
    → a ≡ first ++ array_head at kind count → b ≡ a ++ values_bytes table o (elements_from kind 0 count)
    → b ≡ first ++ bytes_of_part (shape_part cs table o (Array kind count))
array-put cs table o kind count at first a b is ha hb =
    two-appends first (array_head at kind count) (values_bytes table o (elements_from kind 0 count)) a b ha hb
    ∙ ap (λ (l : List ℕ). first ++ l) (array-by table o kind count at (is_ref kind) refl is)

-- an instance of the class of a number
pub instance-is : (cs : List Class) (table : ℕ → ℕ) (o : Object) (class id at : ℕ) (first b values : List ℕ) → table o.number ≡ at → id ≡ class_id class
    → values ≡ values_bytes table o (dumped_places cs class) → b ≡ first ++ bytes_of_part (part.Instance at 0 id values)
    → b ≡ first ++ bytes_of_part (shape_part cs table o (Instance class))
instance-is cs table o class id at first b values is hid hv hb =
    hb ∙ ap (λ (l : List ℕ). first ++ bytes_of_part (part.Instance at 0 id l)) hv
    ∙ ap (λ (i : ℕ). first ++ bytes_of_part (part.Instance at 0 i (values_bytes table o (dumped_places cs class)))) hid
    ∙ ap (λ (a : ℕ). first ++ bytes_of_part (part.Instance a 0 (class_id class) (values_bytes table o (dumped_places cs class)))) (sym is)
