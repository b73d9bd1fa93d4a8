-- The parts of a written dump: its roots and its class dumps, and then its objects, each in its heap.
use Rattle.std.proofs.Common.{◌≡◌, ℕ, ◌+◌, Bool, true, false, List, [], ◌∷◌, ◌++◌, Option, Some, None, is_some, map, filter, refl, sym, ap, ◌∙◌}
use Rattle.std.proofs.lemmas.List.{append-nil, map-append}
use Rattle.std.proofs.lemmas.List.Elements.{filter-append}
use Rattle.std.proofs.lemmas.Grind.{flat_map-append, fold-append}
use Rattle.std.specs.List.{AllByRecursion, flat_map, fold}
use Rattle.class_layout.specs.ClassList.{Class, layout_of}
use Rattle.class_layout.specs.Kinds.{is_ref}
use Rattle.heap_graph.specs.declared.names.Held.{Held}
use Rattle.heap_graph.specs.declared.names.Held.TheVariants as held
use Rattle.heap_graph.specs.declared.names.Root.{Root}
use Rattle.heap_graph.specs.declared.names.Shape.{Shape}
use Rattle.heap_graph.specs.declared.names.Shape.TheVariants.{Instance, Array}
use Rattle.heap_graph.specs.Graph.{Graph, Object}
use Rattle.heap_graph.specs.Values.{held_targets}
use Rattle.hprof_records.specs.declared.sub_record.SubRecord.{SubRecord}
use Rattle.object_view.specs.Seen.{heap_of}
use Rattle.hprof_write.specs.Classes.{array_class_dump, array_class_id, class_dump, class_dumps_from, class_id, field_entry, loads_from, parent_id}
use Rattle.hprof_write.specs.Classes as classes
use Rattle.hprof_write.specs.Objects.{array_part, held_parts, object_part, root_parts, shape_part}
use Rattle.hprof_write.specs.Segments.{Bare, Filling, Item, begun, segments, with_item}
use Rattle.hprof_write.specs.Written.{items, object_item, written_with}
use Rattle.dump_shows.specs.Reading as read
use Rattle.dump_shows.specs.Reading.{ClassDumped, Dumped, classes_in, heap_told, object_id, parts, parts_in, roots_in}
use Rattle.dump_shows.specs.Shows.{root_at}
use Rattle.dump_shows.proofs.HeapParts.{AtNone, bare-all, dumped, heap_pair, no_heap, objects-all, shown, told-none}
use Rattle.dump_shows.proofs.ListParts.{filter-no, filter-yes, flat_map-map, flat_map-none}
use Rattle.dump_shows.proofs.Numbered.{all_made, made}
use Rattle.dump_shows.proofs.Segs.{loads-none, texts-none, view-written}

-- a part that is neither an object nor tells a heap
abbrev IsBare : SubRecord → Type 0
IsBare p = (heap_told p ≡ None) × (object_id p ≡ None)

all-append : {X : Type 0} (P : X → Type 0) (xs ys : List X) → AllByRecursion P xs → AllByRecursion P ys → AllByRecursion P (xs ++ ys)
all-append P [] ys a b = b
all-append P (x ∷ xs) ys a b = (a.0, all-append P xs ys a.1 b)

all-weaker : {X : Type 0} (P Q : X → Type 0) → ((x : X) → P x → Q x) → (xs : List X) → AllByRecursion P xs → AllByRecursion Q xs
all-weaker P Q w [] a = tt
all-weaker P Q w (x ∷ xs) a = (w x a.0, all-weaker P Q w xs a.1)

roots-bare : (table : ℕ → ℕ) (rs : List Root) → AllByRecursion IsBare (root_parts table rs)
roots-bare table [] = tt
roots-bare table (r ∷ rs) = all-append IsBare (held_parts table r.holds) (root_parts table rs) (by r.holds) (roots-bare table rs)
  where
    by : (h : Held) → AllByRecursion IsBare (held_parts table h)
    by held.Null = tt
    by (held.Object n) = ((refl, refl), tt)

dumps-bare : (ss : List (List ℕ)) (cs : List Class) (k : ℕ) (more : List Class) → AllByRecursion IsBare (class_dumps_from ss cs k more)
dumps-bare ss cs k [] = tt
dumps-bare ss cs k (c ∷ more) = ((refl, refl), dumps-bare ss cs (k + 1) more)

-- what stands before the objects
abbrev pub before : List (List ℕ) → Graph → (ℕ → ℕ) → List SubRecord
before ss g table = root_parts table g.roots ++ classes.class_dumps ss g.classes

before-bare : (ss : List (List ℕ)) (g : Graph) (table : ℕ → ℕ) → AllByRecursion IsBare (before ss g table)
before-bare ss g table =
    all-append IsBare (root_parts table g.roots) (classes.class_dumps ss g.classes) (roots-bare table g.roots)
    (all-append IsBare (class_dumps_from ss g.classes 0 g.classes) (array_class_dump ∷ []) (dumps-bare ss g.classes 0 g.classes) ((refl, refl), tt))

-- what an object's part is to a reader
record IsObjectPart (id : ℕ) (p : SubRecord) : Type 0 where
  told_is : heap_told p ≡ None
  id_is : object_id p ≡ Some id
  no_root : roots_in p ≡ []
  no_class : classes_in p ≡ []

shape-part : (cs : List Class) (table : ℕ → ℕ) (o : Object) (shape : Shape) → IsObjectPart (table o.number) (shape_part cs table o shape)
shape-part cs table o (Instance k) = record { told_is = refl; id_is = refl; no_root = refl; no_class = refl }
shape-part cs table o (Array kind count) = by (is_ref kind)
  where
    by : (b : Bool) → IsObjectPart (table o.number) (array_part b table o kind count)
    by true = record { told_is = refl; id_is = refl; no_root = refl; no_class = refl }
    by false = record { told_is = refl; id_is = refl; no_root = refl; no_class = refl }

object-is : (cs : List Class) (table : ℕ → ℕ) (o : Object) → IsObjectPart (table o.number) (object_part cs table o)
object-is cs table o = shape-part cs table o o.shape

pub object-id : (cs : List Class) (table : ℕ → ℕ) (o : Object) → object_id (object_part cs table o) ≡ Some (table o.number)
object-id cs table o = (object-is cs table o).id_is

-- an object in its heap
abbrev pub in_heap : List (List ℕ) → List Class → (ℕ → ℕ) → Object → Dumped
in_heap ss cs table o = dumped (heap_pair ss (heap_of o.place)) (object_part cs table o)

-- the parts of a dump
pub parts-written : (ss : List (List ℕ)) (g : Graph) (table : ℕ → ℕ)
    → parts (written_with ss g table) ≡ map (dumped no_heap) (before ss g table) ++ map (in_heap ss g.classes table) g.objects
parts-written ss g table =
    let rs : List SubRecord = root_parts table g.roots in
    let ds : List SubRecord = classes.class_dumps ss g.classes in
    let os : List Item = map (object_item g.classes table) g.objects in
    let start : Filling = begun [] in
    let first : Filling = fold (with_item ss) start (map Bare (rs ++ ds)) in
    let none : AtNone start = record { heap_is = refl; told_is = refl } in
    let bare = bare-all ss (rs ++ ds) start (all-weaker IsBare (λ p. heap_told p ≡ None) (λ p h. h.0) (rs ++ ds) (before-bare ss g table)) none in
    let two : fold (with_item ss) start (items ss g table) ≡ fold (with_item ss) first os =
    ap (λ (l : List Item). fold (with_item ss) start (l ++ os)) (sym (map-append Bare rs ds)) ∙ fold-append (with_item ss) start (map Bare (rs ++ ds)) os in
    view-written parts_in ss g table refl refl
    ∙ ap (λ l. l ++ (flat_map parts_in (loads_from ss 0 g.classes) ++ []) ++ flat_map parts_in (segments ss (items ss g table))) (texts-none parts_in (λ id text. refl) 1 ss)
    ∙ ap (λ l. [] ++ (l ++ []) ++ flat_map parts_in (segments ss (items ss g table))) (loads-none parts_in (λ serial class name. refl) ss 0 g.classes)
    ∙ ap shown two
    ∙ objects-all ss (λ (o : Object). heap_of o.place) (object_part g.classes table) g.objects first (λ o. (object-is g.classes table o).told_is) (told-none ss first bare.1)
    ∙ ap (λ l. l ++ map (in_heap ss g.classes table) g.objects) bare.0

-- what a view of parts sees, if it sees nothing in objects
view-parts : {X : Type 0} (v : SubRecord → List X) (ss : List (List ℕ)) (g : Graph) (table : ℕ → ℕ) → ((o : Object) → v (object_part g.classes table o) ≡ [])
    → flat_map (λ (d : Dumped). v d.part) (parts (written_with ss g table)) ≡ flat_map v (root_parts table g.roots) ++ flat_map v (classes.class_dumps ss g.classes)
view-parts v ss g table none =
    let w : Dumped → List _ = λ d. v d.part in
    let front = map (dumped no_heap) (before ss g table) in
    ap (flat_map w) (parts-written ss g table) ∙ flat_map-append w front (map (in_heap ss g.classes table) g.objects)
    ∙ ap (λ l. flat_map w front ++ l) (flat_map-map w (in_heap ss g.classes table) g.objects ∙ flat_map-none (λ o. v (object_part g.classes table o)) g.objects none)
    ∙ append-nil (flat_map w front) ∙ flat_map-map w (dumped no_heap) (before ss g table)
    ∙ flat_map-append v (root_parts table g.roots) (classes.class_dumps ss g.classes)

-- the roots
roots-held : (table : ℕ → ℕ) (rs : List Root) → flat_map roots_in (root_parts table rs) ≡ map (root_at table) (held_targets (map (λ r. r.holds) rs))
roots-held table [] = refl
roots-held table (r ∷ rs) = by r.holds (roots-held table rs)
  where
    by : (h : Held) → flat_map roots_in (root_parts table rs) ≡ map (root_at table) (held_targets (map (λ r. r.holds) rs))
        → flat_map roots_in (held_parts table h ++ root_parts table rs) ≡ map (root_at table) (held_targets (h ∷ map (λ r. r.holds) rs))
    by held.Null rest = rest
    by (held.Object n) rest = ap (λ (l : List read.Rooted). root_at table n ∷ l) rest

no-roots : (ss : List (List ℕ)) (cs : List Class) (k : ℕ) (more : List Class) → flat_map roots_in (class_dumps_from ss cs k more ++ array_class_dump ∷ []) ≡ []
no-roots ss cs k [] = refl
no-roots ss cs k (c ∷ more) = no-roots ss cs (k + 1) more

pub roots-written : (ss : List (List ℕ)) (g : Graph) (table : ℕ → ℕ)
    → read.roots (written_with ss g table) ≡ map (root_at table) (held_targets (map (λ r. r.holds) g.roots))
roots-written ss g table =
    view-parts roots_in ss g table (λ o. (object-is g.classes table o).no_root)
    ∙ ap (λ l. flat_map roots_in (root_parts table g.roots) ++ l) (no-roots ss g.classes 0 g.classes)
    ∙ append-nil (flat_map roots_in (root_parts table g.roots)) ∙ roots-held table g.roots

-- a class's dump to a reader
abbrev pub class_read : List (List ℕ) → List Class → ℕ → Class → ClassDumped
class_read ss cs k c =
    record {
      id = class_id k;
      parent = parent_id c.parent;
      loader = 0;
      signers = 0;
      domain = 0;
      size = (layout_of cs k).end;
      constants = 0;
      statics = 0;
      fields = map (field_entry ss) c.fields;
    }

abbrev pub array_read : ClassDumped
array_read = record { id = array_class_id; parent = class_id 0; loader = 0; signers = 0; domain = 0; size = 0; constants = 0; statics = 0; fields = [] }

abbrev pub key : ClassDumped → ℕ
key c = c.id

-- the class dumps of a dump
abbrev pub classes_read : List (List ℕ) → List Class → List ClassDumped
classes_read ss cs = all_made key (class_read ss cs) (λ k c. refl) cs array_read refl

dumps-read : (ss : List (List ℕ)) (cs : List Class) (k : ℕ) (more : List Class)
    → flat_map classes_in (class_dumps_from ss cs k more ++ array_class_dump ∷ []) ≡ made key (class_read ss cs) (λ k c. refl) k more ++ array_read ∷ []
dumps-read ss cs k [] = refl
dumps-read ss cs k (c ∷ more) = ap (λ (l : List ClassDumped). class_read ss cs k c ∷ l) (dumps-read ss cs (k + 1) more)

no-classes : (table : ℕ → ℕ) (rs : List Root) → flat_map classes_in (root_parts table rs) ≡ []
no-classes table [] = refl
no-classes table (r ∷ rs) = by r.holds (no-classes table rs)
  where
    by : (h : Held) → flat_map classes_in (root_parts table rs) ≡ [] → flat_map classes_in (held_parts table h ++ root_parts table rs) ≡ []
    by held.Null rest = rest
    by (held.Object n) rest = rest

pub classes-written : (ss : List (List ℕ)) (g : Graph) (table : ℕ → ℕ) → read.class_dumps (written_with ss g table) ≡ classes_read ss g.classes
classes-written ss g table =
    view-parts classes_in ss g table (λ o. (object-is g.classes table o).no_class)
    ∙ ap (λ l. l ++ flat_map classes_in (classes.class_dumps ss g.classes)) (no-classes table g.roots) ∙ dumps-read ss g.classes 0 g.classes

-- the objects
abbrev is_object : Dumped → Bool
is_object d = is_some (object_id d.part)

none-before : (ps : List SubRecord) → AllByRecursion IsBare ps → filter is_object (map (dumped no_heap) ps) ≡ []
none-before [] all = refl
none-before (p ∷ ps) all =
    filter-no is_object (dumped no_heap p) (map (dumped no_heap) ps) (ap (λ (o : Option ℕ). is_some o) all.0.1) ∙ none-before ps all.1

all-objects : (ss : List (List ℕ)) (cs : List Class) (table : ℕ → ℕ) (os : List Object) → filter is_object (map (in_heap ss cs table) os) ≡ map (in_heap ss cs table) os
all-objects ss cs table [] = refl
all-objects ss cs table (o ∷ os) =
    filter-yes is_object (in_heap ss cs table o) (map (in_heap ss cs table) os) (ap (λ (i : Option ℕ). is_some i) (object-id cs table o))
    ∙ ap (λ (l : List Dumped). in_heap ss cs table o ∷ l) (all-objects ss cs table os)

-- classes before objects
pub none-early : (ss : List (List ℕ)) (g : Graph) (table : ℕ → ℕ) → read.objects_of (map (dumped no_heap) (before ss g table)) ≡ []
none-early ss g table = none-before (before ss g table) (before-bare ss g table)

pub none-late : (ss : List (List ℕ)) (g : Graph) (table : ℕ → ℕ) → read.classes_of (map (in_heap ss g.classes table) g.objects) ≡ []
none-late ss g table =
    flat_map-map (λ (d : Dumped). classes_in d.part) (in_heap ss g.classes table) g.objects
    ∙ flat_map-none (λ (o : Object). classes_in (object_part g.classes table o)) g.objects (λ o. (object-is g.classes table o).no_class)

pub objects-written : (ss : List (List ℕ)) (g : Graph) (table : ℕ → ℕ) → read.objects (written_with ss g table) ≡ map (in_heap ss g.classes table) g.objects
objects-written ss g table =
    ap (filter is_object) (parts-written ss g table)
    ∙ filter-append is_object (map (dumped no_heap) (before ss g table)) (map (in_heap ss g.classes table) g.objects)
    ∙ ap (λ l. l ++ filter is_object (map (in_heap ss g.classes table) g.objects)) (none-before (before ss g table) (before-bare ss g table))
    ∙ all-objects ss g.classes table g.objects
