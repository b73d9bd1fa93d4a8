-- What a written dump shows, conjunct by conjunct.
use Rattle.std.proofs.Common.{◌≡◌, ℕ, zero, suc, ◌+◌, ◌*◌, ◌<◌, ◌≤◌, Bool, true, false, List, [], ◌∷◌, ◌++◌, Option, Some, None, length, map, filter, nat_eq, slice_get, refl, sym, ap, ◌∙◌, subst, inl, inr, arith, ℤ, length-append, append_assoc}
use Rattle.std.proofs.lemmas.Bool.{cases_eq, eq-eqb, ne_eqb}
use Rattle.std.proofs.lemmas.List.{append-nil, length-map}
use Rattle.std.specs.List.{flat_map, sum_by}
use Rattle.std.specs.Option.{option_map}
use Rattle.class_layout.specs.declared.kind.FieldAt.{FieldAt}
use Rattle.class_layout.specs.declared.kind.FieldDecl.{FieldDecl}
use Rattle.class_layout.specs.declared.kind.Kind.{Kind}
use Rattle.class_layout.specs.declared.kind.Kind.TheVariants.{Ref, Boolean, Byte, Char, Short, Int, Long}
use Rattle.class_layout.specs.ClassList.{Class, layout_of}
use Rattle.class_layout.specs.Kinds.{is_ref}
use Rattle.class_layout.specs.Placing.{IsIn}
use Rattle.heap_graph.specs.declared.names.Place.{Place}
use Rattle.heap_graph.specs.declared.names.Place.TheVariants as place
use Rattle.heap_graph.specs.declared.names.Shape.{Shape}
use Rattle.heap_graph.specs.declared.names.Shape.TheVariants.{Instance, Array}
use Rattle.heap_graph.specs.Graph.{Graph, Object}
use Rattle.hprof_records.specs.declared.top_record.TopRecord.{TopRecord}
use Rattle.hprof_records.specs.Types as types
use Rattle.heap_graph.specs.Places.{elements_from, places_of}
use Rattle.object_view.specs.Objects.{IsKnown}
use Rattle.object_view.specs.Seen.{heap_of, value_in}
use Rattle.object_view.specs.Values.{is_value}
use Rattle.hprof_write.specs.Classes.{array_class_id, class_id, field_entry, kind_code, loads_from, parent_id}
use Rattle.hprof_write.specs.Objects.{dumped_places, shape_part, values_bytes}
use Rattle.hprof_write.specs.Segments.{heap_name, heap_number, segments}
use Rattle.hprof_write.specs.Strings as strings
use Rattle.hprof_write.specs.Written.{dump_end, front_of, items, written, written_with}
use Rattle.hprof_write.proofs.Chains.{enough-up}
use Rattle.dump_shows.specs.Reading as read
use Rattle.dump_shows.specs.Reading.{ClassDumped, Dumped, Load, elements_cut, field_read, fields_of, is_id, loads_in, object_id, parts_in, strings_in, string_of, value_named, values_cut}
use Rattle.dump_shows.specs.Shows.{array_address, array_text, class_address, field_declared, heap_code, heap_text, super_address, IsClassAddress, IsReadOnce, IsSeen, Shows, ShowsClass, ShowsContent, ShowsFields, ShowsNumbers, ShowsObject}
use Rattle.dump_shows.proofs.Chains.{Pair, InChain, fields-told, pairs-find, pairs-in, pairs-length, pairs-places, pairs_up}
use Rattle.dump_shows.proofs.DumpedParts.{array_read, before, none-early, none-late, parts-written, class_read, classes-written, classes_read, in_heap, key, object-id, objects-written, roots-written}
use Rattle.dump_shows.proofs.Fields.{IsWritten, bytes_of, elements-back, elements-whole, entry, items-back, values-back, values-named, values-whole}
use Rattle.dump_shows.proofs.HeapParts.{dumped, no_heap}
use Rattle.dump_shows.proofs.ListParts.{filter-no, filter-yes}
use Rattle.dump_shows.proofs.Numbered.{all_made, length-made, made, no-null, one-array, one-class, only-classes}
use Rattle.dump_shows.proofs.Once.{none-at, one-at, rising-apart}
use Rattle.dump_shows.proofs.Segs.{segments-none, texts-none, view-back, view-front, view-written}
use Rattle.dump_shows.proofs.Texts.{array-text, class-text, field-text, heap-text, one-string, one-text, strings-are, strings-written, text-found}
use Rattle.dump_shows.proofs.Values.{type-same}

-- the load of a class to a reader
abbrev load_read : List (List ℕ) → ℕ → Class → Load
load_read ss k c = record { serial = k + 1; class = class_id k; name = strings.string_id ss c.name }

abbrev array_load : List (List ℕ) → ℕ → Load
array_load ss serial = record { serial = serial; class = array_class_id; name = strings.string_id ss strings.array_name }

abbrev load_key : Load → ℕ
load_key l = l.class

abbrev loads_read : List (List ℕ) → List Class → List Load
loads_read ss cs = all_made load_key (load_read ss) (λ k c. refl) cs (array_load ss (length cs + 1)) refl

loads-from : (ss : List (List ℕ)) (k : ℕ) (cs : List Class) → flat_map loads_in (loads_from ss k cs) ≡ made load_key (load_read ss) (λ k c. refl) k cs
loads-from ss k [] = refl
loads-from ss k (c ∷ cs) = ap (λ (l : List Load). load_read ss k c ∷ l) (loads-from ss (k + 1) cs)

loads-written : (ss : List (List ℕ)) (g : Graph) (table : ℕ → ℕ) → read.loads (written_with ss g table) ≡ loads_read ss g.classes
loads-written ss g table =
    view-written loads_in ss g table refl refl
    ∙ ap (λ (l : List Load). l ++ (flat_map loads_in (loads_from ss 0 g.classes) ++ array_load ss (length g.classes + 1) ∷ []) ++ flat_map loads_in (segments ss (items ss g table)))
    (texts-none loads_in (λ id text. refl) 1 ss)
    ∙ ap (λ (l : List Load). [] ++ (flat_map loads_in (loads_from ss 0 g.classes) ++ array_load ss (length g.classes + 1) ∷ []) ++ l) (segments-none loads_in (λ ps. refl) ss (items ss g table))
    ∙ append-nil (flat_map loads_in (loads_from ss 0 g.classes) ++ array_load ss (length g.classes + 1) ∷ [])
    ∙ ap (λ (l : List Load). l ++ array_load ss (length g.classes + 1) ∷ []) (loads-from ss 0 g.classes)

abbrev has_serial : ℕ → Load → Bool
has_serial serial l = nat_eq l.serial serial

-- loads have rising serial numbers
serial-past : (ss : List (List ℕ)) (serial k : ℕ) (cs : List Class) (last : Load) → serial < k + 1 → last.serial ≡ k + length cs + 1
    → filter (has_serial serial) (made load_key (load_read ss) (λ k c. refl) k cs ++ last ∷ []) ≡ []
serial-past ss serial k [] last less is = filter-no (has_serial serial) last [] (ne_eqb last.serial serial (λ e. absurd (omega arith)))
serial-past ss serial k (c ∷ cs) last less is =
    filter-no (has_serial serial) (load_read ss k c) (made load_key (load_read ss) (λ k c. refl) (k + 1) cs ++ last ∷ []) (ne_eqb (k + 1) serial (λ e. absurd (omega arith)))
    ∙ serial-past ss serial (k + 1) cs last (omega arith) (omega arith)

one-serial : (ss : List (List ℕ)) (serial k : ℕ) (cs : List Class) (last : Load) → last.serial ≡ k + length cs + 1
    → length (filter (has_serial serial) (made load_key (load_read ss) (λ k c. refl) k cs ++ last ∷ [])) ≤ 1
one-serial ss serial k [] last is =
    elim (cases_eq last.serial serial) [
      | inl e ↦ let one = ap length (filter-yes (has_serial serial) last [] (eq-eqb last.serial serial e)) in omega (arith, one)
      | inr ne ↦ let none = ap length (filter-no (has_serial serial) last [] (ne_eqb last.serial serial ne)) in omega (arith, none)
    ]
one-serial ss serial k (c ∷ cs) last is =
    let rest : List Load = made load_key (load_read ss) (λ k c. refl) (k + 1) cs ++ last ∷ [] in
    elim (cases_eq (k + 1) serial) [
      | inl e ↦
          let one = ap length (filter-yes (has_serial serial) (load_read ss k c) rest (eq-eqb (k + 1) serial e)) in
          let none = ap length (serial-past ss serial (k + 1) cs last (omega arith) (omega arith)) in
          omega (arith, one, none)
      | inr ne ↦
          let same = ap length (filter-no (has_serial serial) (load_read ss k c) rest (ne_eqb (k + 1) serial ne)) in
          omega (arith, same, one-serial ss serial (k + 1) cs last (omega arith))
    ]

parent-same : (q : Option ℕ) → parent_id q ≡ super_address q
parent-same None = refl
parent-same (Some p) = refl

heap-same : (p : Place) → heap_number (heap_of p) ≡ heap_code p
heap-same (place.Image spot) = refl
heap-same (place.Zygote spot) = refl
heap-same place.Young = refl
heap-same place.Large = refl
heap-same place.Promoted = refl

heap-text-same : (p : Place) → heap_name (heap_of p) ≡ heap_text p
heap-text-same (place.Image spot) = refl
heap-text-same (place.Zygote spot) = refl
heap-text-same place.Young = refl
heap-text-same place.Large = refl
heap-text-same place.Promoted = refl

fields-read : (L : List TopRecord) (ss : List (List ℕ)) (fs : List FieldDecl) → ((f : FieldDecl) → IsIn f fs → string_of L (strings.string_id ss f.name) ≡ Some f.name)
    → map (field_read L) (map (field_entry ss) fs) ≡ map field_declared fs
fields-read L ss [] texts = refl
fields-read L ss (f ∷ fs) texts =
    let one : field_read L (field_entry ss f) ≡ field_declared f =
    ap (λ (t : Option (List ℕ)). (t, kind_code f.kind)) (texts f (inl refl)) ∙ ap (λ (c : ℕ). (Some f.name, c)) (type-same f.kind) in
    ap (λ (x : Option (List ℕ) × ℕ). x ∷ map (field_read L) (map (field_entry ss) fs)) one
    ∙ ap (λ (l : List (Option (List ℕ) × ℕ)). field_declared f ∷ l) (fields-read L ss fs (λ d there. texts d (inr there)))

-- elements are of the array's kind
element-kind : (kind : Kind) (from count : ℕ) (p : FieldAt) → IsIn p (elements_from kind from count) → p.kind ≡ kind
element-kind kind from zero p there = absurd there
element-kind kind from (suc count) p (inl same) = ap (λ (q : FieldAt). q.kind) (sym same)
element-kind kind from (suc count) p (inr there) = element-kind kind (from + 1) count p there

ids-are : (ss : List (List ℕ)) (cs : List Class) (table : ℕ → ℕ) (os : List Object) → map (λ (d : Dumped). object_id d.part) (map (in_heap ss cs table) os) ≡ map (λ o. Some (table o.number)) os
ids-are ss cs table [] = refl
ids-are ss cs table (o ∷ os) =
    ap (λ (i : Option ℕ). i ∷ map (λ (d : Dumped). object_id d.part) (map (in_heap ss cs table) os)) (object-id cs table o)
    ∙ ap (λ (l : List (Option ℕ)). Some (table o.number) ∷ l) (ids-are ss cs table os)

module _ (g : Graph) (table : ℕ → ℕ) (seen : IsSeen g table) where
  abbrev ss : List (List ℕ)
  ss = strings.strings g.classes

  abbrev L : List TopRecord
  L = written_with (strings.strings g.classes) g table

  abbrev cs : List Class
  cs = g.classes

  ids-once : (id : ℕ) → length (read.strings_at L id) ≤ 1
  ids-once id =
      subst (λ (l : List (ℕ × List ℕ)). length (filter (λ s. nat_eq s.0 id) l) ≤ 1) (sym (strings-written ss g table)) (one-string id 1 ss)

  class-shown : (k : ℕ) (c : Class) → slice_get cs k ≡ Some c → ShowsClass L (class_address k) c.name (super_address c.parent) (layout_of cs k).end c.fields
  class-shown k c h = record {
    load = load_read ss k c;
    loaded_once = ap (filter (λ (l : Load). nat_eq l.class (class_address k))) (loads-written ss g table) ∙ one-class load_key (load_read ss) (λ k c. refl) cs (array_load ss (length cs + 1)) refl k c h;
    name_is = text-found g table c.name (class-text cs k c h);
    dump = class_read ss cs k c;
    dumped_once = ap (filter (λ (d : ClassDumped). nat_eq d.id (class_address k))) (classes-written ss g table) ∙ one-class key (class_read ss cs) (λ k c. refl) cs array_read refl k c h;
    parent_is = parent-same c.parent;
    size_is = refl;
    fields_are = fields-read L ss c.fields (λ f there. text-found g table f.name (field-text cs k c f h there));
    no_loader = refl;
    no_signers = refl;
    no_domain = refl;
    no_constants = refl;
    no_statics = refl;
  }

  array-shown : ShowsClass L array_address array_text (class_address 0) 0 []
  array-shown = record {
    load = array_load ss (length cs + 1);
    loaded_once = ap (filter (λ (l : Load). nat_eq l.class array_address)) (loads-written ss g table) ∙ one-array load_key (load_read ss) (λ k c. refl) cs (array_load ss (length cs + 1)) refl;
    name_is = text-found g table strings.array_name (array-text cs);
    dump = array_read;
    dumped_once = ap (filter (λ (d : ClassDumped). nat_eq d.id array_address)) (classes-written ss g table) ∙ one-array key (class_read ss cs) (λ k c. refl) cs array_read refl;
    parent_is = refl;
    size_is = refl;
    fields_are = refl;
    no_loader = refl;
    no_signers = refl;
    no_domain = refl;
    no_constants = refl;
    no_statics = refl;
  }

  serials-once : (serial : ℕ) → length (read.loads_numbered L serial) ≤ 1
  serials-once serial =
      subst (λ (ls : List Load). length (filter (has_serial serial) ls) ≤ 1) (sym (loads-written ss g table))
      (one-serial ss serial 0 cs (array_load ss (length cs + 1)) (omega arith))

  only-loads : (l : Load) → IsIn l (read.loads L) → IsClassAddress g l.class
  only-loads l there =
      only-classes load_key (load_read ss) (λ k c. refl) cs (array_load ss (length cs + 1)) refl l (subst (λ (ls : List Load). IsIn l ls) (loads-written ss g table) there)

  only-dumps : (c : ClassDumped) → IsIn c (read.class_dumps L) → IsClassAddress g c.id
  only-dumps c there =
      only-classes key (class_read ss cs) (λ k c. refl) cs array_read refl c (subst (λ (ds : List ClassDumped). IsIn c ds) (classes-written ss g table) there)

  -- an object
  module _ (o : Object) (there : IsIn o g.objects) where
    value-fits : (p : FieldAt) → IsIn p (places_of cs o.shape) → is_value p.kind (value_in table o p) ≡ true
    value-fits p here = seen.values o p there here

    fields-shown : (k : ℕ) → o.shape ≡ Instance k → ShowsFields L g table o k (class_id k) (values_bytes table o (dumped_places cs k))
    fields-shown k shape =
        let within : k < length cs = subst (IsKnown cs) shape (seen.shown.known o there) in
        let n : ℕ = length (classes_read ss cs) in
        let enough : k < n = let e = length-made key (class_read ss cs) (λ k c. refl) 0 cs in let f = length-append (made key (class_read ss cs) (λ k c. refl) 0 cs) (array_read ∷ []) in omega (arith, e, f) in
        let es : List Pair = pairs_up cs n (Some k) in
        let fields : fields_of L (class_id k) ≡ map (entry ss table o) es =
        ap (λ (ds : List ClassDumped). read.fields_up ds (length ds) (class_id k)) (classes-written ss g table) ∙ fields-told ss cs n k seen.classes within in
        let places : dumped_places cs k ≡ map (λ (e : Pair). e.1) es = enough-up cs (suc k) n k seen.classes (omega arith) enough ∙ sym (pairs-places cs n (Some k)) in
        let bytes : values_bytes table o (dumped_places cs k) ≡ bytes_of ss table o es = ap (values_bytes table o) places in
        let chain : (e : Pair) → IsIn e es → InChain cs k e = λ e here. pairs-in cs n k e seen.classes within here in
        let is : (e : Pair) → IsIn e es → IsWritten ss table o e =
        λ e here. record { kind_is = (chain e here).kind_is; value_is = value-fits e.1 (subst (λ (s : Shape). IsIn e.1 (places_of cs s)) (sym shape) (chain e here).place_in) } in
        let texts : (e : Pair) → IsIn e es → string_of L (strings.string_id ss e.0.name) ≡ Some e.0.name = λ e here. text-found g table e.0.name (chain e here).text_in in
        record {
          class_is = refl;
          values =
              λ name.
              ap (λ (fs : List (ℕ × ℕ)). value_named L (values_cut fs (values_bytes table o (dumped_places cs k))) name) fields
              ∙ ap (λ (bs : List ℕ). value_named L (values_cut (map (entry ss table o) es) bs) name) bytes
              ∙ ap (λ (vs : List (ℕ × ℤ)). value_named L vs name) (values-back ss table o es is)
              ∙ values-named ss table o L name es texts ∙ ap (option_map (value_in table o)) (pairs-find cs n k name seen.classes within enough);
          each_once = ap length fields ∙ length-map es (entry ss table o) ∙ pairs-length cs n k seen.classes within enough;
          whole = ap length bytes ∙ values-whole ss table o es is ∙ ap (sum_by (λ (f : ℕ × ℕ). types.value_bytes f.1)) (sym fields);
        }

    element-fits : (kind : Kind) (count : ℕ) → o.shape ≡ Array kind count → (p : FieldAt) → IsIn p (elements_from kind 0 count) → is_value kind (value_in table o p) ≡ true
    element-fits kind count shape p here =
        subst (λ (k : Kind). is_value k (value_in table o p) ≡ true) (element-kind kind 0 count p here)
        (value-fits p (subst (λ (s : Shape). IsIn p (places_of cs s)) (sym shape) here))

    elements-are : (kind : Kind) (count : ℕ) → o.shape ≡ Array kind count → map (value_in table o) (elements_from kind 0 count) ≡ map (value_in table o) (places_of cs o.shape)
    elements-are kind count shape = ap (λ (s : Shape). map (value_in table o) (places_of cs s)) (sym shape)

    numbers-shown : (kind : Kind) (count : ℕ) → is_ref kind ≡ false → o.shape ≡ Array kind count
        → ShowsNumbers cs table o kind count (kind_code kind) count (values_bytes table o (elements_from kind 0 count))
    numbers-shown kind count plain shape = record {
      kind_is = plain;
      code_is = type-same kind;
      count_is = refl;
      elements =
          ap (λ (c : ℕ). elements_cut c count (values_bytes table o (elements_from kind 0 count))) (type-same kind)
          ∙ elements-back ss table o kind count 0 (element-fits kind count shape) ∙ elements-are kind count shape;
      whole = elements-whole ss table o kind count 0 ∙ ap (λ (c : ℕ). count * types.value_bytes c) (sym (type-same kind));
    }

    content-shown : (shape : Shape) → o.shape ≡ shape → ShowsContent L g table o shape (shape_part cs table o shape)
    content-shown (Instance k) shape = fields-shown k shape
    content-shown (Array Ref count) shape =
        record { kind_is = refl; class_is = refl; elements = items-back ss table o (elements_from Ref 0 count) (element-fits Ref count shape) ∙ elements-are Ref count shape }
    content-shown (Array Boolean count) shape = numbers-shown Boolean count refl shape
    content-shown (Array Byte count) shape = numbers-shown Byte count refl shape
    content-shown (Array Char count) shape = numbers-shown Char count refl shape
    content-shown (Array Short count) shape = numbers-shown Short count refl shape
    content-shown (Array Int count) shape = numbers-shown Int count refl shape
    content-shown (Array Long count) shape = numbers-shown Long count refl shape

    object-shown : ShowsObject L g table o
    object-shown = record {
      dump = in_heap ss cs table o;
      dumped_once = ap (filter (λ (d : Dumped). is_id (table o.number) (object_id d.part))) (objects-written ss g table)
          ∙ one-at (λ (o : Object). table o.number) (in_heap ss cs table) (λ id (d : Dumped). is_id id (object_id d.part)) (λ id o. ap (is_id id) (object-id cs table o)) g.objects o
          (rising-apart table g.objects seen.shown.fits.apart g.objects (λ a h. h) seen.shown.rising) there;
      heap_is = heap-same o.place;
      heap_name_is = text-found g table (heap_name (heap_of o.place)) (heap-text cs (heap_of o.place)) ∙ ap (λ (t : List ℕ). Some t) (heap-text-same o.place);
      content = content-shown o.shape refl;
    }

  in-order : IsReadOnce L
  in-order = record {
    front = front_of ss cs;
    back = segments ss (items ss g table) ++ dump_end ∷ [];
    records_are = append_assoc (front_of ss cs) (segments ss (items ss g table)) (dump_end ∷ []);
    parts_later = view-front parts_in ss cs (λ id text. refl) (λ serial class name. refl) refl;
    strings_first = view-back strings_in ss g table (λ ps. refl) refl;
    loads_first = view-back loads_in ss g table (λ ps. refl) refl;
    early = map (dumped no_heap) (before ss g table);
    late = map (in_heap ss cs table) g.objects;
    parts_are = parts-written ss g table;
    objects_later = none-early ss g table;
    classes_first = none-late ss g table;
  }

  -- the whole dump
  pub all-shown : Shows (written g table) g table
  all-shown = record {
    ids_once = ids-once;
    texts_once = one-text g table;
    texts_are = strings-are g table;
    each_class = class-shown;
    array_class = array-shown;
    serials_once = serials-once;
    no_other_loads = only-loads;
    no_other_classes = only-dumps;
    each_object = object-shown;
    objects_are = ap (map (λ (d : Dumped). object_id d.part)) (objects-written ss g table) ∙ ids-are ss cs table g.objects;
    null_is_no_object = ap (filter (λ (d : Dumped). is_id 0 (object_id d.part))) (objects-written ss g table)
        ∙ none-at (λ (o : Object). table o.number) (in_heap ss cs table) (λ id (d : Dumped). is_id id (object_id d.part)) (λ id o. ap (is_id id) (object-id cs table o)) 0 g.objects seen.shown.not_null;
    null_is_no_class = ap (filter (λ (d : ClassDumped). nat_eq d.id 0)) (classes-written ss g table) ∙ no-null key (class_read ss cs) (λ k c. refl) cs array_read refl;
    roots_are = roots-written ss g table;
    in_order = in-order;
  }
