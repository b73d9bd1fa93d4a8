-- A list of records shows one graph.
use Rattle.std.proofs.Common.{◌≡◌, ℕ, suc, ◌<◌, Bool, true, List, [], ◌∷◌, Option, Some, None, cond, length, map, filter, nat_eq, slice_get, refl, sym, ap, ◌∙◌, subst, inl, inr, arith, ℤ, pos}
use Rattle.std.proofs.lemmas.Bool.{cases_Bool, eqb-true}
use Rattle.std.proofs.lemmas.List.{length-map}
use Rattle.std.specs.Option.{option_map}
use Rattle.class_layout.specs.declared.kind.FieldAt.{FieldAt}
use Rattle.class_layout.specs.declared.kind.FieldDecl.{FieldDecl}
use Rattle.class_layout.specs.declared.kind.Kind.{Kind}
use Rattle.class_layout.specs.declared.kind.Kind.TheVariants.{Ref, Boolean, Byte, Char, Short, Int, Long}
use Rattle.class_layout.specs.ClassList.{Class, IsClassList, layout_of}
use Rattle.class_layout.specs.Layout.{Placed, field_named}
use Rattle.class_layout.specs.Placing.{IsIn}
use Rattle.class_layout.proofs.Uniqueness.{field_named-own}
use Rattle.heap_graph.specs.declared.names.Shape.{Shape}
use Rattle.heap_graph.specs.declared.names.Shape.TheVariants.{Instance, Array}
use Rattle.heap_graph.specs.Graph.{Graph, Object}
use Rattle.heap_graph.specs.Values.{held_targets}
use Rattle.hprof_records.specs.declared.sub_record.SubRecord.{SubRecord}
use Rattle.hprof_records.specs.declared.sub_record.SubRecord.TheVariants as part
use Rattle.hprof_records.specs.declared.top_record.TopRecord.{TopRecord}
use Rattle.hprof_write.proofs.ValuesAt.{length-elements}
use Rattle.heap_graph.specs.Places.{places_of}
use Rattle.object_view.specs.Seen.{value_in}
use Rattle.dump_shows.specs.Reading.{ClassDumped, Dumped, Load, Rooted, field_read, is_id, loads, object_id, objects, string_of}
use Rattle.dump_shows.specs.Same.{HoldsSame, IsSameSeen}
use Rattle.dump_shows.specs.Shows.{class_address, field_declared, root_at, super_address, type_code, IsClassAddress, Shows, ShowsClass, ShowsContent, ShowsFields, ShowsObject}
use Rattle.dump_shows.proofs.Chains.{class-there}
use Rattle.dump_shows.proofs.ListParts.{filter-no, filter-yes, in-map}

-- what passes first is one of the list, and passes
passed : {X : Type 0} (p : X → Bool) (xs : List X) (x : X) (ys : List X) → filter p xs ≡ x ∷ ys → IsIn x xs × (p x ≡ true)
passed p [] x ys h = absurd (cc)
passed p (y ∷ xs) x ys h =
    elim (cases_Bool (p y)) [
      | inl e ↦
          let g : y ∷ filter p xs ≡ x ∷ ys = sym (filter-yes p y xs e) ∙ h in
          let same : y ≡ x = cc in
          (inl same, ap p (sym same) ∙ e)
      | inr e ↦ let r = passed p xs x ys (sym (filter-no p y xs e) ∙ h) in (inr r.0, r.1)
    ]

-- one list has one first element
one-first : {X : Type 0} (xs : List X) (x y : X) → xs ≡ x ∷ [] → xs ≡ y ∷ [] → x ≡ y
one-first xs x y a b = cc

one-some : {X : Type 0} (o : Option X) (x y : X) → o ≡ Some x → o ≡ Some y → x ≡ y
one-some o x y a b = cc

-- lists with the same elements at each place
same-list : {X : Type 0} (xs ys : List X) → ((k : ℕ) (x : X) → slice_get xs k ≡ Some x → slice_get ys k ≡ Some x)
    → ((k : ℕ) (x : X) → slice_get ys k ≡ Some x → slice_get xs k ≡ Some x) → xs ≡ ys
same-list [] [] to from = refl
same-list [] (y ∷ ys) to from = let e = from 0 y refl in absurd (cc)
same-list (x ∷ xs) [] to from = let e = to 0 x refl in absurd (cc)
same-list (x ∷ xs) (y ∷ ys) to from =
    let e : Some y ≡ Some x = to 0 x refl in
    let same : x ≡ y = cc in
    ap (λ z. z ∷ xs) same ∙ ap (λ l. y ∷ l) (same-list xs ys (λ k z h. to (suc k) z h) (λ k z h. from (suc k) z h))

-- maps that agree, element by element
same-at : {X Y : Type 0} (f g : X → Y) (xs : List X) → map f xs ≡ map g xs → (x : X) → IsIn x xs → f x ≡ g x
same-at f g [] e x there = absurd there
same-at f g (y ∷ xs) e x (inl same) =
    let h : f y ≡ g y = cc in
    ap f (sym same) ∙ h ∙ ap g same
same-at f g (y ∷ xs) e x (inr there) = let h : map f xs ≡ map g xs = cc in same-at f g xs h x there

same-somes : {X Y Z : Type 0} (f : X → Z) (g : Y → Z) (xs : List X) (ys : List Y) → map (λ x. Some (f x)) xs ≡ map (λ y. Some (g y)) ys → map f xs ≡ map g ys
same-somes f g [] [] e = refl
same-somes f g [] (y ∷ ys) e = absurd (cc)
same-somes f g (x ∷ xs) [] e = absurd (cc)
same-somes f g (x ∷ xs) (y ∷ ys) e =
    let one : f x ≡ g y = cc in
    let rest : map (λ x. Some (f x)) xs ≡ map (λ y. Some (g y)) ys = cc in
    ap (λ z. z ∷ map f xs) one ∙ ap (λ l. g y ∷ l) (same-somes f g xs ys rest)

-- the kind of a type's code
kind_coded : ℕ → Kind
kind_coded code =
    cond (nat_eq code 2) Ref
    (cond (nat_eq code 4) Boolean (cond (nat_eq code 8) Byte (cond (nat_eq code 5) Char (cond (nat_eq code 9) Short (cond (nat_eq code 10) Int Long)))))

coded-back : (kind : Kind) → kind_coded (type_code kind) ≡ kind
unfolding kind_coded
coded-back Ref = refl
coded-back Boolean = refl
coded-back Byte = refl
coded-back Char = refl
coded-back Short = refl
coded-back Int = refl
coded-back Long = refl

one-kind : (a b : Kind) → type_code a ≡ type_code b → a ≡ b
one-kind a b e = sym (coded-back a) ∙ ap kind_coded e ∙ coded-back b

one-super : (a b : Option ℕ) → super_address a ≡ super_address b → a ≡ b
one-super None None e = refl
one-super None (Some p) e = absurd (omega arith)
one-super (Some p) None e = absurd (omega arith)
one-super (Some p) (Some q) e = let h : p ≡ q = omega arith in ap (λ (n : ℕ). Some n) h

-- declared fields by what a reader finds of them
one-field : (f d : FieldDecl) → field_declared f ≡ field_declared d → f ≡ d
one-field f d e =
    let n : Some f.name ≡ Some d.name = ap (λ (x : Option (List ℕ) × ℕ). x.0) e in
    let name : f.name ≡ d.name = cc in
    let kind : f.kind ≡ d.kind = one-kind f.kind d.kind (ap (λ (x : Option (List ℕ) × ℕ). x.1) e) in
    let named : List ℕ → FieldDecl = λ n. record { name = n; kind = f.kind } in
    let typed : Kind → FieldDecl = λ k. record { name = d.name; kind = k } in
    ap named name ∙ ap typed kind

one-fields : (fs ds : List FieldDecl) → map field_declared fs ≡ map field_declared ds → fs ≡ ds
one-fields [] [] e = refl
one-fields [] (d ∷ ds) e = absurd (cc)
one-fields (f ∷ fs) [] e = absurd (cc)
one-fields (f ∷ fs) (d ∷ ds) e =
    let one : field_declared f ≡ field_declared d = cc in
    let rest : map field_declared fs ≡ map field_declared ds = cc in
    ap (λ (x : FieldDecl). x ∷ fs) (one-field f d one) ∙ ap (λ (l : List FieldDecl). d ∷ l) (one-fields fs ds rest)

-- a class that is shown twice
one-class : (L : List TopRecord) (id s r : ℕ) (c d : Class) → ShowsClass L id c.name (super_address c.parent) s c.fields → ShowsClass L id d.name (super_address d.parent) r d.fields → c ≡ d
one-class L id s r c d a b =
    let load : a.load ≡ b.load = one-first _ a.load b.load a.loaded_once b.loaded_once in
    let dump : a.dump ≡ b.dump = one-first _ a.dump b.dump a.dumped_once b.dumped_once in
    let name : c.name ≡ d.name = one-some (string_of L b.load.name) c.name d.name (ap (λ (l : Load). string_of L l.name) (sym load) ∙ a.name_is) b.name_is in
    let parent : c.parent ≡ d.parent = one-super c.parent d.parent (sym a.parent_is ∙ ap (λ (x : ClassDumped). x.parent) dump ∙ b.parent_is) in
    let fields : c.fields ≡ d.fields = one-fields c.fields d.fields (sym a.fields_are ∙ ap (λ (x : ClassDumped). map (field_read L) x.fields) dump ∙ b.fields_are) in
    let by-name : List ℕ → Class = λ n. record { name = n; parent = c.parent; fields = c.fields } in
    let by-parent : Option ℕ → Class = λ q. record { name = d.name; parent = q; fields = c.fields } in
    let by-fields : List FieldDecl → Class = λ fs. record { name = d.name; parent = d.parent; fields = fs } in
    ap by-name name ∙ ap by-parent parent ∙ ap by-fields fields

-- a class of one graph is one of the other
class-too : (L : List TopRecord) (g h : Graph) (table other : ℕ → ℕ) → Shows L g table → Shows L h other → (k : ℕ) (c : Class) → slice_get g.classes k ≡ Some c
    → slice_get h.classes k ≡ Some c
class-too L g h table other a b k c e =
    let shown = a.each_class k c e in
    let load = passed (λ (l : Load). nat_eq l.class (class_address k)) (loads L) shown.load [] shown.loaded_once in
    let class : shown.load.class ≡ class_address k = eqb-true shown.load.class (class_address k) load.1 in
    let d = class-there h.classes k (within shown.load class (b.no_other_loads shown.load load.0)) in
    d.1 ∙ ap (λ (x : Class). Some x) (sym (one-class L (class_address k) _ _ c d.0 shown (b.each_class k d.0 d.1)))
  where
    within : (l : Load) → l.class ≡ class_address k → IsClassAddress h l.class → k < length h.classes
    within l class (inl array) = absurd (omega arith)
    within l class (inr found) = let less = found.1 in let is = found.2 in omega (arith, less, is)

module _ (L : List TopRecord) (g h : Graph) (table other : ℕ → ℕ) (formed : IsClassList g.classes) (same : h.classes ≡ g.classes) (o p : Object) where
  -- values that are the same at each place
  abbrev SameValues : Type 0
  SameValues = (place : FieldAt) → IsIn place (places_of g.classes o.shape) → value_in other p place ≡ value_in table o place

  same-fields : (k m class : ℕ) (bytes : List ℕ) → o.shape ≡ Instance k → p.shape ≡ Instance m → ShowsFields L g table o k class bytes → ShowsFields L h other p m class bytes
      → (p.shape ≡ o.shape) × SameValues
  same-fields k m class bytes so sp a b =
      let address : class_address m ≡ class_address k = sym b.class_is ∙ a.class_is in
      let number : m ≡ k = omega arith in (
        sp ∙ ap (λ (n : ℕ). Instance n) number ∙ sym so,
        λ place there.
            let here : IsIn place (map (λ x. x.at) (layout_of g.classes k).fields) = subst (λ (s : Shape). IsIn place (places_of g.classes s)) so there in
            let x = in-map (λ (x : Placed). x.at) (layout_of g.classes k).fields place here in
            let named : field_named (layout_of g.classes k) x.0.name ≡ Some place = field_named-own (layout_of g.classes k) x.0 (formed.fields k) x.1 ∙ ap (λ (q : FieldAt). Some q) x.2 in
            let mine = a.values x.0.name ∙ ap (option_map (value_in table o)) named in
            let its = b.values x.0.name
            ∙ ap (λ (cs : List Class). option_map (value_in other p) (field_named (layout_of cs m) x.0.name)) same
            ∙ ap (λ (n : ℕ). option_map (value_in other p) (field_named (layout_of g.classes n) x.0.name)) number ∙ ap (option_map (value_in other p)) named in
            one-some _ (value_in other p place) (value_in table o place) its mine,
      )

  same-elements : (of to : Kind) (n m : ℕ) (values : List ℤ) → of ≡ to → o.shape ≡ Array of n → p.shape ≡ Array to m
      → values ≡ map (value_in table o) (places_of g.classes o.shape) → values ≡ map (value_in other p) (places_of h.classes p.shape) → (p.shape ≡ o.shape) × SameValues
  same-elements of to n m values kind so sp a b =
      let mine : length values ≡ n =
      ap length a ∙ length-map (places_of g.classes o.shape) (value_in table o) ∙ ap (λ (s : Shape). length (places_of g.classes s)) so ∙ length-elements of 0 n in
      let its : length values ≡ m =
      ap length b ∙ length-map (places_of h.classes p.shape) (value_in other p) ∙ ap (λ (s : Shape). length (places_of h.classes s)) sp ∙ length-elements to 0 m in
      let count : m ≡ n = sym its ∙ mine in
      let shape : p.shape ≡ o.shape = sp ∙ ap (λ (k : Kind). Array k m) (sym kind) ∙ ap (λ (c : ℕ). Array of c) count ∙ sym so in
      let all : map (value_in other p) (places_of g.classes o.shape) ≡ map (value_in table o) (places_of g.classes o.shape) =
      ap (λ (s : Shape). map (value_in other p) (places_of g.classes s)) (sym shape) ∙ ap (λ (cs : List Class). map (value_in other p) (places_of cs p.shape)) (sym same) ∙ sym b ∙ a in
      (shape, λ place there. same-at (value_in other p) (value_in table o) (places_of g.classes o.shape) all place there)

  -- an object's shape and values are those of its part
  same-content : (s r : Shape) (d : SubRecord) → o.shape ≡ s → p.shape ≡ r → ShowsContent L g table o s d → ShowsContent L h other p r d → (p.shape ≡ o.shape) × SameValues
  same-content (Instance k) (Instance m) (part.Instance id stack class bytes) so sp a b = same-fields k m class bytes so sp a b
  same-content (Array of n) (Array to m) (part.ObjectArray id stack class items) so sp a b =
      same-elements of to n m (map pos items) (a.kind_is ∙ sym b.kind_is) so sp a.elements b.elements
  same-content (Array of n) (Array to m) (part.PrimitiveArray id stack code told bytes) so sp a b =
      same-elements of to n m _ (one-kind of to (sym a.code_is ∙ b.code_is)) so sp a.elements b.elements
  same-content (Instance k) (Array to m) (part.Instance id stack class bytes) so sp a b = absurd b
  same-content (Array of n) (Instance m) (part.ObjectArray id stack class items) so sp a b = absurd b
  same-content (Array of n) (Instance m) (part.PrimitiveArray id stack code told bytes) so sp a b = absurd b
  same-content s r d so sp a b = absurd a

  same-object : other p.number ≡ table o.number → ShowsObject L g table o → ShowsObject L h other p → HoldsSame g.classes table o other p
  same-object at a b =
      let dump : b.dump ≡ a.dump = one-first _ b.dump a.dump (ap (λ (n : ℕ). filter (λ (d : Dumped). is_id n (object_id d.part)) (objects L)) (sym at) ∙ b.dumped_once) a.dumped_once in
      let content = same-content o.shape p.shape a.dump.part refl refl a.content (subst (λ (d : Dumped). ShowsContent L h other p p.shape d.part) dump b.content) in
      record { shape_is = content.0; heap_is = sym b.heap_is ∙ ap (λ (d : Dumped). d.heap) dump ∙ a.heap_is; values = content.1 }

root-ids : (table : ℕ → ℕ) (ns : List ℕ) → map (λ (r : Rooted). r.id) (map (root_at table) ns) ≡ map table ns
root-ids table [] = refl
root-ids table (n ∷ ns) = ap (λ (l : List ℕ). table n ∷ l) (root-ids table ns)

pub one-graph : (L : List TopRecord) (g h : Graph) (table other : ℕ → ℕ) → IsClassList g.classes → Shows L g table → Shows L h other → IsSameSeen g table h other
one-graph L g h table other formed a b =
    let same : h.classes ≡ g.classes = same-list h.classes g.classes (class-too L h g other table b a) (class-too L g h table other a b) in
    record {
      classes_are = same;
      addresses_are = same-somes (λ (o : Object). other o.number) (λ (o : Object). table o.number) h.objects g.objects (sym b.objects_are ∙ a.objects_are);
      objects_are = λ o p ho hp at. same-object L g h table other formed same o p at (a.each_object o ho) (b.each_object p hp);
      roots_are =
          sym (root-ids other (held_targets (map (λ r. r.holds) h.roots))) ∙ ap (map (λ (r : Rooted). r.id)) (sym b.roots_are ∙ a.roots_are)
          ∙ root-ids table (held_targets (map (λ r. r.holds) g.roots));
    }
