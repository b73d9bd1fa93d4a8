-- The fields of a class and of its superclasses, each with its place: what the class dumps tell, and what the layout says.
use Rattle.std.proofs.Common.{◌≡◌, ℕ, zero, suc, ◌+◌, ◌<◌, Bool, true, false, ◌||◌, List, [], ◌∷◌, ◌++◌, Option, Some, None, length, map, nat_eq, slice_get, refl, sym, ap, ◌∙◌, subst, inl, inr, arith, length-append}
use Rattle.std.proofs.lemmas.Bool.{cases_Bool, true≢false}
use Rattle.std.proofs.lemmas.List.{length-map, map-append}
use Rattle.std.specs.List.{find, list_any}
use Rattle.std.specs.Option.{option_map}
use Rattle.std.specs.Prelude.{unwrap_or}
use Rattle.class_layout.specs.declared.kind.FieldAt.{FieldAt}
use Rattle.class_layout.specs.declared.kind.FieldDecl.{FieldDecl}
use Rattle.class_layout.specs.ClassList.{Class, IsClassList, IsEarlier, layout_of, own_fields_of, superclass_layout}
use Rattle.class_layout.specs.Kinds.{kind_bytes, next_multiple}
use Rattle.class_layout.specs.Layout.{Laid, Placed, field_named, in_layout_order, lay_out, place_field, place_fields}
use Rattle.class_layout.specs.Names.{same_name}
use Rattle.class_layout.specs.Placing.{IsIn, placed_at}
use Rattle.class_layout.proofs.Declared.{own-found, superclass-places}
use Rattle.class_layout.proofs.Layouts.{layout_of-class}
use Rattle.class_layout.proofs.Lists.{at_some, how_many-none}
use Rattle.class_layout.proofs.Uniqueness.{field_named-inherited, length-in_layout_order, names-same}
use Rattle.heap_graph.specs.declared.names.Shape.TheVariants.{Instance}
use Rattle.heap_graph.specs.Places.{places_of}
use Rattle.heap_graph.proofs.Places.{found-in}
use Rattle.hprof_write.specs.Classes.{class_id, field_entry, parent_id}
use Rattle.hprof_write.specs.Objects.{no_place, own_places, parent_of, place_named, places_up}
use Rattle.hprof_write.specs.Strings.{texts}
use Rattle.hprof_write.proofs.InstancePlaces.{none-beyond}
use Rattle.dump_shows.specs.Reading.{ClassDumped, class_at, fields_up, own_fields, superclass}
use Rattle.dump_shows.proofs.DumpedParts.{array_read, class_read, classes_read, key}
use Rattle.dump_shows.proofs.ListParts.{find-first, find-left, find-no, find-none, find-right, find-yes, in-either, in-map, map-map}
use Rattle.dump_shows.proofs.Numbered.{no-null, one-class}
use Rattle.dump_shows.proofs.Texts.{field-text}

-- a declared field with its place
abbrev pub Pair : Type 0
Pair = FieldDecl × FieldAt

abbrev pub own_pairs : List Class → ℕ → List Pair
own_pairs cs k = map (λ f. (f, place_named (layout_of cs k) f.name)) (own_fields_of cs k)

abbrev pub pairs_up : List Class → ℕ → Option ℕ → List Pair
pairs_up cs zero q = []
pairs_up cs (suc n) None = []
pairs_up cs (suc n) (Some k) = own_pairs cs k ++ pairs_up cs n (parent_of cs k)

map-at : {X Y : Type 0} (f : X → Y) (xs : List X) (k : ℕ) (x : X) → slice_get xs k ≡ Some x → slice_get (map f xs) k ≡ Some (f x)
map-at f [] k x h = absurd (cc)
map-at f (y ∷ ys) zero x h = let e : y ≡ x = cc in ap (λ z. Some (f z)) e
map-at f (y ∷ ys) (suc k) x h = map-at f ys k x h

-- the class of a number
pub class-there : (cs : List Class) (k : ℕ) → k < length cs → (c : Class) × (slice_get cs k ≡ Some c)
class-there cs k within = by (slice_get cs k) refl
  where
    by : (o : Option Class) → slice_get cs k ≡ o → (c : Class) × (slice_get cs k ≡ Some c)
    by None e = absurd (none-beyond cs k within e)
    by (Some c) e = (c, e)

parent-is : (cs : List Class) (k : ℕ) (c : Class) → slice_get cs k ≡ Some c → parent_of cs k ≡ c.parent
parent-is cs k c h = ap (λ (o : Option (Option ℕ)). unwrap_or o None) (map-at (λ (d : Class). d.parent) cs k c h)

own-is : (cs : List Class) (k : ℕ) (c : Class) → slice_get cs k ≡ Some c → own_fields_of cs k ≡ c.fields
own-is cs k c h = ap (λ (o : Option (List FieldDecl)). unwrap_or o []) (map-at (λ (d : Class). d.fields) cs k c h)

-- the places are those of the writer
pub pairs-places : (cs : List Class) (n : ℕ) (q : Option ℕ) → map (λ (e : Pair). e.1) (pairs_up cs n q) ≡ places_up cs n q
pairs-places cs zero q = refl
pairs-places cs (suc n) None = refl
pairs-places cs (suc n) (Some k) =
    map-append (λ (e : Pair). e.1) (own_pairs cs k) (pairs_up cs n (parent_of cs k))
    ∙ ap (λ l. l ++ map (λ (e : Pair). e.1) (pairs_up cs n (parent_of cs k))) (map-map (λ (e : Pair). e.1) (λ (f : FieldDecl). (f, place_named (layout_of cs k) f.name)) (own_fields_of cs k))
    ∙ ap (λ l. own_places cs k ++ l) (pairs-places cs n (parent_of cs k))

-- a superclass is an earlier class
abbrev IsBefore : ℕ → Option ℕ → Type 0
IsBefore n q = (p : ℕ) → q ≡ Some p → p < n

parent-before : (cs : List Class) (k : ℕ) → IsClassList cs → k < length cs → (p : ℕ) → parent_of cs k ≡ Some p → p < k
parent-before cs k formed within p e =
    let c = class-there cs k within in
    let early : IsEarlier k c.0.parent = at_some (λ (d : Class). IsEarlier k d.parent) (slice_get cs k) c.0 c.1 (formed.parents k) in
    subst (λ (o : Option ℕ). IsEarlier k o) (sym (parent-is cs k c.0 c.1) ∙ e) early

module _ (ss : List (List ℕ)) (cs : List Class) where
  class-found : (k : ℕ) (c : Class) → slice_get cs k ≡ Some c → class_at (classes_read ss cs) (class_id k) ≡ Some (class_read ss cs k c)
  class-found k c h = find-first (λ (d : ClassDumped). nat_eq d.id (class_id k)) (classes_read ss cs) (class_read ss cs k c) [] (one-class key (class_read ss cs) (λ k c. refl) cs array_read refl k c h)

  null-found : class_at (classes_read ss cs) 0 ≡ None
  null-found = find-none (λ (d : ClassDumped). nat_eq d.id 0) (classes_read ss cs) (no-null key (class_read ss cs) (λ k c. refl) cs array_read refl)

  none-up : (n : ℕ) → fields_up (classes_read ss cs) n 0 ≡ []
  none-up zero = refl
  none-up (suc n) =
      ap (λ (o : Option ClassDumped). own_fields o ++ fields_up (classes_read ss cs) n (superclass o)) null-found ∙ none-up n

  -- the fields that the class dumps tell
  pub fields-told : (n k : ℕ) → IsClassList cs → k < length cs
      → fields_up (classes_read ss cs) n (class_id k) ≡ map (λ (e : Pair). field_entry ss e.0) (pairs_up cs n (Some k))
  fields-told zero k formed within = refl
  fields-told (suc n) k formed within =
      let c = class-there cs k within in
      let entry : Pair → ℕ × ℕ = λ e. field_entry ss e.0 in
      let own : map entry (own_pairs cs k) ≡ map (field_entry ss) c.0.fields =
      map-map entry (λ (f : FieldDecl). (f, place_named (layout_of cs k) f.name)) (own_fields_of cs k) ∙ ap (map (field_entry ss)) (own-is cs k c.0 c.1) in
      ap (λ (o : Option ClassDumped). own_fields o ++ fields_up (classes_read ss cs) n (superclass o)) (class-found k c.0 c.1)
      ∙ ap (λ l. map (field_entry ss) c.0.fields ++ l) (up (parent_of cs k) refl (λ p less. fields-told n p formed (omega arith)))
      ∙ ap (λ l. l ++ map entry (pairs_up cs n (parent_of cs k))) (sym own)
      ∙ sym (map-append entry (own_pairs cs k) (pairs_up cs n (parent_of cs k)))
    where
      up : (q : Option ℕ) → parent_of cs k ≡ q
          → ((p : ℕ) → p < k → fields_up (classes_read ss cs) n (class_id p) ≡ map (λ (e : Pair). field_entry ss e.0) (pairs_up cs n (Some p)))
          → fields_up (classes_read ss cs) n (parent_id (class-there cs k within).0.parent) ≡ map (λ (e : Pair). field_entry ss e.0) (pairs_up cs n (parent_of cs k))
      up None e rest =
          let same : (class-there cs k within).0.parent ≡ None = sym (parent-is cs k _ (class-there cs k within).1) ∙ e in
          ap (λ (o : Option ℕ). fields_up (classes_read ss cs) n (parent_id o)) same ∙ none-up n
          ∙ sym (nothing n) ∙ ap (λ (o : Option ℕ). map (λ (e : Pair). field_entry ss e.0) (pairs_up cs n o)) (sym e)
        where
          nothing : (n : ℕ) → map (λ (e : Pair). field_entry ss e.0) (pairs_up cs n None) ≡ []
          nothing zero = refl
          nothing (suc n) = refl
      up (Some p) e rest =
          let same : (class-there cs k within).0.parent ≡ Some p = sym (parent-is cs k _ (class-there cs k within).1) ∙ e in
          let less : p < k = parent-before cs k formed within p e in
          ap (λ (o : Option ℕ). fields_up (classes_read ss cs) n (parent_id o)) same ∙ rest p less
          ∙ ap (λ (o : Option ℕ). map (λ (e : Pair). field_entry ss e.0) (pairs_up cs n o)) (sym e)

abbrev pub has_name : List ℕ → Pair → Bool
has_name name e = same_name e.0.name name

abbrev with_place : Laid → FieldDecl → Pair
with_place laid f = (f, place_named laid f.name)

own-yes : (laid : Laid) (fs : List FieldDecl) (name : List ℕ) → list_any (λ f. same_name f.name name) fs ≡ true
    → (f : FieldDecl) × IsIn f fs × (f.name ≡ name) × (find (has_name name) (map (with_place laid) fs) ≡ Some (with_place laid f))
own-yes laid [] name h = absurd (true≢false (sym h))
own-yes laid (f ∷ fs) name h =
    elim (cases_Bool (same_name f.name name)) [
      | inl e ↦ (f, inl refl, names-same f.name name e, find-yes (has_name name) (with_place laid f) (map (with_place laid) fs) e)
      | inr e ↦
          let r = own-yes laid fs name (ap (λ b. b || list_any (λ f. same_name f.name name) fs) (sym e) ∙ h) in
          (r.0, inr r.1, r.2, find-no (has_name name) (with_place laid f) (map (with_place laid) fs) e ∙ r.3)
    ]

own-no : (laid : Laid) (fs : List FieldDecl) (name : List ℕ) → list_any (λ f. same_name f.name name) fs ≡ false → find (has_name name) (map (with_place laid) fs) ≡ None
own-no laid [] name h = refl
own-no laid (f ∷ fs) name h =
    elim (cases_Bool (same_name f.name name)) [
      | inl e ↦ absurd (true≢false (ap (λ b. b || list_any (λ f. same_name f.name name) fs) (sym e) ∙ h))
      | inr e ↦
          find-no (has_name name) (with_place laid f) (map (with_place laid) fs) e
          ∙ own-no laid fs name (ap (λ b. b || list_any (λ f. same_name f.name name) fs) (sym e) ∙ h)
    ]

layout-is : (cs : List Class) (k : ℕ) → IsClassList cs → k < length cs
    → layout_of cs k ≡ lay_out (nat_eq k 1) (superclass_layout cs (parent_of cs k)) (own_fields_of cs k)
layout-is cs k formed within =
    let c = class-there cs k within in
    layout_of-class cs k c.0 formed c.1
    ∙ ap (λ (q : Option ℕ). lay_out (nat_eq k 1) (superclass_layout cs q) c.0.fields) (sym (parent-is cs k c.0 c.1))
    ∙ ap (λ (fs : List FieldDecl). lay_out (nat_eq k 1) (superclass_layout cs (parent_of cs k)) fs) (sym (own-is cs k c.0 c.1))

-- what is found under a name is the layout's place
pub pairs-find : (cs : List Class) (n k : ℕ) (name : List ℕ) → IsClassList cs → k < length cs → k < n
    → option_map (λ (e : Pair). e.1) (find (has_name name) (pairs_up cs n (Some k))) ≡ field_named (layout_of cs k) name
pairs-find cs zero k name formed within enough = absurd (omega arith)
pairs-find cs (suc n) k name formed within enough =
    let fs : List FieldDecl = own_fields_of cs k in
    let laid : Laid = layout_of cs k in
    let rest : List Pair = pairs_up cs n (parent_of cs k) in
    elim (cases_Bool (list_any (λ f. same_name f.name name) fs)) [
      | inl e ↦
          let r = own-yes laid fs name e in
          let own = own-found cs k r.0 formed r.1 in
          ap (option_map (λ (e : Pair). e.1)) (find-left (has_name name) (own_pairs cs k) rest (with_place laid r.0) r.3)
          ∙ ap (λ (o : Option FieldAt). Some (unwrap_or o no_place)) own.1 ∙ sym own.1 ∙ ap (field_named laid) r.2
      | inr e ↦
          ap (option_map (λ (e : Pair). e.1)) (find-right (has_name name) (own_pairs cs k) rest (own-no laid fs name e))
          ∙ up (parent_of cs k) refl (λ p less. pairs-find cs n p name formed (omega arith) (omega arith))
          ∙ sym (field_named-inherited (nat_eq k 1) (superclass_layout cs (parent_of cs k)) fs name (how_many-none (λ f. same_name f.name name) fs e))
          ∙ ap (λ (l : Laid). field_named l name) (sym (layout-is cs k formed within))
    ]
  where
    none : (n : ℕ) → option_map (λ (e : Pair). e.1) (find (has_name name) (pairs_up cs n None)) ≡ None
    none zero = refl
    none (suc n) = refl

    up : (q : Option ℕ) → parent_of cs k ≡ q
        → ((p : ℕ) → p < k → option_map (λ (e : Pair). e.1) (find (has_name name) (pairs_up cs n (Some p))) ≡ field_named (layout_of cs p) name)
        → option_map (λ (e : Pair). e.1) (find (has_name name) (pairs_up cs n q)) ≡ field_named (superclass_layout cs q) name
    up None e rest = none n
    up (Some p) e rest = rest p (parent-before cs k formed within p e)

length-placed : (weak : Bool) (laid : Laid) (fs : List FieldDecl) → length (place_fields weak laid fs).fields ≡ length laid.fields + length fs
length-placed weak laid [] = omega arith
length-placed weak laid (f ∷ fs) =
    let x : Placed = placed_at weak f (next_multiple (kind_bytes f.kind) laid.end) in
    omega (arith, length-placed weak (place_field weak laid f) fs, length-append laid.fields (x ∷ []))

-- and there are as many
pub pairs-length : (cs : List Class) (n k : ℕ) → IsClassList cs → k < length cs → k < n → length (pairs_up cs n (Some k)) ≡ length (layout_of cs k).fields
pairs-length cs zero k formed within enough = absurd (omega arith)
pairs-length cs (suc n) k formed within enough =
    let all = length-append (own_pairs cs k) (pairs_up cs n (parent_of cs k)) in
    let own = length-map (own_fields_of cs k) (with_place (layout_of cs k)) in
    let laid = length-placed (nat_eq k 1) (superclass_layout cs (parent_of cs k)) (in_layout_order (own_fields_of cs k)) in
    let order = length-in_layout_order (own_fields_of cs k) in
    let is = ap (λ (l : Laid). length l.fields) (layout-is cs k formed within) in
    omega (arith, all, own, laid, order, is, up (parent_of cs k) refl (λ p less. pairs-length cs n p formed (omega arith) (omega arith)))
  where
    none : (n : ℕ) → length (pairs_up cs n None) ≡ 0
    none zero = refl
    none (suc n) = refl

    up : (q : Option ℕ) → parent_of cs k ≡ q → ((p : ℕ) → p < k → length (pairs_up cs n (Some p)) ≡ length (layout_of cs p).fields)
        → length (pairs_up cs n q) ≡ length (superclass_layout cs q).fields
    up None e rest = none n
    up (Some p) e rest = rest p (parent-before cs k formed within p e)

-- a field of the class or of a superclass: its place is one of an instance's, and its name is a text of the dump
pub record InChain (cs : List Class) (k : ℕ) (e : Pair) : Type 0 where
  pub kind_is : e.1.kind ≡ e.0.kind
  pub place_in : IsIn e.1 (places_of cs (Instance k))
  pub text_in : IsIn e.0.name (texts cs)

own-in : (cs : List Class) (k : ℕ) (f : FieldDecl) → IsClassList cs → k < length cs → IsIn f (own_fields_of cs k) → InChain cs k (with_place (layout_of cs k) f)
own-in cs k f formed within there =
    let c = class-there cs k within in
    let own = own-found cs k f formed there in
    let at : own.0 ≡ place_named (layout_of cs k) f.name = ap (λ (o : Option FieldAt). unwrap_or o no_place) (sym own.1) in
    record {
      kind_is = ap (λ (p : FieldAt). p.kind) (sym at) ∙ own.2;
      place_in = subst (λ (p : FieldAt). IsIn p (places_of cs (Instance k))) at (found-in (layout_of cs k).fields f.name own.0 own.1);
      text_in = field-text cs k c.0 f c.1 (subst (λ (l : List FieldDecl). IsIn f l) (own-is cs k c.0 c.1) there);
    }

pub pairs-in : (cs : List Class) (n k : ℕ) (e : Pair) → IsClassList cs → k < length cs → IsIn e (pairs_up cs n (Some k)) → InChain cs k e
pairs-in cs zero k e formed within there = absurd there
pairs-in cs (suc n) k e formed within there =
    elim (in-either e (own_pairs cs k) (pairs_up cs n (parent_of cs k)) there) [
      | inl a ↦
          let r = in-map (with_place (layout_of cs k)) (own_fields_of cs k) e a in
          subst (InChain cs k) r.2 (own-in cs k r.0 formed within r.1)
      | inr b ↦ up (parent_of cs k) refl b (λ p less h. pairs-in cs n p e formed (omega arith) h)
    ]
  where
    none : (n : ℕ) → IsIn e (pairs_up cs n None) → InChain cs k e
    none zero h = absurd h
    none (suc n) h = absurd h

    up : (q : Option ℕ) → parent_of cs k ≡ q → IsIn e (pairs_up cs n q) → ((p : ℕ) → p < k → IsIn e (pairs_up cs n (Some p)) → InChain cs p e) → InChain cs k e
    up None is h rest = none n h
    up (Some p) is h rest =
        let c = class-there cs k within in
        let parent : slice_get (map (λ (c : Class). c.parent) cs) k ≡ Some (Some p) =
        map-at (λ (d : Class). d.parent) cs k c.0 c.1 ∙ ap (λ (o : Option ℕ). Some o) (sym (parent-is cs k c.0 c.1) ∙ is) in
        let before = rest p (parent-before cs k formed within p is) h in
        record { kind_is = before.kind_is; place_in = superclass-places cs k p e.1 formed parent before.place_in; text_in = before.text_in }
