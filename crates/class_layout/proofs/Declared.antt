-- Places and declared fields: each field has a place of its kind, and a superclass's places come first.
use Rattle.std.proofs.Common.{◌≡◌, ℕ, zero, suc, Bool, true, false, cond, not, ◌&&◌, List, [], ◌∷◌, ◌++◌, Option, Some, length, map, filter, nat_eq, slice_get, refl, sym, ap, ◌∙◌, subst, inl, inr, append_assoc}
use Rattle.std.proofs.lemmas.List.{append-nil, map-append}
use Rattle.std.proofs.lemmas.Option.{same_Some, none-some}
use Rattle.std.specs.List.{find}
use Rattle.std.specs.Option.{option_map}
use Rattle.class_layout.specs.declared.kind.FieldAt.{FieldAt}
use Rattle.class_layout.specs.declared.kind.FieldDecl.{FieldDecl}
use Rattle.class_layout.specs.declared.kind.Kind.{Kind}
use Rattle.class_layout.specs.declared.kind.Kind.TheVariants.{Ref, Boolean, Byte, Char, Short, Int, Long}
use Rattle.class_layout.specs.ClassList.{Class, IsClassList, layout_of, own_fields_of, superclass_layout}
use Rattle.class_layout.specs.Kinds.{is_ref, kind_bytes, next_multiple}
use Rattle.class_layout.specs.Layout.{Laid, Placed, field_named, in_layout_order, is_plain, lay_out, place_field, place_fields}
use Rattle.class_layout.specs.Names.{same_name}
use Rattle.class_layout.specs.Placing.{IsIn, placed_at}
use Rattle.class_layout.proofs.Layouts.{layout_of-class}
use Rattle.class_layout.proofs.Places.{IsIn-last, IsIn-left, IsIn-place_fields, IsIn-right}
use Rattle.class_layout.proofs.Uniqueness.{field_named-own, length-in_layout_order}

-- what passes a filter is left
IsIn-filter : {X : Type 0} (p : X → Bool) (xs : List X) (x : X) → IsIn x xs → p x ≡ true → IsIn x (filter p xs)
IsIn-filter p [] x there is = there
IsIn-filter p (y ∷ xs) x there is = by (p y) refl there (λ later. IsIn-filter p xs x later is)
  where
    by : (b : Bool) → p y ≡ b → IsIn x (y ∷ xs) → (IsIn x xs → IsIn x (filter p xs)) → IsIn x (cond b (y ∷ filter p xs) (filter p xs))
    by true e (inl same) rest = inl same
    by true e (inr later) rest = inr (rest later)
    by false e (inl same) rest = absurd (cc (ap p same, e, is))
    by false e (inr later) rest = rest later

abbrev refs : List FieldDecl → List FieldDecl
refs fs = filter (λ f. is_ref f.kind) fs

abbrev of_bytes : ℕ → List FieldDecl → List FieldDecl
of_bytes n fs = filter (is_plain n) fs

-- each field is one of those in layout order
in-order : (f : FieldDecl) (fs : List FieldDecl) → IsIn f fs → IsIn f (in_layout_order fs)
in-order f fs there = by f.kind refl
  where
    plain : (n : ℕ) (kind : Kind) → f.kind ≡ kind → (not (is_ref kind) && nat_eq (kind_bytes kind) n) ≡ true → IsIn f (of_bytes n fs)
    plain n kind e is = IsIn-filter (is_plain n) fs f there (ap (λ k. not (is_ref k) && nat_eq (kind_bytes k) n) e ∙ is)

    two : IsIn f (refs fs ++ of_bytes 8 fs) → IsIn f (in_layout_order fs)
    two h =
        IsIn-left f (refs fs ++ of_bytes 8 fs ++ of_bytes 4 fs ++ of_bytes 2 fs) (of_bytes 1 fs)
        (IsIn-left f (refs fs ++ of_bytes 8 fs ++ of_bytes 4 fs) (of_bytes 2 fs) (IsIn-left f (refs fs ++ of_bytes 8 fs) (of_bytes 4 fs) h))

    four : IsIn f (of_bytes 4 fs) → IsIn f (in_layout_order fs)
    four h =
        IsIn-left f (refs fs ++ of_bytes 8 fs ++ of_bytes 4 fs ++ of_bytes 2 fs) (of_bytes 1 fs)
        (IsIn-left f (refs fs ++ of_bytes 8 fs ++ of_bytes 4 fs) (of_bytes 2 fs) (IsIn-right f (refs fs ++ of_bytes 8 fs) (of_bytes 4 fs) h))

    half : IsIn f (of_bytes 2 fs) → IsIn f (in_layout_order fs)
    half h =
        IsIn-left f (refs fs ++ of_bytes 8 fs ++ of_bytes 4 fs ++ of_bytes 2 fs) (of_bytes 1 fs)
        (IsIn-right f (refs fs ++ of_bytes 8 fs ++ of_bytes 4 fs) (of_bytes 2 fs) h)

    last : IsIn f (of_bytes 1 fs) → IsIn f (in_layout_order fs)
    last h = IsIn-right f (refs fs ++ of_bytes 8 fs ++ of_bytes 4 fs ++ of_bytes 2 fs) (of_bytes 1 fs) h

    by : (kind : Kind) → f.kind ≡ kind → IsIn f (in_layout_order fs)
    by Ref e = two (IsIn-left f (refs fs) (of_bytes 8 fs) (IsIn-filter (λ f. is_ref f.kind) fs f there (ap is_ref e)))
    by Long e = two (IsIn-right f (refs fs) (of_bytes 8 fs) (plain 8 Long e refl))
    by Int e = four (plain 4 Int e refl)
    by Char e = half (plain 2 Char e refl)
    by Short e = half (plain 2 Short e refl)
    by Boolean e = last (plain 1 Boolean e refl)
    by Byte e = last (plain 1 Byte e refl)

-- each field is placed
placed : (weak : Bool) (laid : Laid) (fs : List FieldDecl) (f : FieldDecl) → IsIn f fs → (offset : ℕ) × IsIn (placed_at weak f offset) (place_fields weak laid fs).fields
placed weak laid [] f there = absurd there
placed weak laid (g ∷ fs) f (inl same) =
    let offset : ℕ = next_multiple (kind_bytes g.kind) laid.end in (
      offset,
      IsIn-place_fields weak (place_field weak laid g) fs (placed_at weak f offset)
          (subst (λ (d : FieldDecl). IsIn (placed_at weak d offset) (place_field weak laid g).fields) same (IsIn-last (placed_at weak g offset) laid.fields)),
    )
placed weak laid (g ∷ fs) f (inr there) = placed weak (place_field weak laid g) fs f there

-- the class of a number, by one of its fields
declaring : (cs : List Class) (k : ℕ) (f : FieldDecl) → IsIn f (own_fields_of cs k) → (c : Class) × (slice_get cs k ≡ Some c) × IsIn f c.fields
declaring [] k f there = absurd there
declaring (c ∷ cs) zero f there = (c, refl, there)
declaring (c ∷ cs) (suc k) f there = declaring cs k f there

-- an own field is found under its name, at a place of its kind
pub own-found : (cs : List Class) (k : ℕ) (f : FieldDecl) → IsClassList cs → IsIn f (own_fields_of cs k)
    → (at : FieldAt) × (field_named (layout_of cs k) f.name ≡ Some at) × (at.kind ≡ f.kind)
own-found cs k f formed there =
    let c = declaring cs k f there in
    let weak : Bool = nat_eq k 1 in
    let p = placed weak (superclass_layout cs c.0.parent) (in_layout_order c.0.fields) f (in-order f c.0.fields c.2) in
    let x : Placed = placed_at weak f p.0 in
    let is : IsIn x (layout_of cs k).fields = subst (λ (l : Laid). IsIn x l.fields) (sym (layout_of-class cs k c.0 formed c.1)) p.1 in
    (x.at, field_named-own (layout_of cs k) x (formed.fields k) is, refl)

-- a place that is found under the name of an own field has its kind
pub kind-declared : (cs : List Class) (k : ℕ) (f : FieldDecl) (at : FieldAt) → IsClassList cs → IsIn f (own_fields_of cs k) → field_named (layout_of cs k) f.name ≡ Some at → at.kind ≡ f.kind
kind-declared cs k f at formed there found =
    let own = own-found cs k f formed there in
    ap (λ (p : FieldAt). p.kind) (same_Some at own.0 (sym found ∙ own.1)) ∙ own.2

-- fields are placed behind those that are laid out
placed-behind : (weak : Bool) (laid : Laid) (fs : List FieldDecl) → (own : List Placed) × ((place_fields weak laid fs).fields ≡ laid.fields ++ own) × (length own ≡ length fs) × (map (λ x. x.name) own ≡ map (λ f. f.name) fs)
placed-behind weak laid [] = ([], sym (append-nil laid.fields), refl, refl)
placed-behind weak laid (f ∷ fs) =
    let x : Placed = placed_at weak f (next_multiple (kind_bytes f.kind) laid.end) in
    let rest = placed-behind weak (place_field weak laid f) fs in
    (x ∷ rest.0, rest.1 ∙ append_assoc laid.fields (x ∷ []) rest.0, ap suc rest.2, ap (λ ns. f.name ∷ ns) rest.3)

-- the class of a number, by its superclass
behind : (cs : List Class) (k p : ℕ) → slice_get (map (λ c. c.parent) cs) k ≡ Some (Some p) → (c : Class) × (slice_get cs k ≡ Some c) × (c.parent ≡ Some p)
behind [] k p e = absurd (none-some (Some p) e)
behind (c ∷ cs) zero p e = (c, refl, same_Some c.parent (Some p) e)
behind (c ∷ cs) (suc k) p e = behind cs k p e

own-count : (cs : List Class) (k : ℕ) (c : Class) → slice_get cs k ≡ Some c → own_fields_of cs k ≡ c.fields
own-count [] k c e = absurd (none-some c e)
own-count (d ∷ cs) zero c e = ap (λ (x : Class). x.fields) (same_Some d c e)
own-count (d ∷ cs) (suc k) c e = own-count cs k c e

-- the superclass's fields come first, in order, and then those that the class declares, in the order of the layout
pub superclass-first : (cs : List Class) (k p : ℕ) → IsClassList cs → slice_get (map (λ c. c.parent) cs) k ≡ Some (Some p)
    → (own : List Placed) × ((layout_of cs k).fields ≡ (layout_of cs p).fields ++ own) × (length own ≡ length (own_fields_of cs k))
    × (map (λ x. x.name) own ≡ map (λ f. f.name) (in_layout_order (own_fields_of cs k)))
superclass-first cs k p formed e =
    let c = behind cs k p e in
    let rest = placed-behind (nat_eq k 1) (layout_of cs p) (in_layout_order c.0.fields) in
    let laid : layout_of cs k ≡ lay_out (nat_eq k 1) (layout_of cs p) c.0.fields =
    layout_of-class cs k c.0 formed c.1 ∙ ap (λ (q : Option ℕ). lay_out (nat_eq k 1) (superclass_layout cs q) c.0.fields) c.2 in
    let own : c.0.fields ≡ own_fields_of cs k = sym (own-count cs k c.0 c.1) in (
      rest.0,
      ap (λ (l : Laid). l.fields) laid ∙ rest.1,
      rest.2 ∙ length-in_layout_order c.0.fields ∙ ap (λ (l : List FieldDecl). length l) own,
      rest.3 ∙ ap (λ (l : List FieldDecl). map (λ f. f.name) (in_layout_order l)) own,
    )

-- so a place of the superclass is one of the class
pub superclass-places : (cs : List Class) (k p : ℕ) (at : FieldAt) → IsClassList cs → slice_get (map (λ c. c.parent) cs) k ≡ Some (Some p)
    → IsIn at (map (λ p. p.at) (layout_of cs p).fields) → IsIn at (map (λ p. p.at) (layout_of cs k).fields)
superclass-places cs k p at formed e there =
    let first = superclass-first cs k p formed e in
    let places : List Placed → List FieldAt = map (λ (x : Placed). x.at) in
    subst (λ (l : List FieldAt). IsIn at l) (sym (ap places first.1 ∙ map-append (λ (x : Placed). x.at) (layout_of cs p).fields first.0))
    (IsIn-left at (places (layout_of cs p).fields) (places first.0) there)

find-front : (t : Placed → Bool) (xs ys : List Placed) (at : FieldAt) → option_map (λ p. p.at) (find t xs) ≡ Some at → option_map (λ p. p.at) (find t (xs ++ ys)) ≡ Some at
find-front t [] ys at e = absurd (none-some at e)
find-front t (x ∷ xs) ys at e = by (t x) e (find-front t xs ys at)
  where
    by : (b : Bool) → option_map (λ p. p.at) (cond b (Some x) (find t xs)) ≡ Some at → (option_map (λ p. p.at) (find t xs) ≡ Some at → option_map (λ p. p.at) (find t (xs ++ ys)) ≡ Some at)
        → option_map (λ p. p.at) (cond b (Some x) (find t (xs ++ ys))) ≡ Some at
    by true e rest = e
    by false e rest = rest e

-- and a field of the superclass is found at its place
pub superclass-found : (cs : List Class) (k p : ℕ) (name : List ℕ) (at : FieldAt) → IsClassList cs → slice_get (map (λ c. c.parent) cs) k ≡ Some (Some p)
    → field_named (layout_of cs p) name ≡ Some at → field_named (layout_of cs k) name ≡ Some at
superclass-found cs k p name at formed e found =
    let first = superclass-first cs k p formed e in
    let t : Placed → Bool = λ x. same_name x.name name in
    ap (λ (l : List Placed). option_map (λ (x : Placed). x.at) (find t l)) first.1 ∙ find-front t (layout_of cs p).fields first.0 at found
