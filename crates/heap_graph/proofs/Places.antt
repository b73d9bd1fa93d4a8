-- The places of values in an object: they rise, lie apart, and are its slots.
use Rattle.std.proofs.Common.{◌≡◌, ◌∙◌, ℕ, nat_eq, zero, suc, ◌+◌, ◌*◌, ◌%◌, ◌<◌, ◌≤◌, Bool, true, false, cond, List, [], ◌∷◌, ◌++◌, Some, map, refl, sym, ap, subst, inl, inr, arith}
use Rattle.std.specs.List.{AllByRecursion, find}
use Rattle.std.specs.Option.{option_map}
use Rattle.std.proofs.lemmas.Bool.{cases_eq, eqb-true}
use Rattle.std.proofs.lemmas.Option.{same_Some, none-some}
use Rattle.class_layout.specs.Names.{same_name}
use Rattle.class_layout.specs.declared.kind.Kind.{Kind}
use Rattle.class_layout.specs.declared.kind.Kind.TheVariants.{Ref, Boolean, Byte, Char, Short, Int, Long}
use Rattle.class_layout.specs.declared.kind.FieldAt.{FieldAt}
use Rattle.class_layout.specs.declared.kind.FieldDecl.{FieldDecl}
use Rattle.class_layout.specs.ClassList.{Class, IsClassList, layout_of}
use Rattle.class_layout.specs.Kinds.{kind_bytes, next_multiple, first_element, array_end, is_ref}
use Rattle.class_layout.specs.Layout.{Laid, Placed, place_field}
use Rattle.class_layout.specs.Placing.{IsIn}
use Rattle.class_layout.proofs.Uniqueness.{field_named-own}
use Rattle.heap_graph.specs.declared.names.Shape.{Shape}
use Rattle.heap_graph.specs.declared.names.Shape.TheVariants.{Instance, Array}
use Rattle.heap_graph.specs.declared.names.Stored.{Stored}
use Rattle.heap_graph.specs.Formed.{AreObjects, AreSlots, FitsKind, HasSlot, HoldsValues, IsFormed, IsShape}
use Rattle.heap_graph.specs.Graph.{Graph, Object}
use Rattle.heap_graph.specs.Places.{element, elements_from, places_of}
use Rattle.heap_graph.specs.Values.{empty_slot, value_at, value_if}
use Rattle.heap_graph.proofs.LaidOut.{each-layout}

-- the places rise from one offset to another, each at a multiple of its size
abbrev pub AreLaid : ℕ → ℕ → List FieldAt → Type 0
AreLaid low high [] = low ≤ high
AreLaid low high (p ∷ ps) = (low ≤ p.offset) × (p.offset % kind_bytes p.kind ≡ 0) × AreLaid (p.offset + kind_bytes p.kind) high ps

laid-push : (low end : ℕ) (ps : List FieldAt) (p : FieldAt) → AreLaid low end ps → end ≤ p.offset → p.offset % kind_bytes p.kind ≡ 0 → AreLaid low (p.offset + kind_bytes p.kind) (ps ++ p ∷ [])
laid-push low end [] p laid after multiple = (omega arith, multiple, omega arith)
laid-push low end (q ∷ ps) p laid after multiple = (laid.0, laid.1, laid-push (q.offset + kind_bytes q.kind) end ps p laid.2 after multiple)

multiple-near : (k : Kind) (p : ℕ) → (p ≤ next_multiple (kind_bytes k) p) × (next_multiple (kind_bytes k) p % kind_bytes k ≡ 0)
multiple-near Ref p = (omega arith, omega arith)
multiple-near Boolean p = (omega arith, omega arith)
multiple-near Byte p = (omega arith, omega arith)
multiple-near Char p = (omega arith, omega arith)
multiple-near Short p = (omega arith, omega arith)
multiple-near Int p = (omega arith, omega arith)
multiple-near Long p = (omega arith, omega arith)

places-push : (xs : List Placed) (x : Placed) → map (λ p. p.at) (xs ++ x ∷ []) ≡ map (λ p. p.at) xs ++ x.at ∷ []
places-push [] x = refl
places-push (y ∷ xs) x = ap (λ ps. y.at ∷ ps) (places-push xs x)

abbrev LaidFields : Laid → Type 0
LaidFields l = AreLaid 8 l.end (map (λ p. p.at) l.fields)

laid-step : (weak : Bool) (l : Laid) (f : FieldDecl) → LaidFields l → LaidFields (place_field weak l f)
laid-step weak l f h =
    let near = multiple-near f.kind l.end in
    let offset : ℕ = next_multiple (kind_bytes f.kind) l.end in
    let at : FieldAt = record { kind = f.kind; offset = offset; weak = weak } in
    subst (AreLaid 8 (offset + kind_bytes f.kind)) (sym (places-push l.fields (record { name = f.name; at = at })))
    (laid-push 8 l.end (map (λ p. p.at) l.fields) at h near.0 near.1)

pub fields-laid : (cs : List Class) (k : ℕ) → AreLaid 8 (layout_of cs k).end (map (λ p. p.at) (layout_of cs k).fields)
fields-laid cs k = each-layout LaidFields (omega arith) laid-step cs k

element-fits : (kind : Kind) (i : ℕ) → (12 ≤ (element kind i).offset) × ((element kind i).offset % kind_bytes kind ≡ 0) × ((element kind i).offset + kind_bytes kind ≤ first_element kind + (i + 1) * kind_bytes kind)
element-fits Ref i = (omega arith, omega arith, omega arith)
element-fits Boolean i = (omega arith, omega arith, omega arith)
element-fits Byte i = (omega arith, omega arith, omega arith)
element-fits Char i = (omega arith, omega arith, omega arith)
element-fits Short i = (omega arith, omega arith, omega arith)
element-fits Int i = (omega arith, omega arith, omega arith)
element-fits Long i = (omega arith, omega arith, omega arith)

-- a lower start is one too
pub laid-lower : (a b high : ℕ) (ps : List FieldAt) → a ≤ b → AreLaid b high ps → AreLaid a high ps
laid-lower a b high [] le laid = omega arith
laid-lower a b high (p ∷ ps) le laid = (omega (arith, laid.0), laid.1, laid.2)

elements-laid : (kind : Kind) (i n : ℕ) → AreLaid (first_element kind + i * kind_bytes kind) (first_element kind + (i + n) * kind_bytes kind) (elements_from kind i n)
elements-laid kind i zero = subst (λ k. first_element kind + i * kind_bytes kind ≤ first_element kind + k * kind_bytes kind) (let e : i ≡ i + 0 = omega arith in e) (omega arith)
elements-laid kind i (suc n) =
    let fits = element-fits kind i in
    let rest = elements-laid kind (i + 1) n in
    let e : i + 1 + n ≡ i + suc n = omega arith in (
      omega arith,
      fits.1,
      laid-lower ((element kind i).offset + kind_bytes kind) (first_element kind + (i + 1) * kind_bytes kind) _ (elements_from kind (i + 1) n) fits.2
          (subst (λ k. AreLaid (first_element kind + (i + 1) * kind_bytes kind) (first_element kind + k * kind_bytes kind) (elements_from kind (i + 1) n)) e rest),
    )

first-low : (kind : Kind) → 12 ≤ first_element kind + 0 * kind_bytes kind
first-low Ref = omega arith
first-low Boolean = omega arith
first-low Byte = omega arith
first-low Char = omega arith
first-low Short = omega arith
first-low Int = omega arith
first-low Long = omega arith

-- what is laid ends behind where it begins
pub laid-le : (low high : ℕ) (ps : List FieldAt) → AreLaid low high ps → low ≤ high
laid-le low high [] laid = laid
laid-le low high (p ∷ ps) laid = omega (arith, laid.0, laid-le (p.offset + kind_bytes p.kind) high ps laid.2)

-- where one place lies
pub laid-in : (low high : ℕ) (ps : List FieldAt) (p : FieldAt) → AreLaid low high ps → IsIn p ps → (low ≤ p.offset) × (p.offset % kind_bytes p.kind ≡ 0) × (p.offset + kind_bytes p.kind ≤ high)
laid-in low high [] p laid there = absurd there
laid-in low high (q ∷ ps) p laid (inl same) =
    subst (λ (r : FieldAt). (low ≤ r.offset) × (r.offset % kind_bytes r.kind ≡ 0) × (r.offset + kind_bytes r.kind ≤ high)) same
    (laid.0, laid.1, laid-le (q.offset + kind_bytes q.kind) high ps laid.2)
laid-in low high (q ∷ ps) p laid (inr there) =
    let rest = laid-in (q.offset + kind_bytes q.kind) high ps p laid.2 there in
    (omega (arith, laid.0, rest.0), rest.1, rest.2)

pub bytes-low : (k : Kind) → 1 ≤ kind_bytes k
bytes-low Ref = omega arith
bytes-low Boolean = omega arith
bytes-low Byte = omega arith
bytes-low Char = omega arith
bytes-low Short = omega arith
bytes-low Int = omega arith
bytes-low Long = omega arith

-- a place behind another has a greater offset
laid-behind : (high : ℕ) (ps : List FieldAt) (x p : FieldAt) → AreLaid (x.offset + kind_bytes x.kind) high ps → IsIn p ps → x.offset ≡ p.offset → ⊥
laid-behind high ps x p laid there e =
    let low = laid-in (x.offset + kind_bytes x.kind) high ps p laid there in
    omega (arith, bytes-low x.kind, low.0, e)

laid-once : (low high : ℕ) (ps : List FieldAt) (p q : FieldAt) → AreLaid low high ps → IsIn p ps → IsIn q ps → p.offset ≡ q.offset → p ≡ q
laid-once low high [] p q laid there other e = absurd there
laid-once low high (x ∷ ps) p q laid (inl f) (inl g) e = sym f ∙ g
laid-once low high (x ∷ ps) p q laid (inl f) (inr h) e = absurd (laid-behind high ps x q laid.2 h (ap (λ (r : FieldAt). r.offset) f ∙ e))
laid-once low high (x ∷ ps) p q laid (inr h) (inl g) e = absurd (laid-behind high ps x p laid.2 h (ap (λ (r : FieldAt). r.offset) g ∙ sym e))
laid-once low high (x ∷ ps) p q laid (inr h) (inr k) e = laid-once (x.offset + kind_bytes x.kind) high ps p q laid.2 h k e

-- the elements of an array lie behind its words and before its end
pub array-laid : (kind : Kind) (count : ℕ) → AreLaid 12 (array_end kind count) (elements_from kind 0 count)
array-laid kind count =
    laid-lower 12 (first_element kind + 0 * kind_bytes kind) (array_end kind count) (elements_from kind 0 count) (first-low kind)
    (subst (λ k. AreLaid (first_element kind + 0 * kind_bytes kind) (first_element kind + k * kind_bytes kind) (elements_from kind 0 count)) (let e : 0 + count ≡ count = omega arith in e) (elements-laid kind 0 count))

-- places of one offset are one place
pub one-place : (cs : List Class) (shape : Shape) (p q : FieldAt) → IsIn p (places_of cs shape) → IsIn q (places_of cs shape) → p.offset ≡ q.offset → p ≡ q
one-place cs (Instance class) p q = laid-once 8 (layout_of cs class).end (map (λ r. r.at) (layout_of cs class).fields) p q (fields-laid cs class)
one-place cs (Array kind count) p q = laid-once 12 (array_end kind count) (elements_from kind 0 count) p q (array-laid kind count)

-- a field that a name finds is a place
pub found-in : (ps : List Placed) (name : List ℕ) (at : FieldAt) → option_map (λ p. p.at) (find (λ p. same_name p.name name) ps) ≡ Some at → IsIn at (map (λ p. p.at) ps)
found-in [] name at e = absurd (none-some at e)
found-in (p ∷ ps) name at e = by (same_name p.name name) e (found-in ps name at)
  where
    by : (b : Bool) → option_map (λ q. q.at) (cond b (Some p) (find (λ q. same_name q.name name) ps)) ≡ Some at
        → (option_map (λ q. q.at) (find (λ q. same_name q.name name) ps) ≡ Some at → IsIn at (map (λ q. q.at) ps)) → IsIn at (p.at ∷ map (λ q. q.at) ps)
    by true e rest = inl (same_Some p.at at e)
    by false e rest = inr (rest e)

-- an element is one of the places
pub element-in : (kind : Kind) (k n i : ℕ) → k ≤ i → i < k + n → IsIn (element kind i) (elements_from kind k n)
element-in kind k zero i low high = absurd (omega arith)
element-in kind k (suc n) i low high = elim (cases_eq k i) [
  | inl same ↦ inl (ap (element kind) same)
  | inr apart ↦ inr (element-in kind (k + 1) n i (omega arith) (omega arith))
]

-- a slot is a place of the shape
pub slot-place : (cs : List Class) (shape : Shape) (at : FieldAt) → HasSlot cs shape at → IsIn at (places_of cs shape)
slot-place cs (Instance class) at (name, e) = found-in (layout_of cs class).fields name at e
slot-place cs (Array kind count) at (i, less, e) = subst (λ (p : FieldAt). IsIn p (elements_from kind 0 count)) (sym e) (element-in kind 0 count i (omega arith) (omega (arith, less)))

-- what stands at a place of a layout has a name
in-fields : (ps : List Placed) (at : FieldAt) → IsIn at (map (λ p. p.at) ps) → (x : Placed) × IsIn x ps × (x.at ≡ at)
in-fields [] at h = absurd h
in-fields (p ∷ ps) at (inl e) = (p, inl refl, e)
in-fields (p ∷ ps) at (inr h) = let r = in-fields ps at h in (r.0, inr r.1, r.2)

-- a place among elements is that of one of them
in-elements : (kind : Kind) (k n : ℕ) (at : FieldAt) → IsIn at (elements_from kind k n) → (i : ℕ) × (i < k + n) × (at ≡ element kind i)
in-elements kind k zero at h = absurd h
in-elements kind k (suc n) at (inl e) = (k, omega arith, sym e)
in-elements kind k (suc n) at (inr h) = let r = in-elements kind (k + 1) n at h in (r.0, omega (arith, r.1), r.2)

-- a place of the shape is a slot
pub place-slot : (cs : List Class) (shape : Shape) (at : FieldAt) → IsClassList cs → IsIn at (places_of cs shape) → HasSlot cs shape at
place-slot cs (Instance class) at formed there =
    let x = in-fields (layout_of cs class).fields at there in
    (x.0.name, field_named-own (layout_of cs class) x.0 (formed.fields class) x.1 ∙ ap (λ (p : FieldAt). Some p) x.2)
place-slot cs (Array kind count) at formed there = let i = in-elements kind 0 count at there in (i.0, omega (arith, i.1), i.2)

-- an object's stored slots are slots of its shape
slot-in : (cs : List Class) (shape : Shape) (ss : List Stored) (s : Stored) → AreSlots cs shape ss → IsIn s ss → HasSlot cs shape s.at
slot-in cs shape [] s all none = absurd none
slot-in cs shape (t ∷ ss) s all (inl e) = subst (λ (u : Stored). HasSlot cs shape u.at) e all.0
slot-in cs shape (t ∷ ss) s all (inr there) = slot-in cs shape ss s all.2 there

-- an object of a list has a shape that stands, and slots of it
pub object-in : (cs : List Class) (os : List Object) (o : Object) → AreObjects cs os → IsIn o os → IsShape cs o.shape × AreSlots cs o.shape o.slots
object-in cs [] o all none = absurd none
object-in cs (x ∷ os) o all (inl e) = subst (λ (y : Object). IsShape cs y.shape × AreSlots cs y.shape y.slots) e (all.0, all.1)
object-in cs (x ∷ os) o all (inr there) = object-in cs os o all.2 there

-- each stored slot of a formed graph's object is a slot of its shape
pub stored-slot : (g : Graph) (o : Object) (s : Stored) → IsFormed g → IsIn o g.objects → IsIn s o.slots → HasSlot g.classes o.shape s.at
stored-slot g o s formed there here = slot-in g.classes o.shape o.slots s (object-in g.classes g.objects o formed.objects there).1 here

-- null and 0 are values
empty-fits : (kind : Kind) → FitsKind kind (empty_slot (is_ref kind))
empty-fits Ref = refl
empty-fits Boolean = refl
empty-fits Byte = refl
empty-fits Char = refl
empty-fits Short = refl
empty-fits Int = refl
empty-fits Long = refl

-- what stands at a place, given what was stored, is of its kind
pub stored-fits : (cs : List Class) (shape : Shape) (place : FieldAt) (ss : List Stored) → IsIn place (places_of cs shape) → AreSlots cs shape ss
    → AllByRecursion (λ s. FitsKind s.at.kind s.value) ss → FitsKind place.kind (value_at ss place)
stored-fits cs shape place [] there slots fit = empty-fits place.kind
stored-fits cs shape place (s ∷ ss) there slots fit = by (nat_eq s.at.offset place.offset) refl (stored-fits cs shape place ss there slots.2 fit.1)
  where
    by : (b : Bool) → nat_eq s.at.offset place.offset ≡ b → FitsKind place.kind (value_at ss place) → FitsKind place.kind (value_if b s.value (value_at ss place))
    by true is rest =
        let same : s.at ≡ place = one-place cs shape s.at place (slot-place cs shape s.at slots.0) there (eqb-true s.at.offset place.offset is) in
        subst (λ (p : FieldAt). FitsKind p.kind s.value) same fit.0
    by false is rest = rest

held-in : (os : List Object) (o : Object) → AllByRecursion HoldsValues os → IsIn o os → HoldsValues o
held-in [] o all none = absurd none
held-in (x ∷ os) o all (inl e) = subst HoldsValues e all.0
held-in (x ∷ os) o all (inr h) = held-in os o all.1 h

-- what stands at a place of a formed graph's object is of its kind
pub value-fits : (g : Graph) (o : Object) (place : FieldAt) → IsFormed g → IsIn o g.objects → IsIn place (places_of g.classes o.shape) → FitsKind place.kind (value_at o.slots place)
value-fits g o place formed there here =
    stored-fits g.classes o.shape place o.slots here (object-in g.classes g.objects o formed.objects there).1 (held-in g.objects o formed.values there)
