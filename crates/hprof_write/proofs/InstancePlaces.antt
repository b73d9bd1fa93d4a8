-- The places of an instance's values, and how many they are.
use Rattle.std.proofs.Common.{◌≡◌, ℕ, zero, suc, ◌+◌, ◌<◌, ◌≤◌, Bool, List, [], ◌∷◌, ◌++◌, Option, Some, None, length, take, map, nat_eq, refl, ap, ◌∙◌, subst, arith, inl, inr, add-one, length-append}
use Rattle.std.proofs.lemmas.List.{length-map}
use Rattle.std.specs.List.{slice_get}
use Rattle.std.specs.Option.{IfSome}
use Rattle.std.specs.Prelude.{unwrap_or}
use Rattle.class_layout.specs.declared.kind.FieldAt.{FieldAt}
use Rattle.class_layout.specs.declared.kind.FieldDecl.{FieldDecl}
use Rattle.class_layout.specs.ClassList.{Class, IsClassList, IsEarlier, layout_of, own_fields_of, superclass_layout}
use Rattle.class_layout.specs.Layout.{Laid, field_named, in_layout_order, lay_out, place_field, place_fields}
use Rattle.class_layout.specs.Placing.{IsIn}
use Rattle.class_layout.proofs.Layouts.{layout_of-parts}
use Rattle.class_layout.proofs.Uniqueness.{length-in_layout_order}
use Rattle.heap_graph.specs.declared.names.Shape.TheVariants.{Instance}
use Rattle.heap_graph.proofs.LaidOut.{lie-within, multiple-le}
use Rattle.heap_graph.specs.Places.{places_of}
use Rattle.heap_graph.proofs.Places.{bytes-low, found-in}
use Rattle.hprof_write.specs.Objects.{dumped_places, own_places, parent_of, place_named, places_up}
use Rattle.hprof_write.proofs.Chains.{none-up, within-more}
use Rattle.hprof_write.proofs.TableLines.{take-more}
use Rattle.hprof_write.proofs.ValuesAt.{own-place}

field-in : (laid : Laid) (place : FieldAt) (fs : List FieldDecl) (k : ℕ) → k < length fs → IfSome (slice_get fs k) (λ f. field_named laid f.name ≡ Some place)
    → IsIn place (map (λ p. p.at) laid.fields)
field-in laid place [] k within h = absurd (omega arith)
field-in laid place (f ∷ fs) zero within h = found-in laid.fields f.name place h
field-in laid place (f ∷ fs) (suc k) within h = let w : k < length fs = omega arith in field-in laid place fs k w h

-- one more of the own places is the class's
pub own-within : (cs : List Class) (class k : ℕ) (place : FieldAt) → k < length (own_fields_of cs class)
    → IfSome (slice_get (own_fields_of cs class) k) (λ f. field_named (layout_of cs class) f.name ≡ Some place)
    → ((p : FieldAt) → IsIn p (take k (own_places cs class)) → IsIn p (places_of cs (Instance class)))
    → (p : FieldAt) → IsIn p (take (k + 1) (own_places cs class)) → IsIn p (places_of cs (Instance class))
own-within cs class k place within h before p there =
    let e : take (k + 1) (own_places cs class) ≡ take k (own_places cs class) ++ place ∷ [] =
    ap (λ n. take n (own_places cs class)) (add-one k) ∙ take-more (own_places cs class) k place (own-place cs class k place within h) in
    within-more (λ (q : FieldAt). IsIn q (places_of cs (Instance class))) (take k (own_places cs class)) (place ∷ []) (take (k + 1) (own_places cs class)) e before
    (λ q here. only q here) p there
  where
    only : (q : FieldAt) → IsIn q (place ∷ []) → IsIn q (places_of cs (Instance class))
    only q (inl same) = subst (λ (r : FieldAt). IsIn r (places_of cs (Instance class))) same (field-in (layout_of cs class) place (own_fields_of cs class) k within h)
    only q (inr none) = absurd none

pub length-own : (cs : List Class) (class : ℕ) → length (own_places cs class) ≡ length (own_fields_of cs class)
length-own cs class = length-map (own_fields_of cs class) (λ (f : FieldDecl). place_named (layout_of cs class) f.name)

fields-far : (weak : Bool) (laid : Laid) (fs : List FieldDecl) → laid.end + length fs ≤ (place_fields weak laid fs).end
fields-far weak laid [] = omega arith
fields-far weak laid (f ∷ fs) = omega (arith, fields-far weak (place_field weak laid f) fs, multiple-le f.kind laid.end, bytes-low f.kind)

class-far : (weak : Bool) (laid : Laid) (fs : List FieldDecl) → laid.end + length fs ≤ (lay_out weak laid fs).end
class-far weak laid fs = omega (arith, fields-far weak laid (in_layout_order fs), length-in_layout_order fs)

map-at : {X Y : Type 0} (f : X → Y) (xs : List X) (k : ℕ) (x : X) → slice_get xs k ≡ Some x → slice_get (map f xs) k ≡ Some (f x)
map-at f [] k x h = cc
map-at f (y ∷ ys) zero x h = let e : y ≡ x = cc in ap (λ z. Some (f z)) e
map-at f (y ∷ ys) (suc k) x h = map-at f ys k x h

pub none-beyond : {X : Type 0} (xs : List X) (k : ℕ) → k < length xs → slice_get xs k ≡ None → ⊥
none-beyond [] k h e = omega arith
none-beyond (x ∷ xs) zero h e = cc
none-beyond (x ∷ xs) (suc k) h e = let w : k < length xs = omega arith in none-beyond xs k w e

few-step : (cs : List Class) (n k : ℕ) (q : Option ℕ) (fields : List FieldDecl) → parent_of cs k ≡ q → IsEarlier k q → own_fields_of cs k ≡ fields
    → layout_of cs k ≡ lay_out (nat_eq k 1) (superclass_layout cs q) fields
    → ((p : ℕ) → p < k → length (places_up cs n (Some p)) + 8 ≤ (layout_of cs p).end)
    → length (places_up cs (suc n) (Some k)) + 8 ≤ (layout_of cs k).end
few-step cs n k None fields eq early own laid up =
    let rest : length (places_up cs n (parent_of cs k)) ≡ 0 = ap (λ (x : Option ℕ). length (places_up cs n x)) eq ∙ ap (λ (l : List FieldAt). length l) (none-up cs n) in
    let all = length-append (own_places cs k) (places_up cs n (parent_of cs k)) in
    let few = length-own cs k ∙ ap (λ (l : List FieldDecl). length l) own in
    let far = class-far (nat_eq k 1) (superclass_layout cs None) fields in
    let end = ap (λ (l : Laid). l.end) laid in
    omega arith
few-step cs n k (Some p) fields eq early own laid up =
    let rest : length (places_up cs n (parent_of cs k)) ≡ length (places_up cs n (Some p)) = ap (λ (x : Option ℕ). length (places_up cs n x)) eq in
    let all = length-append (own_places cs k) (places_up cs n (parent_of cs k)) in
    let few = length-own cs k ∙ ap (λ (l : List FieldDecl). length l) own in
    let far = class-far (nat_eq k 1) (superclass_layout cs (Some p)) fields in
    let end = ap (λ (l : Laid). l.end) laid in
    let more = up p early in
    omega arith

few-up : (cs : List Class) (n k : ℕ) → IsClassList cs → k < length cs → length (places_up cs n (Some k)) + 8 ≤ (layout_of cs k).end
few-up cs zero k formed within = (lie-within cs k).0
few-up cs (suc n) k formed within =
    at (slice_get cs k) refl (layout_of-parts cs k formed) (formed.parents k)
    (λ p less. let w : p < length cs = omega arith in few-up cs n p formed w)
  where
    at : (x : Option Class) → slice_get cs k ≡ x → IfSome x (λ c. layout_of cs k ≡ lay_out (nat_eq k 1) (superclass_layout cs c.parent) c.fields)
        → IfSome x (λ c. IsEarlier k c.parent) → ((p : ℕ) → p < k → length (places_up cs n (Some p)) + 8 ≤ (layout_of cs p).end)
        → length (places_up cs (suc n) (Some k)) + 8 ≤ (layout_of cs k).end
    at None e a b up = absurd (none-beyond cs k within e)
    at (Some c) e a b up =
        let q : parent_of cs k ≡ c.parent = ap (λ (o : Option (Option ℕ)). unwrap_or o None) (map-at (λ (d : Class). d.parent) cs k c e) in
        let own : own_fields_of cs k ≡ c.fields = ap (λ (o : Option (List FieldDecl)). unwrap_or o []) (map-at (λ (d : Class). d.fields) cs k c e) in
        few-step cs n k c.parent c.fields q b own a up

-- an instance's values are no more than its bytes
pub dumped-few : (cs : List Class) (class : ℕ) → IsClassList cs → class < length cs → length (dumped_places cs class) ≤ (layout_of cs class).end
dumped-few cs class formed within = let h = few-up cs (suc class) class formed within in omega arith
