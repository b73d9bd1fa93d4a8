-- Values at places of an object.
use Rattle.std.proofs.Common.{◌≡◌, ℕ, zero, suc, ◌+◌, ◌*◌, ◌<◌, Bool, true, false, get_or, List, [], ◌∷◌, ◌++◌, Option, Some, length, take, map, refl, sym, ap, ◌∙◌, subst, arith, append_assoc, inl, inr, add-one}
use Rattle.std.proofs.lemmas.List.{append-nil}
use Rattle.std.proofs.lemmas.Grind.{flat_map-append}
use Rattle.std.specs.List.{slice_get}
use Rattle.std.specs.Option.{IfSome}
use Rattle.std.specs.Prelude.{unwrap_or}
use Rattle.class_layout.specs.declared.kind.FieldAt.{FieldAt}
use Rattle.class_layout.specs.declared.kind.FieldDecl.{FieldDecl}
use Rattle.class_layout.specs.declared.kind.Kind.{Kind}
use Rattle.class_layout.specs.ClassList.{Class, layout_of, own_fields_of}
use Rattle.class_layout.specs.Kinds.{first_element, kind_bytes}
use Rattle.class_layout.specs.Layout.{field_named}
use Rattle.class_layout.specs.Placing.{IsIn}
use Rattle.heap_graph.specs.Graph.{Graph, Object}
use Rattle.heap_graph.specs.Places.{element, elements_from, places_of}
use Rattle.object_view.specs.Seen.{HasValue, RoseBy, count_if, value_in}
use Rattle.object_view.proofs.Rises.{rose-both, rose-more}
use Rattle.hprof_write.specs.Objects.{HasValues, no_place, own_places, place_named, value_bytes, values_bytes}
use Rattle.hprof_write.proofs.TableLines.{take-more}

-- a list of one place
pub one-value : (g : Graph) (table : ℕ → ℕ) (at : ℕ) (place : FieldAt) (o : Object) → HasValues g table at (place ∷ []) o → HasValue g table at place.kind place.offset o place
one-value g table at place o h =
    record { is_in = h.is_in; at_is = h.at_is; is_place = record { is_in = h.values place (inl refl); kind_is = refl; offset_is = refl } }

pub IsIn-slice_get : {X : Type 0} (xs : List X) (k : ℕ) (x : X) → slice_get xs k ≡ Some x → IsIn x xs
IsIn-slice_get [] k x h = cc
IsIn-slice_get (y ∷ ys) zero x h = inl cc
IsIn-slice_get (y ∷ ys) (suc k) x h = inr (IsIn-slice_get ys k x h)

-- one of the places
pub has-one : (g : Graph) (table : ℕ → ℕ) (at : ℕ) (places : List FieldAt) (k : ℕ) (place : FieldAt) (o : Object) → slice_get places k ≡ Some place
    → HasValues g table at places o → HasValues g table at (place ∷ []) o
has-one g table at places k place o e h =
    record { is_in = h.is_in; at_is = h.at_is; values = λ p here. only p here }
  where
    only : (p : FieldAt) → IsIn p (place ∷ []) → IsIn p (places_of g.classes o.shape)
    only p (inl same) = h.values p (subst (λ (q : FieldAt). IsIn q places) same (IsIn-slice_get places k place e))
    only p (inr none) = absurd none

-- one more value
pub values-more : (table : ℕ → ℕ) (o : Object) (places : List FieldAt) (k : ℕ) (place : FieldAt) (first now next : List ℕ) → slice_get places k ≡ Some place
    → now ≡ first ++ values_bytes table o (take k places) → next ≡ now ++ value_bytes place.kind (value_in table o place)
    → next ≡ first ++ values_bytes table o (take (suc k) places)
values-more table o places k place first now next e h f =
    let t : values_bytes table o (take (suc k) places) ≡ values_bytes table o (take k places) ++ value_bytes place.kind (value_in table o place) =
    ap (values_bytes table o) (take-more places k place e) ∙ flat_map-append (λ (p : FieldAt). value_bytes p.kind (value_in table o p)) (take k places) (place ∷ [])
    ∙ ap (λ l. values_bytes table o (take k places) ++ l) (append-nil (value_bytes place.kind (value_in table o place))) in
    f ∙ ap (λ l. l ++ value_bytes place.kind (value_in table o place)) h
    ∙ append_assoc first (values_bytes table o (take k places)) (value_bytes place.kind (value_in table o place))
    ∙ ap (λ l. first ++ l) (sym t)

-- one more read
pub reads-more : (b : Bool) (k before mid now : ℕ) → RoseBy (count_if b k) before mid → RoseBy (count_if b 1) mid now → RoseBy (count_if b (suc k)) before now
reads-more true k before mid now h r = rose-more (k + 1) (suc k) before now (omega arith) (rose-both k 1 before mid now h r)
reads-more false k before mid now h r = rose-both 0 0 before mid now h r

-- the places of own fields, one by one
places-map : (cs : List Class) (class : ℕ) (fs : List FieldDecl) (k : ℕ) (place : FieldAt) → k < length fs
    → IfSome (slice_get fs k) (λ f. field_named (layout_of cs class) f.name ≡ Some place)
    → slice_get (map (λ f. place_named (layout_of cs class) f.name) fs) k ≡ Some place
places-map cs class [] k place within h = absurd (omega arith)
places-map cs class (f ∷ fs) zero place within h = ap (λ x. Some (unwrap_or x no_place)) h
places-map cs class (f ∷ fs) (suc k) place within h = let w : k < length fs = omega arith in places-map cs class fs k place w h

pub own-place : (cs : List Class) (class k : ℕ) (place : FieldAt) → k < length (own_fields_of cs class)
    → IfSome (slice_get (own_fields_of cs class) k) (λ f. field_named (layout_of cs class) f.name ≡ Some place) → slice_get (own_places cs class) k ≡ Some place
own-place cs class k place within h = places-map cs class (own_fields_of cs class) k place within h

-- the elements, one by one
pub element-at : (kind : Kind) (from count i : ℕ) → i < count → slice_get (elements_from kind from count) i ≡ Some (element kind (from + i))
element-at kind from zero i h = absurd (omega arith)
element-at kind from (suc count) zero h = let e : from ≡ from + 0 = omega arith in ap (λ n. Some (element kind n)) e
element-at kind from (suc count) (suc i) h =
    let w : i < count = omega arith in
    let e : from + 1 + i ≡ from + suc i = omega arith in
    element-at kind (from + 1) count i w ∙ ap (λ n. Some (element kind n)) e

pub some-at : {X : Type 0} (xs : List X) (k : ℕ) (d : X) → k < length xs → slice_get xs k ≡ Some (get_or xs k d)
some-at [] k d h = absurd (omega arith)
some-at (x ∷ xs) zero d h = refl
some-at (x ∷ xs) (suc k) d h = let w : k < length xs = omega arith in some-at xs k d w

-- one of the places, in a state that shows the same
pub has-there : (g h : Graph) (table more : ℕ → ℕ) (at : ℕ) (places : List FieldAt) (k : ℕ) (place : FieldAt) (o : Object) → h ≡ g → more ≡ table
    → slice_get places k ≡ Some place → HasValues g table at places o → HasValues h more at (place ∷ []) o
has-there g h table more at places k place o eg et e has =
    let one = has-one g table at places k place o e has in
    let moved = subst (λ (x : Graph). HasValues x table at (place ∷ []) o) (sym eg) one in
    subst (λ (t : ℕ → ℕ). HasValues h t at (place ∷ []) o) (sym et) moved

-- one more value, put in a state that shows the same
pub values-there : (g h : Graph) (table more : ℕ → ℕ) (at : ℕ) (places : List FieldAt) (k : ℕ) (place : FieldAt) (o : Object) (first now next : List ℕ) → h ≡ g → more ≡ table
    → slice_get places k ≡ Some place → HasValues g table at places o → now ≡ first ++ values_bytes table o (take k places)
    → (HasValues h more at (place ∷ []) o → next ≡ now ++ value_bytes place.kind (value_in more o place))
    → next ≡ first ++ values_bytes table o (take (k + 1) places)
values-there g h table more at places k place o first now next eg et e has before put =
    let added = put (has-there g h table more at places k place o eg et e has) in
    let moved = subst (λ (t : ℕ → ℕ). next ≡ now ++ value_bytes place.kind (value_in t o place)) et added in
    values-more table o places k place first now next e before moved ∙ ap (λ n. first ++ values_bytes table o (take n places)) (sym (add-one k))

pub reads-there : (b : Bool) (k before mid now : ℕ) → RoseBy (count_if b k) before mid → RoseBy (count_if b 1) mid now → RoseBy (count_if b (k + 1)) before now
reads-there b k before mid now h r = subst (λ n. RoseBy (count_if b n) before now) (sym (add-one k)) (reads-more b k before mid now h r)

abbrev element-of : Kind → ℕ → Option FieldAt
element-of kind n = Some (record { kind = kind; offset = n; weak = false })

pub element-is : (kind : Kind) (count i offset : ℕ) → i < count → offset ≡ first_element kind + i * kind_bytes kind
    → slice_get (elements_from kind 0 count) i ≡ Some (record { kind = kind; offset = offset; weak = false })
element-is kind count i offset h e =
    let z : 0 + i ≡ i = omega arith in
    element-at kind 0 count i h ∙ ap (λ n. Some (element kind n)) z ∙ ap (element-of kind) (sym e)

pub length-elements : (kind : Kind) (from count : ℕ) → length (elements_from kind from count) ≡ count
length-elements kind from zero = refl
length-elements kind from (suc count) = ap suc (length-elements kind (from + 1) count)

-- one more of the own places
pub own-more : (cs : List Class) (class k : ℕ) (place : FieldAt) (first now next : List FieldAt) → k < length (own_fields_of cs class)
    → IfSome (slice_get (own_fields_of cs class) k) (λ f. field_named (layout_of cs class) f.name ≡ Some place)
    → now ≡ first ++ take k (own_places cs class) → next ≡ now ++ place ∷ [] → next ≡ first ++ take (k + 1) (own_places cs class)
own-more cs class k place first now next within h before added =
    added ∙ ap (λ l. l ++ place ∷ []) before ∙ append_assoc first (take k (own_places cs class)) (place ∷ [])
    ∙ ap (λ l. first ++ l) (sym (take-more (own_places cs class) k place (own-place cs class k place within h)))
    ∙ ap (λ n. first ++ take n (own_places cs class)) (sym (add-one k))
