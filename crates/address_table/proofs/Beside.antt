-- Two objects stand in bytes of their own.
use Rattle.std.proofs.Common.{◌≡◌, ◌∙◌, ◌⊎◌, ℕ, ◌+◌, ◌*◌, ◌/◌, ◌<◌, ◌≤◌, false, List, [], ◌∷◌, length, slice_index, refl, sym, ap, subst, inl, inr, arith}
use Rattle.std.specs.List.{AllByRecursion}
use Rattle.std.proofs.lemmas.Bool.{cases_eq, cases_lt}
use Rattle.class_layout.specs.ClassList.{Class}
use Rattle.class_layout.specs.Placing.{IsIn}
use Rattle.heap_graph.specs.declared.names.Place.{Place}
use Rattle.heap_graph.specs.declared.names.Place.TheVariants as place
use Rattle.heap_graph.specs.declared.names.Shape.{Shape}
use Rattle.heap_graph.specs.declared.names.Shape.TheVariants as shape
use Rattle.heap_graph.specs.Graph.{Graph, Object, image_size, size_of_object}
use Rattle.heap_graph.specs.Packing as packing
use Rattle.heap_graph.specs.Paths.{IsInRegion}
use Rattle.heap_graph.specs.Sizes.{is_large, is_too_large}
use Rattle.heap_graph.proofs.Packing.{are_packed}
use Rattle.heap_graph.proofs.Sizes.{not-large, size-least, young-packed}
use Rattle.heap_graph.specs.Formed.{AreObjects, AreRising, IsBehindImage, IsBehindZygote, IsFormed, IsShape, SuitsShape, zygote_next}
use Rattle.address_table.specs.Computed.{address_in, end_behind, large_behind, packed_at, slot_at, table_from, table_of, AreNumbers, Homes, HouseAll}
use Rattle.address_table.proofs.Behind.{all-behind, first-behind, last_end, last-rises, region-below, rest-tail, rising-in, table-first, table-later, Behind, Rest}
use Rattle.address_table.proofs.Fitting.{rest, roomy}

pub all-in : {X : Type 0} (P : X → Type 0) (xs : List X) (x : X) → IsIn x xs → AllByRecursion P xs → P x
all-in P [] x there h = absurd there
all-in P (y ∷ xs) x (inl e) h = subst P e h.0
all-in P (y ∷ xs) x (inr there) h = all-in P xs x there h.1

-- the shape of an object is not too large
pub not-too-large : (cs : List Class) (shape : Shape) → IsShape cs shape → is_too_large cs shape ≡ false
not-too-large cs (shape.Instance class) h = h.1
not-too-large cs (shape.Array kind count) h = h

pub shape-in : (cs : List Class) (os : List Object) (o : Object) → IsIn o os → AreObjects cs os → IsShape cs o.shape
shape-in cs [] o there h = absurd there
shape-in cs (p ∷ os) o (inl e) h = subst (λ (q : Object). IsShape cs q.shape) e h.0
shape-in cs (p ∷ os) o (inr there) h = shape-in cs os o there h.2

-- bytes end before others begin, or begin where these ended
abbrev pub Beside : ℕ → ℕ → ℕ → ℕ → Type 0
Beside a s b u = (a + s ≤ b) ⊎ (b + u ≤ a)

turned-round : (a s b u : ℕ) → Beside a s b u → Beside b u a s
turned-round a s b u (inl low) = inr low
turned-round a s b u (inr high) = inl high

-- two packing places give bytes apart
young-pair : (regions : List ℕ) (most p s q u : ℕ) → AreNumbers most regions → IsInRegion p s → IsInRegion q u → 0 < s → 0 < u → p + s ≤ q → q / 262144 < length regions
    → Beside (packed_at regions p) s (packed_at regions q) u
young-pair regions most p s q u numbers in_p in_q some more before known = elim (cases_eq (p / 262144) (q / 262144)) [
  | inl same ↦
      let e : slice_index regions (p / 262144) ≡ slice_index regions (q / 262144) = ap (slice_index regions) same in
      inl (omega (arith, e, same, before))
  | inr other ↦
      let region : p / 262144 ≡ in_p.0 = omega (arith, in_p.1, in_p.2, some) in
      let region' : q / 262144 ≡ in_q.0 = omega (arith, in_q.1, in_q.2, more) in
      let below : p / 262144 < length regions = omega (arith, before, known) in
      let ne : slice_index regions (p / 262144) ≡ slice_index regions (q / 262144) → ⊥ = λ e. other (numbers.1 (p / 262144) (q / 262144) below known e) in
      elim (cases_lt (slice_index regions (p / 262144)) (slice_index regions (q / 262144))) [
        | inl lt ↦ inl (omega (arith, region, in_p.1, in_p.2, lt))
        | inr ge ↦ inr (omega (arith, region', in_q.1, in_q.2, ge, ne))
      ]
]

module _ (homes : Homes) (cs : List Class) (budget last : ℕ) (regions : AreNumbers (2 * budget) homes.regions) (slots : AreNumbers 512 homes.slots) (few : budget ≤ 512)
    (house : (last + 262143) / 262144 ≤ length homes.regions) where
  -- a young object has a packing place, which lies in one region
  abbrev YoungFrom : ℕ → Object → ℕ → Type 0
  YoungFrom end o address = (p : ℕ) × (address ≡ packed_at homes.regions p) × (end ≤ p) × (p + size_of_object cs o ≤ last) × IsInRegion p (size_of_object cs o)

  -- each object is small enough for where it stands
  abbrev AreSmall : List Object → Type 0
  AreSmall os = (o : Object) → IsIn o os → (size_of_object cs o ≤ 1048576) × (o.place ≡ place.Young → size_of_object cs o ≤ 262144)

  first-young : (end large : ℕ) (x : Object) (os : List Object) → last_end cs end (x ∷ os) ≤ last → size_of_object cs x ≤ 262144 → x.place ≡ place.Young → YoungFrom end x (address_in homes cs end large x x.place)
  first-young end large x os fits small young =
      let s : ℕ = size_of_object cs x in
      let here = are_packed end (s ∷ []) (omega (arith, size-least cs x), small, tt) in
      let behind : end_behind cs end x x.place ≡ packing.after end s = ap (end_behind cs end x) young in
      let rises = last-rises cs (end_behind cs end x x.place) os in
      (packing.place end s, ap (address_in homes cs end large x) young, here.0, omega (arith, behind, rises, fits), here.1)

  all-young : (low next end large : ℕ) (os : List Object) → AreRising low next os → last_end cs end os ≤ last → AreSmall os
      → (o : Object) → IsIn o os → o.place ≡ place.Young → YoungFrom end o (table_from homes cs end large os o.number)
  all-young low next end large [] rising fits small o none young = absurd none
  all-young low next end large (x ∷ os) rising fits small o (inl e) young =
      subst (λ (y : Object). YoungFrom end y (table_from homes cs end large (x ∷ os) y.number)) e
      (subst (λ n. YoungFrom end x n) (sym (table-first homes cs end large x os))
      (first-young end large x os fits ((small x (inl refl)).1 (ap (λ (y : Object). y.place) e ∙ young)) (ap (λ (y : Object). y.place) e ∙ young)))
  all-young low next end large (x ∷ os) rising fits small o (inr later) young =
      let above = rising-in (x.number + 1) next os o rising.1 later in
      let rises = last-rises cs end (x ∷ []) in
      let it = all-young (x.number + 1) next (end_behind cs end x x.place) (large_behind large x.place) os rising.1 fits (λ y there. small y (inr there)) o later young in
      subst (λ n. YoungFrom end o n) (sym (table-later homes cs end large x os o.number (omega (arith, above))))
      (it.0, it.1, omega (arith, it.2, rises), it.3, it.4)

  -- an object and one behind it
  pair : (image zygote end large : ℕ) (x o : Object) (address : ℕ) → size_of_object cs x ≤ 1048576 → size_of_object cs o ≤ 1048576 → (p q : Place) → IsBehindImage image p → IsBehindZygote zygote p
      → Behind homes cs budget last image zygote end large x p (address_in homes cs end large x p)
      → Behind homes cs budget last (image + image_size cs x p) (zygote_next cs zygote x p) (end_behind cs end x p) (large_behind large p) o q address
      → (p ≡ place.Young → q ≡ place.Young → Beside (address_in homes cs end large x p) (size_of_object cs x) address (size_of_object cs o))
      → Beside (address_in homes cs end large x p) (size_of_object cs x) address (size_of_object cs o)
  pair image zygote end large x o address small small' p q = by p q
    where
      slot : (k : ℕ) → large < length homes.slots → large + 1 ≤ k → k < length homes.slots → address ≡ slot_at homes.slots k
          → Beside (slot_at homes.slots large) (size_of_object cs x) address (size_of_object cs o)
      slot k here above there is =
          let ne : slice_index homes.slots large ≡ slice_index homes.slots k → ⊥ = λ e. let same = slots.1 large k here there e in omega (arith, same, above) in
          elim (cases_lt (slice_index homes.slots large) (slice_index homes.slots k)) [
            | inl lt ↦ inl (omega (arith, lt, is, small))
            | inr ge ↦ inr (omega (arith, ge, ne, is, small'))
          ]

      by : (p q : Place) → IsBehindImage image p → IsBehindZygote zygote p → Behind homes cs budget last image zygote end large x p (address_in homes cs end large x p)
          → Behind homes cs budget last (image + image_size cs x p) (zygote_next cs zygote x p) (end_behind cs end x p) (large_behind large p) o q address
          → (p ≡ place.Young → q ≡ place.Young → Beside (address_in homes cs end large x p) (size_of_object cs x) address (size_of_object cs o))
          → Beside (address_in homes cs end large x p) (size_of_object cs x) address (size_of_object cs o)
      by (place.Image s) (place.Image t) i z h l y = inl (omega (arith, i, l.0, l.1))
      by (place.Image s) (place.Zygote t) i z h l y = inl (omega (arith, h.2, l.0, l.1))
      by (place.Image s) place.Young i z h (k, l) y = inl (omega (arith, h.2, l.3))
      by (place.Image s) place.Large i z h (k, l) y = inl (omega (arith, h.2, l.3))
      by (place.Image s) place.Promoted i z h (k, l) y = inl (omega (arith, h.2, l.3))
      by (place.Zygote s) (place.Image t) i z h l y = inr (omega (arith, h.1, l.0, l.2))
      by (place.Zygote s) (place.Zygote t) i z h l y = inl (omega (arith, h.1, l.0, l.1))
      by (place.Zygote s) place.Young i z h (k, l) y = inl (omega (arith, h.2, l.3))
      by (place.Zygote s) place.Large i z h (k, l) y = inl (omega (arith, h.2, l.3))
      by (place.Zygote s) place.Promoted i z h (k, l) y = inl (omega (arith, h.2, l.3))
      by place.Young (place.Image t) i z (p, h) l y = inr (omega (arith, h.3, l.0, l.2))
      by place.Young (place.Zygote t) i z (p, h) l y = inr (omega (arith, h.3, l.0, l.2))
      by place.Young place.Young i z h l y = y refl refl
      by place.Young place.Large i z (p, h) (k, l) y = inl (omega (arith, h.4, l.3, small))
      by place.Young place.Promoted i z (p, h) (k, l) y = inl (omega (arith, h.4, l.3, small))
      by place.Large (place.Image t) i z (p, h) l y = inr (omega (arith, h.3, l.0, l.2))
      by place.Large (place.Zygote t) i z (p, h) l y = inr (omega (arith, h.3, l.0, l.2))
      by place.Large place.Young i z (p, h) (k, l) y = inr (omega (arith, h.3, l.4, small'))
      by place.Large place.Large i z (p, h) (k, l) y = slot k (omega (arith, h.1, h.2)) l.1 l.2 l.0
      by place.Large place.Promoted i z (p, h) (k, l) y = slot k (omega (arith, h.1, h.2)) l.1 l.2 l.0
      by place.Promoted (place.Image t) i z (p, h) l y = inr (omega (arith, h.3, l.0, l.2))
      by place.Promoted (place.Zygote t) i z (p, h) l y = inr (omega (arith, h.3, l.0, l.2))
      by place.Promoted place.Young i z (p, h) (k, l) y = inr (omega (arith, h.3, l.4, small'))
      by place.Promoted place.Large i z (p, h) (k, l) y = slot k (omega (arith, h.1, h.2)) l.1 l.2 l.0
      by place.Promoted place.Promoted i z (p, h) (k, l) y = slot k (omega (arith, h.1, h.2)) l.1 l.2 l.0

  first-beside : (low next image zygote end large : ℕ) (x : Object) (os : List Object) → AreRising low next (x ∷ os) → Rest homes cs budget last image zygote end large (x ∷ os) → AreSmall (x ∷ os)
      → (o : Object) → IsIn o os
      → Beside (address_in homes cs end large x x.place) (size_of_object cs x) (table_from homes cs (end_behind cs end x x.place) (large_behind large x.place) os o.number) (size_of_object cs o)
  first-beside low next image zygote end large x os rising h small o later =
      let rest = rest-tail homes cs budget last image zygote end large x os h in
      pair image zygote end large x o _ (small x (inl refl)).0 (small o (inr later)).0 x.place o.place h.image_fills.0 h.zygote_fills.0
      (first-behind homes cs budget last regions slots few house image zygote end large x os h)
      (all-behind homes cs budget last regions slots few house (x.number + 1) next _ _ (end_behind cs end x x.place) (large_behind large x.place) os rising.1 rest o later)
      (λ young young'.
      let one = first-young end large x os h.young_fits ((small x (inl refl)).1 young) young in
      let other = all-young (x.number + 1) next (end_behind cs end x x.place) (large_behind large x.place) os rising.1 rest.young_fits (λ y there. small y (inr there)) o later young' in
      let s : ℕ = size_of_object cs x in
      let at : address_in homes cs end large x x.place ≡ packed_at homes.regions (packing.place end s) = ap (address_in homes cs end large x) young in
      let inside : IsInRegion (packing.place end s) s = (are_packed end (s ∷ []) (omega (arith, size-least cs x), (small x (inl refl)).1 young, tt)).1 in
      let behind : end_behind cs end x x.place ≡ packing.place end s + s = ap (end_behind cs end x) young in
      let below = region-below homes cs budget last regions slots few house other.0 (omega (arith, other.3, size-least cs o)) in
      subst (λ a. Beside a s (table_from homes cs (end_behind cs end x x.place) (large_behind large x.place) os o.number) (size_of_object cs o)) (sym at) (subst (λ b. Beside (packed_at homes.regions (packing.place end s)) s b (size_of_object cs o)) (sym other.1)
      (young-pair homes.regions (2 * budget) (packing.place end s) s other.0 (size_of_object cs o) regions inside other.4 (omega (arith, size-least cs x)) (omega (arith, size-least cs o)) (omega (arith, other.2, behind)) below.0)))

  -- any two objects
  pub all-beside : (low next image zygote end large : ℕ) (os : List Object) → AreRising low next os → Rest homes cs budget last image zygote end large os → AreSmall os → (o p : Object) → IsIn o os → IsIn p os
      → (o ≡ p) ⊎ Beside (table_from homes cs end large os o.number) (size_of_object cs o) (table_from homes cs end large os p.number) (size_of_object cs p)
  all-beside low next image zygote end large [] rising h small o p none there = absurd none
  all-beside low next image zygote end large (x ∷ os) rising h small o p (inl e) (inl e') = inl (sym e ∙ e')
  all-beside low next image zygote end large (x ∷ os) rising h small o p (inl e) (inr there) =
      let above = rising-in (x.number + 1) next os p rising.1 there in
      inr (subst (λ (y : Object). Beside (table_from homes cs end large (x ∷ os) y.number) (size_of_object cs y) (table_from homes cs end large (x ∷ os) p.number) (size_of_object cs p)) e
      (subst (λ a. Beside a (size_of_object cs x) (table_from homes cs end large (x ∷ os) p.number) (size_of_object cs p)) (sym (table-first homes cs end large x os))
      (subst (λ b. Beside (address_in homes cs end large x x.place) (size_of_object cs x) b (size_of_object cs p)) (sym (table-later homes cs end large x os p.number (omega (arith, above))))
      (first-beside low next image zygote end large x os rising h small p there))))
  all-beside low next image zygote end large (x ∷ os) rising h small o p (inr there) (inl e) =
      let above = rising-in (x.number + 1) next os o rising.1 there in
      inr (turned-round (table_from homes cs end large (x ∷ os) p.number) (size_of_object cs p) (table_from homes cs end large (x ∷ os) o.number) (size_of_object cs o)
      (subst (λ (y : Object). Beside (table_from homes cs end large (x ∷ os) y.number) (size_of_object cs y) (table_from homes cs end large (x ∷ os) o.number) (size_of_object cs o)) e
      (subst (λ a. Beside a (size_of_object cs x) (table_from homes cs end large (x ∷ os) o.number) (size_of_object cs o)) (sym (table-first homes cs end large x os))
      (subst (λ b. Beside (address_in homes cs end large x x.place) (size_of_object cs x) b (size_of_object cs o)) (sym (table-later homes cs end large x os o.number (omega (arith, above))))
      (first-beside low next image zygote end large x os rising h small o there)))))
  all-beside low next image zygote end large (x ∷ os) rising h small o p (inr there) (inr there') =
      let above = rising-in (x.number + 1) next os o rising.1 there in
      let above' = rising-in (x.number + 1) next os p rising.1 there' in
      let one = table-later homes cs end large x os o.number (omega (arith, above)) in
      let other = table-later homes cs end large x os p.number (omega (arith, above')) in
      elim (all-beside (x.number + 1) next (image + image_size cs x x.place) (zygote_next cs zygote x x.place) (end_behind cs end x x.place) (large_behind large x.place) os rising.1
      (rest-tail homes cs budget last image zygote end large x os h) (λ y at. small y (inr at)) o p there there') [
        | inl same ↦ inl same
        | inr beside ↦ inr (subst (λ a. Beside a (size_of_object cs o) (table_from homes cs end large (x ∷ os) p.number) (size_of_object cs p)) (sym one)
            (subst (λ b. Beside (table_from homes cs (end_behind cs end x x.place) (large_behind large x.place) os o.number) (size_of_object cs o) b (size_of_object cs p)) (sym other) beside))
      ]

-- a young object that is formed fits a region
young-small : (g : Graph) (o : Object) → is_too_large g.classes o.shape ≡ false → is_large g.classes o.shape ≡ false → size_of_object g.classes o ≤ 262144
young-small g o small plain =
    let one : Graph = record g { objects = record o { place = place.Young } ∷ [] } in
    let packed = young-packed one ((small, plain), tt) in
    omega (arith, packed.1.1, packed.1.2)

suits-young : (cs : List Class) (o : Object) (at : Place) → at ≡ place.Young → SuitsShape cs o at → is_large cs o.shape ≡ false
suits-young cs o at e h = subst (λ (p : Place). SuitsShape cs o p) e h

-- under the computed table of a formed graph each object ends before the next one begins
pub computed-apart : (homes : Homes) (g : Graph) → IsFormed g → HouseAll homes g → (o p : Object) → IsIn o g.objects → IsIn p g.objects → table_of homes g o.number < table_of homes g p.number
    → table_of homes g o.number + size_of_object g.classes o ≤ table_of homes g p.number
computed-apart homes g formed house o p o_in p_in before =
    let last : ℕ = last_end g.classes 0 g.objects in
    let small : (x : Object) → IsIn x g.objects → (size_of_object g.classes x ≤ 1048576) × (x.place ≡ place.Young → size_of_object g.classes x ≤ 262144) = λ x there.
    let fits = not-too-large g.classes x.shape (shape-in g.classes g.objects x there formed.objects) in
    let bytes = not-large g.classes x.shape fits in
    (omega (arith, bytes), λ young. young-small g x fits (suits-young g.classes x x.place young (all-in (λ y. SuitsShape g.classes y y.place) g.objects x there formed.places))) in
    elim (all-beside homes g.classes g.budget last house.regions house.slots formed.budget (roomy homes g formed house) 0 g.next 0 0 0 0 g.objects formed.numbers (rest homes g formed house) small o p o_in p_in) [
      | inl same ↦ absurd (let e = ap (λ (x : Object). table_of homes g x.number) same in omega (arith, e, before))
      | inr beside ↦ elim beside [ inl low ↦ low | inr high ↦ absurd (omega (arith, high, before, size-least g.classes p)) ]
    ]
