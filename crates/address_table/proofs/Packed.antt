-- Young objects stand at their packing places, each in its region.
use Rattle.std.proofs.Common.{◌≡◌, ℕ, ◌+◌, ◌<◌, ◌≤◌, inl, inr, cond, List, [], ◌∷◌, map, filter, refl, sym, ap, ◌∙◌, subst, arith}
use Rattle.std.specs.List.{zip}
use Rattle.class_layout.specs.ClassList.{Class}
use Rattle.class_layout.specs.Placing.{IsIn}
use Rattle.heap_graph.specs.declared.names.Place.{Place}
use Rattle.heap_graph.specs.declared.names.Place.TheVariants as place
use Rattle.heap_graph.specs.Graph.{Object, is_young, size_of_object}
use Rattle.heap_graph.specs.Packing.{after, places_from}
use Rattle.heap_graph.specs.Packing as packing
use Rattle.heap_graph.proofs.Sizes.{after-above, size-least}
use Rattle.heap_graph.specs.Formed.{AreRising}
use Rattle.address_table.specs.Computed.{address_in, end_behind, large_behind, packed_at, table_from, Homes}
use Rattle.address_table.proofs.Behind.{last-rises, last_end, rising-in, table-first, table-later}

-- the young objects among objects, packed behind others: each one's number and packing place
abbrev pub packing_from : List Class → ℕ → List Object → List (ℕ × ℕ)
packing_from cs end os =
    zip (map (λ o. o.number) (filter (λ o. is_young o.place) os)) (places_from end (map (size_of_object cs) (filter (λ o. is_young o.place) os)))

module _ (homes : Homes) (cs : List Class) (last : ℕ) where
  -- what a number and a packing place are: those of an object
  abbrev pub IsPacked : ℕ → ℕ → List Object → ℕ × ℕ → Type 0
  IsPacked end large os p =
      (o : Object) × (IsIn o os × (o.number ≡ p.0) × (table_from homes cs end large os p.0 ≡ packed_at homes.regions p.1) × (p.1 < last))

  -- the same with an object in front
  later-packed : (low next end large : ℕ) (x : Object) (os : List Object) (p : ℕ × ℕ) → AreRising low next (x ∷ os)
      → IsPacked (end_behind cs end x x.place) (large_behind large x.place) os p → IsPacked end large (x ∷ os) p
  later-packed low next end large x os p rising (o, h) =
      let above = rising-in (x.number + 1) next os o rising.1 h.0 in
      (o, (inr h.0, h.1, table-later homes cs end large x os p.0 (omega (arith, above, h.1)) ∙ h.2, h.3))

  pub all-packed : (low next end large : ℕ) (os : List Object) → AreRising low next os → last_end cs end os ≤ last
      → (p : ℕ × ℕ) → IsIn p (packing_from cs end os) → IsPacked end large os p
  all-packed low next end large [] rising fits p none = absurd none
  all-packed low next end large (x ∷ os) rising fits p h =
      by x.place refl h fits (λ (end' large' : ℕ). all-packed (x.number + 1) next end' large' os rising.1)
    where
      young : List Object
      young = filter (λ o. is_young o.place) os

      by : (at : Place) → x.place ≡ at
          → IsIn p (zip (map (λ o. o.number) (cond (is_young at) (x ∷ filter (λ o. is_young o.place) os) (filter (λ o. is_young o.place) os)))
          (places_from end (map (size_of_object cs) (cond (is_young at) (x ∷ filter (λ o. is_young o.place) os) (filter (λ o. is_young o.place) os)))))
          → last_end cs (end_behind cs end x at) os ≤ last
          → ((end' large' : ℕ) → last_end cs end' os ≤ last → (p : ℕ × ℕ) → IsIn p (packing_from cs end' os) → IsPacked end' large' os p)
          → IsPacked end large (x ∷ os) p
      by (place.Image spot) e h fits rest = later-packed low next end large x os p rising (subst (λ at. IsPacked (end_behind cs end x at) (large_behind large at) os p) (sym e) (rest end large fits p h))
      by (place.Zygote spot) e h fits rest = later-packed low next end large x os p rising (subst (λ at. IsPacked (end_behind cs end x at) (large_behind large at) os p) (sym e) (rest end large fits p h))
      by place.Large e h fits rest = later-packed low next end large x os p rising (subst (λ at. IsPacked (end_behind cs end x at) (large_behind large at) os p) (sym e) (rest end (large + 1) fits p h))
      by place.Promoted e h fits rest = later-packed low next end large x os p rising (subst (λ at. IsPacked (end_behind cs end x at) (large_behind large at) os p) (sym e) (rest end (large + 1) fits p h))
      by place.Young e (inr h) fits rest = later-packed low next end large x os p rising (subst (λ at. IsPacked (end_behind cs end x at) (large_behind large at) os p) (sym e) (rest (after end (size_of_object cs x)) large fits p h))
      by place.Young e (inl is) fits rest =
          let s : ℕ = size_of_object cs x in
          let above = after-above end s in
          let rises = last-rises cs (after end s) os in
          let some = size-least cs x in
          let here : table_from homes cs end large (x ∷ os) x.number ≡ packed_at homes.regions (packing.place end s) =
          table-first homes cs end large x os ∙ ap (λ (at : Place). address_in homes cs end large x at) e in
          subst (λ (q : ℕ × ℕ). IsPacked end large (x ∷ os) q) is (x, (inl refl, refl, here, omega (arith, rises, fits, some)))
