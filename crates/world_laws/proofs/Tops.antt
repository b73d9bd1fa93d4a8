-- Where the zygote window ends behind a promotion.
use Rattle.std.proofs.Common.{ℕ, ◌+◌, ◌-◌, ◌<◌, ◌≤◌, inl, inr, List, [], ◌∷◌, arith}
use Rattle.std.proofs.lemmas.Bool.{cases_lt}
use Rattle.model_numbers.specs.Numbers.{zygote_base}
use Rattle.class_layout.specs.ClassList.{Class}
use Rattle.heap_graph.specs.declared.names.Place.{Place}
use Rattle.heap_graph.specs.declared.names.Place.TheVariants as place
use Rattle.heap_graph.specs.Fork.{next_spot, promoted_from, promoted_place}
use Rattle.heap_graph.specs.Graph.{Object, size_of_object}
use Rattle.heap_graph.proofs.Totals.{total}
use Rattle.heap_graph.specs.Formed.{FillZygote, zygote_next}
use Rattle.heap_world.proofs.Placed.{top-max, zygote_top}
use Rattle.heap_world.proofs.PlacedFork.{young_size}

module _ (cs : List Class) where
  -- what is promoted takes no less than its bytes
  pub top-least : (bytes at : ℕ) (os : List Object) → FillZygote cs bytes (promoted_from cs at os) → 0 < total (λ o. young_size cs o o.place) os
      → at + total (λ o. young_size cs o o.place) os ≤ zygote_top cs bytes (promoted_from cs at os)
  top-least bytes at [] fill more = absurd (omega (arith, more))
  top-least bytes at (o ∷ os) fill more = by o.place fill.1 more (λ b a. top-least b a os)
    where
      by : (q : Place) → FillZygote cs (zygote_next cs bytes (record o { place = promoted_place at q }) (promoted_place at q)) (promoted_from cs (next_spot at (size_of_object cs o) q) os)
          → 0 < young_size cs o q + total (λ o. young_size cs o o.place) os
          → ((b a : ℕ) → FillZygote cs b (promoted_from cs a os) → 0 < total (λ o. young_size cs o o.place) os → a + total (λ o. young_size cs o o.place) os ≤ zygote_top cs b (promoted_from cs a os))
          → at + (young_size cs o q + total (λ o. young_size cs o o.place) os)
          ≤ zygote_top cs (zygote_next cs bytes (record o { place = promoted_place at q }) (promoted_place at q)) (promoted_from cs (next_spot at (size_of_object cs o) q) os)
      by (place.Image spot) fill more rest = omega (arith, rest bytes at fill (omega (arith, more)))
      by (place.Zygote spot) fill more rest = omega (arith, rest (spot + size_of_object cs o - zygote_base) at fill (omega (arith, more)))
      by place.Young fill more rest =
          let end : ℕ = zygote_base + at + size_of_object cs o - zygote_base in
          let later : ℕ = total (λ o. young_size cs o o.place) os in
          elim (cases_lt 0 later) [
            | inl some ↦ omega (arith, rest end (at + size_of_object cs o) fill some)
            | inr none ↦ omega (arith, none, top-max cs end (promoted_from cs (at + size_of_object cs o) os) fill)
          ]
      by place.Large fill more rest = omega (arith, rest bytes at fill (omega (arith, more)))
      by place.Promoted fill more rest = omega (arith, rest bytes at fill (omega (arith, more)))
