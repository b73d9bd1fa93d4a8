-- No object of a formed graph stands at null, wherever a table that fits has it.
use Rattle.std.proofs.Common.{◌≡◌, ◌≢◌, ℕ, ◌⊎◌, inl, inr, Bool, true, false, true≢false, cond, List, [], ◌∷◌, map, filter, refl, sym, ap, ◌∙◌, arith}
use Rattle.std.specs.List.{zip}
use Rattle.class_layout.specs.ClassList.{Class}
use Rattle.class_layout.specs.Placing.{IsIn}
use Rattle.heap_graph.specs.declared.names.Place.{Place}
use Rattle.heap_graph.specs.declared.names.Place.TheVariants.{Image, Zygote, Young, Large, Promoted}
use Rattle.heap_graph.specs.Graph.{Graph, Object, is_young, size_of_object}
use Rattle.heap_graph.specs.Packing.{after, place, places_from}
use Rattle.heap_graph.specs.Table.{Fits, IsPlacedAt}
use Rattle.heap_graph.specs.Formed.{IsFormed}
use Rattle.plain_view.specs.Viewed.{first_table}
use Rattle.plain_view.proofs.Shown.{first-fits, first-not-null}

-- the numbers of objects with their places, where they are packed from an end on
abbrev packed_from : List Class → ℕ → List Object → List (ℕ × ℕ)
packed_from cs end os = zip (map (λ o. o.number) os) (places_from end (map (size_of_object cs) os))

-- a young object has a packing place
packed : (cs : List Class) (end : ℕ) (os : List Object) (o : Object) → IsIn o os → is_young o.place ≡ true → (p : ℕ) × IsIn (o.number, p) (packed_from cs end (filter (λ x. is_young x.place) os))
packed cs end [] o none young = absurd none
packed cs end (x ∷ os) o there young = by (is_young x.place) refl there (λ later rest. packed cs later os o rest young)
  where
    by : (b : Bool) → is_young x.place ≡ b → (x ≡ o) ⊎ IsIn o os → ((later : ℕ) → IsIn o os → (p : ℕ) × IsIn (o.number, p) (packed_from cs later (filter (λ y. is_young y.place) os)))
        → (p : ℕ) × IsIn (o.number, p) (packed_from cs end (cond b (x ∷ filter (λ y. is_young y.place) os) (filter (λ y. is_young y.place) os)))
    by true is (inl same) rest = (place end (size_of_object cs x), inl (ap (λ (y : Object). (y.number, place end (size_of_object cs x))) same))
    by true is (inr later) rest = let (p, h) = rest (after end (size_of_object cs x)) later in (p, inr h)
    by false is (inl same) rest = absurd (true≢false (sym young ∙ ap (λ (y : Object). is_young y.place) (sym same) ∙ is))
    by false is (inr later) rest = rest end later

module _ (g : Graph) (table : ℕ → ℕ) (formed : IsFormed g) (fits : Fits table g) (o : Object) (there : IsIn o g.objects) where
  -- spots are those of the first table, which has no object at null
  pub not-null : table o.number ≢ 0
  not-null e = by o.place refl (fits.placed o there) ((first-fits g formed).placed o there)
    where
      by : (at : Place) → o.place ≡ at → IsPlacedAt at (table o.number) → IsPlacedAt at (first_table g o.number) → ⊥
      by (Image spot) is here first = first-not-null g formed o there (first ∙ sym here ∙ e)
      by (Zygote spot) is here first = first-not-null g formed o there (first ∙ sym here ∙ e)
      by Young is here first =
          let (p, h) = packed g.classes 0 g.objects o there (ap is_young is) in
          let (region, less, at) = fits.packed (o.number, p) h in
          omega (arith, at, e)
      by Large is (k, less, at) first = omega (arith, at, e)
      by Promoted is (k, less, at) first = omega (arith, at, e)
