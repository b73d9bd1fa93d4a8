-- How many objects aren't immune, and how many of them a collection frees.
use Rattle.std.proofs.Common.{◌≡◌, ◌∙◌, ℕ, ◌+◌, ◌≤◌, Bool, true, false, cond, not, List, [], ◌∷◌, map, filter, length, refl, sym, ap, subst, arith}
use Rattle.std.specs.Prelude.{count_by, ◌||◌}
use Rattle.std.proofs.lemmas.List.Sums.{sum_by-cons}
use Rattle.class_layout.specs.ClassList.{Class}
use Rattle.heap_graph.specs.declared.names.Place.{Place}
use Rattle.heap_graph.specs.declared.names.Place.TheVariants as place
use Rattle.heap_graph.specs.Collection.{cleared, collect, freed_count, is_kept, loose_count}
use Rattle.heap_graph.specs.Graph.{is_immune, is_young, Graph, Object}
use Rattle.heap_graph.specs.Paths.{numbers}
use Rattle.heap_graph.specs.Reach.{is_among, reached}
use Rattle.large_objects.specs.declared.rows.LargeRow.{LargeRow}
use Rattle.large_objects.specs.Rows.{waits}
use Rattle.address_table.specs.Computed.{large_behind}
use Rattle.object_collection.specs.Collects.{HeapState}
use Rattle.evacuate.specs.Stands.{homes_of, rows_from, with_row, StandsFor}

abbrev is_loose : Bool → Object → Bool
is_loose seal o = not (is_immune seal o.place)

count-cons : (p : Object → Bool) (o : Object) (os : List Object) → count_by p (o ∷ os) ≡ cond (p o) 1 0 + count_by p os
count-cons p o os = sum_by-cons (λ x. cond (p x) 1 0) o os

-- young ones and rows that wait
count-rows : (cs : List Class) (slots : List ℕ) (k : ℕ) (os : List Object)
    → length (filter (λ (o : Object). is_young o.place) os) + length (filter waits (rows_from cs slots k os)) ≡ count_by (is_loose true) os
count-rows cs slots k [] = refl
count-rows cs slots k (o ∷ os) = by o.place refl (λ n. count-rows cs slots n os)
  where
    by : (at : Place) → o.place ≡ at → ((n : ℕ) → length (filter (λ (o : Object). is_young o.place) os) + length (filter waits (rows_from cs slots n os)) ≡ count_by (is_loose true) os)
        → length (cond (is_young at) (o ∷ filter (λ (o : Object). is_young o.place) os) (filter (λ (o : Object). is_young o.place) os)) + length (filter waits (with_row cs slots k o at (rows_from cs slots (large_behind k at) os)))
        ≡ count_by (is_loose true) (o ∷ os)
    by (place.Image spot) is rest = let one : ◌≡◌ {A = ℕ} (cond (is_loose true o) 1 0) 0 = ap (λ (p : Place). cond (not (is_immune true p)) 1 0) is in omega (arith, rest k, count-cons (is_loose true) o os, one)
    by (place.Zygote spot) is rest = let one : ◌≡◌ {A = ℕ} (cond (is_loose true o) 1 0) 0 = ap (λ (p : Place). cond (not (is_immune true p)) 1 0) is in omega (arith, rest k, count-cons (is_loose true) o os, one)
    by place.Young is rest = let one : ◌≡◌ {A = ℕ} (cond (is_loose true o) 1 0) 1 = ap (λ (p : Place). cond (not (is_immune true p)) 1 0) is in omega (arith, rest k, count-cons (is_loose true) o os, one)
    by place.Large is rest = let one : ◌≡◌ {A = ℕ} (cond (is_loose true o) 1 0) 1 = ap (λ (p : Place). cond (not (is_immune true p)) 1 0) is in omega (arith, rest (k + 1), count-cons (is_loose true) o os, one)
    by place.Promoted is rest = let one : ◌≡◌ {A = ℕ} (cond (is_loose true o) 1 0) 0 = ap (λ (p : Place). cond (not (is_immune true p)) 1 0) is in omega (arith, rest (k + 1), count-cons (is_loose true) o os, one)

pub counted : (h : HeapState) (g : Graph) → g.sealed ≡ true → StandsFor h g → h.regions.objects + length (filter waits h.rows) ≡ loose_count g
counted h g is_sealed stands =
    omega (
      arith,
      stands.objects,
      ap (λ (rows : List LargeRow). length (filter waits rows)) stands.rows,
      count-rows g.classes (homes_of h).slots 0 g.objects,
      ap (λ b. count_by (is_loose b) g.objects) is_sealed,
    )

-- those that aren't kept
module _ (seal : Bool) (seen kept : List ℕ) where
  abbrev keep : Object → Bool
  keep o = is_kept seal seen o

  record Counts (os : List Object) : Type 0 where
    pub same : count_by (is_loose seal) os + length (map (cleared kept) (filter keep os)) ≡ count_by (is_loose seal) (map (cleared kept) (filter keep os)) + length os
    pub fewer : length (map (cleared kept) (filter keep os)) ≤ length os

  counts : (os : List Object) → Counts os
  counts [] = record { same = refl; fewer = omega arith }
  counts (o ∷ os) = by (is_immune seal o.place) refl (is_among seen o.number) refl (counts os)
    where
      kept-more : keep o ≡ true → Counts os → Counts (o ∷ os)
      kept-more is rest =
          let all : map (cleared kept) (filter keep (o ∷ os)) ≡ cleared kept o ∷ map (cleared kept) (filter keep os) = ap (λ b. map (cleared kept) (cond b (o ∷ filter keep os) (filter keep os))) is in
          record {
            same =
                subst (λ (xs : List Object). count_by (is_loose seal) (o ∷ os) + length xs ≡ count_by (is_loose seal) xs + length (o ∷ os)) (sym all)
                (omega (arith, rest.same, count-cons (is_loose seal) o os, count-cons (is_loose seal) (cleared kept o) (map (cleared kept) (filter keep os))));
            fewer = subst (λ (xs : List Object). length xs ≤ length (o ∷ os)) (sym all) (omega (arith, rest.fewer));
          }

      by : (immune : Bool) → is_immune seal o.place ≡ immune → (among : Bool) → is_among seen o.number ≡ among → Counts os → Counts (o ∷ os)
      by true e among f rest = kept-more (ap (λ b. b || is_among seen o.number) e) rest
      by false e true f rest = kept-more (ap (λ b. b || is_among seen o.number) e ∙ f) rest
      by false e false f rest =
          let gone : keep o ≡ false = ap (λ b. b || is_among seen o.number) e ∙ f in
          let all : map (cleared kept) (filter keep (o ∷ os)) ≡ map (cleared kept) (filter keep os) = ap (λ b. map (cleared kept) (cond b (o ∷ filter keep os) (filter keep os))) gone in
          let one : ◌≡◌ {A = ℕ} (cond (is_loose seal o) 1 0) 1 = ap (λ b. cond (not b) 1 0) e in
          record {
            same =
                subst (λ (xs : List Object). count_by (is_loose seal) (o ∷ os) + length xs ≡ count_by (is_loose seal) xs + length (o ∷ os)) (sym all)
                (omega (arith, rest.same, count-cons (is_loose seal) o os, one));
            fewer = subst (λ (xs : List Object). length xs ≤ length (o ∷ os)) (sym all) (omega (arith, rest.fewer));
          }

pub freed : (g : Graph) → loose_count (collect g) + freed_count g (collect g) ≡ loose_count g
freed g =
    let it = counts g.sealed (reached g) (numbers (filter (is_kept g.sealed (reached g)) g.objects)) g.objects in
    omega (arith, it.same, it.fewer)
