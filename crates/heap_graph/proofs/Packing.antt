-- Places lie in one region each, they rise with the end before them, and fewer sizes end no later.
use Rattle.std.proofs.Common.{◌≡◌, ℕ, ◌+◌, ◌-◌, ◌/◌, ◌<◌, ◌≤◌, Bool, true, false, cond, nat_eq, List, [], ◌∷◌, map, filter, refl, arith}
use Rattle.std.proofs.lemmas.Bool.{eqb-true, eqb-false}
use Rattle.model_numbers.specs.Numbers.{region_bytes}
use Rattle.class_layout.specs.ClassList.{Class}
use Rattle.heap_graph.specs.Graph.{Object, Graph, is_young, size_of_object}
use Rattle.heap_graph.specs.Sizes.{parts_for}
use Rattle.heap_graph.specs.Packing.{place_if, after, end_from, places_from, used}
use Rattle.heap_graph.specs.Collection.{is_kept, cleared, collect}
use Rattle.heap_graph.specs.Reach.{reached}
use Rattle.heap_graph.specs.Paths.{FitRegions, IsInRegion, ArePacked, numbers}

-- what fits a region lies in one at its place, not before the end that it follows
place_lies : (b : Bool) (p s : ℕ) → nat_eq (p / region_bytes) ((p + s - 1) / region_bytes) ≡ b → 0 < s → s ≤ region_bytes → (p ≤ place_if b p) × IsInRegion (place_if b p) s
place_lies true p s e some fits =
    let same : p / region_bytes ≡ (p + s - 1) / region_bytes = eqb-true _ _ e in
    (omega arith, (p / region_bytes, omega arith, omega arith))
place_lies false p s e some fits = (omega arith, ((p + (region_bytes - 1)) / region_bytes, omega arith, omega arith))

-- what fits a region each is packed at its places
pub are_packed : (p : ℕ) (ss : List ℕ) → FitRegions ss → ArePacked p ss (places_from p ss)
are_packed p [] fit = tt
are_packed p (s ∷ ss) fit =
    let here = place_lies _ p s refl fit.0 fit.1 in
    (here.0, here.1, are_packed (after p s) ss fit.2)

-- a place rises with the end before it
place_rises : (b c : Bool) (p q s : ℕ) → nat_eq (p / region_bytes) ((p + s - 1) / region_bytes) ≡ b → nat_eq (q / region_bytes) ((q + s - 1) / region_bytes) ≡ c → p ≤ q → place_if b p ≤ place_if c q
place_rises true true p q s d e le = le
place_rises true false p q s d e le = omega arith
place_rises false true p q s d e le =
    let apart = eqb-false _ _ d in
    let same : q / region_bytes ≡ (q + s - 1) / region_bytes = eqb-true _ _ e in
    omega arith
place_rises false false p q s d e le = omega arith

-- so does the end behind it
after_rises : (p q s : ℕ) → p ≤ q → after p s ≤ after q s
after_rises p q s le = let here = place_rises _ _ p q s refl refl le in omega (arith, here)

-- nothing stands before the end that it follows
place_above : (b : Bool) (p : ℕ) → p ≤ place_if b p
place_above true p = omega arith
place_above false p = omega arith

-- and a size ends behind it
after_above : (p s : ℕ) → p ≤ after p s
after_above p s = omega (arith, place_above (nat_eq (p / region_bytes) ((p + s - 1) / region_bytes)) p)

module _ (cs : List Class) (kept : List ℕ) (keep : Object → Bool) where
  -- the young objects that are kept end no later than all of them
  end_no_later : (os : List Object) (p q : ℕ) → p ≤ q →
      end_from p (map (size_of_object cs) (filter (λ o. is_young o.place) (map (cleared kept) (filter keep os)))) ≤ end_from q (map (size_of_object cs) (filter (λ o. is_young o.place) os))
  end_no_later [] p q le = le
  end_no_later (o ∷ os) p q le =
      let young : Object → Bool = λ o. is_young o.place in
      let size : Object → ℕ = size_of_object cs in
      let rest : List Object = filter young (map (cleared kept) (filter keep os)) in
      elim (keep o) as (λ b. end_from p (map size (filter young (map (cleared kept) (cond b (o ∷ filter keep os) (filter keep os))))) ≤ end_from q (map size (filter young (o ∷ os)))) [
        | true ↦
            elim (is_young o.place) as (λ c. end_from p (map size (cond c (cleared kept o ∷ rest) rest)) ≤ end_from q (map size (cond c (o ∷ filter young os) (filter young os)))) [
              | true ↦ end_no_later os (after p (size o)) (after q (size o)) (after_rises p q (size o) le)
              | false ↦ end_no_later os p q le
            ]
        | false ↦
            elim (is_young o.place) as (λ c. end_from p (map size rest) ≤ end_from q (map size (cond c (o ∷ filter young os) (filter young os)))) [
              | true ↦ let above = after_above q (size o) in end_no_later os p (after q (size o)) (omega (arith, above))
              | false ↦ end_no_later os p q le
            ]
      ]

-- more bytes take no fewer regions
parts_rise : (a b : ℕ) → a ≤ b → parts_for region_bytes a ≤ parts_for region_bytes b
parts_rise a b le = omega arith

-- a collection doesn't raise the regions used
pub used_no_more : (g : Graph) → used (collect g) ≤ used g
used_no_more g =
    let keep : Object → Bool = is_kept g.sealed (reached g) in
    parts_rise _ _ (end_no_later g.classes (numbers (filter keep g.objects)) keep g.objects 0 0 (omega arith))
