-- Promoted objects, one by one: their spots, their rows, and where the others stand.
use Rattle.std.proofs.Common.{◌≡◌, ◌∙◌, ℕ, ◌+◌, ◌<◌, Bool, true, false, cond, List, [], ◌∷◌, map, filter, refl, sym, ap, subst, inl, inr, arith, true≢false}
use Rattle.std.specs.Prelude.{max, sum, ◌||◌, ◌==◌}
use Rattle.std.specs.List.{list_any, AllByRecursion}
use Rattle.model_numbers.specs.Numbers.{zygote_base}
use Rattle.class_layout.specs.ClassList.{Class}
use Rattle.class_layout.specs.Placing.{IsIn}
use Rattle.heap_graph.specs.declared.names.Place.{Place}
use Rattle.heap_graph.specs.declared.names.Place.TheVariants as place
use Rattle.heap_graph.specs.Fork.{next_spot, promoted_from, promoted_place}
use Rattle.heap_graph.specs.Formed.{is_in_image, AreRising}
use Rattle.heap_graph.specs.Graph.{greatest, is_immune, is_young, size_of_object, zygote_end, Object}
use Rattle.image_space.specs.Space.{spots_from}
use Rattle.image_space.proofs.SpotLemmas.{sum-cons}
use Rattle.address_table.specs.Computed.{address_in, end_behind, large_behind, large_count, slot_at, table_from, Homes}
use Rattle.address_table.proofs.Behind.{rising-in, table-first, table-later}
use Rattle.graph_pages.proofs.Lists.{in-filter}
use Rattle.large_objects.specs.Rows.{promoted_row}
use Rattle.evacuate.specs.Stands.{row_of, rows_from, with_row}
use Rattle.evacuate.proofs.Members.{map-same}
use Rattle.zygote_compact.specs.Spots.{is_spot}

-- an object that is promoted with a spot
abbrev pub promoted_at : ℕ → Object → Object
promoted_at at o = record o { place = promoted_place at o.place }

abbrev pub is_young_object : Object → Bool
is_young_object o = is_young o.place

abbrev pub young_of : List Object → List Object
young_of os = filter is_young_object os

-- EACH OBJECT

pub promoted-in : (cs : List Class) (at : ℕ) (os : List Object) (o : Object) → IsIn o os → (spot : ℕ) × IsIn (promoted_at spot o) (promoted_from cs at os)
promoted-in cs at [] o none = absurd none
promoted-in cs at (x ∷ os) o (inl same) = (at, inl (ap (promoted_at at) same))
promoted-in cs at (x ∷ os) o (inr later) = let it = promoted-in cs (next_spot at (size_of_object cs x) x.place) os o later in (it.0, inr it.1)

-- objects of the image stay
pub image-stays : (cs : List Class) (at : ℕ) (os : List Object) → AllByRecursion (λ o. is_in_image o.place ≡ true) os → promoted_from cs at os ≡ os
image-stays cs at [] all = refl
image-stays cs at (x ∷ os) all = by x.place refl all.0 (λ n. image-stays cs n os all.1)
  where
    by : (p : Place) → x.place ≡ p → is_in_image p ≡ true → ((n : ℕ) → promoted_from cs n os ≡ os) → record x { place = promoted_place at p } ∷ promoted_from cs (next_spot at (size_of_object cs x) p) os ≡ x ∷ os
    by (place.Image spot) same is rest = ap (λ (q : Place). record x { place = q } ∷ promoted_from cs at os) (sym same) ∙ ap (λ (ys : List Object). x ∷ ys) (rest at)
    by (place.Zygote spot) same is rest = absurd (true≢false (sym is))
    by place.Young same is rest = absurd (true≢false (sym is))
    by place.Large same is rest = absurd (true≢false (sym is))
    by place.Promoted same is rest = absurd (true≢false (sym is))

pub promoted-back : (cs : List Class) (at : ℕ) (os : List Object) (q : Object) → IsIn q (promoted_from cs at os) → (o : Object) × IsIn o os × ((spot : ℕ) × (promoted_at spot o ≡ q))
promoted-back cs at [] q none = absurd none
promoted-back cs at (x ∷ os) q (inl same) = (x, inl refl, (at, same))
promoted-back cs at (x ∷ os) q (inr later) = let it = promoted-back cs (next_spot at (size_of_object cs x) x.place) os q later in (it.0, inr it.1, it.2)

place-old : (at : ℕ) (p : Place) → is_young (promoted_place at p) ≡ false
place-old at (place.Image spot) = refl
place-old at (place.Zygote spot) = refl
place-old at place.Young = refl
place-old at place.Large = refl
place-old at place.Promoted = refl

pub place-immune : (at : ℕ) (p : Place) → is_immune true (promoted_place at p) ≡ true
place-immune at (place.Image spot) = refl
place-immune at (place.Zygote spot) = refl
place-immune at place.Young = refl
place-immune at place.Large = refl
place-immune at place.Promoted = refl

-- no promoted object is young
pub none-young : (cs : List Class) (at : ℕ) (os : List Object) → young_of (promoted_from cs at os) ≡ []
none-young cs at [] = refl
none-young cs at (x ∷ os) =
    let rest = promoted_from cs (next_spot at (size_of_object cs x) x.place) os in
    ap (λ b. cond b (promoted_at at x ∷ young_of rest) (young_of rest)) (place-old at x.place) ∙ none-young cs (next_spot at (size_of_object cs x) x.place) os

-- WHERE THEY STAND

behind-same : (at k : ℕ) (p : Place) → large_behind k (promoted_place at p) ≡ large_behind k p
behind-same at k (place.Image spot) = refl
behind-same at k (place.Zygote spot) = refl
behind-same at k place.Young = refl
behind-same at k place.Large = refl
behind-same at k place.Promoted = refl

pub count-same : (cs : List Class) (at k : ℕ) (os : List Object) → large_count k (promoted_from cs at os) ≡ large_count k os
count-same cs at k [] = refl
count-same cs at k (x ∷ os) =
    ap (λ j. large_count j (promoted_from cs (next_spot at (size_of_object cs x) x.place) os)) (behind-same at k x.place)
    ∙ count-same cs (next_spot at (size_of_object cs x) x.place) (large_behind k x.place) os

module _ (cs : List Class) (old new : Homes) (slots : new.slots ≡ old.slots) where
  stays-first : (end e k at : ℕ) (x : Object) (p : Place) → is_young p ≡ false → address_in new cs e k (promoted_at at x) (promoted_place at p) ≡ address_in old cs end k x p
  stays-first end e k at x (place.Image spot) old_place = refl
  stays-first end e k at x (place.Zygote spot) old_place = refl
  stays-first end e k at x place.Young old_place = absurd (true≢false old_place)
  stays-first end e k at x place.Large old_place = ap (λ ss. slot_at ss k) slots
  stays-first end e k at x place.Promoted old_place = ap (λ ss. slot_at ss k) slots

  -- what isn't young stays
  pub stays : (low next end e k at : ℕ) (os : List Object) → AreRising low next os → (o : Object) → IsIn o os → is_young o.place ≡ false
      → table_from new cs e k (promoted_from cs at os) o.number ≡ table_from old cs end k os o.number
  stays low next end e k at [] rising o none old_place = absurd none
  stays low next end e k at (x ∷ os) rising o (inl same) old_place =
      subst (λ (y : Object). table_from new cs e k (promoted_from cs at (x ∷ os)) y.number ≡ table_from old cs end k (x ∷ os) y.number) same
      (table-first new cs e k (promoted_at at x) (promoted_from cs (next_spot at (size_of_object cs x) x.place) os)
      ∙ stays-first end e k at x x.place (ap (λ (y : Object). is_young y.place) same ∙ old_place) ∙ sym (table-first old cs end k x os))
  stays low next end e k at (x ∷ os) rising o (inr later) old_place =
      let above = rising-in (x.number + 1) next os o rising.1 later in
      let less : x.number < o.number = omega (arith, above) in
      let rest = promoted_from cs (next_spot at (size_of_object cs x) x.place) os in
      let behind = end_behind cs e (promoted_at at x) (promoted_place at x.place) in
      table-later new cs e k (promoted_at at x) rest o.number less
      ∙ ap (λ j. table_from new cs behind j rest o.number) (behind-same at k x.place)
      ∙ stays (x.number + 1) next (end_behind cs end x x.place) behind (large_behind k x.place) (next_spot at (size_of_object cs x) x.place) os rising.1 o later old_place
      ∙ sym (table-later old cs end k x os o.number less)

module _ (cs : List Class) (new : Homes) where
  -- the young ones get spots one directly behind the other
  pub spots : (low next e k at : ℕ) (os : List Object) → AreRising low next os
      → map (λ (o : Object). table_from new cs e k (promoted_from cs at os) o.number) (young_of os) ≡ spots_from (zygote_base + at) (map (size_of_object cs) (young_of os))
  spots low next e k at [] rising = refl
  spots low next e k at (x ∷ os) rising = by x.place refl (λ f j a. spots (x.number + 1) next f j a os rising.1)
    where
      -- the table is that of the rest, on the rest
      later : map (λ (o : Object). table_from new cs e k (promoted_from cs at (x ∷ os)) o.number) (young_of os)
          ≡ map (λ (o : Object). table_from new cs (end_behind cs e (promoted_at at x) (promoted_place at x.place)) (large_behind k (promoted_place at x.place)) (promoted_from cs (next_spot at (size_of_object cs x) x.place) os) o.number) (young_of os)
      later = map-same _ _ (young_of os) (λ o there.
          let above = rising-in (x.number + 1) next os o rising.1 (in-filter is_young_object os o there).0 in
          table-later new cs e k (promoted_at at x) (promoted_from cs (next_spot at (size_of_object cs x) x.place) os) o.number (omega (arith, above)))

      same : (p : Place) → x.place ≡ p
          → map (λ (o : Object). table_from new cs (end_behind cs e (promoted_at at x) (promoted_place at x.place)) (large_behind k (promoted_place at x.place)) (promoted_from cs (next_spot at (size_of_object cs x) x.place) os) o.number) (young_of os)
          ≡ map (λ (o : Object). table_from new cs (end_behind cs e (promoted_at at x) (promoted_place at p)) (large_behind k (promoted_place at p)) (promoted_from cs (next_spot at (size_of_object cs x) p) os) o.number) (young_of os)
      same p is = ap (λ (r : Place). map (λ (o : Object). table_from new cs (end_behind cs e (promoted_at at x) (promoted_place at r)) (large_behind k (promoted_place at r)) (promoted_from cs (next_spot at (size_of_object cs x) r) os) o.number) (young_of os)) is

      by : (p : Place) → x.place ≡ p
          → ((f j a : ℕ) → map (λ (o : Object). table_from new cs f j (promoted_from cs a os) o.number) (young_of os) ≡ spots_from (zygote_base + a) (map (size_of_object cs) (young_of os)))
          → map (λ (o : Object). table_from new cs e k (promoted_from cs at (x ∷ os)) o.number) (cond (is_young p) (x ∷ young_of os) (young_of os))
          ≡ spots_from (zygote_base + at) (map (size_of_object cs) (cond (is_young p) (x ∷ young_of os) (young_of os)))
      by (place.Image spot) is rest = later ∙ same (place.Image spot) is ∙ rest e k at
      by (place.Zygote spot) is rest = later ∙ same (place.Zygote spot) is ∙ rest e k at
      by place.Large is rest = later ∙ same place.Large is ∙ rest e (k + 1) at
      by place.Promoted is rest = later ∙ same place.Promoted is ∙ rest e (k + 1) at
      by place.Young is rest =
          let s : ℕ = size_of_object cs x in
          let next_is : zygote_base + (at + s) ≡ zygote_base + at + s = omega arith in
          ap (λ n. n ∷ map (λ (o : Object). table_from new cs e k (promoted_from cs at (x ∷ os)) o.number) (young_of os))
          (table-first new cs e k (promoted_at at x) (promoted_from cs (next_spot at s x.place) os) ∙ ap (λ (p : Place). address_in new cs e k (promoted_at at x) (promoted_place at p)) is)
          ∙ ap (λ ns. (zygote_base + at) ∷ ns) (later ∙ same place.Young is ∙ rest e k (at + s) ∙ ap (λ n. spots_from n (map (size_of_object cs) (young_of os))) next_is)

-- ROWS

-- the rows are the same, but promoted
pub rows-promoted : (cs : List Class) (slots : List ℕ) (at k : ℕ) (os : List Object) → rows_from cs slots k (promoted_from cs at os) ≡ map promoted_row (rows_from cs slots k os)
rows-promoted cs slots at k [] = refl
rows-promoted cs slots at k (x ∷ os) = by x.place (λ j a. rows-promoted cs slots a j os)
  where
    by : (p : Place) → ((j a : ℕ) → rows_from cs slots j (promoted_from cs a os) ≡ map promoted_row (rows_from cs slots j os))
        → with_row cs slots k (promoted_at at x) (promoted_place at p) (rows_from cs slots (large_behind k (promoted_place at p)) (promoted_from cs (next_spot at (size_of_object cs x) p) os))
        ≡ map promoted_row (with_row cs slots k x p (rows_from cs slots (large_behind k p) os))
    by (place.Image spot) rest = rest k at
    by (place.Zygote spot) rest = rest k at
    by place.Young rest = rest k (at + size_of_object cs x)
    by place.Large rest = ap (λ rows. row_of cs slots k x true ∷ rows) (rest (k + 1) at)
    by place.Promoted rest = ap (λ rows. row_of cs slots k x true ∷ rows) (rest (k + 1) at)

-- SPOTS AND ENDS

behind-both : (a b c : Bool) → (a || (b || c)) ≡ (b || (a || c))
behind-both true true c = refl
behind-both true false c = refl
behind-both false true c = refl
behind-both false false c = refl

before-both : (a b c : Bool) → (a || (b || c)) ≡ ((a || b) || c)
before-both true b c = refl
before-both false b c = refl

-- the spots are those that were there, and the new ones
pub spots-more : (cs : List Class) (q at : ℕ) (os : List Object) → list_any (λ (o : Object). is_spot q o.place) (promoted_from cs at os)
    ≡ (list_any (λ (o : Object). is_spot q o.place) os || list_any (λ spot. q == spot) (spots_from (zygote_base + at) (map (size_of_object cs) (young_of os))))
spots-more cs q at [] = refl
spots-more cs q at (x ∷ os) = by x.place (λ a. spots-more cs q a os)
  where
    old : Bool
    old = list_any (λ (o : Object). is_spot q o.place) os

    by : (p : Place) → ((a : ℕ) → list_any (λ (o : Object). is_spot q o.place) (promoted_from cs a os) ≡ (old || list_any (λ spot. q == spot) (spots_from (zygote_base + a) (map (size_of_object cs) (young_of os)))))
        → (is_spot q (promoted_place at p) || list_any (λ (o : Object). is_spot q o.place) (promoted_from cs (next_spot at (size_of_object cs x) p) os))
        ≡ ((is_spot q p || old) || list_any (λ spot. q == spot) (spots_from (zygote_base + at) (map (size_of_object cs) (cond (is_young p) (x ∷ young_of os) (young_of os)))))
    by (place.Image spot) rest = rest at
    by (place.Zygote spot) rest = ap (λ b. (q == spot) || b) (rest at) ∙ before-both (q == spot) old _
    by place.Large rest = rest at
    by place.Promoted rest = rest at
    by place.Young rest =
        let s : ℕ = size_of_object cs x in
        let next_is : zygote_base + (at + s) ≡ zygote_base + at + s = omega arith in
        ap (λ b. (q == (zygote_base + at)) || b) (rest (at + s) ∙ ap (λ n. old || list_any (λ spot. q == spot) (spots_from n (map (size_of_object cs) (young_of os)))) next_is)
        ∙ behind-both (q == (zygote_base + at)) old _

-- where objects of these sizes end that stand one directly behind the other; 0 for none
abbrev pub last_end : ℕ → List ℕ → ℕ
last_end at [] = 0
last_end at (size ∷ more) = at + sum (size ∷ more)

last-first : (at s : ℕ) (ss : List ℕ) → max (at + s) (last_end (at + s) ss) ≡ at + sum (s ∷ ss)
last-first at s [] = omega (arith, sum-cons s [])
last-first at s (r ∷ ss) = omega (arith, sum-cons s (r ∷ ss))

pub ends-more : (cs : List Class) (at : ℕ) (os : List Object) → greatest (map (λ (o : Object). zygote_end cs o o.place) (promoted_from cs at os))
    ≡ max (greatest (map (λ (o : Object). zygote_end cs o o.place) os)) (last_end at (map (size_of_object cs) (young_of os)))
ends-more cs at [] = refl
ends-more cs at (x ∷ os) = by x.place (λ a. ends-more cs a os)
  where
    old : ℕ
    old = greatest (map (λ (o : Object). zygote_end cs o o.place) os)

    by : (p : Place) → ((a : ℕ) → greatest (map (λ (o : Object). zygote_end cs o o.place) (promoted_from cs a os)) ≡ max old (last_end a (map (size_of_object cs) (young_of os))))
        → max (zygote_end cs (promoted_at at x) (promoted_place at p)) (greatest (map (λ (o : Object). zygote_end cs o o.place) (promoted_from cs (next_spot at (size_of_object cs x) p) os)))
        ≡ max (max (zygote_end cs x p) old) (last_end at (map (size_of_object cs) (cond (is_young p) (x ∷ young_of os) (young_of os))))
    by (place.Image spot) rest = omega (arith, rest at)
    by (place.Zygote spot) rest = omega (arith, rest at)
    by place.Large rest = omega (arith, rest at)
    by place.Promoted rest = omega (arith, rest at)
    by place.Young rest =
        let s : ℕ = size_of_object cs x in
        omega (arith, rest (at + s), last-first at s (map (size_of_object cs) (young_of os)))
