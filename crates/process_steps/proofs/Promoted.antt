-- What a promotion of a graph leaves as it was, and how many pages its large objects have.
use Rattle.std.proofs.Common.{◌≡◌, ◌∙◌, ℕ, ◌+◌, ◌||◌, true, List, [], ◌∷◌, ◌++◌, length, map, refl, sym, ap, arith}
use Rattle.std.specs.List.{flat_map, list_any}
use Rattle.std.proofs.lemmas.List.{length-append}
use Rattle.std.proofs.lemmas.List.Sums.{sum_by-cons}
use Rattle.class_layout.specs.ClassList.{Class}
use Rattle.heap_graph.specs.declared.names.Place.{Place}
use Rattle.heap_graph.specs.declared.names.Place.TheVariants as place
use Rattle.heap_graph.specs.Fork.{next_spot, promoted, promoted_from, promoted_place, promotion_start}
use Rattle.heap_graph.specs.Graph.{image_fill, image_size, size_of_object, Graph, Object}
use Rattle.heap_graph.specs.Sizes.{unrounded}
use Rattle.heap_graph.proofs.Totals.{total-promoted}
use Rattle.heap_world.specs.Pages.{large_pages, pages_if_promoted}
use Rattle.heap_world.proofs.Bounds.{length-large}
use Rattle.heap_world.proofs.Placed.{fill-is}
use Rattle.image_space.specs.Space.{pages_up_to}
use Rattle.large_objects.specs.declared.rows.LargeRow.{LargeRow}
use Rattle.large_objects.specs.Pages.{page_sum}
use Rattle.address_table.specs.Computed.{large_behind}
use Rattle.evacuate.specs.Stands.{row_of, rows_from}
use Rattle.process_state.specs.Stands.{is_image_spot}

pub length-promoted : (cs : List Class) (at : ℕ) (os : List Object) → length (promoted_from cs at os) ≡ length os
length-promoted cs at [] = refl
length-promoted cs at (o ∷ os) = omega (arith, length-promoted cs (next_spot at (size_of_object cs o) o.place) os)

-- THE IMAGE

size-promoted : (cs : List Class) (o : Object) (at : ℕ) → image_size cs (record o { place = promoted_place at o.place }) (promoted_place at o.place) ≡ image_size cs o o.place
size-promoted cs o at = by o.place
  where
    by : (q : Place) → image_size cs (record o { place = promoted_place at q }) (promoted_place at q) ≡ image_size cs o q
    by (place.Image spot) = refl
    by (place.Zygote spot) = refl
    by place.Young = refl
    by place.Large = refl
    by place.Promoted = refl

pub image-promoted : (g : Graph) → image_fill (promoted g) ≡ image_fill g
image-promoted g =
    fill-is (promoted g) ∙ total-promoted (λ o. image_size g.classes o o.place) (size-promoted g.classes) g.classes (promotion_start g) g.objects ∙ sym (fill-is g)

spot-promoted : (q at : ℕ) (p : Place) → is_image_spot q (promoted_place at p) ≡ is_image_spot q p
spot-promoted q at (place.Image spot) = refl
spot-promoted q at (place.Zygote spot) = refl
spot-promoted q at place.Young = refl
spot-promoted q at place.Large = refl
spot-promoted q at place.Promoted = refl

-- the spots of the image are the same
pub spots-promoted : (cs : List Class) (q at : ℕ) (os : List Object) → list_any (λ (o : Object). is_image_spot q o.place) (promoted_from cs at os) ≡ list_any (λ (o : Object). is_image_spot q o.place) os
spots-promoted cs q at [] = refl
spots-promoted cs q at (o ∷ os) =
    ap (λ b. b || list_any (λ (x : Object). is_image_spot q x.place) (promoted_from cs (next_spot at (size_of_object cs o) o.place) os)) (spot-promoted q at o.place)
    ∙ ap (λ b. is_image_spot q o.place || b) (spots-promoted cs q (next_spot at (size_of_object cs o) o.place) os)

-- LARGE OBJECTS

-- the rows of promoted objects have as many pages together as these have by name
pub pages-promoted : (cs : List Class) (slots : List ℕ) (at k : ℕ) (os : List Object)
    → page_sum (rows_from cs slots k (promoted_from cs at os)) ≡ length (flat_map (λ o. pages_if_promoted cs o o.place) (promoted_from cs at os))
pages-promoted cs slots at k [] = refl
pages-promoted cs slots at k (o ∷ os) = by o.place (λ j a. pages-promoted cs slots a j os)
  where
    -- the pages of one, before those of others
    one : (a j : ℕ) (x : Object) → page_sum (rows_from cs slots j (promoted_from cs a os)) ≡ length (flat_map (λ o. pages_if_promoted cs o o.place) (promoted_from cs a os))
        → page_sum (row_of cs slots k x true ∷ rows_from cs slots j (promoted_from cs a os)) ≡ length (large_pages cs x ++ flat_map (λ o. pages_if_promoted cs o o.place) (promoted_from cs a os))
    one a j x rest =
        omega (
          arith,
          rest,
          sum_by-cons (λ (n : ℕ). n) (pages_up_to (unrounded cs x.shape)) (map (λ (row : LargeRow). pages_up_to row.bytes) (rows_from cs slots j (promoted_from cs a os))),
          length-append (large_pages cs x) (flat_map (λ o. pages_if_promoted cs o o.place) (promoted_from cs a os)),
          length-large cs x,
        )

    by : (p : Place) → ((j a : ℕ) → page_sum (rows_from cs slots j (promoted_from cs a os)) ≡ length (flat_map (λ o. pages_if_promoted cs o o.place) (promoted_from cs a os)))
        → page_sum (rows_from cs slots k (promoted_from cs at (record o { place = p } ∷ os))) ≡ length (flat_map (λ o. pages_if_promoted cs o o.place) (promoted_from cs at (record o { place = p } ∷ os)))
    by (place.Image spot) rest = rest k at
    by (place.Zygote spot) rest = rest k at
    by place.Young rest = rest k (at + size_of_object cs o)
    by place.Large rest = one at (large_behind k place.Large) (record o { place = place.Promoted }) (rest (large_behind k place.Large) at)
    by place.Promoted rest = one at (large_behind k place.Promoted) (record o { place = place.Promoted }) (rest (large_behind k place.Promoted) at)
