-- The mapped pages of the image window are those up to the graph's fill.
use Rattle.std.proofs.Common.{◌≡◌, ◌∙◌, ℕ, ◌+◌, ◌-◌, ◌/◌, ◌<◌, ◌≤◌, Bool, true, false, List, [], ◌∷◌, refl, sym, ap, inl, inr, arith, true≢false}
use Rattle.std.specs.Prelude.{nat_le, nat_lt, ◌||◌}
use Rattle.std.specs.List.{list_any}
use Rattle.std.proofs.lemmas.Bool.{and_from, and_parts, cases_Bool, le-leb, leb-true, lt-ltb, ltb-false, ltb-true, or_left, or_right}
use Rattle.class_layout.specs.ClassList.{Class}
use Rattle.class_layout.specs.Placing.{IsIn}
use Rattle.page_tables.specs.declared.address.Window.TheVariants as window
use Rattle.page_tables.specs.Address.{first_page, is_in, page_of}
use Rattle.cow_pages.specs.Memory.{Memory}
use Rattle.heap_graph.specs.declared.names.Place.{Place}
use Rattle.heap_graph.specs.declared.names.Place.TheVariants as place
use Rattle.heap_graph.specs.Formed.{FillImage, IsBehindImage}
use Rattle.heap_graph.specs.Graph.{image_fill, image_size, size_of_object, Graph, Object}
use Rattle.heap_graph.specs.Table.{IsPlacedAt}
use Rattle.heap_graph.proofs.Sizes.{size-least}
use Rattle.heap_graph.proofs.Totals.{total}
use Rattle.heap_world.specs.Part.{Part}
use Rattle.heap_world.proofs.Placed.{fill-is}
use Rattle.image_space.specs.Space.{holds_first, pages_up_to, HasPagesUpTo}
use Rattle.address_table.specs.Computed.{table_of, Homes}
use Rattle.address_table.proofs.Fitting.{fits}
use Rattle.region_space.specs.Space.{lists_of}
use Rattle.graph_pages.specs.Pages.{has_bytes_in}
use Rattle.evacuate.specs.Stands.{homes_in}
use Rattle.evacuate.proofs.Left.{same-bool}
use Rattle.evacuate.proofs.Pages.{in-window, one-window, page-in, window_of}
use Rattle.process_state.specs.Stands.{StandsIn}
use Rattle.process_state.specs.State.{State}

-- a page of the window holds some of so many bytes
low-holds : (bytes p : ℕ) → p < 131072 + pages_up_to bytes → is_in window.Image p ≡ true → holds_first window.Image bytes p ≡ true
low-holds bytes p low is = and_from (nat_le (first_page window.Image) p) (nat_lt p (first_page window.Image + pages_up_to bytes)) (le-leb _ _ (in-window window.Image p is).low) (lt-ltb _ _ low)

holds-low : (bytes p : ℕ) → holds_first window.Image bytes p ≡ true → p < 131072 + pages_up_to bytes
holds-low bytes p holds = ltb-true _ _ (and_parts (nat_le (first_page window.Image) p) (nat_lt p (first_page window.Image + pages_up_to bytes)) holds).1

not-both : (b c : Bool) → (c ≡ true → ⊥) → (b || c) ≡ b
not-both true c not = refl
not-both false true not = absurd (not refl)
not-both false false not = refl

regroup : (a b c : Bool) → ((a || b) || c) ≡ (a || (b || c))
regroup true b c = refl
regroup false b c = refl

module _ (cs : List Class) (table : ℕ → ℕ) (p : ℕ) (is : is_in window.Image p ≡ true) where
  -- an object that stands behind so many bytes has bytes in exactly the pages that it adds
  spot-pages : (bytes spot : ℕ) (o : Object) → spot ≡ 0x20000000 + bytes → table o.number ≡ spot
      → holds_first window.Image (bytes + size_of_object cs o) p ≡ (holds_first window.Image bytes p || has_bytes_in cs table p o)
  spot-pages bytes spot o behind at = same-bool _ _ there back
    where
      size : ℕ
      size = size_of_object cs o

      there : holds_first window.Image (bytes + size_of_object cs o) p ≡ true → (holds_first window.Image bytes p || has_bytes_in cs table p o) ≡ true
      there e = elim (cases_Bool (nat_lt p (131072 + (bytes + 4095) / 4096))) [
        | inl low ↦ or_left _ _ (low-holds bytes p (ltb-true _ _ low) is)
        | inr high ↦
            let beyond : 131072 + (bytes + 4095) / 4096 ≤ p = omega (arith, ltb-false _ _ high) in
            let below = holds-low (bytes + size) p e in
            or_right (holds_first window.Image bytes p) _
            (and_from (nat_le (page_of (table o.number)) p) (nat_le p (page_of (table o.number + size - 1))) (le-leb _ _ (omega (arith, at, behind, beyond)))
            (le-leb _ _ (omega (arith, at, behind, below, size-least cs o))))
      ]

      back : (holds_first window.Image bytes p || has_bytes_in cs table p o) ≡ true → holds_first window.Image (bytes + size_of_object cs o) p ≡ true
      back e = elim (cases_Bool (holds_first window.Image bytes p)) [
        | inl holds ↦ low-holds (bytes + size) p (omega (arith, holds-low bytes p holds)) is
        | inr off ↦
            let has : has_bytes_in cs table p o ≡ true = sym (ap (λ b. b || has_bytes_in cs table p o) off) ∙ e in
            let parts = and_parts (nat_le (page_of (table o.number)) p) (nat_le p (page_of (table o.number + size - 1))) has in
            low-holds (bytes + size) p (omega (arith, at, behind, leb-true _ _ parts.1, size-least cs o)) is
      ]

  -- the objects have bytes in exactly the pages up to their end
  fill-pages : (bytes : ℕ) (os : List Object) → FillImage cs bytes os → ((o : Object) → IsIn o os → IsPlacedAt o.place (table o.number))
      → ((o : Object) → IsIn o os → has_bytes_in cs table p o ≡ true → window_of o.place ≡ window.Image)
      → holds_first window.Image (bytes + total (λ o. image_size cs o o.place) os) p ≡ (holds_first window.Image bytes p || list_any (has_bytes_in cs table p) os)
  fill-pages bytes [] fill placed here = ap (λ n. holds_first window.Image n p) (same-end bytes) ∙ sym (not-both (holds_first window.Image bytes p) false (λ e. true≢false (sym e)))
    where
      same-end : (n : ℕ) → n + 0 ≡ n
      same-end n = omega arith
  fill-pages bytes (x ∷ os) fill placed here =
      by x.place fill.0 (placed x (inl refl)) (here x (inl refl)) (fill-pages (bytes + image_size cs x x.place) os fill.1 (λ o there. placed o (inr there)) (λ o there. here o (inr there)))
    where
      any : Bool
      any = list_any (has_bytes_in cs table p) os

      rest_size : ℕ
      rest_size = total (λ o. image_size cs o o.place) os

      outside : (has_bytes_in cs table p x ≡ true → ⊥) → holds_first window.Image (bytes + 0 + rest_size) p ≡ (holds_first window.Image (bytes + 0) p || any)
          → holds_first window.Image (bytes + (0 + rest_size)) p ≡ (holds_first window.Image bytes p || (has_bytes_in cs table p x || any))
      outside not rest =
          let low : bytes + 0 ≡ bytes = omega arith in
          let end : bytes + (0 + rest_size) ≡ bytes + 0 + rest_size = omega arith in
          ap (λ n. holds_first window.Image n p) end ∙ rest ∙ ap (λ n. holds_first window.Image n p || any) low
          ∙ ap (λ b. b || any) (sym (not-both (holds_first window.Image bytes p) (has_bytes_in cs table p x) not)) ∙ regroup _ _ any

      by : (at : Place) → IsBehindImage bytes at → IsPlacedAt at (table x.number) → (has_bytes_in cs table p x ≡ true → window_of at ≡ window.Image)
          → holds_first window.Image (bytes + image_size cs x at + rest_size) p ≡ (holds_first window.Image (bytes + image_size cs x at) p || any)
          → holds_first window.Image (bytes + (image_size cs x at + rest_size)) p ≡ (holds_first window.Image bytes p || (has_bytes_in cs table p x || any))
      by (place.Image spot) behind at off rest =
          let end : bytes + (size_of_object cs x + rest_size) ≡ bytes + size_of_object cs x + rest_size = omega arith in
          ap (λ n. holds_first window.Image n p) end ∙ rest ∙ ap (λ b. b || any) (spot-pages bytes spot x behind at) ∙ regroup _ _ any
      by place.Young behind at off rest = outside (λ e. let no = off e in cc) rest
      by place.Large behind at off rest = outside (λ e. let no = off e in cc) rest
      by place.Promoted behind at off rest = outside (λ e. let no = off e in cc) rest
      by (place.Zygote spot) behind at off rest = outside (λ e. let no = off e in cc) rest

none-first : (p : ℕ) → holds_first window.Image 0 p ≡ false
none-first p = elim (cases_Bool (holds_first window.Image 0 p)) [
  | inl e ↦
      let parts = and_parts (nat_le (first_page window.Image) p) (nat_lt p (first_page window.Image + pages_up_to 0)) e in
      absurd (omega (arith, leb-true _ _ parts.0, ltb-true _ _ parts.1))
  | inr e ↦ e
]

pub image-up-to : (s : State) (m : Memory) (part : Part) → StandsIn s m part → HasPagesUpTo m s.page_table (image_fill part.graph)
image-up-to s m part k p is =
    let g : Graph = part.graph in
    let homes : Homes = homes_in s.regions.in_use s.rows in
    let table : ℕ → ℕ = table_of homes g in
    let all = fill-pages g.classes table p is 0 g.objects k.heap.formed.image (λ o there. (fits homes g k.heap.formed k.heap.house).placed o there)
    (λ o there has. one-window p (window_of o.place) window.Image (page-in homes g k.heap.formed k.heap.house (lists_of s.regions) k.heap.space k.heap.stands.packed p o there has) is) in
    let end : image_fill g ≡ 0 + total (λ o. image_size g.classes o o.place) g.objects = omega (arith, fill-is g) in
    k.heap.pages.pages window.Image p is
    ∙ sym (ap (λ b. holds_first window.Image b p) end ∙ all ∙ ap (λ b. b || list_any (has_bytes_in g.classes table p) g.objects) (none-first p))
