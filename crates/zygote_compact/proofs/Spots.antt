-- The spots of a graph: the pages that have bytes of its objects in the zygote window, and the spots after steps.
use Rattle.std.proofs.Common.{◌≡◌, ◌∙◌, ◌⊎◌, ℕ, ◌+◌, ◌-◌, ◌*◌, ◌/◌, ◌<◌, ◌≤◌, Bool, true, false, cond, List, [], ◌∷◌, map, filter, refl, sym, ap, inl, inr, arith, true≢false}
use Rattle.std.specs.Prelude.{nat_le, nat_lt, ◌||◌}
use Rattle.std.specs.List.{list_any}
use Rattle.std.proofs.lemmas.Bool.{and_from, and_parts, cases_Bool, le-leb, leb-true, lt-ltb, ltb-false, ltb-true, or_left, or_right}
use Rattle.class_layout.specs.ClassList.{Class}
use Rattle.class_layout.specs.Placing.{IsIn}
use Rattle.page_tables.specs.declared.address.Window.TheVariants as window
use Rattle.page_tables.specs.Address.{first_page, is_in, page_of}
use Rattle.cow_pages.specs.Memory.{Memory}
use Rattle.heap_graph.specs.declared.names.Place.{Place}
use Rattle.heap_graph.specs.declared.names.Place.TheVariants as place
use Rattle.heap_graph.specs.Collection.{cleared, collect}
use Rattle.heap_graph.specs.Formed.{FillZygote, IsBehindZygote, IsFormed, is_in_image, zygote_next}
use Rattle.heap_graph.specs.Graph.{greatest, is_immune, size_of_object, zygote_end, zygote_fill, Graph, Object}
use Rattle.heap_graph.specs.Paths.{numbers}
use Rattle.heap_graph.specs.Reach.{is_among, reached}
use Rattle.heap_graph.specs.Table.{IsPlacedAt}
use Rattle.heap_graph.proofs.Sizes.{size-least}
use Rattle.heap_world.proofs.Placed.{top-is, zygote_top}
use Rattle.image_space.specs.Space.{holds_first, pages_up_to}
use Rattle.address_table.specs.Computed.{table_of}
use Rattle.address_table.proofs.Beside.{all-in}
use Rattle.address_table.proofs.Fitting.{fits}
use Rattle.mark_bitmap.specs.Marks.{is_marked}
use Rattle.region_space.specs.Space.{lists_of}
use Rattle.zygote_space.specs.Space as zygote
use Rattle.zygote_space.specs.Space.{HasPagesUpTo}
use Rattle.graph_pages.specs.Collected.{keeps}
use Rattle.graph_pages.specs.Pages.{has_bytes_in}
use Rattle.graph_pages.proofs.Lists.{in-filter, in-map}
use Rattle.world_laws.proofs.Named.{fills-collect}
use Rattle.object_collection.specs.Collects.{HeapState}
use Rattle.evacuate.specs.Stands.{homes_of, HasSealed, HoldsHeap}
use Rattle.evacuate.proofs.Left.{same-bool}
use Rattle.evacuate.proofs.Pages.{in-window, one-window, page-in, window_of}
use Rattle.zygote_compact.specs.Spots.{is_spot, HasSpots}

-- PAGES

-- a page of the window holds some of so many bytes
low-holds : (bytes p : ℕ) → p < 196608 + pages_up_to bytes → is_in window.Zygote p ≡ true → holds_first window.Zygote bytes p ≡ true
low-holds bytes p low is = and_from (nat_le (first_page window.Zygote) p) (nat_lt p (first_page window.Zygote + pages_up_to bytes)) (le-leb _ _ (in-window window.Zygote p is).low) (lt-ltb _ _ low)

holds-low : (bytes p : ℕ) → holds_first window.Zygote bytes p ≡ true → p < 196608 + pages_up_to bytes
holds-low bytes p holds = ltb-true _ _ (and_parts (nat_le (first_page window.Zygote) p) (nat_lt p (first_page window.Zygote + pages_up_to bytes)) holds).1

not-both : (b c : Bool) → (c ≡ true → ⊥) → (b || c) ≡ b
not-both true c not = refl
not-both false true not = absurd (not refl)
not-both false false not = refl

regroup : (a b c : Bool) → ((a || b) || c) ≡ (a || (b || c))
regroup true b c = refl
regroup false b c = refl

module _ (cs : List Class) (table : ℕ → ℕ) (p : ℕ) (is : is_in window.Zygote p ≡ true) where
  -- an object that stands behind so many bytes, or on the next page, has bytes in exactly the pages that it adds
  spot-pages : (bytes spot : ℕ) (o : Object) → (spot ≡ 0x30000000 + bytes) ⊎ (spot ≡ 0x30000000 + (bytes + 4095) / 4096 * 4096) → table o.number ≡ spot
      → holds_first window.Zygote (spot + size_of_object cs o - 0x30000000) p ≡ (holds_first window.Zygote bytes p || has_bytes_in cs table p o)
  spot-pages bytes spot o behind at = same-bool _ _ there back
    where
      size : ℕ
      size = size_of_object cs o

      low_spot : 0x30000000 + bytes ≤ spot
      low_spot = elim behind [ inl e ↦ omega (arith, e) | inr e ↦ omega (arith, e) ]

      page_spot : spot / 4096 ≤ 196608 + (bytes + 4095) / 4096
      page_spot = elim behind [ inl e ↦ omega (arith, e) | inr e ↦ omega (arith, e) ]

      there : holds_first window.Zygote (spot + size_of_object cs o - 0x30000000) p ≡ true → (holds_first window.Zygote bytes p || has_bytes_in cs table p o) ≡ true
      there e = elim (cases_Bool (nat_lt p (196608 + (bytes + 4095) / 4096))) [
        | inl low ↦ or_left _ _ (low-holds bytes p (ltb-true _ _ low) is)
        | inr high ↦
            let behind_it : 196608 + (bytes + 4095) / 4096 ≤ p = omega (arith, ltb-false _ _ high) in
            let below = holds-low (spot + size - 0x30000000) p e in
            or_right (holds_first window.Zygote bytes p) _
            (and_from (nat_le (page_of (table o.number)) p) (nat_le p (page_of (table o.number + size - 1))) (le-leb _ _ (omega (arith, at, page_spot, behind_it)))
            (le-leb _ _ (omega (arith, at, below, low_spot, size-least cs o))))
      ]

      back : (holds_first window.Zygote bytes p || has_bytes_in cs table p o) ≡ true → holds_first window.Zygote (spot + size_of_object cs o - 0x30000000) p ≡ true
      back e = elim (cases_Bool (holds_first window.Zygote bytes p)) [
        | inl holds ↦ low-holds (spot + size - 0x30000000) p (omega (arith, holds-low bytes p holds, low_spot, size-least cs o)) is
        | inr off ↦
            let has : has_bytes_in cs table p o ≡ true = sym (ap (λ b. b || has_bytes_in cs table p o) off) ∙ e in
            let parts = and_parts (nat_le (page_of (table o.number)) p) (nat_le p (page_of (table o.number + size - 1))) has in
            low-holds (spot + size - 0x30000000) p (omega (arith, at, leb-true _ _ parts.1, low_spot, size-least cs o)) is
      ]

  -- the objects have bytes in exactly the pages up to their end
  pub fill-pages : (bytes : ℕ) (os : List Object) → FillZygote cs bytes os → ((o : Object) → IsIn o os → IsPlacedAt o.place (table o.number))
      → ((o : Object) → IsIn o os → has_bytes_in cs table p o ≡ true → window_of o.place ≡ window.Zygote)
      → holds_first window.Zygote (zygote_top cs bytes os) p ≡ (holds_first window.Zygote bytes p || list_any (has_bytes_in cs table p) os)
  fill-pages bytes [] fill placed here = sym (not-both (holds_first window.Zygote bytes p) false (λ e. true≢false (sym e)))
  fill-pages bytes (x ∷ os) fill placed here =
      by x.place fill.0 (placed x (inl refl)) (here x (inl refl)) (fill-pages (zygote_next cs bytes x x.place) os fill.1 (λ o there. placed o (inr there)) (λ o there. here o (inr there)))
    where
      any : Bool
      any = list_any (has_bytes_in cs table p) os

      outside : (has_bytes_in cs table p x ≡ true → ⊥) → holds_first window.Zygote (zygote_top cs bytes os) p ≡ (holds_first window.Zygote bytes p || any)
          → holds_first window.Zygote (zygote_top cs bytes os) p ≡ (holds_first window.Zygote bytes p || (has_bytes_in cs table p x || any))
      outside not rest = rest ∙ ap (λ b. b || any) (sym (not-both (holds_first window.Zygote bytes p) (has_bytes_in cs table p x) not)) ∙ regroup _ _ any

      by : (at : Place) → IsBehindZygote bytes at → IsPlacedAt at (table x.number) → (has_bytes_in cs table p x ≡ true → window_of at ≡ window.Zygote)
          → holds_first window.Zygote (zygote_top cs (zygote_next cs bytes x at) os) p ≡ (holds_first window.Zygote (zygote_next cs bytes x at) p || any)
          → holds_first window.Zygote (zygote_top cs (zygote_next cs bytes x at) os) p ≡ (holds_first window.Zygote bytes p || (has_bytes_in cs table p x || any))
      by (place.Image spot) behind at off rest = outside (λ e. let no = off e in cc) rest
      by place.Young behind at off rest = outside (λ e. let no = off e in cc) rest
      by place.Large behind at off rest = outside (λ e. let no = off e in cc) rest
      by place.Promoted behind at off rest = outside (λ e. let no = off e in cc) rest
      by (place.Zygote spot) behind at off rest = rest ∙ ap (λ b. b || any) (spot-pages bytes spot x behind at) ∙ regroup _ _ any

pub none-first : (p : ℕ) → holds_first window.Zygote 0 p ≡ false
none-first p = elim (cases_Bool (holds_first window.Zygote 0 p)) [
  | inl e ↦
      let parts = and_parts (nat_le (first_page window.Zygote) p) (nat_lt p (first_page window.Zygote + pages_up_to 0)) e in
      absurd (omega (arith, leb-true _ _ parts.0, ltb-true _ _ parts.1))
  | inr e ↦ e
]

module _ (h : HeapState) (m : Memory) (t : ℕ) (g : Graph) (k : HoldsHeap h m t g) where
  -- the zygote window's pages are those up to the graph's fill
  pub pages-up-to : HasPagesUpTo m t (zygote_fill g)
  pages-up-to p is =
      let table : ℕ → ℕ = table_of (homes_of h) g in
      let all = fill-pages g.classes table p is 0 g.objects k.formed.zygote (λ o there. (fits (homes_of h) g k.formed k.house).placed o there)
      (λ o there has. one-window p (window_of o.place) window.Zygote (page-in (homes_of h) g k.formed k.house (lists_of h.regions) k.space k.stands.packed p o there has) is) in
      k.pages.pages window.Zygote p is
      ∙ sym (ap (λ b. holds_first window.Zygote b p) (sym (top-is g.classes g.objects k.formed.zygote)) ∙ all ∙ ap (λ b. b || list_any (has_bytes_in g.classes table p) g.objects) (none-first p))

-- AFTER STEPS

-- what passes stays where it is kept
spots-kept : (q : ℕ) (keep : Object → Bool) (ks : List ℕ) (os : List Object) → ((o : Object) → is_spot q o.place ≡ true → keep o ≡ true)
    → list_any (λ (o : Object). is_spot q o.place) (map (cleared ks) (filter keep os)) ≡ list_any (λ (o : Object). is_spot q o.place) os
spots-kept q keep ks [] all = refl
spots-kept q keep ks (x ∷ os) all = by (keep x) refl (is_spot q x.place) refl (spots-kept q keep ks os all)
  where
    by : (b : Bool) → keep x ≡ b → (c : Bool) → is_spot q x.place ≡ c → list_any (λ (o : Object). is_spot q o.place) (map (cleared ks) (filter keep os)) ≡ list_any (λ (o : Object). is_spot q o.place) os
        → list_any (λ (o : Object). is_spot q o.place) (map (cleared ks) (cond b (x ∷ filter keep os) (filter keep os))) ≡ (is_spot q x.place || list_any (λ (o : Object). is_spot q o.place) os)
    by true is c spot rest = ap (λ b. is_spot q x.place || b) rest
    by false is true spot rest = absurd (true≢false (sym (all x spot) ∙ is))
    by false is false spot rest = rest ∙ ap (λ b. b || list_any (λ (o : Object). is_spot q o.place) os) (sym spot)

spot-immune : (q : ℕ) (sealed : Bool) (at : Place) → is_spot q at ≡ true → is_immune sealed at ≡ true
spot-immune q sealed (place.Image spot) e = absurd (true≢false (sym e))
spot-immune q sealed (place.Zygote spot) e = refl
spot-immune q sealed place.Young e = absurd (true≢false (sym e))
spot-immune q sealed place.Large e = absurd (true≢false (sym e))
spot-immune q sealed place.Promoted e = absurd (true≢false (sym e))

image-spot : (q : ℕ) (at : Place) → is_in_image at ≡ true → is_spot q at ≡ false
image-spot q (place.Image spot) e = refl
image-spot q (place.Zygote spot) e = absurd (true≢false (sym e))
image-spot q place.Young e = refl
image-spot q place.Large e = refl
image-spot q place.Promoted e = refl

image-end : (cs : List Class) (o : Object) (at : Place) → is_in_image at ≡ true → zygote_end cs o at ≡ 0
image-end cs o (place.Image spot) e = refl
image-end cs o (place.Zygote spot) e = absurd (true≢false (sym e))
image-end cs o place.Young e = refl
image-end cs o place.Large e = refl
image-end cs o place.Promoted e = refl

none-spot : (q : ℕ) (os : List Object) → ((o : Object) → IsIn o os → is_in_image o.place ≡ true) → list_any (λ (o : Object). is_spot q o.place) os ≡ false
none-spot q [] all = refl
none-spot q (x ∷ os) all = ap (λ b. b || list_any (λ (o : Object). is_spot q o.place) os) (image-spot q x.place (all x (inl refl))) ∙ none-spot q os (λ o there. all o (inr there))

none-end : (cs : List Class) (os : List Object) → ((o : Object) → IsIn o os → is_in_image o.place ≡ true) → greatest (map (λ (o : Object). zygote_end cs o o.place) os) ≡ 0
none-end cs [] all = refl
none-end cs (x ∷ os) all = omega (arith, image-end cs x x.place (all x (inl refl)), none-end cs os (λ o there. all o (inr there)))

-- a collection leaves where they end; before the seal there are none
collected-fill : (g : Graph) → IsFormed g → zygote_fill (collect g) ≡ zygote_fill g
collected-fill g formed = elim (cases_Bool g.sealed) [
  | inl e ↦ (fills-collect g e formed).1
  | inr e ↦
      let all : (o : Object) → IsIn o g.objects → is_in_image o.place ≡ true = λ o there. all-in (λ o. is_in_image o.place ≡ true) g.objects o there (formed.before_seal e) in
      let kept : List ℕ = numbers (filter (keeps g) g.objects) in
      none-end g.classes (map (cleared kept) (filter (keeps g) g.objects)) (λ q there.
      let it = in-map (cleared kept) (filter (keeps g) g.objects) q there in
      ap (λ (o : Object). is_in_image o.place) (sym it.2) ∙ all it.0 (in-filter (keeps g) g.objects it.0 it.1).0)
      ∙ sym (none-end g.classes g.objects all)
]

pub collected-spots : (h : HeapState) (m : Memory) (t : ℕ) (g : Graph) (s : zygote.Space) → HoldsHeap h m t g → HasSpots s g → HasSpots s (collect g)
collected-spots h m t g s k has = record {
  closed = has.closed;
  fill = has.fill ∙ sym (collected-fill g k.formed);
  starts = λ q. has.starts q
      ∙ sym (spots-kept q (keeps g) (numbers (filter (keeps g) g.objects)) g.objects (λ o spot. or_left (is_immune g.sealed o.place) (is_among (reached g) o.number) (spot-immune q g.sealed o.place spot)));
}

pub sealed-spots : (h : HeapState) (m : Memory) (t : ℕ) (g : Graph) (s : zygote.Space) → HasSealed h m t g → s.fill ≡ 0 → ((q : ℕ) → is_marked s.starts q ≡ false) → (s.fill ≡ zygote_fill g) × ((q : ℕ) → is_marked s.starts q ≡ list_any (λ (o : Object). is_spot q o.place) g.objects)
sealed-spots h m t g s sealed fill starts = (fill ∙ sym (none-end g.classes g.objects sealed.in_image), λ q. starts q ∙ sym (none-spot q g.objects sealed.in_image))
