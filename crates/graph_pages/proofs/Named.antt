-- The pages of page names.
use Rattle.std.proofs.Common.{◌≡◌, ◌∙◌, ℕ, ◌+◌, ◌-◌, ◌*◌, ◌<◌, ◌≤◌, true, List, [], ◌∷◌, refl, sym, ap, subst, inl, inr, arith, true≢false}
use Rattle.std.specs.Prelude.{nat_eq, nat_lt, ◌&&◌}
use Rattle.std.proofs.lemmas.Bool.{and_from, and_parts, cases_lt, eqb-true, le-leb, lt-ltb, ltb-true}
use Rattle.model_numbers.specs.Numbers.{page_bytes, zygote_base}
use Rattle.class_layout.specs.ClassList.{Class}
use Rattle.class_layout.specs.Placing.{IsIn}
use Rattle.page_tables.specs.declared.address.Window.{Window}
use Rattle.page_tables.specs.declared.address.Window.TheVariants as window
use Rattle.page_tables.specs.Address.{first_page, is_in, page_count, page_of}
use Rattle.cow_pages.specs.Memory.{is_mapped, Memory}
use Rattle.heap_graph.specs.declared.names.Place.{Place}
use Rattle.heap_graph.specs.declared.names.Place.TheVariants as place
use Rattle.heap_graph.specs.Graph.{Graph, Object, image_fill, image_size, zygote_fill}
use Rattle.heap_graph.specs.Sizes.{parts_for, size_in, unrounded}
use Rattle.heap_graph.specs.Table.{IsPlacedAt, IsSlot}
use Rattle.heap_graph.proofs.Sizes.{not-large}
use Rattle.heap_graph.proofs.Totals.{total}
use Rattle.heap_world.specs.declared.names.PageName.{PageName}
use Rattle.heap_world.specs.declared.names.PageName.TheVariants.{Image, Zygote, Large}
use Rattle.heap_graph.specs.Formed.{FillImage, FillZygote, IsBehindImage, IsBehindZygote, IsFormed, zygote_next}
use Rattle.heap_world.proofs.Placed.{fill-is, top-is, zygote_top}
use Rattle.object_view.proofs.Laid.{size-bounds}
use Rattle.address_table.specs.Computed.{table_of, Homes, HouseAll}
use Rattle.address_table.proofs.Beside.{not-too-large, shape-in}
use Rattle.address_table.proofs.Fitting.{fits}
use Rattle.world_laws.specs.Named.{has_page, has_slot, is_named}
use Rattle.graph_pages.specs.Pages.{has_bytes_in, page_named, PagesHold}
use Rattle.graph_pages.proofs.Lists.{any-from, any-to}
use Rattle.graph_pages.proofs.Paged.{bytes-in}

-- an object of the list has a byte in the page, and stands at a spot
abbrev Covered : List Class → (ℕ → Place) → ℕ → List Object → Type 0
Covered cs at page os = (o : Object) × IsIn o os × (spot : ℕ) × (o.place ≡ at spot) × (i : ℕ) × (i < size_in cs o.shape) × (page_of (spot + i) ≡ page)

later : (cs : List Class) (at : ℕ → Place) (page : ℕ) (o : Object) (os : List Object) → Covered cs at page os → Covered cs at page (o ∷ os)
later cs at page o os it = (it.0, inr it.1, it.2, it.3, it.4, it.5, it.6)

module _ (cs : List Class) (k : ℕ) where
  -- each page of the image's bytes has a byte of an object
  cover-image : (bytes : ℕ) (os : List Object) → FillImage cs bytes os → parts_for page_bytes bytes ≤ k → k < parts_for page_bytes (bytes + total (λ o. image_size cs o o.place) os)
      → Covered cs (λ spot. place.Image spot) (first_page window.Image + k) os
  cover-image bytes [] h low high = absurd (omega (arith, low, high))
  cover-image bytes (o ∷ os) h low high = by o.place refl h.0 h.1 high (λ b rest lo hi. cover-image b os rest lo hi)
    where
      by : (at : Place) → o.place ≡ at → IsBehindImage bytes at → FillImage cs (bytes + image_size cs o at) os → k < parts_for page_bytes (bytes + (image_size cs o at + total (λ o. image_size cs o o.place) os))
          → ((b : ℕ) → FillImage cs b os → parts_for page_bytes b ≤ k → k < parts_for page_bytes (b + total (λ o. image_size cs o o.place) os) → Covered cs (λ spot. place.Image spot) (first_page window.Image + k) os)
          → Covered cs (λ spot. place.Image spot) (first_page window.Image + k) (o ∷ os)
      by (place.Image spot) e behind rest high next = elim (cases_lt k (parts_for page_bytes (bytes + size_in cs o.shape))) [
        | inl lt ↦ (o, inl refl, spot, e, k * 4096 - bytes, omega (arith, low, lt), omega (arith, behind, low, lt))
        | inr ge ↦ later cs _ _ o os (next (bytes + size_in cs o.shape) rest ge (omega (arith, high)))
      ]
      by (place.Zygote spot) e behind rest high next = later cs _ _ o os (next (bytes + 0) rest (omega (arith, low)) (omega (arith, high)))
      by place.Young e behind rest high next = later cs _ _ o os (next (bytes + 0) rest (omega (arith, low)) (omega (arith, high)))
      by place.Large e behind rest high next = later cs _ _ o os (next (bytes + 0) rest (omega (arith, low)) (omega (arith, high)))
      by place.Promoted e behind rest high next = later cs _ _ o os (next (bytes + 0) rest (omega (arith, low)) (omega (arith, high)))

  -- and so has each page of the zygote window's
  cover-zygote : (bytes : ℕ) (os : List Object) → FillZygote cs bytes os → parts_for page_bytes bytes ≤ k → k < parts_for page_bytes (zygote_top cs bytes os)
      → Covered cs (λ spot. place.Zygote spot) (first_page window.Zygote + k) os
  cover-zygote bytes [] h low high = absurd (omega (arith, low, high))
  cover-zygote bytes (o ∷ os) h low high = by o.place refl h.0 h.1 high (λ b rest lo hi. cover-zygote b os rest lo hi)
    where
      by : (at : Place) → o.place ≡ at → IsBehindZygote bytes at → FillZygote cs (zygote_next cs bytes o at) os → k < parts_for page_bytes (zygote_top cs (zygote_next cs bytes o at) os)
          → ((b : ℕ) → FillZygote cs b os → parts_for page_bytes b ≤ k → k < parts_for page_bytes (zygote_top cs b os) → Covered cs (λ spot. place.Zygote spot) (first_page window.Zygote + k) os)
          → Covered cs (λ spot. place.Zygote spot) (first_page window.Zygote + k) (o ∷ os)
      by (place.Zygote spot) e behind rest high next = elim (cases_lt k (parts_for page_bytes (spot + size_in cs o.shape - zygote_base))) [
        | inl lt ↦ elim behind [
          | inl at ↦ (o, inl refl, spot, e, k * 4096 - (spot - zygote_base), omega (arith, low, lt, at), omega (arith, low, lt, at))
          | inr at ↦ (o, inl refl, spot, e, k * 4096 - (spot - zygote_base), omega (arith, low, lt, at), omega (arith, low, lt, at))
        ]
        | inr ge ↦ later cs _ _ o os (next (spot + size_in cs o.shape - zygote_base) rest ge high)
      ]
      by (place.Image spot) e behind rest high next = later cs _ _ o os (next bytes rest low high)
      by place.Young e behind rest high next = later cs _ _ o os (next bytes rest low high)
      by place.Large e behind rest high next = later cs _ _ o os (next bytes rest low high)
      by place.Promoted e behind rest high next = later cs _ _ o os (next bytes rest low high)

-- an object of a slot of its own stands in one
slotted : (at : Place) (address : ℕ) → has_slot at ≡ true → IsPlacedAt at address → IsSlot address
slotted (place.Image spot) address is h = absurd (true≢false (sym is))
slotted (place.Zygote spot) address is h = absurd (true≢false (sym is))
slotted place.Young address is h = absurd (true≢false (sym is))
slotted place.Large address is h = h
slotted place.Promoted address is h = h

module _ (homes : Homes) (g : Graph) (formed : IsFormed g) (house : HouseAll homes g) where
  abbrev table : ℕ → ℕ
  table = table_of homes g

  -- a page of a large object
  record Slotted (n k : ℕ) : Type 0 where
    pub object : Object
    pub is_in : IsIn object g.objects
    pub number_is : object.number ≡ n
    pub slot : ℕ
    pub few : slot < 512
    pub at_is : table n ≡ 0x80000000 + slot * 1048576
    pub below : k < parts_for page_bytes (unrounded g.classes object.shape)
    pub small : k < 256

  slot-page : (n k : ℕ) → is_named g (Large n k) ≡ true → Slotted n k
  slot-page n k is =
      let it = any-from (has_page has_slot g.classes n k) g.objects is in
      let o : Object = it.0 in
      let one = and_parts (nat_eq o.number n) (has_slot o.place && nat_lt k (parts_for page_bytes (unrounded g.classes o.shape))) it.2 in
      let two = and_parts (has_slot o.place) (nat_lt k (parts_for page_bytes (unrounded g.classes o.shape))) one.1 in
      let number : o.number ≡ n = eqb-true o.number n one.0 in
      let slot = slotted o.place (table o.number) two.0 ((fits homes g formed house).placed o it.1) in
      let below : k < parts_for page_bytes (unrounded g.classes o.shape) = ltb-true _ _ two.1 in
      let bytes = not-large g.classes o.shape (not-too-large g.classes o.shape (shape-in g.classes g.objects o it.1 formed.objects)) in
      record {
        object = o;
        is_in = it.1;
        number_is = number;
        slot = slot.0;
        few = slot.1;
        at_is = ap table (sym number) ∙ slot.2;
        below = below;
        small = omega (arith, below, bytes);
      }

  image-few : (k : ℕ) → is_named g (Image k) ≡ true → k < 16384
  image-few k is = let lt : k < parts_for page_bytes (image_fill g) = ltb-true _ _ is in omega (arith, lt, formed.image_fits)

  zygote-few : (k : ℕ) → is_named g (Zygote k) ≡ true → k < 65536
  zygote-few k is = let lt : k < parts_for page_bytes (zygote_fill g) = ltb-true _ _ is in omega (arith, lt, formed.zygote_fits)

  -- two pages of large objects
  large-differ : (m j n k : ℕ) → Slotted m j → Slotted n k → page_of (table m) + j ≡ page_of (table n) + k → Large m j ≡ Large n k
  large-differ m j n k one two e =
      let pages : one.slot * 256 + j ≡ two.slot * 256 + k = omega (arith, e, one.at_is, two.at_is) in
      let slots : one.slot ≡ two.slot = omega (arith, pages, one.small, two.small) in
      let same : one.object ≡ two.object = (fits homes g formed house).apart one.object two.object one.is_in two.is_in
      (ap table one.number_is ∙ one.at_is ∙ ap (λ s. 0x80000000 + s * 1048576) slots ∙ sym two.at_is ∙ ap table (sym two.number_is)) in
      let numbers : m ≡ n = sym one.number_is ∙ ap (λ (o : Object). o.number) same ∙ two.number_is in
      ap (λ x. Large x j) numbers ∙ ap (λ x. Large n x) (omega (arith, pages, slots))

  -- different names have different pages
  pub names-differ : (a b : PageName) → is_named g a ≡ true → is_named g b ≡ true → page_named table a ≡ page_named table b → a ≡ b
  names-differ (Image j) (Image k) x y e = ap (λ n. Image n) (omega (arith, e))
  names-differ (Image j) (Zygote k) x y e = absurd (omega (arith, e, image-few j x))
  names-differ (Image j) (Large n k) x y e = absurd (let it = slot-page n k y in omega (arith, e, image-few j x, it.at_is))
  names-differ (Zygote j) (Image k) x y e = absurd (omega (arith, e, image-few k y))
  names-differ (Zygote j) (Zygote k) x y e = ap (λ n. Zygote n) (omega (arith, e))
  names-differ (Zygote j) (Large n k) x y e = absurd (let it = slot-page n k y in omega (arith, e, zygote-few j x, it.at_is))
  names-differ (Large m j) (Image k) x y e = absurd (let it = slot-page m j x in omega (arith, e, image-few k y, it.at_is))
  names-differ (Large m j) (Zygote k) x y e = absurd (let it = slot-page m j x in omega (arith, e, zygote-few k y, it.at_is))
  names-differ (Large m j) (Large n k) x y e = large-differ m j n k (slot-page m j x) (slot-page n k y) e

  -- a page in which an object has a byte is mapped
  object-mapped : (m : Memory) (t : ℕ) (w : Window) (p i : ℕ) (o : Object) → PagesHold m t homes g → IsIn o g.objects → i < size_in g.classes o.shape → page_of (table o.number + i) ≡ p → is_in w p ≡ true → is_mapped m t p ≡ true
  object-mapped m t w p i o h there lt is inside =
      h.pages w p inside ∙ any-to (has_bytes_in g.classes table p) g.objects o there ((bytes-in g.classes table p o).1 (i, lt, is))

  in-window : (w : Window) (p : ℕ) → first_page w ≤ p → p < first_page w + page_count w → is_in w p ≡ true
  in-window w p low high = and_from _ _ (le-leb (first_page w) p low) (lt-ltb p (first_page w + page_count w) high)

  -- the page of each name is mapped
  pub names-mapped : (m : Memory) (t : ℕ) (a : PageName) → PagesHold m t homes g → is_named g a ≡ true → is_mapped m t (page_named table a) ≡ true
  names-mapped m t (Image k) h is =
      let lt : k < parts_for page_bytes (image_fill g) = ltb-true _ _ is in
      let it = cover-image g.classes k 0 g.objects formed.image (omega arith) (omega (arith, lt, fill-is g)) in
      let placed : table it.0.number ≡ it.2 = subst (λ at. IsPlacedAt at (table it.0.number)) it.3 ((fits homes g formed house).placed it.0 it.1) in
      object-mapped m t window.Image (first_page window.Image + k) it.4 it.0 h it.1 it.5 (ap (λ a. page_of (a + it.4)) placed ∙ it.6) (in-window window.Image (first_page window.Image + k) (omega arith) (let few = image-few k is in omega (arith, few)))
  names-mapped m t (Zygote k) h is =
      let lt : k < parts_for page_bytes (zygote_fill g) = ltb-true _ _ is in
      let it = cover-zygote g.classes k 0 g.objects formed.zygote (omega arith) (omega (arith, lt, top-is g.classes g.objects formed.zygote)) in
      let placed : table it.0.number ≡ it.2 = subst (λ at. IsPlacedAt at (table it.0.number)) it.3 ((fits homes g formed house).placed it.0 it.1) in
      object-mapped m t window.Zygote (first_page window.Zygote + k) it.4 it.0 h it.1 it.5 (ap (λ a. page_of (a + it.4)) placed ∙ it.6) (in-window window.Zygote (first_page window.Zygote + k) (omega arith) (let few = zygote-few k is in omega (arith, few)))
  names-mapped m t (Large n k) h is =
      let it = slot-page n k is in
      let bounds = size-bounds g.classes it.object.shape in
      object-mapped m t window.Large (page_of (table n) + k) (k * 4096) it.object h it.is_in (omega (arith, it.below, bounds.1)) (ap (λ a. page_of (table a + k * 4096)) it.number_is ∙ omega arith)
      (in-window window.Large (page_of (table n) + k) (omega (arith, it.at_is)) (omega (arith, it.at_is, it.few, it.small)))
