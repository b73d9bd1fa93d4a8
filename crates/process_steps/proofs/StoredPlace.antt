-- Where a slot of an object lies: its page, the name of that page, and its card.
use Rattle.std.proofs.Common.{◌≡◌, ◌≢◌, ◌∙◌, ℕ, ◌+◌, ◌-◌, ◌/◌, ◌<◌, true, false, cond, not, List, [], ◌∷◌, Some, filter, nat_eq, refl, sym, ap, subst, inl, inr, arith, true≢false}
use Rattle.std.specs.List.{find, AllByRecursion}
use Rattle.std.proofs.lemmas.Option.{none-some, same_Some}
use Rattle.world_laws.specs.Named as named
use Rattle.page_tables.specs.declared.address.Window.{Window}
use Rattle.region_space.specs.Space.{lists_of}
use Rattle.graph_pages.proofs.Paged.{bytes-in}
use Rattle.std.proofs.lemmas.Bool.{cases_Bool, eq-eqb, ne_eqb, or_left}
use Rattle.model_numbers.specs.Numbers.{card_bytes, image_base, page_bytes, zygote_base}
use Rattle.card_table.specs.CardSet.{card_of}
use Rattle.class_layout.specs.declared.kind.FieldAt.{FieldAt}
use Rattle.class_layout.specs.Placing.{IsIn}
use Rattle.page_tables.specs.declared.address.Window.TheVariants as window
use Rattle.page_tables.specs.Address.{is_in, page_of}
use Rattle.cow_pages.specs.Memory.{Memory}
use Rattle.heap_graph.specs.declared.names.Place.{Place}
use Rattle.heap_graph.specs.declared.names.Place.TheVariants as place
use Rattle.heap_graph.specs.Formed.{is_in_image, AreRising, HasSlot, IsFormed}
use Rattle.heap_graph.specs.Graph.{is_immune, object_at, Graph, Object}
use Rattle.heap_graph.specs.Sizes.{parts_for, size_in, unrounded}
use Rattle.heap_graph.proofs.Places.{bytes-low}
use Rattle.heap_world.specs.declared.names.Card.{Card}
use Rattle.heap_world.specs.declared.names.Card.TheVariants as card
use Rattle.heap_world.specs.declared.names.PageName.{PageName}
use Rattle.heap_world.specs.declared.names.PageName.TheVariants.{Image, Zygote, Large}
use Rattle.heap_world.specs.Cards.{cards_in}
use Rattle.heap_world.specs.Pages.{page_in}
use Rattle.heap_world.specs.Part.{Part}
use Rattle.heap_world.proofs.Standing as standing
use Rattle.world_laws.specs.Named.{is_waiting, stands}
use Rattle.world_laws.proofs.Behaving.{has_own}
use Rattle.world_laws.proofs.StandingLists.{named_both, standing_lists}
use Rattle.world_laws.proofs.StandingObjects.{all_in, object_stands}
use Rattle.object_view.proofs.Laid.{size-bounds}
use Rattle.address_table.specs.Computed.{Homes}
use Rattle.address_table.proofs.Behind.{rising-in}
use Rattle.large_objects.specs.Pages.{holds_page}
use Rattle.large_objects.specs.Rows.{waits}
use Rattle.graph_pages.specs.Pages.{page_named}
use Rattle.graph_pages.proofs.Lists.{any-to, filter-in}
use Rattle.evacuate.specs.Stands.{homes_in}
use Rattle.evacuate.proofs.Pages.{one-window, page-in, window_of}
use Rattle.evacuate.proofs.Stand.{stand, Stand}
use Rattle.process_state.specs.Stands.{StandsIn}
use Rattle.process_state.specs.State.{addresses_in, heap_of, State}
use Rattle.process_state.proofs.Pages.{named-beside, row-of-page, stands-apart, waiting-slot}

-- an object is found by its number
found-from : (low next : ℕ) (os : List Object) (q : Object) → AreRising low next os → IsIn q os → find (λ (x : Object). nat_eq x.number q.number) os ≡ Some q
found-from low next [] q rising none = absurd none
found-from low next (x ∷ os) q rising (inl e) =
    subst (λ (y : Object). find (λ (x : Object). nat_eq x.number y.number) (x ∷ os) ≡ Some y) e
    (ap (λ b. cond b (Some x) (find (λ (y : Object). nat_eq y.number x.number) os)) (eq-eqb x.number x.number refl))
found-from low next (x ∷ os) q rising (inr later) =
    let above = rising-in (x.number + 1) next os q rising.1 later in
    ap (λ b. cond b (Some x) (find (λ (y : Object). nat_eq y.number q.number) os)) (ne_eqb x.number q.number (λ e. omega (arith, above, e)))
    ∙ found-from (x.number + 1) next os q rising.1 later

pub found-at : (g : Graph) (o : Object) → IsFormed g → IsIn o g.objects → object_at g o.number ≡ Some o
found-at g o formed there = found-from 0 g.next g.objects o formed.numbers there

module _ (s : State) (m : Memory) (p : Part) (k : StandsIn s m p) (o : Object) (at : FieldAt) (there : IsIn o p.graph.objects) (has : HasSlot p.graph.classes o.shape at) where
  abbrev table : ℕ → ℕ
  table = addresses_in s p.graph

  abbrev homes : Homes
  homes = homes_in s.regions.in_use s.rows

  -- the page and the card of the slot
  abbrev pub slot_page : ℕ
  slot_page = page_of (addresses_in s p.graph o.number + at.offset)

  abbrev pub slot_card : ℕ
  slot_card = card_of (addresses_in s p.graph o.number + at.offset)

  abbrev StandsAt : Place → ℕ → Type 0
  StandsAt q address = Stand (homes_in s.regions.in_use s.rows) p.graph k.heap.formed k.heap.house o q address

  -- the object stands in its window
  here : StandsAt o.place (addresses_in s p.graph o.number)
  here = stand (homes_in s.regions.in_use s.rows) p.graph k.heap.formed k.heap.house o there

  -- it lies in the object
  below : at.offset < unrounded p.graph.classes o.shape
  below =
      let lies = standing.slot-lies p.graph.classes o.shape at has in
      omega (arith, lies.1, bytes-low at.kind)

  within : at.offset < size_in p.graph.classes o.shape
  within = let size = size-bounds p.graph.classes o.shape in omega (arith, below, size.1)

  -- WINDOWS

  -- its page lies in the window of the object's place
  slot-window : is_in (window_of o.place) slot_page ≡ true
  slot-window =
      page-in homes p.graph k.heap.formed k.heap.house (lists_of s.regions) k.heap.space k.heap.stands.packed slot_page o there
      ((bytes-in p.graph.classes table slot_page o).1 (at.offset, within, refl))

  -- so it isn't one of another window
  off-window : (w : Window) → window_of o.place ≢ w → is_in w slot_page ≡ true → ⊥
  off-window w apart is = apart (one-window slot_page (window_of o.place) w slot-window is)

  -- and then each object stands there
  in-image : p.graph.sealed ≡ false → is_in_image o.place ≡ true
  in-image unsealed = all_in (λ (x : Object). is_in_image x.place ≡ true) p.graph.objects o (k.heap.formed.before_seal unsealed) there

  -- before the seal it is one of the image
  pub unsealed-page : p.graph.sealed ≡ false → is_in window.Image slot_page ≡ true
  unsealed-page unsealed = subst (λ w. is_in w slot_page ≡ true) (by o.place (in-image unsealed)) slot-window
    where
      by : (q : Place) → is_in_image q ≡ true → window_of q ≡ window.Image
      by (place.Image spot) e = refl
      by (place.Zygote spot) e = absurd (true≢false (sym e))
      by place.Young e = absurd (true≢false (sym e))
      by place.Large e = absurd (true≢false (sym e))
      by place.Promoted e = absurd (true≢false (sym e))

  -- and no object is immune
  pub immune-sealed : is_immune p.graph.sealed o.place ≡ true → p.graph.sealed ≡ true
  immune-sealed immune = elim (cases_Bool p.graph.sealed) [
    | inl sealed ↦ sealed
    | inr unsealed ↦ absurd (by o.place (ap (λ b. is_immune b o.place) (sym unsealed) ∙ immune) (in-image unsealed))
  ]
    where
      by : (q : Place) → is_immune false q ≡ true → is_in_image q ≡ true → ⊥
      by (place.Image spot) immune e = true≢false (sym immune)
      by (place.Zygote spot) immune e = true≢false (sym e)
      by place.Young immune e = true≢false (sym e)
      by place.Large immune e = true≢false (sym e)
      by place.Promoted immune e = true≢false (sym e)

  -- NAMES

  -- the name of an immune object's page
  pub record NamedPage : Type 0 where
    pub name : PageName
    pub page : page_in o o.place at.offset ≡ Some name
    pub standing : stands p.graph name ≡ true
    pub at_is : page_named (addresses_in s p.graph) name ≡ slot_page

  -- the page of the name is the slot's
  at-page : (q : Place) (address : ℕ) → address ≡ addresses_in s p.graph o.number → StandsAt q address → (name : PageName) → page_in o q at.offset ≡ Some name
      → page_named (addresses_in s p.graph) name ≡ page_of (address + at.offset)
  at-page (place.Image spot) address e h name is = ap (page_named table) (sym (same_Some (Image ((spot + at.offset - image_base) / page_bytes)) name is)) ∙ omega (arith, h.0, h.1)
  at-page (place.Zygote spot) address e h name is = ap (page_named table) (sym (same_Some (Zygote ((spot + at.offset - zygote_base) / page_bytes)) name is)) ∙ omega (arith, h.0, h.1)
  at-page place.Young address e h name is = absurd (none-some name is)
  at-page place.Large address e (j, h) name is = ap (page_named table) (sym (same_Some (Large o.number (at.offset / page_bytes)) name is)) ∙ omega (arith, h.0, e)
  at-page place.Promoted address e (j, h) name is = ap (page_named table) (sym (same_Some (Large o.number (at.offset / page_bytes)) name is)) ∙ omega (arith, h.0, e)

  -- an immune object's page has a name that stands
  pub named-page : is_immune p.graph.sealed o.place ≡ true → NamedPage
  named-page immune =
      let on = object_stands p.graph o at.offset k.heap.formed there immune below in
      record {
        name = on.0;
        page = on.1;
        standing = sym (standing_lists p.graph on.0) ∙ on.2;
        at_is = at-page o.place (table o.number) refl here on.0 on.1;
      }

  -- what waits isn't immune
  waiting-loose : (q : Place) → is_waiting q ≡ true → is_immune true q ≡ false
  waiting-loose (place.Image spot) e = absurd (true≢false (sym e))
  waiting-loose (place.Zygote spot) e = absurd (true≢false (sym e))
  waiting-loose place.Young e = refl
  waiting-loose place.Large e = refl
  waiting-loose place.Promoted e = absurd (true≢false (sym e))

  -- a page that stands has no byte of a large object that waits
  waiting-page : o.place ≡ place.Large → (a : PageName) → stands p.graph a ≡ true → page_named (addresses_in s p.graph) a ≡ slot_page → ⊥
  waiting-page e a standing same =
      let j : ℕ = at.offset / page_bytes in
      let few : j < parts_for page_bytes (unrounded p.graph.classes o.shape) = omega (arith, below) in
      let it = row-of-page (heap_of s []) m s.page_table p.graph k.heap is_waiting waiting-slot o.number j (has_own is_waiting p.graph.classes p.graph.objects o j there (ap is_waiting e) few) in
      let large : StandsAt place.Large (table o.number) = subst (λ q. StandsAt q (table o.number)) e here in
      let name : page_of (table o.number) + j ≡ slot_page = at-page place.Large (table o.number) refl large (Large o.number j) refl in
      let stays : waits it.row ≡ true = ap not (it.promoted ∙ waiting-loose it.at it.here) in
      let holds : holds_page (page_named table a) it.row ≡ true = ap (λ q. holds_page q it.row) (same ∙ sym name) ∙ it.holds in
      true≢false (sym (any-to (holds_page (page_named table a)) (filter waits s.rows) it.row (filter-in waits s.rows it.row it.is_in stays) holds)
      ∙ stands-apart (heap_of s []) m s.page_table p.graph k.heap k.heap.formed.image_fits k.heap.formed.zygote_fits a standing)

  -- what isn't immune once the process is sealed stands on no page that stands
  pub loose-page : p.graph.sealed ≡ true → is_immune p.graph.sealed o.place ≡ false → (a : PageName) → stands p.graph a ≡ true
      → page_named (addresses_in s p.graph) a ≡ slot_page → ⊥
  loose-page sealed loose a standing same =
      by o.place (sym (ap (λ b. is_immune b o.place) sealed) ∙ loose) slot-window (λ e. waiting-page e a standing same)
    where
      beside : is_in window.Regions slot_page ≡ false
      beside = subst (λ q. is_in window.Regions q ≡ false) same
          (named-beside (heap_of s []) m s.page_table p.graph k.heap k.heap.formed.image_fits k.heap.formed.zygote_fits a
          (named_both p.graph a ∙ or_left (stands p.graph a) (named.waits p.graph a) standing))

      by : (q : Place) → is_immune true q ≡ false → is_in (window_of q) slot_page ≡ true → (q ≡ place.Large → ⊥) → ⊥
      by (place.Image spot) loose is large = true≢false loose
      by (place.Zygote spot) loose is large = true≢false loose
      by place.Young loose is large = true≢false (sym is ∙ beside)
      by place.Large loose is large = large refl
      by place.Promoted loose is large = true≢false loose

  -- CARDS

  -- the slot's card, where it lies in the image or in the zygote window
  pub each-card : (P : Card → Type 0)
      → ((j : ℕ) → is_in window.Image slot_page ≡ true → card_of image_base + j ≡ slot_card → P (card.Image j))
      → ((j : ℕ) → is_in window.Zygote slot_page ≡ true → card_of zygote_base + j ≡ slot_card → P (card.Zygote j))
      → AllByRecursion P (cards_in o.place at.offset)
  each-card P image zygote = by o.place (table o.number) refl here slot-window
    where
      by : (q : Place) (address : ℕ) → address ≡ addresses_in s p.graph o.number → StandsAt q address → is_in (window_of q) slot_page ≡ true
          → AllByRecursion P (cards_in q at.offset)
      by (place.Image spot) address e h is = (image ((spot + at.offset - image_base) / card_bytes) is (omega (arith, h.0, h.1, e)), tt)
      by (place.Zygote spot) address e h is = (zygote ((spot + at.offset - zygote_base) / card_bytes) is (omega (arith, h.0, h.1, e)), tt)
      by place.Young address e h is = tt
      by place.Large address e h is = tt
      by place.Promoted address e h is = tt

  -- in the image it is a card of the image, and in the zygote window one of that
  pub image-card : is_in window.Image slot_page ≡ true
      → (j : ℕ) × (cards_in o.place at.offset ≡ card.Image j ∷ []) × (card_of image_base + j ≡ slot_card)
  image-card is = by o.place (table o.number) refl here (λ apart. off-window window.Image apart is)
    where
      by : (q : Place) (address : ℕ) → address ≡ addresses_in s p.graph o.number → StandsAt q address → (window_of q ≢ window.Image → ⊥)
          → (j : ℕ) × (cards_in q at.offset ≡ card.Image j ∷ []) × (card_of image_base + j ≡ slot_card)
      by (place.Image spot) address e h off = ((spot + at.offset - image_base) / card_bytes, refl, omega (arith, h.0, h.1, e))
      by (place.Zygote spot) address e h off = absurd (off (λ e. cc))
      by place.Young address e h off = absurd (off (λ e. cc))
      by place.Large address e h off = absurd (off (λ e. cc))
      by place.Promoted address e h off = absurd (off (λ e. cc))

  pub zygote-card : is_in window.Zygote slot_page ≡ true
      → (j : ℕ) × (cards_in o.place at.offset ≡ card.Zygote j ∷ []) × (card_of zygote_base + j ≡ slot_card)
  zygote-card is = by o.place (table o.number) refl here (λ apart. off-window window.Zygote apart is)
    where
      by : (q : Place) (address : ℕ) → address ≡ addresses_in s p.graph o.number → StandsAt q address → (window_of q ≢ window.Zygote → ⊥)
          → (j : ℕ) × (cards_in q at.offset ≡ card.Zygote j ∷ []) × (card_of zygote_base + j ≡ slot_card)
      by (place.Zygote spot) address e h off = ((spot + at.offset - zygote_base) / card_bytes, refl, omega (arith, h.0, h.1, e))
      by (place.Image spot) address e h off = absurd (off (λ e. cc))
      by place.Young address e h off = absurd (off (λ e. cc))
      by place.Large address e h off = absurd (off (λ e. cc))
      by place.Promoted address e h off = absurd (off (λ e. cc))

  -- what lies there is immune: in the image once the process is sealed, and in the zygote window
  pub image-immune : p.graph.sealed ≡ true → is_in window.Image slot_page ≡ true → is_immune p.graph.sealed o.place ≡ true
  image-immune sealed is = by o.place (λ apart. off-window window.Image apart is)
    where
      by : (q : Place) → (window_of q ≢ window.Image → ⊥) → is_immune p.graph.sealed q ≡ true
      by (place.Image spot) off = sealed
      by (place.Zygote spot) off = refl
      by place.Young off = absurd (off (λ e. cc))
      by place.Large off = absurd (off (λ e. cc))
      by place.Promoted off = refl

  pub zygote-immune : is_in window.Zygote slot_page ≡ true → is_immune p.graph.sealed o.place ≡ true
  zygote-immune is = by o.place (λ apart. off-window window.Zygote apart is)
    where
      by : (q : Place) → (window_of q ≢ window.Zygote → ⊥) → is_immune p.graph.sealed q ≡ true
      by (place.Zygote spot) off = refl
      by (place.Image spot) off = absurd (off (λ e. cc))
      by place.Young off = absurd (off (λ e. cc))
      by place.Large off = absurd (off (λ e. cc))
      by place.Promoted off = refl
