-- Where the pages lie that have names: each in its window, and those that stand in no slot of an object that waits.
use Rattle.std.proofs.Common.{◌≡◌, ◌≢◌, ◌∙◌, ℕ, ◌+◌, ◌<◌, ◌≤◌, Bool, true, false, not, ◌&&◌, Some, filter, nat_eq, nat_lt, refl, sym, ap, subst, arith, true≢false}
use Rattle.std.specs.Prelude.{nat_le}
use Rattle.std.specs.List.{list_any}
use Rattle.std.proofs.lemmas.Bool.{and_from, and_parts, eqb-true, false_from_ne_true, le-leb, leb-true, lt-ltb, ltb-true}
use Rattle.std.proofs.lemmas.List.Elements.{All-contains}
use Rattle.std.proofs.lemmas.Option.{same_Some}
use Rattle.model_numbers.specs.Numbers.{image_length, large_slot_bytes, page_bytes, zygote_length}
use Rattle.class_layout.specs.Placing.{IsIn}
use Rattle.page_tables.specs.declared.address.Window.{Window}
use Rattle.page_tables.specs.declared.address.Window.TheVariants as window
use Rattle.page_tables.specs.Address.{is_in, page_of}
use Rattle.cow_pages.specs.Memory.{is_mapped, Memory}
use Rattle.heap_graph.specs.declared.names.Place.{Place}
use Rattle.heap_graph.specs.declared.names.Place.TheVariants as place
use Rattle.heap_graph.specs.Graph.{image_fill, is_immune, zygote_fill, Graph, Object}
use Rattle.heap_graph.specs.Sizes.{parts_for, unrounded}
use Rattle.heap_world.specs.declared.names.PageName.{PageName}
use Rattle.heap_world.specs.declared.names.PageName.TheVariants.{Image, Zygote, Large}
use Rattle.world_laws.specs.Named.{has_page, has_slot, is_named, is_paged, is_promoted, is_waiting, stands}
use Rattle.image_space.specs.Space.{pages_up_to}
use Rattle.address_table.specs.Computed.{table_of, Homes}
use Rattle.region_space.specs.Space.{lists_of}
use Rattle.large_objects.specs.declared.rows.LargeRow.{LargeRow}
use Rattle.large_objects.specs.Pages.{holds_page}
use Rattle.large_objects.specs.Rows.{row_at, slot_base, waits, AreRows, IsBytes}
use Rattle.large_objects.proofs.LawLemmas.{row-of}
use Rattle.large_objects.proofs.PageLemmas.{any-in-window}
use Rattle.graph_pages.specs.Pages.{page_named}
use Rattle.graph_pages.proofs.Lists.{any-from, any-to, in-filter}
use Rattle.object_collection.specs.Collects.{HeapState}
use Rattle.evacuate.specs.Stands.{homes_of, row_of, HoldsHeap}
use Rattle.evacuate.proofs.Members.{in-contains}
use Rattle.evacuate.proofs.Pages.{large-pages, one-window, window-in}
use Rattle.evacuate.proofs.Rows.{row-there}
use Rattle.evacuate.proofs.Stand.{are-rows}

-- a page of one window lies in no other
pub apart-window : (w v : Window) (q : ℕ) → w ≢ v → is_in w q ≡ true → is_in v q ≡ false
apart-window w v q apart is = false_from_ne_true (is_in v q) (λ other. apart (one-window q w v is other))

pub promoted-slot : (at : Place) → is_promoted at ≡ true → has_slot at ≡ true
promoted-slot (place.Image spot) e = e
promoted-slot (place.Zygote spot) e = e
promoted-slot place.Young e = e
promoted-slot place.Large e = absurd (true≢false (sym e))
promoted-slot place.Promoted e = refl

pub waiting-slot : (at : Place) → is_waiting at ≡ true → has_slot at ≡ true
waiting-slot (place.Image spot) e = e
waiting-slot (place.Zygote spot) e = e
waiting-slot place.Young e = e
waiting-slot place.Large e = refl
waiting-slot place.Promoted e = absurd (true≢false (sym e))

promoted-immune : (at : Place) → is_promoted at ≡ true → is_immune true at ≡ true
promoted-immune (place.Image spot) e = absurd (true≢false (sym e))
promoted-immune (place.Zygote spot) e = absurd (true≢false (sym e))
promoted-immune place.Young e = absurd (true≢false (sym e))
promoted-immune place.Large e = absurd (true≢false (sym e))
promoted-immune place.Promoted e = refl

-- a page lies in one slot
one-slot : (q : ℕ) (row other : LargeRow) → row.bytes ≤ large_slot_bytes → other.bytes ≤ large_slot_bytes → holds_page q row ≡ true → holds_page q other ≡ true → row.slot ≡ other.slot
one-slot q row other few less one two =
    let here = and_parts (nat_le (page_of (slot_base row.slot)) q) (nat_lt q (page_of (slot_base row.slot) + pages_up_to row.bytes)) one in
    let there = and_parts (nat_le (page_of (slot_base other.slot)) q) (nat_lt q (page_of (slot_base other.slot) + pages_up_to other.bytes)) two in
    omega (arith, leb-true _ _ here.0, ltb-true _ _ here.1, leb-true _ _ there.0, ltb-true _ _ there.1, few, less)

-- the window of a page by its name
abbrev pub window_named : PageName → Window
window_named (Image k) = window.Image
window_named (Zygote k) = window.Zygote
window_named (Large n k) = window.Large

module _ (h : HeapState) (m : Memory) (t : ℕ) (g : Graph) (held : HoldsHeap h m t g) where
  abbrev homes : Homes
  homes = homes_of h

  abbrev table : ℕ → ℕ
  table = table_of (homes_of h) g

  are : AreRows h.rows
  are = subst AreRows (sym held.stands.rows) (are-rows homes g held.formed held.house)

  bytes-of : (row : LargeRow) → IsIn row h.rows → IsBytes row.bytes
  bytes-of row there = All-contains (λ (r : LargeRow). IsBytes r.bytes) h.rows row are.bytes (in-contains h.rows row there)

  -- ROWS

  -- the row of a page's object, which stands in the row's slot
  pub record RowOfPage (test : Place → Bool) (n k : ℕ) : Type 0 where
    pub row : LargeRow
    pub is_in : IsIn row h.rows
    pub number : row.number ≡ n
    pub address : table_of (homes_of h) g n ≡ slot_base row.slot
    pub at : Place
    pub here : test at ≡ true
    pub promoted : row.promoted ≡ is_immune true at
    pub holds : holds_page (page_of (table_of (homes_of h) g n) + k) row ≡ true

  pub row-of-page : (test : Place → Bool) → ((at : Place) → test at ≡ true → has_slot at ≡ true) → (n k : ℕ) → is_paged test g.classes g.objects n k ≡ true → RowOfPage test n k
  row-of-page test slotted n k is =
      let it = any-from (has_page test g.classes n k) g.objects is in
      let x : Object = it.0 in
      let count : ℕ = parts_for page_bytes (unrounded g.classes x.shape) in
      let parts = and_parts (nat_eq x.number n) (test x.place && nat_lt k count) it.2 in
      let inner = and_parts (test x.place) (nat_lt k count) parts.1 in
      let to = row-there g.classes homes 0 g.next 0 0 g.objects held.formed.numbers x it.1 (slotted x.place inner.0) in
      let row : LargeRow = row_of g.classes homes.slots to.index x (is_immune true x.place) in
      let number : x.number ≡ n = eqb-true x.number n parts.0 in
      let address : table n ≡ slot_base row.slot = ap table (sym number) ∙ to.at_is in
      let from : page_of (slot_base row.slot) ≤ page_of (table n) + k = omega (arith, address) in
      let before : page_of (table n) + k < page_of (slot_base row.slot) + pages_up_to row.bytes = omega (arith, address, ltb-true k count inner.1) in
      record {
        row = row;
        is_in = subst (IsIn row) (sym held.stands.rows) to.there;
        number = number;
        address = address;
        at = x.place;
        here = inner.0;
        promoted = refl;
        holds = and_from _ _ (le-leb _ _ from) (lt-ltb _ _ before);
      }

  -- WINDOWS

  pub row-window : (q : ℕ) (row : LargeRow) → IsIn row h.rows → holds_page q row ≡ true → is_in window.Large q ≡ true
  row-window q row there holds = any-in-window q h.rows are.within are.bytes (any-to (holds_page q) h.rows row there holds)

  -- outside the large window no row has a page
  pub none-waits : (q : ℕ) → is_in window.Large q ≡ false → list_any (holds_page q) (filter waits h.rows) ≡ false
  none-waits q off = false_from_ne_true (list_any (holds_page q) (filter waits h.rows)) (λ is.
      let it = any-from (holds_page q) (filter waits h.rows) is in
      true≢false (sym (row-window q it.0 (in-filter waits h.rows it.0 it.1).0 it.2) ∙ off))

  slot-found : (row : LargeRow) → IsIn row h.rows → row_at h.rows (slot_base row.slot) ≡ Some row
  slot-found row there = let c = in-contains h.rows row there in row-of h.rows c.0 row are.apart c.1 c.2

  -- a page of a promoted row is one of no row that waits
  pub promoted-apart : (q : ℕ) (row : LargeRow) → IsIn row h.rows → row.promoted ≡ true → holds_page q row ≡ true → list_any (holds_page q) (filter waits h.rows) ≡ false
  promoted-apart q row there promoted holds = false_from_ne_true (list_any (holds_page q) (filter waits h.rows)) (λ is.
      let it = any-from (holds_page q) (filter waits h.rows) is in
      let other : LargeRow = it.0 in
      let from = in-filter waits h.rows other it.1 in
      let slot : row.slot ≡ other.slot = one-slot q row other (bytes-of row there).most (bytes-of other from.0).most holds it.2 in
      let same : row ≡ other = same_Some row other (sym (slot-found row there) ∙ ap (λ n. row_at h.rows (slot_base n)) slot ∙ slot-found other from.0) in
      true≢false (sym from.1 ∙ ap waits (sym same) ∙ ap not promoted))

  -- NAMES

  module _ (image_fits : image_fill g ≤ image_length) (zygote_fits : zygote_fill g ≤ zygote_length) where
    pub named-window : (a : PageName) → is_named g a ≡ true → is_in (window_named a) (page_named (table_of (homes_of h) g) a) ≡ true
    named-window (Image k) is = window-in window.Image (page_named (table_of (homes_of h) g) (Image k)) (omega arith) (omega (arith, ltb-true k (parts_for page_bytes (image_fill g)) is, image_fits))
    named-window (Zygote k) is = window-in window.Zygote (page_named (table_of (homes_of h) g) (Zygote k)) (omega arith) (omega (arith, ltb-true k (parts_for page_bytes (zygote_fill g)) is, zygote_fits))
    named-window (Large n k) is = let it = row-of-page has_slot (λ at e. e) n k is in row-window _ it.row it.is_in it.holds

    pub named-beside : (a : PageName) → is_named g a ≡ true → is_in window.Regions (page_named (table_of (homes_of h) g) a) ≡ false
    named-beside a is = apart-window (window_named a) window.Regions _ (apart a) (named-window a is)
      where
        apart : (a : PageName) → window_named a ≢ window.Regions
        apart (Image k) e = cc
        apart (Zygote k) e = cc
        apart (Large n k) e = cc

    pub stands-apart : (a : PageName) → stands g a ≡ true → list_any (holds_page (page_named (table_of (homes_of h) g) a)) (filter waits h.rows) ≡ false
    stands-apart (Image k) is = none-waits (page_named table (Image k)) (apart-window window.Image window.Large (page_named table (Image k)) (λ e. cc) (named-window (Image k) is))
    stands-apart (Zygote k) is = none-waits (page_named table (Zygote k)) (apart-window window.Zygote window.Large (page_named table (Zygote k)) (λ e. cc) (named-window (Zygote k) is))
    stands-apart (Large n k) is =
        let it = row-of-page is_promoted promoted-slot n k is in promoted-apart _ it.row it.is_in (it.promoted ∙ promoted-immune it.at it.here) it.holds

  -- a page of an object in a slot is mapped
  pub slot-mapped : (n k : ℕ) → is_paged has_slot g.classes g.objects n k ≡ true → is_mapped m t (page_of (table_of (homes_of h) g n) + k) ≡ true
  slot-mapped n k is =
      let it = row-of-page has_slot (λ at e. e) n k is in
      let q : ℕ = page_of (table n) + k in
      let inside = row-window q it.row it.is_in it.holds in
      held.pages.pages window.Large q inside ∙ sym (large-pages homes g held.formed held.house (lists_of h.regions) held.space held.stands.packed q inside)
      ∙ ap (list_any (holds_page q)) (sym held.stands.rows) ∙ any-to (holds_page q) h.rows it.row it.is_in it.holds
