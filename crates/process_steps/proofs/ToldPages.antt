-- The counts of pages that a process tells are those of its part.
use Rattle.std.proofs.Common.{◌≡◌, ◌∙◌, ℕ, ◌+◌, ◌-◌, ◌<◌, ◌≤◌, Bool, true, false, not, ◌&&◌, List, [], ◌∷◌, ◌++◌, Option, None, Some, length, length-append, filter, map, nat_eq, nat_lt, count_by, refl, sym, ap, subst, arith, true≢false}
use Rattle.std.specs.Prelude.{nat_le, is_some}
use Rattle.std.specs.List.{flat_map, list_any}
use Rattle.std.proofs.lemmas.Bool.{and_from, and_parts, eq-eqb, leb-true, lt-ltb, ltb-true}
use Rattle.std.proofs.lemmas.List.{length-map}
use Rattle.std.proofs.lemmas.List.Sums.{sum_by-cons}
use Rattle.model_numbers.specs.Numbers.{page_bytes}
use Rattle.class_layout.specs.ClassList.{Class}
use Rattle.class_layout.specs.Placing.{IsIn}
use Rattle.page_tables.specs.declared.address.Window.{Window}
use Rattle.page_tables.specs.declared.address.Window.TheVariants as window
use Rattle.page_tables.specs.Address.{first_page, is_in, page_count, page_of}
use Rattle.cow_pages.specs.Memory.{flag_of, is_written, mapped_in, page_at, written_in, Memory, Page}
use Rattle.cow_pages.specs.View.{numbers_from}
use Rattle.cow_pages.proofs.LawLemmas.{counts}
use Rattle.heap_graph.specs.declared.names.Place.{Place}
use Rattle.heap_graph.specs.declared.names.Place.TheVariants as place
use Rattle.heap_graph.specs.Graph.{image_fill, is_immune, zygote_fill, Graph, Object}
use Rattle.heap_graph.specs.Sizes.{parts_for, unrounded}
use Rattle.heap_world.specs.declared.names.PageName.{PageName}
use Rattle.heap_world.specs.declared.names.PageName.TheVariants.{Image, Zygote, Large}
use Rattle.heap_world.specs.declared.reply.Reply.TheVariants as reply
use Rattle.heap_world.specs.Acts.{page_counts}
use Rattle.heap_world.specs.Pages.{count_from, image_pages, is_image_page, is_large_page, is_zygote_page, large_pages, pages_if_promoted, promoted_pages, zygote_pages}
use Rattle.heap_world.specs.Part.{Part}
use Rattle.heap_world.proofs.Bounds.{length-count, length-large}
use Rattle.world_laws.specs.Named.{has_page, has_slot, is_paged, is_promoted, is_waiting, stands}
use Rattle.image_space.specs.Space.{pages_up_to}
use Rattle.page_runs.proofs.LawLemmas.{run-counted}
use Rattle.page_runs.specs.Runs.{HasRun}
use Rattle.address_table.specs.Computed.{large_behind, Homes}
use Rattle.region_space.specs.Space.{lists_of}
use Rattle.large_objects.specs.declared.rows.LargeRow.{LargeRow}
use Rattle.large_objects.specs.Pages.{holds_page, page_sum, HasPages}
use Rattle.large_objects.specs.Rows as large
use Rattle.large_objects.specs.Rows.{slot_base}
use Rattle.large_objects.proofs.LawLemmas.{rows-counted, rows-written}
use Rattle.graph_pages.specs.Pages.{page_named}
use Rattle.graph_pages.proofs.Lists.{any-from, any-to, filter-in, in-filter}
use Rattle.evacuate.specs.Stands.{homes_in, row_of, rows_from, with_row}
use Rattle.evacuate.proofs.Pages.{in-window, large-pages}
use Rattle.evacuate.proofs.Rows.{object-there}
use Rattle.zygote_compact.proofs.Spots.{pages-up-to}
use Rattle.process_state.specs.Stands.{StandsIn}
use Rattle.process_state.specs.State.{addresses_in, heap_of, State}
use Rattle.process_state.proofs.Pages.{promoted-slot, row-of-page, window_named}
use Rattle.process_steps.specs.Counting.{counted_pages, touched_if}
use Rattle.process_steps.proofs.ImagePages.{image-up-to}
use Rattle.process_steps.proofs.PageCounts.{are, touched-count, StandsAt}

-- a page whose flag is set is mapped
written-mapped : (o : Option Page) → flag_of o ≡ true → is_some o ≡ true
written-mapped None h = absurd (true≢false (sym h))
written-mapped (Some page) h = refl

-- what stands in a slot is promoted, or it waits
slot-promoted : (at : Place) → has_slot at ≡ true → is_immune true at ≡ true → is_promoted at ≡ true
slot-promoted (place.Image spot) slot e = absurd (true≢false (sym slot))
slot-promoted (place.Zygote spot) slot e = absurd (true≢false (sym slot))
slot-promoted place.Young slot e = absurd (true≢false (sym slot))
slot-promoted place.Large slot e = absurd (true≢false (sym e))
slot-promoted place.Promoted slot e = refl

slot-waiting : (at : Place) → has_slot at ≡ true → is_immune true at ≡ false → is_waiting at ≡ true
slot-waiting (place.Image spot) slot e = absurd (true≢false (sym slot))
slot-waiting (place.Zygote spot) slot e = absurd (true≢false (sym slot))
slot-waiting place.Young slot e = absurd (true≢false (sym slot))
slot-waiting place.Large slot e = refl
slot-waiting place.Promoted slot e = absurd (true≢false e)

promoted-immune : (at : Place) → is_promoted at ≡ true → is_immune true at ≡ true
promoted-immune (place.Image spot) e = absurd (true≢false (sym e))
promoted-immune (place.Zygote spot) e = absurd (true≢false (sym e))
promoted-immune place.Young e = absurd (true≢false (sym e))
promoted-immune place.Large e = absurd (true≢false (sym e))
promoted-immune place.Promoted e = refl

not-true : (b : Bool) → not b ≡ true → b ≡ false
not-true true e = absurd (true≢false (sym e))
not-true false e = refl

-- of the rows' pages those of promoted ones are as many as their names
page-sums : (cs : List Class) (slots : List ℕ) (k : ℕ) (os : List Object)
    → page_sum (rows_from cs slots k os) ≡ page_sum (filter large.waits (rows_from cs slots k os)) + length (flat_map (λ o. pages_if_promoted cs o o.place) os)
page-sums cs slots k [] = refl
page-sums cs slots k (o ∷ os) = by o.place (λ n. page-sums cs slots n os)
  where
    rest : List PageName
    rest = flat_map (λ x. pages_if_promoted cs x x.place) os

    one : (row : LargeRow) (rows : List LargeRow) → page_sum (row ∷ rows) ≡ pages_up_to row.bytes + page_sum rows
    one row rows = sum_by-cons (λ (n : ℕ). n) (pages_up_to row.bytes) (map (λ (it : LargeRow). pages_up_to it.bytes) rows)

    by : (at : Place) → ((n : ℕ) → page_sum (rows_from cs slots n os) ≡ page_sum (filter large.waits (rows_from cs slots n os)) + length rest)
        → page_sum (with_row cs slots k o at (rows_from cs slots (large_behind k at) os))
        ≡ page_sum (filter large.waits (with_row cs slots k o at (rows_from cs slots (large_behind k at) os))) + length (pages_if_promoted cs o at ++ rest)
    by (place.Image spot) is = is k
    by (place.Zygote spot) is = is k
    by place.Young is = is k
    by place.Large is =
        let rows : List LargeRow = rows_from cs slots (k + 1) os in
        omega (arith, is (k + 1), one (row_of cs slots k o false) rows, one (row_of cs slots k o false) (filter large.waits rows))
    by place.Promoted is =
        let rows : List LargeRow = rows_from cs slots (k + 1) os in
        omega (arith, is (k + 1), one (row_of cs slots k o true) rows, length-append (large_pages cs o) rest, length-large cs o)

-- of the flags that are set those of promoted objects' pages are left over
left-over : {sum promoted mapped set given here touched : ℕ} (waiting : ℕ) → sum ≡ waiting + promoted → mapped ≡ sum → set ≡ waiting + here → given ≡ promoted → here ≡ touched
    → set - (mapped - given) ≡ touched
left-over waiting rows all flags known these = omega (arith, rows, all, flags, known, these)

module _ (s : State) (m : Memory) (p : Part) (k : StandsIn s m p) where
  abbrev g : Graph
  g = p.graph

  abbrev homes : Homes
  homes = homes_in s.regions.in_use s.rows

  abbrev table : ℕ → ℕ
  table = addresses_in s p.graph

  -- MAPPED PAGES

  image-mapped : mapped_in m s.page_table window.Image ≡ length (image_pages g)
  image-mapped =
      run-counted m s.page_table window.Image (first_page window.Image) (pages_up_to (image_fill g)) k.heap.sound (image-up-to s m p k) (omega arith) (omega (arith, k.heap.formed.image_fits))
      ∙ sym (length-map (count_from 0 (parts_for page_bytes (image_fill g))) Image ∙ length-count 0 (parts_for page_bytes (image_fill g)))

  zygote-mapped : mapped_in m s.page_table window.Zygote ≡ length (zygote_pages g)
  zygote-mapped =
      run-counted m s.page_table window.Zygote (first_page window.Zygote) (pages_up_to (zygote_fill g)) k.heap.sound (pages-up-to (heap_of s []) m s.page_table g k.heap) (omega arith) (omega (arith, k.heap.formed.zygote_fits))
      ∙ sym (length-map (count_from 0 (parts_for page_bytes (zygote_fill g))) Zygote ∙ length-count 0 (parts_for page_bytes (zygote_fill g)))

  -- WRITTEN PAGES OF THE IMAGE AND OF THE ZYGOTE WINDOW

  -- a written page of a run lies in it
  in-run : (w : Window) (n q : ℕ) → HasRun m s.page_table w (first_page w) n → is_in w q ≡ true → is_written m s.page_table q ≡ true → q < first_page w + n
  in-run w n q run is written =
      ltb-true _ _ (and_parts (nat_le (first_page w) q) (nat_lt q (first_page w + n)) (sym (run q is) ∙ written-mapped (page_at m s.page_table q) written)).1

  image-written : g.sealed ≡ true → written_in m s.page_table window.Image ≡ count_by is_image_page p.touched
  image-written sealed =
      (counts m s.page_table window.Image k.heap.sound).written
      ∙ touched-count s m p k sealed window.Image is_image_page of (is_written m s.page_table) into (λ x sel here written. written)
    where
      of : (x : PageName) → is_image_page x ≡ true → window_named x ≡ window.Image
      of (Image n) e = refl
      of (Zygote n) e = absurd (true≢false (sym e))
      of (Large o n) e = absurd (true≢false (sym e))

      into : (q : ℕ) → is_in window.Image q ≡ true → is_written m s.page_table q ≡ true → StandsAt s m p k is_image_page q
      into q is written =
          let low = (in-window window.Image q is).low in
          let high = in-run window.Image (pages_up_to (image_fill g)) q (image-up-to s m p k) is written in
          record { name = Image (q - first_page window.Image); is = refl; here = lt-ltb _ _ (omega (arith, low, high)); at = omega (arith, low); written = written }

  zygote-written : g.sealed ≡ true → written_in m s.page_table window.Zygote ≡ count_by is_zygote_page p.touched
  zygote-written sealed =
      (counts m s.page_table window.Zygote k.heap.sound).written
      ∙ touched-count s m p k sealed window.Zygote is_zygote_page of (is_written m s.page_table) into (λ x sel here written. written)
    where
      of : (x : PageName) → is_zygote_page x ≡ true → window_named x ≡ window.Zygote
      of (Image n) e = absurd (true≢false (sym e))
      of (Zygote n) e = refl
      of (Large o n) e = absurd (true≢false (sym e))

      into : (q : ℕ) → is_in window.Zygote q ≡ true → is_written m s.page_table q ≡ true → StandsAt s m p k is_zygote_page q
      into q is written =
          let low = (in-window window.Zygote q is).low in
          let high = in-run window.Zygote (pages_up_to (zygote_fill g)) q (pages-up-to (heap_of s []) m s.page_table g k.heap) is written in
          record { name = Zygote (q - first_page window.Zygote); is = refl; here = lt-ltb _ _ (omega (arith, low, high)); at = omega (arith, low); written = written }

  -- LARGE OBJECTS

  -- the name of a page of a row
  record NameOf (row : LargeRow) (q : ℕ) : Type 0 where
    pub object : Object
    pub has : has_slot object.place ≡ true
    pub promoted : is_immune true object.place ≡ row.promoted
    pub page : ℕ
    pub at : page_of (addresses_in s p.graph object.number) + page ≡ q
    pub paged : (test : Place → Bool) → test object.place ≡ true → is_paged test p.graph.classes p.graph.objects object.number page ≡ true

  name-of : (row : LargeRow) (q : ℕ) → IsIn row s.rows → holds_page q row ≡ true → NameOf row q
  name-of row q there holds =
      let it = object-there g.classes homes 0 g.next 0 0 g.objects k.heap.formed.numbers row (subst (IsIn row) k.heap.stands.rows there) in
      let o : Object = it.object in
      let address : table o.number ≡ slot_base row.slot = it.at_is ∙ ap (λ (r : LargeRow). slot_base r.slot) it.row_is in
      let bytes : unrounded g.classes o.shape ≡ row.bytes = ap (λ (r : LargeRow). r.bytes) it.row_is in
      let parts = and_parts (nat_le (page_of (slot_base row.slot)) q) (nat_lt q (page_of (slot_base row.slot) + pages_up_to row.bytes)) holds in
      let low : page_of (table o.number) ≤ q = omega (arith, address, leb-true _ _ parts.0) in
      let page : ℕ = q - page_of (table o.number) in
      let count : ℕ = parts_for page_bytes (unrounded g.classes o.shape) in
      let high : page < count = omega (arith, low, address, bytes, ltb-true _ _ parts.1) in
      record {
        object = o;
        has = it.has;
        promoted = ap (λ (r : LargeRow). r.promoted) it.row_is;
        page = page;
        at = omega (arith, low);
        paged = λ test here. any-to (has_page test g.classes o.number page) g.objects o it.is_in
            (and_from (nat_eq o.number o.number) (test o.place && nat_lt page count) (eq-eqb o.number o.number refl) (and_from (test o.place) (nat_lt page count) here (lt-ltb page count high)));
      }

  large-held : HasPages m s.page_table s.rows
  large-held q is =
      k.heap.pages.pages window.Large q is ∙ sym (large-pages homes g k.heap.formed k.heap.house (lists_of s.regions) k.heap.space k.heap.stands.packed q is)
      ∙ ap (list_any (holds_page q)) (sym k.heap.stands.rows)

  -- the pages of objects that wait have their flags set
  waiting-written : (q : ℕ) → list_any (holds_page q) (filter large.waits s.rows) ≡ true → is_written m s.page_table q ≡ true
  waiting-written q e =
      let it = any-from (holds_page q) (filter large.waits s.rows) e in
      let from = in-filter large.waits s.rows it.0 it.1 in
      let name = name-of it.0 q from.0 it.2 in
      let waits : is_waiting name.object.place ≡ true = slot-waiting name.object.place name.has (name.promoted ∙ not-true it.0.promoted from.1) in
      sym (ap (is_written m s.page_table) name.at) ∙ k.flags.waiting (Large name.object.number name.page) (name.paged is_waiting waits)

  abbrev promoted_rows : List LargeRow
  promoted_rows = filter (λ (row : LargeRow). row.promoted) s.rows

  -- the flags of promoted objects' pages
  promoted-written : g.sealed ≡ true
      → count_by (λ q. is_written m s.page_table q && list_any (holds_page q) promoted_rows) (numbers_from (first_page window.Large) (page_count window.Large)) ≡ count_by is_large_page p.touched
  promoted-written sealed = touched-count s m p k sealed window.Large is_large_page of (λ q. is_written m s.page_table q && list_any (holds_page q) promoted_rows) into back
    where
      of : (x : PageName) → is_large_page x ≡ true → window_named x ≡ window.Large
      of (Image n) e = absurd (true≢false (sym e))
      of (Zygote n) e = absurd (true≢false (sym e))
      of (Large o n) e = refl

      into : (q : ℕ) → is_in window.Large q ≡ true → (is_written m s.page_table q && list_any (holds_page q) promoted_rows) ≡ true → StandsAt s m p k is_large_page q
      into q is e =
          let parts = and_parts (is_written m s.page_table q) (list_any (holds_page q) promoted_rows) e in
          let it = any-from (holds_page q) promoted_rows parts.1 in
          let from = in-filter (λ (row : LargeRow). row.promoted) s.rows it.0 it.1 in
          let name = name-of it.0 q from.0 it.2 in
          record {
            name = Large name.object.number name.page;
            is = refl;
            here = name.paged is_promoted (slot-promoted name.object.place name.has (name.promoted ∙ from.1));
            at = name.at;
            written = parts.0;
          }

      back : (x : PageName) → is_large_page x ≡ true → stands g x ≡ true → is_written m s.page_table (page_named table x) ≡ true
          → (is_written m s.page_table (page_named table x) && list_any (holds_page (page_named table x)) promoted_rows) ≡ true
      back (Image n) sel here written = absurd (true≢false (sym sel))
      back (Zygote n) sel here written = absurd (true≢false (sym sel))
      back (Large o n) sel here written =
          let it = row-of-page (heap_of s []) m s.page_table g k.heap is_promoted promoted-slot o n here in
          and_from (is_written m s.page_table (page_of (table o) + n)) (list_any (holds_page (page_of (table o) + n)) promoted_rows) written
          (any-to (holds_page (page_of (table o) + n)) promoted_rows it.row
          (filter-in (λ (row : LargeRow). row.promoted) s.rows it.row it.is_in (it.promoted ∙ promoted-immune it.at it.here)) it.holds)

  large-written : g.sealed ≡ true
      → written_in m s.page_table window.Large - (mapped_in m s.page_table window.Large - s.promoted_pages) ≡ count_by is_large_page p.touched
  large-written sealed =
      let rows : page_sum s.rows ≡ page_sum (filter large.waits s.rows) + length (promoted_pages g) =
      subst (λ (rs : List LargeRow). page_sum rs ≡ page_sum (filter large.waits rs) + length (promoted_pages g)) (sym k.heap.stands.rows) (page-sums g.classes homes.slots 0 g.objects) in
      left-over (page_sum (filter large.waits s.rows)) rows
      (rows-counted m s.page_table s.rows k.heap.sound (are s m p k) large-held)
      (rows-written m s.page_table s.rows k.heap.sound (are s m p k) large-held waiting-written)
      k.counts.promoted (promoted-written sealed)

  -- before the seal no page is touched
  touched-is : (n : ℕ) (sel : PageName → Bool) → (g.sealed ≡ true → n ≡ count_by sel p.touched) → touched_if s.sealed n ≡ count_by sel p.touched
  touched-is n sel is = by s.sealed (sym k.counts.is_sealed)
    where
      by : (b : Bool) → g.sealed ≡ b → touched_if b n ≡ count_by sel p.touched
      by true e = is e
      by false e = sym (ap (count_by sel) (k.part.before_seal e))

  pub pages-told : counted_pages s m ≡ page_counts p
  pages-told =
      told image-mapped (touched-is (written_in m s.page_table window.Image) is_image_page image-written) zygote-mapped
      (touched-is (written_in m s.page_table window.Zygote) is_zygote_page zygote-written) k.counts.promoted
      (touched-is (written_in m s.page_table window.Large - (mapped_in m s.page_table window.Large - s.promoted_pages)) is_large_page large-written)
    where
      told : {a b c d e f : ℕ} {u v w x y z : ℕ} → a ≡ u → b ≡ v → c ≡ w → d ≡ x → e ≡ y → f ≡ z → reply.Pages a b c d e f ≡ reply.Pages u v w x y z
      told one two three four five six = cc
