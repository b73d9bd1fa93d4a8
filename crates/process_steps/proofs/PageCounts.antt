-- The pages of a window that pass a test are as many as the touched names of the window, where the test is that one has the page.
use Rattle.std.proofs.Common.{◌≡◌, ◌∙◌, ℕ, ◌+◌, ◌<◌, ◌≤◌, Bool, true, List, [], Some, filter, nat_eq, nat_lt, count_by, sym, ap, subst, arith}
use Rattle.std.specs.Prelude.{nat_le}
use Rattle.std.proofs.lemmas.Bool.{and_parts, eq-eqb, eqb-true, leb-true, ltb-true, or_left}
use Rattle.std.proofs.lemmas.List.Elements.{All-contains}
use Rattle.std.proofs.lemmas.List.Sums.{length-filter}
use Rattle.std.proofs.lemmas.Option.{same_Some}
use Rattle.model_numbers.specs.Numbers.{large_slot_bytes}
use Rattle.class_layout.specs.Placing.{IsIn}
use Rattle.page_tables.specs.declared.address.Window.{Window}
use Rattle.page_tables.specs.Address.{first_page, is_in, page_count, page_of}
use Rattle.cow_pages.specs.Memory.{is_written, Memory}
use Rattle.cow_pages.specs.View.{numbers_from}
use Rattle.cow_pages.proofs.LawLemmas.{count-same}
use Rattle.heap_graph.specs.Graph.{Graph}
use Rattle.heap_world.specs.declared.names.PageName.{PageName}
use Rattle.heap_world.specs.declared.names.PageName.TheVariants.{Image, Zygote, Large}
use Rattle.heap_world.specs.Pages.{is_touched, same_page, standing_pages}
use Rattle.heap_world.specs.Part.{Part}
use Rattle.heap_world.proofs.FormedValues.{distinct-filter}
use Rattle.world_laws.specs.Named.{has_slot, is_named, stands, waits}
use Rattle.world_laws.proofs.StandingLists.{named_both, standing_lists}
use Rattle.address_table.proofs.Beside.{all-in}
use Rattle.image_space.specs.Space.{pages_up_to}
use Rattle.large_objects.specs.declared.rows.LargeRow.{LargeRow}
use Rattle.large_objects.specs.Pages.{holds_page}
use Rattle.large_objects.specs.Rows.{row_at, slot_base, AreRows, IsBytes}
use Rattle.large_objects.proofs.LawLemmas.{row-of}
use Rattle.graph_pages.specs.Pages.{page_named}
use Rattle.graph_pages.proofs.Lists.{any-from, any-to, filter-in, in-filter}
use Rattle.evacuate.specs.Stands.{homes_in}
use Rattle.evacuate.proofs.Left.{same-bool}
use Rattle.evacuate.proofs.Members.{in-contains}
use Rattle.evacuate.proofs.Pages.{in-window, window-in}
use Rattle.evacuate.proofs.Stand.{are-rows}
use Rattle.process_state.specs.Stands.{StandsIn}
use Rattle.process_state.specs.State.{addresses_in, heap_of, State}
use Rattle.process_state.proofs.Pages.{named-window, row-of-page, window_named}
use Rattle.process_steps.proofs.NamedPages.{count-names, in-touched, is_page_of, touched-in}

-- a page lies in one slot
one-slot : (q : ℕ) (row other : LargeRow) → row.bytes ≤ large_slot_bytes → other.bytes ≤ large_slot_bytes → holds_page q row ≡ true → holds_page q other ≡ true → row.slot ≡ other.slot
one-slot q row other few less one two =
    let here = and_parts (nat_le (page_of (slot_base row.slot)) q) (nat_lt q (page_of (slot_base row.slot) + pages_up_to row.bytes)) one in
    let there = and_parts (nat_le (page_of (slot_base other.slot)) q) (nat_lt q (page_of (slot_base other.slot) + pages_up_to other.bytes)) two in
    omega (arith, leb-true _ _ here.0, ltb-true _ _ here.1, leb-true _ _ there.0, ltb-true _ _ there.1, few, less)

module _ (s : State) (m : Memory) (p : Part) (k : StandsIn s m p) where
  abbrev g : Graph
  g = p.graph

  abbrev table : ℕ → ℕ
  table = addresses_in s p.graph

  pub are : AreRows s.rows
  are = subst AreRows (sym k.heap.stands.rows) (are-rows (homes_in s.regions.in_use s.rows) g k.heap.formed k.heap.house)

  slot-found : (row : LargeRow) → IsIn row s.rows → row_at s.rows (slot_base row.slot) ≡ Some row
  slot-found row there = let c = in-contains s.rows row there in row-of s.rows c.0 row are.apart c.1 c.2

  bytes-of : (row : LargeRow) → IsIn row s.rows → IsBytes row.bytes
  bytes-of row there = All-contains (λ (r : LargeRow). IsBytes r.bytes) s.rows row are.bytes (in-contains s.rows row there)

  -- a page has one name in its window
  named-apart : (x y : PageName) → is_named g x ≡ true → is_named g y ≡ true → window_named x ≡ window_named y → page_named table x ≡ page_named table y → x ≡ y
  named-apart (Image i) (Image j) one two w e = ap Image (omega (arith, e))
  named-apart (Image i) (Zygote j) one two w e = cc
  named-apart (Image i) (Large n j) one two w e = cc
  named-apart (Zygote i) (Image j) one two w e = cc
  named-apart (Zygote i) (Zygote j) one two w e = ap Zygote (omega (arith, e))
  named-apart (Zygote i) (Large n j) one two w e = cc
  named-apart (Large n i) (Image j) one two w e = cc
  named-apart (Large n i) (Zygote j) one two w e = cc
  named-apart (Large n i) (Large o j) one two w e =
      let here = row-of-page (heap_of s []) m s.page_table g k.heap has_slot (λ at e. e) n i one in
      let there = row-of-page (heap_of s []) m s.page_table g k.heap has_slot (λ at e. e) o j two in
      let slot : here.row.slot ≡ there.row.slot =
      one-slot (page_of (table n) + i) here.row there.row (bytes-of here.row here.is_in).most (bytes-of there.row there.is_in).most here.holds (subst (λ q. holds_page q there.row ≡ true) (sym e) there.holds) in
      let same : here.row ≡ there.row =
      same_Some here.row there.row (sym (slot-found here.row here.is_in) ∙ ap (λ b. row_at s.rows (slot_base b)) slot ∙ slot-found there.row there.is_in) in
      let number : n ≡ o = sym here.number ∙ ap (λ (r : LargeRow). r.number) same ∙ there.number in
      let offset : i ≡ j = omega (arith, e, ap table number) in
      ap (λ a. Large a i) number ∙ ap (Large o) offset

  -- a touched page stands
  stands-touched : (x : PageName) → IsIn x p.touched → stands g x ≡ true
  stands-touched x there = sym (standing_lists g x) ∙ all-in (λ page. is_touched (standing_pages g) page ≡ true) p.touched x there k.part.touched_stand

  -- a page with a name that stands, whose flag is set
  pub record StandsAt (sel : PageName → Bool) (q : ℕ) : Type 0 where
    pub name : PageName
    pub is : sel name ≡ true
    pub here : stands p.graph name ≡ true
    pub at : page_named (addresses_in s p.graph) name ≡ q
    pub written : is_written m s.page_table q ≡ true

  -- so the pages that pass a test are as many as the touched names of the window, if the test is that such a name has the page
  module _ (sealed : p.graph.sealed ≡ true) (w : Window) (sel : PageName → Bool) (of : (x : PageName) → sel x ≡ true → window_named x ≡ w) (f : ℕ → Bool) where
    abbrev names : List PageName
    names = filter sel p.touched

    named-in : (x : PageName) → IsIn x names → is_named g x ≡ true
    named-in x there = named_both g x ∙ or_left (stands g x) (waits g x) (stands-touched x (in-filter sel p.touched x there).0)

    window-of : (x : PageName) → IsIn x names → window_named x ≡ w
    window-of x there = of x (in-filter sel p.touched x there).1

    within : (x : PageName) → IsIn x names → (first_page w ≤ page_named table x) × (page_named table x < first_page w + page_count w)
    within x there =
        let it = in-window w (page_named table x) (subst (λ v. is_in v (page_named table x) ≡ true) (window-of x there)
        (named-window (heap_of s []) m s.page_table g k.heap k.heap.formed.image_fits k.heap.formed.zygote_fits x (named-in x there))) in
        (it.low, it.high)

    pub touched-count : ((q : ℕ) → is_in w q ≡ true → f q ≡ true → StandsAt sel q)
        → ((x : PageName) → sel x ≡ true → stands p.graph x ≡ true → is_written m s.page_table (page_named (addresses_in s p.graph) x) ≡ true → f (page_named (addresses_in s p.graph) x) ≡ true)
        → count_by f (numbers_from (first_page w) (page_count w)) ≡ count_by sel p.touched
    touched-count into back =
        count-same (is_page_of table names) f (first_page w) (page_count w) (λ q low high. same-bool (f q) (is_page_of table names q) (to q low high) (from q))
        ∙ count-names table (first_page w) (page_count w) names (distinct-filter same_page sel p.touched k.part.touched_once) within
        (λ x y x_in y_in e. named-apart x y (named-in x x_in) (named-in y y_in) (window-of x x_in ∙ sym (window-of y y_in)) e)
        ∙ length-filter sel p.touched
      where
        to : (q : ℕ) → first_page w ≤ q → q < first_page w + page_count w → f q ≡ true → is_page_of table names q ≡ true
        to q low high e =
            let it = into q (window-in w q low high) e in
            let touched : is_touched p.touched it.name ≡ true = sym (k.flags.touched it.name sealed it.here) ∙ ap (is_written m s.page_table) it.at ∙ it.written in
            any-to (λ (a : PageName). nat_eq q (page_named table a)) names it.name (filter-in sel p.touched it.name (touched-in p.touched it.name touched) it.is) (eq-eqb q (page_named table it.name) (sym it.at))

        from : (q : ℕ) → is_page_of table names q ≡ true → f q ≡ true
        from q e =
            let it = any-from (λ (a : PageName). nat_eq q (page_named table a)) names e in
            let x : PageName = it.0 in
            let there = in-filter sel p.touched x it.1 in
            let here = stands-touched x there.0 in
            let written : is_written m s.page_table (page_named table x) ≡ true = k.flags.touched x sealed here ∙ in-touched p.touched x there.0 in
            subst (λ n. f n ≡ true) (sym (eqb-true q (page_named table x) it.2)) (back x there.1 here written)
