use Rattle.std.proofs.Common.{◌≡◌, ◌∙◌, ◌+◌, ◌-◌, ◌/◌, ℕ, ap, sym, subst, arith}
use Rattle.cow_pages.specs.Memory.{Memory}
use Rattle.page_runs.specs.Runs.{IsInRun, MapsRun}
use Rattle.page_runs.proofs.RunLemmas.{run-seen}
use Rattle.image_space.specs.Space.{pages_up_to}
use Rattle.region_lists.specs.Rows.{Lists}
use Rattle.region_space.specs.Space.{HasBytesFor, HasPages, base_of, filled, further_from, further_pages, lists_of}
use Rattle.region_space.proofs.ObjectLemmas.{objects-few, objects-more}
use Rattle.region_space.proofs.PageLemmas.{filled-is, from-is, in_some-window, pages-after, run-in_window, run-unmapped, run_from, run_length, space-pages, sum-after}
use Rattle.region_space.proofs.RoomLemmas.{behind, home-most, home-within, room-cases, space-more}
use Rattle.region_space.proofs.space.Regions.place_copy.Goals as goal

-- the run in the code's numbers
run-is : (base mapped after region fill size p : ℕ) → base ≡ base_of region → mapped ≡ pages_up_to fill → after ≡ pages_up_to (fill + size) → IsInRun (base / 4096 + mapped) (after - mapped) p
    → IsInRun (run_from region fill) (run_length fill size) p
run-is base mapped after region fill size p start before behind here = record { from = omega (arith, here.from, start, before); to = omega (arith, here.to, start, before, behind) }

maps-is : (old new : Memory) (t base mapped after region fill size : ℕ) → base ≡ base_of region → mapped ≡ pages_up_to fill → after ≡ pages_up_to (fill + size) → MapsRun old new t (base / 4096 + mapped) (after - mapped)
    → MapsRun old new t (run_from region fill) (run_length fill size)
maps-is old new t base mapped after region fill size start before behind maps =
    let first : base / 4096 + mapped ≡ run_from region fill = omega (arith, start, before) in
    let count : after - mapped ≡ run_length fill size = omega (arith, before, behind) in
    subst (λ (n : ℕ). MapsRun old new t n (run_length fill size)) first (subst (MapsRun old new t (base / 4096 + mapped)) count maps)

pub base_of-base-requires : goal.base_of-base-requires
base_of-base-requires c =
    let s = c.self.inside.lists in
    let row = c.next_row-row.result in
    let is = c.next_row-row.ensures in
    let room = room-cases s.in_use row.region row.fill c.args.size is.spot is.fill in
    omega (arith, home-within s c.next_row-row.new.lists.free row.region row.fill c.args.size c.self.invariant.0 is.free room, c.self.invariant.0.few)

pub map_reserved-requires-clause-window : goal.map_reserved-requires-clause-window
map_reserved-requires-clause-window c = λ p in_run.
    let s = c.self.inside.lists in
    let row = c.next_row-row.result in
    let is = c.next_row-row.ensures in
    let room = room-cases s.in_use row.region row.fill c.args.size is.spot is.fill in
    let within = home-within s c.next_row-row.new.lists.free row.region row.fill c.args.size c.self.invariant.0 is.free room in
    in_some-window p
    (run-in_window row.region row.fill c.args.size p (omega (arith, within, c.self.invariant.0.few)) (home-most s.in_use row.region row.fill c.args.size c.requires.size room)
    (run-is c.base_of-base.result c.pages_up_to-mapped.result c.pages_up_to.result row.region row.fill c.args.size p c.base_of-base.ensures c.pages_up_to-mapped.ensures c.pages_up_to.ensures in_run))

pub map_reserved-requires-clause-unmapped : goal.map_reserved-requires-clause-unmapped
map_reserved-requires-clause-unmapped c = λ p in_run.
    let s = c.self.inside.lists in
    let row = c.next_row-row.result in
    let is = c.next_row-row.ensures in
    let free = c.next_row-row.new.lists.free in
    let room = room-cases s.in_use row.region row.fill c.args.size is.spot is.fill in
    let within = home-within s free row.region row.fill c.args.size c.self.invariant.0 is.free room in
    let has = subst (λ (it : Lists). HasPages c.args.frames.now c.args.t.0 (filled it)) (sym (ap lists_of c.self.view_is)) c.requires.pages in
    run-unmapped c.args.frames.now c.args.t.0 (filled s) row.region row.fill c.args.size p has c.self.invariant.0.filled (behind s free row.region row.fill c.args.size c.self.invariant.0 is.free room)
    (omega (arith, within, c.self.invariant.0.few)) (home-most s.in_use row.region row.fill c.args.size c.requires.size room)
    (run-is c.base_of-base.result c.pages_up_to-mapped.result c.pages_up_to.result row.region row.fill c.args.size p c.base_of-base.ensures c.pages_up_to-mapped.ensures c.pages_up_to.ensures in_run)

pub overflow_add-self : goal.overflow_add-self
overflow_add-self c =
    let s = c.self.inside.lists in
    let new = c.next_row-row.new.lists in
    let row = c.next_row-row.result in
    let is = c.next_row-row.ensures in
    let room = room-cases s.in_use row.region row.fill c.args.size is.spot is.fill in
    let space = space-more s new row.region row.fill c.args.size c.self.invariant.0 c.requires.size is.lists is.in_use is.rest.0 is.rest.1 room in
    omega (arith, space-pages new space, sum-after s new row.region row.fill c.args.size is.in_use is.rest.0 room, c.self.invariant.1, c.pages_up_to-mapped.ensures, c.pages_up_to.ensures)

pub overflow_add-self-2 : goal.overflow_add-self-2
overflow_add-self-2 c = omega (arith, objects-few c.self.inside.lists c.self.inside.objects c.self.invariant.0 c.self.invariant.2)

pub invariant_of-self : goal.invariant_of-self
invariant_of-self c =
    let s = c.self.inside.lists in
    let new = c.next_row-row.new.lists in
    let row = c.next_row-row.result in
    let is = c.next_row-row.ensures in
    let room = room-cases s.in_use row.region row.fill c.args.size is.spot is.fill in
    let more = objects-more s.in_use row.region row.fill c.args.size c.self.inside.objects c.requires.size room c.self.invariant.2 in (
      space-more s new row.region row.fill c.args.size c.self.invariant.0 c.requires.size is.lists is.in_use is.rest.0 is.rest.1 room,
      omega (arith, sum-after s new row.region row.fill c.args.size is.in_use is.rest.0 room, c.self.invariant.1, c.pages_up_to-mapped.ensures, c.pages_up_to.ensures),
      subst (λ rows. HasBytesFor rows (c.self.inside.objects + 1)) (sym is.in_use) more,
    )

pub returns-clause-maps : goal.returns-clause-maps
returns-clause-maps c =
    let s = c.self.inside.lists in
    let row = c.next_row-row.result in
    let fills = c.next_row-row.ensures.fill in
    let old = c.args.frames.now in
    let new = c.map_reserved.new.frames in
    let t = c.args.t.0 in
    let size = c.args.size in
    let at = c.base_of-base.result + row.fill in
    let maps =
    maps-is old new t c.base_of-base.result c.pages_up_to-mapped.result c.pages_up_to.result row.region row.fill size c.base_of-base.ensures c.pages_up_to-mapped.ensures c.pages_up_to.ensures c.map_reserved.ensures.maps in
    let first : run_from row.region row.fill ≡ further_from c.args.self.now.in_use at size =
    sym (from-is s.in_use row.region row.fill size fills)
    ∙ ap (λ k. further_from s.in_use (k + row.fill) size) (sym c.base_of-base.ensures)
    ∙ ap (λ (it : Lists). further_from it.in_use at size) (ap lists_of c.self.view_is) in
    let count : run_length row.fill size ≡ further_pages c.args.self.now.in_use size = ap (λ k. run_length k size) fills ∙ ap (λ (it : Lists). further_pages it.in_use size) (ap lists_of c.self.view_is) in
    subst (λ (n : ℕ). MapsRun old new t n (further_pages c.args.self.now.in_use size)) first (subst (MapsRun old new t (run_from row.region row.fill)) count maps)

pub returns-clause-view : goal.returns-clause-view
returns-clause-view c =
    let at = c.base_of-base.result + c.next_row-row.result.fill in
    let now = c.args.self.now in
    run-seen c.args.frames.now c.map_reserved.new.frames c.args.t.0 (further_from now.in_use at c.args.size) (further_pages now.in_use c.args.size) (returns-clause-maps c)

pub returns-clause-pages : goal.returns-clause-pages
returns-clause-pages c =
    let s = c.self.inside.lists in
    let row = c.next_row-row.result in
    let is = c.next_row-row.ensures in
    let old = c.args.frames.now in
    let new = c.map_reserved.new.frames in
    let t = c.args.t.0 in
    let size = c.args.size in
    let room = room-cases s.in_use row.region row.fill size is.spot is.fill in
    let has = subst (λ (it : Lists). HasPages old t (filled it)) (sym (ap lists_of c.self.view_is)) c.requires.pages in
    let maps =
    maps-is old new t c.base_of-base.result c.pages_up_to-mapped.result c.pages_up_to.result row.region row.fill size c.base_of-base.ensures c.pages_up_to-mapped.ensures c.pages_up_to.ensures c.map_reserved.ensures.maps in
    subst (HasPages new t) (sym (filled-is s c.next_row-row.new.lists row.region size is.in_use is.rest.0)) (pages-after old new t s.in_use s.from row.region row.fill size has maps room)

pub returns-clause-space : goal.returns-clause-space
returns-clause-space c = (invariant_of-self c).0
