use Rattle.std.proofs.Common.{◌≡◌, ◌∙◌, ◌++◌, ◌∷◌, [], ℕ, false, ap, subst, sym, arith}
use Rattle.std.specs.List.{list_any}
use Rattle.page_tables.specs.Address.{page_of}
use Rattle.cow_pages.specs.Memory.{Memory, page_at}
use Rattle.image_space.specs.Space.{pages_up_to}
use Rattle.page_runs.specs.Runs.{IsInRun, MapsRun}
use Rattle.page_runs.proofs.RunLemmas.{Reserved, mapping-reserved, run-only, run-seen}
use Rattle.large_objects.specs.declared.rows.LargeRow.{LargeRow}
use Rattle.large_objects.specs.Pages.{HasPages}
use Rattle.large_objects.specs.Rows.{has_slot, slot_base}
use Rattle.large_objects.proofs.PageLemmas.{pages-placed, row-unmapped}
use Rattle.large_objects.proofs.RowLemmas.{slot-apart}
use Rattle.large_objects.proofs.larges.Larges.place.Goals as goal

pub map_reserved-requires-clause-unmapped : goal.map_reserved-requires-clause-unmapped
map_reserved-requires-clause-unmapped c = λ p here.
    let old = c.args.frames.now in
    let t = c.args.t.0 in
    let rows = c.self.inside.table.rows.items in
    let row : LargeRow = record { number = c.args.number; slot = c.add.result; bytes = c.args.bytes; promoted = false; marked = false } in
    let count : c.div_ceil-pages.result ≡ pages_up_to c.args.bytes = omega (arith, c.div_ceil-pages.ensures) in
    let fresh = subst (λ xs. list_any (has_slot c.add.result) xs ≡ false) c.reserve.ensures.items c.add.ensures.fresh in
    ap (λ (it : Memory). page_at it t p) c.reserve-2.ensures.rest
    ∙ row-unmapped old t p rows row (subst (HasPages old t) (sym c.self.view_is) c.requires.pages) c.self.invariant.rows.bytes c.add.ensures.within c.requires.bytes (slot-apart c.add.result rows fresh)
    (subst (λ n. IsInRun (page_of (slot_base c.add.result)) n p) count here)

pub returns-clause-maps : goal.returns-clause-maps
returns-clause-maps c =
    let mid = c.reserve-2.new.self in
    let new = c.map_reserved.new.frames in
    let t = c.args.t.0 in
    let first = page_of (slot_base c.add.result) in
    let count : c.div_ceil-pages.result ≡ pages_up_to c.args.bytes = omega (arith, c.div_ceil-pages.ensures) in
    let made : Reserved c.args.frames.now mid (pages_up_to c.args.bytes) =
    subst (Reserved c.args.frames.now mid) count (record {
      rest = c.reserve-2.ensures.rest;
      spare = c.in_ok-reserve-2.ensures.no_more;
      frames = c.in_ok-reserve-2.ensures.frames;
      leaf_count = c.in_ok-reserve-2.ensures.leaves;
    }) in
    mapping-reserved c.args.frames.now mid new t first (pages_up_to c.args.bytes) c.reserve-2.ensures.was_sound made (subst (λ (n : ℕ). MapsRun mid new t first n) count c.map_reserved.ensures.maps)

pub returns-clause-view : goal.returns-clause-view
returns-clause-view c = run-seen c.args.frames.now c.map_reserved.new.frames c.args.t.0 (page_of (slot_base c.add.result)) (pages_up_to c.args.bytes) (returns-clause-maps c)

pub returns-clause-only : goal.returns-clause-only
returns-clause-only c = run-only c.args.frames.now c.map_reserved.new.frames c.args.t.0 (page_of (slot_base c.add.result)) (pages_up_to c.args.bytes) (returns-clause-maps c)

pub returns-clause-pages : goal.returns-clause-pages
returns-clause-pages c =
    let old = c.args.frames.now in
    let new = c.map_reserved.new.frames in
    let t = c.args.t.0 in
    let rows = c.self.inside.table.rows.items in
    let row : LargeRow = record { number = c.args.number; slot = c.add.result; bytes = c.args.bytes; promoted = false; marked = false } in
    subst (HasPages new t) (sym (c.add.ensures.rows ∙ ap (λ xs. xs ++ row ∷ []) c.reserve.ensures.items))
    (pages-placed old new t rows row (subst (HasPages old t) (sym c.self.view_is) c.requires.pages) (returns-clause-maps c))
