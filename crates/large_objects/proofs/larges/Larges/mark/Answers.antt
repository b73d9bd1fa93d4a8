use Rattle.std.proofs.Common.{◌≡◌, ◌∙◌, ◌<◌, length, map, set, true, ap, subst, sym, arith}
use Rattle.std.specs.Prelude.{not, option_map}
use Rattle.large_objects.specs.declared.rows.LargeRow.{LargeRow}
use Rattle.large_objects.specs.Rows.{AreRows, marked_at, row_at}
use Rattle.large_objects.specs.Table.{AreFound, TakesSlots}
use Rattle.large_objects.proofs.RowLemmas.{rows-map}
use Rattle.large_objects.proofs.TableLemmas.{found-map, keeps-marked, marked-rows, row-there, takes-map}
use Rattle.large_objects.proofs.larges.Larges.mark.Goals as goal

pub invariant_of-self : goal.invariant_of-self
invariant_of-self c =
    let s = c.self.inside.table in
    let rows = s.rows.items in
    let row = c.index_mut-row.result.now in
    let at = c.args.at.0 in
    let keeps = keeps-marked at in
    let within : c.index-index.result < length rows = omega (arith, c.index-index.ensures.within, s.rows.ok.0) in
    let is : set rows c.index-index.result (record row { marked = true }) ≡ map (marked_at at) rows =
    marked-rows rows c.index-index.result at row c.self.invariant.rows.apart within c.index-index.ensures.row c.index_mut-row.ensures.value in
    record {
      rows = subst AreRows (sym is) (rows-map (marked_at at) keeps rows c.self.invariant.rows);
      slots = subst (TakesSlots s.slots s.cost) (sym is) (takes-map (marked_at at) keeps s.slots s.cost rows c.self.invariant.slots);
      len = c.self.invariant.len;
      found = subst (AreFound s.row_of.items) (sym is) (found-map (marked_at at) keeps s.row_of.items rows c.self.invariant.found);
    }

pub returns-clause-new : goal.returns-clause-new
returns-clause-new c =
    let s = c.self.inside.table in
    let rows = s.rows.items in
    let row = c.index_mut-row.result.now in
    let within : c.index-index.result < length rows = omega (arith, c.index-index.ensures.within, s.rows.ok.0) in
    ap (λ xs. option_map (λ (it : LargeRow). not it.marked) (row_at xs c.args.at.0)) (sym c.self.view_is)
    ∙ ap (option_map (λ (it : LargeRow). not it.marked)) (row-there rows c.index-index.result c.args.at.0 row within c.index-index.ensures.row c.index_mut-row.ensures.value)

pub returns-clause-rows : goal.returns-clause-rows
returns-clause-rows c =
    let s = c.self.inside.table in
    let rows = s.rows.items in
    let within : c.index-index.result < length rows = omega (arith, c.index-index.ensures.within, s.rows.ok.0) in
    marked-rows rows c.index-index.result c.args.at.0 c.index_mut-row.result.now c.self.invariant.rows.apart within c.index-index.ensures.row c.index_mut-row.ensures.value
    ∙ ap (map (marked_at c.args.at.0)) c.self.view_is
