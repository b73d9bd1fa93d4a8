use Rattle.std.proofs.Common.{◌≡◌, ◌∙◌, map, length, subst, sym, ap, arith}
use Rattle.std.proofs.lemmas.List.{with_items_is}
use Rattle.std.specs.List.{filter}
use Rattle.std.specs.Vec.{with_items}
use Rattle.large_objects.specs.Rows.{AreRows, cleared, stays, swept}
use Rattle.large_objects.specs.Table.{AreFound, TakesSlots}
use Rattle.large_objects.proofs.RowLemmas.{keeps-cleared, rows-filter, rows-map}
use Rattle.large_objects.proofs.TableLemmas.{takes-map}
use Rattle.large_objects.proofs.table.Table.sweep.Goals as goal

pub index_rows-requires-clause-rows : goal.index_rows-requires-clause-rows
index_rows-requires-clause-rows c =
    let rows = c.args.self.now.rows.items in
    let now = c.clear_marks.new.rows in
    let is : now ≡ swept rows = c.clear_marks.ensures ∙ ap (map cleared) (c.deref_mut.ensures.value ∙ c.keep_staying.ensures ∙ ap (filter stays) c.free_slots.ensures.rows) in
    let same : (with_items c.keep_staying.new.rows now).items ≡ now = with_items_is c.keep_staying.new.rows now (omega arith) in
    subst AreRows (sym (c.deref.ensures.value ∙ same ∙ is)) (rows-map cleared keeps-cleared (filter stays rows) (rows-filter stays rows c.requires.rows))

pub returns-clause-table : goal.returns-clause-table
returns-clause-table c =
    let rows = c.args.self.now.rows.items in
    let now = c.clear_marks.new.rows in
    let row_of = c.index_rows.new.row_of in
    let is : now ≡ swept rows = c.clear_marks.ensures ∙ ap (map cleared) (c.deref_mut.ensures.value ∙ c.keep_staying.ensures ∙ ap (filter stays) c.free_slots.ensures.rows) in
    let same : (with_items c.keep_staying.new.rows now).items ≡ now = with_items_is c.keep_staying.new.rows now (omega arith) in
    let found : (with_items c.free_slots.new.self.row_of row_of).items ≡ row_of = with_items_is c.free_slots.new.self.row_of row_of (omega arith) in
    record {
      rows = subst AreRows (sym (same ∙ is)) (rows-map cleared keeps-cleared (filter stays rows) (rows-filter stays rows c.requires.rows));
      slots = subst (TakesSlots c.free_slots.new.self.slots c.free_slots.new.self.cost) (sym (same ∙ is)) (takes-map cleared keeps-cleared _ _ (filter stays rows) c.free_slots.ensures.slots);
      len = ap length found ∙ c.index_rows.ensures.len;
      found = subst (λ xs. AreFound xs (with_items c.keep_staying.new.rows now).items) (sym found) (subst (AreFound row_of) c.deref.ensures.value c.index_rows.ensures.found);
    }
