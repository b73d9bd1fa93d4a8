use Rattle.std.proofs.Common.{◌≡◌, ◌∙◌, map, ap, subst, sym, arith}
use Rattle.std.proofs.lemmas.List.{with_items_is}
use Rattle.std.specs.Vec.{with_items}
use Rattle.large_objects.specs.Rows.{AreRows, promoted_row}
use Rattle.large_objects.specs.Table.{AreFound, TakesSlots}
use Rattle.large_objects.proofs.RowLemmas.{keeps-promoted, rows-map}
use Rattle.large_objects.proofs.TableLemmas.{found-map, takes-map}
use Rattle.large_objects.proofs.larges.Larges.promote_all.Goals as goal

pub invariant_of-self : goal.invariant_of-self
invariant_of-self c =
    let s = c.self.inside.table in
    let rows = s.rows.items in
    let is : (with_items s.rows c.promote.new.rows).items ≡ map promoted_row rows = with_items_is s.rows c.promote.new.rows (omega arith) ∙ c.promote.ensures ∙ ap (map promoted_row) c.deref_mut.ensures.value in
    record {
      rows = subst AreRows (sym is) (rows-map promoted_row keeps-promoted rows c.self.invariant.rows);
      slots = subst (TakesSlots s.slots s.cost) (sym is) (takes-map promoted_row keeps-promoted s.slots s.cost rows c.self.invariant.slots);
      len = c.self.invariant.len;
      found = subst (AreFound s.row_of.items) (sym is) (found-map promoted_row keeps-promoted s.row_of.items rows c.self.invariant.found);
    }
