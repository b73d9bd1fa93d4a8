use Rattle.std.proofs.Common.{◌≡◌, ◌∙◌, ◌+◌, ◌<◌, ◌++◌, ◌∷◌, [], false, length, subst, sym, arith}
use Rattle.std.proofs.lemmas.List.{length-set}
use Rattle.large_objects.specs.declared.rows.LargeRow.{LargeRow}
use Rattle.large_objects.specs.Rows.{AreRows}
use Rattle.large_objects.specs.Table.{AreFound, TakesSlots}
use Rattle.large_objects.proofs.RowLemmas.{rows-push}
use Rattle.large_objects.proofs.TableLemmas.{costs-le, none-has, takes-push, found-push}
use Rattle.large_objects.proofs.table.Table.add.Goals as goal

pub overflow_add-self : goal.overflow_add-self
overflow_add-self c =
    let bytes = c.requires.bytes in
    omega (arith, c.cost.ensures, bytes.most, c.requires.few, c.requires.table.slots.cost, costs-le c.args.self.now.rows.items c.requires.table.rows.bytes)

pub returns-clause-table : goal.returns-clause-table
returns-clause-table c =
    let old = c.args.self.now in
    let rows = old.rows.items in
    let row : LargeRow = record { number = c.args.number; slot = c.take-slot.result; bytes = c.args.bytes; promoted = false; marked = false } in
    let slots = c.requires.table.slots in
    let more = sym c.push_reserved.ensures.items in
    let fresh = none-has old.slots old.cost rows row.slot slots c.take-slot.ensures.free in
    let within : row.slot < 512 = omega (arith, c.take-slot.ensures.within, slots.len) in
    let end : c.len.result ≡ length rows = omega (arith, c.len.ensures, old.rows.ok.0) in
    record {
      rows = subst AreRows more (rows-push rows row c.requires.table.rows c.requires.newer fresh within c.requires.bytes);
      slots = subst (TakesSlots c.take-slot.new.self (old.cost + c.cost.result)) more
          (subst (λ n. TakesSlots c.take-slot.new.self (old.cost + n) (rows ++ row ∷ [])) (sym c.cost.ensures)
          (takes-push old.slots c.take-slot.new.self old.cost rows row slots c.take-slot.ensures.within c.take-slot.ensures.counts c.take-slot.ensures.spare));
      len = length-set old.row_of.items row.slot c.len.result ∙ c.requires.table.len;
      found = subst (AreFound _) more (found-push old.row_of.items rows row c.len.result c.requires.table.found fresh (omega (arith, within, c.requires.table.len)) end);
    }
