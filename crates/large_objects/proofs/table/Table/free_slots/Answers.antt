use Rattle.std.proofs.Common.{◌≡◌, ◌∙◌, ◌+◌, ◌-◌, ◌<◌, ◌++◌, length, get_or, drop, take, subst, sym, ap, arith}
use Rattle.std.specs.List.{filter}
use Rattle.large_objects.specs.declared.table.Table.{Table}
use Rattle.large_objects.specs.Rows.{stays}
use Rattle.large_objects.specs.Table.{TakesSlots}
use Rattle.large_objects.proofs.TableLemmas.{free-next, next-stays}
use Rattle.large_objects.proofs.table.Table.free_slots.Goals as goal
use Rattle.large_objects.proofs.table.Table.free_slots.Goals.{then-not-stays, else-not-stays}

pub loop-i-preserved : goal.loop-i-preserved
loop-i-preserved c =
    let rows = c.args.self.now.rows.items in
    let i = c.loop-i.i in
    let row = c.index.result.now in
    let was = c.loop-i.self in
    let now = c.if-not-stays.self in
    let within : i < length rows = omega (arith, c.loop-i-test.true, c.len-i-end.ensures, c.args.self.now.rows.ok.0) in
    let is : row ≡ get_or rows i row = c.index.ensures ∙ ap (λ xs. get_or xs i row) c.loop-i.invariant.rows in
    elim c.if-not-stays.branch [
      | then-not-stays w ↦ record {
        rows = ap (λ (s : Table). s.rows.items) w.self-is ∙ c.loop-i.invariant.rows;
        slots = subst (λ (s : Table). TakesSlots s.slots s.cost (filter stays (take (i + 1) rows) ++ drop (i + 1) rows)) (sym w.self-is)
            (subst (λ n. TakesSlots w.unshare.new.self (was.cost - n) (filter stays (take (i + 1) rows) ++ drop (i + 1) rows)) (sym w.cost.ensures)
            (free-next was.slots w.unshare.new.self was.cost rows i row c.requires.rows within is (sym c.stays.ensures ∙ w.if-not-stays.true) c.loop-i.invariant.slots w.unshare.ensures.counts w.unshare.ensures.freed));
        index = ap (λ (s : Table). s.row_of.items) w.self-is ∙ c.loop-i.invariant.index;
      }
      | else-not-stays w ↦ record {
        rows = ap (λ (s : Table). s.rows.items) w.self-is ∙ c.loop-i.invariant.rows;
        slots = subst (λ (s : Table). TakesSlots s.slots s.cost (filter stays (take (i + 1) rows) ++ drop (i + 1) rows)) (sym w.self-is)
            (subst (TakesSlots was.slots was.cost) (next-stays rows i row within is (sym c.stays.ensures ∙ w.if-not-stays.false)) c.loop-i.invariant.slots);
        index = ap (λ (s : Table). s.row_of.items) w.self-is ∙ c.loop-i.invariant.index;
      }
    ]
