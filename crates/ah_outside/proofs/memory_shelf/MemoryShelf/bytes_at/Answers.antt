use Rattle.std.proofs.Common.{arith, ap}
use Rattle.ah_outside.proofs.RowLemmas.{Fits-at, entry_at, row_there}
use Rattle.ah_outside.proofs.memory_shelf.MemoryShelf.bytes_at.Goals as goal

pub cut-requires : goal.cut-requires
cut-requires c =
    let there = row_there c.self.inside.bytes.items c.self.inside.rows.items _ c.args.k (ap (λ s. s.entries) c.self.view_is) c.requires in
    let fits = Fits-at _ _ _ c.args.k c.index-row.result.now c.self.invariant.0 there c.index-row.ensures in
    record { in_order = fits.bytes_in_order; within = omega arith }

pub returns : goal.returns
returns c =
    let there = row_there c.self.inside.bytes.items c.self.inside.rows.items _ c.args.k (ap (λ s. s.entries) c.self.view_is) c.requires in
    rw (← c.self.view_is, entry_at c.self.inside.bytes.items _ c.args.k c.index-row.result.now there c.index-row.ensures, ← c.deref.ensures.value) c.cut.ensures
