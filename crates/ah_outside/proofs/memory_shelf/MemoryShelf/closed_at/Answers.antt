use Rattle.std.proofs.Common.{refl, ap}
use Rattle.ah_outside.proofs.RowLemmas.{entry_at, row_there}
use Rattle.ah_outside.proofs.memory_shelf.MemoryShelf.closed_at.Goals as goal

pub returns : goal.returns
returns c =
    let there = row_there c.self.inside.bytes.items c.self.inside.rows.items _ c.args.k (ap (λ s. s.entries) c.self.view_is) c.requires in
    rw (← c.self.view_is, entry_at c.self.inside.bytes.items _ c.args.k c.index.result.now there c.index.ensures) refl
