use Rattle.std.proofs.Common.{map, ap, ◌∙◌, arith}
use Rattle.page_tables.specs.Leaf.{Leaf, cleared}
use Rattle.page_tables.proofs.SlotsLemmas.{entries-cleared}
use Rattle.page_tables.proofs.leaf.Leaf.settle.Goals as goal

pub returns-clause-entries : goal.returns-clause-entries
returns-clause-entries c =
    entries-cleared c.self.inside.frames c.self.inside.written 1024 (omega (arith, c.self.invariant.frame_len, c.self.invariant.flag_len)) c.self.invariant.flag_len
    ∙ ap (λ (l : Leaf). map cleared l.entries) c.self.view_is
