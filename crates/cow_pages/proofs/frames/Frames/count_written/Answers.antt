use Rattle.std.proofs.Common.{Option, None, is_some, true≢false, arith, ap, sym, ◌∙◌, refl}
use Rattle.std.proofs.lemmas.List.{get_or_default}
use Rattle.page_tables.specs.declared.table.Table.{Table}
use Rattle.page_tables.specs.Counts.{count_in}
use Rattle.cow_pages.specs.Store.{written_counts}
use Rattle.page_tables.proofs.ListLemmas.{live_within, table_is}
use Rattle.cow_pages.proofs.ReadLemmas.{live_there, written_in-shown}
use Rattle.cow_pages.proofs.frames.Frames.count_written.Goals as goal

pub index-requires : goal.index-requires
index-requires c =
    let live = rw (← c.self.view_is) at c.requires in
    let s = c.self.inside.store in
    omega (arith, s.tables.ok, live_within s.tables.items c.args.t.0 (live_there s c.args.t.0 live))

pub returns : goal.returns
returns c =
    let live = rw (← c.self.view_is) at c.requires in
    let s = c.self.inside.store in
    let within = live_within s.tables.items c.args.t.0 (live_there s c.args.t.0 live) in
    let is = table_is s.tables.items c.args.t.0 c.index.result.now c.in-Some.table within c.index.ensures c.in-Some.is in
    c.get.ensures ∙ sym (ap (λ (o : Option Table). count_in (written_counts o) c.args.w) is) ∙ written_in-shown s c.self.invariant c.args.t.0 c.args.w ∙ rw (← c.self.view_is) refl

pub unreachable-requires : goal.unreachable-requires
unreachable-requires c =
    let live = rw (← c.self.view_is) at c.requires in
    let s = c.self.inside.store in
    let within = live_within s.tables.items c.args.t.0 (live_there s c.args.t.0 live) in
    let none = get_or_default s.tables.items c.args.t.0 None c.index.result.now within ∙ sym c.index.ensures ∙ c.in-None.is in
    true≢false (sym (live_there s c.args.t.0 live) ∙ ap (λ (o : Option Table). is_some o) none)
