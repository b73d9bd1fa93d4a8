use Rattle.std.proofs.Common.{◌∙◌, ◌<◌, length, Some, IsTrue, ap, sym, subst, arith}
use Rattle.std.specs.Prelude.{is_some, option_map}
use Rattle.std.proofs.lemmas.List.{get_or_read}
use Rattle.region_lists.specs.declared.chains.Entry.{Entry}
use Rattle.region_lists.specs.Chains.{chain_of, no_entry}
use Rattle.region_lists.specs.Rows.{Lists, Row, row_of}
use Rattle.region_lists.proofs.MoveLemmas.{in_use-within}
use Rattle.region_lists.proofs.RowLemmas.{row-holds, row-is}
use Rattle.region_lists.proofs.lists.RegionLists.fill.Goals as goal

pub index-requires : goal.index-requires
index-requires c =
    let s = c.self.inside in
    let es = s.entries.items in
    let there = subst (λ (it : Lists). IsTrue (is_some (row_of it.in_use c.args.region))) (sym c.self.view_is) c.requires in
    let within = row-holds (λ n. n < length es) es (chain_of es s.in_use) c.args.region there (in_use-within es s.in_use s.from s.free c.self.invariant) in
    omega (arith, within, s.entries.ok.0)

pub returns : goal.returns
returns c =
    let s = c.self.inside in
    let es = s.entries.items in
    let there = subst (λ (it : Lists). IsTrue (is_some (row_of it.in_use c.args.region))) (sym c.self.view_is) c.requires in
    let within = row-holds (λ n. n < length es) es (chain_of es s.in_use) c.args.region there (in_use-within es s.in_use s.from s.free c.self.invariant) in
    let read = get_or_read es c.args.region c.index.result.now within c.index.ensures no_entry in
    ap (λ (it : Lists). option_map (λ (row : Row). row.fill) (row_of it.in_use c.args.region)) (sym c.self.view_is)
    ∙ ap (option_map (λ (row : Row). row.fill)) (row-is es (chain_of es s.in_use) c.args.region there)
    ∙ sym (ap (λ (it : Entry). Some it.fill) read)
