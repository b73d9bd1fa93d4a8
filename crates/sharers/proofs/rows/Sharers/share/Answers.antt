use Rattle.std.proofs.Common.{◌+◌, ◌<◌, ℕ, List, length, get_or, sym, ap, ◌∙◌, arith}
use Rattle.std.proofs.lemmas.List.{length-map}
use Rattle.sharers.specs.declared.rows.Row.{Row}
use Rattle.sharers.specs.Shares.{Shares}
use Rattle.sharers.proofs.RowLemmas.{replaces}
use Rattle.sharers.proofs.LinkLemmas.{IsLinked-held, counts-set}
use Rattle.sharers.proofs.rows.Sharers.share.Goals as goal

pub invariant_of-self : goal.invariant_of-self
invariant_of-self c =
    let rows = c.self.inside.rows.items in
    let x = c.index_mut.result.now in
    let same = ap (λ (s : Shares). s.counts) c.self.view_is in
    let within : c.args.number < length rows = omega (arith, c.requires.within, ap (λ (cs : List ℕ). length cs) same, length-map rows (λ (it : Row). it.holders)) in
    let r = replaces rows c.args.number x (record x { holders = x.holders + 1 }) within c.index_mut.ensures.value in
    let was = ap (λ (cs : List ℕ). get_or cs c.args.number 0) same in
    record {
      linked = IsLinked-held _ _ _ _ _ _ _ c.self.invariant.linked r (λ none. omega (arith, none, r.holders_was, was, c.requires.held)) (λ none. omega (arith, none));
      few = omega (arith, r.len, c.self.invariant.few);
    }

pub returns-clause-counts : goal.returns-clause-counts
returns-clause-counts c =
    let rows = c.self.inside.rows.items in
    let x = c.index_mut.result.now in
    let same = ap (λ (s : Shares). s.counts) c.self.view_is in
    let within : c.args.number < length rows = omega (arith, c.requires.within, ap (λ (cs : List ℕ). length cs) same, length-map rows (λ (it : Row). it.holders)) in
    let r = replaces rows c.args.number x (record x { holders = x.holders + 1 }) within c.index_mut.ensures.value in
    counts-set rows c.args.self.now.counts c.args.number _ (record x { holders = x.holders + 1 }) same
    (ap (λ n. n + 1) (sym r.holders_was ∙ ap (λ (cs : List ℕ). get_or cs c.args.number 0) same))
