use Rattle.std.proofs.Common.{◌<◌, refl, ap, arith}
use Rattle.sharers.specs.Shares.{Shares}
use Rattle.sharers.proofs.RowLemmas.{replaces}
use Rattle.sharers.proofs.LinkLemmas.{IsLinked-take, counts-set}
use Rattle.sharers.proofs.rows.Sharers.take.Goals as goal

pub invariant_of-self : goal.invariant_of-self
invariant_of-self c =
    let rows = c.self.inside.rows.items in
    let x = c.index_mut-row.result.now in
    let some : 0 < c.self.inside.spare = omega (arith, c.requires, ap (λ (s : Shares). s.spare) c.self.view_is) in
    let r = replaces rows c.self.inside.first_free x (record x { holders = 1 }) (c.self.invariant.linked.head some).0.0 c.index_mut-row.ensures.value in
    record {
      linked = IsLinked-take _ _ _ _ _ _ c.self.invariant.linked some r refl;
      few = omega (arith, r.len, c.self.invariant.few);
    }

pub returns-clause-counts : goal.returns-clause-counts
returns-clause-counts c =
    counts-set c.self.inside.rows.items c.args.self.now.counts c.self.inside.first_free 1 _ (ap (λ (s : Shares). s.counts) c.self.view_is) refl
