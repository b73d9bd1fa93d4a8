use Rattle.std.proofs.Common.{◌+◌, ◌-◌, ◌<◌, ℕ, List, length, get_or, refl, sym, ap, ◌∙◌, arith}
use Rattle.std.proofs.lemmas.List.{length-map}
use Rattle.sharers.specs.declared.rows.Row.{Row}
use Rattle.sharers.specs.Shares.{Shares}
use Rattle.sharers.proofs.RowLemmas.{replaces, free-lt}
use Rattle.sharers.proofs.LinkLemmas.{IsLinked-held, IsLinked-frees, Frees-unshare, counts-set}
use Rattle.sharers.proofs.rows.Sharers.unshare.Goals as goal

pub invariant_of-self : goal.invariant_of-self
invariant_of-self c =
    let rows = c.self.inside.rows.items in
    let x = c.index_mut-row.result.now in
    let same = ap (λ (s : Shares). s.counts) c.self.view_is in
    let within : c.args.number < length rows = omega (arith, c.requires.within, ap (λ (cs : List ℕ). length cs) same, length-map rows (λ (it : Row). it.holders)) in
    let r = replaces rows c.args.number x (record x { holders = x.holders - 1 }) within c.index_mut-row.ensures.value in
    let many = c.if-row-gt1.true in
    record {
      linked = IsLinked-held _ _ _ _ _ _ _ c.self.invariant.linked r (λ none. omega (arith, none, many)) (λ none. omega (arith, none, many));
      few = omega (arith, r.len, c.self.invariant.few);
    }

pub returns-then-row-gt1-clause-counts : goal.returns-then-row-gt1-clause-counts
returns-then-row-gt1-clause-counts c =
    let rows = c.self.inside.rows.items in
    let x = c.index_mut-row.result.now in
    let same = ap (λ (s : Shares). s.counts) c.self.view_is in
    let within : c.args.number < length rows = omega (arith, c.requires.within, ap (λ (cs : List ℕ). length cs) same, length-map rows (λ (it : Row). it.holders)) in
    let r = replaces rows c.args.number x (record x { holders = x.holders - 1 }) within c.index_mut-row.ensures.value in
    counts-set rows c.args.self.now.counts c.args.number _ (record x { holders = x.holders - 1 }) same
    (ap (λ n. n - 1) (sym r.holders_was ∙ ap (λ (cs : List ℕ). get_or cs c.args.number 0) same))

pub overflow_add-row : goal.overflow_add-row
overflow_add-row c =
    let rows = c.self.inside.rows.items in
    let same = ap (λ (s : Shares). s.counts) c.self.view_is in
    let within : c.args.number < length rows = omega (arith, c.requires.within, ap (λ (cs : List ℕ). length cs) same, length-map rows (λ (it : Row). it.holders)) in
    omega (
      arith,
      free-lt rows c.args.number within (omega (arith, c.requires.held, ap (λ (cs : List ℕ). get_or cs c.args.number 0) same)),
      c.self.invariant.linked.counted,
      c.self.invariant.few,
    )

pub invariant_of-self-2 : goal.invariant_of-self-2
invariant_of-self-2 c =
    let rows = c.self.inside.rows.items in
    let x = c.index_mut-row.result.now in
    let same = ap (λ (s : Shares). s.counts) c.self.view_is in
    let within : c.args.number < length rows = omega (arith, c.requires.within, ap (λ (cs : List ℕ). length cs) same, length-map rows (λ (it : Row). it.holders)) in
    let y : Row = record { holders = 0; next = c.self.inside.first_free; rank = c.self.inside.spare + 1 } in
    let r = replaces rows c.args.number x y within c.index_mut-row.ensures.value in
    record {
      linked = IsLinked-frees _ _ _ _ _ c.self.invariant.linked
          (Frees-unshare _ _ _ _ _ _ _ r (omega (arith, r.holders_was, c.requires.held, ap (λ (cs : List ℕ). get_or cs c.args.number 0) same, c.if-row-gt1.false)) refl refl refl);
      few = omega (arith, r.len, c.self.invariant.few);
    }

pub returns-clause-counts : goal.returns-clause-counts
returns-clause-counts c =
    let rows = c.self.inside.rows.items in
    let x = c.index_mut-row.result.now in
    let same = ap (λ (s : Shares). s.counts) c.self.view_is in
    let within : c.args.number < length rows = omega (arith, c.requires.within, ap (λ (cs : List ℕ). length cs) same, length-map rows (λ (it : Row). it.holders)) in
    let y : Row = record { holders = 0; next = c.self.inside.first_free; rank = c.self.inside.spare + 1 } in
    let r = replaces rows c.args.number x y within c.index_mut-row.ensures.value in
    counts-set rows c.args.self.now.counts c.args.number _ y same
    (omega (arith, r.holders_was, ap (λ (cs : List ℕ). get_or cs c.args.number 0) same, c.if-row-gt1.false))
