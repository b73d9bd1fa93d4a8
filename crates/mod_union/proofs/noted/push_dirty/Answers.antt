use Rattle.std.proofs.Common.{ℕ, ◌≡◌, ◌<◌, List, true, sym, subst, arith}
use Rattle.std.specs.Prelude.{min}
use Rattle.mod_union.specs.Lists.{itself, ListsBelow}
use Rattle.mod_union.proofs.Cards.{dirty-more}
use Rattle.mod_union.proofs.noted.push_dirty.Goals as goal

pub loop-next-preserved : goal.loop-next-preserved
loop-next-preserved c =
    let next = c.loop-next.next in
    let further = c.first_dirty-next.result in
    let low : next < c.args.to = omega arith in
    let is = c.loop-next.invariant.dirty.dirty (omega (arith, low, c.requires.within)) in
    record {
      low = omega (arith, c.first_dirty-next.ensures.behind, c.loop-next.invariant.low);
      dirty = c.first_dirty-next.ensures.dirty;
      first = λ card from before. c.first_dirty-next.ensures.first card (omega (arith, from, low)) before;
      listed = λ test agree before.
          let here : min next c.args.to ≡ next = omega (arith, low) in
          let was = subst (λ n. ListsBelow itself (λ card. test card ≡ true) n c.loop-next.noted.items) here (c.loop-next.invariant.listed test agree before) in
          subst (λ (items : List ℕ). ListsBelow itself (λ card. test card ≡ true) (min further c.args.to) items) (sym c.in_ok-push.ensures.items)
          (dirty-more c.args.cards.now test next further c.args.to c.loop-next.noted.items (λ card from less. agree card (omega (arith, from, c.loop-next.invariant.low)) less) low is c.first_dirty-next.ensures.behind
          c.first_dirty-next.ensures.first was);
    }

pub returns-clause-listed : goal.returns-clause-listed
returns-clause-listed c test agree before =
    let end : min c.loop-next.next c.args.to ≡ c.args.to = omega arith in
    subst (λ n. ListsBelow itself (λ card. test card ≡ true) n c.loop-next.noted.items) end (c.loop-next.invariant.listed test agree before)
