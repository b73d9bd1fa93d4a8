use Rattle.std.proofs.Common.{◌≡◌, ◌∙◌, ◌==◌, ℕ, true, sym, ap, subst}
use Rattle.std.specs.Prelude.{◌||◌}
use Rattle.mark_bitmap.specs.Marks.{IsPlace, is_marked}
use Rattle.live_objects.specs.Marks.{State, has_mark, marked}
use Rattle.live_objects.proofs.MarkLemmas.{young-more, young-place}
use Rattle.live_objects.proofs.marks.Marks.set.Goals as goal

pub test-new-requires : goal.test-new-requires
test-new-requires c =
    let s = c.self.inside in
    let inside = sym c.in_regions.ensures ∙ c.if-in_regions.true in
    let has = subst (λ (it : State). has_mark it.numbers c.args.at.0 ≡ true) (sym c.self.view_is) c.requires in
    subst (IsPlace s.young) (sym c.place-place.ensures) (young-place s.order s.young s.large c.args.at.0 c.self.invariant inside has)

pub set-requires : goal.set-requires
set-requires c =
    let s = c.self.inside in
    let inside = sym c.in_regions.ensures ∙ c.if-in_regions.true in
    let has = subst (λ (it : State). has_mark it.numbers c.args.at.0 ≡ true) (sym c.self.view_is) c.requires in
    subst (IsPlace s.young) (sym c.place-place.ensures) (young-place s.order s.young s.large c.args.at.0 c.self.invariant inside has)

pub returns-then-in_regions-clause-sets : goal.returns-then-in_regions-clause-sets
returns-then-in_regions-clause-sets c = λ a.
    let s = c.self.inside in
    let at = c.args.at.0 in
    let inside = sym c.in_regions.ensures ∙ c.if-in_regions.true in
    let has = subst (λ (it : State). has_mark it.numbers at ≡ true) (sym c.self.view_is) c.requires in
    let member = λ (q : ℕ). c.set.ensures.member q ∙ ap (λ p. q == p || is_marked s.young q) c.place-place.ensures in
    young-more s.order s.young c.set.new.self s.large at inside has member a ∙ ap (λ (it : State). a == at || marked it a) c.self.view_is
