use Rattle.std.proofs.Common.{Some, refl, subst}
use Rattle.bit_set.proofs.SetLemmas.{IsNone-below}
use Rattle.mark_bitmap.specs.Marks.{is_marked, IsWellPlaced}
use Rattle.mark_bitmap.proofs.MarksLemmas.{well_placed, greatest_place, none_below_place}
use Rattle.mark_bitmap.proofs.bitmap.Bitmap.last_before.Goals as goal

pub returns-in_err-k-clause-none : goal.returns-in_err-k-clause-none
returns-in_err-k-clause-none c =
    rw c.from_residual.ensures (
      λ _. none_below_place c.self.inside.from c.self.inside.bytes c.self.inside.bits c.self.invariant c.args.self.now c.self.view_is
          c.args.at.0 c.first_place.result c.first_place.ensures (c.in_err-k.ensures.none.0 refl),
      λ _. refl,
    )

pub returns-in_err-k-clause-well_placed : goal.returns-in_err-k-clause-well_placed
returns-in_err-k-clause-well_placed c =
    subst IsWellPlaced c.self.view_is (well_placed c.self.inside.from c.self.inside.bytes c.self.inside.bits c.self.invariant)

pub returns-clause-found : goal.returns-clause-found
returns-clause-found c =
    greatest_place c.self.inside.from c.self.inside.bytes c.self.inside.bits c.self.invariant c.args.self.now c.self.view_is
    c.args.at.0 c.first_place.result c.first_place.ensures c.in_ok-k.k c.in_ok-k.ensures.found

pub returns-clause-none : goal.returns-clause-none
returns-clause-none c = IsNone-below (is_marked c.args.self.now) c.args.at.0 (Some _) (returns-clause-found c) tt

pub returns-clause-well_placed : goal.returns-clause-well_placed
returns-clause-well_placed c =
    subst IsWellPlaced c.self.view_is (well_placed c.self.inside.from c.self.inside.bytes c.self.inside.bits c.self.invariant)
