use Rattle.std.proofs.Common.{◌∙◌, ℕ, sym, ap, subst}
use Rattle.raw_objects.specs.Raws.{raw_size, Raws}
use Rattle.cow_pages.specs.View.{view_of}
use Rattle.region_space.specs.Pages.{next_in, IsObjectIn}
use Rattle.object_moves.specs.Copies.{at_of, IsYoungAt}
use Rattle.object_promotion.proofs.Walk.{next-found, young-here}
use Rattle.object_promotion.proofs.lists.young_at.Goals as goal

pub young_size-size-requires : goal.young_size-size-requires
young_size-size-requires c =
    let raws : Raws = c.requires.0 in
    (raws, subst (IsYoungAt c.args.classes.now (view_of c.args.frames.now c.args.t.0) raws) (sym c.requires.5) (young-here _ _ _ raws c.requires.1 c.requires.3 c.requires.2 c.requires.4))

pub next-requires : goal.next-requires
next-requires c =
    let raws : Raws = c.requires.0 in
    let young = subst (IsYoungAt c.args.classes.now (view_of c.args.frames.now c.args.t.0) raws) (sym c.requires.5) (young-here _ _ _ raws c.requires.1 c.requires.3 c.requires.2 c.requires.4) in
    subst (λ (n : ℕ). IsObjectIn c.args.regions.now.in_use c.args.at.0 n) (sym (c.young_size-size.ensures.size raws young))
    (subst (λ (a : ℕ). IsObjectIn c.args.regions.now.in_use a (raw_size c.args.classes.now raws a)) (sym c.requires.5) (c.requires.3.rows c.requires.2 c.requires.4))

pub returns-clause-size : goal.returns-clause-size
returns-clause-size c raws young i ok below at =
    let here = subst (IsYoungAt c.args.classes.now (view_of c.args.frames.now c.args.t.0) raws) (sym at) (young-here _ _ _ raws young ok i below) in
    c.young_size-size.ensures.size raws here ∙ ap (raw_size c.args.classes.now raws) at

pub returns-clause-next : goal.returns-clause-next
returns-clause-next c raws young i ok below at =
    let here = subst (IsYoungAt c.args.classes.now (view_of c.args.frames.now c.args.t.0) raws) (sym at) (young-here _ _ _ raws young ok i below) in
    let size = c.young_size-size.ensures.size raws here ∙ ap (raw_size c.args.classes.now raws) at in
    c.next.ensures ∙ ap (next_in c.args.regions.now.in_use c.args.at.0) size ∙ ap (λ (a : ℕ). next_in c.args.regions.now.in_use a (raw_size c.args.classes.now raws (at_of young i))) at
    ∙ next-found _ _ _ raws young ok i below
