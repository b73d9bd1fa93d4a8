use Rattle.std.proofs.Common.{◌∙◌, ◌/◌, ℕ, is_ok, sym, ap, subst, arith, true≢false}
use Rattle.cow_pages.specs.Memory.{Memory}
use Rattle.raw_objects.specs.Keeps.{Covers, Keeps}
use Rattle.raw_objects.proofs.Uncounted.{regions-low}
use Rattle.object_moves.proofs.One.{steps-free}
use Rattle.zygote_space.specs.Space.{Places}
use Rattle.object_promotion.proofs.OneCopy.{copied-there, ready, sized, sized-fits, sized-rest, young-here}
use Rattle.object_promotion.proofs.copies.copy_to_spot.Goals as goal

pub young_size-size-requires : goal.young_size-size-requires
young_size-size-requires c = (c.requires.0, young-here _ _ _ c.requires.1 c.requires.0 _ c.args.at.0 c.requires.2)

pub place-to-requires-clause-multiple : goal.place-to-requires-clause-multiple
place-to-requires-clause-multiple c =
    (sized-fits _ _ _ c.requires.1 c.requires.0 _ c.args.at.0 _ (sized _ _ _ _ c.requires.1 c.requires.0 _ c.args.at.0 _ c.requires.2 c.young_size-size.ensures.same (c.young_size-size.ensures.size c.requires.0))).multiple

pub place-to-requires-clause-least : goal.place-to-requires-clause-least
place-to-requires-clause-least c =
    (sized-fits _ _ _ c.requires.1 c.requires.0 _ c.args.at.0 _ (sized _ _ _ _ c.requires.1 c.requires.0 _ c.args.at.0 _ c.requires.2 c.young_size-size.ensures.same (c.young_size-size.ensures.size c.requires.0))).least

pub place-to-requires-clause-rest : goal.place-to-requires-clause-rest
place-to-requires-clause-rest c =
    sized-rest _ _ _ c.requires.1 c.requires.0 _ c.args.at.0 _ (sized _ _ _ _ c.requires.1 c.requires.0 _ c.args.at.0 _ c.requires.2 c.young_size-size.ensures.same (c.young_size-size.ensures.size c.requires.0))

pub evacuate-requires-clause-from_aligned : goal.evacuate-requires-clause-from_aligned
evacuate-requires-clause-from_aligned c =
    let k = sized _ _ _ _ c.requires.1 c.requires.0 _ c.args.at.0 _ c.requires.2 c.young_size-size.ensures.same (c.young_size-size.ensures.size c.requires.0) in
    (ready _ _ _ c.requires.1 c.requires.0 _ c.args.at.0 _ k _ _ c.place-to.ensures.places).from_aligned

pub evacuate-requires-clause-to_aligned : goal.evacuate-requires-clause-to_aligned
evacuate-requires-clause-to_aligned c =
    let k = sized _ _ _ _ c.requires.1 c.requires.0 _ c.args.at.0 _ c.requires.2 c.young_size-size.ensures.same (c.young_size-size.ensures.size c.requires.0) in
    (ready _ _ _ c.requires.1 c.requires.0 _ c.args.at.0 _ k _ _ c.place-to.ensures.places).to_aligned

pub evacuate-requires-clause-size_aligned : goal.evacuate-requires-clause-size_aligned
evacuate-requires-clause-size_aligned c =
    (sized-fits _ _ _ c.requires.1 c.requires.0 _ c.args.at.0 _ (sized _ _ _ _ c.requires.1 c.requires.0 _ c.args.at.0 _ c.requires.2 c.young_size-size.ensures.same (c.young_size-size.ensures.size c.requires.0))).multiple

pub evacuate-requires-clause-some : goal.evacuate-requires-clause-some
evacuate-requires-clause-some c =
    let fits = sized-fits _ _ _ c.requires.1 c.requires.0 _ c.args.at.0 _ (sized _ _ _ _ c.requires.1 c.requires.0 _ c.args.at.0 _ c.requires.2 c.young_size-size.ensures.same (c.young_size-size.ensures.size c.requires.0)) in
    omega (arith, fits.least)

pub evacuate-requires-clause-from_space : goal.evacuate-requires-clause-from_space
evacuate-requires-clause-from_space c =
    let k = sized _ _ _ _ c.requires.1 c.requires.0 _ c.args.at.0 _ c.requires.2 c.young_size-size.ensures.same (c.young_size-size.ensures.size c.requires.0) in
    (ready _ _ _ c.requires.1 c.requires.0 _ c.args.at.0 _ k _ _ c.place-to.ensures.places).from_space

pub evacuate-requires-clause-to_space : goal.evacuate-requires-clause-to_space
evacuate-requires-clause-to_space c =
    let k = sized _ _ _ _ c.requires.1 c.requires.0 _ c.args.at.0 _ c.requires.2 c.young_size-size.ensures.same (c.young_size-size.ensures.size c.requires.0) in
    (ready _ _ _ c.requires.1 c.requires.0 _ c.args.at.0 _ k _ _ c.place-to.ensures.places).to_space

pub evacuate-requires-clause-apart : goal.evacuate-requires-clause-apart
evacuate-requires-clause-apart c =
    let k = sized _ _ _ _ c.requires.1 c.requires.0 _ c.args.at.0 _ c.requires.2 c.young_size-size.ensures.same (c.young_size-size.ensures.size c.requires.0) in
    (ready _ _ _ c.requires.1 c.requires.0 _ c.args.at.0 _ k _ _ c.place-to.ensures.places).apart

pub unreachable-requires : goal.unreachable-requires
unreachable-requires c =
    let k = sized _ _ _ _ c.requires.1 c.requires.0 _ c.args.at.0 _ c.requires.2 c.young_size-size.ensures.same (c.young_size-size.ensures.size c.requires.0) in
    let it = ready _ _ _ c.requires.1 c.requires.0 _ c.args.at.0 _ k _ _ c.place-to.ensures.places in
    absurd (true≢false (sym (c.evacuate.ensures.succeeds it.alone it.from_alone) ∙ ap (λ r. is_ok r) c.in-Err.is))

pub returns-clause-held : goal.returns-clause-held
returns-clause-held c raws s can =
    let k = sized _ _ _ _ s raws _ c.args.at.0 _ can c.young_size-size.ensures.same (c.young_size-size.ensures.size raws) in
    copied-there _ _ _ s raws _ c.args.at.0 _ k _ _ c.place-to.ensures.places c.evacuate.new.frames c.evacuate.ensures.keeps (λ now has size free. c.in-Ok.ensures.held _ raws now has size free) c.evacuate.ensures.sound

pub returns-clause-fresh : goal.returns-clause-fresh
returns-clause-fresh c raws s can =
    let k = sized _ _ _ _ s raws _ c.args.at.0 _ can c.young_size-size.ensures.same (c.young_size-size.ensures.size raws) in
    (ready _ _ _ s raws _ c.args.at.0 _ k _ _ c.place-to.ensures.places).fresh

pub returns-clause-places : goal.returns-clause-places
returns-clause-places c raws s can =
    let k = sized _ _ _ _ s raws _ c.args.at.0 _ can c.young_size-size.ensures.same (c.young_size-size.ensures.size raws) in
    subst (λ (n : ℕ). Places c.args.zygote.now c.place-to.new.self c.place-to.result.0 n) k.size_is c.place-to.ensures.places

pub returns-clause-keeps : goal.returns-clause-keeps
returns-clause-keeps c raws s may can covers here =
    let k = sized _ _ _ _ s raws _ c.args.at.0 _ can c.young_size-size.ensures.same (c.young_size-size.ensures.size raws) in
    subst (λ (m : Memory). Keeps m c.evacuate.new.frames c.args.t.0 may) c.young_size-size.ensures.same
    (c.evacuate.ensures.keeps may (subst (Covers may c.place-to.result.0) (sym k.size_is) covers) here)

pub returns-clause-reads : goal.returns-clause-reads
returns-clause-reads c =
    let same = ap (λ (m : Memory). m.reads) c.young_size-size.ensures.same in
    c.in-Ok.ensures.reads ∙ steps-free _ c.args.at.0 (c.young_size-size.result / 8) (regions-low c.args.at.0 c.requires.2.inside) ∙ same
