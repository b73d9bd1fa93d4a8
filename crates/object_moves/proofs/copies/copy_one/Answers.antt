use Rattle.std.proofs.Common.{◌∙◌, is_ok, sym, ap, subst, arith, true≢false}
use Rattle.cow_pages.specs.Memory.{Memory}
use Rattle.region_space.specs.Space.{filled, further_pages, lists_of, would_open, HasPages, IsSize}
use Rattle.object_moves.proofs.One.{copied, found-alone, found-aligned, found-apart, found-fresh, found-from, found-size, found-to, known, size-fits, young-here}
use Rattle.object_moves.proofs.copies.copy_one.Goals as goal

pub young_size-size-requires : goal.young_size-size-requires
young_size-size-requires c = (c.requires.0, young-here _ _ _ _ c.requires.0 c.args.at.0 c.requires.1)

pub place_copy-to-requires-clause-size : goal.place_copy-to-requires-clause-size
place_copy-to-requires-clause-size c =
    let can = c.requires.1 in
    subst IsSize (sym (c.young_size-size.ensures.size c.requires.0 (young-here _ _ _ _ c.requires.0 c.args.at.0 can))) (size-fits _ _ _ _ c.requires.0 c.args.at.0 can)

pub place_copy-to-requires-clause-room : goal.place_copy-to-requires-clause-room
place_copy-to-requires-clause-room c =
    let can = c.requires.1 in
    let same = ap (would_open c.args.regions.now.in_use) (c.young_size-size.ensures.size c.requires.0 (young-here _ _ _ _ c.requires.0 c.args.at.0 can)) in
    omega (arith, same, can.room)

pub place_copy-to-requires-clause-spare : goal.place_copy-to-requires-clause-spare
place_copy-to-requires-clause-spare c =
    let can = c.requires.1 in
    let pages = ap (further_pages c.args.regions.now.in_use) (c.young_size-size.ensures.size c.requires.0 (young-here _ _ _ _ c.requires.0 c.args.at.0 can)) in
    let spare = ap (λ (m : Memory). m.spare) c.young_size-size.ensures.same in
    omega (arith, pages, spare, can.spare)

pub place_copy-to-requires-clause-pages : goal.place_copy-to-requires-clause-pages
place_copy-to-requires-clause-pages c = subst (λ (m : Memory). HasPages m c.args.t.0 (filled (lists_of c.args.regions.now))) (sym c.young_size-size.ensures.same) c.requires.1.held.pages

pub evacuate-requires-clause-to_aligned : goal.evacuate-requires-clause-to_aligned
evacuate-requires-clause-to_aligned c =
    let is = c.place_copy-to.ensures in
    found-aligned _ _ _ _ _ _ _ _ _ _ (known _ _ _ _ _ _ _ c.requires.0 c.args.at.0 _ _ c.requires.1 c.young_size-size.ensures.same (c.young_size-size.ensures.size c.requires.0 (young-here _ _ _ _ c.requires.0 c.args.at.0 c.requires.1)) is.places is.maps is.pages is.space)

pub evacuate-requires-clause-size_aligned : goal.evacuate-requires-clause-size_aligned
evacuate-requires-clause-size_aligned c =
    let is = c.place_copy-to.ensures in
    (found-size _ _ _ _ _ _ _ _ _ _ (known _ _ _ _ _ _ _ c.requires.0 c.args.at.0 _ _ c.requires.1 c.young_size-size.ensures.same (c.young_size-size.ensures.size c.requires.0 (young-here _ _ _ _ c.requires.0 c.args.at.0 c.requires.1)) is.places is.maps is.pages is.space)).multiple

pub evacuate-requires-clause-some : goal.evacuate-requires-clause-some
evacuate-requires-clause-some c =
    let is = c.place_copy-to.ensures in
    let fits = found-size _ _ _ _ _ _ _ _ _ _ (known _ _ _ _ _ _ _ c.requires.0 c.args.at.0 _ _ c.requires.1 c.young_size-size.ensures.same (c.young_size-size.ensures.size c.requires.0 (young-here _ _ _ _ c.requires.0 c.args.at.0 c.requires.1)) is.places is.maps is.pages is.space) in omega (arith, fits.least)

pub evacuate-requires-clause-from_space : goal.evacuate-requires-clause-from_space
evacuate-requires-clause-from_space c =
    let is = c.place_copy-to.ensures in
    found-from _ _ _ _ _ _ _ _ _ _ (known _ _ _ _ _ _ _ c.requires.0 c.args.at.0 _ _ c.requires.1 c.young_size-size.ensures.same (c.young_size-size.ensures.size c.requires.0 (young-here _ _ _ _ c.requires.0 c.args.at.0 c.requires.1)) is.places is.maps is.pages is.space)

pub evacuate-requires-clause-to_space : goal.evacuate-requires-clause-to_space
evacuate-requires-clause-to_space c =
    let is = c.place_copy-to.ensures in
    found-to _ _ _ _ _ _ _ _ _ _ (known _ _ _ _ _ _ _ c.requires.0 c.args.at.0 _ _ c.requires.1 c.young_size-size.ensures.same (c.young_size-size.ensures.size c.requires.0 (young-here _ _ _ _ c.requires.0 c.args.at.0 c.requires.1)) is.places is.maps is.pages is.space)

pub evacuate-requires-clause-apart : goal.evacuate-requires-clause-apart
evacuate-requires-clause-apart c =
    let is = c.place_copy-to.ensures in
    found-apart _ _ _ _ _ _ _ _ _ _ (known _ _ _ _ _ _ _ c.requires.0 c.args.at.0 _ _ c.requires.1 c.young_size-size.ensures.same (c.young_size-size.ensures.size c.requires.0 (young-here _ _ _ _ c.requires.0 c.args.at.0 c.requires.1)) is.places is.maps is.pages is.space)

pub unreachable-requires : goal.unreachable-requires
unreachable-requires c =
    let is = c.place_copy-to.ensures in
    let alone = found-alone _ _ _ _ _ _ _ _ _ _ (known _ _ _ _ _ _ _ c.requires.0 c.args.at.0 _ _ c.requires.1 c.young_size-size.ensures.same (c.young_size-size.ensures.size c.requires.0 (young-here _ _ _ _ c.requires.0 c.args.at.0 c.requires.1)) is.places is.maps is.pages is.space) in
    absurd (true≢false (sym (c.evacuate.ensures.succeeds alone.0 alone.1) ∙ ap (λ r. is_ok r) c.in-Err.is))

pub returns-clause-held : goal.returns-clause-held
returns-clause-held c raws can =
    let is = c.place_copy-to.ensures in
    (copied _ _ _ _ _ _ _ _ _ _ (known _ _ _ _ _ _ _ raws c.args.at.0 _ _ can c.young_size-size.ensures.same (c.young_size-size.ensures.size raws (young-here _ _ _ _ raws c.args.at.0 can)) is.places is.maps is.pages is.space) c.evacuate.new.frames c.evacuate.ensures.keeps (λ now has size free. c.in-Ok.ensures.held _ raws now has size free) c.in-Ok.ensures.reads c.evacuate.ensures.sound).held

pub returns-clause-spare : goal.returns-clause-spare
returns-clause-spare c raws can =
    let is = c.place_copy-to.ensures in
    (copied _ _ _ _ _ _ _ _ _ _ (known _ _ _ _ _ _ _ raws c.args.at.0 _ _ can c.young_size-size.ensures.same (c.young_size-size.ensures.size raws (young-here _ _ _ _ raws c.args.at.0 can)) is.places is.maps is.pages is.space) c.evacuate.new.frames c.evacuate.ensures.keeps (λ now has size free. c.in-Ok.ensures.held _ raws now has size free) c.in-Ok.ensures.reads c.evacuate.ensures.sound).spare

pub returns-clause-fresh : goal.returns-clause-fresh
returns-clause-fresh c raws can =
    let is = c.place_copy-to.ensures in
    found-fresh _ _ _ _ _ _ _ _ _ _ (known _ _ _ _ _ _ _ raws c.args.at.0 _ _ can c.young_size-size.ensures.same (c.young_size-size.ensures.size raws (young-here _ _ _ _ raws c.args.at.0 can)) is.places is.maps is.pages is.space)

pub returns-clause-places : goal.returns-clause-places
returns-clause-places c raws can =
    let is = c.place_copy-to.ensures in
    (known _ _ _ _ _ _ _ raws c.args.at.0 _ _ can c.young_size-size.ensures.same (c.young_size-size.ensures.size raws (young-here _ _ _ _ raws c.args.at.0 can)) is.places is.maps is.pages is.space).places

pub returns-clause-outside : goal.returns-clause-outside
returns-clause-outside c =
    let is = c.place_copy-to.ensures in
    (copied _ _ _ _ _ _ _ _ _ _ (known _ _ _ _ _ _ _ c.requires.0 c.args.at.0 _ _ c.requires.1 c.young_size-size.ensures.same (c.young_size-size.ensures.size c.requires.0 (young-here _ _ _ _ c.requires.0 c.args.at.0 c.requires.1)) is.places is.maps is.pages is.space) c.evacuate.new.frames c.evacuate.ensures.keeps (λ now has size free. c.in-Ok.ensures.held _ c.requires.0 now has size free) c.in-Ok.ensures.reads c.evacuate.ensures.sound).outside

pub returns-clause-only : goal.returns-clause-only
returns-clause-only c =
    let is = c.place_copy-to.ensures in
    (copied _ _ _ _ _ _ _ _ _ _ (known _ _ _ _ _ _ _ c.requires.0 c.args.at.0 _ _ c.requires.1 c.young_size-size.ensures.same (c.young_size-size.ensures.size c.requires.0 (young-here _ _ _ _ c.requires.0 c.args.at.0 c.requires.1)) is.places is.maps is.pages is.space) c.evacuate.new.frames c.evacuate.ensures.keeps (λ now has size free. c.in-Ok.ensures.held _ c.requires.0 now has size free) c.in-Ok.ensures.reads c.evacuate.ensures.sound).only
