use Rattle.std.proofs.Common.{◌∙◌, ◌<◌, length, refl, ap, arith}
use Rattle.std.specs.Prelude.{option_map}
use Rattle.std.proofs.lemmas.List.{length-set}
use Rattle.raw_objects.specs.Raws.{Raws}
use Rattle.region_lists.specs.Rows.{Lists}
use Rattle.object_moves.specs.Copies.{moved}
use Rattle.zygote_space.specs.Space.{Segment}
use Rattle.object_promotion.proofs.AllCopies.{copying-all, copying-can, copying-next, copying-none}
use Rattle.object_promotion.proofs.Filling.{fills-closed}
use Rattle.object_promotion.proofs.copies.move_to_segment.Goals as goal

pub loop-i-init : goal.loop-i-init
loop-i-init c = record { copying = λ raws s ok. copying-none _ _ _ s raws _ c.args.young.now ok; len = refl; reads = refl }

pub copy_to_spot-to-requires : goal.copy_to_spot-to-requires
copy_to_spot-to-requires c =
    let raws : Raws = c.requires.0 in
    let s : Lists = c.requires.1 in
    let ok = c.requires.2 in
    let below : c.loop-i.i < length c.args.young.now = omega (arith, c.loop-i.invariant.len) in
    (moved raws c.args.young.now c.loop-i.young c.loop-i.i, s, copying-can _ _ _ s raws _ c.args.young.now ok _ _ _ c.loop-i.i below (c.loop-i.invariant.copying raws s ok))

pub loop-i-preserved : goal.loop-i-preserved
loop-i-preserved c =
    let below : c.loop-i.i < length c.args.young.now = omega (arith, c.loop-i.invariant.len) in
    record {
      copying = λ raws s ok.
          let was = c.loop-i.invariant.copying raws s ok in
          let can = copying-can _ _ _ s raws _ c.args.young.now ok _ _ _ c.loop-i.i below was in
          let is = c.copy_to_spot-to.ensures in
          copying-next _ _ _ s raws _ c.args.young.now ok _ _ _ c.loop-i.i below was _ _ _ (is.held _ s can) (is.fresh _ s can) (is.places _ s can) (λ may covers here. is.keeps _ s may can covers here) is.space
          (omega (arith, below, c.loop-i.invariant.len));
      len = length-set c.loop-i.young c.loop-i.i _ ∙ c.loop-i.invariant.len;
      reads = c.copy_to_spot-to.ensures.reads ∙ c.loop-i.invariant.reads;
    }

pub close_segment-requires : goal.close_segment-requires
close_segment-requires c =
    let raws : Raws = c.requires.0 in
    let s : Lists = c.requires.1 in
    let ok = c.requires.2 in
    let all = copying-all _ _ _ s raws _ c.args.young.now ok _ _ _ c.loop-i.i c.loop-i.invariant.len (omega (arith, c.loop-i.invariant.len)) (c.loop-i.invariant.copying raws s ok) in
    ap (option_map (λ (it : Segment). it.rest)) all.fills.segment

pub returns-clause-held : goal.returns-clause-held
returns-clause-held c raws s ok =
    (copying-all _ _ _ s raws _ c.args.young.now ok _ _ _ c.loop-i.i c.loop-i.invariant.len (omega (arith, c.loop-i.invariant.len)) (c.loop-i.invariant.copying raws s ok)).held

pub returns-clause-moves : goal.returns-clause-moves
returns-clause-moves c raws s ok =
    (copying-all _ _ _ s raws _ c.args.young.now ok _ _ _ c.loop-i.i c.loop-i.invariant.len (omega (arith, c.loop-i.invariant.len)) (c.loop-i.invariant.copying raws s ok)).moves

pub returns-clause-spots : goal.returns-clause-spots
returns-clause-spots c raws s ok =
    (copying-all _ _ _ s raws _ c.args.young.now ok _ _ _ c.loop-i.i c.loop-i.invariant.len (omega (arith, c.loop-i.invariant.len)) (c.loop-i.invariant.copying raws s ok)).spots

pub returns-clause-gains : goal.returns-clause-gains
returns-clause-gains c raws s ok =
    let all = copying-all _ _ _ s raws _ c.args.young.now ok _ _ _ c.loop-i.i c.loop-i.invariant.len (omega (arith, c.loop-i.invariant.len)) (c.loop-i.invariant.copying raws s ok) in
    fills-closed _ _ _ _ 0 all.fills c.close_segment.ensures.closes

pub returns-clause-keeps : goal.returns-clause-keeps
returns-clause-keeps c raws s may ok young new =
    (copying-all _ _ _ s raws _ c.args.young.now ok _ _ _ c.loop-i.i c.loop-i.invariant.len (omega (arith, c.loop-i.invariant.len)) (c.loop-i.invariant.copying raws s ok)).keeps may young new
