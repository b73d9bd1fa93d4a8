use Rattle.object_collection.proofs.Steps.{can-copy}
use Rattle.object_collection.proofs.phases.move_young.Goals as goal

pub returns-clause-moved : goal.returns-clause-moved
returns-clause-moved c raws ok =
    let can = can-copy _ _ _ c.args.regions.now _ raws c.args.young.now c.flip.ensures.flips c.flip.ensures.space ok in
    record {
      held = c.copy_all.ensures.held raws can;
      moves = c.copy_all.ensures.moves raws can;
      packed = c.copy_all.ensures.packed raws can;
    }

pub copy_all-requires : goal.copy_all-requires
copy_all-requires c = (c.requires.0, can-copy _ _ _ c.args.regions.now _ c.requires.0 c.args.young.now c.flip.ensures.flips c.flip.ensures.space c.requires.1)
