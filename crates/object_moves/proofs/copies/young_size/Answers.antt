use Rattle.std.proofs.Common.{◌≡◌, ◌∙◌, sym, ap, subst, arith}
use Rattle.cow_pages.specs.View.{view_of}
use Rattle.heap_graph.specs.Sizes.{size_in}
use Rattle.object_view.specs.Objects.{IsKnown}
use Rattle.raw_objects.specs.Raws.{raw_size}
use Rattle.object_moves.proofs.One.{read-same, shape-is}
use Rattle.object_moves.proofs.copies.young_size.Goals as goal

pub read_shape-shape-requires : goal.read_shape-shape-requires
read_shape-shape-requires c = ((c.requires.0.raw c.args.at.0).shape, shape-is c.args.classes.now (view_of c.args.frames.now c.args.t.0) c.requires.0 c.args.at.0 c.requires.1)

pub size_of-requires : goal.size_of-requires
size_of-requires c =
    let shape = shape-is c.args.classes.now (view_of c.args.frames.now c.args.t.0) c.requires.0 c.args.at.0 c.requires.1 in
    subst (IsKnown c.args.classes.now) (sym (c.read_shape-shape.ensures.only (c.requires.0.raw c.args.at.0).shape shape)) (c.requires.1.holds.known c.args.at.0 c.requires.1.has)

pub overflow_cast-result : goal.overflow_cast-result
overflow_cast-result c =
    let shape = shape-is c.args.classes.now (view_of c.args.frames.now c.args.t.0) c.requires.0 c.args.at.0 c.requires.1 in
    let is : c.size_of.result ≡ raw_size c.args.classes.now c.requires.0 c.args.at.0 = c.size_of.ensures ∙ ap (size_in c.args.classes.now) (c.read_shape-shape.ensures.only (c.requires.0.raw c.args.at.0).shape shape) in
    omega (arith, is, c.requires.1.fits)

pub returns-clause-size : goal.returns-clause-size
returns-clause-size c raws young =
    let shape = shape-is c.args.classes.now (view_of c.args.frames.now c.args.t.0) raws c.args.at.0 young in
    c.size_of.ensures ∙ ap (size_in c.args.classes.now) (c.read_shape-shape.ensures.only (raws.raw c.args.at.0).shape shape)

pub returns-clause-same : goal.returns-clause-same
returns-clause-same c = read-same c.args.frames.now c.read_shape-shape.new.frames c.args.t.0 c.args.at.0 c.read_shape-shape.result c.requires.1.inside c.read_shape-shape.ensures.reads
