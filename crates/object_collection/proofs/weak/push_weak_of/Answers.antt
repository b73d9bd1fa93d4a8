use Rattle.std.proofs.Common.{ℕ, sym, subst}
use Rattle.cow_pages.specs.View.{view_of}
use Rattle.heap_graph.specs.declared.names.Shape.{Shape}
use Rattle.raw_objects.specs.Raws.{Raws}
use Rattle.raw_objects.proofs.Turned.{object-held}
use Rattle.live_objects.specs.Live.{addresses}
use Rattle.object_collection.specs.Weaks.{IsWeakIn}
use Rattle.object_collection.proofs.Growing.{adds-none}
use Rattle.object_collection.proofs.WeakLemmas.{array-none}
use Rattle.object_collection.proofs.weak.push_weak_of.Goals as goal

pub read_shape-requires : goal.read_shape-requires
read_shape-requires c =
    let raws : Raws = c.requires.0 in
    ((raws.raw c.args.at.0).shape, (object-held c.args.classes.now (view_of c.args.frames.now c.args.t.0) raws c.args.at.0 c.requires.1 c.requires.2).has_shape)

pub returns-in-Array-clause-weak : goal.returns-in-Array-clause-weak
returns-in-Array-clause-weak c = λ raws holds has.
    let cs = c.args.classes.now in
    let at : ℕ = c.args.at.0 in
    let is = c.in-Array.ensures.only (raws.raw at).shape (object-held cs (view_of c.args.frames.now c.args.t.0) raws at holds has).has_shape in
    adds-none (IsWeakIn cs (raws.raw at).shape at) (addresses c.args.weak.now.items)
    (λ b it. array-none cs c.in-Array.kind c.in-Array.count at b (subst (λ (s : Shape). IsWeakIn cs s at b) (sym is) it))
