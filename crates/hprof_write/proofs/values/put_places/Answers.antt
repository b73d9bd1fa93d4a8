use Rattle.std.proofs.Common.{◌∙◌, false, get_or, arith}
use Rattle.class_layout.specs.declared.kind.Kind.TheVariants.{Ref}
use Rattle.class_layout.specs.declared.kind.FieldAt.{FieldAt}
use Rattle.object_view.specs.Seen.{is_in_window}
use Rattle.hprof_write.proofs.ValuesAt.{has-there, reads-there, some-at, values-there}
use Rattle.hprof_write.proofs.values.put_places.Goals as goal

abbrev none : FieldAt
none = record { kind = Ref; offset = 0; weak = false }

pub put_place-requires : goal.put_place-requires
put_place-requires g c =
    let first = c.args.view.now in
    let view = c.loop-place.view in
    let inv = c.loop-place.invariant in
    let k = c.loop-place.place-index in
    let places = c.args.places.now in (
      c.requires.0,
      has-there (g.V.HeapView.graph first) (g.V.HeapView.graph view) (g.V.HeapView.table first) (g.V.HeapView.table view) c.args.at.0 places k (get_or places k none)
          c.requires.0 (g.met.V.HeapView.same_graph first view inv.same) (g.met.V.HeapView.same_table first view inv.same) (some-at places k none (omega arith)) c.requires.1,
    )

pub loop-place-preserved : goal.loop-place-preserved
loop-place-preserved g c =
    let first = c.args.view.now in
    let view = c.loop-place.view in
    let next = c.put_place.new.view in
    let inv = c.loop-place.invariant in
    let k = c.loop-place.place-index in
    let places = c.args.places.now in
    record {
      given = c.put_place.ensures.given ∙ inv.given;
      same = g.met.V.HeapView.same_as_same first view next inv.same c.put_place.ensures.same;
      put = λ o has. values-there (g.V.HeapView.graph first) (g.V.HeapView.graph view) (g.V.HeapView.table first) (g.V.HeapView.table view) c.args.at.0 places k (get_or places k none)
          o c.args.out.now.items c.loop-place.out.items c.put_place.new.out.items (g.met.V.HeapView.same_graph first view inv.same) (g.met.V.HeapView.same_table first view inv.same)
          (some-at places k none (omega arith)) has (inv.put o has) (λ there. c.in_ok-put_place.ensures.ok o there);
      reads = reads-there (is_in_window c.args.at.0) k (g.V.HeapView.read_count first) (g.V.HeapView.read_count view) (g.V.HeapView.read_count next) inv.reads c.put_place.ensures.reads;
    }
