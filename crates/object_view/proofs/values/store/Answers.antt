use Rattle.std.proofs.Common.{◌≡◌, ◌+◌, rules, to_z, of_z}
use Rattle.std.specs.Prelude.{OnOk}
use Rattle.std.specs.Int.{w64}
use Rattle.std.proofs.lemmas.Int.{to_z-of_z}
use Rattle.std.proofs.lemmas.Result.{on_ok_weaker}
use Rattle.cow_pages.specs.View.{view_of}
use Rattle.object_view.specs.Changes.{PutsNumber}
use Rattle.object_view.specs.Values.{number_of}
use Rattle.object_view.proofs.Standing.{Stands-stored}
use Rattle.object_view.proofs.values.store.Goals as goal

pub returns-clause-object : goal.returns-clause-object
returns-clause-object c =
    let e : to_z w64 (of_z w64 c.args.v) ≡ c.args.v = to_z-of_z w64 c.args.v c.ranges.v in
    let puts : OnOk c.store_at.result (PutsNumber (view_of c.args.frames.now c.args.t.0) (view_of c.store_at.new.frames c.args.t.0) c.args.kind (c.args.at.0 + c.args.offset) (number_of c.args.kind c.args.v)) = search rules in
    on_ok_weaker c.store_at.result (λ p cs shape header values place s is. Stands-stored cs _ _ c.args.at.0 shape header values c.args.kind c.args.offset place c.args.v s is p) puts
