use Rattle.std.proofs.Common.{◌≡◌, ◌∙◌, ◌++◌, rules, to_z, of_z, ap}
use Rattle.std.specs.Int.{w64}
use Rattle.std.proofs.lemmas.Int.{to_z-of_z}
use Rattle.std.proofs.lemmas.Result.{on_ok_weaker}
use Rattle.hprof_write.specs.Objects.{value_bytes}
use Rattle.hprof_write.proofs.ValuesAt.{one-value}
use Rattle.hprof_write.proofs.values.put_place.Goals as goal

pub value-v-requires : goal.value-v-requires
value-v-requires g c =
    (c.requires.0, c.args.place, one-value (g.V.HeapView.graph c.args.view.now) (g.V.HeapView.table c.args.view.now) c.args.at.0 c.args.place c.requires.0 c.requires.1)

pub returns-clause-ok : goal.returns-clause-ok
returns-clause-ok g c =
    let back : to_z w64 (of_z w64 c.value-v.result) ≡ c.value-v.result = to_z-of_z w64 c.value-v.result (search rules) in
    on_ok_weaker c.put_value.result
    (λ h o has. h ∙ ap (λ z. c.args.out.now.items ++ value_bytes c.args.place.kind z)
    (back ∙ c.value-v.ensures.value o c.args.place (one-value (g.V.HeapView.graph c.args.view.now) (g.V.HeapView.table c.args.view.now) c.args.at.0 c.args.place o has)))
    c.put_value.ensures
