use Rattle.std.proofs.Common.{◌≡◌, ℕ, List, subst}
use Rattle.std.specs.Prelude.{OnOk}
use Rattle.std.specs.List.{flat_map}
use Rattle.hprof_convert.specs.Identifiers.{constant_ids, field_ids, static_ids}
use Rattle.hprof_convert.proofs.Namings.{three-named}
use Rattle.hprof_convert.proofs.identifiers.name_lists.Goals as goal

pub returns : goal.returns
returns c =
    subst (λ (l : List ℕ). OnOk c.name_fields.result (c.name_fields.new.names ≡ l))
    (three-named c.args.names.now c.name_constants.new.names c.name_statics.new.names
    (flat_map (constant_ids c.args.width) c.args.constants.now) (flat_map (static_ids c.args.width) c.args.statics.now) (flat_map field_ids c.args.fields.now)
    c.in_ok-name_constants.ensures c.in_ok-name_statics.ensures)
    c.name_fields.ensures
