use Rattle.std.proofs.Common.{◌≡◌, ℕ, List, [], ◌∷◌, ◌++◌, ap, sym, subst, ◌∙◌}
use Rattle.std.specs.Prelude.{OnOk}
use Rattle.std.specs.List.{flat_map}
use Rattle.hprof_wide.specs.declared.wide_sub.WideSub.{WideSub}
use Rattle.hprof_convert.specs.Names.{with_names}
use Rattle.hprof_convert.specs.Identifiers.{constant_ids, field_ids, ids_of_part, static_ids}
use Rattle.hprof_convert.proofs.Namings.{two-named}
use Rattle.hprof_convert.proofs.identifiers.name_part.Goals as goal

pub returns-in_ok-name_ids-in-ClassDump : goal.returns-in_ok-name_ids-in-ClassDump
returns-in_ok-name_ids-in-ClassDump c =
    let r = c.in-ClassDump in
    let w = c.args.width in
    let told = rw (c.as_slice.ensures, c.as_slice-in-ClassDump.ensures, c.as_slice-in-ClassDump-2.ensures) at c.name_lists.ensures in
    subst (λ (l : List ℕ). OnOk c.name_lists.result (c.name_lists.new.names ≡ l))
    (two-named c.args.names.now c.name_ids.new.names (r.id ∷ r.parent ∷ r.loader ∷ r.signers ∷ r.domain ∷ r.spare_a ∷ r.spare_b ∷ [])
    (flat_map (constant_ids w) r.constants ++ (flat_map (static_ids w) r.statics ++ flat_map field_ids r.fields))
    c.in_ok-name_ids-in-ClassDump.ensures
    ∙ ap (λ (p : WideSub). with_names c.args.names.now (ids_of_part w c.args.classes.now p)) (sym r.is))
    told
