use Rattle.std.proofs.Common.{ℕ, List, ◌++◌, inl, inr, refl, sym, ap, ◌∙◌}
use Rattle.hprof_records.specs.Fields.{field}
use Rattle.hprof_read.proofs.Header.{begins}
use Rattle.hprof_wide.specs.Dump.{text_2, text_3}
use Rattle.hprof_wide.proofs.dump.behind_text.Goals as goal

pub returns-in-Some-clause-found : goal.returns-in-Some-clause-found
returns-in-Some-clause-found c =
    let magic = text_3 ++ field 1 0 in
    (text_3, (inr refl, begins magic c.args.bytes.now c.in-Some.ensures.cases.0 ∙ ap (λ (t : List ℕ). magic ++ t) (sym c.in-Some.ensures.cases.1)))

pub returns-in-Some-strip_prefix-clause-found : goal.returns-in-Some-strip_prefix-clause-found
returns-in-Some-strip_prefix-clause-found c =
    let magic = text_2 ++ field 1 0 in
    (text_2, (inl refl, begins magic c.args.bytes.now c.in-Some-strip_prefix.ensures.cases.0 ∙ ap (λ (t : List ℕ). magic ++ t) (sym c.in-Some-strip_prefix.ensures.cases.1)))
