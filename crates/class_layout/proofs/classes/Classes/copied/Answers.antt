use Rattle.std.proofs.Common.{rules, ◌≡◌, ◌∙◌}
use Rattle.std.specs.List.{each_same}
use Rattle.class_layout.specs.Rows.{classes_of, AreRows}
use Rattle.class_layout.proofs.Copies.{copied_rows}
use Rattle.class_layout.proofs.classes.Classes.copied.Goals as goal

-- each row is copied with all that it says
copies : (c : goal.In_ok-rows) → (classes_of c.in_ok-rows.rows.entries ≡ classes_of c.self.inside.rows.entries) × AreRows c.in_ok-rows.rows.entries
copies c =
    copied_rows _ (λ x y r. (
      r.0,
      record {
        super = search (rules, r.1.0);
        own = each_same x.1.fields.items y.1.fields.items r.1.1.0.0;
        offsets = each_same x.1.offsets.items y.1.offsets.items r.1.1.1.0.0;
        before = r.1.1.1.1.0;
        refs = r.1.1.1.1.1.0;
        first = r.1.1.1.1.1.1.0;
        ends = r.1.1.1.1.1.1.1;
      },
    )) c.self.inside.rows.entries c.in_ok-rows.rows.entries c.in_ok-rows.ensures.cases c.self.invariant

pub invariant_of-result : goal.invariant_of-result
invariant_of-result c = (copies c).1

pub returns : goal.returns
returns c = (copies c).0 ∙ c.self.view_is
