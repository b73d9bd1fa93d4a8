use Rattle.std.proofs.Common.{◌≡◌, List, ℕ, ◌∷◌, [], sym, subst}
use Rattle.class_layout.specs.declared.kind.Kind.TheVariants.{Ref}
use Rattle.class_layout.specs.Names.{object_name, weak_reference_name, referent_name}
use Rattle.class_layout.specs.Placing.{IsBehind}
use Rattle.class_layout.specs.Rows.{AreRows}
use Rattle.class_layout.proofs.Lists.{at_some}
use Rattle.class_layout.proofs.Growth.{insert_entry-builtin, AreRows-builtin}
use Rattle.class_layout.proofs.classes.Classes.new.Goals as goal

pub invariant_of-result : goal.invariant_of-result
invariant_of-result c =
    let object = c.header-object.result in
    let weak_reference = c.in_ok-weak_reference.weak_reference in
    let P : List ℕ → List ℕ → Type 0 = λ n m. m ≡ n in
    let referent-is = at_some (P referent_name) c.of.result c.unwrap.result c.unwrap.ensures c.of.ensures.value in
    let object-is = at_some (P object_name) c.of-2.result c.unwrap-2.result c.unwrap-2.ensures c.of-2.ensures.value in
    let weak-is = at_some (P weak_reference_name) c.of-3.result c.unwrap-3.result c.unwrap-3.ensures c.of-3.ensures.value in
    let entries = insert_entry-builtin object weak_reference _ _ _ _ _ object-is weak-is c.new-rows.ensures.empty c.in_ok-insert.ensures.entries c.in_ok-insert-2.ensures.entries in
    let behind = subst (λ n. IsBehind 0 object (record { name = n; kind = Ref } ∷ []) weak_reference) referent-is c.in_ok-weak_reference.ensures in
    subst AreRows (sym entries) (AreRows-builtin object weak_reference c.header-object.ensures behind)
