-- The state in which a class is defined.
use Rattle.std.specs.Prelude.{◌≡◌, ℕ, ◌<◌, false, List, None, length}
use Rattle.model_numbers.specs.Numbers.{class_limit}
use Rattle.class_layout.specs.declared.kind.FieldDecl.{FieldDecl}
use Rattle.class_layout.specs.ClassList.{Class, layout_of, number_of, repeats, occurs_in}

-- no refusal fits a class of this name and these fields below the class p
pub record IsDefinable (cs : List Class) (name : List ℕ) (p : ℕ) (fs : List FieldDecl) : Type 0 where
  pub fresh : number_of cs name ≡ None
  pub super_before : p < length cs
  pub room : length cs < class_limit
  pub once : repeats fs ≡ false
  pub apart : occurs_in (layout_of cs p) fs ≡ false
