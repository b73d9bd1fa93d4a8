-- A list of classes. A class's number is its place in the list, from 0.
use Rattle.std.specs.Prelude.{◌≡◌, ℕ, ◌+◌, ◌*◌, ◌<◌, ◌≤◌, Bool, true, false, ◌||◌, List, [], ◌∷◌, ◌++◌, Option, None, Some, Result, Ok, Err, IfSome, length, map, nat_eq, nat_le, slice_get, is_some, unwrap_or, position}
use Rattle.std.specs.List.{list_any}
use Rattle.model_numbers.specs.Numbers.{class_limit}
use Rattle.class_layout.specs.declared.kind.Kind.TheVariants.{Ref}
use Rattle.class_layout.specs.declared.kind.FieldDecl.{FieldDecl}
use Rattle.class_layout.specs.declared.classes.DefineError.{DefineError}
use Rattle.class_layout.specs.declared.classes.DefineError.TheVariants.{Taken, NoSuper, Limit, FieldTaken}
use Rattle.class_layout.specs.Kinds.{next_multiple}
use Rattle.class_layout.specs.Layout.{Laid, Placed, bare, lay_out}
use Rattle.class_layout.specs.Names.{same_name, object_name, weak_reference_name, referent_name}

-- a class: its name, the number of its superclass, and its own fields in the order of declaration
pub record Class : Type 0 where
  pub name : List ℕ
  pub parent : Option ℕ
  pub fields : List FieldDecl

-- class 0 has no fields; class 1 has the one field that is weak
abbrev pub builtin_classes : List Class
builtin_classes =
    record { name = object_name; parent = None; fields = [] }
    ∷ record { name = weak_reference_name; parent = Some 0; fields = record { name = referent_name; kind = Ref } ∷ [] }
    ∷ []

-- what the superclass's fields take; nothing but the header where there is no superclass
abbrev pub inherited : List Laid → Option ℕ → Laid
inherited done None = bare
inherited done (Some p) = unwrap_or (slice_get done p) bare

-- the layouts of classes, given those of the classes before them; the fields of class 1 alone are weak
abbrev pub layouts_after : List Laid → List Class → List Laid
layouts_after done [] = done
layouts_after done (c ∷ cs) = layouts_after (done ++ lay_out (nat_eq (length done) 1) (inherited done c.parent) c.fields ∷ []) cs

-- the layout of each class, by number
abbrev pub layouts : List Class → List Laid
layouts cs = layouts_after [] cs

-- the layout of the class of a number
abbrev pub layout_of : List Class → ℕ → Laid
layout_of cs k = unwrap_or (slice_get (layouts cs) k) bare

-- the size of an object of the class
abbrev pub size_of : List Class → ℕ → ℕ
size_of cs k = next_multiple 8 (layout_of cs k).end

-- the own fields of the class of a number
abbrev pub own_fields_of : List Class → ℕ → List FieldDecl
own_fields_of cs k = unwrap_or (slice_get (map (λ c. c.fields) cs) k) []

-- the number of the class of a name
abbrev pub number_of : List Class → List ℕ → Option ℕ
number_of cs name = position (λ c. same_name c.name name) cs

-- a name stands among these fields
abbrev pub declares : List FieldDecl → List ℕ → Bool
declares fs name = list_any (λ f. same_name f.name name) fs

-- a field name occurs twice
abbrev pub repeats : List FieldDecl → Bool
repeats [] = false
repeats (f ∷ fs) = declares fs f.name || repeats fs

-- a field name occurs among fields that are laid out
abbrev pub occurs_in : Laid → List FieldDecl → Bool
occurs_in laid fs = list_any (λ f. list_any (λ p. same_name p.name f.name) laid.fields) fs

-- the last step of defining a class: whether a field name is taken
abbrev pub define_after_fields : List Class → Class → Bool → Result (List Class) DefineError
define_after_fields cs c true = Err FieldTaken
define_after_fields cs c false = Ok (cs ++ c ∷ [])

-- the step before it: whether there are as many classes as may be
abbrev pub define_after_limit : List Class → List ℕ → ℕ → List FieldDecl → Bool → Result (List Class) DefineError
define_after_limit cs name p fs true = Err Limit
define_after_limit cs name p fs false =
    define_after_fields cs (record { name = name; parent = Some p; fields = fs }) (repeats fs || occurs_in (layout_of cs p) fs)

-- the step before that: whether the superclass is known, and by which number
abbrev pub define_under : List Class → List ℕ → Option ℕ → List FieldDecl → Result (List Class) DefineError
define_under cs name None fs = Err NoSuper
define_under cs name (Some p) fs = define_after_limit cs name p fs (nat_le class_limit (length cs))

-- the first step: whether a class has the name
abbrev pub define_new : List Class → List ℕ → List ℕ → List FieldDecl → Bool → Result (List Class) DefineError
define_new cs name parent fs true = Err Taken
define_new cs name parent fs false = define_under cs name (number_of cs parent) fs

-- what defining a class gives: the list with the class at its end, or the first refusal that fits
abbrev pub define_class : List Class → List ℕ → List ℕ → List FieldDecl → Result (List Class) DefineError
define_class cs name parent fs = define_new cs name parent fs (is_some (number_of cs name))

-- what a class inherits: its superclass's layout, and nothing but the header without a superclass
abbrev pub superclass_layout : List Class → Option ℕ → Laid
superclass_layout cs None = bare
superclass_layout cs (Some p) = layout_of cs p

-- a number is that of a class before this one
abbrev pub IsEarlier : ℕ → Option ℕ → Type 0
IsEarlier k None = k ≡ 0
IsEarlier k (Some p) = p < k

-- a field name of a layout occurs twice
abbrev pub names_repeat : List Placed → Bool
names_repeat [] = false
names_repeat (p ∷ ps) = list_any (λ q. same_name q.name p.name) ps || names_repeat ps

-- what holds of each list that `define` can make
pub record IsClassList (cs : List Class) : Type 0 where
  pub builtin : (rest : List Class) × (cs ≡ builtin_classes ++ rest)
  pub few : length cs ≤ class_limit
  -- each superclass stands before its class, and class 0 alone has none
  pub parents : (k : ℕ) → IfSome (slice_get cs k) (λ c. IsEarlier k c.parent)
  -- the class of a class's name is that class
  pub names : (k : ℕ) → IfSome (slice_get cs k) (λ c. number_of cs c.name ≡ Some k)
  -- a field is found by its name
  pub fields : (k : ℕ) → names_repeat (layout_of cs k).fields ≡ false
  -- every place in an object fits 32 bits
  pub ends : (k : ℕ) → (layout_of cs k).end ≤ 8 + 61440 * k
