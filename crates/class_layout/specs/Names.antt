-- Names as bytes.
use Rattle.std.specs.Prelude.{ℕ, Bool, List, codes, nat_eq}
use lib.Pointwise.{pointwise}

-- two names have the same bytes
abbrev pub same_name : List ℕ → List ℕ → Bool
same_name = pointwise nat_eq

-- the name of class 0
abbrev pub object_name : List ℕ
object_name = codes "java.lang.Object"

-- the name of class 1
abbrev pub weak_reference_name : List ℕ
weak_reference_name = codes "java.lang.ref.WeakReference"

-- the one field of class 1
abbrev pub referent_name : List ℕ
referent_name = codes "referent"
