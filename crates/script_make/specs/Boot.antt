-- The fixed lines, with which each made script begins.
use Rattle.std.specs.Prelude.{ℕ, List, [], ◌∷◌, codes}

-- a class, eight objects, an array of references, and the seal
abbrev pub boot_lines : List (List ℕ)
boot_lines =
    codes "zygote class Node java.lang.Object next:ref other:ref id:int"
    ∷ codes "zygote new r0 Node"
    ∷ codes "zygote new r1 Node"
    ∷ codes "zygote new r2 Node"
    ∷ codes "zygote new r3 Node"
    ∷ codes "zygote new r4 Node"
    ∷ codes "zygote new r5 Node"
    ∷ codes "zygote new r6 Node"
    ∷ codes "zygote new r7 Node"
    ∷ codes "zygote array t ref 64"
    ∷ codes "zygote seal"
    ∷ []
