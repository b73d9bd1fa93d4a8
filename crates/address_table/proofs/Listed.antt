-- The addresses in a row are those of the table.
use Rattle.std.proofs.Common.{◌≡◌, ℕ, ◌+◌, inl, inr, List, [], ◌∷◌, map, refl, sym, ap, ◌∙◌, arith}
use Rattle.class_layout.specs.ClassList.{Class}
use Rattle.class_layout.specs.Placing.{IsIn}
use Rattle.heap_graph.specs.Graph.{Object}
use Rattle.heap_graph.specs.Formed.{AreRising}
use Rattle.address_table.specs.Computed.{address_in, addresses_from, end_behind, large_behind, table_from, Homes}
use Rattle.address_table.proofs.Behind.{rising-in, table-first, table-later}

-- what is the same of each element makes the same list
map-same : (f g : Object → ℕ) (os : List Object) → ((o : Object) → IsIn o os → f o ≡ g o) → map f os ≡ map g os
map-same f g [] same = refl
map-same f g (o ∷ os) same = ap (λ n. n ∷ map f os) (same o (inl refl)) ∙ ap (λ ns. g o ∷ ns) (map-same f g os (λ x h. same x (inr h)))

pub listed : (homes : Homes) (cs : List Class) (low next end large : ℕ) (os : List Object) → AreRising low next os
    → addresses_from homes cs end large os ≡ map (λ o. table_from homes cs end large os o.number) os
listed homes cs low next end large [] rising = refl
listed homes cs low next end large (x ∷ os) rising =
    let f : Object → ℕ = λ o. table_from homes cs (end_behind cs end x x.place) (large_behind large x.place) os o.number in
    let g : Object → ℕ = λ o. table_from homes cs end large (x ∷ os) o.number in
    ap (λ ns. address_in homes cs end large x x.place ∷ ns) (listed homes cs (x.number + 1) next (end_behind cs end x x.place) (large_behind large x.place) os rising.1)
    ∙ ap (λ n. n ∷ map f os) (sym (table-first homes cs end large x os))
    ∙ ap (λ ns. table_from homes cs end large (x ∷ os) x.number ∷ ns)
    (map-same f g os (λ o h. let above = rising-in (x.number + 1) next os o rising.1 h in sym (table-later homes cs end large x os o.number (omega (arith, above)))))
