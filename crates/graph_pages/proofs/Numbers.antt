-- Rising numbers differ.
use Rattle.std.proofs.Common.{◌≡◌, ◌∙◌, ℕ, ◌+◌, List, [], ◌∷◌, sym, ap, inl, inr, arith}
use Rattle.heap_graph.specs.Graph.{Object}
use Rattle.heap_graph.specs.Formed.{AreRising}
use Rattle.address_table.proofs.Behind.{rising-in}
use Rattle.graph_pages.proofs.Graphs.{NumbersDiffer}

pub numbers-differ : (low next : ℕ) (os : List Object) → AreRising low next os → NumbersDiffer os
numbers-differ low next [] h o p a b e = absurd a
numbers-differ low next (q ∷ os) h o p (inl x) (inl y) e = sym x ∙ y
numbers-differ low next (q ∷ os) h o p (inl x) (inr y) e =
    let same : q.number ≡ o.number = ap (λ (r : Object). r.number) x in
    absurd (omega (arith, same, e, rising-in (q.number + 1) next os p h.1 y))
numbers-differ low next (q ∷ os) h o p (inr x) (inl y) e =
    let same : q.number ≡ p.number = ap (λ (r : Object). r.number) y in
    absurd (omega (arith, same, e, rising-in (q.number + 1) next os o h.1 x))
numbers-differ low next (q ∷ os) h o p (inr x) (inr y) e = numbers-differ (q.number + 1) next os h.1 o p x y e
