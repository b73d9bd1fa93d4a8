-- The pages that are mapped for a graph.
use Rattle.std.proofs.Common.{◌≡◌, ◌∙◌, ◌↔◌, ℕ, ◌+◌, ◌-◌, ◌*◌, ◌<◌, ◌≤◌, inl, inr, arith, Bool, true, false, List, [], ◌∷◌, ◌++◌, refl, sym, ap}
use Rattle.std.specs.Prelude.{nat_eq, nat_le, ◌||◌}
use Rattle.std.specs.List.{list_any}
use Rattle.std.proofs.lemmas.Bool.{and_from, and_parts, cases_eq, leb-true, le-leb}
use Rattle.std.proofs.lemmas.List.Folds.{list_any-append}
use Rattle.class_layout.specs.ClassList.{Class}
use Rattle.class_layout.specs.Placing.{IsIn}
use Rattle.page_tables.specs.declared.address.Window.{Window}
use Rattle.page_tables.specs.Address.{page_of}
use Rattle.cow_pages.specs.Memory.{is_mapped, Memory}
use Rattle.heap_graph.specs.Sizes.{size_in}
use Rattle.object_view.proofs.Laid.{size-bounds}
use Rattle.heap_graph.specs.declared.names.Stored.{Stored}
use Rattle.heap_graph.specs.Graph.{Object}
use Rattle.heap_world.specs.Acts.{stored_in, stored_in_if}
use Rattle.graph_pages.specs.Holds.{SameTable}
use Rattle.graph_pages.specs.Pages.{has_bytes_in, MapsWindow}
use Rattle.graph_pages.proofs.Lists.{any-same}

-- a store leaves each object its bytes
pub bytes-stored : (cs : List Class) (table : ℕ → ℕ) (p n : ℕ) (s : Stored) (os : List Object) → list_any (has_bytes_in cs table p) (stored_in os n s) ≡ list_any (has_bytes_in cs table p) os
bytes-stored cs table p n s [] = refl
bytes-stored cs table p n s (o ∷ os) = by (nat_eq o.number n) (bytes-stored cs table p n s os)
  where
    by : (b : Bool) → list_any (has_bytes_in cs table p) (stored_in os n s) ≡ list_any (has_bytes_in cs table p) os
        → list_any (has_bytes_in cs table p) (stored_in_if b o s ∷ stored_in os n s) ≡ list_any (has_bytes_in cs table p) (o ∷ os)
    by true rest = ap (λ b. has_bytes_in cs table p o || b) rest
    by false rest = ap (λ b. has_bytes_in cs table p o || b) rest

-- and so does a table with the same addresses
pub bytes-same : (cs : List Class) (table next : ℕ → ℕ) (p : ℕ) (os : List Object) → ((o : Object) → IsIn o os → next o.number ≡ table o.number)
    → list_any (has_bytes_in cs next p) os ≡ list_any (has_bytes_in cs table p) os
bytes-same cs table next p os same = any-same (has_bytes_in cs next p) (has_bytes_in cs table p) os (λ o there. ap (λ n. has_bytes_in cs (λ k. n) p o) (same o there))

or-false : (b : Bool) → (b || false) ≡ b
or-false true = refl
or-false false = refl

-- the pages of a new object join the others
pub pages-grown : (old new : Memory) (t : ℕ) (w : Window) (cs : List Class) (table next : ℕ → ℕ) (os : List Object) (o : Object) → MapsWindow old t w cs table os → SameTable table next os
    → ((p : ℕ) → is_mapped new t p ≡ (is_mapped old t p || has_bytes_in cs next p o)) → MapsWindow new t w cs next (os ++ o ∷ [])
pages-grown old new t w cs table next os o maps same grows p inside =
    grows p ∙ ap (λ b. b || has_bytes_in cs next p o) (maps p inside ∙ sym (bytes-same cs table next p os same.numbers))
    ∙ ap (λ b. list_any (has_bytes_in cs next p) os || b) (sym (or-false (has_bytes_in cs next p o)))
    ∙ sym (list_any-append (has_bytes_in cs next p) os (o ∷ []))

-- an object has a byte in each of its pages, and no byte in any other
pub bytes-in : (cs : List Class) (table : ℕ → ℕ) (p : ℕ) (o : Object) → (has_bytes_in cs table p o ≡ true) ↔ ((i : ℕ) × (i < size_in cs o.shape) × (page_of (table o.number + i) ≡ p))
bytes-in cs table p o = (byte, page)
  where
    byte : has_bytes_in cs table p o ≡ true → (i : ℕ) × (i < size_in cs o.shape) × (page_of (table o.number + i) ≡ p)
    byte is =
        let parts = and_parts (nat_le (page_of (table o.number)) p) (nat_le p (page_of (table o.number + size_in cs o.shape - 1))) is in
        let low : page_of (table o.number) ≤ p = leb-true _ _ parts.0 in
        let bounds = size-bounds cs o.shape in
        let high : p ≤ page_of (table o.number + size_in cs o.shape - 1) = leb-true _ _ parts.1 in
        elim (cases_eq p (page_of (table o.number))) [
          | inl e ↦ (0, omega (arith, bounds.0, bounds.1, bounds.2), omega (arith, e))
          | inr ne ↦ (p * 4096 - table o.number, omega (arith, low, high, ne, bounds.0, bounds.1, bounds.2), omega (arith, low, ne))
        ]

    page : (i : ℕ) × (i < size_in cs o.shape) × (page_of (table o.number + i) ≡ p) → has_bytes_in cs table p o ≡ true
    page (i, lt, is) =
        let last : ℕ = table o.number + size_in cs o.shape - 1 in
        let low : page_of (table o.number) ≤ p = omega (arith, is) in
        let high : p ≤ page_of last = omega (arith, lt, is) in
        and_from (nat_le (page_of (table o.number)) p) (nat_le p (page_of last)) (le-leb (page_of (table o.number)) p low) (le-leb p (page_of last) high)
