-- The object of a number and the object at an address, found by their places in the list.
use Rattle.std.proofs.Common.{◌≡◌, true≢false, ℕ, zero, suc, ◌+◌, ◌<◌, ◌≤◌, ◌⊎◌, inl, inr, Bool, true, false, not, cond, nat_eq, nat_lt, List, [], ◌∷◌, Option, None, Some, length, get_or, map, slice_index, refl, sym, ap, subst, ◌∙◌, arith}
use Rattle.std.specs.List.{find, position, position_or_len}
use Rattle.std.specs.Option.{option_map}
use Rattle.std.specs.Prelude.{unwrap_or}
use Rattle.std.proofs.lemmas.Bool.{eqb-true, eq-eqb, ltb-true, ltb-false}
use Rattle.std.proofs.lemmas.List.{get_or_default, length-map}
use Rattle.std.proofs.lemmas.Option.{same_Some, none-some}
use Rattle.class_layout.specs.Placing.{IsIn}
use Rattle.page_tables.specs.declared.address.Addr.{Addr}
use Rattle.heap_graph.specs.Graph.{Graph, Object, object_at}
use Rattle.heap_graph.specs.Table.{Fits}
use Rattle.heap_graph.specs.Formed.{IsFormed}
use Rattle.address_table.specs.Computed.{first_homes}
use Rattle.address_table.proofs.Fitting.{none-at-null}
use Rattle.plain_view.specs.Viewed.{address_at, at_address, first_table}
use Rattle.plain_view.proofs.Shown.{first-fits}

module _ (f : ℕ → ℕ) (n : ℕ) where
  -- what stands in a list of addresses at that place
  found-at : (os : List Object) (k : ℕ) → position_or_len (λ o. nat_eq o.number n) os ≡ k → k < length os → slice_index (map (λ o. f o.number) os) k ≡ f n
  found-at [] k e less = absurd (omega (arith, less))
  found-at (x ∷ os) k e less = by (nat_eq x.number n) refl e (found-at os (position_or_len (λ o. nat_eq o.number n) os) refl)
    where
      by : (b : Bool) → nat_eq x.number n ≡ b → cond (not b) (1 + position_or_len (λ o. nat_eq o.number n) os) 0 ≡ k
          → (position_or_len (λ o. nat_eq o.number n) os < length os → slice_index (map (λ o. f o.number) os) (position_or_len (λ o. nat_eq o.number n) os) ≡ f n)
          → slice_index (f x.number ∷ map (λ o. f o.number) os) k ≡ f n
      by true is e rest = ap (slice_index (f x.number ∷ map (λ o. f o.number) os)) (sym e) ∙ ap f (eqb-true x.number n is)
      by false is e rest =
          let next : k ≡ suc (position_or_len (λ o. nat_eq o.number n) os) = omega (arith, e) in
          ap (slice_index (f x.number ∷ map (λ o. f o.number) os)) next ∙ rest (omega (arith, e, less))

  -- no object of a list in which none is found has the number
  none-found : (os : List Object) → length os ≤ position_or_len (λ o. nat_eq o.number n) os → (o : Object) → IsIn o os → o.number ≡ n → ⊥
  none-found [] le o none e = absurd none
  none-found (x ∷ os) le o h e = by (nat_eq x.number n) refl le h (λ le later. none-found os le o later e)
    where
      by : (b : Bool) → nat_eq x.number n ≡ b → length (x ∷ os) ≤ cond (not b) (1 + position_or_len (λ o. nat_eq o.number n) os) 0 → (x ≡ o) ⊎ IsIn o os
          → (length os ≤ position_or_len (λ o. nat_eq o.number n) os → IsIn o os → ⊥) → ⊥
      by true is le h rest = omega (arith, le)
      by false is le (inl same) rest = true≢false (sym (eq-eqb x.number n (ap (λ (y : Object). y.number) same ∙ e)) ∙ is)
      by false is le (inr later) rest = rest (omega (arith, le)) later

  pub some-place : (os : List Object) (i : ℕ) → position (λ o. nat_eq o.number n) os ≡ Some i → (i < length os) × (slice_index (map (λ o. f o.number) os) i ≡ f n)
  some-place os i e = by (nat_lt (position_or_len (λ o. nat_eq o.number n) os) (length os)) refl e
    where
      by : (b : Bool) → nat_lt (position_or_len (λ o. nat_eq o.number n) os) (length os) ≡ b → cond b (Some (position_or_len (λ o. nat_eq o.number n) os)) None ≡ Some i
          → (i < length os) × (slice_index (map (λ o. f o.number) os) i ≡ f n)
      by true is e =
          let same : position_or_len (λ o. nat_eq o.number n) os ≡ i = cc in
          let less = ltb-true (position_or_len (λ o. nat_eq o.number n) os) (length os) is in
          let here : i < length os = omega (arith, same, less) in
          (here, found-at os i same here)
      by false is e = cc

  pub no-place : (os : List Object) → position (λ o. nat_eq o.number n) os ≡ None → (o : Object) → IsIn o os → o.number ≡ n → ⊥
  no-place os e = by (nat_lt (position_or_len (λ o. nat_eq o.number n) os) (length os)) refl e
    where
      by : (b : Bool) → nat_lt (position_or_len (λ o. nat_eq o.number n) os) (length os) ≡ b → cond b (Some (position_or_len (λ o. nat_eq o.number n) os)) None ≡ None
          → (o : Object) → IsIn o os → o.number ≡ n → ⊥
      by true is e = cc
      by false is e = none-found os (ltb-false (position_or_len (λ o. nat_eq o.number n) os) (length os) is)

-- what is read from the list of addresses at the place of a number is its address
pub address-read : (f : ℕ → ℕ) (n : ℕ) (os : List Object) (items : List ℕ) (i r : ℕ) → items ≡ map (λ o. f o.number) os → position (λ o. nat_eq o.number n) os ≡ Some i
    → r ≡ get_or items i r → r ≡ f n
address-read f n os items i r is e read =
    let at = some-place f n os i e in
    let less : i < length (map (λ o. f o.number) os) = simp length-map at.0 in
    read ∙ ap (λ xs. get_or xs i r) is ∙ get_or_default (map (λ o. f o.number) os) i r 0 less ∙ at.1

-- what is found has the number
found-object : (os : List Object) (n : ℕ) (o : Object) → find (λ x. nat_eq x.number n) os ≡ Some o → IsIn o os × (o.number ≡ n)
found-object [] n o e = absurd (none-some o e)
found-object (x ∷ os) n o e = by (nat_eq x.number n) refl e (found-object os n o)
  where
    by : (b : Bool) → nat_eq x.number n ≡ b → cond b (Some x) (find (λ y. nat_eq y.number n) os) ≡ Some o
        → (find (λ y. nat_eq y.number n) os ≡ Some o → IsIn o os × (o.number ≡ n)) → IsIn o (x ∷ os) × (o.number ≡ n)
    by true is e rest = let same = same_Some x o e in (inl same, subst (λ (y : Object). y.number ≡ n) same (eqb-true x.number n is))
    by false is e rest = let found = rest e in (inr found.0, found.1)

-- where none is found, no object of the list has the number
none-there : (os : List Object) (n i : ℕ) → find (λ x. nat_eq x.number n) os ≡ None → i < length os → slice_index (map (λ o. o.number) os) i ≡ n → ⊥
none-there [] n i none less e = omega (arith, less)
none-there (x ∷ os) n i none less e = by (nat_eq x.number n) refl i none less e (none-there os n)
  where
    by : (b : Bool) → nat_eq x.number n ≡ b → (i : ℕ) → cond b (Some x) (find (λ y. nat_eq y.number n) os) ≡ None → i < length (x ∷ os)
        → slice_index (x.number ∷ map (λ o. o.number) os) i ≡ n
        → ((j : ℕ) → find (λ y. nat_eq y.number n) os ≡ None → j < length os → slice_index (map (λ o. o.number) os) j ≡ n → ⊥) → ⊥
    by true is i none less e rest = cc
    by false is zero none less e rest = true≢false (sym (eq-eqb x.number n e) ∙ is)
    by false is (suc i) none less e rest = rest i none (omega (arith, less)) e

-- an object that has a place has an address
pub found-address : (g : Graph) (n i at : ℕ) → position (λ o. nat_eq o.number n) g.objects ≡ Some i → at ≡ first_table g n → Some (at_address at) ≡ address_at g n
found-address g n i at e is = by (object_at g n) refl
  where
    by : (found : Option Object) → object_at g n ≡ found → Some (at_address at) ≡ option_map (λ (o : Object). at_address (first_table g o.number)) found
    by None none = let there = some-place (λ m. m) n g.objects i e in absurd (none-there g.objects n i none there.0 there.1)
    by (Some o) found = ap (λ a. Some (at_address a)) (is ∙ ap (first_table g) (sym (found-object g.objects n o found).1))

-- and one that has none has none
pub no-address : (g : Graph) (n : ℕ) → position (λ o. nat_eq o.number n) g.objects ≡ None → None ≡ address_at g n
no-address g n e = by (object_at g n) refl
  where
    by : (found : Option Object) → object_at g n ≡ found → None ≡ option_map (λ (o : Object). at_address (first_table g o.number)) found
    by None none = refl
    by (Some o) found = let there = found-object g.objects n o found in absurd (no-place (λ m. m) n g.objects e o there.0 there.1)

-- the table has the address, and 0 without one
pub stands : (g : Graph) (n : ℕ) (at : Addr) → at ≡ unwrap_or (address_at g n) (at_address 0) → at.0 ≡ first_table g n
stands g n at e = ap (λ (a : Addr). a.0) e ∙ by (object_at g n) refl
  where
    by : (found : Option Object) → object_at g n ≡ found → (unwrap_or (option_map (λ (o : Object). at_address (first_table g o.number)) found) (at_address 0)).0 ≡ first_table g n
    by None none = sym (none-at-null (first_homes g.budget) g n none)
    by (Some o) found = ap (first_table g) (found-object g.objects n o found).1

module _ (f : Object → ℕ) where
  -- an object of the list has its address at some place
  pub some-index : (os : List Object) (o : Object) → IsIn o os → (k : ℕ) × ((k < length (map f os)) × (slice_index (map f os) k ≡ f o))
  some-index [] o none = absurd none
  some-index (x ∷ os) o (inl e) = (0, (omega arith, ap f e))
  some-index (x ∷ os) o (inr h) =
      let rest : (k : ℕ) × ((k < length (map f os)) × (slice_index (map f os) k ≡ f o)) = some-index os o h in
      let less = rest.1.0 in
      (suc rest.0, (omega (arith, less), rest.1.1))

  -- what stands at a place of the list has the address of that place
  pub at-index : (os : List Object) (i : ℕ) (r : Object) → i < length os → r ≡ get_or os i r → IsIn r os × (slice_index (map f os) i ≡ f r)
  at-index [] i r less e = absurd (omega (arith, less))
  at-index (x ∷ os) zero r less e = (inl (sym e), ap f (sym e))
  at-index (x ∷ os) (suc i) r less e = let rest = at-index os i r (omega (arith, less)) e in (inr rest.0, rest.1)

-- the object at an address is the one at the address's place
pub object-there : (g : Graph) (formed : IsFormed g) (items : List ℕ) (i at : ℕ) (r o : Object) → items ≡ map (λ o. first_table g o.number) g.objects → i < length g.objects
    → slice_index items i ≡ at → r ≡ get_or g.objects i r → IsIn o g.objects → first_table g o.number ≡ at → r ≡ o
object-there g formed items i at r o is less e r-is o-in o-at =
    let f : Object → ℕ = λ o. first_table g o.number in
    let there = at-index f g.objects i r less r-is in
    let fit : Fits (first_table g) g = first-fits g formed in
    fit.apart r o there.0 o-in (sym there.1 ∙ ap (λ xs. slice_index xs i) (sym is) ∙ e ∙ sym o-at)

-- the address of an object is one of the list
pub index-there : (g : Graph) (items xs : List ℕ) (at : ℕ) (o : Object) → items ≡ map (λ o. first_table g o.number) g.objects → xs ≡ items → IsIn o g.objects
    → first_table g o.number ≡ at → (k : ℕ) × ((k < length xs) × (slice_index xs k ≡ at))
index-there g items xs at o is same there o-at =
    let found = some-index (λ o. first_table g o.number) g.objects o there in
    subst (λ (ys : List ℕ). (k : ℕ) × ((k < length ys) × (slice_index ys k ≡ at))) (sym (same ∙ is)) (found.0, (found.1.0, found.1.1 ∙ o-at))
