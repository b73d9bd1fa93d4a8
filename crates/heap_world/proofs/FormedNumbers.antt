-- Numbers of objects rise.
use Rattle.std.proofs.Common.{◌≡◌, ℕ, ◌+◌, ◌<◌, ◌≤◌, Bool, true, false, cond, List, [], ◌∷◌, ◌++◌, map, filter, nat_eq, refl, sym, ap, subst, ◌∙◌, arith}
use Rattle.std.proofs.lemmas.Bool.{or_left, or_right, eq-eqb, ne_eqb}
use Rattle.std.proofs.lemmas.List.Folds.{list_any-append}
use Rattle.class_layout.specs.ClassList.{Class}
use Rattle.heap_graph.specs.declared.names.Stored.{Stored}
use Rattle.heap_graph.specs.Collection.{cleared}
use Rattle.heap_graph.specs.Fork.{promoted_from, next_spot}
use Rattle.heap_graph.specs.Graph.{Object, size_of_object}
use Rattle.heap_graph.specs.Paths.{numbers}
use Rattle.heap_graph.specs.Reach.{is_among}
use Rattle.heap_world.specs.Acts.{stored_in_if, stored_in}
use Rattle.heap_graph.specs.Formed.{AreRising}
use Rattle.heap_world.proofs.FormedAims.{AreIn}

-- the numbers alone rise
abbrev Rise : ℕ → ℕ → List ℕ → Type 0
Rise low next [] = low ≤ next
Rise low next (n ∷ ns) = (low ≤ n) × Rise (n + 1) next ns

-- as those of the objects do
rise_from : (low next : ℕ) (os : List Object) → AreRising low next os → Rise low next (numbers os)
rise_from low next [] h = h
rise_from low next (o ∷ os) h = (h.0, rise_from (o.number + 1) next os h.1)

rise_to : (low next : ℕ) (os : List Object) → Rise low next (numbers os) → AreRising low next os
rise_to low next [] h = h
rise_to low next (o ∷ os) h = (h.0, rise_to (o.number + 1) next os h.1)

-- other objects of the same numbers
pub rising-same : (low next : ℕ) (os xs : List Object) → numbers xs ≡ numbers os → AreRising low next os → AreRising low next xs
rising-same low next os xs e h =
    let P : List ℕ → Type 0 = λ ns. Rise low next ns in
    rise_to low next xs (subst P (sym e) (rise_from low next os h))

-- from a lower number on
rising-lower : (low low' next : ℕ) (os : List Object) → low' ≤ low → AreRising low next os → AreRising low' next os
rising-lower low low' next [] le h = omega (arith, h)
rising-lower low low' next (o ∷ os) le h = (omega (arith, h.0), h.1)

-- fewer objects
pub rising-filter : (keep : Object → Bool) (low next : ℕ) (os : List Object) → AreRising low next os → AreRising low next (filter keep os)
rising-filter keep low next [] h = h
rising-filter keep low next (o ∷ os) h = by (keep o) (rising-filter keep (o.number + 1) next os h.1)
  where
    by : (b : Bool) → AreRising (o.number + 1) next (filter keep os) → AreRising low next (cond b (o ∷ filter keep os) (filter keep os))
    by true rest = (h.0, rest)
    by false rest = rising-lower (o.number + 1) low next (filter keep os) (omega (arith, h.0)) rest

-- one more object, under the next number
pub rising-push : (low next : ℕ) (os : List Object) (o : Object) → o.number ≡ next → AreRising low next os → AreRising low (next + 1) (os ++ o ∷ [])
rising-push low next [] o e h = (omega (arith, e, h), omega (arith, e))
rising-push low next (x ∷ os) o e h = (h.0, rising-push (x.number + 1) next os o e h.1)

-- a store, a collection's clearing and a promotion leave the numbers
pub numbers-stored_in : (os : List Object) (n : ℕ) (new : Stored) → numbers (stored_in os n new) ≡ numbers os
numbers-stored_in [] n new = refl
numbers-stored_in (o ∷ os) n new = by (nat_eq o.number n) (numbers-stored_in os n new)
  where
    by : (b : Bool) → numbers (stored_in os n new) ≡ numbers os → (stored_in_if b o new).number ∷ numbers (stored_in os n new) ≡ o.number ∷ numbers os
    by true rest = ap (λ ns. o.number ∷ ns) rest
    by false rest = ap (λ ns. o.number ∷ ns) rest

pub numbers-cleared : (kept : List ℕ) (os : List Object) → numbers (map (cleared kept) os) ≡ numbers os
numbers-cleared kept [] = refl
numbers-cleared kept (o ∷ os) = ap (λ ns. o.number ∷ ns) (numbers-cleared kept os)

pub numbers-promoted : (cs : List Class) (spot : ℕ) (os : List Object) → numbers (promoted_from cs spot os) ≡ numbers os
numbers-promoted cs spot [] = refl
numbers-promoted cs spot (o ∷ os) = ap (λ ns. o.number ∷ ns) (numbers-promoted cs (next_spot spot (size_of_object cs o) o.place) os)

-- a store to a number below all others changes nothing
pub stored_in-below : (low next : ℕ) (os : List Object) (n : ℕ) (new : Stored) → n < low → AreRising low next os → stored_in os n new ≡ os
stored_in-below low next [] n new below h = refl
stored_in-below low next (o ∷ os) n new below h =
    ap (λ b. stored_in_if b o new ∷ stored_in os n new) (ne_eqb o.number n (λ same. omega (arith, same, below, h.0)))
    ∙ ap (λ xs. o ∷ xs) (stored_in-below (o.number + 1) next os n new (omega (arith, below, h.0)) h.1)

-- the numbers with one more
numbers-push : (os : List Object) (o : Object) → numbers (os ++ o ∷ []) ≡ numbers os ++ o.number ∷ []
numbers-push [] o = refl
numbers-push (x ∷ os) o = ap (λ ns. x.number ∷ ns) (numbers-push os o)

-- the old ones and the new one are among them
pub in_pushed : (os : List Object) (o : Object) → AreIn (numbers os) (numbers (os ++ o ∷ []))
in_pushed os o n h =
    ap (λ ns. is_among ns n) (numbers-push os o)
    ∙ (list_any-append (nat_eq n) (numbers os) (o.number ∷ []) ∙ or_left (is_among (numbers os) n) (is_among (o.number ∷ []) n) h)

pub last_pushed : (os : List Object) (o : Object) → is_among (numbers (os ++ o ∷ [])) o.number ≡ true
last_pushed os o =
    ap (λ ns. is_among ns o.number) (numbers-push os o)
    ∙ (list_any-append (nat_eq o.number) (numbers os) (o.number ∷ [])
    ∙ or_right (is_among (numbers os) o.number) (is_among (o.number ∷ []) o.number) (or_left (nat_eq o.number o.number) false (eq-eqb o.number o.number refl)))
