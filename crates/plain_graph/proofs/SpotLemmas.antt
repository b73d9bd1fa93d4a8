-- Spots of young objects, over the rest of a list as one more object is taken.
use Rattle.std.proofs.Common.{◌≡◌, ℕ, suc, ◌+◌, ◌<◌, ◌≤◌, cond, List, ◌∷◌, length, get_or, drop, map, filter, sum, refl, sym, ap, ◌∙◌, arith, add-one, drop-cons}
use Rattle.std.proofs.lemmas.List.Sums.{sum-map, sum_by-cons}
use Rattle.class_layout.specs.ClassList.{Class}
use Rattle.heap_graph.specs.declared.names.Place.{Place}
use Rattle.heap_graph.specs.declared.names.Place.TheVariants.{Image, Zygote, Young, Large, Promoted}
use Rattle.heap_graph.specs.Graph.{Object, is_young, size_of_object}
use Rattle.heap_graph.specs.Fork.{next_spot}
use Rattle.plain_graph.specs.Spots.{young_bytes}

-- the rest of a list from an element on
pub drop_read : {X : Type 0} (xs : List X) (i : ℕ) (x : X) → i < length xs → x ≡ get_or xs i x → drop i xs ≡ x ∷ drop (i + 1) xs
drop_read xs i x less is = rw (add-one, drop-cons xs i x) (ap (λ y. y ∷ drop (suc i) xs) (sym is))

sum-cons : {X : Type 0} (f : X → ℕ) (x : X) (xs : List X) → sum (map f (x ∷ xs)) ≡ f x + sum (map f xs)
sum-cons f x xs = sum-map f (x ∷ xs) ∙ (sum_by-cons f x xs ∙ ap (λ n. f x + n) (sym (sum-map f xs)))

spot_is : (at : ℕ) (size : Object → ℕ) (o : Object) (rest : List Object) (place : Place) → next_spot at (size o) place + sum (map size rest) ≡ at + sum (map size (cond (is_young place) (o ∷ rest) rest))
spot_is at size o rest (Image spot) = refl
spot_is at size o rest (Zygote spot) = refl
spot_is at size o rest Young =
    let e : at + size o + sum (map size rest) ≡ at + (size o + sum (map size rest)) = omega arith in
    e ∙ ap (λ n. at + n) (sym (sum-cons size o rest))
spot_is at size o rest Large = refl
spot_is at size o rest Promoted = refl

-- the spot behind an object, and the bytes behind it
spot_step : (cs : List Class) (o : Object) (os : List Object) (at : ℕ) → next_spot at (size_of_object cs o) o.place + young_bytes cs os ≡ at + young_bytes cs (o ∷ os)
spot_step cs o os at = spot_is at (size_of_object cs) o (filter (λ o. is_young o.place) os) o.place

pub spot_more : (cs : List Class) (os : List Object) (i : ℕ) (o : Object) (at : ℕ) → i < length os → o ≡ get_or os i o →
    next_spot at (size_of_object cs o) o.place + young_bytes cs (drop (i + 1) os) ≡ at + young_bytes cs (drop i os)
spot_more cs os i o at less is = spot_step cs o (drop (i + 1) os) at ∙ ap (λ ps. at + young_bytes cs ps) (sym (drop_read os i o less is))

-- the spot behind an object is at most its size further
pub next_spot-le : (at size : ℕ) (place : Place) → next_spot at size place ≤ at + size
next_spot-le at size (Image spot) = omega arith
next_spot-le at size (Zygote spot) = omega arith
next_spot-le at size Young = omega arith
next_spot-le at size Large = omega arith
next_spot-le at size Promoted = omega arith
