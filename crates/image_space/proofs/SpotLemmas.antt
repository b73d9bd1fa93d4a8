-- The spots of a list of sizes.
use Rattle.std.proofs.Common.{◌≡◌, ◌∙◌, ℕ, ◌+◌, ◌==◌, ◌||◌, Bool, false, List, [], ◌∷◌, ◌++◌, sum, sym, ap, arith}
use Rattle.std.specs.List.{list_any}
use Rattle.std.proofs.Math.Bool.{or_comm}
use Rattle.std.proofs.lemmas.List.Folds.{list_any-append}
use Rattle.std.proofs.lemmas.List.Sums.{sum_by-append, sum_by-cons}
use Rattle.model_numbers.specs.Numbers.{image_base}
use Rattle.image_space.specs.Space.{Space, HasSizes, Places, image_spot, spots_from}

pub sum-cons : (x : ℕ) (xs : List ℕ) → sum (x ∷ xs) ≡ x + sum xs
sum-cons x xs = sum_by-cons (λ (n : ℕ). n) x xs

pub sum-append : (xs ys : List ℕ) → sum (xs ++ ys) ≡ sum xs + sum ys
sum-append xs ys = sum_by-append (λ (n : ℕ). n) xs ys

pub spots-split : (at : ℕ) (before more : List ℕ) (size : ℕ)
    → spots_from at (before ++ size ∷ more) ≡ spots_from at before ++ (at + sum before) ∷ spots_from (at + (sum before + size)) more
spots-split at [] more size =
    let spot : at ≡ at + sum [] = omega arith in
    let next : at + size ≡ at + (sum [] + size) = omega arith in
    ap (λ k. k ∷ spots_from (at + size) more) spot ∙ ap (λ k. (at + sum []) ∷ spots_from k more) next
spots-split at (x ∷ xs) more size =
    let total = sum-cons x xs in
    let spot : at + x + sum xs ≡ at + sum (x ∷ xs) = omega (arith, total) in
    let next : at + x + (sum xs + size) ≡ at + (sum (x ∷ xs) + size) = omega (arith, total) in
    ap (λ spots. at ∷ spots) (spots-split (at + x) xs more size
    ∙ ap (λ k. spots_from (at + x) xs ++ k ∷ spots_from (at + x + (sum xs + size)) more) spot
    ∙ ap (λ k. spots_from (at + x) xs ++ (at + sum (x ∷ xs)) ∷ spots_from k more) next)

pub spots-summed : (before more : List ℕ) (size : ℕ)
    → spots_from image_base (before ++ size ∷ more) ≡ spots_from image_base before ++ image_spot (sum before) ∷ spots_from (image_spot (sum before + size)) more
spots-summed before more size = spots-split image_base before more size

pub sizes-more : (old new : Space) (sizes : List ℕ) (at size : ℕ) → HasSizes old sizes → Places old new at size → HasSizes new (sizes ++ size ∷ [])
sizes-more old new sizes at size has places =
    let spot : at ≡ image_spot (sum sizes) = places.spot ∙ ap image_spot has.fill in
    record {
      fill = omega (arith, places.fill, has.fill, sum-append sizes (size ∷ []), sum-cons size []);
      starts = λ q.
          let test : ℕ → Bool = λ k. q == k in
          places.starts q
          ∙ ap (λ b. (q == at) || b) (has.starts q)
          ∙ or_comm (q == at) (list_any test (spots_from image_base sizes))
          ∙ ap (λ k. list_any test (spots_from image_base sizes) || (q == k)) spot
          ∙ ap (λ b. list_any test (spots_from image_base sizes) || b) (or_comm false (q == image_spot (sum sizes)))
          ∙ sym (list_any-append test (spots_from image_base sizes) (image_spot (sum sizes) ∷ []))
          ∙ sym (ap (list_any test) (spots-summed sizes [] size));
    }
