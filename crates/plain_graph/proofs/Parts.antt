-- What one object adds to the image, to the regions and to the pages.
use Rattle.std.proofs.Common.{◌≡◌, ℕ, suc, ◌+◌, ◌-◌, ◌<◌, ◌≤◌, List, [], ◌∷◌, ◌++◌, refl, ap, arith}
use Rattle.model_numbers.specs.Numbers.{region_bytes, most_array_bytes}
use Rattle.class_layout.specs.ClassList.{Class}
use Rattle.heap_graph.specs.declared.names.Place.{Place}
use Rattle.heap_graph.specs.declared.names.Place.TheVariants.{Image, Zygote, Young, Large, Promoted}
use Rattle.heap_graph.specs.Graph.{Object, image_size, size_of_object}
use Rattle.heap_graph.specs.Packing.{after, cost, end_from}
use Rattle.heap_graph.specs.Sizes.{parts_for, unrounded}
use Rattle.heap_world.specs.Pages.{count_from}

pub image_size-le : (cs : List Class) (o : Object) (place : Place) (most : ℕ) → size_of_object cs o ≤ most → image_size cs o place ≤ most
image_size-le cs o (Image spot) most h = h
image_size-le cs o (Zygote spot) most h = omega arith
image_size-le cs o Young most h = omega arith
image_size-le cs o Large most h = omega arith
image_size-le cs o Promoted most h = omega arith

few_regions : (bytes : ℕ) → bytes ≤ most_array_bytes → parts_for region_bytes bytes ≤ 4
few_regions bytes h = omega arith

pub cost-le : (cs : List Class) (o : Object) (place : Place) → unrounded cs o.shape ≤ most_array_bytes → cost cs o place ≤ 4
cost-le cs o (Image spot) h = omega arith
cost-le cs o (Zygote spot) h = omega arith
cost-le cs o Young h = omega arith
cost-le cs o Large h = few_regions (unrounded cs o.shape) h
cost-le cs o Promoted h = few_regions (unrounded cs o.shape) h

-- one more size ends behind the others
pub end_from-push : (p : ℕ) (ss : List ℕ) (s : ℕ) → end_from p (ss ++ s ∷ []) ≡ after (end_from p ss) s
end_from-push p [] s = refl
end_from-push p (r ∷ ss) s = end_from-push (after p r) ss s

-- the first of so many numbers
pub count_from-more : (start end : ℕ) → start < end → count_from start (end - start) ≡ start ∷ count_from (start + 1) (end - (start + 1))
count_from-more start end h =
    let e : end - start ≡ suc (end - (start + 1)) = omega arith in
    ap (count_from start) e
