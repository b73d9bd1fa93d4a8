-- Objects in the image and zygote windows, and the reads of their values.
use Rattle.std.proofs.Common.{◌≡◌, ℕ, ◌+◌, ◌*◌, ◌/◌, ◌≤◌, Bool, true, false, ◌||◌, ◌&&◌, List, [], ◌∷◌, filter, map, nat_le, nat_lt, refl, sym, ap, ◌∙◌, arith, inl, inr, cond, ◌⊎◌, true≢false}
use Rattle.std.specs.List.{zip}
use Rattle.model_numbers.specs.Numbers.{image_base, image_length, region_base, zygote_base, zygote_length}
use Rattle.class_layout.specs.ClassList.{Class}
use Rattle.class_layout.specs.Placing.{IsIn}
use Rattle.page_tables.proofs.WindowLemmas.{is_in_past}
use Rattle.heap_graph.specs.declared.names.Place.{Place}
use Rattle.heap_graph.specs.declared.names.Place.TheVariants.{Image, Zygote, Young, Large, Promoted}
use Rattle.heap_graph.specs.Graph.{Graph, Object, is_young, size_of_object}
use Rattle.heap_graph.specs.Packing.{after, place, places_from, young_objects}
use Rattle.heap_graph.specs.Sizes.{size_in, unrounded}
use Rattle.heap_graph.specs.Table.{Fits, IsPlacedAt, in_spot_window}
use Rattle.object_view.specs.Seen.{RoseBy, count_if, is_in_window}
use Rattle.object_view.proofs.Rises.{rose-more}
use Rattle.object_view.proofs.Laid.{size-bounds}
use Rattle.hprof_write.specs.Reads.{object_values}

-- from the first region on there is neither window
beyond : (at : ℕ) → region_base ≤ at → is_in_window at ≡ false
beyond at h =
    let i : image_base + image_length ≤ at = omega arith in
    let z : zygote_base + zygote_length ≤ at = omega arith in
    ap (λ (b : Bool). b || (nat_le zygote_base at && nat_lt at (zygote_base + zygote_length))) (is_in_past image_base (image_base + image_length) at i)
    ∙ is_in_past zygote_base (zygote_base + zygote_length) at z

in-filter : (keep : Object → Bool) (os : List Object) (o : Object) → IsIn o os → keep o ≡ true → IsIn o (filter keep os)
in-filter keep [] o h e = absurd h
in-filter keep (p ∷ os) o h e = by (keep p) refl h (λ rest. in-filter keep os o rest e)
  where
    by : (b : Bool) → keep p ≡ b → (p ≡ o) ⊎ IsIn o os → (IsIn o os → IsIn o (filter keep os)) → IsIn o (cond b (p ∷ filter keep os) (filter keep os))
    by true k (inl same) more = inl same
    by true k (inr rest) more = inr (more rest)
    by false k (inl same) more = absurd (true≢false (sym e ∙ ap keep (sym same) ∙ k))
    by false k (inr rest) more = more rest

in-packing : (cs : List Class) (from : ℕ) (os : List Object) (o : Object) → IsIn o os
    → (q : ℕ) × IsIn (o.number, q) (zip (map (λ p. p.number) os) (places_from from (map (size_of_object cs) os)))
in-packing cs from [] o h = absurd h
in-packing cs from (p ∷ os) o (inl same) = (place from (size_of_object cs p), inl (ap (λ (x : Object). (x.number, place from (size_of_object cs p))) same))
in-packing cs from (p ∷ os) o (inr rest) = let (q, i) = in-packing cs (after from (size_of_object cs p)) os o rest in (q, inr i)

-- an object of the graph in one of the windows has its place there
pub window-place : (g : Graph) (table : ℕ → ℕ) (o : Object) → Fits table g → IsIn o g.objects → is_in_window (table o.number) ≡ true → in_spot_window o.place ≡ true
window-place g table o fits there inside = by o.place refl (fits.placed o there)
  where
    far : region_base ≤ table o.number → ⊥
    far h = true≢false (sym inside ∙ beyond (table o.number) h)

    by : (at : Place) → o.place ≡ at → IsPlacedAt at (table o.number) → in_spot_window o.place ≡ true
    by (Image spot) e h = ap in_spot_window e
    by (Zygote spot) e h = ap in_spot_window e
    by Young e h =
        let young : IsIn o (young_objects g) = in-filter (λ p. is_young p.place) g.objects o there (ap is_young e) in
        let (q, i) = in-packing g.classes 0 (young_objects g) o young in
        let (region, less, is) = fits.packed (o.number, q) i in
        absurd (far (omega arith))
    by Large e (k, less, is) = absurd (far (omega arith))
    by Promoted e (k, less, is) = absurd (far (omega arith))

fewer : (b c : Bool) (n m before now : ℕ) → (b ≡ true → c ≡ true) → n ≤ m → RoseBy (count_if b n) before now → RoseBy (count_if c m) before now
fewer true true n m before now f le h = rose-more n m before now le h
fewer true false n m before now f le h = absurd (true≢false (sym (f refl)))
fewer false c n m before now f le h = rose-more 0 (count_if c m) before now (omega arith) h

-- so many values of an object are among its words
pub values-within : (g : Graph) (table : ℕ → ℕ) (at n before now : ℕ) (o : Object) → Fits table g → IsIn o g.objects → table o.number ≡ at
    → n ≤ unrounded g.classes o.shape → RoseBy (count_if (is_in_window at) n) before now → RoseBy (object_values g.classes o) before now
values-within g table at n before now o fits there at-is few h =
    let (low, round, head, eights) = size-bounds g.classes o.shape in
    let fours : 4 * (size_in g.classes o.shape / 4) ≡ size_in g.classes o.shape = omega arith in
    fewer (is_in_window at) (in_spot_window o.place) n (4 * (size_of_object g.classes o / 4)) before now
    (λ inside. window-place g table o fits there (ap is_in_window at-is ∙ inside)) (omega arith) h
