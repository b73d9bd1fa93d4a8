-- How many pages and regions objects have, packed one after the other.
use Rattle.std.proofs.Common.{◌≡◌, ◌∙◌, ℕ, ◌+◌, ◌-◌, ◌≤◌, Bool, true, false, List, [], ◌∷◌, ◌++◌, map, All, nat_eq, refl, sym, ap, arith}
use Rattle.std.specs.Prelude.{◌/◌, sum}
use Rattle.std.proofs.lemmas.List.{append-nil}
use Rattle.std.proofs.lemmas.List.Sums.{sum_by-cons}
use Rattle.model_numbers.specs.Numbers.{region_bytes}
use Rattle.heap_graph.specs.Packing.{after, end_from, place_if}
use Rattle.heap_graph.specs.Sizes.{parts_for}
use Rattle.image_space.specs.Space.{pages_up_to}
use Rattle.region_lists.specs.Rows.{Row}
use Rattle.region_space.specs.Packed.{Pack, fills_from, packed_pages}
use Rattle.region_space.specs.Pages.{page_sum}
use Rattle.region_space.specs.Space.{IsSize, further_pages, with_object}
use Rattle.region_space.proofs.LieLemmas.{home}
use Rattle.region_space.proofs.PackLemmas.{begins, end-more, heads, splits}
use Rattle.region_space.proofs.PageLemmas.{page_sum-cons, run_length, sum-more}

-- the pages of regions that are filled so far
abbrev pub fill_pages : List ℕ → ℕ
fill_pages fills = sum (map pages_up_to fills)

fill_pages-cons : (fill : ℕ) (fills : List ℕ) → fill_pages (fill ∷ fills) ≡ pages_up_to fill + fill_pages fills
fill_pages-cons fill fills = sum_by-cons (λ (n : ℕ). n) (pages_up_to fill) (map pages_up_to fills)

fill_pages-append : (fills more : List ℕ) → fill_pages (fills ++ more) ≡ fill_pages fills + fill_pages more
fill_pages-append [] more = omega arith
fill_pages-append (fill ∷ fills) more = omega (arith, fill_pages-cons fill (fills ++ more), fill_pages-cons fill fills, fill_pages-append fills more)

rows-fills : (rows : List Row) → fill_pages (map (λ (row : Row). row.fill) rows) ≡ page_sum rows
rows-fills [] = refl
rows-fills (row ∷ rest) = omega (arith, fill_pages-cons row.fill (map (λ (row : Row). row.fill) rest), page_sum-cons row rest, rows-fills rest)

pub packed-rows : (rows : List Row) (sizes : List ℕ) → Pack rows sizes → page_sum rows ≡ packed_pages sizes
packed-rows rows sizes pack =
    let all = ap fill_pages pack.fills in
    omega (arith, all, fill_pages-cons region_bytes (map (λ (row : Row). row.fill) rows), rows-fills rows)

pub packed-step : (rows : List Row) (region size : ℕ) → page_sum (with_object rows region size) ≡ page_sum rows + further_pages rows size
packed-step rows region size =
    let h = home rows region size in
    ap page_sum h.more ∙ sum-more rows h.region h.fill size h.room ∙ ap (λ k. page_sum rows + run_length k size) h.fill_is

pub packed-before : (before more : List ℕ) → All IsSize before → packed_pages before ≤ packed_pages (before ++ more)
packed-before before more sizes =
    let r = splits 0 0 region_bytes before begins sizes in
    let h = heads r.fill more in
    let first = ap fill_pages (none before ∙ r.fills []) in
    let all = ap fill_pages (r.fills more ∙ ap (λ fs. r.front ++ fs) h.is) in
    let rises : pages_up_to r.fill ≤ pages_up_to h.fill = omega (arith, h.above) in
    omega (arith, first, all, fill_pages-append r.front (r.fill ∷ []), fill_pages-append r.front (h.fill ∷ h.rest), fill_pages-cons r.fill [], fill_pages-cons h.fill h.rest, rises)
  where
    none : (xs : List ℕ) → fills_from region_bytes xs ≡ fills_from region_bytes (xs ++ [])
    none xs = ap (fills_from region_bytes) (sym (append-nil xs))

-- THE END

place-above : (b : Bool) (p : ℕ) → p ≤ place_if b p
place-above true p = omega arith
place-above false p = omega arith

end-above : (p : ℕ) (sizes : List ℕ) → p ≤ end_from p sizes
end-above p [] = omega arith
end-above p (s ∷ ss) = omega (arith, place-above (nat_eq (p / region_bytes) ((p + s - 1) / region_bytes)) p, end-above (after p s) ss)

pub used-before : (before more : List ℕ) → parts_for region_bytes (end_from 0 before) ≤ parts_for region_bytes (end_from 0 (before ++ more))
used-before before more = omega (arith, end-more 0 before more, end-above (end_from 0 before) more)
