-- A segment that is opened, filled object by object, and closed.
use Rattle.std.proofs.Common.{◌≡◌, ◌∙◌, ℕ, ◌+◌, ◌-◌, ◌==◌, ◌||◌, Bool, true, false, List, [], ◌∷◌, ◌++◌, None, Some, sum, refl, sym, ap, arith}
use Rattle.std.specs.List.{list_any}
use Rattle.std.proofs.Math.Bool.{or_comm}
use Rattle.std.proofs.lemmas.List.Folds.{list_any-append}
use Rattle.std.proofs.lemmas.Option.{same_Some}
use Rattle.image_space.proofs.SpotLemmas.{spots-split, sum-append, sum-cons}
use Rattle.mark_bitmap.specs.Marks.{is_marked}
use Rattle.zygote_space.specs.Space.{segment_behind, segment_end, to_page, zygote_spot, GainsSegment, Places, Segment, Space}
use Rattle.zygote_space.proofs.SpotLemmas.{open_at}
use Rattle.object_promotion.specs.Promotes.{spots_for}
use Rattle.object_promotion.specs.Phases.{Fills}

-- nothing was placed yet
pub fills-none : (z : Space) (total : ℕ) → z.segment ≡ Some (segment_behind z.fill total) → Fills z z [] total
fills-none z total is =
    let next : to_page z.fill ≡ to_page z.fill + sum [] = omega arith in
    record { segment = is ∙ ap (λ k. open_at k total) next; fill = refl; starts = λ q. or_comm false (is_marked z.starts q) }

-- where the next object is placed
pub fills-spot : (old new : Space) (sizes : List ℕ) (rest : ℕ) (segment : Segment) → Fills old new sizes rest → new.segment ≡ Some segment
    → (segment.next ≡ to_page old.fill + sum sizes) × (segment.rest ≡ rest)
fills-spot old new sizes rest segment fills is =
    let was : Segment = record { next = to_page old.fill + sum sizes; rest = rest } in
    let same : segment ≡ was = same_Some segment was (sym is ∙ fills.segment) in
    (ap (λ (s : Segment). s.next) same, ap (λ (s : Segment). s.rest) same)

end-some : (fill : ℕ) (sizes : List ℕ) (size : ℕ) → segment_end fill (sizes ++ size ∷ []) ≡ to_page fill + sum (sizes ++ size ∷ [])
end-some fill [] size = refl
end-some fill (x ∷ xs) size = refl

-- the spots of one object more
pub spots-more : (fill : ℕ) (sizes : List ℕ) (size : ℕ) → spots_for fill (sizes ++ size ∷ []) ≡ spots_for fill sizes ++ (zygote_spot (to_page fill) + sum sizes) ∷ []
spots-more fill sizes size = spots-split (zygote_spot (to_page fill)) sizes [] size

-- an object more
pub fills-more : (old mid new : Space) (sizes : List ℕ) (rest at size : ℕ) → Fills old mid sizes rest → Places mid new at size → Fills old new (sizes ++ size ∷ []) (rest - size)
fills-more old mid new sizes rest at size fills places =
    let start : ℕ = to_page old.fill in
    let is = fills-spot old mid sizes rest places.segment fills places.was in
    let total = sum-append sizes (size ∷ []) in
    let one = sum-cons size [] in
    let next : places.segment.next + size ≡ start + sum (sizes ++ size ∷ []) = omega (arith, total, one, is.0) in
    let spot : at ≡ zygote_spot start + sum sizes = omega (arith, places.spot, is.0) in
    record {
      segment = places.now ∙ ap (λ k. open_at k (places.segment.rest - size)) next ∙ ap (λ k. open_at (start + sum (sizes ++ size ∷ [])) (k - size)) is.1;
      fill = places.fill ∙ next ∙ sym (end-some old.fill sizes size);
      starts = λ q.
          let test : ℕ → Bool = λ k. q == k in
          let marked : Bool = is_marked old.starts q in
          let before : List ℕ = spots_for old.fill sizes in
          places.starts q
          ∙ ap (λ b. (q == at) || b) (fills.starts q)
          ∙ or_comm (q == at) (marked || list_any test before)
          ∙ or-assoc marked (list_any test before) (q == at)
          ∙ ap (λ k. marked || (list_any test before || (q == k))) spot
          ∙ ap (λ b. marked || (list_any test before || b)) (or_comm false (q == (zygote_spot start + sum sizes)))
          ∙ ap (λ b. marked || b) (sym (list_any-append test before ((zygote_spot start + sum sizes) ∷ [])) ∙ sym (ap (list_any test) (spots-more old.fill sizes size)));
    }
  where
    or-assoc : (a b c : Bool) → ((a || b) || c) ≡ (a || (b || c))
    or-assoc true b c = refl
    or-assoc false b c = refl

-- once all are placed, the space has a segment more
pub fills-closed : (old mid new : Space) (sizes : List ℕ) (rest : ℕ) → Fills old mid sizes rest → new ≡ record mid { segment = None } → GainsSegment old new sizes
fills-closed old mid new sizes rest fills is = record {
  closed = ap (λ (s : Space). s.segment) is;
  fill = ap (λ (s : Space). s.fill) is ∙ fills.fill;
  starts = λ q. ap (λ (s : Space). is_marked s.starts q) is ∙ fills.starts q;
}
