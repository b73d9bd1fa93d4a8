-- The spots of segments.
use Rattle.std.proofs.Common.{◌≡◌, ◌∙◌, ℕ, ◌+◌, ◌-◌, ◌==◌, ◌||◌, Bool, false, List, [], ◌∷◌, ◌++◌, None, Some, Option, sum, refl, sym, ap, arith, append_assoc}
use Rattle.std.specs.List.{list_any}
use Rattle.std.proofs.Math.Bool.{or_comm}
use Rattle.std.proofs.lemmas.List.{append-nil}
use Rattle.std.proofs.lemmas.List.Folds.{list_any-append}
use Rattle.std.proofs.lemmas.Option.{same_Some}
use Rattle.image_space.specs.Space.{spots_from}
use Rattle.image_space.proofs.SpotLemmas.{spots-split, sum-append, sum-cons}
use Rattle.mark_bitmap.specs.Marks.{is_marked}
use Rattle.zygote_space.specs.Space.{GainsSegment, HasOpen, HasSegments, Opens, Places, Segment, Space, segment_end, segment_spots, segments_end, to_page, zygote_spot}

-- a segment that is open
abbrev pub open_at : ℕ → ℕ → Option Segment
open_at next rest = Some (record { next = next; rest = rest })

-- a segment more
end-more : (fill : ℕ) (segments : List (List ℕ)) (sizes : List ℕ) → segments_end fill (segments ++ sizes ∷ []) ≡ segment_end (segments_end fill segments) sizes
end-more fill [] sizes = refl
end-more fill (first ∷ rest) sizes = end-more (segment_end fill first) rest sizes

spots-more : (fill : ℕ) (segments : List (List ℕ)) (sizes : List ℕ)
    → segment_spots fill (segments ++ sizes ∷ []) ≡ segment_spots fill segments ++ spots_from (zygote_spot (to_page (segments_end fill segments))) sizes
spots-more fill [] sizes = append-nil (spots_from (zygote_spot (to_page fill)) sizes)
spots-more fill (first ∷ rest) sizes =
    ap (λ spots. spots_from (zygote_spot (to_page fill)) first ++ spots) (spots-more (segment_end fill first) rest sizes)
    ∙ sym (append_assoc (spots_from (zygote_spot (to_page fill)) first) (segment_spots (segment_end fill first) rest)
    (spots_from (zygote_spot (to_page (segments_end (segment_end fill first) rest))) sizes))

-- a segment in which some object stands ends behind its objects
end-some : (fill : ℕ) (sizes : List ℕ) (size : ℕ) → segment_end fill (sizes ++ size ∷ []) ≡ to_page fill + sum (sizes ++ size ∷ [])
end-some fill [] size = refl
end-some fill (x ∷ xs) size = refl

pub opened : (old new : Space) (segments : List (List ℕ)) (total : ℕ) → HasSegments old segments → Opens old new total → HasOpen new segments [] total
opened old new segments total has opens =
    let next : to_page (segments_end 0 segments) ≡ to_page (segments_end 0 segments) + sum [] = omega arith in
    record {
      segment =
          opens.segment
          ∙ ap (λ fill. open_at (to_page fill) total) has.fill
          ∙ ap (λ k. open_at k total) next;
      fill = opens.fill ∙ has.fill;
      starts = λ q.
          opens.starts q ∙ has.starts q
          ∙ ap (list_any (λ spot. q == spot)) (sym (append-nil (segment_spots 0 segments)) ∙ sym (spots-more 0 segments []));
    }

pub placed : (old new : Space) (segments : List (List ℕ)) (sizes : List ℕ) (rest at size : ℕ) → HasOpen old segments sizes rest → Places old new at size
    → HasOpen new segments (sizes ++ size ∷ []) (rest - size)
placed old new segments sizes rest at size has places =
    let start : ℕ = to_page (segments_end 0 segments) in
    let was : Segment = record { next = start + sum sizes; rest = rest } in
    let is : places.segment ≡ was = same_Some places.segment was (sym places.was ∙ has.segment) in
    let total = sum-append sizes (size ∷ []) in
    let one = sum-cons size [] in
    let next : start + sum sizes + size ≡ start + sum (sizes ++ size ∷ []) = omega (arith, total, one) in
    let spot : at ≡ zygote_spot start + sum sizes = omega (arith, places.spot, ap (λ (s : Segment). s.next) is) in
    record {
      segment =
          places.now
          ∙ ap (λ (s : Segment). open_at (s.next + size) (s.rest - size)) is
          ∙ ap (λ k. open_at k (rest - size)) next;
      fill = places.fill ∙ ap (λ (s : Segment). s.next + size) is ∙ next ∙ sym (end-some (segments_end 0 segments) sizes size);
      starts = λ q.
          let test : ℕ → Bool = λ k. q == k in
          let before : List ℕ = segment_spots 0 segments ++ spots_from (zygote_spot start) sizes in
          let spots : segment_spots 0 (segments ++ (sizes ++ size ∷ []) ∷ []) ≡ before ++ (zygote_spot start + sum sizes) ∷ [] =
          spots-more 0 segments (sizes ++ size ∷ [])
          ∙ ap (λ l. segment_spots 0 segments ++ l) (spots-split (zygote_spot start) sizes [] size)
          ∙ sym (append_assoc (segment_spots 0 segments) (spots_from (zygote_spot start) sizes) ((zygote_spot start + sum sizes) ∷ [])) in
          places.starts q
          ∙ ap (λ b. (q == at) || b) (has.starts q ∙ ap (list_any test) (spots-more 0 segments sizes))
          ∙ or_comm (q == at) (list_any test before)
          ∙ ap (λ k. list_any test before || (q == k)) spot
          ∙ ap (λ b. list_any test before || b) (or_comm false (q == (zygote_spot start + sum sizes)))
          ∙ sym (list_any-append test before ((zygote_spot start + sum sizes) ∷ []))
          ∙ sym (ap (list_any test) spots);
    }

pub closed : (old new : Space) (segments : List (List ℕ)) (sizes : List ℕ) (rest : ℕ) → HasOpen old segments sizes rest → new ≡ record old { segment = None }
    → HasSegments new (segments ++ sizes ∷ [])
closed old new segments sizes rest has is = record {
  closed = ap (λ (s : Space). s.segment) is;
  fill = ap (λ (s : Space). s.fill) is ∙ has.fill ∙ sym (end-more 0 segments sizes);
  starts = λ q. ap (λ (s : Space). is_marked s.starts q) is ∙ has.starts q;
}

pub gained : (old new : Space) (segments : List (List ℕ)) (sizes : List ℕ) → HasSegments old segments → GainsSegment old new sizes → HasSegments new (segments ++ sizes ∷ [])
gained old new segments sizes has gains =
    let spots : ℕ → List ℕ = λ fill. spots_from (zygote_spot (to_page fill)) sizes in
    record {
      closed = gains.closed;
      fill = gains.fill ∙ ap (λ fill. segment_end fill sizes) has.fill ∙ sym (end-more 0 segments sizes);
      starts = λ q.
          let test : ℕ → Bool = λ k. q == k in
          gains.starts q
          ∙ ap (λ b. b || list_any test (spots old.fill)) (has.starts q)
          ∙ ap (λ fill. list_any test (segment_spots 0 segments) || list_any test (spots fill)) has.fill
          ∙ sym (list_any-append test (segment_spots 0 segments) (spots (segments_end 0 segments)))
          ∙ ap (list_any test) (sym (spots-more 0 segments sizes));
    }
