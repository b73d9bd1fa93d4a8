-- Objects of the regions that are copied to a segment one after the other.
use Rattle.std.proofs.Common.{◌≡◌, ◌≢◌, ◌∙◌, ℕ, suc, ◌+◌, ◌-◌, ◌<◌, ◌≤◌, Bool, true, false, List, [], ◌∷◌, ◌++◌, refl, sym, ap, subst, inl, inr, arith, length, take, drop, get_or, sum}
use Rattle.std.specs.Prelude.{set}
use Rattle.std.proofs.lemmas.Bool.{cases_eq, true≢false}
use Rattle.std.proofs.lemmas.List.{get_or-map, get_or-set_other, length-map, map-append, take-append-drop, take_all, take_more_set}
use Rattle.std.proofs.Math.Seq.{take-suc}
use Rattle.class_layout.specs.ClassList.{Class}
use Rattle.page_tables.specs.declared.address.Addr.{Addr}
use Rattle.page_tables.specs.declared.address.Window.TheVariants.{Regions}
use Rattle.page_tables.specs.Address.{is_in, page_of}
use Rattle.cow_pages.specs.Memory.{Memory}
use Rattle.heap_graph.specs.Sizes.{size_in}
use Rattle.object_view.proofs.Laid.{size-bounds}
use Rattle.image_space.proofs.SpotLemmas.{sum-append, sum-cons}
use Rattle.page_runs.specs.Covered.{covers}
use Rattle.raw_objects.specs.Keeps.{Covers, Keeps}
use Rattle.raw_objects.specs.Raws.{evacuated, raw_size, Raw, Raws}
use Rattle.raw_objects.specs.References.{in_regions}
use Rattle.raw_objects.proofs.Kept.{keeps-none, keeps-then}
use Rattle.region_lists.specs.Rows.{Lists}
use Rattle.live_objects.specs.Live.{addresses}
use Rattle.object_moves.specs.Copies.{at_of, moved, sizes_at, AreMoved, HoldsRegions}
use Rattle.object_moves.proofs.All.{moved-none, moved-shape, moves-on}
use Rattle.object_moves.proofs.One.{covered-page, evacuated-only, evacuated-shape, evacuated-to}
use Rattle.zygote_space.specs.Space.{to_page, zygote_spot, IsSpace, Places, Space}
use Rattle.object_promotion.specs.Promotes.{in_segment, spots_for}
use Rattle.object_promotion.specs.Phases.{CanPlace, CanPlaceAll, Fills, HasOwnPages, IsBehindAll}
use Rattle.object_promotion.proofs.OneCopy.{covers-inside}
use Rattle.object_promotion.proofs.Filling.{fills-more, fills-none, fills-spot, spots-more}

module _ (cs : List Class) (m : Memory) (t : ℕ) (s : Lists) (raws : Raws) (z : Space) (froms : List Addr) where
  abbrev sizes : List ℕ
  sizes = sizes_at cs raws froms

  -- the state after the first i of them
  pub record Copying (now : Memory) (z' : Space) (tos : List Addr) (i : ℕ) : Type 0 where
    pub held : HoldsRegions cs now t s (moved raws froms tos i)
    pub moves : AreMoved raws (moved raws froms tos i) froms tos i
    pub space : IsSpace z'
    pub fills : Fills z z' (take i sizes) (sum sizes - sum (take i sizes))
    pub behind : IsBehindAll cs (moved raws froms tos i) (zygote_spot (to_page z.fill + sum (take i sizes)))
    pub spots : addresses (take i tos) ≡ spots_for z.fill (take i sizes)
    pub rest : (k : ℕ) → i ≤ k → at_of tos k ≡ at_of froms k
    pub keeps : (may : ℕ → Bool) → ((p : ℕ) → is_in Regions p ≡ true → may p ≡ true) → ((p : ℕ) → in_segment z.fill (sum sizes) p ≡ true → may p ≡ true) → Keeps m now t may

  module _ (ok : CanPlaceAll cs m t s raws z froms) where
    pub copying-none : Copying m z froms 0
    copying-none =
        let start : zygote_spot (to_page z.fill) ≡ zygote_spot (to_page z.fill + sum []) = omega arith in
        let all : sum sizes ≡ sum sizes - sum [] = omega arith in
        record {
          held = ok.held;
          moves = moved-none raws froms froms (length froms) ok.has ok.once;
          space = ok.space;
          fills = subst (Fills z z []) all (fills-none z (sum sizes) ok.open_is);
          behind = subst (IsBehindAll cs raws) start ok.behind;
          spots = refl;
          rest = λ k le. refl;
          keeps = λ may young new. keeps-none m t may;
        }

    size-at : (i : ℕ) → i < length froms → get_or sizes i 0 ≡ raw_size cs raws (at_of froms i)
    size-at i below = get_or-map (λ (a : Addr). raw_size cs raws a.0) froms i (record { 0 = 0 }) 0 below

    sizes-more : (i : ℕ) → i < length froms → take (i + 1) sizes ≡ take i sizes ++ raw_size cs raws (at_of froms i) ∷ []
    sizes-more i below =
        let less : i < length sizes = omega (arith, below, length-map froms (λ (a : Addr). raw_size cs raws a.0)) in
        let e : i + 1 ≡ suc i = omega arith in
        ap (λ n. take n sizes) e ∙ take-suc sizes i 0 less ∙ ap (λ n. take i sizes ++ n ∷ []) (size-at i below)

    sum-more : (i : ℕ) → i < length froms → sum (take (i + 1) sizes) ≡ sum (take i sizes) + raw_size cs raws (at_of froms i)
    sum-more i below =
        let size : ℕ = raw_size cs raws (at_of froms i) in
        let parts = ap (λ (xs : List ℕ). sum xs) (sizes-more i below) ∙ sum-append (take i sizes) (size ∷ []) in
        omega (arith, parts, sum-cons size [])

    sum-most : (i : ℕ) → sum (take i sizes) ≤ sum sizes
    sum-most i =
        let whole = ap (λ (xs : List ℕ). sum xs) (sym (take-append-drop i sizes)) ∙ sum-append (take i sizes) (drop i sizes) in
        omega (arith, whole)

    module _ (now : Memory) (z' : Space) (tos : List Addr) (i : ℕ) (below : i < length froms) (c : Copying now z' tos i) where
      abbrev from : ℕ
      from = at_of froms i

      abbrev was : Raws
      was = moved raws froms tos i

      here : at_of tos i ≡ from
      here = c.rest i (omega arith)

      size-now : raw_size cs was (at_of tos i) ≡ raw_size cs raws from
      size-now = ap (raw_size cs was) here ∙ ap (size_in cs) (moved-shape raws froms tos i from (ok.has i below) c.moves.fresh)

      left : raw_size cs raws from ≤ sum sizes - sum (take i sizes)
      left = let more = sum-more i below in let most = sum-most (i + 1) in omega (arith, more, most)

      own : HasOwnPages now t (zygote_spot (to_page z.fill + sum (take i sizes))) (sum sizes - sum (take i sizes))
      own =
          let k = c.keeps (λ p. true) (λ p is. refl) (λ p is. refl) in
          let most = sum-most i in
          let inside : (p : ℕ) → covers (zygote_spot (to_page z.fill + sum (take i sizes))) (sum sizes - sum (take i sizes)) p ≡ true → in_segment z.fill (sum sizes) p ≡ true =
          λ p is. covers-inside (zygote_spot (to_page z.fill + sum (take i sizes))) (sum sizes - sum (take i sizes)) (zygote_spot (to_page z.fill)) (sum sizes) p (omega arith) (omega (arith, most)) is in
          record {
            mapped = λ p is. k.mapped p ∙ ok.pages.mapped p (inside p is);
            alone = λ p is. k.alone p (ok.pages.mapped p (inside p is)) (ok.pages.alone p (inside p is));
          }

      -- the next one can be copied
      pub copying-can : CanPlace cs now t s was z' (at_of tos i)
      copying-can = record {
        held = c.held;
        has = ap was.has here ∙ c.moves.has from (ok.has i below);
        inside = ap in_regions here ∙ ok.inside i below;
        space = c.space;
        segment = record { next = to_page z.fill + sum (take i sizes); rest = sum sizes - sum (take i sizes) };
        open_is = c.fills.segment;
        room = let same = size-now in let some = left in omega (arith, same, some);
        behind = c.behind;
        pages = own;
      }

      module _ (n : Memory) (z2 : Space) (to : Addr) (held : HoldsRegions cs n t s (evacuated was (at_of tos i) to.0)) (free : was.has to.0 ≡ false) (places' : Places z' z2 to.0 (raw_size cs was (at_of tos i)))
          (keeps : (may : ℕ → Bool) → Covers may to.0 (raw_size cs was (at_of tos i)) → may (page_of (at_of tos i)) ≡ true → Keeps now n t may) (space : IsSpace z2) (there : i < length tos) where
        abbrev size : ℕ
        size = raw_size cs raws from

        places : Places z' z2 to.0 size
        places = subst (λ (k : ℕ). Places z' z2 to.0 k) size-now places'

        spot : to.0 ≡ zygote_spot (to_page z.fill) + sum (take i sizes)
        spot = let next = (fills-spot z z' (take i sizes) (sum sizes - sum (take i sizes)) places.segment c.fills places.was).0 in omega (arith, places.spot, next)

        in-new : Covers (λ p. in_segment z.fill (sum sizes) p) to.0 (raw_size cs was (at_of tos i))
        in-new p low high =
            let same = size-now in
            let some = left in
            let at = spot in
            let most = sum-most i in
            let bounds = size-bounds cs (was.raw (at_of tos i)).shape in
            covers-inside to.0 (raw_size cs was (at_of tos i)) (zygote_spot (to_page z.fill)) (sum sizes) p (omega (arith, at)) (omega (arith, at, same, some, most))
            (covered-page to.0 (raw_size cs was (at_of tos i)) p (omega (arith, bounds.0, bounds.1, bounds.2)) low high)

        to-other : to.0 ≢ at_of tos i
        to-other e = true≢false (sym (copying-can.has) ∙ ap was.has (sym e) ∙ free)

        -- the copy ends where the next one is placed
        behind-next : IsBehindAll cs (evacuated was (at_of tos i) to.0) (zygote_spot (to_page z.fill + sum (take (i + 1) sizes)))
        behind-next a has low =
            let more = sum-more i below in
            let at = spot in
            let same = size-now in
            elim (cases_eq a to.0) [
              | inl e ↦
                  let copy : raw_size cs (evacuated was (at_of tos i) to.0) to.0 ≡ raw_size cs was (at_of tos i) = ap (λ (r : Raw). size_in cs r.shape) (evacuated-to was (at_of tos i) to.0 to-other) in
                  let it : raw_size cs (evacuated was (at_of tos i) to.0) a ≡ size = ap (raw_size cs (evacuated was (at_of tos i) to.0)) e ∙ copy ∙ same in
                  omega (arith, e, it, at, more)
              | inr ne ↦
                  let old : a + raw_size cs was a ≤ zygote_spot (to_page z.fill + sum (take i sizes)) = elim (evacuated-only was (at_of tos i) to.0 a has) [ inl e ↦ absurd (ne e) | inr it ↦ c.behind a it low ] in
                  let it : raw_size cs (evacuated was (at_of tos i) to.0) a ≡ raw_size cs was a = ap (size_in cs) (evacuated-shape was (at_of tos i) to.0 a ne) in
                  omega (arith, it, old, more)
            ]

        pub copying-next : Copying n z2 (set tos i to) (i + 1)
        copying-next =
            let tos' : List Addr = set tos i to in
            let on = moves-on raws froms tos i to ok.has ok.once below there here c.moves free in
            let others : (j : ℕ) → j ≢ i → at_of tos' j ≡ at_of tos j = λ j ne. ap (λ (a : Addr). a.0) (get_or-set_other tos i j to (record { 0 = 0 }) ne) in
            let more = sum-more i below in
            let less : (sum sizes - sum (take i sizes)) - size ≡ sum sizes - sum (take (i + 1) sizes) = omega (arith, more) in
            record {
              held = subst (HoldsRegions cs n t s) on.is held;
              moves = on.moves;
              space = space;
              fills =
                  subst (λ (xs : List ℕ). Fills z z2 xs (sum sizes - sum (take (i + 1) sizes))) (sym (sizes-more i below))
                  (subst (Fills z z2 (take i sizes ++ size ∷ [])) less (fills-more z z' z2 (take i sizes) (sum sizes - sum (take i sizes)) to.0 size c.fills places));
              behind = subst (λ (r : Raws). IsBehindAll cs r (zygote_spot (to_page z.fill + sum (take (i + 1) sizes)))) on.is behind-next;
              spots =
                  ap (λ (xs : List Addr). addresses xs) (take_more_set tos i to there) ∙ map-append (λ (a : Addr). a.0) (take i tos) (to ∷ [])
                  ∙ ap (λ (xs : List ℕ). xs ++ to.0 ∷ []) c.spots ∙ ap (λ k. spots_for z.fill (take i sizes) ++ k ∷ []) spot
                  ∙ sym (ap (spots_for z.fill) (sizes-more i below) ∙ spots-more z.fill (take i sizes) size);
              rest = λ k le. others k (omega (arith, le)) ∙ c.rest k (omega (arith, le));
              keeps = λ may young new.
                  keeps-then m now n t may (c.keeps may young new) (keeps may (λ p low high. new p (in-new p low high)) (young (page_of (at_of tos i)) copying-can.inside));
            }

    -- all are copied
    pub record CopiedAll (now : Memory) (z' : Space) (tos : List Addr) : Type 0 where
      pub held : HoldsRegions cs now t s (moved raws froms tos (length froms))
      pub moves : AreMoved raws (moved raws froms tos (length froms)) froms tos (length froms)
      pub fills : Fills z z' sizes 0
      pub spots : addresses tos ≡ spots_for z.fill sizes
      pub keeps : (may : ℕ → Bool) → ((p : ℕ) → is_in Regions p ≡ true → may p ≡ true) → ((p : ℕ) → in_segment z.fill (sum sizes) p ≡ true → may p ≡ true) → Keeps m now t may

    pub copying-all : (now : Memory) (z' : Space) (tos : List Addr) (i : ℕ) → length tos ≡ length froms → i ≡ length froms → Copying now z' tos i → CopiedAll now z' tos
    copying-all now z' tos i same done c =
        let whole : take i sizes ≡ sizes = take_all i sizes (omega (arith, done, length-map froms (λ (a : Addr). raw_size cs raws a.0))) in
        let none : sum sizes - sum (take i sizes) ≡ 0 = let all = ap (λ (xs : List ℕ). sum xs) whole in omega (arith, all) in
        record {
          held = subst (λ (k : ℕ). HoldsRegions cs now t s (moved raws froms tos k)) done c.held;
          moves = subst (λ (k : ℕ). AreMoved raws (moved raws froms tos k) froms tos k) done c.moves;
          fills = subst (λ (xs : List ℕ). Fills z z' xs 0) whole (subst (Fills z z' (take i sizes)) none c.fills);
          spots = ap (λ (xs : List Addr). addresses xs) (sym (take_all i tos (omega (arith, same, done)))) ∙ c.spots ∙ ap (spots_for z.fill) whole;
          keeps = c.keeps;
        }
