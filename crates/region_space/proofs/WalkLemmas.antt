-- The walk from object to object over the rows.
use Rattle.std.proofs.Common.{◌≡◌, ◌≢◌, ◌∙◌, ℕ, suc, ◌+◌, ◌-◌, ◌*◌, ◌/◌, ◌<◌, ◌≤◌, Bool, true, false, List, [], ◌∷◌, ◌++◌, length, map, All, get_or, nat_eq, nat_le, nat_lt, Some, None, refl, sym, ap, subst, inl, inr, arith}
use Rattle.std.specs.Prelude.{◌⊎◌, ◌||◌, IsTrue, if◌then◌else◌}
use Rattle.std.proofs.lemmas.Bool.{and_from, and_parts, cases_Bool, cases_lt, false≢true, le-leb, le-ltb, leb-true, lt-ltb, ne_eqb, or_left, or_right}
use Rattle.std.proofs.lemmas.List.{append_assoc, length-append, map-append}
use Rattle.std.proofs.lemmas.List.Elements.{All-cons, All-head, All-nil, All-tail}
use Rattle.std.proofs.lemmas.Cmp.{nat_eq_equiv}
use Rattle.std.proofs.lemmas.Map.Keys.{IsDistinct-tail}
use Rattle.std.proofs.lemmas.Option.{none-some}
use Rattle.std.specs.List.{IsDistinct, list_any}
use Rattle.model_numbers.specs.Numbers.{region_base, region_bytes}
use Rattle.heap_graph.specs.Packing.{after, end_from, place}
use Rattle.region_lists.specs.Rows.{Lists, Row, first_of, row_behind, row_of}
use Rattle.region_lists.proofs.ChainLemmas.{apart-head}
use Rattle.region_lists.proofs.MoveLemmas.{all-left, all-right, apart-parts, distinct-left}
use Rattle.region_space.specs.Packed.{Pack, address_in, fills_from, region_at}
use Rattle.region_space.specs.Pages.{IsObjectIn, lies_in, next_in, start_of}
use Rattle.region_space.specs.Space.{IsFilled, IsSize, IsSpace, base_of}
use Rattle.region_space.proofs.PackLemmas.{EndsIn, address-is, begins, end-more, ends-fits, ends-opens, fits-if, heads, opens-if, place-fits, place-opens, region-mid, splits}

-- rows, cut where a fill stands
pub record Cut (rows : List Row) (front : List ℕ) (fill : ℕ) (back : List ℕ) : Type 0 where
  pub before : List Row
  pub row : Row
  pub rest : List Row
  pub is : rows ≡ before ++ row ∷ rest
  pub count : length before ≡ length front
  pub fill_is : row.fill ≡ fill
  pub rest_is : map (λ (row : Row). row.fill) rest ≡ back

pub cut : (rows : List Row) (front : List ℕ) (fill : ℕ) (back : List ℕ) → map (λ (row : Row). row.fill) rows ≡ front ++ fill ∷ back → Cut rows front fill back
cut [] [] fill back is = absurd (omega (arith, ap length is))
cut (row ∷ rest) [] fill back is = record { before = []; row = row; rest = rest; is = refl; count = refl; fill_is = cc; rest_is = cc }
cut [] (f ∷ fs) fill back is = absurd (omega (arith, ap length is))
cut (row ∷ rest) (f ∷ fs) fill back is = behind (cut rest fs fill back tail)
  where
    tail : map (λ (row : Row). row.fill) rest ≡ fs ++ fill ∷ back
    tail = cc

    behind : Cut rest fs fill back → Cut (row ∷ rest) (f ∷ fs) fill back
    behind r = record { before = row ∷ r.before; row = r.row; rest = r.rest; is = ap (λ rows. row ∷ rows) r.is; count = ap (λ n. suc n) r.count; fill_is = r.fill_is; rest_is = r.rest_is }

-- an object of one region lies in no other
pub lies-nowhere : (at size : ℕ) (row other : Row) → IsFilled other → 0 < size → base_of row.region ≤ at → at + size ≤ base_of row.region + region_bytes → other.region ≢ row.region → lies_in at size other ≡ false
lies-nowhere at size row other filled some from to apart = by (cases_Bool (lies_in at size other))
  where
    by : (lies_in at size other ≡ true) ⊎ (lies_in at size other ≡ false) → lies_in at size other ≡ false
    by (inr no_there) = no_there
    by (inl there) =
        let parts = and_parts (nat_le (base_of other.region) at) (nat_le (at + size) (base_of other.region + other.fill)) there in
        let start = leb-true (base_of other.region) at parts.0 in
        let end = leb-true (at + size) (base_of other.region + other.fill) parts.1 in
        absurd (apart (omega (arith, start, end, filled.most, some, from, to)))

pub next-at : (before : List Row) (row : Row) (rest : List Row) (at size : ℕ) → All (λ (other : Row). lies_in at size other ≡ false) before → lies_in at size row ≡ true
    → next_in (before ++ row ∷ rest) at size ≡ (if nat_lt (at + size) (base_of row.region + row.fill) then Some (at + size) else start_of (first_of rest))
next-at [] row rest at size none here =
    ap (λ (b : Bool). if b then (if nat_lt (at + size) (base_of row.region + row.fill) then Some (at + size) else start_of (first_of rest)) else next_in rest at size) here
next-at (one ∷ before) row rest at size none here =
    ap (λ (b : Bool). if b then (if nat_lt (at + size) (base_of one.region + one.fill) then Some (at + size) else start_of (first_of (before ++ row ∷ rest))) else next_in (before ++ row ∷ rest) at size)
    (All-head (λ (other : Row). lies_in at size other ≡ false) one before none)
    ∙ next-at before row rest at size (All-tail (λ (other : Row). lies_in at size other ≡ false) one before none) here

-- where an object stands, by the fills of the rows
pub record Stands (rows : List Row) (before : List ℕ) (size : ℕ) (more : List ℕ) : Type 0 where
  pub front : List ℕ
  pub fill : ℕ
  pub fills : map (λ (row : Row). row.fill) rows ≡ front ++ fills_from fill more
  pub at : EndsIn (after (end_from 0 before) size) (suc (length front)) fill
  pub holds : size ≤ fill

-- what follows the full region with which the fills begin
behind-first : (xs front : List ℕ) (x : ℕ) (ys : List ℕ) → region_bytes ∷ xs ≡ front ++ x ∷ ys → (fs : List ℕ) × (xs ≡ fs ++ ys) × (length fs ≡ length front)
behind-first xs [] x ys is = ([], cc, refl)
behind-first xs (f ∷ fs) x ys is =
    let tail : xs ≡ fs ++ x ∷ ys = cc in
    (fs ++ x ∷ [], tail ∙ sym (append_assoc fs (x ∷ []) ys), length-append fs (x ∷ []) ∙ plus-one (length fs))
  where
    plus-one : (n : ℕ) → n + 1 ≡ suc n
    plus-one n = omega arith

stands-behind : (rows : List Row) (before : List ℕ) (size : ℕ) (more front : List ℕ) (fill : ℕ) → IsSize size → EndsIn (end_from 0 before) (0 + length front) fill
    → region_bytes ∷ map (λ (row : Row). row.fill) rows ≡ front ++ fills_from fill (size ∷ more) → (region_bytes < fill + size) ⊎ (fill + size ≤ region_bytes) → Stands rows before size more
stands-behind rows before size more front fill is at fills (inl opens) =
    let some : 0 < size = omega (arith, is.least) in
    let b = behind-first (map (λ (row : Row). row.fill) rows) front fill (fills_from size more) (fills ∙ ap (λ fs. front ++ fs) (opens-if fill size more opens)) in
    let next = ends-opens (end_from 0 before) (0 + length front) fill size at some is.greatest opens in
    record {
      front = b.0;
      fill = size;
      fills = b.1;
      at = record { end = omega (arith, next.end, b.2); some = next.some; most = next.most };
      holds = omega arith;
    }
stands-behind rows before size more [] fill is at fills (inr fits) = absurd (omega (arith, at.end, at.most, fits, is.least))
stands-behind rows before size more (f ∷ fs) fill is at fills (inr fits) =
    let some : 0 < size = omega (arith, is.least) in
    let next = ends-fits (end_from 0 before) (0 + suc (length fs)) fill size at some fits in
    let here : region_bytes ∷ map (λ (row : Row). row.fill) rows ≡ f ∷ (fs ++ fills_from (fill + size) more) = fills ∙ ap (λ gs. f ∷ (fs ++ gs)) (fits-if fill size more fits) in
    record {
      front = fs;
      fill = fill + size;
      fills = cc;
      at = record { end = omega (arith, next.end); some = next.some; most = next.most };
      holds = omega arith;
    }

pub stands : (rows : List Row) (before : List ℕ) (size : ℕ) (more : List ℕ) → All IsSize before → IsSize size
    → region_bytes ∷ map (λ (row : Row). row.fill) rows ≡ fills_from region_bytes (before ++ size ∷ more) → Stands rows before size more
stands rows before size more sizes is fills =
    let r = splits 0 0 region_bytes before begins sizes in
    stands-behind rows before size more r.front r.fill is r.at (fills ∙ r.fills (size ∷ more)) (cases_lt region_bytes (r.fill + size))

-- ROWS

pub all-regions : (P : ℕ → Type 0) (rows : List Row) → All P (map (λ (row : Row). row.region) rows) → All (λ (row : Row). P row.region) rows
all-regions P [] all = All-nil (λ (row : Row). P row.region)
all-regions P (row ∷ rest) all =
    All-cons (λ (row : Row). P row.region) row rest (All-head P row.region (map (λ (row : Row). row.region) rest) all)
    (all-regions P rest (All-tail P row.region (map (λ (row : Row). row.region) rest) all))

-- the rows before one are of other regions
pub others-before : (before : List Row) (row : Row) (rest : List Row) → IsDistinct nat_eq (map (λ (row : Row). row.region) (before ++ row ∷ rest))
    → All (λ (other : Row). other.region ≢ row.region) before
others-before before row rest apart =
    let regions = λ (rows : List Row). map (λ (row : Row). row.region) rows in
    let split : regions (before ++ row ∷ rest) ≡ regions before ++ row.region ∷ regions rest = map-append (λ (row : Row). row.region) before (row ∷ rest) in
    all-regions (λ n. n ≢ row.region) before
    (All-head (λ k. All (λ n. n ≢ k) (regions before)) row.region (regions rest) (apart-parts (regions before) (row.region ∷ regions rest) (subst (IsDistinct nat_eq) split apart)))

region-of-cut : (rows : List Row) (front : List ℕ) (fill : ℕ) (back : List ℕ) (c : Cut rows front fill back) → region_at rows (length front) ≡ c.row.region
region-of-cut rows front fill back c =
    ap (λ it. region_at it (length front)) c.is ∙ ap (region_at (c.before ++ c.row ∷ c.rest)) (sym c.count) ∙ region-mid c.before c.row c.rest

-- the object's address, and where the walk goes on from it
pub record Walked (rows : List Row) (p size lf fill x : ℕ) (xs : List ℕ) : Type 0 where
  pub before : List Row
  pub row : Row
  pub rest : List Row
  pub is : rows ≡ before ++ row ∷ rest
  pub count : length before ≡ lf
  pub rest_is : map (λ (row : Row). row.fill) rest ≡ xs
  pub address : address_in rows p + size ≡ base_of row.region + fill
  pub lies : lies_in (address_in rows p) size row ≡ true
  pub next : next_in rows (address_in rows p) size ≡ (if nat_lt (address_in rows p + size) (base_of row.region + x) then Some (address_in rows p + size) else start_of (first_of rest))

pub walked : (rows : List Row) (before : List ℕ) (size : ℕ) (more : List ℕ) (x : ℕ) (xs : List ℕ) (st : Stands rows before size more) → IsSize size
    → All IsFilled rows → IsDistinct nat_eq (map (λ (row : Row). row.region) rows) → fills_from st.fill more ≡ x ∷ xs → st.fill ≤ x → Walked rows (place (end_from 0 before) size) size (length st.front) st.fill x xs
walked rows before size more x xs st is filled apart begin above =
    let c = cut rows st.front x xs (st.fills ∙ ap (λ fs. st.front ++ fs) begin) in
    let p = place (end_from 0 before) size in
    let spot : p ≡ region_bytes * length st.front + (st.fill - size) = omega (arith, st.at.end, st.holds) in
    let inside : st.fill - size < region_bytes = omega (arith, st.at.most, st.holds, is.least) in
    let address : address_in rows p ≡ base_of c.row.region + (st.fill - size) =
    address-is rows p (length st.front) (st.fill - size) spot inside ∙ ap (λ k. base_of k + (st.fill - size)) (region-of-cut rows st.front x xs c) in
    let at = address_in rows p in
    let end : at + size ≡ base_of c.row.region + st.fill = omega (arith, address, st.holds) in
    let some : 0 < size = omega (arith, is.least) in
    let here : lies_in at size c.row ≡ true =
    and_from _ _ (le-leb (base_of c.row.region) at (omega (arith, address))) (le-leb (at + size) (base_of c.row.region + c.row.fill) (omega (arith, end, above, c.fill_is))) in
    let distinct = others-before c.before c.row c.rest (subst (λ it. IsDistinct nat_eq (map (λ (row : Row). row.region) it)) c.is apart) in
    let all = all-left IsFilled c.before (c.row ∷ c.rest) (subst (All IsFilled) c.is filled) in
    let none : All (λ (other : Row). lies_in at size other ≡ false) c.before = λ k d within.
    lies-nowhere at size c.row (get_or c.before k d) (all k d within) some (omega (arith, address)) (omega (arith, end, st.at.most)) (distinct k d within) in
    record {
      before = c.before;
      row = c.row;
      rest = c.rest;
      is = c.is;
      count = c.count;
      rest_is = c.rest_is;
      address = end;
      lies = here;
      next = ap (λ it. next_in it at size) c.is ∙ next-at c.before c.row c.rest at size none here
          ∙ ap (λ k. if nat_lt (at + size) (base_of c.row.region + k) then Some (at + size) else start_of (first_of c.rest)) c.fill_is;
    }

-- THE LAWS

pub walk-first : (rows : List Row) (size : ℕ) (more : List ℕ) → IsSize size → Pack rows (size ∷ more) → start_of (first_of rows) ≡ Some (address_in rows 0)
walk-first [] size more is pack =
    let opens : region_bytes < region_bytes + size = omega (arith, is.least) in
    let h = heads size more in
    let two = pack.fills ∙ opens-if region_bytes size more opens ∙ ap (λ fs. region_bytes ∷ fs) h.is in
    absurd (omega (arith, ap length two))
walk-first (row ∷ rest) size more is pack =
    let address = address-is (row ∷ rest) 0 0 0 (omega arith) (omega arith) in
    ap (λ k. Some k) (none (base_of row.region) ∙ sym address)
  where
    none : (n : ℕ) → n ≡ n + 0
    none n = omega arith

walk-fits : (rows : List Row) (before : List ℕ) (size follower : ℕ) (more : List ℕ) (st : Stands rows before size (follower ∷ more)) → All IsFilled rows → IsDistinct nat_eq (map (λ (row : Row). row.region) rows)
    → IsSize size → IsSize follower → st.fill + follower ≤ region_bytes
    → next_in rows (address_in rows (place (end_from 0 before) size)) size ≡ Some (address_in rows (place (after (end_from 0 before) size) follower))
walk-fits rows before size follower more st filled apart is more_is fits =
    let some : 0 < follower = omega (arith, more_is.least) in
    let h = heads (st.fill + follower) more in
    let w = walked rows before size (follower ∷ more) h.fill h.rest st is filled apart (fits-if st.fill follower more fits ∙ h.is) (omega (arith, h.above)) in
    let at = address_in rows (place (end_from 0 before) size) in
    let q = place (after (end_from 0 before) size) follower in
    let here = place-fits (after (end_from 0 before) size) (suc (length st.front)) st.fill follower st.at some fits in
    let same : address_in rows q ≡ base_of w.row.region + st.fill =
    address-is rows q (length st.front) st.fill (omega (arith, here, st.at.end)) (omega (arith, fits, some))
    ∙ ap (λ k. base_of k + st.fill) (ap (λ it. region_at it (length st.front)) w.is ∙ ap (region_at (w.before ++ w.row ∷ w.rest)) (sym w.count) ∙ region-mid w.before w.row w.rest) in
    let below : at + size < base_of w.row.region + h.fill = omega (arith, w.address, h.above, some) in
    w.next
    ∙ ap (λ (b : Bool). if b then Some (at + size) else start_of (first_of w.rest)) (lt-ltb (at + size) (base_of w.row.region + h.fill) below)
    ∙ ap (λ k. Some k) (w.address ∙ sym same)

second-row : (before : List Row) (row : Row) (rest : List Row) (lf y : ℕ) (ys : List ℕ) (rows : List Row) → rows ≡ before ++ row ∷ rest → length before ≡ lf → map (λ (row : Row). row.fill) rest ≡ y ∷ ys
    → start_of (first_of rest) ≡ Some (base_of (region_at rows (suc lf)) + 0)
second-row before row [] lf y ys rows is count rest_is = absurd (omega (arith, ap length rest_is))
second-row before row (next ∷ rest) lf y ys rows is count rest_is =
    let split : rows ≡ (before ++ row ∷ []) ++ next ∷ rest = is ∙ sym (append_assoc before (row ∷ []) (next ∷ rest)) in
    let at : length (before ++ row ∷ []) ≡ suc lf = omega (arith, length-append before (row ∷ []), count) in
    let region : region_at rows (suc lf) ≡ next.region =
    ap (λ it. region_at it (suc lf)) split ∙ ap (region_at ((before ++ row ∷ []) ++ next ∷ rest)) (sym at) ∙ region-mid (before ++ row ∷ []) next rest in
    ap (λ k. Some k) (none (base_of next.region) ∙ sym (ap (λ k. base_of k + 0) region))
  where
    none : (n : ℕ) → n ≡ n + 0
    none n = omega arith

walk-opens : (rows : List Row) (before : List ℕ) (size follower : ℕ) (more : List ℕ) (st : Stands rows before size (follower ∷ more)) → All IsFilled rows → IsDistinct nat_eq (map (λ (row : Row). row.region) rows)
    → IsSize size → IsSize follower → region_bytes < st.fill + follower
    → next_in rows (address_in rows (place (end_from 0 before) size)) size ≡ Some (address_in rows (place (after (end_from 0 before) size) follower))
walk-opens rows before size follower more st filled apart is more_is opens =
    let some : 0 < follower = omega (arith, more_is.least) in
    let h = heads follower more in
    let w = walked rows before size (follower ∷ more) st.fill (fills_from follower more) st is filled apart (opens-if st.fill follower more opens) (omega arith) in
    let at = address_in rows (place (end_from 0 before) size) in
    let q = place (after (end_from 0 before) size) follower in
    let here = place-opens (after (end_from 0 before) size) (suc (length st.front)) st.fill follower st.at some more_is.greatest opens in
    let spot = address-is rows q (suc (length st.front)) 0 (omega (arith, here)) (omega arith) in
    w.next
    ∙ ap (λ (b : Bool). if b then Some (at + size) else start_of (first_of w.rest)) (le-ltb (at + size) (base_of w.row.region + st.fill) (omega (arith, w.address)))
    ∙ second-row w.before w.row w.rest (length st.front) h.fill h.rest rows w.is w.count (w.rest_is ∙ h.is)
    ∙ ap (λ k. Some k) (sym spot)

pub walk-next : (rows : List Row) (before more : List ℕ) (size follower : ℕ) → All IsFilled rows → IsDistinct nat_eq (map (λ (row : Row). row.region) rows) → All IsSize (before ++ size ∷ follower ∷ more)
    → Pack rows (before ++ size ∷ follower ∷ more)
    → next_in rows (address_in rows (place (end_from 0 before) size)) size ≡ Some (address_in rows (place (end_from 0 (before ++ size ∷ [])) follower))
walk-next rows before more size follower filled apart sizes pack =
    let back = all-right IsSize before (size ∷ follower ∷ more) sizes in
    let is = All-head IsSize size (follower ∷ more) back in
    let more_is = All-head IsSize follower more (All-tail IsSize size (follower ∷ more) back) in
    let st = stands rows before size (follower ∷ more) (all-left IsSize before (size ∷ follower ∷ more) sizes) is pack.fills in
    let end : after (end_from 0 before) size ≡ end_from 0 (before ++ size ∷ []) = sym (end-more 0 before (size ∷ [])) in
    elim (cases_lt region_bytes (st.fill + follower)) as (λ _. next_in rows (address_in rows (place (end_from 0 before) size)) size ≡ Some (address_in rows (place (after (end_from 0 before) size) follower))) [
      | inl opens ↦ walk-opens rows before size follower more st filled apart is more_is opens
      | inr fits ↦ walk-fits rows before size follower more st filled apart is more_is fits
    ]
    ∙ ap (λ e. Some (address_in rows (place e follower))) end

none-left : (rest : List Row) → map (λ (row : Row). row.fill) rest ≡ [] → start_of (first_of rest) ≡ None
none-left [] is = refl
none-left (row ∷ rest) is = absurd (omega (arith, ap length is))

pub walk-last : (rows : List Row) (before : List ℕ) (size : ℕ) → All IsFilled rows → IsDistinct nat_eq (map (λ (row : Row). row.region) rows) → All IsSize (before ++ size ∷ [])
    → Pack rows (before ++ size ∷ []) → next_in rows (address_in rows (place (end_from 0 before) size)) size ≡ None
walk-last rows before size filled apart sizes pack =
    let is = All-head IsSize size [] (all-right IsSize before (size ∷ []) sizes) in
    let st = stands rows before size [] (all-left IsSize before (size ∷ []) sizes) is pack.fills in
    let w = walked rows before size [] st.fill [] st is filled apart refl (omega arith) in
    let at = address_in rows (place (end_from 0 before) size) in
    w.next
    ∙ ap (λ (b : Bool). if b then Some (at + size) else start_of (first_of w.rest)) (le-ltb (at + size) (base_of w.row.region + st.fill) (omega (arith, w.address)))
    ∙ none-left w.rest w.rest_is

pub any-here : (test : Row → Bool) (before : List Row) (row : Row) (rest : List Row) → test row ≡ true → list_any test (before ++ row ∷ rest) ≡ true
any-here test [] row rest here = or_left (test row) (list_any test rest) here
any-here test (one ∷ before) row rest here = or_right (test one) (list_any test (before ++ row ∷ rest)) (any-here test before row rest here)

pub walk-lies : (rows : List Row) (before more : List ℕ) (size : ℕ) → All IsFilled rows → IsDistinct nat_eq (map (λ (row : Row). row.region) rows) → All IsSize (before ++ size ∷ more)
    → Pack rows (before ++ size ∷ more) → IsObjectIn rows (address_in rows (place (end_from 0 before) size)) size
walk-lies rows before more size filled apart sizes pack =
    let is = All-head IsSize size more (all-right IsSize before (size ∷ more) sizes) in
    let st = stands rows before size more (all-left IsSize before (size ∷ more) sizes) is pack.fills in
    let h = heads st.fill more in
    let w = walked rows before size more h.fill h.rest st is filled apart h.is h.above in
    record {
      some = omega (arith, is.least);
      there = ap (list_any (lies_in (address_in rows (place (end_from 0 before) size)) size)) w.is ∙ any-here (lies_in (address_in rows (place (end_from 0 before) size)) size) w.before w.row w.rest w.lies;
    }

pub in_use-filled : (s : Lists) → IsSpace s → All IsFilled s.in_use
in_use-filled s space = all-left IsFilled s.in_use s.from space.filled

pub in_use-apart : (s : Lists) → IsSpace s → IsDistinct nat_eq (map (λ (row : Row). row.region) s.in_use)
in_use-apart s space =
    let regions = λ (rows : List Row). map (λ (row : Row). row.region) rows in
    distinct-left (regions s.in_use) (regions s.from) (distinct-left (regions s.in_use ++ regions s.from) s.free space.lists.apart)

-- THE ROW OF AN OBJECT

pub row-holds : (P : Row → Type 0) (rows : List Row) (region : ℕ) (row : Row) → row_of rows region ≡ Some row → All P rows → P row
row-holds P [] region row is all = absurd (none-some row is)
row-holds P (one ∷ rest) region row is all = elim (cases_Bool (nat_eq one.region region)) [
  | inl here ↦
      let first : Some one ≡ Some row = sym (ap (λ (b : Bool). if b then Some one else row_of rest region) here) ∙ is in
      let same : one ≡ row = cc in
      subst P same (All-head P one rest all)
  | inr later ↦ row-holds P rest region row (sym (ap (λ (b : Bool). if b then Some one else row_of rest region) later) ∙ is) (All-tail P one rest all)
]

pub record Found (rows : List Row) (at size : ℕ) : Type 0 where
  pub row : Row
  pub lies : lies_in at size row ≡ true
  pub is : row_of rows row.region ≡ Some row
  pub next : next_in rows at size ≡ (if nat_lt (at + size) (base_of row.region + row.fill) then Some (at + size) else start_of (row_behind rows row.region))

pub found : (rows : List Row) (at size : ℕ) → IsDistinct nat_eq (map (λ (row : Row). row.region) rows) → IsTrue (list_any (lies_in at size) rows) → Found rows at size
found [] at size apart there = absurd (false≢true there)
found (row ∷ rest) at size apart there = elim (cases_Bool (lies_in at size row)) [
  | inl here ↦ record {
    row = row;
    lies = here;
    is = ap (λ (b : Bool). if b then Some row else row_of rest row.region) (nat_eq_equiv.refl row.region);
    next = ap (λ (b : Bool). if b then (if nat_lt (at + size) (base_of row.region + row.fill) then Some (at + size) else start_of (first_of rest)) else next_in rest at size) here
        ∙ sym (ap (λ (b : Bool). if nat_lt (at + size) (base_of row.region + row.fill) then Some (at + size) else start_of (if b then first_of rest else row_behind rest row.region)) (nat_eq_equiv.refl row.region));
  }
  | inr later ↦
      let regions = map (λ (row : Row). row.region) rest in
      let f = found rest at size (IsDistinct-tail nat_eq row.region regions apart) (sym (ap (λ (b : Bool). b || list_any (lies_in at size) rest) later) ∙ there) in
      let other = row-holds (λ (it : Row). it.region ≢ row.region) rest f.row.region f.row f.is (all-regions (λ n. n ≢ row.region) rest (apart-head row.region regions apart)) in
      let no_test = ne_eqb row.region f.row.region (λ same. other (sym same)) in
      record {
        row = f.row;
        lies = f.lies;
        is = ap (λ (b : Bool). if b then Some row else row_of rest f.row.region) no_test ∙ f.is;
        next = ap (λ (b : Bool). if b then (if nat_lt (at + size) (base_of row.region + row.fill) then Some (at + size) else start_of (first_of rest)) else next_in rest at size) later
            ∙ f.next
            ∙ sym (ap (λ (b : Bool). if nat_lt (at + size) (base_of f.row.region + f.row.fill) then Some (at + size) else start_of (if b then first_of rest else row_behind rest f.row.region)) no_test);
      }
]

-- the row's facts in numbers
pub record Placed (s : Lists) (at size : ℕ) (row : Row) : Type 0 where
  pub from : base_of row.region ≤ at
  pub to : at + size ≤ base_of row.region + row.fill
  pub most : row.fill ≤ region_bytes
  pub within : row.region < s.count
  pub region : (at - region_base) / region_bytes ≡ row.region

pub in_use-within : (s : Lists) → IsSpace s → All (λ (row : Row). row.region < s.count) s.in_use
in_use-within s space =
    let regions = λ (rows : List Row). map (λ (row : Row). row.region) rows in
    all-regions (λ n. n < s.count) s.in_use (all-left (λ n. n < s.count) (regions s.in_use) (regions s.from) (all-left (λ n. n < s.count) (regions s.in_use ++ regions s.from) s.free space.lists.within))

pub placed : (s : Lists) (at size : ℕ) → IsSpace s → 0 < size → (f : Found s.in_use at size) → Placed s at size f.row
placed s at size space some f =
    let parts = and_parts (nat_le (base_of f.row.region) at) (nat_le (at + size) (base_of f.row.region + f.row.fill)) f.lies in
    let from = leb-true (base_of f.row.region) at parts.0 in
    let to = leb-true (at + size) (base_of f.row.region + f.row.fill) parts.1 in
    let filled = row-holds IsFilled s.in_use f.row.region f.row f.is (in_use-filled s space) in
    record {
      from = from;
      to = to;
      most = filled.most;
      within = row-holds (λ (row : Row). row.region < s.count) s.in_use f.row.region f.row f.is (in_use-within s space);
      region = omega (arith, from, to, filled.most, some);
    }

pub behind-holds : (P : Row → Type 0) (rows : List Row) (region : ℕ) (row : Row) → row_behind rows region ≡ Some row → All P rows → P row
behind-holds P [] region row is all = absurd (none-some row is)
behind-holds P (one ∷ rest) region row is all = elim (cases_Bool (nat_eq one.region region)) [
  | inl here ↦ first-holds rest (sym (ap (λ (b : Bool). if b then first_of rest else row_behind rest region) here) ∙ is) (All-tail P one rest all)
  | inr later ↦ behind-holds P rest region row (sym (ap (λ (b : Bool). if b then first_of rest else row_behind rest region) later) ∙ is) (All-tail P one rest all)
]
  where
    first-holds : (rs : List Row) → first_of rs ≡ Some row → All P rs → P row
    first-holds [] first all = absurd (none-some row first)
    first-holds (r ∷ rs) first all = let same : r ≡ row = cc in subst P same (All-head P r rs all)
