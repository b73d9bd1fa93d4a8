-- Rows that objects fill by the rule of packing, with an object more.
use Rattle.std.proofs.Common.{◌≡◌, ◌∙◌, ℕ, zero, suc, ◌+◌, ◌-◌, ◌*◌, ◌/◌, ◌%◌, ◌<◌, ◌≤◌, Bool, true, false, List, [], ◌∷◌, ◌++◌, length, map, All, nat_eq, nat_le, Option, Some, None, refl, sym, ap, subst, inl, inr, arith}
use Rattle.std.specs.Prelude.{◌⊎◌, if◌then◌else◌, slice_index_or}
use Rattle.std.proofs.lemmas.Bool.{cases_lt, eqb-true, le-leb, leb-false, leb-true, lt-leb}
use Rattle.std.proofs.lemmas.Cmp.{nat_eq_equiv}
use Rattle.std.proofs.lemmas.List.Elements.{All-head, All-tail}
use Rattle.std.proofs.lemmas.List.{length-append}
use Rattle.model_numbers.specs.Numbers.{region_bytes}
use Rattle.heap_graph.specs.Packing.{after, end_from, place, place_if}
use Rattle.heap_graph.specs.Sizes.{parts_for}
use Rattle.region_lists.specs.Rows.{Row, last_of, with_last}
use Rattle.region_space.specs.Packed.{Pack, address_in, end_of_rows, fills_from, last_fill, region_at}
use Rattle.region_space.specs.Space.{IsFilled, IsSize, base_of, has_room, spot_if, spot_in, with_object, with_object_if, would_open}

-- ONE OBJECT

-- so many regions are begun, and the last of them is filled so far, where the objects end
pub record EndsIn (p j f : ℕ) : Type 0 where
  pub end : p + region_bytes ≡ region_bytes * j + f
  pub some : 0 < f
  pub most : f ≤ region_bytes

-- an object that fits behind the others stands there
pub place-fits : (p j f s : ℕ) → EndsIn p j f → 0 < s → f + s ≤ region_bytes → place p s ≡ p
place-fits p j f s at some fits =
    let same : p / region_bytes ≡ (p + s - 1) / region_bytes = omega (arith, at.end, at.some, some, fits) in
    ap (λ (b : Bool). place_if b p) (eqb-from p s same)
  where
    eqb-from : (p s : ℕ) → p / region_bytes ≡ (p + s - 1) / region_bytes → nat_eq (p / region_bytes) ((p + s - 1) / region_bytes) ≡ true
    eqb-from p s same = ap (nat_eq (p / region_bytes)) (sym same) ∙ nat_eq_equiv.refl (p / region_bytes)

-- and another one at the start of a region
pub place-opens : (p j f s : ℕ) → EndsIn p j f → 0 < s → s ≤ region_bytes → region_bytes < f + s → place p s ≡ region_bytes * j
place-opens p j f s at some most opens = by (nat_eq (p / region_bytes) ((p + s - 1) / region_bytes)) refl
  where
    by : (b : Bool) → nat_eq (p / region_bytes) ((p + s - 1) / region_bytes) ≡ b → place_if b p ≡ region_bytes * j
    by true is =
        let same : p / region_bytes ≡ (p + s - 1) / region_bytes = eqb-true (p / region_bytes) ((p + s - 1) / region_bytes) is in
        omega (arith, at.end, at.some, at.most, some, most, opens, same)
    by false is = omega (arith, at.end, at.some, at.most)

pub ends-fits : (p j f s : ℕ) → EndsIn p j f → 0 < s → f + s ≤ region_bytes → EndsIn (after p s) j (f + s)
ends-fits p j f s at some fits =
    let here = place-fits p j f s at some fits in
    record { end = omega (arith, at.end, here); some = omega (arith, some); most = fits }

pub ends-opens : (p j f s : ℕ) → EndsIn p j f → 0 < s → s ≤ region_bytes → region_bytes < f + s → EndsIn (after p s) (j + 1) s
ends-opens p j f s at some most opens =
    let here = place-opens p j f s at some most opens in
    record { end = omega (arith, here); some = some; most = most }

pub begins : EndsIn 0 0 region_bytes
begins = record { end = omega arith; some = omega arith; most = omega arith }

pub end-more : (p : ℕ) (before more : List ℕ) → end_from p (before ++ more) ≡ end_from (end_from p before) more
end-more p [] more = refl
end-more p (s ∷ ss) more = end-more (after p s) ss more

-- ALL OBJECTS

pub fits-if : (f s : ℕ) (more : List ℕ) → f + s ≤ region_bytes → fills_from f (s ∷ more) ≡ fills_from (f + s) more
fits-if f s more fits = ap (λ (b : Bool). if b then fills_from (f + s) more else f ∷ fills_from s more) (le-leb (f + s) region_bytes fits)

pub opens-if : (f s : ℕ) (more : List ℕ) → region_bytes < f + s → fills_from f (s ∷ more) ≡ f ∷ fills_from s more
opens-if f s more opens = ap (λ (b : Bool). if b then fills_from (f + s) more else f ∷ fills_from s more) (lt-leb (f + s) region_bytes opens)

-- the regions that are left behind by these objects, and how far the last one is filled
pub record Splits (p j f : ℕ) (before : List ℕ) : Type 0 where
  pub front : List ℕ
  pub fill : ℕ
  pub fills : (more : List ℕ) → fills_from f (before ++ more) ≡ front ++ fills_from fill more
  pub at : EndsIn (end_from p before) (j + length front) fill

pub splits : (p j f : ℕ) (before : List ℕ) → EndsIn p j f → All IsSize before → Splits p j f before
splits p j f [] at sizes = record {
  front = [];
  fill = f;
  fills = λ more. refl;
  at = record { end = omega (arith, at.end); some = at.some; most = at.most };
}
splits p j f (s ∷ ss) at sizes =
    let size = All-head IsSize s ss sizes in
    let rest = All-tail IsSize s ss sizes in
    let some : 0 < s = omega (arith, size.least) in
    elim (cases_lt region_bytes (f + s)) [
      | inl opens ↦
          let r = splits (after p s) (j + 1) s ss (ends-opens p j f s at some size.greatest opens) rest in
          record {
            front = f ∷ r.front;
            fill = r.fill;
            fills = λ more. opens-if f s (ss ++ more) opens ∙ ap (λ fs. f ∷ fs) (r.fills more);
            at = record { end = omega (arith, r.at.end); some = r.at.some; most = r.at.most };
          }
      | inr fits ↦
          let r = splits (after p s) j (f + s) ss (ends-fits p j f s at some fits) rest in
          record { front = r.front; fill = r.fill; fills = λ more. fits-if f s (ss ++ more) fits ∙ r.fills more; at = r.at }
    ]

-- the first of the fills is no less than that with which they begin
pub record Heads (f : ℕ) (more : List ℕ) : Type 0 where
  pub fill : ℕ
  pub rest : List ℕ
  pub is : fills_from f more ≡ fill ∷ rest
  pub above : f ≤ fill

pub heads : (f : ℕ) (more : List ℕ) → Heads f more
heads f [] = record { fill = f; rest = []; is = refl; above = omega arith }
heads f (s ∷ ss) = elim (cases_lt region_bytes (f + s)) [
  | inl opens ↦ record { fill = f; rest = fills_from s ss; is = opens-if f s ss opens; above = omega arith }
  | inr fits ↦ let r = heads (f + s) ss in record { fill = r.fill; rest = r.rest; is = fits-if f s ss fits ∙ r.is; above = omega (arith, r.above) }
]

-- ONE OBJECT MORE

-- fills with an object more
abbrev pub with_size : List ℕ → ℕ → List ℕ
with_size [] s = s ∷ []
with_size (f ∷ []) s = if nat_le (f + s) region_bytes then (f + s) ∷ [] else f ∷ s ∷ []
with_size (f ∷ g ∷ gs) s = f ∷ with_size (g ∷ gs) s

pub fills-more : (f : ℕ) (sizes : List ℕ) (s : ℕ) → fills_from f (sizes ++ s ∷ []) ≡ with_size (fills_from f sizes) s
fills-more f [] s = refl
fills-more f (x ∷ xs) s = elim (cases_lt region_bytes (f + x)) [
  | inl opens ↦
      let head = heads x xs in
      opens-if f x (xs ++ s ∷ []) opens
      ∙ ap (λ fs. f ∷ fs) (fills-more x xs s)
      ∙ ap (λ fs. f ∷ with_size fs s) head.is
      ∙ sym (ap (λ fs. with_size (f ∷ fs) s) head.is)
      ∙ sym (ap (λ fs. with_size fs s) (opens-if f x xs opens))
  | inr fits ↦ fits-if f x (xs ++ s ∷ []) fits ∙ fills-more (f + x) xs s ∙ sym (ap (λ fs. with_size fs s) (fits-if f x xs fits))
]

fill_of : Row → ℕ
fill_of row = row.fill

abbrev fills_in : List Row → List ℕ
fills_in rows = map (λ (row : Row). row.fill) rows

with_object-behind : (b : Bool) (row next : Row) (rest : List Row) (last : Option Row) (region s : ℕ)
    → with_object_if b (row ∷ next ∷ rest) last region s ≡ row ∷ with_object_if b (next ∷ rest) last region s
with_object-behind true row next rest None region s = refl
with_object-behind true row next rest (Some last) region s = refl
with_object-behind false row next rest last region s = refl

with_object-one : (b : Bool) (row : Row) (region s : ℕ)
    → fills_in (with_object_if b (row ∷ []) (Some row) region s) ≡ (if b then (row.fill + s) ∷ [] else row.fill ∷ s ∷ [])
with_object-one true row region s = refl
with_object-one false row region s = refl

pub with_object-fills : (row : Row) (rest : List Row) (region s : ℕ) → fills_in (with_object (row ∷ rest) region s) ≡ with_size (fills_in (row ∷ rest)) s
with_object-fills row [] region s = with_object-one (nat_le (row.fill + s) region_bytes) row region s
with_object-fills row (next ∷ rest) region s =
    ap fills_in (with_object-behind (has_room (last_of (next ∷ rest)) s) row next rest (last_of (next ∷ rest)) region s)
    ∙ ap (λ fs. row.fill ∷ fs) (with_object-fills next rest region s)

pub fills-kept : (rows : List Row) (sizes : List ℕ) (region s : ℕ) → 0 < s → region_bytes ∷ fills_in rows ≡ fills_from region_bytes sizes
    → region_bytes ∷ fills_in (with_object rows region s) ≡ fills_from region_bytes (sizes ++ s ∷ [])
fills-kept [] sizes region s some is =
    let opens : region_bytes < region_bytes + s = omega (arith, some) in
    sym (ap (λ (b : Bool). if b then (region_bytes + s) ∷ [] else region_bytes ∷ s ∷ []) (lt-leb (region_bytes + s) region_bytes opens))
    ∙ ap (λ fs. with_size fs s) is
    ∙ sym (fills-more region_bytes sizes s)
fills-kept (row ∷ rest) sizes region s some is =
    ap (λ fs. region_bytes ∷ fs) (with_object-fills row rest region s) ∙ ap (λ fs. with_size fs s) is ∙ sym (fills-more region_bytes sizes s)

-- how far the last region is filled, a full one where there is none
abbrev pub full_or : Option Row → ℕ
full_or None = region_bytes
full_or (Some row) = row.fill

pub room-is : (last : Option Row) (s : ℕ) → 0 < s → has_room last s ≡ nat_le (full_or last + s) region_bytes
room-is None s some = let opens : region_bytes < region_bytes + s = omega (arith, some) in sym (lt-leb (region_bytes + s) region_bytes opens)
room-is (Some row) s some = refl

pub last-there : (row : Row) (rest : List Row) → (last : Row) × (last_of (row ∷ rest) ≡ Some last)
last-there row [] = (row, refl)
last-there row (next ∷ rest) = last-there next rest

pub ends-rows : (rows : List Row) (sizes : List ℕ) → Pack rows sizes → EndsIn (end_from 0 sizes) (length rows) (full_or (last_of rows))
ends-rows [] sizes pack = record { end = omega (arith, pack.end); some = omega arith; most = omega arith }
ends-rows (row ∷ rest) sizes pack =
    let last = last-there row rest in
    let end : region_bytes * length rest + last.0.fill ≡ end_from 0 sizes = sym (ap (λ (it : Option Row). region_bytes * length rest + last_fill it) last.1) ∙ pack.end in
    let used : suc (length rest) ≡ parts_for region_bytes (end_from 0 sizes) = pack.used in
    subst (λ (it : Option Row). EndsIn (end_from 0 sizes) (suc (length rest)) (full_or it)) (sym last.1)
    (record { end = omega (arith, end); some = omega (arith, end, used); most = omega (arith, end, used) })

pub with_last-length : (rows : List Row) (f : ℕ) → length (with_last rows f) ≡ length rows
with_last-length [] f = refl
with_last-length (row ∷ []) f = refl
with_last-length (row ∷ next ∷ rest) f = ap (λ n. suc n) (with_last-length (next ∷ rest) f)

pub with_last-regions : (rows : List Row) (f : ℕ) → map (λ (row : Row). row.region) (with_last rows f) ≡ map (λ (row : Row). row.region) rows
with_last-regions [] f = refl
with_last-regions (row ∷ []) f = refl
with_last-regions (row ∷ next ∷ rest) f = ap (λ ks. row.region ∷ ks) (with_last-regions (next ∷ rest) f)

with_last-full : (row : Row) (rest : List Row) (f : ℕ) → full_or (last_of (with_last (row ∷ rest) f)) ≡ f
with_last-full row [] f = refl
with_last-full row (next ∷ []) f = refl
with_last-full row (next ∷ more ∷ rest) f = with_last-full next (more ∷ rest) f

last-appended : (rows : List Row) (row : Row) → last_of (rows ++ row ∷ []) ≡ Some row
last-appended [] row = refl
last-appended (one ∷ []) row = refl
last-appended (one ∷ next ∷ rest) row = last-appended (next ∷ rest) row

-- an object more fills the last region where it fits there
pub with-room : (rows : List Row) (region s : ℕ) → 0 < s → full_or (last_of rows) + s ≤ region_bytes → with_object rows region s ≡ with_last rows (full_or (last_of rows) + s)
with-room rows region s some fits = by (last_of rows) fits
  where
    by : (last : Option Row) → full_or last + s ≤ region_bytes → with_object_if (has_room last s) rows last region s ≡ with_last rows (full_or last + s)
    by None fits = absurd (omega (arith, some, fits))
    by (Some row) fits = ap (λ (b : Bool). with_object_if b rows (Some row) region s) (le-leb (row.fill + s) region_bytes fits)

-- and else one more
pub without-room : (rows : List Row) (region s : ℕ) → 0 < s → region_bytes < full_or (last_of rows) + s → with_object rows region s ≡ rows ++ record { region = region; fill = s } ∷ []
without-room rows region s some opens =
    ap (λ (b : Bool). with_object_if b rows (last_of rows) region s) (room-is (last_of rows) s some ∙ lt-leb (full_or (last_of rows) + s) region_bytes opens)

pub end-is : (rows : List Row) → end_of_rows rows + region_bytes ≡ region_bytes * length rows + full_or (last_of rows)
end-is [] = omega arith
end-is (row ∷ rest) =
    let last = last-there row rest in
    let fill = ap (λ (it : Option Row). last_fill it) last.1 in
    let full = ap (λ (it : Option Row). full_or it) last.1 in
    omega (arith, fill, full)

pub ends-more : (p : ℕ) (rows : List Row) (region s : ℕ) → EndsIn p (length rows) (full_or (last_of rows)) → 0 < s → s ≤ region_bytes
    → EndsIn (after p s) (length (with_object rows region s)) (full_or (last_of (with_object rows region s)))
ends-more p rows region s at some most = elim (cases_lt region_bytes (full_or (last_of rows) + s)) [
  | inl opens ↦
      let row : Row = record { region = region; fill = s } in
      let next = ends-opens p (length rows) (full_or (last_of rows)) s at some most opens in
      rw (without-room rows region s some opens, last-appended rows row, length-append rows (row ∷ [])) (appended next)
  | inr fits ↦
      let next = ends-fits p (length rows) (full_or (last_of rows)) s at some fits in
      rw (with-room rows region s some fits, with_last-length rows (full_or (last_of rows) + s)) (filled rows fits next)
]
  where
    appended : EndsIn (after p s) (length rows + 1) s → EndsIn (after p s) (length rows + 1) (full_or (Some (record { region = region; fill = s })))
    appended next = next

    filled : (rs : List Row) → full_or (last_of rs) + s ≤ region_bytes → EndsIn (after p s) (length rs) (full_or (last_of rs) + s)
        → EndsIn (after p s) (length rs) (full_or (last_of (with_last rs (full_or (last_of rs) + s))))
    filled [] fits next = absurd (omega (arith, some, fits))
    filled (row ∷ rest) fits next = subst (EndsIn (after p s) (suc (length rest))) (sym (with_last-full row rest (full_or (last_of (row ∷ rest)) + s))) next

pub pack-more : (rows : List Row) (sizes : List ℕ) (region s : ℕ) → Pack rows sizes → IsSize s → Pack (with_object rows region s) (sizes ++ s ∷ [])
pack-more rows sizes region s pack size =
    let some : 0 < s = omega (arith, size.least) in
    let at = ends-more (end_from 0 sizes) rows region s (ends-rows rows sizes pack) some size.greatest in
    let end = end-more 0 sizes (s ∷ []) in
    record {
      end = omega (arith, at.end, end-is (with_object rows region s), end);
      used = omega (arith, at.end, at.some, at.most, end);
      fills = fills-kept rows sizes region s some pack.fills;
    }

opens-is : (b : Bool) (n f s p : ℕ) → nat_le (f + s) region_bytes ≡ b → EndsIn p n f → 0 < s → s ≤ region_bytes
    → parts_for region_bytes (after p s) ≡ parts_for region_bytes p + (if b then 0 else 1)
opens-is true n f s p is at some most =
    let next = ends-fits p n f s at some (leb-true (f + s) region_bytes is) in
    omega (arith, at.end, at.some, at.most, next.end, next.some, next.most)
opens-is false n f s p is at some most =
    let next = ends-opens p n f s at some most (leb-false (f + s) region_bytes is) in
    omega (arith, at.end, at.some, at.most, next.end, next.some, next.most)

pub pack-opens : (rows : List Row) (sizes : List ℕ) (s : ℕ) → Pack rows sizes → IsSize s
    → parts_for region_bytes (after (end_from 0 sizes) s) ≡ parts_for region_bytes (end_from 0 sizes) + would_open rows s
pack-opens rows sizes s pack size =
    let some : 0 < s = omega (arith, size.least) in
    opens-is (has_room (last_of rows) s) (length rows) (full_or (last_of rows)) s (end_from 0 sizes) (sym (room-is (last_of rows) s some)) (ends-rows rows sizes pack) some size.greatest

-- WHERE AN OBJECT STANDS

pub region-last : (row : Row) (rest : List Row) (last : Row) → last_of (row ∷ rest) ≡ Some last → region_at (row ∷ rest) (length rest) ≡ last.region
region-last row [] last is = ap region_or is
  where
    region_or : Option Row → ℕ
    region_or None = 0
    region_or (Some it) = it.region
region-last row (next ∷ rest) last is = region-last next rest last is

pub region-mid : (before : List Row) (row : Row) (rest : List Row) → region_at (before ++ row ∷ rest) (length before) ≡ row.region
region-mid [] row rest = refl
region-mid (one ∷ before) row rest = region-mid before row rest

pub address-is : (rows : List Row) (p i o : ℕ) → p ≡ region_bytes * i + o → o < region_bytes → address_in rows p ≡ base_of (region_at rows i) + o
address-is rows p i o is within =
    let part : p / region_bytes ≡ i = omega (arith, is, within) in
    let offset : p % region_bytes ≡ o = omega (arith, is, within) in
    ap (λ k. base_of (region_at rows k) + p % region_bytes) part ∙ ap (λ k. base_of (region_at rows i) + k) offset

pub pack-spot : (rows : List Row) (sizes : List ℕ) (region s : ℕ) → Pack rows sizes → IsSize s → spot_in rows region s ≡ address_in (with_object rows region s) (place (end_from 0 sizes) s)
pack-spot rows sizes region s pack size = by rows (ends-rows rows sizes pack) (cases_lt region_bytes (full_or (last_of rows) + s))
  where
    some : 0 < s
    some = omega (arith, size.least)

    none : (n : ℕ) → n + 0 ≡ n
    none n = omega arith

    opened : (rs : List Row) → EndsIn (end_from 0 sizes) (length rs) (full_or (last_of rs)) → region_bytes < full_or (last_of rs) + s → spot_in rs region s ≡ address_in (with_object rs region s) (place (end_from 0 sizes) s)
    opened rs at opens =
        let here = place-opens (end_from 0 sizes) (length rs) (full_or (last_of rs)) s at some size.greatest opens in
        let row : Row = record { region = region; fill = s } in
        ap (λ (b : Bool). spot_if b (last_of rs) region) (room-is (last_of rs) s some ∙ lt-leb (full_or (last_of rs) + s) region_bytes opens)
        ∙ sym (ap (λ it. address_in it (place (end_from 0 sizes) s)) (without-room rs region s some opens)
        ∙ address-is (rs ++ row ∷ []) (place (end_from 0 sizes) s) (length rs) 0 (omega (arith, here)) (omega arith)
        ∙ ap (λ k. base_of k + 0) (region-mid rs row [])
        ∙ none (base_of region))

    by : (rs : List Row) → EndsIn (end_from 0 sizes) (length rs) (full_or (last_of rs)) → (region_bytes < full_or (last_of rs) + s) ⊎ (full_or (last_of rs) + s ≤ region_bytes)
        → spot_in rs region s ≡ address_in (with_object rs region s) (place (end_from 0 sizes) s)
    by rs at (inl opens) = opened rs at opens
    by [] at (inr fits) = absurd (omega (arith, some, fits))
    by (row ∷ rest) at (inr fits) =
        let last = last-there row rest in
        let full : full_or (last_of (row ∷ rest)) ≡ last.0.fill = ap full_or last.1 in
        let here = place-fits (end_from 0 sizes) (suc (length rest)) (full_or (last_of (row ∷ rest))) s at some fits in
        let room : has_room (Some last.0) s ≡ true = le-leb (last.0.fill + s) region_bytes (omega (arith, fits, full)) in
        ap (λ (it : Option Row). spot_if (has_room it s) it region) last.1
        ∙ ap (λ (b : Bool). spot_if b (Some last.0) region) room
        ∙ sym (ap (λ it. address_in it (place (end_from 0 sizes) s)) (with-room (row ∷ rest) region s some fits)
        ∙ address-is (with_last (row ∷ rest) (full_or (last_of (row ∷ rest)) + s)) (place (end_from 0 sizes) s) (length rest) last.0.fill (omega (arith, here, at.end, full)) (omega (arith, fits, full, some))
        ∙ ap (λ ks. base_of (slice_index_or ks (length rest) 0) + last.0.fill) (with_last-regions (row ∷ rest) (full_or (last_of (row ∷ rest)) + s))
        ∙ ap (λ k. base_of k + last.0.fill) (region-last row rest last.0 last.1))

-- THE OTHERS STAY

region-front : (rows : List Row) (row : Row) (i : ℕ) → i < length rows → region_at (rows ++ row ∷ []) i ≡ region_at rows i
region-front [] row i inside = absurd (omega (arith, inside))
region-front (one ∷ rest) row zero inside = refl
region-front (one ∷ rest) row (suc i) inside = region-front rest row i (omega (arith, inside))

region-stays : (b : Bool) (rows : List Row) (last : Option Row) (region s i : ℕ) → i < length rows → region_at (with_object_if b rows last region s) i ≡ region_at rows i
region-stays true rows (Some row) region s i inside = ap (λ ks. slice_index_or ks i 0) (with_last-regions rows (row.fill + s))
region-stays true rows None region s i inside = region-front rows (record { region = region; fill = s }) i inside
region-stays false rows last region s i inside = region-front rows (record { region = region; fill = s }) i inside

pub full-most : (rows : List Row) → All IsFilled rows → full_or (last_of rows) ≤ region_bytes
full-most [] filled = omega arith
full-most (row ∷ []) filled = (All-head IsFilled row [] filled).most
full-most (row ∷ next ∷ rest) filled = full-most (next ∷ rest) (All-tail IsFilled row (next ∷ rest) filled)

pub object-stays : (rows : List Row) (region s p : ℕ) → All IsFilled rows → p < end_of_rows rows → address_in (with_object rows region s) p ≡ address_in rows p
object-stays rows region s p filled below =
    let most = full-most rows filled in
    let end = end-is rows in
    let inside : p / region_bytes < length rows = omega (arith, most, end, below) in
    ap (λ k. base_of k + p % region_bytes) (region-stays (has_room (last_of rows) s) rows (last_of rows) region s (p / region_bytes) inside)
