-- Lists of the live objects of the regions.
use Rattle.std.proofs.Common.{◌≡◌, ◌∙◌, ◌⊎◌, ℕ, ◌+◌, ◌*◌, ◌<◌, ◌≤◌, List, [], ◌∷◌, ◌++◌, length, map, All, get_or, nat_eq, refl, sym, ap, subst, inl, inr, arith}
use Rattle.std.specs.List.{Contains, IsDistinct}
use Rattle.std.proofs.lemmas.Bool.{cases_order, eqb-false}
use Rattle.std.proofs.lemmas.List.{length-map}
use Rattle.std.proofs.lemmas.List.Elements.{All-contains, All-head, All-tail, Contains-append_cases, Contains-append_left, Contains-append_right, Contains-push, Contains-push_cases}
use Rattle.std.proofs.lemmas.Map.Keys.{apart_from_distinct}
use Rattle.model_numbers.specs.Numbers.{region_bytes}
use Rattle.page_tables.specs.declared.address.Addr.{Addr}
use Rattle.region_lists.specs.Rows.{Lists, Row}
use Rattle.region_space.specs.Packed.{address_in}
use Rattle.region_space.specs.Space.{IsSpace}
use Rattle.region_space.proofs.WalkLemmas.{in_use-apart}
use Rattle.live_objects.specs.Live.{AreRising, ListsYoung, addresses}
use Rattle.live_objects.specs.Marks.{index_of, place_of}
use Rattle.live_objects.proofs.OrderLemmas.{address-is, among-at, regions, regions-within, stands}

-- ELEMENTS

none-in : {X : Type 0} (x : X) → Contains [] x → ⊥
none-in x c = omega (arith, c.1)

pub cons-cases : {X : Type 0} (y : X) (ys : List X) (x : X) → Contains (y ∷ ys) x → (y ≡ x) ⊎ Contains ys x
cons-cases y ys x c = elim (Contains-append_cases (y ∷ []) ys x c) [
  | inl first ↦ elim (Contains-push_cases [] y x first) [ inl none ↦ absurd (none-in x none) | inr same ↦ inl same ]
  | inr later ↦ inr later
]

pub in-first : {X : Type 0} (x : X) (xs : List X) → Contains (x ∷ xs) x
in-first x xs = Contains-append_left (x ∷ []) xs x (Contains-push [] x)

pub in-rest : {X : Type 0} (y : X) (xs : List X) (x : X) → Contains xs x → Contains (y ∷ xs) x
in-rest y xs x c = Contains-append_right (y ∷ []) xs x c

pub map-in : {X Y : Type 0} (f : X → Y) (xs : List X) (x : X) → Contains xs x → Contains (map f xs) (f x)
map-in f [] x c = absurd (none-in x c)
map-in f (y ∷ ys) x c = elim (cons-cases y ys x c) [
  | inl same ↦ subst (λ z. Contains (map f (y ∷ ys)) (f z)) same (in-first (f y) (map f ys))
  | inr later ↦ in-rest (f y) (map f ys) (f x) (map-in f ys x later)
]

pub map-from : {X Y : Type 0} (f : X → Y) (xs : List X) (b : Y) → Contains (map f xs) b → (x : X) × Contains xs x × (f x ≡ b)
map-from f [] b c = absurd (none-in b c)
map-from f (y ∷ ys) b c = elim (cons-cases (f y) (map f ys) b c) [
  | inl same ↦ (y, in-first y ys, same)
  | inr later ↦ let it = map-from f ys b later in (it.0, in-rest y ys it.0 it.1, it.2)
]

-- RISING

pub rising-above : (low : ℕ) (ps : List ℕ) (x : ℕ) → AreRising low ps → Contains ps x → low ≤ x
rising-above low [] x rising c = absurd (none-in x c)
rising-above low (p ∷ ps) x rising c = elim (cons-cases p ps x c) [
  | inl same ↦ omega (arith, rising.0, same)
  | inr later ↦ omega (arith, rising.0, rising-above (p + 1) ps x rising.1 later)
]

pub rising-push : (low : ℕ) (ps : List ℕ) (p : ℕ) → AreRising low ps → low ≤ p → All (λ q. q < p) ps → AreRising low (ps ++ p ∷ [])
rising-push low [] p rising above all = (above, tt)
rising-push low (q ∷ ps) p rising above all =
    let under = All-head (λ q. q < p) q ps all in
    (rising.0, rising-push (q + 1) ps p rising.1 (omega (arith, under)) (All-tail (λ q. q < p) q ps all))

-- rising numbers are known by which they are
pub rising-same : (low other : ℕ) (ps qs : List ℕ) → AreRising low ps → AreRising other qs → ((x : ℕ) → Contains ps x → Contains qs x) → ((x : ℕ) → Contains qs x → Contains ps x) → ps ≡ qs
rising-same low other [] [] rp rq there back = refl
rising-same low other [] (q ∷ qs) rp rq there back = absurd (none-in q (back q (in-first q qs)))
rising-same low other (p ∷ ps) [] rp rq there back = absurd (none-in p (there p (in-first p ps)))
rising-same low other (p ∷ ps) (q ∷ qs) rp rq there back =
    let q_le : q ≤ p = elim (cons-cases q qs p (there p (in-first p ps))) [ inl same ↦ omega (arith, same) | inr later ↦ omega (arith, rising-above (q + 1) qs p rq.1 later) ] in
    let p_le : p ≤ q = elim (cons-cases p ps q (back q (in-first q qs))) [ inl same ↦ omega (arith, same) | inr later ↦ omega (arith, rising-above (p + 1) ps q rp.1 later) ] in
    let first : p ≡ q = omega (arith, q_le, p_le) in
    let rest = rising-same (p + 1) (q + 1) ps qs rp.1 rq.1
    (λ x c. elim (cons-cases q qs x (there x (in-rest p ps x c))) [ inl same ↦ absurd (omega (arith, rising-above (p + 1) ps x rp.1 c, first, same)) | inr later ↦ later ])
    (λ x c. elim (cons-cases p ps x (back x (in-rest q qs x c))) [ inl same ↦ absurd (omega (arith, rising-above (q + 1) qs x rq.1 c, first, same)) | inr later ↦ later ]) in
    ap (λ n. n ∷ ps) first ∙ ap (λ ns. q ∷ ns) rest

-- ONE LIST

-- a number of a list without doubles stands where it stands
pub distinct-index : (numbers : List ℕ) (i : ℕ) → IsDistinct nat_eq numbers → i < length numbers → index_of numbers (get_or numbers i 0) ≡ i
distinct-index numbers i apart below =
    let n : ℕ = get_or numbers i 0 in
    let it = stands numbers n (among-at numbers i below) in
    let j : ℕ = index_of numbers n in
    elim (cases_order j i) [
      | inl same ↦ same
      | inr o ↦ elim o [
        | inl low ↦ absurd (eqb-false (get_or numbers j 0) (get_or numbers i 0) (apart_from_distinct nat_eq numbers j i 0 apart low below) it.is)
        | inr high ↦ absurd (eqb-false (get_or numbers i 0) (get_or numbers j 0) (apart_from_distinct nat_eq numbers i j 0 apart high it.below) (sym it.is))
      ]
    ]

-- places of one list are places of the other
places-there : (s : Lists) (reached : ℕ → Type 0) (one other : List Addr) → IsSpace s → (a : ListsYoung s.in_use reached one) → (b : ListsYoung s.in_use reached other) → (p : ℕ) → Contains a.places p → Contains b.places p
places-there s reached one other space a b p c =
    let numbers : List ℕ = regions s.in_use in
    let back = λ (q : ℕ) (below : q < region_bytes * length s.in_use).
    (address-is numbers q (regions-within s space) (λ i under. distinct-index numbers i (in_use-apart s space) under)
    (omega (arith, below, length-map s.in_use (λ (row : Row). row.region)))).back in
    let at : ℕ = address_in s.in_use p in
    let mine = (a.only at).0 (subst (λ ns. Contains ns at) (sym a.stand) (map-in (address_in s.in_use) a.places p c)) in
    let found = map-from (address_in s.in_use) b.places at (subst (λ ns. Contains ns at) b.stand ((b.only at).1 mine)) in
    let q : ℕ = found.0 in
    let same : q ≡ p =
    sym (back q (All-contains (λ p. p < region_bytes * length s.in_use) b.places q b.within found.1))
    ∙ ap (place_of numbers) found.2
    ∙ back p (All-contains (λ p. p < region_bytes * length s.in_use) a.places p a.within c) in
    subst (Contains b.places) same found.1

same-addresses : (xs ys : List Addr) → addresses xs ≡ addresses ys → xs ≡ ys
same-addresses [] [] same = refl
same-addresses [] (y ∷ ys) same = cc
same-addresses (x ∷ xs) [] same = cc
same-addresses (x ∷ xs) (y ∷ ys) same =
    let head : x.0 ≡ y.0 = cc in
    let tail : addresses xs ≡ addresses ys = cc in
    ap (λ (n : ℕ). let a : Addr = record { 0 = n } in a ∷ xs) head ∙ ap (λ zs. y ∷ zs) (same-addresses xs ys tail)

pub one-list : (s : Lists) (reached : ℕ → Type 0) (one other : List Addr) → IsSpace s → ListsYoung s.in_use reached one → ListsYoung s.in_use reached other → one ≡ other
one-list s reached one other space a b =
    let same = rising-same 0 0 a.places b.places a.rising b.rising (places-there s reached one other space a b) (places-there s reached other one space b a) in
    same-addresses one other (a.stand ∙ ap (map (address_in s.in_use)) same ∙ sym b.stand)
