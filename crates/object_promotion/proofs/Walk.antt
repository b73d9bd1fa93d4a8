-- The walk from object to object of the regions.
use Rattle.std.proofs.Common.{◌≡◌, ◌∙◌, ℕ, zero, suc, ◌+◌, ◌/◌, ◌%◌, ◌<◌, ◌≤◌, Bool, true, false, List, [], ◌∷◌, ◌++◌, Option, Some, None, All, refl, sym, ap, subst, inl, inr, arith, length, take, drop, get_or, sum, option_map}
use Rattle.std.specs.Prelude.{if◌then◌else◌}
use Rattle.std.proofs.lemmas.Bool.{cases_lt, le-ltb, lt-ltb}
use Rattle.std.proofs.lemmas.List.{drop_all, drop_more, get_or-map, length-map, take-append-drop}
use Rattle.std.proofs.lemmas.Option.{same_Some}
use Rattle.std.proofs.Math.Seq.{take-suc}
use Rattle.class_layout.specs.ClassList.{Class}
use Rattle.page_tables.specs.declared.address.Addr.{Addr}
use Rattle.cow_pages.specs.Memory.{Memory}
use Rattle.cow_pages.specs.View.{view_of, View}
use Rattle.heap_graph.specs.Packing.{after, end_from, place, place_if, places_from}
use Rattle.heap_graph.proofs.Sizes.{after-above}
use Rattle.image_space.proofs.SpotLemmas.{sum-append, sum-cons}
use Rattle.object_view.proofs.Laid.{size-bounds}
use Rattle.raw_objects.specs.Raws.{raw_size, Raws}
use Rattle.region_lists.specs.Rows.{first_of, Row}
use Rattle.region_space.specs.Packed.{address_in, Pack}
use Rattle.region_space.specs.Pages.{next_in, start_of}
use Rattle.region_space.specs.Space.{base_of, lists_of, IsFilled, IsSize, Space}
use Rattle.region_space.proofs.LieLemmas.{lies-in}
use Rattle.region_space.proofs.WalkLemmas.{in_use-apart, in_use-filled, walk-first, walk-last, walk-next}
use Rattle.object_moves.specs.Copies.{at_of, sizes_at, IsYoungAt}
use Rattle.object_collection.proofs.Room.{at-place}
use Rattle.object_collection.proofs.Running.{places-length}
use Rattle.object_promotion.specs.Listed.{found_at, ArePacked}

places-at : (p : ℕ) (sizes : List ℕ) (i : ℕ) → i < length sizes → get_or (places_from p sizes) i 0 ≡ place (end_from p (take i sizes)) (get_or sizes i 0)
places-at p [] i below = absurd (omega (arith, below))
places-at p (s ∷ ss) zero below = refl
places-at p (s ∷ ss) (suc i) below = places-at (after p s) ss i (omega (arith, below))

-- objects end no earlier than their sizes tell
sum-end : (p : ℕ) (sizes : List ℕ) → p + sum sizes ≤ end_from p sizes
sum-end p [] = omega arith
sum-end p (s ∷ ss) = omega (arith, sum-cons s ss, after-above p s, sum-end (after p s) ss)

-- the objects take a multiple of 8 bytes together
pub bytes-eights : (cs : List Class) (raws : Raws) (ats : List Addr) → sum (sizes_at cs raws ats) % 8 ≡ 0
bytes-eights cs raws [] = refl
bytes-eights cs raws (a ∷ ats) =
    let bounds = size-bounds cs (raws.raw a.0).shape in
    omega (arith, bounds.3, sum-cons (raw_size cs raws a.0) (sizes_at cs raws ats), bytes-eights cs raws ats)

start-is : (o : Option Row) → option_map (λ (row : Row). base_of row.region) o ≡ start_of o
start-is None = refl
start-is (Some row) = refl

place-first : (s : ℕ) → place 0 s ≡ 0
place-first s = both _
  where
    both : (b : Bool) → place_if b 0 ≡ 0
    both true = refl
    both false = refl

no-items : {X : Type 0} (xs : List X) → length xs ≡ 0 → xs ≡ []
no-items [] none = refl
no-items (x ∷ xs) none = absurd (omega (arith, none))

pub found : (young : List Addr) (i : ℕ) → i < length young → found_at young i ≡ Some (at_of young i)
found young i below = ap (λ (b : Bool). if b then Some (at_of young i) else None) (lt-ltb i (length young) below)

none-found : (young : List Addr) (i : ℕ) → length young ≤ i → found_at young i ≡ None
none-found young i le = ap (λ (b : Bool). if b then Some (at_of young i) else None) (le-ltb i (length young) le)

-- the object that is found is the next of the list
pub found-some : (young : List Addr) (i : ℕ) (next : Option Addr) (at : Addr) → i < length young → option_map (λ (a : Addr). a.0) next ≡ found_at young i → next ≡ Some at → at.0 ≡ at_of young i
found-some young i next at below there is = same_Some at.0 (at_of young i) (sym (ap (option_map (λ (a : Addr). a.0)) is) ∙ there ∙ found young i below)

pub found-none : (young : List Addr) (i : ℕ) (next : Option Addr) → i < length young → option_map (λ (a : Addr). a.0) next ≡ found_at young i → next ≡ None → ⊥
found-none young i next below there is =
    let none : None ≡ Some (at_of young i) = sym (ap (option_map (λ (a : Addr). a.0)) is) ∙ there ∙ found young i below in cc

pub list-more : (young list new : List Addr) (i : ℕ) (at : Addr) → i < length young → list ≡ take i young → at.0 ≡ at_of young i → new ≡ list ++ at ∷ [] → new ≡ take (i + 1) young
list-more young list new i at below is here more =
    let none : Addr = record { 0 = 0 } in
    let e : suc i ≡ i + 1 = omega arith in
    let same : at ≡ get_or young i none = ap (λ (n : ℕ). record { 0 = n }) here in
    more ∙ ap (λ (xs : List Addr). xs ++ at ∷ []) is ∙ ap (λ (a : Addr). take i young ++ a ∷ []) same ∙ sym (take-suc young i none below) ∙ ap (λ n. take n young) e

-- the objects are as they were in a memory that is as it was
pub packed-still : (cs : List Class) (old new : Memory) (t : ℕ) (s : Space) (raws : Raws) (young : List Addr) → new ≡ old → ArePacked cs (view_of old t) s raws young → ArePacked cs (view_of new t) s raws young
packed-still cs old new t s raws young same ok = subst (λ (m : Memory). ArePacked cs (view_of m t) s raws young) (sym same) ok

module _ (cs : List Class) (v : View) (s : Space) (raws : Raws) (young : List Addr) (ok : ArePacked cs v s raws young) where
  abbrev sizes : List ℕ
  sizes = sizes_at cs raws young

  count : length sizes ≡ length young
  count = length-map young (λ (a : Addr). raw_size cs raws a.0)

  pub size-at : (i : ℕ) → i < length young → get_or sizes i 0 ≡ raw_size cs raws (at_of young i)
  size-at i below = get_or-map (λ (a : Addr). raw_size cs raws a.0) young i (record { 0 = 0 }) 0 below

  pub size-fits : (i : ℕ) → i < length young → IsSize (raw_size cs raws (at_of young i))
  size-fits i below =
      let bounds = size-bounds cs (raws.raw (at_of young i)).shape in
      let lies = lies-in IsFilled s.in_use (at_of young i) (raw_size cs raws (at_of young i)) (in_use-filled (lists_of s) ok.space) (ok.rows i below).there in
      record { multiple = bounds.3; least = omega (arith, bounds.0, bounds.1, bounds.2); greatest = omega (arith, lies.from, lies.to, lies.holds.most) }

  sizes-fit : All IsSize sizes
  sizes-fit k d below =
      let less : k < length young = omega (arith, below, count) in
      subst IsSize (sym (get_or-map (λ (a : Addr). raw_size cs raws a.0) young k (record { 0 = 0 }) d less)) (size-fits k less)

  pub young-here : (i : ℕ) → i < length young → IsYoungAt cs v raws (at_of young i)
  young-here i below = record { holds = ok.holds; has = ok.has i below; inside = ok.inside i below; fits = (size-fits i below).greatest }

  pub sizes-more : (i : ℕ) → i < length young → take (i + 1) sizes ≡ take i sizes ++ raw_size cs raws (at_of young i) ∷ []
  sizes-more i below =
      let less : i < length sizes = omega (arith, below, count) in
      let e : i + 1 ≡ suc i = omega arith in
      ap (λ n. take n sizes) e ∙ take-suc sizes i 0 less ∙ ap (λ n. take i sizes ++ n ∷ []) (size-at i below)

  rest-is : (i : ℕ) → i < length young → drop i sizes ≡ raw_size cs raws (at_of young i) ∷ drop (i + 1) sizes
  rest-is i below = drop_more sizes i 0 (omega (arith, below, count)) ∙ ap (λ n. n ∷ drop (i + 1) sizes) (size-at i below)

  split : (i : ℕ) → i < length young → sizes ≡ take i sizes ++ raw_size cs raws (at_of young i) ∷ drop (i + 1) sizes
  split i below = sym (take-append-drop i sizes) ∙ ap (λ (xs : List ℕ). take i sizes ++ xs) (rest-is i below)

  at-is : (i : ℕ) → i < length young → at_of young i ≡ address_in s.in_use (place (end_from 0 (take i sizes)) (raw_size cs raws (at_of young i)))
  at-is i below =
      let less : i < length sizes = omega (arith, below, count) in
      at-place young s.in_use (places_from 0 sizes) ok.packed.places i below (omega (arith, less, places-length 0 sizes))
      ∙ ap (address_in s.in_use) (places-at 0 sizes i less ∙ ap (place (end_from 0 (take i sizes))) (size-at i below))

  -- the first object
  pub first-found : option_map (λ (row : Row). base_of row.region) (first_of s.in_use) ≡ found_at young 0
  first-found = elim (cases_lt 0 (length young)) [
    | inl some ↦
        let size : ℕ = raw_size cs raws (at_of young 0) in
        let whole : sizes ≡ size ∷ drop 1 sizes = split 0 some in
        start-is (first_of s.in_use) ∙ walk-first s.in_use size (drop 1 sizes) (size-fits 0 some) (subst (Pack s.in_use) whole ok.packed.pack)
        ∙ ap (λ k. Some k) (ap (address_in s.in_use) (sym (place-first size)) ∙ sym (at-is 0 some)) ∙ sym (found young 0 some)
    | inr none ↦
        let empty : sizes ≡ [] = no-items sizes (omega (arith, count, none)) in
        let used = ok.packed.pack.used ∙ ap (λ (xs : List ℕ). (end_from 0 xs + 262143) / 262144) empty in
        let rows : s.in_use ≡ [] = no-items s.in_use (omega (arith, used)) in
        ap (λ (xs : List Row). option_map (λ (row : Row). base_of row.region) (first_of xs)) rows ∙ sym (none-found young 0 none)
  ]

  -- the one behind the i-th
  pub next-found : (i : ℕ) → i < length young → next_in s.in_use (at_of young i) (raw_size cs raws (at_of young i)) ≡ found_at young (i + 1)
  next-found i below =
      let size : ℕ = raw_size cs raws (at_of young i) in
      let filled = in_use-filled (lists_of s) ok.space in
      let apart = in_use-apart (lists_of s) ok.space in
      let here = ap (λ a. next_in s.in_use a size) (at-is i below) in
      elim (cases_lt (i + 1) (length young)) [
        | inl more ↦
            let follower : ℕ = raw_size cs raws (at_of young (i + 1)) in
            let whole : sizes ≡ take i sizes ++ size ∷ follower ∷ drop (i + 1 + 1) sizes = split i below ∙ ap (λ (xs : List ℕ). take i sizes ++ size ∷ xs) (rest-is (i + 1) more) in
            here
            ∙ walk-next s.in_use (take i sizes) (drop (i + 1 + 1) sizes) size follower filled apart (subst (All IsSize) whole sizes-fit) (subst (Pack s.in_use) whole ok.packed.pack)
            ∙ ap (λ (xs : List ℕ). Some (address_in s.in_use (place (end_from 0 xs) follower))) (sym (sizes-more i below))
            ∙ ap (λ k. Some k) (sym (at-is (i + 1) more)) ∙ sym (found young (i + 1) more)
        | inr last ↦
            let whole : sizes ≡ take i sizes ++ size ∷ [] = split i below ∙ ap (λ (xs : List ℕ). take i sizes ++ size ∷ xs) (drop_all (i + 1) sizes (omega (arith, last, count))) in
            here ∙ walk-last s.in_use (take i sizes) size filled apart (subst (All IsSize) whole sizes-fit) (subst (Pack s.in_use) whole ok.packed.pack) ∙ sym (none-found young (i + 1) last)
      ]

  pub sum-more : (i : ℕ) → i < length young → sum (take (i + 1) sizes) ≡ sum (take i sizes) + raw_size cs raws (at_of young i)
  sum-more i below =
      let size : ℕ = raw_size cs raws (at_of young i) in
      let parts = ap (λ (xs : List ℕ). sum xs) (sizes-more i below) ∙ sum-append (take i sizes) (size ∷ []) in
      omega (arith, parts, sum-cons size [])

  pub bytes-most : sum sizes ≤ 134217728
  bytes-most =
      let used = ok.packed.pack.used in
      let half = ok.half in
      let few = ok.space.few in
      omega (arith, sum-end 0 sizes, used, half, few)

  pub sum-most : (i : ℕ) → sum (take i sizes) ≤ 134217728
  sum-most i =
      let whole = ap (λ (xs : List ℕ). sum xs) (sym (take-append-drop i sizes)) ∙ sum-append (take i sizes) (drop i sizes) in
      omega (arith, whole, bytes-most)
