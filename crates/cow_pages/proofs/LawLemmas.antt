-- What holds of every memory that is sound, in other words.
use Rattle.std.proofs.Common.{◌≡◌, ◌≢◌, ℕ, zero, suc, ◌+◌, ◌<◌, ◌≤◌, Bool, true, false, cond, List, [], ◌∷◌, map, length, get_or, Some, None, Option, is_some, count_by, refl, sym, ap, ◌∙◌, inl, inr, arith, eqb, ltb, ◌&&◌, true≢false, ◌⊎◌, subst₂, IsTrue, option_map}
use Rattle.std.proofs.Math.Bool.{and-true}
use Rattle.std.proofs.lemmas.Option.{none-some}
use Rattle.std.proofs.lemmas.Nat.{le_bytes_2, le_bytes_4, le_bytes_8}
use Rattle.std.proofs.lemmas.List.{get_or_past}
use Rattle.std.proofs.lemmas.Bool.{cases_eq, cases_lt, eq-eqb, ne_eqb, cond-true, cond-false, le-leb, lt-leb, le-ltb, lt-ltb, leb-true, and_from}
use Rattle.page_tables.specs.declared.address.Window.{Window}
use Rattle.page_tables.specs.Address.{page_of, offset_of, is_in, first_page, page_count, leaf_index}
use Rattle.cow_pages.specs.Memory.{Memory, Page, Table, page_in, page_at, table_of, is_mapped, flag_of, RisesFrom, IsSound, frame_at, is_written, leaf_in, leaf_at, HasOneSharer, IsFree}
use Rattle.cow_pages.specs.Change.{ChangesPage, ChangesTable}
use Rattle.cow_pages.specs.View.{View, view_of, byte_at, byte_in, numbers_from, bytes_at, u16_at, u32_at, u64_at}
use Rattle.cow_pages.specs.Laws.{IsPaged, HasNumbers, CountsPages, ShareLeaves, pages_in}
use Rattle.cow_pages.proofs.HolderLemmas.{count-step}

-- bytes of a page

pub byte_below : (m : Memory) (t at : ℕ) → IsSound m → byte_at m t at < 256
unfolding byte_at
byte_below m t at sound = by_page (page_at m t (page_of at)) refl
  where
    by_page : (o : Option Page) → page_at m t (page_of at) ≡ o → byte_in o (offset_of at) < 256
    by_page None is = omega arith
    by_page (Some page) is = elim (cases_lt (offset_of at) (length page.bytes)) [
      | inl below ↦ sound.bytes t (page_of at) page is (offset_of at) 0 below
      | inr past ↦ rw (get_or_past page.bytes (offset_of at) 0 past) (omega arith)
    ]

pub byte_unmapped : (m : Memory) (t at : ℕ) → is_mapped m t (page_of at) ≡ false → byte_at m t at ≡ 0
unfolding byte_at
byte_unmapped m t at none = by_page (page_at m t (page_of at)) none
  where
    by_page : (o : Option Page) → is_some o ≡ false → byte_in o (offset_of at) ≡ 0
    by_page None none = refl
    by_page (Some page) none = absurd (true≢false none)

pub paged : (m : Memory) (t : ℕ) → IsSound m → IsPaged (view_of m t)
paged m t sound = record {
  byte = λ at. byte_below m t at sound;
  unmapped = λ at none. byte_unmapped m t at none;
  whole = λ at other same. ap (is_mapped m t) same;
  window = λ at is. sound.in_window t (page_of at) is;
}

-- numbers of bytes

pub small_at : (v : View) (at count k : ℕ) → IsPaged v → (i : ℕ) → get_or (map (λ i. v.byte (at + i)) (numbers_from k count)) i 0 < 256
small_at v at zero k p i = omega arith
small_at v at (suc count) k p zero = p.byte (at + k)
small_at v at (suc count) k p (suc i) = small_at v at count (k + 1) p i

pub numbers : (v : View) (at : ℕ) → IsPaged v → HasNumbers v at
unfolding u16_at u32_at u64_at
numbers v at p = record {
  u16_fits = omega (arith, p.byte (at + 0), p.byte (at + 1));
  u32_fits = omega (arith, p.byte (at + 0), p.byte (at + 1), p.byte (at + 2), p.byte (at + 3));
  u64_fits = omega (arith, p.byte (at + 0), p.byte (at + 1), p.byte (at + 2), p.byte (at + 3), p.byte (at + 4), p.byte (at + 5), p.byte (at + 6), p.byte (at + 7));
  u16_bytes = le_bytes_2 (bytes_at v at 2) _ refl (small_at v at 2 0 p) refl;
  u32_bytes = le_bytes_4 (bytes_at v at 4) _ refl (small_at v at 4 0 p) refl;
  u64_bytes = le_bytes_8 (bytes_at v at 8) _ refl (small_at v at 8 0 p) refl;
}

-- counts of pages

pub count-same : (f g : ℕ → Bool) (a n : ℕ) → ((p : ℕ) → a ≤ p → p < a + n → g p ≡ f p) → count_by g (numbers_from a n) ≡ count_by f (numbers_from a n)
count-same f g a zero same = refl
count-same f g a (suc n) same =
    count-step g a (numbers_from (a + 1) n)
    ∙ ap (λ (b : Bool). cond b 1 0 + count_by g (numbers_from (a + 1) n)) (same a (omega arith) (omega arith))
    ∙ ap (λ r. cond (f a) 1 0 + r) (count-same f g (a + 1) n (λ p above below. same p (omega arith) (omega arith)))
    ∙ sym (count-step f a (numbers_from (a + 1) n))

pub count-none : (a n : ℕ) → count_by (λ (p : ℕ). false) (numbers_from a n) ≡ 0
count-none a zero = refl
count-none a (suc n) = omega (arith, count-step (λ (p : ℕ). false) a (numbers_from (a + 1) n), count-none (a + 1) n)

-- a number of the range that did not pass is counted where it passes now
pub count-joined : (f g : ℕ → Bool) (q a n : ℕ) → ((p : ℕ) → q ≢ p → g p ≡ f p) → f q ≡ false → a ≤ q → q < a + n → count_by g (numbers_from a n) ≡ cond (g q) 1 0 + count_by f (numbers_from a n)
count-joined f g q a zero same none above below = absurd (omega arith)
count-joined f g q a (suc n) same none above below =
    elim (cases_eq q a) [
      | inl is ↦
          let now = ap {B = ℕ} (λ (k : ℕ). cond (g k) 1 0) (sym is) in
          let was : ◌≡◌ {A = ℕ} (cond (f a) 1 0) 0 = ap (λ (k : ℕ). cond (f k) 1 0) (sym is) ∙ ap (λ (b : Bool). cond b 1 0) none in
          let rest = count-same f g (a + 1) n (λ p higher lower. same p (λ equal. omega arith)) in
          omega (arith, now, was, rest, count-step g a (numbers_from (a + 1) n), count-step f a (numbers_from (a + 1) n))
      | inr apart ↦
          let now = ap {B = ℕ} (λ (b : Bool). cond b 1 0) (same a apart) in
          let rest = count-joined f g q (a + 1) n same none (omega arith) (omega arith) in
          omega (arith, now, rest, count-step g a (numbers_from (a + 1) n), count-step f a (numbers_from (a + 1) n))
    ]

-- no page below the first
pub page_in-below : (xs : Table) (k p : ℕ) → RisesFrom k xs → p < k → page_in xs p ≡ None
page_in-below [] k p rises below = refl
page_in-below ((q, page) ∷ rest) k p rises below =
    let above = leb-true k q rises.0 in
    cond-false (eqb q p) _ _ (ne_eqb _ _ (λ same. omega arith)) ∙ page_in-below rest (q + 1) p rises.1 (omega arith)

pub count-pages : (T : Option Page → Bool) (w : Window) (xs : Table) (k : ℕ) → T None ≡ false → RisesFrom k xs
    → count_by (λ (it : ℕ × Page). is_in w it.0 && T (Some it.1)) xs ≡ count_by (λ p. T (page_in xs p)) (pages_in w)
count-pages T w [] k none rises = sym (count-same (λ p. false) (λ p. T None) (first_page w) (page_count w) (λ p above below. none) ∙ count-none (first_page w) (page_count w))
count-pages T w ((q, page) ∷ rest) k none rises =
    let f = λ (p : ℕ). T (page_in rest p) in
    let g = λ (p : ℕ). T (page_in ((q, page) ∷ rest) p) in
    let step = count-step (λ (it : ℕ × Page). is_in w it.0 && T (Some it.1)) (q, page) rest in
    let later = count-pages T w rest (q + 1) none rises.1 in
    let same : (p : ℕ) → q ≢ p → g p ≡ f p = λ p apart. ap T (cond-false (eqb q p) (Some page) (page_in rest p) (ne_eqb _ _ apart)) in
    let before : f q ≡ false = ap T (page_in-below rest (q + 1) q rises.1 (omega arith)) ∙ none in
    let here : g q ≡ T (Some page) = ap T (cond-true (eqb q q) (Some page) (page_in rest q) (eq-eqb q q refl)) in
    elim (cases_lt q (first_page w)) [
      | inl below ↦
          let off : is_in w q ≡ false = ap (λ (b : Bool). b && ltb q (first_page w + page_count w)) (lt-leb (first_page w) q below) in
          let head : ◌≡◌ {A = ℕ} (cond (is_in w q && T (Some page)) 1 0) 0 = ap (λ (b : Bool). cond (b && T (Some page)) 1 0) off in
          omega (arith, step, later, head, count-same f g (first_page w) (page_count w) (λ p above lower. same p (λ equal. omega arith)))
      | inr above ↦ elim (cases_lt q (first_page w + page_count w)) [
        | inl below ↦
            let on : is_in w q ≡ true = and_from _ _ (le-leb (first_page w) q above) (lt-ltb q _ below) in
            let head : ◌≡◌ {A = ℕ} (cond (is_in w q && T (Some page)) 1 0) (cond (g q) 1 0) =
            ap (λ (b : Bool). cond (b && T (Some page)) 1 0) on ∙ sym (ap (λ (b : Bool). cond b 1 0) here) in
            omega (arith, step, later, head, count-joined f g q (first_page w) (page_count w) same before above below)
        | inr past ↦
            let off : is_in w q ≡ false = ap (λ (b : Bool). b && ltb q (first_page w + page_count w)) (le-leb (first_page w) q above) ∙ le-ltb q _ past in
            let head : ◌≡◌ {A = ℕ} (cond (is_in w q && T (Some page)) 1 0) 0 = ap (λ (b : Bool). cond (b && T (Some page)) 1 0) off in
            omega (arith, step, later, head, count-same f g (first_page w) (page_count w) (λ p higher lower. same p (λ equal. omega arith)))
      ]
    ]

pub counts : (m : Memory) (t : ℕ) (w : Window) → IsSound m → CountsPages m t w
counts m t w sound = record {
  mapped = count-as (λ (it : ℕ × Page). is_in w it.0 && is_some (Some it.1)) (λ (it : ℕ × Page). is_in w it.0) (table_of m t) (λ it. and-true (is_in w it.0)) ∙ count-pages is_some w (table_of m t) 0 refl (sound.rising t);
  written = count-pages flag_of w (table_of m t) 0 refl (sound.rising t);
}
  where
    count-as : {X : Type 0} (f g : X → Bool) (xs : List X) → ((x : X) → f x ≡ g x) → count_by g xs ≡ count_by f xs
    count-as f g [] same = refl
    count-as f g (x ∷ xs) same =
        count-step g x xs
        ∙ ap (λ (b : Bool). cond b 1 0 + count_by g xs) (sym (same x))
        ∙ ap (λ r. cond (f x) 1 0 + r) (count-as f g xs same)
        ∙ sym (count-step f x xs)

-- sharers

-- a page keeps its frame to itself where another page changes that has its own old frame or one that was free
pub one_stays : (old new : Memory) (t p u q : ℕ) → ChangesPage old new u q → (u ≢ t) ⊎ (q ≢ p) → IsTrue (is_mapped old t p)
    → ((f : ℕ) → frame_at new u q ≡ Some f → (frame_at old u q ≡ Some f) ⊎ IsFree old f) → HasOneSharer old t p → HasOneSharer new t p
one_stays old new t p u q rest apart mapped from one v r same =
    let here : frame_at new t p ≡ frame_at old t p = ap (option_map (λ (page : Page). page.frame)) (rest.others t p (apart_from apart)) in
    let f = frame_there (page_at old t p) mapped in
    by_place v r (same ∙ here) f.0 f.1 (cases_eq v u) (cases_eq r q)
  where
    apart_from : (u ≢ t) ⊎ (q ≢ p) → (t ≢ u) ⊎ (p ≢ q)
    apart_from (inl a) = inl (λ e. a (sym e))
    apart_from (inr b) = inr (λ e. b (sym e))

    frame_there : (o : Option Page) → IsTrue (is_some o) → (f : ℕ) × (option_map (λ (page : Page). page.frame) o ≡ Some f)
    frame_there None is = absurd (true≢false (sym is))
    frame_there (Some page) is = (page.frame, refl)

    as_before : (v r : ℕ) → (v ≢ u) ⊎ (r ≢ q) → frame_at new v r ≡ frame_at old t p → (v ≡ t) × (r ≡ p)
    as_before v r apart same = one v r (sym (ap (option_map (λ (page : Page). page.frame)) (rest.others v r apart)) ∙ same)

    at_changed : (f : ℕ) → frame_at old t p ≡ Some f → (frame_at old u q ≡ Some f) ⊎ IsFree old f → (u ≡ t) × (q ≡ p)
    at_changed f is (inl had) = one u q (had ∙ sym is)
    at_changed f is (inr free) = absurd (free t p is)

    by_place : (v r : ℕ) → frame_at new v r ≡ frame_at old t p → (f : ℕ) → frame_at old t p ≡ Some f → (v ≡ u) ⊎ (v ≢ u) → (r ≡ q) ⊎ (r ≢ q) → (v ≡ t) × (r ≡ p)
    by_place v r same f is (inr apart) other = as_before v r (inl apart) same
    by_place v r same f is (inl equal) (inr apart) = as_before v r (inr apart) same
    by_place v r same f is (inl equal) (inl level) =
        let found : frame_at new u q ≡ Some f = subst₂ (λ a b. frame_at new a b ≡ Some f) equal level (same ∙ is) in
        let both = at_changed f is (from f found) in
        (equal ∙ both.0, level ∙ both.1)

-- a page whose frame no entry had has it alone
pub one_from_free : (old new : Memory) (t p f : ℕ) → ChangesPage old new t p → IsFree old f → frame_at new t p ≡ Some f → HasOneSharer new t p
one_from_free old new t p f rest free is u q same = by_place (cases_eq u t) (cases_eq q p)
  where
    other : (u ≢ t) ⊎ (q ≢ p) → ⊥
    other apart = free u q (sym (ap (option_map (λ (page : Page). page.frame)) (rest.others u q apart)) ∙ same ∙ is)

    by_place : (u ≡ t) ⊎ (u ≢ t) → (q ≡ p) ⊎ (q ≢ p) → (u ≡ t) × (q ≡ p)
    by_place (inr apart) level = absurd (other (inl apart))
    by_place (inl equal) (inr apart) = absurd (other (inr apart))
    by_place (inl equal) (inl level) = (equal, level)

-- a frame that an ended table had to itself is free
pub free_at_end : (old new : Memory) (t p f : ℕ) → ChangesTable old new t → ((q : ℕ) → page_at new t q ≡ None) → HasOneSharer old t p → frame_at old t p ≡ Some f → IsFree new f
free_at_end old new t p f rest none one is u q found = by_table (cases_eq u t)
  where
    by_table : (u ≡ t) ⊎ (u ≢ t) → ⊥
    by_table (inl equal) =
        let nothing : frame_at new u q ≡ None = ap (λ n. frame_at new n q) equal ∙ ap (option_map (λ (page : Page). page.frame)) (none q) in
        none-some f (sym nothing ∙ found)
    by_table (inr apart) =
        let had : frame_at old u q ≡ Some f = sym (ap (option_map (λ (page : Page). page.frame)) (rest.others u q apart)) ∙ found in
        apart (one u q (had ∙ sym is)).0

-- LEAVES

pub leaf-mapped : (m : Memory) (t p : ℕ) → is_mapped m t p ≡ true → leaf_at m t p ≡ leaf_in m t (leaf_index p)
leaf-mapped m t p is = cond-true (is_mapped m t p) (leaf_in m t (leaf_index p)) None is

-- a leaf of a page is that of its index, and the page is mapped
pub leaf-is : (m : Memory) (t p l : ℕ) → leaf_at m t p ≡ Some l → (is_mapped m t p ≡ true) × (leaf_in m t (leaf_index p) ≡ Some l)
leaf-is m t p l is = by (is_mapped m t p) refl
  where
    by : (b : Bool) → is_mapped m t p ≡ b → (is_mapped m t p ≡ true) × (leaf_in m t (leaf_index p) ≡ Some l)
    by true at = (at, sym (leaf-mapped m t p at) ∙ is)
    by false at = absurd (none-some l (sym (cond-false (is_mapped m t p) (leaf_in m t (leaf_index p)) None at) ∙ is))

pub shares_leaves : (m : Memory) → IsSound m → ShareLeaves m
shares_leaves m sound = record {
  there = λ t p. there t p (is_mapped m t p) refl;
  together = λ t p q one other. (
    λ same.
        let l = some_leaf (leaf_in m t (leaf_index p)) (sound.leaf_there t p one) in
        (sound.same_leaf t (leaf_index p) t (leaf_index q) l.0 l.1 (sym (leaf-mapped m t q other) ∙ sym same ∙ leaf-mapped m t p one ∙ l.1)).0,
    λ same. leaf-mapped m t p one ∙ ap (leaf_in m t) same ∙ sym (leaf-mapped m t q other),
  );
  unwritten = λ t u p l apart one other.
      let a = leaf-is m t p l one in
      let b = leaf-is m u p l other in
      let same = (sound.same_leaf t (leaf_index p) u (leaf_index p) l a.1 b.1).1 p refl in
      by_flag t u p apart same (is_written m t p) refl;
  filled = λ t i l is.
      let f = sound.leaf_filled t i l is in
      (f.0, leaf-mapped m t f.0 f.2 ∙ ap (leaf_in m t) f.1 ∙ is);
}
  where
    some_leaf : (o : Option ℕ) → IsTrue (is_some o) → (l : ℕ) × (o ≡ Some l)
    some_leaf None is = absurd (true≢false (sym is))
    some_leaf (Some l) is = (l, refl)

    there : (t p : ℕ) (b : Bool) → is_mapped m t p ≡ b → is_some (leaf_at m t p) ≡ is_mapped m t p
    there t p true at = ap (λ (o : Option ℕ). is_some o) (leaf-mapped m t p at) ∙ sound.leaf_there t p at ∙ sym at
    there t p false at = ap (λ (o : Option ℕ). is_some o) (cond-false (is_mapped m t p) (leaf_in m t (leaf_index p)) None at) ∙ sym at

    by_flag : (t u p : ℕ) → t ≢ u → page_at m t p ≡ page_at m u p → (b : Bool) → is_written m t p ≡ b → is_written m t p ≡ false
    by_flag t u p apart same false at = at
    by_flag t u p apart same true at = absurd (apart (sym (sound.written_alone t p at u p (ap (option_map (λ (page : Page). page.frame)) (sym same))).0))
