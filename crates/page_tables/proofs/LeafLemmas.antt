-- The entries of a leaf, and of a table, and how they are counted.
use Rattle.std.proofs.Common.{◌≡◌, ℕ, zero, suc, ◌+◌, ◌<◌, ◌≤◌, Bool, true, false, cond, List, [], ◌∷◌, map, length, get_or, set, Some, None, Option, IsTrue, refl, ap, ◌∙◌, arith, ◌&&◌}
use Rattle.std.specs.Prelude.{replicate}
use Rattle.std.proofs.lemmas.Bool.{cond-true}
use Rattle.page_tables.specs.declared.address.Window.{Window}
use Rattle.page_tables.specs.declared.leaf.Entry.{Entry}
use Rattle.page_tables.specs.Address.{is_in, is_in_window}
use Rattle.page_tables.specs.Leaf.{present, cleared, one_mapped, one_written}
use Rattle.page_tables.specs.Tables.{window_of, mapped_one, written_one, mapped_from, written_from}
use Rattle.page_tables.proofs.WindowLemmas.{same_window, same_window-same, in_own}

-- how many entries are there after one was put
pub present-set : (es : List (Option Entry)) (i : ℕ) (o : Option Entry) → i < length es → present (set es i o) + one_mapped (get_or es i None) ≡ present es + one_mapped o
present-set [] i o within = absurd (omega arith)
present-set (x ∷ rest) zero o within = omega arith
present-set (x ∷ rest) (suc i) o within = omega (arith, present-set rest i o (omega arith))

pub one_mapped-le : (o : Option Entry) → one_mapped o ≤ 1
one_mapped-le None = omega arith
one_mapped-le (Some e) = omega arith

pub one_written-le : (o : Option Entry) → one_written o ≤ one_mapped o
one_written-le None = omega arith
one_written-le (Some e) = at_most e.written
  where
    at_most : (b : Bool) → cond {A = ℕ} b 1 0 ≤ 1
    at_most true = omega arith
    at_most false = omega arith

pub present-le : (es : List (Option Entry)) → present es ≤ length es
present-le [] = omega arith
present-le (o ∷ rest) = omega (arith, present-le rest, one_mapped-le o)

pub present-none : (n : ℕ) → present (replicate n None) ≡ 0
present-none zero = refl
present-none (suc n) = omega (arith, present-none n)

-- an entry that is there is one of those that are
pub present-there : (es : List (Option Entry)) (i : ℕ) (e : Entry) → get_or es i None ≡ Some e → 0 < present es
present-there [] i e is = absurd (Rattle.std.proofs.lemmas.Option.none-some e is)
present-there (x ∷ rest) zero e is = omega (arith, ap one_mapped is)
present-there (x ∷ rest) (suc i) e is = omega (arith, present-there rest i e is)

-- where none is there, each is none
pub present-zero : (es : List (Option Entry)) → present es ≡ 0 → (i : ℕ) → get_or es i None ≡ None
present-zero [] none i = refl
present-zero (None ∷ rest) none zero = refl
present-zero (None ∷ rest) none (suc i) = present-zero rest (omega arith) i
present-zero (Some e ∷ rest) none i = absurd (omega arith)

-- a slot with an entry, where there is one
pub present-found : (es : List (Option Entry)) → 0 < present es → (i : ℕ) × (e : Entry) × (get_or es i None ≡ Some e)
present-found [] some = absurd (omega arith)
present-found (None ∷ rest) some = let f = present-found rest (omega arith) in (suc f.0, f.1, f.2)
present-found (Some e ∷ rest) some = (0, e, refl)

pub one_mapped-cleared : (o : Option Entry) → one_mapped (cleared o) ≡ one_mapped o
one_mapped-cleared None = refl
one_mapped-cleared (Some e) = refl

pub present-cleared : (es : List (Option Entry)) → present (map cleared es) ≡ present es
present-cleared [] = refl
present-cleared (o ∷ rest) = omega (arith, one_mapped-cleared o, present-cleared rest)

pub cleared-at : (es : List (Option Entry)) (q : ℕ) → get_or (map cleared es) q None ≡ cleared (get_or es q None)
cleared-at [] q = refl
cleared-at (x ∷ rest) zero = refl
cleared-at (x ∷ rest) (suc q) = cleared-at rest q

-- THE ENTRIES OF A TABLE, BY THEIR PAGES

pub mapped-set : (w : Window) (k j : ℕ) (es : List (Option Entry)) (i : ℕ) (o : Option Entry) → k + i ≡ j → i < length es
    → mapped_from w k (set es i o) + mapped_one w j (get_or es i None) ≡ mapped_from w k es + mapped_one w j o
mapped-set w k j [] i o at within = absurd (omega arith)
mapped-set w k j (x ∷ rest) zero o at within =
    let same : k ≡ j = omega arith in
    omega (arith, ap (λ n. mapped_one w n o) same, ap (λ n. mapped_one w n x) same)
mapped-set w k j (x ∷ rest) (suc i) o at within = omega (arith, mapped-set w (k + 1) j rest i o (omega arith) (omega arith))

pub written-set : (w : Window) (k j : ℕ) (es : List (Option Entry)) (i : ℕ) (o : Option Entry) → k + i ≡ j → i < length es
    → written_from w k (set es i o) + written_one w j (get_or es i None) ≡ written_from w k es + written_one w j o
written-set w k j [] i o at within = absurd (omega arith)
written-set w k j (x ∷ rest) zero o at within =
    let same : k ≡ j = omega arith in
    omega (arith, ap (λ n. written_one w n o) same, ap (λ n. written_one w n x) same)
written-set w k j (x ∷ rest) (suc i) o at within = omega (arith, written-set w (k + 1) j rest i o (omega arith) (omega arith))

-- an entry counts in its page's window, and in no other
pub mapped_one-own : (w : Window) (p : ℕ) (o : Option Entry) → IsTrue (is_in_window p) → mapped_one w p o ≡ cond (same_window (window_of p) w) (one_mapped o) 0
mapped_one-own w p None is = none (same_window (window_of p) w)
  where
    none : (b : Bool) → ◌≡◌ {A = ℕ} 0 (cond b 0 0)
    none true = refl
    none false = refl
mapped_one-own w p (Some e) is = ap (λ (b : Bool). cond {A = ℕ} b 1 0) (in_own p is w)

pub written_one-own : (w : Window) (p : ℕ) (o : Option Entry) → IsTrue (is_in_window p) → written_one w p o ≡ cond (same_window (window_of p) w) (one_written o) 0
written_one-own w p None is = none (same_window (window_of p) w)
  where
    none : (b : Bool) → ◌≡◌ {A = ℕ} 0 (cond b 0 0)
    none true = refl
    none false = refl
written_one-own w p (Some e) is = ap (λ (b : Bool). cond {A = ℕ} (b && e.written) 1 0) (in_own p is w) ∙ both (same_window (window_of p) w) e.written
  where
    both : (b c : Bool) → ◌≡◌ {A = ℕ} (cond (b && c) 1 0) (cond b (cond c 1 0) 0)
    both true c = refl
    both false c = refl

-- no more entries are counted than there are
pub mapped-le : (w : Window) (k : ℕ) (es : List (Option Entry)) → mapped_from w k es ≤ length es
mapped-le w k [] = omega arith
mapped-le w k (o ∷ rest) = omega (arith, mapped-le w (k + 1) rest, one o)
  where
    at_most : (b : Bool) → cond {A = ℕ} b 1 0 ≤ 1
    at_most true = omega arith
    at_most false = omega arith

    one : (o : Option Entry) → mapped_one w k o ≤ 1
    one None = omega arith
    one (Some e) = at_most (is_in w k)

pub written-le : (w : Window) (k : ℕ) (es : List (Option Entry)) → written_from w k es ≤ mapped_from w k es
written-le w k [] = omega arith
written-le w k (o ∷ rest) = omega (arith, written-le w (k + 1) rest, one o)
  where
    less : (b c : Bool) → cond {A = ℕ} (b && c) 1 0 ≤ cond {A = ℕ} b 1 0
    less true true = omega arith
    less true false = omega arith
    less false c = omega arith

    one : (o : Option Entry) → written_one w k o ≤ mapped_one w k o
    one None = omega arith
    one (Some e) = less (is_in w k) e.written

-- an entry that is there is counted in its window
pub mapped_there : (es : List (Option Entry)) (p : ℕ) → p < length es → IsTrue (is_in_window p) → one_mapped (get_or es p None) ≤ mapped_from (window_of p) 0 es
mapped_there es p within is =
    let v = window_of p in
    omega (
      arith,
      mapped-set v 0 p es p None (omega arith) within,
      mapped_one-own v p (get_or es p None) is,
      cond-true {A = ℕ} (same_window v v) (one_mapped (get_or es p None)) 0 (same_window-same v),
    )

pub written_there : (es : List (Option Entry)) (p : ℕ) → p < length es → IsTrue (is_in_window p) → one_written (get_or es p None) ≤ written_from (window_of p) 0 es
written_there es p within is =
    let v = window_of p in
    omega (
      arith,
      written-set v 0 p es p None (omega arith) within,
      written_one-own v p (get_or es p None) is,
      cond-true {A = ℕ} (same_window v v) (one_written (get_or es p None)) 0 (same_window-same v),
    )

-- no entry without its flag is counted as written
pub written-cleared : (w : Window) (k : ℕ) (es : List (Option Entry)) → written_from w k (map cleared es) ≡ 0
written-cleared w k [] = refl
written-cleared w k (o ∷ rest) = omega (arith, written-cleared w (k + 1) rest, one o)
  where
    none : (b : Bool) → ◌≡◌ {A = ℕ} (cond (b && false) 1 0) 0
    none true = refl
    none false = refl

    one : (o : Option Entry) → written_one w k (cleared o) ≡ 0
    one None = refl
    one (Some e) = none (is_in w k)

pub mapped-cleared : (w : Window) (k : ℕ) (es : List (Option Entry)) → mapped_from w k (map cleared es) ≡ mapped_from w k es
mapped-cleared w k [] = refl
mapped-cleared w k (None ∷ rest) = omega (arith, mapped-cleared w (k + 1) rest)
mapped-cleared w k (Some e ∷ rest) = omega (arith, mapped-cleared w (k + 1) rest)
