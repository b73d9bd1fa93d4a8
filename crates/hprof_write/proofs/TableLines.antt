-- The walk over the objects of a view: the lines and the reads so far.
use Rattle.std.proofs.Common.{◌≡◌, ℕ, zero, suc, ◌+◌, ◌≤◌, Bool, true, false, ◌||◌, List, [], ◌∷◌, ◌++◌, Option, Some, None, take, drop, sum_by, refl, sym, ap, ◌∙◌, subst, arith}
use Rattle.std.proofs.lemmas.List.{append-nil, take-append-drop}
use Rattle.std.proofs.lemmas.Grind.{flat_map-append}
use Rattle.std.proofs.lemmas.List.Sums.{sum_by-cons}
use Rattle.std.specs.List.{flat_map, slice_get}
use Rattle.std.specs.Option.{IsSomeAnd}
use Rattle.std.specs.Result.{OnErr}
use Rattle.std.specs.Prelude.{Result, Ok, Err}
use Rattle.ah_outside.specs.Outside.{Shelved}
use Rattle.heap_graph.specs.Graph.{Object}
use Rattle.heap_graph.specs.Table.{in_spot_window}
use Rattle.object_view.specs.declared.heap_view.Seen.{Seen}
use Rattle.object_view.specs.Seen.{RoseBy, count_if, has_spots, seen_of, step_reads}
use Rattle.hprof_write.specs.Outcomes.{AppendedBut, AppendedPrefix}
use Rattle.hprof_write.specs.Reads.{walk_reads}
use Rattle.hprof_write.specs.TableText.{table_line}
use Rattle.hprof_write.proofs.Appends.{AppendedBut-more, AppendedPrefix-more}

-- the lines of objects
abbrev pub lines : (ℕ → ℕ) → List Object → List ℕ
lines table os = flat_map (λ o. table_line o.number (table o.number)) os

-- the reads of the steps of a walk
abbrev pub steps_reads : List Object → ℕ
steps_reads [] = 0
steps_reads (o ∷ os) = step_reads (Some o) + steps_reads os

-- the walk has begun, and has given the first k objects
pub record IsWalked (os : List Object) (k before now : ℕ) : Type 0 where
  pub rose : RoseBy (count_if (has_spots os) 3 + steps_reads (take k os)) before now

pub on_err-always : {T E : Type 0} (P : Type 0) (r : Result T E) → P → OnErr r P
on_err-always P (Ok x) p = tt
on_err-always P (Err e) p = p

-- one more element
pub take-more : {X : Type 0} (xs : List X) (k : ℕ) (x : X) → slice_get xs k ≡ Some x → take (suc k) xs ≡ take k xs ++ x ∷ []
take-more [] k x h = cc
take-more (y ∷ ys) zero x h = let e : y ≡ x = cc in ap (λ z. z ∷ []) e
take-more (y ∷ ys) (suc k) x h = ap (λ l. y ∷ l) (take-more ys k x h)

steps_reads-append : (xs ys : List Object) → steps_reads (xs ++ ys) ≡ steps_reads xs + steps_reads ys
steps_reads-append [] ys = omega arith
steps_reads-append (x ∷ xs) ys = let e = steps_reads-append xs ys in omega arith

steps_reads-take : (os : List Object) (k : ℕ) → steps_reads (take k os) ≤ steps_reads os
steps_reads-take os k =
    let e : steps_reads (take k os ++ drop k os) ≡ steps_reads (take k os) + steps_reads (drop k os) = steps_reads-append (take k os) (drop k os) in
    let f : steps_reads (take k os ++ drop k os) ≡ steps_reads os = ap steps_reads (take-append-drop k os) in
    omega arith

-- 3 for the beginning and 3 for each step are no more than 6 for each step
begin-within : (os : List Object) → (steps_reads os ≤ sum_by walk_reads os) × (count_if (has_spots os) 3 + steps_reads os ≤ sum_by walk_reads os)
begin-within [] = (omega arith, omega arith)
begin-within (o ∷ os) = begin-by o os (in_spot_window o.place) refl (begin-within os)
  where
    begin-by : (o : Object) (os : List Object) (b : Bool) → in_spot_window o.place ≡ b
        → (steps_reads os ≤ sum_by walk_reads os) × (count_if (has_spots os) 3 + steps_reads os ≤ sum_by walk_reads os)
        → (steps_reads (o ∷ os) ≤ sum_by walk_reads (o ∷ os)) × (count_if (has_spots (o ∷ os)) 3 + steps_reads (o ∷ os) ≤ sum_by walk_reads (o ∷ os))
    begin-by o os true e (a, b) =
        let t : sum_by walk_reads (o ∷ os) ≡ walk_reads o + sum_by walk_reads os = sum_by-cons walk_reads o os in
        let w : walk_reads o ≡ 6 = ap (λ x. count_if x 6) e in
        let s : step_reads (Some o) ≡ 3 = ap (λ x. count_if x 3) e in
        let h : count_if (has_spots (o ∷ os)) 3 ≡ 3 = ap (λ x. count_if (x || has_spots os) 3) e in
        (omega arith, omega arith)
    begin-by o os false e (a, b) =
        let t : sum_by walk_reads (o ∷ os) ≡ walk_reads o + sum_by walk_reads os = sum_by-cons walk_reads o os in
        let w : walk_reads o ≡ 0 = ap (λ x. count_if x 6) e in
        let s : step_reads (Some o) ≡ 0 = ap (λ x. count_if x 3) e in
        let h : count_if (has_spots (o ∷ os)) 3 ≡ count_if (has_spots os) 3 = ap (λ x. count_if (x || has_spots os) 3) e in
        (omega arith, omega arith)

pub IsWalked-within : (os : List Object) (k before now : ℕ) → IsWalked os k before now → RoseBy (sum_by walk_reads os) before now
IsWalked-within os k before now h =
    let (a, b) = begin-within os in
    let t = steps_reads-take os k in
    let f = h.rose.never_falls in
    let m = h.rose.most in
    record { never_falls = f; most = omega arith }

pub IsWalked-begun : (os : List Object) (before now : ℕ) → RoseBy (count_if (has_spots os) 3) before now → IsWalked os 0 before now
IsWalked-begun os before now h =
    let f = h.never_falls in
    let m = h.most in
    record { rose = record { never_falls = f; most = omega arith } }

walked-at : (os : List Object) (k before mid now : ℕ) (o : Object) → slice_get os k ≡ Some o → IsWalked os k before mid → RoseBy (step_reads (Some o)) mid now
    → IsWalked os (suc k) before now
walked-at os k before mid now o e h r =
    let t : steps_reads (take (suc k) os) ≡ steps_reads (take k os) + steps_reads (o ∷ []) = ap steps_reads (take-more os k o e) ∙ steps_reads-append (take k os) (o ∷ []) in
    let a = h.rose.never_falls in
    let b = h.rose.most in
    let c = r.never_falls in
    let d = r.most in
    record { rose = record { never_falls = omega arith; most = omega arith } }

lines-at : (table : ℕ → ℕ) (os : List Object) (k : ℕ) (o : Object) → slice_get os k ≡ Some o
    → lines table (take (suc k) os) ≡ lines table (take k os) ++ table_line o.number (table o.number)
lines-at table os k o e =
    ap (lines table) (take-more os k o e) ∙ flat_map-append (λ p. table_line p.number (table p.number)) (take k os) (o ∷ [])
    ∙ ap (λ l. lines table (take k os) ++ l) (append-nil (table_line o.number (table o.number)))

-- one more object was seen
pub record IsStep (table : ℕ → ℕ) (os : List Object) (k before now : ℕ) (seen : Seen) : Type 0 where
  pub walked : IsWalked os (suc k) before now
  pub line : lines table (take (suc k) os) ≡ lines table (take k os) ++ table_line seen.number seen.at.0

pub walk-more : (table : ℕ → ℕ) (os : List Object) (k before mid now : ℕ) (seen : Seen) → IsSomeAnd (slice_get os k) (λ o. seen ≡ seen_of table o)
    → IsWalked os k before mid → RoseBy (step_reads (slice_get os k)) mid now → IsStep table os k before now seen
walk-more table os k before mid now seen is h r = step-by (slice_get os k) refl is r
  where
    step-by : (x : Option Object) → slice_get os k ≡ x → IsSomeAnd x (λ o. seen ≡ seen_of table o) → RoseBy (step_reads x) mid now → IsStep table os k before now seen
    step-by None e is r = absurd is
    step-by (Some o) e is r = record {
      walked = walked-at os k before mid now o e h r;
      line = lines-at table os k o e ∙ ap (λ (s : Seen). lines table (take k os) ++ table_line s.number s.at.0) (sym is);
    }

-- the lines so far are the first ones
pub lines-prefix : (table : ℕ → ℕ) (os : List Object) (k : ℕ) (a b : Shelved) → AppendedPrefix a (lines table (take k os)) b → AppendedPrefix a (lines table os) b
lines-prefix table os k a b h =
    let e : lines table (take k os) ++ lines table (drop k os) ≡ lines table os =
    sym (flat_map-append (λ p. table_line p.number (table p.number)) (take k os) (drop k os)) ∙ ap (lines table) (take-append-drop k os) in
    subst (λ l. AppendedPrefix a l b) e (AppendedPrefix-more a b (lines table (take k os)) (lines table (drop k os)) h)

-- one more line waits
pub line-waits : (table : ℕ → ℕ) (os : List Object) (k : ℕ) (line waiting more : List ℕ) (a b : Shelved) → lines table (take (suc k) os) ≡ lines table (take k os) ++ line
    → more ≡ waiting ++ line → AppendedBut a (lines table (take k os)) waiting b → AppendedBut a (lines table (take (suc k) os)) more b
line-waits table os k line waiting more a b e f h =
    rw e (rw f (AppendedBut-more a b (lines table (take k os)) waiting line h))
