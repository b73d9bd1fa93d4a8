-- The walk over the objects of a dump: the reads so far.
use Rattle.std.proofs.Common.{◌≡◌, ℕ, ◌+◌, ◌*◌, ◌/◌, ◌≤◌, Bool, true, false, ◌||◌, List, [], ◌∷◌, ◌++◌, Option, Some, None, take, drop, sum_by, refl, sym, ap, ◌∙◌, subst, arith, add-one}
use Rattle.std.proofs.lemmas.List.{take-append-drop}
use Rattle.std.proofs.lemmas.List.Sums.{sum_by-cons}
use Rattle.std.specs.List.{slice_get}
use Rattle.class_layout.specs.ClassList.{Class}
use Rattle.std.specs.Option.{IsSomeAnd}
use Rattle.class_layout.specs.Placing.{IsIn}
use Rattle.heap_graph.specs.Graph.{Graph, Object, size_of_object}
use Rattle.object_view.specs.declared.heap_view.Seen.{Seen}
use Rattle.heap_graph.specs.Table.{in_spot_window}
use Rattle.object_view.specs.Seen.{RoseBy, count_if, has_spots, seen_of, step_reads}
use Rattle.hprof_write.specs.Reads.{object_reads, object_values}
use Rattle.hprof_write.proofs.TableLines.{take-more}
use Rattle.hprof_write.proofs.ValuesAt.{IsIn-slice_get}

-- the reads of a step of the walk, and of the values of its object
abbrev pub put_reads : List Class → Object → ℕ
put_reads cs o = step_reads (Some o) + object_values cs o

abbrev pub puts_reads : List Class → List Object → ℕ
puts_reads cs [] = 0
puts_reads cs (o ∷ os) = put_reads cs o + puts_reads cs os

-- the walk has begun, and the first k objects were put
pub record IsPut (cs : List Class) (os : List Object) (k before now : ℕ) : Type 0 where
  pub rose : RoseBy (count_if (has_spots os) 3 + puts_reads cs (take k os)) before now

puts_reads-append : (cs : List Class) (xs ys : List Object) → puts_reads cs (xs ++ ys) ≡ puts_reads cs xs + puts_reads cs ys
puts_reads-append cs [] ys = omega arith
puts_reads-append cs (x ∷ xs) ys = let e = puts_reads-append cs xs ys in omega arith

puts_reads-take : (cs : List Class) (os : List Object) (k : ℕ) → puts_reads cs (take k os) ≤ puts_reads cs os
puts_reads-take cs os k =
    let e : puts_reads cs (take k os ++ drop k os) ≡ puts_reads cs (take k os) + puts_reads cs (drop k os) = puts_reads-append cs (take k os) (drop k os) in
    let f : puts_reads cs (take k os ++ drop k os) ≡ puts_reads cs os = ap (puts_reads cs) (take-append-drop k os) in
    omega arith

-- 3 for the beginning and 3 for each step are no more than 10 for each step
all-within : (cs : List Class) (os : List Object)
    → (puts_reads cs os ≤ sum_by (object_reads cs) os) × (count_if (has_spots os) 3 + puts_reads cs os ≤ sum_by (object_reads cs) os)
all-within cs [] = (omega arith, omega arith)
all-within cs (o ∷ os) = by (in_spot_window o.place) refl (all-within cs os)
  where
    by : (b : Bool) → in_spot_window o.place ≡ b
        → (puts_reads cs os ≤ sum_by (object_reads cs) os) × (count_if (has_spots os) 3 + puts_reads cs os ≤ sum_by (object_reads cs) os)
        → (puts_reads cs (o ∷ os) ≤ sum_by (object_reads cs) (o ∷ os)) × (count_if (has_spots (o ∷ os)) 3 + puts_reads cs (o ∷ os) ≤ sum_by (object_reads cs) (o ∷ os))
    by true e (a, b) =
        let words : ℕ = 4 * (size_of_object cs o / 4) in
        let t : sum_by (object_reads cs) (o ∷ os) ≡ object_reads cs o + sum_by (object_reads cs) os = sum_by-cons (object_reads cs) o os in
        let w : object_reads cs o ≡ words + 10 = ap (λ x. count_if x (words + 10)) e in
        let v : object_values cs o ≡ words = ap (λ x. count_if x words) e in
        let s : step_reads (Some o) ≡ 3 = ap (λ x. count_if x 3) e in
        let h : count_if (has_spots (o ∷ os)) 3 ≡ 3 = ap (λ x. count_if (x || has_spots os) 3) e in
        (omega arith, omega arith)
    by false e (a, b) =
        let words : ℕ = 4 * (size_of_object cs o / 4) in
        let t : sum_by (object_reads cs) (o ∷ os) ≡ object_reads cs o + sum_by (object_reads cs) os = sum_by-cons (object_reads cs) o os in
        let w : object_reads cs o ≡ 0 = ap (λ x. count_if x (words + 10)) e in
        let v : object_values cs o ≡ 0 = ap (λ x. count_if x words) e in
        let s : step_reads (Some o) ≡ 0 = ap (λ x. count_if x 3) e in
        let h : count_if (has_spots (o ∷ os)) 3 ≡ count_if (has_spots os) 3 = ap (λ x. count_if (x || has_spots os) 3) e in
        (omega arith, omega arith)

pub IsPut-within : (cs : List Class) (os : List Object) (k before now : ℕ) → IsPut cs os k before now → RoseBy (sum_by (object_reads cs) os) before now
IsPut-within cs os k before now h =
    let (a, b) = all-within cs os in
    let t = puts_reads-take cs os k in
    let f = h.rose.never_falls in
    let m = h.rose.most in
    record { never_falls = f; most = omega arith }

pub IsPut-begun : (cs : List Class) (os : List Object) (before now : ℕ) → RoseBy (count_if (has_spots os) 3) before now → IsPut cs os 0 before now
IsPut-begun cs os before now h =
    let f = h.never_falls in
    let m = h.most in
    record { rose = record { never_falls = f; most = omega arith } }

pub IsPut-more : (cs : List Class) (os : List Object) (k before mid now : ℕ) (o : Object) → slice_get os k ≡ Some o → IsPut cs os k before mid → RoseBy (put_reads cs o) mid now
    → IsPut cs os (k + 1) before now
IsPut-more cs os k before mid now o e h r =
    let t : puts_reads cs (take (k + 1) os) ≡ puts_reads cs (take k os) + puts_reads cs (o ∷ []) =
    ap (λ n. puts_reads cs (take n os)) (add-one k) ∙ ap (puts_reads cs) (take-more os k o e) ∙ puts_reads-append cs (take k os) (o ∷ []) in
    let a = h.rose.never_falls in
    let b = h.rose.most in
    let c = r.never_falls in
    let d = r.most in
    record { rose = record { never_falls = omega arith; most = omega arith } }

-- one more object, whatever it is
pub IsPut-next : (cs : List Class) (os : List Object) (k before mid now : ℕ) → IsPut cs os k before mid → IsSomeAnd (slice_get os k) (λ o. RoseBy (put_reads cs o) mid now)
    → IsPut cs os (k + 1) before now
IsPut-next cs os k before mid now h r = by (slice_get os k) refl r
  where
    by : (x : Option Object) → slice_get os k ≡ x → IsSomeAnd x (λ o. RoseBy (put_reads cs o) mid now) → IsPut cs os (k + 1) before now
    by None e r = absurd r
    by (Some o) e r = IsPut-more cs os k before mid now o e h r

-- a step alone
pub step-only : (cs : List Class) (os : List Object) (k before now : ℕ) (S : Object → Type 0) → IsSomeAnd (slice_get os k) S → RoseBy (step_reads (slice_get os k)) before now
    → IsSomeAnd (slice_get os k) (λ o. RoseBy (put_reads cs o) before now)
step-only cs os k before now S is r = by (slice_get os k) is r
  where
    by : (x : Option Object) → IsSomeAnd x S → RoseBy (step_reads x) before now → IsSomeAnd x (λ o. RoseBy (put_reads cs o) before now)
    by None is r = absurd is
    by (Some o) is r = let a = r.never_falls in let b = r.most in record { never_falls = a; most = omega arith }

-- a step, and then the values
pub step-put : (g h : Graph) (table more : ℕ → ℕ) (k before mid now : ℕ) (seen : Seen) → h ≡ g → more ≡ table
    → IsSomeAnd (slice_get g.objects k) (λ o. seen ≡ seen_of table o) → RoseBy (step_reads (slice_get g.objects k)) before mid
    → ((o : Object) → IsIn o h.objects → seen ≡ seen_of more o → RoseBy (object_values h.classes o) mid now)
    → IsSomeAnd (slice_get g.objects k) (λ o. RoseBy (put_reads g.classes o) before now)
step-put g h table more k before mid now seen eg et is r values = by (slice_get g.objects k) refl is r
  where
    by : (x : Option Object) → slice_get g.objects k ≡ x → IsSomeAnd x (λ o. seen ≡ seen_of table o) → RoseBy (step_reads x) before mid
        → IsSomeAnd x (λ o. RoseBy (put_reads g.classes o) before now)
    by None e is r = absurd is
    by (Some o) e is r =
        let v = subst (λ (x : Graph). RoseBy (object_values x.classes o) mid now) eg
        (values o (subst (λ (x : Graph). IsIn o x.objects) (sym eg) (IsIn-slice_get g.objects k o e)) (subst (λ (t : ℕ → ℕ). seen ≡ seen_of t o) (sym et) is)) in
        let a = r.never_falls in
        let b = r.most in
        let c = v.never_falls in
        let d = v.most in
        record { never_falls = omega arith; most = omega arith }

-- the object that was seen
pub seen-there : (g h : Graph) (table more : ℕ → ℕ) (k : ℕ) (seen : Seen) → h ≡ g → more ≡ table → IsSomeAnd (slice_get g.objects k) (λ o. seen ≡ seen_of table o)
    → (o : Object) × IsIn o h.objects × (seen ≡ seen_of more o)
seen-there g h table more k seen eg et is = by (slice_get g.objects k) refl is
  where
    by : (x : Option Object) → slice_get g.objects k ≡ x → IsSomeAnd x (λ o. seen ≡ seen_of table o) → (o : Object) × IsIn o h.objects × (seen ≡ seen_of more o)
    by None e is = absurd is
    by (Some o) e is = (o, subst (λ (x : Graph). IsIn o x.objects) (sym eg) (IsIn-slice_get g.objects k o e), subst (λ (t : ℕ → ℕ). seen ≡ seen_of t o) (sym et) is)

-- what holds of the object that was seen
pub seen-put : (g h : Graph) (table more : ℕ → ℕ) (k : ℕ) (seen : Seen) (Q : Graph → (ℕ → ℕ) → Object → Type 0) → h ≡ g → more ≡ table
    → IsSomeAnd (slice_get g.objects k) (λ o. seen ≡ seen_of table o) → ((o : Object) → IsIn o h.objects → seen ≡ seen_of more o → Q h more o)
    → IsSomeAnd (slice_get g.objects k) (λ o. Q g table o)
seen-put g h table more k seen Q eg et is put = by (slice_get g.objects k) refl is
  where
    by : (x : Option Object) → slice_get g.objects k ≡ x → IsSomeAnd x (λ o. seen ≡ seen_of table o) → IsSomeAnd x (λ o. Q g table o)
    by None e is = absurd is
    by (Some o) e is =
        subst (λ (t : ℕ → ℕ). Q g t o) et (subst (λ (x : Graph). Q x more o) eg
        (put o (subst (λ (x : Graph). IsIn o x.objects) (sym eg) (IsIn-slice_get g.objects k o e)) (subst (λ (t : ℕ → ℕ). seen ≡ seen_of t o) (sym et) is)))

-- a fact over what the walk began with
pub moved : (R : Graph → (ℕ → ℕ) → ℕ → Type 0) (g h : Graph) (table more : ℕ → ℕ) (k given : ℕ) → h ≡ g → more ≡ table → given ≡ k → R h more given → R g table k
moved R g h table more k given eg et ek r =
    subst (λ (n : ℕ). R g table n) ek (subst (λ (t : ℕ → ℕ). R g t given) et (subst (λ (x : Graph). R x more given) eg r))
