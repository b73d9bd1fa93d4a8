-- What roots and slots hold, one after the other.
use Rattle.std.proofs.Common.{◌≡◌, ◌∙◌, ℕ, zero, suc, ◌+◌, ◌<◌, Bool, true, false, List, [], ◌∷◌, ◌++◌, length, map, filter, take, get_or, not, refl, sym, ap, subst, arith, add-one, if◌then◌else◌}
use Rattle.std.specs.List.{Contains}
use Rattle.std.proofs.Math.Seq.{take-suc}
use Rattle.std.proofs.lemmas.List.{map-append}
use Rattle.std.proofs.lemmas.List.Elements.{Contains-append_left, Contains-append_right, Contains-push}
use Rattle.page_tables.specs.declared.address.Addr.{Addr}
use Rattle.object_view.specs.declared.names.Slot.{Slot}
use Rattle.large_objects.specs.declared.rows.LargeRow.{LargeRow}
use Rattle.live_objects.specs.Live.{addresses}
use Rattle.live_objects.specs.Marks.{HeldIn, State, Takes}
use Rattle.live_objects.specs.Reach.{is_strong}
use Rattle.live_objects.proofs.TakesLemmas.{held-none, takes-append, takes-none}

-- the targets of the slots that aren't weak
abbrev pub targets : List Slot → List ℕ
targets slots = map (λ slot. slot.target.0) (filter is_strong slots)

filter-append : {X : Type 0} (p : X → Bool) (xs ys : List X) → filter p (xs ++ ys) ≡ filter p xs ++ filter p ys
filter-append p [] ys = refl
filter-append p (x ∷ xs) ys = by (p x) (filter-append p xs ys)
  where
    by : (b : Bool) → filter p (xs ++ ys) ≡ filter p xs ++ filter p ys → (if b then x ∷ filter p (xs ++ ys) else filter p (xs ++ ys)) ≡ (if b then x ∷ filter p xs else filter p xs) ++ filter p ys
    by true e = ap (λ zs. x ∷ zs) e
    by false e = e

pub targets-append : (xs ys : List Slot) → targets (xs ++ ys) ≡ targets xs ++ targets ys
targets-append xs ys = ap (map (λ (slot : Slot). slot.target.0)) (filter-append is_strong xs ys) ∙ map-append (λ (slot : Slot). slot.target.0) (filter is_strong xs) (filter is_strong ys)

pub targets-strong : (slot : Slot) → slot.weak ≡ false → targets (slot ∷ []) ≡ slot.target.0 ∷ []
targets-strong slot strong = ap (λ b. map (λ (it : Slot). it.target.0) (if not b then slot ∷ [] else [])) strong

pub targets-weak : (slot : Slot) → slot.weak ≡ true → targets (slot ∷ []) ≡ []
targets-weak slot weak = ap (λ b. map (λ (it : Slot). it.target.0) (if not b then slot ∷ [] else [])) weak

-- the first k and the next one
pub take-next : {X : Type 0} (xs : List X) (k : ℕ) (d : X) → k < length xs → take (k + 1) xs ≡ take k xs ++ get_or xs k d ∷ []
take-next xs k d below = ap (λ n. take n xs) (add-one k) ∙ take-suc xs k d below

pub roots-more : (rows : List LargeRow) (roots : List Addr) (k : ℕ) (d : Addr) (old mid new : State) → k < length roots → Takes (HeldIn rows (addresses (take k roots))) old mid
    → Takes (HeldIn rows ((get_or roots k d).0 ∷ [])) mid new → Takes (HeldIn rows (addresses (take (k + 1) roots))) old new
roots-more rows roots k d old mid new below first next =
    let root : Addr = get_or roots k d in
    let all : addresses (take (k + 1) roots) ≡ addresses (take k roots) ++ root.0 ∷ [] = ap addresses (take-next roots k d below) ∙ map-append (λ (at : Addr). at.0) (take k roots) (root ∷ []) in
    subst (λ ns. Takes (HeldIn rows ns) old new) (sym all) (takes-append rows (addresses (take k roots)) (root.0 ∷ []) old mid new first next)

pub slots-more : (rows : List LargeRow) (slots : List Slot) (k : ℕ) (d : Slot) (old mid new : State) → k < length slots → Takes (HeldIn rows (targets (take k slots))) old mid
    → Takes (HeldIn rows (targets (get_or slots k d ∷ []))) mid new → Takes (HeldIn rows (targets (take (k + 1) slots))) old new
slots-more rows slots k d old mid new below first next =
    let slot : Slot = get_or slots k d in
    let all : targets (take (k + 1) slots) ≡ targets (take k slots) ++ targets (slot ∷ []) = ap targets (take-next slots k d below) ∙ targets-append (take k slots) (slot ∷ []) in
    subst (λ ns. Takes (HeldIn rows ns) old new) (sym all) (takes-append rows (targets (take k slots)) (targets (slot ∷ [])) old mid new first next)

-- a slot that isn't weak is among them
pub target-in : (slots : List Slot) (k : ℕ) (d : Slot) → k < length slots → (get_or slots k d).weak ≡ false → Contains (targets slots) (get_or slots k d).target.0
target-in [] k d below strong = absurd (omega (arith, below))
target-in (slot ∷ rest) zero d below strong =
    let n : ℕ = slot.target.0 in
    subst (λ ns. Contains ns n) (sym (targets-append (slot ∷ []) rest))
    (Contains-append_left (targets (slot ∷ [])) (targets rest) n (subst (λ ns. Contains ns n) (sym (targets-strong slot strong)) (Contains-push [] n)))
target-in (slot ∷ rest) (suc k) d below strong =
    let n : ℕ = (get_or rest k d).target.0 in
    subst (λ ns. Contains ns n) (sym (targets-append (slot ∷ []) rest)) (Contains-append_right (targets (slot ∷ [])) (targets rest) n (target-in rest k d (omega (arith, below)) strong))

pub strong-one : (rows : List LargeRow) (slot : Slot) (old new : State) → slot.weak ≡ false → Takes (HeldIn rows (slot.target.0 ∷ [])) old new → Takes (HeldIn rows (targets (slot ∷ []))) old new
strong-one rows slot old new strong takes = subst (λ ns. Takes (HeldIn rows ns) old new) (sym (targets-strong slot strong)) takes

pub weak-none : (rows : List LargeRow) (slot : Slot) (s : State) → slot.weak ≡ true → Takes (HeldIn rows (targets (slot ∷ []))) s s
weak-none rows slot s weak = subst (λ ns. Takes (HeldIn rows ns) s s) (sym (targets-weak slot weak)) (takes-none (HeldIn rows []) s (held-none rows))

pub none-yet : (rows : List LargeRow) (s : State) → Takes (HeldIn rows []) s s
none-yet rows s = takes-none (HeldIn rows []) s (held-none rows)
