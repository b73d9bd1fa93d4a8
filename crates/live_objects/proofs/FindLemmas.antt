-- How marking begins, and what its end tells.
use Rattle.std.proofs.Common.{◌≡◌, ◌∙◌, ◌↔◌, ℕ, ◌+◌, ◌%◌, ◌<◌, ◌==◌, Bool, true, false, List, [], ◌∷◌, ◌++◌, Some, length, nat_eq, sym, ap, subst, inl, inr, arith}
use Rattle.std.specs.Prelude.{if◌then◌else◌}
use Rattle.std.specs.List.{Contains}
use Rattle.std.proofs.lemmas.Bool.{and_from, cases_Bool, eq-eqb, eqb-true, or_left, or_right}
use Rattle.std.proofs.lemmas.List.{length-append}
use Rattle.std.proofs.lemmas.List.Elements.{Contains-append_left, Contains-append_right}
use Rattle.std.proofs.lemmas.Option.{none-some}
use Rattle.class_layout.specs.ClassList.{Class}
use Rattle.page_tables.specs.declared.address.Addr.{Addr}
use Rattle.bit_set.specs.Bits.{Bits}
use Rattle.cow_pages.specs.Memory.{Memory}
use Rattle.cow_pages.specs.View.{View, view_of}
use Rattle.heap_graph.specs.Reach.{is_among}
use Rattle.object_view.specs.declared.names.Slot.{Slot}
use Rattle.raw_objects.specs.Raws.{Raws, raw_size}
use Rattle.raw_objects.specs.References.{in_regions}
use Rattle.region_lists.specs.Rows.{Lists, Row, row_of}
use Rattle.region_space.specs.Space.{IsSpace}
use Rattle.region_space.proofs.WalkLemmas.{found, in_use-apart, placed}
use Rattle.large_objects.specs.declared.rows.LargeRow.{LargeRow}
use Rattle.large_objects.specs.Rows.{AreRows}
use Rattle.live_objects.specs.Live.{HasLarge, ListsYoung, addresses}
use Rattle.live_objects.specs.Marks.{CanConsider, CanFollow, HeldIn, Marking, State, Takes, has_mark, marked, region_of, unset}
use Rattle.live_objects.specs.Reach.{CanMark, Reached, starts_of}
use Rattle.live_objects.proofs.FollowLemmas.{found-considered, found-held}
use Rattle.live_objects.proofs.MarkLemmas.{has-young}
use Rattle.live_objects.proofs.OrderLemmas.{regions}
use Rattle.live_objects.proofs.ReachLemmas.{marking-start}
use Rattle.live_objects.proofs.StartLemmas.{targets}
use Rattle.live_objects.proofs.TakesLemmas.{takes-append}

-- BEGINNING

row-among : (rows : List Row) (region : ℕ) (row : Row) → row_of rows region ≡ Some row → is_among (regions rows) region ≡ true
row-among [] region row is = absurd (none-some row is)
row-among (one ∷ rest) region row is = elim (cases_Bool (nat_eq one.region region)) [
  | inl here ↦ or_left (nat_eq region one.region) (is_among (regions rest) region) (eq-eqb region one.region (sym (eqb-true one.region region here)))
  | inr later ↦ or_right (nat_eq region one.region) (is_among (regions rest) region) (row-among rest region row (sym (ap (λ (b : Bool). if b then Some one else row_of rest region) later) ∙ is))
]

pub can-follow : (cs : List Class) (v : View) (raws : Raws) (s : Lists) (rows : List LargeRow) (starts numbers : List ℕ) → CanMark cs v raws s.in_use rows starts → IsSpace s → numbers ≡ regions s.in_use
    → CanFollow cs v raws rows numbers
can-follow cs v raws s rows starts numbers can space same = record { holds = can.holds; found = λ n has. record { young = young n has; large = λ is. can.large n has is }; targets = can.targets }
  where
    young : (n : ℕ) → raws.has n ≡ true → in_regions n ≡ true → has_mark numbers n ≡ true
    young n has is =
        let there = can.young n has is in
        let f = found s.in_use n (raw_size cs raws n) (in_use-apart s space) there.there in
        let p = placed s n (raw_size cs raws n) space there.some f in
        let among : is_among numbers (region_of n) ≡ true = ap (λ ns. is_among ns (region_of n)) same ∙ ap (is_among (regions s.in_use)) p.region ∙ row-among s.in_use f.row.region f.row f.is in
        has-young numbers n is ∙ and_from (n % 8 == 0) (is_among numbers (region_of n)) (eq-eqb (n % 8) 0 (can.holds.stands n has).aligned) among

-- what a path starts from can be looked at
pub root-considered : (cs : List Class) (v : View) (raws : Raws) (s : Lists) (rows : List LargeRow) (roots : List Addr) (slots : List Slot) (numbers : List ℕ) (n : ℕ)
    → CanMark cs v raws s.in_use rows (starts_of roots slots) → IsSpace s → numbers ≡ regions s.in_use → Contains (addresses roots) n → CanConsider rows numbers n
root-considered cs v raws s rows roots slots numbers n can space same c =
    found-considered cs v raws rows numbers n (can-follow cs v raws s rows (starts_of roots slots) numbers can space same) (can.first n (Contains-append_left (addresses roots) (targets slots) n c))

pub slot-considered : (cs : List Class) (v : View) (raws : Raws) (s : Lists) (rows : List LargeRow) (roots : List Addr) (slots : List Slot) (numbers : List ℕ) (n : ℕ)
    → CanMark cs v raws s.in_use rows (starts_of roots slots) → IsSpace s → numbers ≡ regions s.in_use → Contains (targets slots) n → CanConsider rows numbers n
slot-considered cs v raws s rows roots slots numbers n can space same c =
    found-considered cs v raws rows numbers n (can-follow cs v raws s rows (starts_of roots slots) numbers can space same) (can.first n (Contains-append_right (addresses roots) (targets slots) n c))

-- the states while roots and slots are marked
pub record Begins (rows : List LargeRow) (roots : List Addr) (slots : List Slot) (in_use : List Row) (none mid new : State) : Type 0 where
  pub clear : (a : ℕ) → marked none a ≡ false
  pub empty : none.waiting ≡ []
  pub numbers : none.numbers ≡ regions in_use
  pub roots_marked : Takes (HeldIn rows (addresses roots)) none mid
  pub slots_marked : Takes (HeldIn rows (targets slots)) mid new

pub begun-numbers : (rows : List LargeRow) (roots : List Addr) (slots : List Slot) (in_use : List Row) (none mid new : State) → Begins rows roots slots in_use none mid new → new.numbers ≡ regions in_use
begun-numbers rows roots slots in_use none mid new b = b.slots_marked.numbers ∙ b.roots_marked.numbers ∙ b.numbers

pub begun : (cs : List Class) (v : View) (raws : Raws) (in_use : List Row) (rows : List LargeRow) (roots : List Addr) (slots : List Slot) (none mid new : State) → CanMark cs v raws in_use rows (starts_of roots slots)
    → AreRows rows → Begins rows roots slots in_use none mid new → Marking cs rows raws (starts_of roots slots) new
begun cs v raws in_use rows roots slots none mid new can are b =
    marking-start cs rows raws (starts_of roots slots) none new b.empty b.clear (λ n h. found-held rows raws n are (can.first n h.0) h.1)
    (takes-append rows (addresses roots) (targets slots) none mid new b.roots_marked b.slots_marked)

-- GOING ON

pub follow-same : (cs : List Class) (m n : Memory) (t : ℕ) (raws : Raws) (rows : List LargeRow) (numbers others : List ℕ) → n ≡ m → others ≡ numbers → CanFollow cs (view_of m t) raws rows numbers
    → CanFollow cs (view_of n t) raws rows others
follow-same cs m n t raws rows numbers others same numbered can =
    subst (λ (x : Memory). CanFollow cs (view_of x t) raws rows others) (sym same) (subst (λ ns. CanFollow cs (view_of m t) raws rows ns) (sym numbered) can)

-- one that waited was looked at: less is left
pub less-left : (held : ℕ → Type 0) (s mid new : State) (a : ℕ) → s.waiting ≡ mid.waiting ++ a ∷ [] → mid ≡ record s { waiting = mid.waiting } → Takes held mid new
    → length new.waiting + unset new < length s.waiting + unset s
less-left held s mid new a waits rest takes =
    let same : unset mid ≡ unset s = ap unset rest in
    omega (arith, takes.debt, same, ap length waits, length-append mid.waiting (a ∷ []))

-- END

pub lists-same : (in_use : List Row) (one other : ℕ → Type 0) (young : List Addr) → ((a : ℕ) → one a ↔ other a) → ListsYoung in_use one young → ListsYoung in_use other young
lists-same in_use one other young same l = record {
  places = l.places;
  rising = l.rising;
  within = l.within;
  stand = l.stand;
  only = λ a. (λ c. let it = (l.only a).0 c in (it.0, (same a).0 it.1), λ h. (l.only a).1 (h.0, (same a).1 h.1));
}

pub large-same : (one other : ℕ → Type 0) (large : Bits) → ((a : ℕ) → one a ↔ other a) → HasLarge one large → HasLarge other large
large-same one other large same l = record {
  all = l.all;
  only = λ slot within. (λ member. (same _).0 ((l.only slot within).0 member), λ h. (l.only slot within).1 ((same _).1 h));
}

-- what is marked at the end is what is reached
pub reached-all : (cs : List Class) (v : View) (raws : Raws) (s : Lists) (rows : List LargeRow) (roots : List Addr) (slots : List Slot) (none mid start end : State) → CanMark cs v raws s.in_use rows (starts_of roots slots)
    → IsSpace s → AreRows rows → Begins rows roots slots s.in_use none mid start
    → ((raws : Raws) (starts : List ℕ) → CanFollow cs v raws rows start.numbers → Marking cs rows raws starts start → (a : ℕ) → (marked end a ≡ true) ↔ Reached cs rows raws starts a)
    → (a : ℕ) → (marked end a ≡ true) ↔ Reached cs rows raws (starts_of roots slots) a
reached-all cs v raws s rows roots slots none mid start end can space are b follows =
    follows raws (starts_of roots slots) (can-follow cs v raws s rows (starts_of roots slots) start.numbers can space (begun-numbers rows roots slots s.in_use none mid start b))
    (begun cs v raws s.in_use rows roots slots none mid start can are b)
