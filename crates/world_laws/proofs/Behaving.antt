-- How effects behave, as the laws of worlds need it.
use Rattle.std.proofs.Common.{◌≡◌, ℕ, ◌+◌, ◌<◌, Bool, true, false, true≢false, ◌&&◌, inl, inr, List, [], ◌∷◌, ◌++◌, nat_eq, nat_lt, refl, sym, ap, ◌∙◌, eq-eqb, arith}
use Rattle.std.proofs.lemmas.Bool.{and_from, and_parts, eqb-true, lt-ltb, or_cases, or_left, or_right}
use Rattle.model_numbers.specs.Numbers.{page_bytes}
use Rattle.class_layout.specs.ClassList.{Class}
use Rattle.class_layout.specs.Placing.{IsIn}
use Rattle.heap_graph.specs.declared.names.Place.{Place}
use Rattle.heap_graph.specs.declared.names.Place.TheVariants as place
use Rattle.heap_graph.specs.Graph.{Graph, Object}
use Rattle.heap_graph.specs.Sizes.{parts_for, unrounded}
use Rattle.heap_world.specs.declared.command.Verb.{Verb}
use Rattle.heap_world.specs.declared.names.PageName.{PageName}
use Rattle.heap_world.specs.declared.names.PageName.TheVariants.{Image, Zygote, Large}
use Rattle.heap_world.specs.Acts.{act, fork_part}
use Rattle.heap_world.specs.Effect.{Effect}
use Rattle.heap_graph.specs.Formed.{AreRising, IsFormed}
use Rattle.heap_world.specs.Commands.{HasFewFields}
use Rattle.heap_world.specs.Pages.{is_touched}
use Rattle.heap_world.specs.Part.{Part}
use Rattle.world_laws.specs.Effects.{KeepsNames, MakesNew, TouchesFirst}
use Rattle.world_laws.specs.Named.{has_page, is_named, is_paged, is_promoted, is_waiting, stands, waits}
use Rattle.world_laws.proofs.Changed.{fork_keeps_names, keeps_names}
use Rattle.world_laws.proofs.Fresh.{fork_makes_new, makes_new}
use Rattle.world_laws.proofs.LargeKept.{LargeFrom, act_large, fork_large}
use Rattle.world_laws.proofs.PageLists.{among_has, in_either}
use Rattle.world_laws.proofs.StandingLists.{below_none, named_both, none_from}
use Rattle.world_laws.proofs.Touching.{TouchedFrom, fork_first, fork_touched_from, touched_from, touches_first}

pub record Behaves (p : Part) (e : Effect) : Type 0 where
  pub formed : IsFormed p.graph
  pub names : KeepsNames p e
  pub new : MakesNew p e
  pub first : TouchesFirst p e
  pub touched : TouchedFrom p e
  pub large : LargeFrom p.graph e.part.graph e.made

pub behaves_act : (p : Part) (v : Verb) → HasFewFields v → IsFormed p.graph → Behaves p (act p v)
behaves_act p v few formed = record {
  formed = formed;
  names = keeps_names p v few formed;
  new = makes_new p v formed;
  first = touches_first p formed v;
  touched = touched_from p v;
  large = act_large p formed v few;
}

pub behaves_fork : (p : Part) → p.graph.sealed ≡ true → IsFormed p.graph → Behaves p (fork_part p)
behaves_fork p sealed formed = record {
  formed = formed;
  names = fork_keeps_names p sealed formed;
  new = fork_makes_new p sealed formed;
  first = fork_first p formed;
  touched = fork_touched_from p;
  large = fork_large p formed;
}

-- an object has its pages
pub has_own : (S : Place → Bool) (cs : List Class) (os : List Object) (o : Object) (k : ℕ) → IsIn o os → S o.place ≡ true → k < parts_for page_bytes (unrounded cs o.shape) → is_paged S cs os o.number k ≡ true
has_own S cs [] o k there at less = absurd there
has_own S cs (x ∷ os) o k (inl e) at less =
    let within : Bool = nat_lt k (parts_for page_bytes (unrounded cs o.shape)) in
    let own : has_page S cs o.number k o ≡ true =
    and_from (nat_eq o.number o.number) (S o.place && within) (eq-eqb o.number o.number refl) (and_from (S o.place) within at (lt-ltb k (parts_for page_bytes (unrounded cs o.shape)) less)) in
    or_left (has_page S cs o.number k x) (is_paged S cs os o.number k) (ap (has_page S cs o.number k) e ∙ own)
has_own S cs (x ∷ os) o k (inr there) at less = or_right (has_page S cs o.number k x) (is_paged S cs os o.number k) (has_own S cs os o k there at less)

-- a number is of an object in one place
one_place : (S R : Place → Bool) → ((q : Place) → S q ≡ true → R q ≡ true → ⊥) → (cs : List Class) (low next n k : ℕ) (os : List Object) → AreRising low next os
    → is_paged S cs os n k ≡ true → is_paged R cs os n k ≡ true → ⊥
one_place S R apart cs low next n k [] rising s r = true≢false (sym s)
one_place S R apart cs low next n k (o ∷ os) rising s r =
    let within : Bool = nat_lt k (parts_for page_bytes (unrounded cs o.shape)) in
    elim (or_cases (has_page S cs n k o) (is_paged S cs os n k) s) [
      | inl here ↦
          let sp = and_parts (nat_eq o.number n) (S o.place && within) here in
          elim (or_cases (has_page R cs n k o) (is_paged R cs os n k) r) [
            | inl too ↦ apart o.place (and_parts (S o.place) within sp.1).0 (and_parts (R o.place) within (and_parts (nat_eq o.number n) (R o.place && within) too).1).0
            | inr later ↦ true≢false (sym later ∙ below_none R cs (o.number + 1) next n k os (omega (arith, eqb-true o.number n sp.0)) rising.1)
          ]
      | inr first ↦ elim (or_cases (has_page R cs n k o) (is_paged R cs os n k) r) [
        | inl here ↦ true≢false (sym first ∙ below_none S cs (o.number + 1) next n k os (omega (arith, eqb-true o.number n (and_parts (nat_eq o.number n) (R o.place && within) here).0)) rising.1)
        | inr later ↦ one_place S R apart cs (o.number + 1) next n k os rising.1 first later
      ]
    ]

two_places : (q : Place) → is_waiting q ≡ true → is_promoted q ≡ true → ⊥
two_places (place.Image spot) w s = true≢false (sym w)
two_places (place.Zygote spot) w s = true≢false (sym w)
two_places place.Young w s = true≢false (sym w)
two_places place.Large w s = true≢false (sym s)
two_places place.Promoted w s = true≢false (sym w)

-- what waits doesn't stand
waits_apart : (g : Graph) (a : PageName) → IsFormed g → waits g a ≡ true → stands g a ≡ true → ⊥
waits_apart g (Image k) formed w s = true≢false (sym w)
waits_apart g (Zygote k) formed w s = true≢false (sym w)
waits_apart g (Large n k) formed w s = one_place is_waiting is_promoted two_places g.classes 0 g.next n k g.objects formed.numbers w s

-- a page that had a label is not made, and one that waits isn't touched first
pub named_unmade : (p : Part) (e : Effect) → Behaves p e → (a : PageName) → is_named p.graph a ≡ true → is_touched e.made a ≡ false
named_unmade p e b a named = none_from (is_touched e.made a) (λ made. true≢false (sym named ∙ b.new.was_none a made))

pub waits_unchanged : (p : Part) (e : Effect) → Behaves p e → (a : PageName) → waits p.graph a ≡ true → is_touched (e.made ++ e.first) a ≡ false
waits_unchanged p e b a w = none_from (is_touched (e.made ++ e.first) a) (λ h. elim (in_either e.made e.first a h) [
  | inl made ↦ true≢false (sym made ∙ named_unmade p e b a (named_both p.graph a ∙ or_right (stands p.graph a) (waits p.graph a) w))
  | inr first ↦ waits_apart p.graph a b.formed w (among_has (λ c. (stands p.graph c ≡ true) × (is_touched p.touched c ≡ false)) e.first a b.first first).0
])
