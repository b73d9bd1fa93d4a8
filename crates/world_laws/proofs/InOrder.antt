-- All laws of worlds at once, over a step and over a script.
use Rattle.std.proofs.Common.{◌≡◌, ℕ, ◌+◌, ◌<◌, ◌≤◌, true, true≢false, inl, inr, List, [], ◌∷◌, sym, ap, subst, ◌∙◌, arith}
use Rattle.std.specs.Prelude.{codes}
use Rattle.std.proofs.lemmas.Bool.{ltb-true}
use Rattle.model_numbers.specs.Numbers.{most_regions, number_limit}
use Rattle.class_layout.specs.Names.{same_name}
use Rattle.class_layout.proofs.Uniqueness.{same_name-refl}
use Rattle.heap_graph.specs.Fork.{child_of}
use Rattle.heap_graph.proofs.LaidOut.{all-weaken}
use Rattle.heap_world.specs.declared.command.Command.{Command}
use Rattle.heap_world.specs.declared.command.Verb.{Verb}
use Rattle.heap_world.specs.declared.names.PageName.TheVariants.{Image, Zygote, Large}
use Rattle.heap_world.specs.Acts.{act, fork_part}
use Rattle.heap_world.specs.Commands.{HasFewFields}
use Rattle.heap_world.specs.Part.{Part, first_part}
use Rattle.heap_world.specs.Run.{Line, world_after}
use Rattle.heap_world.specs.Sound.{IsSound}
use Rattle.heap_world.specs.World.{Process, World, first_world, step}
use Rattle.world_laws.specs.Labels.{Each, EachTwo, IsLabelled}
use Rattle.world_laws.specs.Outward.{NotesWithin, TouchesOutward}
use Rattle.world_laws.specs.Worlds.{AreLines, IsInOrder, IsSoundWorld, next_line}
use Rattle.world_laws.proofs.Earlier.{step_earlier}
use Rattle.world_laws.proofs.LabelledPages.{step_labelled, step_one_line}
use Rattle.world_laws.proofs.NotedCards.{act_notes, fork_notes}
use Rattle.world_laws.proofs.OutwardPages.{act_touches, fork_touches}
use Rattle.world_laws.proofs.Owning.{step_like_large, step_own_lines}
use Rattle.world_laws.proofs.SoundWorlds.{each_more, each_put, first_world_sound, step_sound}
use Rattle.world_laws.proofs.Stepping.{named_in, step_walk}

-- a property of parts that commands and forks keep, over a step
parts_step : (P : Part → Type 0) → ((p : Part) (v : Verb) → HasFewFields v → IsSound p → P p → P (act p v).part) → ((p : Part) → p.graph.sealed ≡ true → IsSound p → P p → P (fork_part p).part)
    → ((p : Part) → P p → P (record p { graph = child_of p.graph })) → (w : World) (n : ℕ) (c : Command) → HasFewFields c.verb → IsSoundWorld w → Each w (λ q. P q.part) → Each (step w n c).world (λ q. P q.part)
parts_step P of_act of_fork of_child w n c few sound each = step_walk w n c (λ s. Each s.world (λ q. P q.part)) (record {
  refusing = λ why left. each;
  frames = each;
  acts = λ q is lives. let there = named_in w.processes c.process q is in each_put (λ r. P r.part) w n q (act q.part c.verb) (of_act q.part c.verb few (sound.sound q there) (each q there)) each;
  forks = λ q child is sealed free done.
      let there = named_in w.processes c.process q is in
      let after : P (fork_part q.part).part = of_fork q.part sealed (sound.sound q there) (each q there) in
      each_more (λ r. P r.part) w n q (fork_part q.part) child after (of_child (fork_part q.part).part after) each;
  unforked = λ q is sealed full. let there = named_in w.processes c.process q is in each_put (λ r. P r.part) w n q (fork_part q.part) (of_fork q.part sealed (sound.sound q there) (each q there)) each;
})

pub step_in_order : (w : World) (n : ℕ) (c : Command) → HasFewFields c.verb → IsInOrder n w → IsInOrder (n + 1) (step w n c).world
step_in_order w n c few order = record {
  sound = step_sound w n c few order.sound;
  earlier = step_earlier w n c order.earlier;
  labelled = step_labelled w n c few order.sound order.labelled;
  one_line = step_one_line w n c few order.sound order.one_line;
  own_lines = step_own_lines w n c few order.sound order.earlier order.own_lines;
  like_large = step_like_large w n c few order.sound order.earlier order.like_large;
  outward = parts_step TouchesOutward act_touches fork_touches (λ p h. h) w n c few order.sound order.outward;
  noted = parts_step NotesWithin (λ p v few sound notes. act_notes p sound notes v few) (λ p sealed sound notes. fork_notes p sound notes sealed) (λ p notes. record { stored = notes.stored; held = notes.held }) w n c few order.sound order.noted;
}

-- the world that a script begins with
module _ (budget number : ℕ) where
  abbrev only : Process
  only = record { name = codes "zygote"; part = first_part budget number; labels = [] }

  each_first : (P : Process → Type 0) → P only → Each (first_world budget number) P
  each_first P h q (inl e) = subst P e h
  each_first P h q (inr none) = absurd none

  two_first : (R : Process → Process → Type 0) → EachTwo (first_world budget number) R
  two_first R q r (inl d) (inl e) apart =
      absurd (true≢false (sym (same_name-refl only.name) ∙ ap (λ (x : Process). same_name only.name x.name) e ∙ ap (λ (x : Process). same_name x.name r.name) d ∙ apart))
  two_first R q r (inl d) (inr none) apart = absurd none
  two_first R q r (inr none) there apart = absurd none

  none_named : IsLabelled only
  none_named (Image k) e = absurd (omega (arith, ltb-true k 0 e))
  none_named (Zygote k) e = absurd (omega (arith, ltb-true k 0 e))
  none_named (Large n k) e = absurd (true≢false (sym e))

  pub first_in_order : (line : ℕ) → 1 ≤ budget → budget ≤ most_regions → number ≤ number_limit → IsInOrder line (first_world budget number)
  first_in_order line least most below = record {
    sound = first_world_sound budget number least most below;
    earlier = each_first _ tt;
    labelled = each_first _ none_named;
    one_line = each_first _ (λ o there. absurd there);
    own_lines = two_first _;
    like_large = two_first _;
    outward = each_first (λ q. TouchesOutward q.part) (λ o s there. absurd there);
    noted = each_first (λ q. NotesWithin q.part) (record { stored = tt; held = tt });
  }

-- before a later line
pub later_line : (n m : ℕ) (w : World) → n ≤ m → IsInOrder n w → IsInOrder m w
later_line n m w le order = record {
  sound = order.sound;
  earlier = λ q there. all-weaken (λ l. l.line < n) (λ l. l.line < m) (λ l less. omega (arith, less, le)) q.labels (order.earlier q there);
  labelled = order.labelled;
  one_line = order.one_line;
  own_lines = order.own_lines;
  like_large = order.like_large;
  outward = order.outward;
  noted = order.noted;
}

script_in_order : (n : ℕ) (w : World) (ls : List Line) → AreLines n ls → IsInOrder n w → IsInOrder (next_line n ls) (world_after w ls)
script_in_order n w [] lines order = order
script_in_order n w (l ∷ ls) lines order = script_in_order (l.number + 1) (step w l.number l.command).world ls lines.2 (step_in_order w l.number l.command lines.1 (later_line n l.number w lines.0 order))

pub run_in_order : (budget number line : ℕ) (ls : List Line) → 1 ≤ budget → budget ≤ most_regions → number ≤ number_limit → AreLines line ls → IsInOrder (next_line line ls) (world_after (first_world budget number) ls)
run_in_order budget number line ls least most below lines = script_in_order line (first_world budget number) ls lines (first_in_order budget number line least most below)
