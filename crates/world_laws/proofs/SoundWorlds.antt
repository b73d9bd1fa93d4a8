-- Worlds whose names are apart and whose processes are sound: what a step leaves.
use Rattle.std.proofs.Common.{◌≡◌, ℕ, ◌≤◌, Bool, true, false, ◌||◌, inl, inr, List, [], ◌∷◌, ◌++◌, refl, sym, subst, ap, ◌∙◌}
use Rattle.model_numbers.specs.Numbers.{most_regions, number_limit}
use Rattle.class_layout.specs.Names.{same_name}
use Rattle.class_layout.proofs.Uniqueness.{names-same}
use Rattle.heap_world.specs.declared.command.Command.{Command}
use Rattle.heap_world.specs.Acts.{act, fork_part}
use Rattle.heap_world.specs.Effect.{Effect}
use Rattle.heap_world.specs.Commands.{HasFewFields}
use Rattle.heap_world.specs.Sound.{IsSound}
use Rattle.heap_world.specs.World.{Process, World, child_process, first_world, process_after, put_if, step, stepped, with_child}
use Rattle.heap_world.proofs.Processes.{apart-symm, or_false, put, taken, taken-more, taken-put}
use Rattle.heap_world.proofs.SoundActs.{act_sound, child_sound, first_sound, fork_sound}
use Rattle.world_laws.specs.Labels.{Each}
use Rattle.world_laws.specs.Worlds.{AreNamedApart, IsSoundWorld}
use Rattle.world_laws.proofs.Stepping.{in_more, in_put, named_in, step_walk}

-- a put, and one more process whose name isn't taken, leave names apart
apart_put : (ps : List Process) (new : Process) → AreNamedApart ps → AreNamedApart (put new ps)
apart_put [] new apart = tt
apart_put (p ∷ ps) new apart = by (same_name p.name new.name) refl (apart_put ps new apart.1)
  where
    by : (b : Bool) → same_name p.name new.name ≡ b → AreNamedApart (put new ps) → AreNamedApart (put_if b new p ∷ put new ps)
    by true d rest = (taken-put ps new.name new ∙ ap (taken ps) (sym (names-same p.name new.name d)) ∙ apart.0, rest)
    by false d rest = (taken-put ps p.name new ∙ apart.0, rest)

apart_more : (ps : List Process) (new : Process) → AreNamedApart ps → taken ps new.name ≡ false → AreNamedApart (ps ++ new ∷ [])
apart_more [] new apart free = (refl, tt)
apart_more (p ∷ ps) new apart free =
    let parts = or_false (same_name p.name new.name) (taken ps new.name) free in
    let other : (taken ps p.name || same_name new.name p.name) ≡ false = ap (λ b. b || same_name new.name p.name) apart.0 ∙ apart-symm p.name new.name parts.0 in
    (taken-more ps p.name new ∙ other, apart_more ps new apart.1 parts.1)

-- what holds of each process holds of each after a put, and with one more
pub each_put : (P : Process → Type 0) (w : World) (n : ℕ) (q : Process) (e : Effect) → P (process_after n e q) → Each w P → Each (stepped w n q e).world P
each_put P w n q e here each r h = elim (in_put w.processes (process_after n e q) r h) [ inl same ↦ subst P same here | inr x ↦ each r x.0 ]

pub each_more : (P : Process → Type 0) (w : World) (n : ℕ) (q : Process) (e : Effect) (child : List ℕ) → P (process_after n e q) → P (child_process (process_after n e q) child) → Each w P
    → Each (with_child (stepped w n q e) (process_after n e q) child).world P
each_more P w n q e child here new each r h =
    elim (in_more (stepped w n q e).world.processes (child_process (process_after n e q) child) r h) [ inl x ↦ each_put P w n q e here each r x | inr same ↦ subst P same new ]

pub step_sound : (w : World) (n : ℕ) (c : Command) → HasFewFields c.verb → IsSoundWorld w → IsSoundWorld (step w n c).world
step_sound w n c few sound = step_walk w n c (λ s. IsSoundWorld s.world) (record {
  refusing = λ why left. sound;
  frames = sound;
  acts = λ q is lives. put_sound q (act q.part c.verb) (act_sound q.part c.verb few (sound.sound q (named_in w.processes c.process q is)));
  forks = λ q child is sealed free done.
      let after : IsSound (fork_part q.part).part = fork_sound q.part sealed (sound.sound q (named_in w.processes c.process q is)) in
      record {
        apart = apart_more (put (process_after n (fork_part q.part) q) w.processes) (child_process (process_after n (fork_part q.part) q) child)
            (apart_put w.processes (process_after n (fork_part q.part) q) sound.apart) (taken-put w.processes child (process_after n (fork_part q.part) q) ∙ free);
        sound = each_more (λ r. IsSound r.part) w n q (fork_part q.part) child after (child_sound (fork_part q.part).part after) sound.sound;
      };
  unforked = λ q is sealed full. put_sound q (fork_part q.part) (fork_sound q.part sealed (sound.sound q (named_in w.processes c.process q is)));
})
  where
    put_sound : (q : Process) (e : Effect) → IsSound e.part → IsSoundWorld (stepped w n q e).world
    put_sound q e here = record { apart = apart_put w.processes (process_after n e q) sound.apart; sound = each_put (λ r. IsSound r.part) w n q e here sound.sound }

pub first_world_sound : (budget number : ℕ) → 1 ≤ budget → budget ≤ most_regions → number ≤ number_limit → IsSoundWorld (first_world budget number)
first_world_sound budget number least most below = record { apart = (refl, tt); sound = each }
  where
    each : Each (first_world budget number) (λ q. IsSound q.part)
    each q (inl same) = subst (λ (r : Process). IsSound r.part) same (first_sound budget number least most below)
    each q (inr none) = absurd none
