-- Labels are of earlier lines, and a step adds labels of its own.
use Rattle.std.proofs.Common.{◌≡◌, ◌⊎◌, ℕ, ◌+◌, ◌<◌, inl, inr, List, [], ◌++◌, Some, refl, arith}
use Rattle.class_layout.specs.Placing.{IsIn}
use Rattle.heap_graph.proofs.LaidOut.{all-weaken}
use Rattle.heap_world.specs.declared.command.Command.{Command}
use Rattle.heap_world.specs.Acts.{act, fork_part}
use Rattle.heap_world.specs.Effect.{Effect}
use Rattle.heap_world.specs.World.{Process, World, child_process, labelled, process_after, process_named, step}
use Rattle.heap_world.proofs.Processes.{named_name}
use Rattle.world_laws.specs.Labels.{AddsOwn, AreEarlier, Each, HasEarlier}
use Rattle.world_laws.proofs.Labelling.{labelled_all, labelled_front}
use Rattle.world_laws.proofs.SoundWorlds.{each_more, each_put}
use Rattle.world_laws.proofs.Stepping.{named_in, step_walk}

pub step_earlier : (w : World) (n : ℕ) (c : Command) → AreEarlier n w → AreEarlier (n + 1) (step w n c).world
step_earlier w n c earlier = step_walk w n c (λ s. AreEarlier (n + 1) s.world) (record {
  refusing = λ why left. later;
  frames = later;
  acts = λ q is lives. each_put (HasEarlier (n + 1)) w n q (act q.part c.verb) (after q (act q.part c.verb) is) later;
  forks = λ q child is sealed free done. each_more (HasEarlier (n + 1)) w n q (fork_part q.part) child (after q (fork_part q.part) is) (after q (fork_part q.part) is) later;
  unforked = λ q is sealed full. each_put (HasEarlier (n + 1)) w n q (fork_part q.part) (after q (fork_part q.part) is) later;
})
  where
    later : AreEarlier (n + 1) w
    later q h = all-weaken (λ l. l.line < n) (λ l. l.line < n + 1) (λ l e. omega (arith, e)) q.labels (earlier q h)

    after : (q : Process) (e : Effect) → process_named w.processes c.process ≡ Some q → HasEarlier (n + 1) (process_after n e q)
    after q e is = labelled_all (λ l. l.line < n + 1) n (e.made ++ e.first) q.labels (λ a. omega arith) (later q (named_in w.processes c.process q is))

-- where a process of the world after a step comes from
abbrev ComesFrom : World → ℕ → Command → Process → Type 0
ComesFrom w n c new = (old : Process) × IsIn old w.processes × ((old.name ≡ new.name) ⊎ (old.name ≡ c.process)) × AddsOwn n old new

pub step_own : (w : World) (n : ℕ) (c : Command) (new : Process) → IsIn new (step w n c).world.processes → ComesFrom w n c new
step_own w n c = step_walk w n c (λ s. Each s.world (ComesFrom w n c)) (record {
  refusing = λ why left. stays;
  frames = stays;
  acts = λ q is lives. each_put (ComesFrom w n c) w n q (act q.part c.verb) (after q (act q.part c.verb) is) stays;
  forks = λ q child is sealed free done. each_more (ComesFrom w n c) w n q (fork_part q.part) child (after q (fork_part q.part) is) (after_child q (fork_part q.part) child is) stays;
  unforked = λ q is sealed full. each_put (ComesFrom w n c) w n q (fork_part q.part) (after q (fork_part q.part) is) stays;
})
  where
    stays : Each w (ComesFrom w n c)
    stays q h = (q, h, inl refl, ([], tt, refl))

    adds : (q : Process) (e : Effect) → AddsOwn n q (process_after n e q)
    adds q e = (labelled n (e.made ++ e.first) [], labelled_all (λ l. l.line ≡ n) n (e.made ++ e.first) [] (λ a. refl) tt, labelled_front n (e.made ++ e.first) q.labels)

    after : (q : Process) (e : Effect) → process_named w.processes c.process ≡ Some q → ComesFrom w n c (process_after n e q)
    after q e is = (q, named_in w.processes c.process q is, inl refl, adds q e)

    after_child : (q : Process) (e : Effect) (child : List ℕ) → process_named w.processes c.process ≡ Some q → ComesFrom w n c (child_process (process_after n e q) child)
    after_child q e child is = (q, named_in w.processes c.process q is, inr (named_name w.processes c.process q is), adds q e)
