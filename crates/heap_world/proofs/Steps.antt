-- A step of the world: it changes nothing, puts a process, or puts one and adds its child.
use Rattle.std.proofs.Common.{◌≡◌, ℕ, Bool, true, false, ◌||◌, List, Option, None, Some, refl, ap, ◌∙◌, sym}
use Rattle.class_layout.specs.Names.{same_name}
use Rattle.heap_world.specs.declared.command.Command.{Command}
use Rattle.heap_world.specs.declared.command.Verb.{Verb}
use Rattle.heap_world.specs.declared.command.Verb.TheVariants as verb
use Rattle.heap_world.specs.Effect.{Effect}
use Rattle.heap_world.specs.Acts.{act, fork_part}
use Rattle.heap_world.specs.World.{Process, World, process_named, is_taken, process_after, stepped, child_process, with_child, is_done, fork_done, fork_named, fork_if, step_process, step_live, step_found, step}
use Rattle.heap_world.proofs.Processes.{or_false, named_name, named-put, named-put_other, taken-put, named-more, named-new, taken-more}

module _ (P : World → Type 0) (w : World) (n : ℕ) (c : Command) (same : P w) where
  module _
      (after_put : (q : Process) (e : Effect) → process_named w.processes c.process ≡ Some q → P (stepped w n q e).world)
      (after_fork : (q : Process) (e : Effect) (child : List ℕ) → process_named w.processes c.process ≡ Some q → P (with_child (stepped w n q e) (process_after n e q) child).world) where
    -- what holds of the world as it was, after a put and after a fork holds after a step
    pub after_step : P (step w n c).world
    after_step = found (process_named w.processes c.process) refl
      where
        forked : (d : Bool) (q : Process) (child : List ℕ) (e : Effect) → process_named w.processes c.process ≡ Some q → P (fork_done d w n q child e).world
        forked true q child e is = after_fork q e child is
        forked false q child e is = after_put q e is

        named : (t : Bool) (q : Process) (child : List ℕ) → process_named w.processes c.process ≡ Some q → P (fork_named t w n q child).world
        named true q child is = same
        named false q child is = forked (is_done (fork_part q.part).reply) q child (fork_part q.part) is

        sealed : (s : Bool) (q : Process) (child : List ℕ) → process_named w.processes c.process ≡ Some q → P (fork_if s w n q child).world
        sealed true q child is = named (is_taken w child) q child is
        sealed false q child is = same

        process : (v : Verb) (q : Process) → process_named w.processes c.process ≡ Some q → P (step_process w n q v).world
        process (verb.Fork child) q is = sealed q.part.graph.sealed q child is
        process verb.Frames q is = same
        process v q is = after_put q (act q.part v) is

        live : (x : Bool) (q : Process) → process_named w.processes c.process ≡ Some q → P (step_live x w n q c.verb).world
        live true q is = same
        live false q is = process c.verb q is

        found : (o : Option Process) → process_named w.processes c.process ≡ o → P (step_found w n o c.verb).world
        found None is = same
        found (Some q) is = live q.part.exited q is

module _ (w : World) (n : ℕ) (q : Process) (e : Effect) where
  -- the process that a command changes
  pub stepped_named : (name : List ℕ) → process_named w.processes name ≡ Some q → process_named (stepped w n q e).world.processes name ≡ Some (process_after n e q)
  stepped_named name is = named-put w.processes name q (process_after n e q) is (named_name w.processes name q is)

  -- the parent after a fork
  pub parent_named : (name child : List ℕ) → process_named w.processes name ≡ Some q → process_named (with_child (stepped w n q e) (process_after n e q) child).world.processes name ≡ Some (process_after n e q)
  parent_named name child is = named-more (stepped w n q e).world.processes name (process_after n e q) (child_process (process_after n e q) child) (stepped_named name is)

  -- its child
  pub child_named : (child : List ℕ) → is_taken w child ≡ false → process_named (with_child (stepped w n q e) (process_after n e q) child).world.processes child ≡ Some (child_process (process_after n e q) child)
  child_named child free = named-new (stepped w n q e).world.processes (child_process (process_after n e q) child) (taken-put w.processes child (process_after n e q) ∙ free)

  -- the names that are taken after a command, and after a fork
  pub stepped_taken : (name : List ℕ) → is_taken (stepped w n q e).world name ≡ is_taken w name
  stepped_taken name = taken-put w.processes name (process_after n e q)

  pub forked_taken : (name child : List ℕ) → is_taken (with_child (stepped w n q e) (process_after n e q) child).world name ≡ (is_taken w name || same_name child name)
  forked_taken name child = taken-more (stepped w n q e).world.processes name (child_process (process_after n e q) child) ∙ ap (λ b. b || same_name child name) (stepped_taken name)

-- a step leaves what another name finds
pub step_named : (w : World) (n : ℕ) (c : Command) (name : List ℕ) (r : Process) → same_name c.process name ≡ false → process_named w.processes name ≡ Some r → process_named (step w n c).world.processes name ≡ Some r
step_named w n c name r other is = after_step (λ x. process_named x.processes name ≡ Some r) w n c is after_put after_fork
  where
    after_put : (q : Process) (e : Effect) → process_named w.processes c.process ≡ Some q → process_named (stepped w n q e).world.processes name ≡ Some r
    after_put q e found =
        let apart : same_name q.name name ≡ false = ap (λ m. same_name m name) (named_name w.processes c.process q found) ∙ other in
        named-put_other w.processes name (process_after n e q) apart ∙ is

    after_fork : (q : Process) (e : Effect) (child : List ℕ) → process_named w.processes c.process ≡ Some q → process_named (with_child (stepped w n q e) (process_after n e q) child).world.processes name ≡ Some r
    after_fork q e child found = named-more (stepped w n q e).world.processes name r (child_process (process_after n e q) child) (after_put q e found)

-- a name that is not taken after a step was not before
pub step_taken : (w : World) (n : ℕ) (c : Command) (name : List ℕ) → is_taken (step w n c).world name ≡ false → is_taken w name ≡ false
step_taken w n c name = after_step (λ x. is_taken x name ≡ false → is_taken w name ≡ false) w n c (λ h. h) after_put after_fork
  where
    after_put : (q : Process) (e : Effect) → process_named w.processes c.process ≡ Some q → is_taken (stepped w n q e).world name ≡ false → is_taken w name ≡ false
    after_put q e found h = sym (stepped_taken w n q e name) ∙ h

    after_fork : (q : Process) (e : Effect) (child : List ℕ) → process_named w.processes c.process ≡ Some q → is_taken (with_child (stepped w n q e) (process_after n e q) child).world name ≡ false → is_taken w name ≡ false
    after_fork q e child found h = (or_false (is_taken w name) (same_name child name) (sym (forked_taken w n q e name child) ∙ h)).0
