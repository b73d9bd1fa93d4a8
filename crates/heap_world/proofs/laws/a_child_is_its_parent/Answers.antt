use Rattle.std.proofs.Common.{◌≡◌, ℕ, Bool, true, false, List, Option, None, Some, IfSome, refl, ap, sym, subst}
use Rattle.std.proofs.lemmas.Bool.{both_ways}
use Rattle.heap_world.specs.declared.command.Verb.TheVariants as verb
use Rattle.heap_world.specs.declared.reply.Reply.TheVariants as reply
use Rattle.heap_world.specs.Acts.{fork_part}
use Rattle.heap_world.specs.Effect.{Effect}
use Rattle.heap_world.specs.World.{Process, World, Stepped, child_process, process_named, is_taken, is_done, fork_done, fork_named, fork_if, step_live, step_found}
use Rattle.heap_world.proofs.Steps.{parent_named, child_named}
use Rattle.heap_world.proofs.laws.a_child_is_its_parent.Goals as goal

module _ (w : World) (n : ℕ) (parent child : List ℕ) where
  -- a fork that is done leaves a parent and its child
  abbrev IsForked : Stepped → Type 0
  IsForked s = s.reply ≡ reply.Done → IfSome (process_named s.world.processes parent) (λ q. process_named s.world.processes child ≡ Some (child_process q child))

  found : (o : Option Process) → process_named w.processes parent ≡ o → IsForked (step_found w n o (verb.Fork child))
  found None is = λ h. cc
  found (Some q) is = live q.part.exited
    where
      forked : is_taken w child ≡ false → (e : Effect) (d : Bool) → is_done e.reply ≡ d → IsForked (fork_done d w n q child e)
      forked free e true d =
          λ _. subst (λ o. IfSome o (λ p. process_named (fork_done true w n q child e).world.processes child ≡ Some (child_process p child))) (sym (parent_named w n q e parent child is)) (child_named w n q e child free)
      forked free e false d = λ h. absurd (both_ways (is_done e.reply) d (ap is_done h))

      named : (t : Bool) → is_taken w child ≡ t → IsForked (fork_named t w n q child)
      named true t = λ h. cc
      named false t = forked t (fork_part q.part) (is_done (fork_part q.part).reply) refl

      sealed : (s : Bool) → IsForked (fork_if s w n q child)
      sealed true = named (is_taken w child) refl
      sealed false = λ h. cc

      live : (x : Bool) → IsForked (step_live x w n q (verb.Fork child))
      live true = λ h. cc
      live false = sealed q.part.graph.sealed

pub returns : goal.returns
returns c w line parent child done = found w line parent child (process_named w.processes parent) refl done
