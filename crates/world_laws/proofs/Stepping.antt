-- The steps of a world, walked once, and the processes after them.
use Rattle.std.proofs.Common.{◌≡◌, ◌⊎◌, ℕ, Bool, true, false, cond, inl, inr, List, [], ◌∷◌, ◌++◌, Option, None, Some, refl, subst}
use Rattle.std.proofs.lemmas.Option.{same_Some, none-some}
use Rattle.class_layout.specs.Names.{same_name}
use Rattle.class_layout.specs.Placing.{IsIn}
use Rattle.heap_world.specs.declared.command.Command.{Command}
use Rattle.heap_world.specs.declared.command.Verb.{Verb}
use Rattle.heap_world.specs.declared.command.Verb.TheVariants as verb
use Rattle.heap_world.specs.declared.reply.Refusal.{Refusal}
use Rattle.heap_world.specs.declared.reply.Reply.TheVariants as reply
use Rattle.heap_world.specs.Acts.{act, fork_part}
use Rattle.heap_world.specs.World.{Process, Stepped, World, fork_done, fork_if, fork_named, frame_count, is_done, is_taken, process_after, process_named, put_if, refused, step, step_found, step_live, step_process, stepped, with_child}
use Rattle.heap_world.proofs.Processes.{put}
use Rattle.world_laws.specs.Effects.{is_full}

-- the kinds of steps
pub record Steps (w : World) (n : ℕ) (c : Command) (P : Stepped → Type 0) : Type 0 where
  pub refusing : (why : Refusal) → is_full why ≡ false → P (refused w why)
  pub frames : P (record { world = w; reply = reply.Frames (frame_count w); allowed = 16 })
  pub acts : (q : Process) → process_named w.processes c.process ≡ Some q → q.part.exited ≡ false → P (stepped w n q (act q.part c.verb))
  pub forks : (q : Process) (child : List ℕ) → process_named w.processes c.process ≡ Some q → q.part.graph.sealed ≡ true → is_taken w child ≡ false → is_done (fork_part q.part).reply ≡ true
      → P (with_child (stepped w n q (fork_part q.part)) (process_after n (fork_part q.part) q) child)
  pub unforked : (q : Process) → process_named w.processes c.process ≡ Some q → q.part.graph.sealed ≡ true → is_done (fork_part q.part).reply ≡ false → P (stepped w n q (fork_part q.part))

pub step_walk : (w : World) (n : ℕ) (c : Command) (P : Stepped → Type 0) → Steps w n c P → P (step w n c)
step_walk w n c P walks = found (process_named w.processes c.process) refl
  where
    done : (b : Bool) (q : Process) (child : List ℕ) → process_named w.processes c.process ≡ Some q → q.part.graph.sealed ≡ true → is_taken w child ≡ false → is_done (fork_part q.part).reply ≡ b
        → P (fork_done b w n q child (fork_part q.part))
    done true q child is sealed free e = walks.forks q child is sealed free e
    done false q child is sealed free e = walks.unforked q is sealed e

    named : (b : Bool) (q : Process) (child : List ℕ) → process_named w.processes c.process ≡ Some q → q.part.graph.sealed ≡ true → is_taken w child ≡ b → P (fork_named b w n q child)
    named true q child is sealed free = walks.refusing _ refl
    named false q child is sealed free = done (is_done (fork_part q.part).reply) q child is sealed free refl

    forked : (b : Bool) (q : Process) (child : List ℕ) → process_named w.processes c.process ≡ Some q → q.part.graph.sealed ≡ b → P (fork_if b w n q child)
    forked true q child is e = named (is_taken w child) q child is e refl
    forked false q child is e = walks.refusing _ refl

    process : (v : Verb) (q : Process) → process_named w.processes c.process ≡ Some q → P (stepped w n q (act q.part v)) → P (step_process w n q v)
    process (verb.Fork child) q is put = forked q.part.graph.sealed q child is refl
    process verb.Frames q is put = walks.frames
    process v q is put = put

    live : (b : Bool) (q : Process) → process_named w.processes c.process ≡ Some q → q.part.exited ≡ b → P (step_live b w n q c.verb)
    live true q is e = walks.refusing _ refl
    live false q is e = process c.verb q is (walks.acts q is e)

    found : (o : Option Process) → process_named w.processes c.process ≡ o → P (step_found w n o c.verb)
    found None is = walks.refusing _ refl
    found (Some q) is = live q.part.exited q is refl

-- a process that is found is one of them
pub named_in : (ps : List Process) (name : List ℕ) (q : Process) → process_named ps name ≡ Some q → IsIn q ps
named_in [] name q e = absurd (none-some q e)
named_in (p ∷ ps) name q e = by (same_name p.name name) e (named_in ps name q)
  where
    by : (b : Bool) → cond b (Some p) (process_named ps name) ≡ Some q → (process_named ps name ≡ Some q → IsIn q ps) → IsIn q (p ∷ ps)
    by true e rest = inl (same_Some p q e)
    by false e rest = inr (rest e)

-- after a put each process is the one that was put, or was there under another name
pub in_put : (ps : List Process) (new r : Process) → IsIn r (put new ps) → (new ≡ r) ⊎ (IsIn r ps × (same_name r.name new.name ≡ false))
in_put [] new r h = absurd h
in_put (p ∷ ps) new r (inl e) = by (same_name p.name new.name) refl e
  where
    by : (b : Bool) → same_name p.name new.name ≡ b → put_if b new p ≡ r → (new ≡ r) ⊎ (IsIn r (p ∷ ps) × (same_name r.name new.name ≡ false))
    by true d e = inl e
    by false d e = inr (inl e, subst (λ x. same_name x.name new.name ≡ false) e d)
in_put (p ∷ ps) new r (inr h) = elim (in_put ps new r h) [ inl e ↦ inl e | inr x ↦ inr (inr x.0, x.1) ]

-- with one more, each is it or was there
pub in_more : (ps : List Process) (new r : Process) → IsIn r (ps ++ new ∷ []) → IsIn r ps ⊎ (new ≡ r)
in_more [] new r (inl e) = inr e
in_more [] new r (inr h) = absurd h
in_more (p ∷ ps) new r (inl e) = inl (inl e)
in_more (p ∷ ps) new r (inr h) = elim (in_more ps new r h) [ inl x ↦ inl (inr x) | inr e ↦ inr e ]
