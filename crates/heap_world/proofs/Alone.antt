-- Two worlds in which a process is the same, and a line of its own in both.
use Rattle.std.proofs.Common.{◌≡◌, ℕ, Bool, true, false, ◌||◌, List, Some, Option, refl, sym, ap, ◌∙◌, subst}
use Rattle.std.proofs.lemmas.Bool.{both_ways}
use Rattle.class_layout.specs.Names.{same_name}
use Rattle.heap_world.specs.declared.command.Verb.{Verb}
use Rattle.heap_world.specs.declared.command.Command.{Command}
use Rattle.heap_world.specs.declared.names.Label.{Label}
use Rattle.heap_world.specs.declared.command.Verb.TheVariants as verb
use Rattle.heap_world.specs.Effect.{Effect}
use Rattle.heap_world.specs.Acts.{act, fork_part}
use Rattle.heap_world.specs.Isolation.{answer_unless, is_frames, refuses_name}
use Rattle.heap_world.specs.World.{Process, World, Stepped, process_named, is_taken, process_after, stepped, child_process, is_done, fork_done, fork_named, fork_if, step_process, step_live, step_found, step}
use Rattle.heap_world.proofs.Processes.{or_false}
use Rattle.heap_world.proofs.Steps.{stepped_named, parent_named, child_named, stepped_taken, forked_taken, step_named, step_taken}

-- a process stands in two worlds with the same part, and the second world takes no name that the first doesn't
pub record Follows (w a : World) (name : List ℕ) : Type 0 where
  pub here : Process
  pub there : Process
  pub here_is : process_named w.processes name ≡ Some here
  pub there_is : process_named a.processes name ≡ Some there
  pub part : here.part ≡ there.part
  pub names : (other : List ℕ) → is_taken w other ≡ false → is_taken a other ≡ false

-- the child of a fork that is done
abbrev pub OfChild : Verb → Bool → (List ℕ → Type 0) → Type 0
OfChild (verb.Fork child) true P = P child
OfChild v d P = Unit {0}

-- a line that isn't done makes no child
no_child : (v : Verb) (P : List ℕ → Type 0) → OfChild v false P
no_child (verb.Fork child) P = tt
no_child v P = tt

-- two worlds answer the same, unless frames are counted, and the process stays the same in both, its child too
pub record IsAlike (n : ℕ) (v : Verb) (name : List ℕ) (s t : Stepped) : Type 0 where
  pub answer : answer_unless (is_frames v) n s.reply ≡ answer_unless (is_frames v) n t.reply
  pub follows : Follows s.world t.world name
  pub child : OfChild v (is_done s.reply) (Follows s.world t.world)

-- a line for another process
pub follows_other : (w a : World) (n : ℕ) (c : Command) (name : List ℕ) → same_name c.process name ≡ false → Follows w a name → Follows (step w n c).world a name
follows_other w a n c name other f =
    record {
      here = f.here;
      there = f.there;
      here_is = step_named w n c name f.here other f.here_is;
      there_is = f.there_is;
      part = f.part;
      names = λ m h. f.names m (step_taken w n c m h);
    }

module _ (w a : World) (n : ℕ) (name : List ℕ) (q : Process) (other : List ℕ) (labels : List Label)
    (names : (m : List ℕ) → is_taken w m ≡ false → is_taken a m ≡ false) (here_is : process_named w.processes name ≡ Some q) where
  -- a process of the same part
  abbrev twin : Process
  twin = record { name = other; part = q.part; labels = labels }

  module _ (there_is : process_named a.processes name ≡ Some twin) where
    -- a line that changes nothing
    same : Follows w a name
    same = record { here = q; there = twin; here_is = here_is; there_is = there_is; part = refl; names = names }

    -- an effect on both
    put : (e : Effect) → Follows (stepped w n q e).world (stepped a n twin e).world name
    put e =
        record {
          here = process_after n e q;
          there = process_after n e twin;
          here_is = stepped_named w n q e name here_is;
          there_is = stepped_named a n twin e name there_is;
          part = refl;
          names = λ m h. stepped_taken a n twin e m ∙ names m (sym (stepped_taken w n q e m) ∙ h);
        }

    -- no more names are taken after a fork
    forked_names : (e : Effect) (child m : List ℕ) → is_taken (fork_done true w n q child e).world m ≡ false → is_taken (fork_done true a n twin child e).world m ≡ false
    forked_names e child m h =
        let parts = or_false (is_taken w m) (same_name child m) (sym (forked_taken w n q e m child) ∙ h) in
        forked_taken a n twin e m child ∙ ap (λ b. b || same_name child m) (names m parts.0) ∙ parts.1

    -- the parent after a fork
    parent : (e : Effect) (child : List ℕ) → Follows (fork_done true w n q child e).world (fork_done true a n twin child e).world name
    parent e child =
        record {
          here = process_after n e q;
          there = process_after n e twin;
          here_is = parent_named w n q e name child here_is;
          there_is = parent_named a n twin e name child there_is;
          part = refl;
          names = forked_names e child;
        }

    -- the child after a fork
    child_follows : (e : Effect) (child : List ℕ) → is_taken w child ≡ false → Follows (fork_done true w n q child e).world (fork_done true a n twin child e).world child
    child_follows e child free =
        record {
          here = child_process (process_after n e q) child;
          there = child_process (process_after n e twin) child;
          here_is = child_named w n q e child free;
          there_is = child_named a n twin e child (names child free);
          part = refl;
          names = forked_names e child;
        }

    -- a fork, by whether it is done
    forked : (child : List ℕ) (e : Effect) (d : Bool) → is_done e.reply ≡ d → is_taken w child ≡ false → IsAlike n (verb.Fork child) name (fork_done d w n q child e) (fork_done d a n twin child e)
    forked child e true d free =
        record {
          answer = refl;
          follows = parent e child;
          child = subst (λ b. OfChild (verb.Fork child) b (Follows (fork_done true w n q child e).world (fork_done true a n twin child e).world)) (sym d) (child_follows e child free);
        }
    forked child e false d free =
        record {
          answer = refl;
          follows = put e;
          child = subst (λ b. OfChild (verb.Fork child) b (Follows (stepped w n q e).world (stepped a n twin e).world)) (sym d) tt;
        }

    -- by whether its name is taken
    named : (child : List ℕ) (x y : Bool) → is_taken w child ≡ x → is_taken a child ≡ y → refuses_name (fork_named x w n q child).reply ≡ false → IsAlike n (verb.Fork child) name (fork_named x w n q child) (fork_named y a n twin child)
    named child true y i j fine = absurd (both_ways true fine refl)
    named child false true i j fine = absurd (both_ways (is_taken a child) (names child i) j)
    named child false false i j fine = forked child (fork_part q.part) (is_done (fork_part q.part).reply) refl i

    -- by whether the parent is sealed
    sealed : (child : List ℕ) (s : Bool) → refuses_name (fork_if s w n q child).reply ≡ false → IsAlike n (verb.Fork child) name (fork_if s w n q child) (fork_if s a n twin child)
    sealed child true fine = named child (is_taken w child) (is_taken a child) refl refl fine
    sealed child false fine = record { answer = refl; follows = same; child = tt }

    -- a line, by its verb
    process : (v : Verb) → refuses_name (step_process w n q v).reply ≡ false → IsAlike n v name (step_process w n q v) (step_process a n twin v)
    process (verb.Fork child) fine = sealed child q.part.graph.sealed fine
    process verb.Frames fine = record { answer = refl; follows = same; child = tt }
    process v fine = record { answer = refl; follows = put (act q.part v); child = tt }

    -- by whether the process has exited
    live : (x : Bool) (v : Verb) → refuses_name (step_live x w n q v).reply ≡ false → IsAlike n v name (step_live x w n q v) (step_live x a n twin v)
    live true v fine = record { answer = refl; follows = same; child = no_child v (Follows w a) }
    live false v fine = process v fine

-- a line of the process itself, unless it is a fork that is refused since its name is taken
pub own_step : (w a : World) (n : ℕ) (c : Command) → Follows w a c.process → refuses_name (step w n c).reply ≡ false → IsAlike n c.verb c.process (step w n c) (step a n c)
own_step w a n c f =
    let Goal : Option Process → Option Process → Type 0 = λ o p. refuses_name (step_found w n o c.verb).reply ≡ false → IsAlike n c.verb c.process (step_found w n o c.verb) (step_found a n p c.verb) in
    subst (λ o. Goal o (process_named a.processes c.process)) (sym f.here_is)
    (subst (λ p. Goal (Some f.here) p) (sym f.there_is)
    (subst (λ x. process_named a.processes c.process ≡ Some (record f.there { part = x }) → Goal (Some f.here) (Some (record f.there { part = x }))) f.part
    (λ is. live w a n c.process f.here f.there.name f.there.labels f.names f.here_is is f.here.part.exited c.verb) f.there_is))
