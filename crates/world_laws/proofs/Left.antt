-- What want of memory may leave: the world before, or the line's process collected or promoted. It is in order.
use Rattle.std.proofs.Common.{◌≡◌, ◌⊎◌, ℕ, zero, suc, ◌+◌, Bool, true, false, ◌||◌, inl, inr, List, [], ◌∷◌, ◌++◌, Option, None, Some, length, take, refl, sym, subst, ap, ◌∙◌, arith}
use Rattle.std.proofs.lemmas.List.{length-map, take_all}
use Rattle.std.proofs.Math.Seq.{take-append_seam}
use Rattle.class_layout.specs.Placing.{IsIn}
use Rattle.heap_world.specs.declared.command.Command.{Command}
use Rattle.heap_world.specs.declared.command.Verb.{Verb}
use Rattle.heap_world.specs.declared.command.Verb.TheVariants as verb
use Rattle.heap_world.specs.Acts.{fork_part, gc_if}
use Rattle.heap_world.specs.Effect.{Effect}
use Rattle.heap_world.specs.Commands.{HasFewFields}
use Rattle.heap_world.specs.World.{Process, World, child_process, fork_done, fork_if, fork_named, is_done, is_taken, process_after, process_named, step, step_found, step_live, stepped}
use Rattle.heap_world.proofs.Processes.{or_false, put, taken}
use Rattle.world_laws.specs.Wanting.{CameOnAlone, IsFork, collected_world, collects, left_worlds, promoted_worlds, without_new, worlds_between}
use Rattle.world_laws.specs.Worlds.{AreNamedApart, IsInOrder, IsSoundWorld}
use Rattle.world_laws.proofs.InOrder.{later_line, step_in_order}
use Rattle.world_laws.proofs.Refusing.{put_same}

-- the first processes of a world in order
in_take : (k : ℕ) (ps : List Process) (q : Process) → IsIn q (take k ps) → IsIn q ps
in_take zero ps q h = absurd h
in_take (suc k) [] q h = absurd h
in_take (suc k) (p ∷ ps) q (inl e) = inl e
in_take (suc k) (p ∷ ps) q (inr h) = inr (in_take k ps q h)

untaken_take : (k : ℕ) (ps : List Process) (name : List ℕ) → taken ps name ≡ false → taken (take k ps) name ≡ false
untaken_take zero ps name none = refl
untaken_take (suc k) [] name none = refl
untaken_take (suc k) (p ∷ ps) name none =
    let parts = or_false _ (taken ps name) none in
    ap (λ b. b || taken (take k ps) name) parts.0 ∙ untaken_take k ps name parts.1

apart_take : (k : ℕ) (ps : List Process) → AreNamedApart ps → AreNamedApart (take k ps)
apart_take zero ps apart = tt
apart_take (suc k) [] apart = tt
apart_take (suc k) (p ∷ ps) apart = (untaken_take k ps p.name apart.0, apart_take k ps apart.1)

first_in_order : (k n : ℕ) (w : World) → IsInOrder n w → IsInOrder n (record { processes = take k w.processes })
first_in_order k n w order = record {
  sound = record { apart = apart_take k w.processes order.sound.apart; sound = λ q h. order.sound.sound q (there q h) };
  earlier = λ q h. order.earlier q (there q h);
  labelled = λ q h. order.labelled q (there q h);
  one_line = λ q h. order.one_line q (there q h);
  own_lines = λ q r h i. order.own_lines q r (there q h) (there r i);
  like_large = λ q r h i. order.like_large q r (there q h) (there r i);
  outward = λ q h. order.outward q (there q h);
  noted = λ q h. order.noted q (there q h);
}
  where
    there : (q : Process) → IsIn q (take k w.processes) → IsIn q w.processes
    there = in_take k w.processes

module _ (w : World) (n : ℕ) (c : Command) where
  abbrev gc_command : Command
  gc_command = record { process = c.process; verb = verb.Gc }

  -- the world before, or one where the process alone came on
  abbrev IsLeft : World → Type 0
  IsLeft left = (left ≡ w) ⊎ CameOnAlone w n c left

  collected_left : IsSoundWorld w → IsLeft (collected_world w n c.process)
  collected_left sound = found (process_named w.processes c.process) refl
    where
      gc : (b : Bool) (q : Process) → process_named w.processes c.process ≡ Some q → IsLeft (stepped w n q (gc_if b q.part)).world
      gc true q is = inr (q, is, inl refl)
      gc false q is = inl (ap (λ ps. record { processes = ps }) (put_same q c.process w.processes sound.apart is))

      live : (b : Bool) (q : Process) → process_named w.processes c.process ≡ Some q → IsLeft (step_live b w n q verb.Gc).world
      live true q is = inl refl
      live false q is = gc q.part.graph.sealed q is

      found : (o : Option Process) → process_named w.processes c.process ≡ o → IsLeft (step_found w n o verb.Gc).world
      found None is = inl refl
      found (Some q) is = live q.part.exited q is

  promoted_left : (child : List ℕ) → IsFork c.verb → IsLeft (without_new w (step_found w n (process_named w.processes c.process) (verb.Fork child)).world)
  promoted_left child forks = found (process_named w.processes c.process) refl
    where
      stays : without_new w w ≡ w
      stays = ap (λ ps. record { processes = ps }) (take_all (length w.processes) w.processes (omega arith))

      as_many : (new : Process) → length (put new w.processes) ≡ length w.processes
      as_many new = length-map w.processes _

      puts : (q : Process) (e : Effect) → without_new w (stepped w n q e).world ≡ (stepped w n q e).world
      puts q e =
          let new : Process = process_after n e q in
          ap (λ ps. record { processes = ps }) (take_all (length w.processes) (put new w.processes) (omega (arith, as_many new)))

      puts_more : (q r : Process) (e : Effect) → without_new w (record { processes = (stepped w n q e).world.processes ++ r ∷ [] }) ≡ (stepped w n q e).world
      puts_more q r e =
          let new : Process = process_after n e q in
          ap (λ ps. record { processes = ps })
          (ap (λ k. take k (put new w.processes ++ r ∷ [])) (sym (as_many new)) ∙ take-append_seam (put new w.processes) (r ∷ []))

      done : (b : Bool) (q : Process) → process_named w.processes c.process ≡ Some q → IsLeft (without_new w (fork_done b w n q child (fork_part q.part)).world)
      done true q is = inr (q, is, inr (forks, puts_more q (child_process (process_after n (fork_part q.part) q) child) (fork_part q.part)))
      done false q is = inr (q, is, inr (forks, puts q (fork_part q.part)))

      named : (b : Bool) (q : Process) → process_named w.processes c.process ≡ Some q → IsLeft (without_new w (fork_named b w n q child).world)
      named true q is = inl stays
      named false q is = done (is_done (fork_part q.part).reply) q is

      forked : (b : Bool) (q : Process) → process_named w.processes c.process ≡ Some q → IsLeft (without_new w (fork_if b w n q child).world)
      forked true q is = named (is_taken w child) q is
      forked false q is = inl stays

      live : (b : Bool) (q : Process) → process_named w.processes c.process ≡ Some q → IsLeft (without_new w (step_live b w n q (verb.Fork child)).world)
      live true q is = inl stays
      live false q is = forked q.part.graph.sealed q is

      found : (o : Option Process) → process_named w.processes c.process ≡ o → IsLeft (without_new w (step_found w n o (verb.Fork child)).world)
      found None is = inl stays
      found (Some q) is = live q.part.exited q is

  -- a property of the worlds that may be left
  each_left : (P : World → Type 0) → P w → P (collected_world w n c.process) → ((child : List ℕ) → c.verb ≡ verb.Fork child → P (without_new w (step w n c).world))
      → (left : World) → IsIn left (left_worlds w n c) → P left
  each_left P before collected promoted left (inl e) = subst P e before
  each_left P before collected promoted left (inr h) = between (collects c.verb (step w n c).reply) h
    where
      forked : (v : Verb) → c.verb ≡ v → IsIn left (promoted_worlds w n c v) → P left
      forked (verb.Fork child) e (inl same) = subst P same (promoted child e)
      forked (verb.Fork child) e (inr none) = absurd none
      forked v e none = absurd none

      between : (b : Bool) → IsIn left (worlds_between b w n c) → P left
      between true (inl e) = subst P e collected
      between true (inr i) = forked c.verb refl i
      between false none = absurd none

  pub left_alone : IsSoundWorld w → (left : World) → IsIn left (left_worlds w n c) → IsLeft left
  left_alone sound = each_left IsLeft (inl refl) (collected_left sound)
      (λ child e. subst (λ v. IsLeft (without_new w (step_found w n (process_named w.processes c.process) v).world)) (sym e) (promoted_left child (child, e)))

  pub left_in_order : HasFewFields c.verb → IsInOrder n w → (left : World) → IsIn left (left_worlds w n c) → IsInOrder (n + 1) left
  left_in_order few order = each_left (IsInOrder (n + 1)) (later_line n (n + 1) w (omega arith) order) (step_in_order w n gc_command tt order)
      (λ child e. first_in_order (length w.processes) (n + 1) (step w n c).world (step_in_order w n c few order))
