-- What each process was told is listed in the order of the processes.
use Rattle.std.proofs.Common.{◌≡◌, ℕ, Bool, true, false, cond, ◌||◌, List, [], ◌∷◌, ◌++◌, Option, None, Some, map, refl, sym, ap, ◌∙◌}
use Rattle.std.specs.List.{list_any}
use Rattle.std.proofs.lemmas.Bool.{or_left, or_right}
use Rattle.std.proofs.lemmas.List.{map-append}
use Rattle.class_layout.specs.Names.{same_name}
use Rattle.class_layout.proofs.Uniqueness.{names-same}
use Rattle.heap_graph.proofs.Lists.{any-map}
use Rattle.heap_world.specs.declared.command.Verb.{Verb}
use Rattle.heap_world.specs.declared.command.Verb.TheVariants as verb
use Rattle.heap_world.specs.declared.reply.Reply.{Reply}
use Rattle.heap_world.specs.declared.reply.Refusal.{Refusal}
use Rattle.heap_world.specs.Acts.{act, fork_part}
use Rattle.heap_world.specs.Effect.{Effect}
use Rattle.heap_world.specs.Isolation.{Told, child_told, tell, tell_if, told_after, told_by, told_named, told_of_fork, with_forked}
use Rattle.heap_world.specs.Run.{Line, step_line, world_after}
use Rattle.heap_world.specs.World.{Process, Stepped, World, child_process, fork_done, fork_if, fork_named, is_done, is_taken, process_after, process_named, put_if, refused, step_found, step_live, step_process, stepped}
use Rattle.heap_world.proofs.Processes.{put}

-- the names of what was told, and of processes
abbrev pub told_names : List Told → List (List ℕ)
told_names ts = map (λ t. t.name) ts

abbrev pub process_names : List Process → List (List ℕ)
process_names ps = map (λ q. q.name) ps

-- a line tells no new name
names-told : (l : Line) (r : Reply) (ts : List Told) → told_names (map (tell l r) ts) ≡ told_names ts
names-told l r [] = refl
names-told l r (t ∷ ts) = by (same_name t.name l.command.process) (names-told l r ts)
  where
    by : (b : Bool) → told_names (map (tell l r) ts) ≡ told_names ts → (tell_if b l r t).name ∷ told_names (map (tell l r) ts) ≡ t.name ∷ told_names ts
    by true rest = ap (λ ns. t.name ∷ ns) rest
    by false rest = ap (λ ns. t.name ∷ ns) rest

-- a put changes no name
names-put : (new : Process) (ps : List Process) → process_names (put new ps) ≡ process_names ps
names-put new [] = refl
names-put new (p ∷ ps) = by (same_name p.name new.name) refl (names-put new ps)
  where
    by : (b : Bool) → same_name p.name new.name ≡ b → process_names (put new ps) ≡ process_names ps → (put_if b new p).name ∷ process_names (put new ps) ≡ p.name ∷ process_names ps
    by true e rest = ap (λ n. n ∷ process_names (put new ps)) (sym (names-same p.name new.name e)) ∙ ap (λ ns. p.name ∷ ns) rest
    by false e rest = ap (λ ns. p.name ∷ ns) rest

-- a process that is found has its name among the names
name-found : (ps : List Process) (name : List ℕ) (q : Process) → process_named ps name ≡ Some q → list_any (λ p. same_name p.name name) ps ≡ true
name-found [] name q e = cc
name-found (p ∷ ps) name q e = by (same_name p.name name) refl e (name-found ps name q)
  where
    by : (b : Bool) → same_name p.name name ≡ b → cond b (Some p) (process_named ps name) ≡ Some q → (process_named ps name ≡ Some q → list_any (λ p. same_name p.name name) ps ≡ true)
        → (same_name p.name name || list_any (λ p. same_name p.name name) ps) ≡ true
    by true here e rest = or_left (same_name p.name name) (list_any (λ p. same_name p.name name) ps) here
    by false here e rest = or_right (same_name p.name name) (list_any (λ p. same_name p.name name) ps) (rest e)

-- where a name is among those that were told, a fork's child is told too
child-name : (ts : List Told) (name child : List ℕ) → list_any (λ t. same_name t.name name) ts ≡ true → told_names (child_told (told_named ts name) child) ≡ child ∷ []
child-name [] name child h = cc
child-name (t ∷ ts) name child h = by (same_name t.name name) h (child-name ts name child)
  where
    by : (b : Bool) → (b || list_any (λ t. same_name t.name name) ts) ≡ true → (list_any (λ t. same_name t.name name) ts ≡ true → told_names (child_told (told_named ts name) child) ≡ child ∷ [])
        → told_names (child_told (cond b (Some t) (told_named ts name)) child) ≡ child ∷ []
    by true h rest = refl
    by false h rest = rest h

module _ (w : World) (l : Line) (ts : List Told) (same : told_names ts ≡ process_names w.processes) where
  -- what a step leaves has the names of what was told by it
  abbrev AreNamed : Verb → Stepped → Type 0
  AreNamed v s = told_names (with_forked (map (tell l s.reply) ts) l v s.reply) ≡ process_names s.world.processes

  -- a refusal, and what changes one process
  named-refused : (v : Verb) (why : Refusal) → AreNamed v (refused w why)
  named-refused (verb.Fork child) why = names-told l _ ts ∙ same
  named-refused v why = names-told l _ ts ∙ same

  named-stepped : (q : Process) (e : Effect) → told_names (map (tell l e.reply) ts) ≡ process_names (stepped w l.number q e).world.processes
  named-stepped q e = names-told l e.reply ts ∙ same ∙ sym (names-put (process_after l.number e q) w.processes)

  module _ (q : Process) (is : process_named w.processes l.command.process ≡ Some q) where
    -- the parent of a fork was told
    parent_told : (r : Reply) → list_any (λ t. same_name t.name l.command.process) (map (tell l r) ts) ≡ true
    parent_told r =
        let test : List ℕ → Bool = λ m. same_name m l.command.process in
        sym (any-map (λ t. t.name) test (map (tell l r) ts))
        ∙ ap (list_any test) (names-told l r ts ∙ same)
        ∙ any-map (λ p. p.name) test w.processes
        ∙ name-found w.processes l.command.process q is

    named-forked : (child : List ℕ) (e : Effect) (d : Bool) → is_done e.reply ≡ d → AreNamed (verb.Fork child) (fork_done d w l.number q child e)
    named-forked child e true done =
        let told : List Told = map (tell l e.reply) ts in
        let new : Process = process_after l.number e q in
        ap (λ d. told_names (told_of_fork d told l.command.process child)) done
        ∙ map-append (λ t. t.name) told (child_told (told_named told l.command.process) child)
        ∙ ap (λ ns. told_names told ++ ns) (child-name told l.command.process child (parent_told e.reply))
        ∙ ap (λ ns. ns ++ child ∷ []) (named-stepped q e)
        ∙ sym (map-append (λ p. p.name) (put new w.processes) (child_process new child ∷ []))
    named-forked child e false done = ap (λ d. told_names (told_of_fork d (map (tell l e.reply) ts) l.command.process child)) done ∙ named-stepped q e

    named-fork : (child : List ℕ) (t : Bool) → AreNamed (verb.Fork child) (fork_named t w l.number q child)
    named-fork child true = named-refused (verb.Fork child) _
    named-fork child false = named-forked child (fork_part q.part) (is_done (fork_part q.part).reply) refl

    named-sealed : (child : List ℕ) (s : Bool) → AreNamed (verb.Fork child) (fork_if s w l.number q child)
    named-sealed child true = named-fork child (is_taken w child)
    named-sealed child false = named-refused (verb.Fork child) _

    named-process : (v : Verb) → AreNamed v (step_process w l.number q v)
    named-process (verb.Fork child) = named-sealed child q.part.graph.sealed
    named-process verb.Frames = names-told l _ ts ∙ same
    named-process v = named-stepped q (act q.part v)

    named-live : (x : Bool) (v : Verb) → AreNamed v (step_live x w l.number q v)
    named-live true v = named-refused v _
    named-live false v = named-process v

  named-found : (found : Option Process) → process_named w.processes l.command.process ≡ found → AreNamed l.command.verb (step_found w l.number found l.command.verb)
  named-found None is = named-refused l.command.verb _
  named-found (Some q) is = named-live q is q.part.exited l.command.verb

  names-step : told_names (told_by ts l (step_line w l).reply) ≡ process_names (step_line w l).world.processes
  names-step = named-found (process_named w.processes l.command.process) refl

-- all lines
pub names-after : (w : World) (ts : List Told) (ls : List Line) → told_names ts ≡ process_names w.processes → told_names (told_after w ts ls) ≡ process_names (world_after w ls).processes
names-after w ts [] same = same
names-after w ts (l ∷ ls) same = names-after (step_line w l).world (told_by ts l (step_line w l).reply) ls (names-step w l ts same)
