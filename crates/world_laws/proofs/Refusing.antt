-- What a refused line leaves.
use Rattle.std.proofs.Common.{◌≡◌, ℕ, Bool, true, false, true≢false, List, [], ◌∷◌, ◌++◌, Some, IfSome, cond, refl, sym, ap, subst, ◌∙◌}
use Rattle.std.proofs.lemmas.Option.{same_Some}
use Rattle.class_layout.specs.declared.kind.FieldAt.{FieldAt}
use Rattle.class_layout.specs.Names.{same_name}
use Rattle.class_layout.proofs.Uniqueness.{same_name-refl}
use Rattle.heap_graph.specs.declared.names.Content.{Content}
use Rattle.heap_graph.specs.Collection.{collect}
use Rattle.heap_graph.specs.Graph.{Object, is_immune}
use Rattle.heap_world.specs.declared.command.Command.{Command}
use Rattle.heap_world.specs.declared.command.Verb.{Verb}
use Rattle.heap_world.specs.declared.reply.Refusal.{Refusal}
use Rattle.heap_world.specs.declared.reply.Reply.{Reply}
use Rattle.heap_world.specs.declared.reply.Reply.TheVariants as reply
use Rattle.heap_world.specs.Acts.{act, fork_part, store_effect, with_slot}
use Rattle.heap_world.specs.Effect.{Effect, is_refusal}
use Rattle.heap_world.specs.Part.{Part, with_collected}
use Rattle.heap_world.specs.World.{Process, World, is_done, labelled, process_after, process_named, put_if, put_process, step, stepped}
use Rattle.heap_world.proofs.Processes.{named_name, or_false, put, taken}
use Rattle.world_laws.specs.Effects.{is_full}
use Rattle.world_laws.specs.Worlds.{AreNamedApart, IsSoundWorld}
use Rattle.world_laws.proofs.Stepping.{step_walk}
use Rattle.world_laws.proofs.Walk.{act_walk, fork_walk}

-- an effect that changes nothing but the part
pub record Leaves (p : Part) (e : Effect) : Type 0 where
  pub part : e.part ≡ p
  pub made : e.made ≡ []
  pub first : e.first ≡ []

-- what an effect leaves, by why it is refused
abbrev pub LeavesBy : Part → Effect → Type 0
LeavesBy p e = (why : Refusal) → e.reply ≡ reply.Refused why → (is_full why ≡ false → Leaves p e) × (is_full why ≡ true → Leaves (with_collected p (collect p.graph)) e)

-- what isn't refused
not_refused : (r : Reply) (why : Refusal) → is_refusal r ≡ false → r ≡ reply.Refused why → ⊥
not_refused r why told e = true≢false (sym (ap is_refusal e) ∙ told)

unrefused : (p : Part) (e : Effect) → is_refusal e.reply ≡ false → LeavesBy p e
unrefused p e told why is = absurd (not_refused e.reply why told is)

same_reason : (why other : Refusal) → reply.Refused why ≡ reply.Refused other → why ≡ other
same_reason why other e = cc

module _ (p : Part) where
  refused_as : (why : Refusal) (e : Effect) → is_full why ≡ false → e.reply ≡ reply.Refused why → Leaves p e → LeavesBy p e
  refused_as why e left is leaves other told =
      let same : why ≡ other = same_reason why other (sym is ∙ told) in
      (λ not. leaves, λ full. absurd (true≢false (sym full ∙ ap is_full (sym same) ∙ left)))

  full_as : (why : Refusal) (e : Effect) → is_full why ≡ true → e.reply ≡ reply.Refused why → Leaves (with_collected p (collect p.graph)) e → LeavesBy p e
  full_as why e full is leaves other told =
      let same : why ≡ other = same_reason why other (sym is ∙ told) in
      (λ not. absurd (true≢false (sym full ∙ ap is_full same ∙ not)), λ _. leaves)

  act_leaves : (v : Verb) → LeavesBy p (act p v)
  act_leaves v = act_walk p v (LeavesBy p) (record {
    telling = λ r told. unrefused p _ told;
    refusing = λ why left. refused_as why _ left refl (record { part = refl; made = refl; first = refl });
    define = λ cs grown. unrefused p _ refl;
    roots = λ rs r told. unrefused p _ told;
    heap = λ root shape slots sealed. unrefused p _ refl;
    again = λ root shape slots sealed. unrefused p _ refl;
    full = λ root shape free needed sealed. full_as _ _ refl refl (record { part = refl; made = refl; first = refl });
    image = λ root shape slots unsealed. unrefused p _ refl;
    storing = λ o s new found has fits. stored o s new (is_immune p.graph.sealed o.place);
    seal = λ is unsealed. unrefused p _ refl;
    gc = λ sealed. unrefused p _ refl;
    exit = unrefused p _ refl;
    dump = λ sealed. unrefused p _ refl;
  })
    where
      stored : (o : Object) (s : FieldAt) (new : Content) (b : Bool) → LeavesBy p (store_effect b p (with_slot p.graph o.number (record { at = s; value = new })) o s)
      stored o s new true = unrefused p _ refl
      stored o s new false = unrefused p _ refl

  fork_leaves : LeavesBy p (fork_part p)
  fork_leaves = fork_walk p (LeavesBy p) (λ room. unrefused p _ refl) (λ full. full_as _ _ refl refl (record { part = refl; made = refl; first = refl }))

-- a process put in its own place
put_none : (new : Process) (ps : List Process) → taken ps new.name ≡ false → put new ps ≡ ps
put_none new [] none = refl
put_none new (p ∷ ps) none =
    let parts = or_false (same_name p.name new.name) (taken ps new.name) none in
    ap (λ b. put_if b new p ∷ put new ps) parts.0 ∙ ap (λ rs. p ∷ rs) (put_none new ps parts.1)

pub put_same : (q : Process) (name : List ℕ) (ps : List Process) → AreNamedApart ps → process_named ps name ≡ Some q → put q ps ≡ ps
put_same q name [] apart is = refl
put_same q name (p ∷ ps) apart is = by (same_name p.name name) refl is (put_same q name ps apart.1)
  where
    by : (b : Bool) → same_name p.name name ≡ b → cond b (Some p) (process_named ps name) ≡ Some q → (process_named ps name ≡ Some q → put q ps ≡ ps) → put q (p ∷ ps) ≡ p ∷ ps
    by true e found rest =
        let same : p ≡ q = same_Some p q found in
        let here : same_name p.name q.name ≡ true = ap (λ (r : Process). same_name p.name r.name) (sym same) ∙ same_name-refl p.name in
        ap (λ b. put_if b q p ∷ put q ps) here ∙ ap (λ r. r ∷ put q ps) (sym same) ∙ ap (λ rs. p ∷ rs) (put_none q ps (ap (λ (r : Process). taken ps r.name) (sym same) ∙ apart.0))
    by false e found rest =
        let other : same_name p.name q.name ≡ false = ap (same_name p.name) (named_name ps name q found) ∙ e in
        ap (λ b. put_if b q p ∷ put q ps) other ∙ ap (λ rs. p ∷ rs) (rest found)

-- a process after an effect that leaves a part
left_process : (n : ℕ) (q : Process) (p : Part) (e : Effect) → Leaves p e → process_after n e q ≡ record q { part = p }
left_process n q p e leaves =
    ap (λ (part : Part). record { name = q.name; part = part; labels = labelled n (e.made ++ e.first) q.labels }) leaves.part
    ∙ ap (λ made. record { name = q.name; part = p; labels = labelled n (made ++ e.first) q.labels }) leaves.made
    ∙ ap (λ first. record { name = q.name; part = p; labels = labelled n ([] ++ first) q.labels }) leaves.first

module _ (w : World) (n : ℕ) (c : Command) where
  pub step_left : (why : Refusal) → IsSoundWorld w → (step w n c).reply ≡ reply.Refused why → is_full why ≡ false → (step w n c).world ≡ w
  step_left why sound = step_walk w n c (λ s. s.reply ≡ reply.Refused why → is_full why ≡ false → s.world ≡ w) (record {
    refusing = λ other left is not. refl;
    frames = λ is not. refl;
    acts = λ q named lives is not. put_back q (act q.part c.verb) named ((act_leaves q.part c.verb why is).0 not);
    forks = λ q child named sealed free done is not. absurd (true≢false (sym done ∙ ap is_done is));
    unforked = λ q named sealed full is not. put_back q (fork_part q.part) named ((fork_leaves q.part why is).0 not);
  })
    where
      put_back : (q : Process) (e : Effect) → process_named w.processes c.process ≡ Some q → Leaves q.part e → (stepped w n q e).world ≡ w
      put_back q e named leaves =
          ap (put_process w) (left_process n q q.part e leaves) ∙ ap (λ ps. record { processes = ps }) (put_same q c.process w.processes sound.apart named)

  pub step_full : (why : Refusal) → (step w n c).reply ≡ reply.Refused why → is_full why ≡ true
      → IfSome (process_named w.processes c.process) (λ q. (step w n c).world ≡ put_process w (record q { part = with_collected q.part (collect q.part.graph) }))
  step_full why = step_walk w n c
      (λ s. s.reply ≡ reply.Refused why → is_full why ≡ true → IfSome (process_named w.processes c.process) (λ q. s.world ≡ put_process w (record q { part = with_collected q.part (collect q.part.graph) }))) (record {
        refusing = λ other left is full. absurd (true≢false (sym full ∙ ap is_full (sym (same_reason other why is)) ∙ left));
        frames = λ is full. absurd cc;
        acts = λ q named lives is full. collected q (act q.part c.verb) named ((act_leaves q.part c.verb why is).1 full);
        forks = λ q child named sealed free done is full. absurd (true≢false (sym done ∙ ap is_done is));
        unforked = λ q named sealed no is full. collected q (fork_part q.part) named ((fork_leaves q.part why is).1 full);
      })
    where
      collected : (q : Process) (e : Effect) → process_named w.processes c.process ≡ Some q → Leaves (with_collected q.part (collect q.part.graph)) e
          → IfSome (process_named w.processes c.process) (λ r. (stepped w n q e).world ≡ put_process w (record r { part = with_collected r.part (collect r.part.graph) }))
      collected q e named leaves =
          subst (λ o. IfSome o (λ r. (stepped w n q e).world ≡ put_process w (record r { part = with_collected r.part (collect r.part.graph) }))) (sym named)
          (ap (put_process w) (left_process n q (with_collected q.part (collect q.part.graph)) e leaves))
