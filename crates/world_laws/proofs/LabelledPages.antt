-- Pages stay labelled, and those of a waiting object by one line.
use Rattle.std.proofs.Common.{◌≡◌, ℕ, ◌<◌, Bool, true, false, true≢false, inl, inr, List, ◌++◌, Some, refl, sym, subst, ◌∙◌}
use Rattle.model_numbers.specs.Numbers.{page_bytes}
use Rattle.class_layout.specs.Placing.{IsIn}
use Rattle.heap_graph.specs.declared.names.Place.{Place}
use Rattle.heap_graph.specs.declared.names.Place.TheVariants as place
use Rattle.heap_graph.specs.Graph.{Object}
use Rattle.heap_graph.specs.Sizes.{parts_for, unrounded}
use Rattle.heap_world.specs.declared.command.Command.{Command}
use Rattle.heap_world.specs.declared.names.PageName.{PageName}
use Rattle.heap_world.specs.declared.names.PageName.TheVariants.{Large}
use Rattle.heap_world.specs.Acts.{act, fork_part}
use Rattle.heap_world.specs.Effect.{Effect}
use Rattle.heap_world.specs.Commands.{HasFewFields}
use Rattle.heap_world.specs.Pages.{is_touched}
use Rattle.heap_world.specs.World.{Process, World, child_process, label_of, labelled, process_after, step}
use Rattle.heap_world.proofs.Standing.{in-left}
use Rattle.world_laws.specs.Labels.{AreLabelled, HasEarlier, HasLabel, HasOneLine, HaveOneLine, IsLabelled}
use Rattle.world_laws.specs.Named.{has_slot, is_named, is_waiting}
use Rattle.world_laws.specs.Worlds.{IsSoundWorld}
use Rattle.world_laws.proofs.Behaving.{Behaves, behaves_act, behaves_fork, has_own, waits_unchanged}
use Rattle.world_laws.proofs.Labelling.{label_has, label_new, label_old}
use Rattle.world_laws.proofs.SoundWorlds.{each_more, each_put}
use Rattle.world_laws.proofs.Stepping.{named_in, step_walk}

-- a property of processes that effects which behave keep, and that a child has of its parent, is kept by each step
pub each_step : (P : Process → Type 0) (w : World) (n : ℕ) (c : Command) → HasFewFields c.verb → IsSoundWorld w
    → ((q : Process) (e : Effect) → IsIn q w.processes → Behaves q.part e → P (process_after n e q)) → ((q : Process) (child : List ℕ) → P q → P (child_process q child))
    → ((q : Process) → IsIn q w.processes → P q) → (q : Process) → IsIn q (step w n c).world.processes → P q
each_step P w n c few sound after child each = step_walk w n c (λ s. (q : Process) → IsIn q s.world.processes → P q) (record {
  refusing = λ why left. each;
  frames = each;
  acts = λ q is lives. let there = named_in w.processes c.process q is in each_put P w n q (act q.part c.verb) (after q (act q.part c.verb) there (behaves_act q.part c.verb few (sound.sound q there).formed)) each;
  forks = λ q name is sealed free done.
      let there = named_in w.processes c.process q is in
      let here = after q (fork_part q.part) there (behaves_fork q.part sealed (sound.sound q there).formed) in
      each_more P w n q (fork_part q.part) name here (child (process_after n (fork_part q.part) q) name here) each;
  unforked = λ q is sealed full. let there = named_in w.processes c.process q is in each_put P w n q (fork_part q.part) (after q (fork_part q.part) there (behaves_fork q.part sealed (sound.sound q there).formed)) each;
})

labelled_after : (n : ℕ) (q : Process) (e : Effect) → Behaves q.part e → IsLabelled q → IsLabelled (process_after n e q)
labelled_after n q e b labels a named = by (is_touched (e.made ++ e.first) a) refl
  where
    by : (c : Bool) → is_touched (e.made ++ e.first) a ≡ c → HasLabel (process_after n e q) a
    by true changed = (n, label_new n (e.made ++ e.first) q.labels a changed)
    by false changed = elim (b.names.named a named) [
      | inl was ↦ let l = labels a was in (l.0, label_old n (e.made ++ e.first) q.labels a changed ∙ l.1)
      | inr made ↦ absurd (true≢false (sym (in-left e.made e.first a made) ∙ changed))
    ]

pub step_labelled : (w : World) (n : ℕ) (c : Command) → HasFewFields c.verb → IsSoundWorld w → AreLabelled w → AreLabelled (step w n c).world
step_labelled w n c few sound labels = each_step IsLabelled w n c few sound (λ q e there b. labelled_after n q e b (labels q there)) (λ q child h. h) labels

-- such a label is of a line before
pub labelled_before : (line : ℕ) (q : Process) (a : PageName) → HasEarlier line q → IsLabelled q → is_named q.part.graph a ≡ true → (n : ℕ) × (n < line) × (label_of q.labels a ≡ Some (record { page = a; line = n }))
labelled_before line q a earlier labels named = let l = labels a named in (l.0, label_has (λ m. m.line < line) q.labels a (record { page = a; line = l.0 }) earlier l.1, l.1)

-- a waiting object is in a slot
waiting_slot : (q : Place) → is_waiting q ≡ true → has_slot q ≡ true
waiting_slot (place.Image spot) e = e
waiting_slot (place.Zygote spot) e = e
waiting_slot place.Young e = e
waiting_slot place.Large e = refl
waiting_slot place.Promoted e = refl

one_line_after : (n : ℕ) (q : Process) (e : Effect) → Behaves q.part e → HasOneLine q → HasOneLine (process_after n e q)
one_line_after n q e b one x there waiting = elim (b.large x there (waiting_slot x.place waiting)) [
  | inl s ↦
      let o : Object = s.0 in
      let was : is_waiting o.place ≡ true = s.2.waiting waiting in
      let lines = one o s.1 was in (
        lines.0,
        λ k less.
            let within : k < parts_for page_bytes (unrounded q.part.graph.classes o.shape) = subst (λ m. k < parts_for page_bytes m) s.2.bytes less in
            let same : label_of (labelled n (e.made ++ e.first) q.labels) (Large o.number k) ≡ Some (record { page = Large o.number k; line = lines.0 }) =
            label_old n (e.made ++ e.first) q.labels (Large o.number k) (waits_unchanged q.part e b (Large o.number k) (has_own is_waiting q.part.graph.classes q.part.graph.objects o k s.1 was within)) ∙ lines.1 k within in
            subst (λ m. label_of (labelled n (e.made ++ e.first) q.labels) (Large m k) ≡ Some (record { page = Large m k; line = lines.0 })) (sym s.2.number) same,
      )
  | inr made ↦ (n, λ k less. label_new n (e.made ++ e.first) q.labels (Large x.number k) (in-left e.made e.first (Large x.number k) (made k less)))
]

pub step_one_line : (w : World) (n : ℕ) (c : Command) → HasFewFields c.verb → IsSoundWorld w → HaveOneLine w → HaveOneLine (step w n c).world
step_one_line w n c few sound one = each_step HasOneLine w n c few sound (λ q e there b. one_line_after n q e b (one q there)) (λ q child h. h) one
