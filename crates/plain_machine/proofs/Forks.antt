-- What a fork leaves that isn't refused for its process or its name.
use Rattle.std.proofs.Common.{◌≡◌, ℕ, true, false, List, [], ◌∷◌, ◌++◌, unwrap_or, refl, sym, ap, ◌∙◌}
use Rattle.heap_world.specs.declared.names.Label.{Label}
use Rattle.heap_world.specs.declared.reply.Reply.{Reply}
use Rattle.heap_world.specs.declared.reply.Reply.TheVariants as reply
use Rattle.heap_world.specs.Acts.{fork_part}
use Rattle.heap_world.specs.World.{Process, World, child_process, fork_done, fork_if, fork_named, is_done, is_taken, labelled, process_after, put_process, stepped, with_child}
use Rattle.plain_machine.specs.declared.outcome.Outcome.{Outcome}
use Rattle.plain_machine.specs.Outcomes.{IsOutcome}
use Rattle.plain_machine.specs.Worlds.{Does}
use Rattle.plain_machine.proofs.Worlds.{with_next}

-- a reply that isn't the one of what was done
pub not_done : (r : Reply) → (r ≡ reply.Done → ⊥) → is_done r ≡ false
not_done reply.Done h = absurd (h refl)
not_done (reply.Class number) h = refl
not_done (reply.Made number collected) h = refl
not_done (reply.Number value) h = refl
not_done reply.Null h = refl
not_done (reply.Object number) h = refl
not_done (reply.Shown number class) h = refl
not_done (reply.Kept kept freed) h = refl
not_done (reply.Regions free) h = refl
not_done (reply.Pages image image_written zygote zygote_written large large_written) h = refl
not_done (reply.Frames count) h = refl
not_done (reply.Dumped count objects) h = refl
not_done (reply.Refused why) h = refl

module _ (w : World) (line : ℕ) (q : Process) (name : List ℕ) (o : Outcome) (labels : List Label)
    (sealed : q.part.graph.sealed ≡ true) (free : is_taken w name ≡ false) (out : IsOutcome q.part o (fork_part q.part))
    (labelling : labels ≡ labelled line (o.made.items ++ o.first.items) q.labels) where
  after : process_after line (fork_part q.part) q ≡ with_next q o.next labels
  after =
      let e = fork_part q.part in
      let same : labelled line (e.made ++ e.first) q.labels ≡ labels = ap (λ xs. labelled line (xs ++ e.first) q.labels) (sym out.made)
      ∙ (ap (λ xs. labelled line (o.made.items ++ xs) q.labels) (sym out.first) ∙ sym labelling) in
      ap (λ p. record q { part = p; labels = labelled line (e.made ++ e.first) q.labels }) (sym out.part)
      ∙ ap (λ ls. record q { part = unwrap_or o.next q.part; labels = ls }) same

  opened : fork_if q.part.graph.sealed w line q name ≡ fork_done (is_done (fork_part q.part).reply) w line q name (fork_part q.part)
  opened = ap (λ b. fork_if b w line q name) sealed ∙ ap (λ b. fork_named b w line q name) free

  -- the child is added
  pub forks : (new : World) → o.reply ≡ reply.Done
      → new ≡ record { processes = (put_process w (with_next q o.next labels)).processes ++ child_process (with_next q o.next labels) name ∷ [] }
      → Does (fork_if q.part.graph.sealed w line q name) new o.reply
  forks new done is =
      let e = fork_part q.part in
      let whole : fork_if q.part.graph.sealed w line q name ≡ with_child (stepped w line q e) (process_after line e q) name =
      opened ∙ ap (λ r. fork_done (is_done r) w line q name e) (sym out.reply ∙ done) in (
        is ∙ (ap (λ r. record { processes = (put_process w r).processes ++ child_process r name ∷ [] }) (sym after) ∙ sym (ap (λ s. s.world) whole)),
        out.reply ∙ sym (ap (λ s. s.reply) whole),
      )

  -- the zygote window is full
  pub fork_refused : (new : World) → is_done o.reply ≡ false → new ≡ put_process w (with_next q o.next labels)
      → Does (fork_if q.part.graph.sealed w line q name) new o.reply
  fork_refused new full is =
      let e = fork_part q.part in
      let whole : fork_if q.part.graph.sealed w line q name ≡ stepped w line q e =
      opened ∙ ap (λ b. fork_done b w line q name e) (ap is_done (sym out.reply) ∙ full) in (
        is ∙ (ap (put_process w) (sym after) ∙ sym (ap (λ s. s.world) whole)),
        out.reply ∙ sym (ap (λ s. s.reply) whole),
      )
