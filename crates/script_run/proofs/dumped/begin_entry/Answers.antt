use Rattle.std.proofs.Common.{List, ℕ, subst, ◌∙◌}
use Rattle.ah_outside.specs.Outside.{Begun}
use Rattle.script_run.proofs.dumped.begin_entry.Goals as goal

pub returns-clause-done : goal.returns-clause-done
returns-clause-done g c = subst (λ (n : List ℕ). Begun (g.F.Shelf.shelved c.args.shelf.now) n (g.F.Shelf.shelved c.begin.new.self)) (c.deref.ensures.value ∙ c.in_ok-name.ensures) c.in_ok-begin.ensures.ok
