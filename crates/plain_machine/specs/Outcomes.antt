-- What a command does, as the machine keeps it.
use Rattle.std.specs.Prelude.{◌≡◌, unwrap_or}
use Rattle.heap_world.specs.Effect.{Effect}
use Rattle.heap_world.specs.Part.{Part}
use Rattle.plain_machine.specs.declared.outcome.Outcome.{Outcome}

-- an outcome is an effect on a part: no next part where the part stays
pub record IsOutcome (p : Part) (o : Outcome) (e : Effect) : Type 0 where
  pub part : unwrap_or o.next p ≡ e.part
  pub reply : o.reply ≡ e.reply
  pub made : o.made.items ≡ e.made
  pub first : o.first.items ≡ e.first
