use Rattle.std.proofs.Common.{rules, ◌≡◌, ◌∙◌, Bool, not, sym}
use Rattle.std.specs.Prelude.{count_by}
use Rattle.std.proofs.lemmas.List.Sums.{length-filter}
use Rattle.heap_world.specs.World.{Process}
use Rattle.plain_machine.proofs.counts.live_count.Goals as goal

abbrev lives : Process → Bool
lives q = not q.part.exited

pub returns : goal.returns
returns c =
    let counted : c.count.result ≡ count_by lives c.args.processes.now = search rules in
    counted ∙ sym (length-filter lives c.args.processes.now)
