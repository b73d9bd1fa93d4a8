use Rattle.std.proofs.Common.{rules}
use Rattle.std.proofs.lemmas.List.Elements.{filter_from_retain}
use Rattle.large_objects.specs.Rows.{stays}
use Rattle.large_objects.proofs.table.keep_staying.Goals as goal

pub returns : goal.returns
returns c = filter_from_retain _ stays (λ p x b q called. search rules) _ c.args.rows.now.items c.retain.new.self.items c.retain.ensures.filtered
