use Rattle.std.proofs.Common.{rules, is_some}
use Rattle.std.proofs.lemmas.List.Elements.{filter_from_retain}
use Rattle.root_list.proofs.table.keep_names.Goals as goal

pub returns-clause-items : goal.returns-clause-items
returns-clause-items c = filter_from_retain _ is_some (λ p x b q called. search rules) _ c.args.names.now.items c.retain.new.self.items c.retain.ensures.filtered
