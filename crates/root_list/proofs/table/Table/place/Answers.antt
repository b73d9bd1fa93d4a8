use Rattle.std.proofs.Common.{is_some, ◌∙◌, sym, ap}
use Rattle.root_list.proofs.PlaceLemmas.{root-placed}
use Rattle.root_list.proofs.table.Table.place.Goals as goal

pub returns-clause-root : goal.returns-clause-root
returns-clause-root c =
    root-placed c.args.self.now.names.items c.args.self.now.addresses.items c.args.name.now c.requires.long
    ∙ ap is_some (sym (c.copied.ensures ∙ c.get.ensures.value ∙ c.requires.found c.args.name.now))
