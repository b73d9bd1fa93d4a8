use Rattle.std.proofs.Common.{◌<◌, ◌∙◌, Some, ap, sym, length, arith}
use Rattle.root_list.proofs.PlaceLemmas.{held-none, held-index, place-within}
use Rattle.root_list.proofs.table.Table.find.Goals as goal

pub index-requires : goal.index-requires
index-requires c =
    let less : c.in-Some.place < length c.args.self.now.names.items = place-within c.args.self.now.names.items c.args.name.now c.in-Some.place (sym c.in-Some.ensures.place) in
    omega (arith, less, c.requires.long)

pub returns-in-Some : goal.returns-in-Some
returns-in-Some c =
    ap Some c.index.ensures
    ∙ held-index c.args.self.now.names.items c.args.self.now.addresses.items c.args.name.now c.in-Some.place _ c.requires.long (sym c.in-Some.ensures.place)

pub returns-in-None : goal.returns-in-None
returns-in-None c = sym (held-none c.args.self.now.names.items c.args.self.now.addresses.items c.args.name.now (sym c.in-None.ensures.place))
