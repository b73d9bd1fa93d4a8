use Rattle.std.proofs.Common.{◌<◌, length, arith, ◌∙◌, sym}
use Rattle.std.proofs.lemmas.List.{length-set}
use Rattle.root_list.proofs.PlaceLemmas.{place-within, root-put, length-put}
use Rattle.root_list.proofs.table.Table.put.Goals as goal

pub index_mut-requires : goal.index_mut-requires
index_mut-requires c =
    let less : c.args.place < length c.args.self.now.names.items = place-within c.args.self.now.names.items c.args.name.now c.args.place c.requires.there in
    omega (arith, less, c.requires.table.long)

pub returns-clause-roots : goal.returns-clause-roots
returns-clause-roots c =
    root-put c.args.self.now.names.items c.args.self.now.addresses.items c.args.name.now c.args.place c.args.holds c.requires.table.long c.requires.table.apart c.requires.there

pub returns-clause-table : goal.returns-clause-table
returns-clause-table c =
    let t = c.requires.table in
    let len = length-set c.args.self.now.addresses.items c.args.place c.args.holds in
    record {
      long = t.long ∙ sym len;
      apart = t.apart;
      found = t.found;
      count = t.count ∙ sym (length-put c.args.self.now.names.items c.args.self.now.addresses.items c.args.place c.args.holds);
      room = λ r. record { index = (t.room r).index; names = (t.room r).names; addresses = omega (arith, (t.room r).addresses, len) };
    }
