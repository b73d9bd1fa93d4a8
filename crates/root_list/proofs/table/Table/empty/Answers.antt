use Rattle.std.proofs.Common.{◌≡◌, ◌<◌, length, arith, ◌∙◌, sym, ap, Some, None, cond}
use Rattle.std.proofs.lemmas.List.{length-set}
use Rattle.class_layout.specs.Names.{same_name}
use Rattle.root_list.specs.Places.{place_of}
use Rattle.root_list.proofs.PlaceLemmas.{root-none, root-some, place-within, roots-without_none, roots-empty, roots-fewer, apart-empty, place-empty}
use Rattle.root_list.proofs.table.Table.empty.Goals as goal

pub returns-in_default-clause-told : goal.returns-in_default-clause-told
returns-in_default-clause-told c =
    let none : place_of c.args.self.now.names.items c.args.name.now ≡ None = sym (c.requires.found c.args.name.now) ∙ sym c.in_default.ensures.value in
    sym (root-none c.args.self.now.names.items c.args.self.now.addresses.items c.args.name.now none)

pub returns-in_default-clause-roots : goal.returns-in_default-clause-roots
returns-in_default-clause-roots c =
    let none : place_of c.args.self.now.names.items c.args.name.now ≡ None = sym (c.requires.found c.args.name.now) ∙ sym c.in_default.ensures.value in
    sym (roots-without_none c.args.self.now.names.items c.args.self.now.addresses.items c.args.name.now none)

pub index_mut-requires : goal.index_mut-requires
index_mut-requires c =
    let at : place_of c.args.self.now.names.items c.args.name.now ≡ Some c.in-Some.place = sym (c.requires.found c.args.name.now) ∙ sym c.in-Some.ensures.value in
    let less : c.in-Some.place < length c.args.self.now.names.items = place-within c.args.self.now.names.items c.args.name.now c.in-Some.place at in
    omega (arith, less)

pub returns-clause-told : goal.returns-clause-told
returns-clause-told c =
    let at : place_of c.args.self.now.names.items c.args.name.now ≡ Some c.in-Some.place = sym (c.requires.found c.args.name.now) ∙ sym c.in-Some.ensures.value in
    sym (root-some c.args.self.now.names.items c.args.self.now.addresses.items c.args.name.now c.in-Some.place c.requires.long at)

pub returns-clause-roots : goal.returns-clause-roots
returns-clause-roots c =
    let at : place_of c.args.self.now.names.items c.args.name.now ≡ Some c.in-Some.place = sym (c.requires.found c.args.name.now) ∙ sym c.in-Some.ensures.value in
    roots-empty c.args.self.now.names.items c.args.self.now.addresses.items c.args.name.now c.in-Some.place c.requires.long c.requires.apart at

pub returns-clause-table : goal.returns-clause-table
returns-clause-table c =
    let t = c.requires in
    let ns = c.args.self.now.names.items in
    let ats = c.args.self.now.addresses.items in
    let at : place_of ns c.args.name.now ≡ Some c.in-Some.place = sym (t.found c.args.name.now) ∙ sym c.in-Some.ensures.value in
    let len = length-set ns c.in-Some.place None in
    record {
      long = len ∙ t.long;
      apart = apart-empty ns c.in-Some.place (place-within ns c.args.name.now c.in-Some.place at) t.apart;
      found = λ q. c.in-Some.ensures.updates.0 q ∙ (ap (λ o. cond (same_name c.args.name.now q) None o) (t.found q) ∙ place-empty ns c.args.name.now q c.in-Some.place t.apart at);
      count = omega (arith, t.count, c.in-Some.ensures.len, roots-fewer ns ats c.args.name.now c.in-Some.place t.long at);
      room = λ r. record { index = omega (arith, (t.room r).index, c.in-Some.ensures.room.0); names = omega (arith, (t.room r).names, len); addresses = (t.room r).addresses };
    }
