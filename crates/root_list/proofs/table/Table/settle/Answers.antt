use Rattle.std.proofs.Common.{◌≡◌, ◌∙◌, ap, sym, subst, length, filter, is_some, arith}
use Rattle.root_list.specs.Places.{roots_of, kept_of, place_of, AreApart}
use Rattle.root_list.proofs.PlaceLemmas.{roots-kept, length-kept, length-filter, filter-twice, apart-filter, filter-fewer}
use Rattle.root_list.proofs.table.Table.settle.Goals as goal

pub renumber-requires-clause-apart : goal.renumber-requires-clause-apart
renumber-requires-clause-apart c =
    let e = c.deref-2.ensures.value ∙ c.keep_names.ensures.items in
    subst AreApart (sym e) (apart-filter c.args.self.now.names.items c.requires.apart)

pub renumber-requires-clause-full : goal.renumber-requires-clause-full
renumber-requires-clause-full c =
    let e = c.deref-2.ensures.value ∙ c.keep_names.ensures.items in
    ap (filter is_some) e ∙ filter-twice c.args.self.now.names.items ∙ sym e

pub renumber-requires-clause-room : goal.renumber-requires-clause-room
renumber-requires-clause-room c =
    let e = c.deref-2.ensures.value ∙ c.keep_names.ensures.items in
    omega (arith, ap length e, length-filter c.args.self.now.names.items c.args.self.now.addresses.items c.requires.long, c.requires.count)

pub returns-clause-full : goal.returns-clause-full
returns-clause-full c = ap length c.keep_names.ensures.items ∙ length-filter c.args.self.now.names.items c.args.self.now.addresses.items c.requires.long

pub returns-clause-roots : goal.returns-clause-roots
returns-clause-roots c =
    let ns = c.args.self.now.names.items in
    let ats = c.args.self.now.addresses.items in
    let packed : c.pack.new.addresses.items ≡ kept_of ns ats =
    c.pack.ensures.kept ∙ ap (λ ps. kept_of ps ats) c.deref.ensures.value in
    ap (λ ps. roots_of ps c.pack.new.addresses.items) c.keep_names.ensures.items ∙ ap (roots_of (filter is_some ns)) packed ∙ roots-kept ns ats

pub returns-clause-table : goal.returns-clause-table
returns-clause-table c =
    let t = c.requires in
    let ns = c.args.self.now.names.items in
    let ats = c.args.self.now.addresses.items in
    let items = c.keep_names.ensures.items in
    let e = c.deref-2.ensures.value ∙ items in
    let packed : c.pack.new.addresses.items ≡ kept_of ns ats =
    c.pack.ensures.kept ∙ ap (λ ps. kept_of ps ats) c.deref.ensures.value in
    let roots : roots_of c.keep_names.new.names.items c.pack.new.addresses.items ≡ roots_of ns ats =
    ap (λ ps. roots_of ps c.pack.new.addresses.items) items ∙ ap (roots_of (filter is_some ns)) packed ∙ roots-kept ns ats in
    let few = filter-fewer ns in
    let long : length c.keep_names.new.names.items ≡ length c.pack.new.addresses.items = ap length items ∙ length-kept ns ats t.long ∙ sym (ap length packed) in
    record {
      long = long;
      apart = subst AreApart (sym items) (apart-filter ns t.apart);
      found = λ q. c.renumber.ensures.found q ∙ ap (λ ps. place_of ps q) c.deref-2.ensures.value;
      count = omega (arith, c.renumber.ensures.count, ap length e, length-filter ns ats t.long, ap length roots);
      room = λ r. record {
        index = omega (arith, (t.room r).index, c.renumber.ensures.room, c.renumber.ensures.count, ap length e, length-filter ns ats t.long, t.count);
        names = omega (arith, (t.room r).names, c.keep_names.ensures.capacity, ap length items, few);
        addresses = omega (arith, (t.room r).addresses, c.pack.ensures.capacity, long, ap length items, few, t.long);
      };
    }
