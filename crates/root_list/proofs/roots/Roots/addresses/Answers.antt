use Rattle.std.proofs.Common.{◌≡◌, ◌∙◌, ap, sym, refl, length, arith}
use Rattle.std.specs.Vec.{with_items}
use Rattle.root_list.specs.Roots.{held_by_all, holding}
use Rattle.root_list.proofs.PlaceLemmas.{held-full, length-same, roots-held, same-list}
use Rattle.root_list.proofs.roots.Roots.addresses.Goals as goal

pub invariant_of-self-lent : goal.invariant_of-self-lent
invariant_of-self-lent c = λ w.
    let t = c.settle.ensures.table in
    let old = c.settle.new.self.addresses in
    let new = with_items old w in
    let len : length new.items ≡ length old.items = sym new.ok.0 ∙ old.ok.0 in
    record {
      long = t.long ∙ sym len;
      apart = t.apart;
      found = t.found;
      count = t.count ∙ length-same c.settle.new.self.names.items old.items new.items t.long len;
      room = λ r. record { index = (t.room r).index; names = (t.room r).names; addresses = omega (arith, (t.room r).addresses, len) };
    }

pub returns : goal.returns
returns c =
    let t = c.settle.ensures.table in
    let ns = c.settle.new.self.names.items in
    let old = c.settle.new.self.addresses in
    let roots = c.settle.ensures.roots ∙ ap (λ v. v.roots) c.self.view_is in
    let full = c.settle.ensures.full ∙ sym (ap length c.settle.ensures.roots) in (
      (refl, λ w. same-list _ _ (roots-held ns old.items w old.len t.long full old.ok.0 ∙ ap (λ rs. holding rs w) roots) (c.settle.ensures.ready ∙ ap (λ v. v.ready) c.self.view_is)),
      record { written = tt; held = c.as_mut_slice.ensures.value ∙ held-full ns old.items t.long full ∙ ap held_by_all roots },
    )
