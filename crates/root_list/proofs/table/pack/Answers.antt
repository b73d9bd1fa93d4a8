use Rattle.std.proofs.Common.{◌∙◌, ◌++◌, ◌+◌, ap, sym, arith, length, take, drop, vec_capacity}
use Rattle.std.proofs.lemmas.List.{length-set}
use Rattle.root_list.specs.Places.{kept_of}
use Rattle.root_list.proofs.PlaceLemmas.{pack-hole, pack-root}
use Rattle.root_list.proofs.table.pack.Goals as goal
use Rattle.root_list.proofs.table.pack.Goals.{then-is_some, else-is_some}

pub loop-k-preserved : goal.loop-k-preserved
loop-k-preserved c =
    let ns = c.args.names.now in
    let ats = c.loop-k.addresses.items in
    let k = c.loop-k.k in
    let kept = c.loop-k.kept in
    let inv = c.loop-k.invariant in
    let long = c.requires ∙ sym inv.long in
    elim c.if-is_some.branch [
      | then-is_some w ↦
          let items = ap (λ v. v.items) w.addresses-is in
          record {
            few = omega (arith, inv.few, w.kept-is);
            kept =
                ap (λ j. take j c.if-is_some.addresses.items ++ kept_of (drop (k + 1) ns) (drop (k + 1) c.if-is_some.addresses.items)) w.kept-is
                ∙ ap (λ v. take (kept + 1) v ++ kept_of (drop (k + 1) ns) (drop (k + 1) v)) items
                ∙ pack-root ns ats kept k c.index-names-k.result w.index.result.now long c.loop-k-test.true inv.few c.index-names-k.is (sym c.is_some.ensures ∙ w.if-is_some.true) w.index.ensures
                ∙ inv.kept;
            long = ap length items ∙ length-set ats kept w.index.result.now ∙ inv.long;
            capacity = ap vec_capacity w.addresses-is ∙ inv.capacity;
          }
      | else-is_some w ↦
          let items = ap (λ v. v.items) w.addresses-is in
          record {
            few = omega (arith, inv.few, w.kept-is);
            kept =
                ap (λ j. take j c.if-is_some.addresses.items ++ kept_of (drop (k + 1) ns) (drop (k + 1) c.if-is_some.addresses.items)) w.kept-is
                ∙ ap (λ v. take kept v ++ kept_of (drop (k + 1) ns) (drop (k + 1) v)) items
                ∙ pack-hole ns ats kept k c.index-names-k.result long c.loop-k-test.true c.index-names-k.is (sym c.is_some.ensures ∙ w.if-is_some.false)
                ∙ inv.kept;
            long = ap length items ∙ inv.long;
            capacity = ap vec_capacity w.addresses-is ∙ inv.capacity;
          }
    ]
