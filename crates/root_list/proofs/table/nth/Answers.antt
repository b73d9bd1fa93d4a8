use Rattle.std.proofs.Common.{◌∙◌, sym, ap, length, slice_get, subst, ◌<◌, ◌+◌, drop}
use Rattle.root_list.specs.Places.{roots_of}
use Rattle.root_list.proofs.PlaceLemmas.{place-left, at-hole, at-root, behind-first}
use Rattle.root_list.proofs.table.nth.Goals as goal
use Rattle.root_list.proofs.table.nth.Goals.{in-Some+else-left-eq0, in_default}

pub loop-place-preserved : goal.loop-place-preserved
loop-place-preserved c =
    let ns = c.args.names.now in
    let ats = c.args.addresses.now in
    let k = c.loop-place.place in
    let near = place-left ns ats k c.loop-place.left c.loop-place.invariant.within in
    elim c.match-names-place.branch [
      | in-Some+else-left-eq0 w ↦
          let rest = behind-first _ _ _ c.loop-place.left c.match-names-place.left (at-root ns ats k c.index-names-place.result w.in-Some.name (record { 0 = 0 }) c.requires.long near c.index-names-place.is w.in-Some.is)
          c.loop-place.invariant.within w.if-left-eq0.false w.left-is in
          record { within = rest.0; same = rest.1 ∙ c.loop-place.invariant.same }
      | in_default w ↦
          let rest = at-hole ns ats k c.index-names-place.result c.requires.long near c.index-names-place.is w.in_default.is in
          record {
            within = subst (λ left. left < length (roots_of (drop (k + 1) ns) (drop (k + 1) ats))) (sym w.left-is) (subst (λ rs. c.loop-place.left < length rs) rest c.loop-place.invariant.within);
            same = ap (slice_get _) w.left-is ∙ sym (ap (λ rs. slice_get rs c.loop-place.left) rest) ∙ c.loop-place.invariant.same;
          }
    ]
