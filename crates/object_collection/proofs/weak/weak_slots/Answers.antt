use Rattle.std.proofs.Common.{ℕ, List, refl, sym, ap, subst, map, nat_eq}
use Rattle.std.specs.List.{IsDistinct}
use Rattle.object_view.specs.declared.names.Slot.{Slot}
use Rattle.live_objects.specs.Live.{addresses}
use Rattle.object_collection.specs.Listed.{IsWeakSlot}
use Rattle.object_collection.specs.Weaks.{Adds}
use Rattle.object_collection.proofs.AllWeak.{all-weak, among-as, large-readable, readable-as, young-readable}
use Rattle.object_collection.proofs.weak.weak_slots.Goals as goal

pub push_weak-requires : goal.push_weak-requires
push_weak-requires c =
    let h = c.requires.0 in
    let raws = c.requires.1 in
    let m = c.args.frames.now in
    let young = c.args.live.now.young.items in
    (raws, readable-as h.classes c.args.classes.now m m c.args.t.0 raws young c.deref.result.now c.requires.3 refl c.deref.ensures.value (young-readable h m c.args.t.0 raws young c.args.live.now.large c.requires.2))

pub push_weak-requires-2 : goal.push_weak-requires-2
push_weak-requires-2 c =
    let h = c.requires.0 in
    let raws = c.requires.1 in
    let m = c.args.frames.now in
    let ats = c.in_ok-large.large.items in (
      raws,
      readable-as h.classes c.args.classes.now m c.push_weak.new.frames c.args.t.0 raws ats c.deref-2.result.now c.requires.3 c.push_weak.ensures.same c.deref-2.ensures.value
          (large-readable h m c.args.t.0 raws c.args.live.now.young.items c.args.live.now.large c.requires.2 ats c.in_ok-large.ensures),
    )

pub push_weak_slots-requires : goal.push_weak_slots-requires
push_weak_slots-requires c = subst (λ (slots : List Slot). IsDistinct nat_eq (map (λ (slot : Slot). slot.at.0) slots)) c.requires.4 c.requires.2.can.slots.once

pub returns-clause-weak : goal.returns-clause-weak
returns-clause-weak c h raws know classes slots =
    let m = c.args.frames.now in
    let t = c.args.t.0 in
    let young = c.args.live.now.young.items in
    let large = c.args.live.now.large in
    let ats = c.in_ok-large.large.items in
    let w0 : List ℕ = addresses c.new-weak.result.items in
    let w1 : List ℕ = addresses c.push_weak.new.weak.items in
    let w2 : List ℕ = addresses c.push_weak-2.new.weak.items in
    let w3 : List ℕ = addresses c.push_weak_slots.new.weak.items in
    let one = readable-as h.classes c.args.classes.now m m t raws young c.deref.result.now classes refl c.deref.ensures.value (young-readable h m t raws young large know) in
    let two = readable-as h.classes c.args.classes.now m c.push_weak.new.frames t raws ats c.deref-2.result.now classes c.push_weak.ensures.same c.deref-2.ensures.value (large-readable h m t raws young large know ats c.in_ok-large.ensures) in
    all-weak h m t raws young large know ats c.in_ok-large.ensures w0 w1 w2 w3 (ap addresses c.new-weak.ensures.items)
    (among-as h.classes c.args.classes.now raws young c.deref.result.now w0 w1 classes c.deref.ensures.value (c.in_ok-push_weak.ensures.weak raws one))
    (among-as h.classes c.args.classes.now raws ats c.deref-2.result.now w1 w2 classes c.deref-2.ensures.value (c.in_ok-push_weak-2.ensures.weak raws two))
    (subst (λ (xs : List Slot). Adds (IsWeakSlot xs) w2 w3) (sym slots) c.in_ok-push_weak_slots.ensures)
