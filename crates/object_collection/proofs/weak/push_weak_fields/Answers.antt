use Rattle.std.proofs.Common.{◌≡◌, ◌∙◌, ◌+◌, ◌-◌, ◌^◌, ◌∷◌, ◌++◌, ℕ, List, [], sym, ap, subst, arith}
use Rattle.std.proofs.lemmas.List.{map-append}
use Rattle.page_tables.specs.declared.address.Addr.{Addr}
use Rattle.heap_graph.specs.declared.names.Shape.{Shape}
use Rattle.heap_graph.specs.declared.names.Shape.TheVariants.{Instance}
use Rattle.object_view.specs.Objects.{reference_place}
use Rattle.live_objects.specs.Live.{addresses}
use Rattle.object_collection.specs.Weaks.{Adds}
use Rattle.object_collection.proofs.WeakLemmas.{IsWeakBefore, before-all, before-none, before-strong, before-weak, found-fits, no-place, none-last, place-found}
use Rattle.object_collection.proofs.weak.push_weak_fields.Goals as goal
use Rattle.object_collection.proofs.weak.push_weak_fields.Goals.{then-is_weak+in_ok-push, else-is_weak}

pub loop-k-init : goal.loop-k-init
loop-k-init c = before-none c.args.classes.now (Instance c.args.class) c.args.at.0 (addresses c.args.weak.now.items)

pub overflow_add-at : goal.overflow_add-at
overflow_add-at c =
    let shape : Shape = Instance c.args.class in
    let it = place-found c.args.classes.now shape c.loop-k.k (c.in-Some.offset, c.in-Some.is_weak) c.in-Some.ensures in
    omega (arith, found-fits c.args.classes.now shape c.args.at.0 c.loop-k.k c.in-Some.offset c.in-Some.is_weak it c.requires.fits)

pub loop-k-preserved : goal.loop-k-preserved
loop-k-preserved c =
    let cs = c.args.classes.now in
    let shape : Shape = Instance c.args.class in
    let at : ℕ = c.args.at.0 in
    let k : ℕ = c.loop-k.k in
    let old : List ℕ = addresses c.args.weak.now.items in
    let mid : List ℕ = addresses c.loop-k.weak.items in
    let it = place-found cs shape k (c.in-Some.offset, c.in-Some.is_weak) c.in-Some.ensures in
    elim c.if-is_weak.branch [
      | then-is_weak+in_ok-push w ↦
          let items = ap addresses w.in_ok-push.ensures.items ∙ map-append (λ (a : Addr). a.0) c.loop-k.weak.items _ ∙ ap (λ (n : ℕ). mid ++ (at + n) ∷ []) it.offset_is in
          rw w.weak-is (subst (Adds (IsWeakBefore cs shape at (k + 1)) old) (sym items) (before-weak cs shape at k it.place old mid it.is (sym it.weak_is ∙ w.if-is_weak.true) c.loop-k.invariant))
      | else-is_weak w ↦ rw w.weak-is (before-strong cs shape at k it.place old mid it.is (sym it.weak_is ∙ w.if-is_weak.false) c.loop-k.invariant)
    ]

pub returns-in_default : goal.returns-in_default
returns-in_default c =
    let cs = c.args.classes.now in
    let shape : Shape = Instance c.args.class in
    let none = no-place (reference_place cs shape c.loop-k.k) c.in_default.ensures in
    before-all cs shape c.args.at.0 c.loop-k.k (addresses c.args.weak.now.items) (addresses c.loop-k.weak.items) none c.loop-k.invariant

pub returns : goal.returns
returns c =
    let cs = c.args.classes.now in
    let shape : Shape = Instance c.args.class in
    let last : c.loop-k.k ≡ 2 ^ 64 - 1 = omega arith in
    let none = ap (reference_place cs shape) last ∙ none-last cs shape c.args.at.0 c.requires.fits in
    before-all cs shape c.args.at.0 c.loop-k.k (addresses c.args.weak.now.items) (addresses c.loop-k.weak.items) none c.loop-k.invariant
