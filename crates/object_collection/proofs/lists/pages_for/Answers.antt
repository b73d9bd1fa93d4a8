use Rattle.std.proofs.Common.{◌≡◌, ◌∙◌, ◌+◌, ◌<◌, ℕ, List, length, sym, arith}
use Rattle.std.proofs.lemmas.List.{length-map}
use Rattle.page_tables.specs.declared.address.Addr.{Addr}
use Rattle.cow_pages.specs.View.{view_of}
use Rattle.raw_objects.specs.Raws.{raw_size, Raws}
use Rattle.object_moves.specs.Copies.{at_of, sizes_at, IsYoungAt}
use Rattle.object_collection.proofs.PageLemmas.{before_next, counted-end, counted-most, counted-next, next-fits, next-opens, next-within, size-at, sizes-are, young-same}
use Rattle.object_collection.proofs.lists.pages_for.Goals as goal
use Rattle.object_collection.proofs.lists.pages_for.Goals.{then-fill-size-le-REGION_BYTES, else-fill-size-le-REGION_BYTES}

pub overflow_add-pages : goal.overflow_add-pages
overflow_add-pages c =
    let cs = c.args.classes.now in
    let raws : Raws = c.requires.0 in
    let young : List Addr = c.args.young.now in
    let i : ℕ = c.loop-at.at-index in
    let size : ℕ = c.young_size-size.result in
    let below : i < length young = omega arith in
    let is = c.young_size-size.ensures.size raws (young-same cs _ _ c.args.t.0 raws (at_of young i) c.loop-at.invariant.same (c.requires.1 i below)) in
    let before : c.if-fill-size-le-REGION_BYTES.before ≡ before_next c.loop-at.fill size = elim c.if-fill-size-le-REGION_BYTES.branch [
      | then-fill-size-le-REGION_BYTES w ↦ w.before-is ∙ sym (next-fits c.loop-at.fill size w.if-fill-size-le-REGION_BYTES.true)
      | else-fill-size-le-REGION_BYTES w ↦ w.before-is ∙ sym (next-opens c.loop-at.fill size w.if-fill-size-le-REGION_BYTES.false)
    ] in
    let sizes : List ℕ = sizes_at cs raws young in
    let within : i < length sizes = omega (arith, below, length-map young (λ (a : Addr). raw_size cs raws a.0)) in
    let next = counted-next sizes i c.loop-at.pages c.loop-at.fill size c.if-fill-size-le-REGION_BYTES.before within (size-at cs raws young i below ∙ sym is) before (c.loop-at.invariant.counted raws c.requires.1) in
    let most = counted-most sizes (i + 1) _ (c.if-fill-size-le-REGION_BYTES.before + size) (sizes-are cs _ raws young c.requires.1) c.requires.2 next in
    omega (arith, most, c.pages_up_to.ensures, c.pages_up_to-in-loop-at.ensures)

pub loop-at-preserved : goal.loop-at-preserved
loop-at-preserved c =
    let cs = c.args.classes.now in
    let young : List Addr = c.args.young.now in
    let i : ℕ = c.loop-at.at-index in
    let size : ℕ = c.young_size-size.result in
    let below : i < length young = omega arith in
    let before : c.if-fill-size-le-REGION_BYTES.before ≡ before_next c.loop-at.fill size = elim c.if-fill-size-le-REGION_BYTES.branch [
      | then-fill-size-le-REGION_BYTES w ↦ w.before-is ∙ sym (next-fits c.loop-at.fill size w.if-fill-size-le-REGION_BYTES.true)
      | else-fill-size-le-REGION_BYTES w ↦ w.before-is ∙ sym (next-opens c.loop-at.fill size w.if-fill-size-le-REGION_BYTES.false)
    ] in
    let is = λ (raws : Raws) (all : (k : ℕ) → k < length young → IsYoungAt cs (view_of c.args.frames.now c.args.t.0) raws (at_of young k)).
    c.young_size-size.ensures.size raws (young-same cs c.args.frames.now c.loop-at.frames c.args.t.0 raws (at_of young i) c.loop-at.invariant.same (all i below)) in
    record {
      same = c.young_size-size.ensures.same ∙ c.loop-at.invariant.same;
      within =
          let raws : Raws = c.requires.0 in
          omega (arith, before, next-within c.loop-at.fill size (omega (arith, is raws c.requires.1, (c.requires.1 i below).fits)));
      counted = λ raws all.
          let sizes : List ℕ = sizes_at cs raws young in
          let within : i < length sizes = omega (arith, below, length-map young (λ (a : Addr). raw_size cs raws a.0)) in
          let next = counted-next sizes i c.loop-at.pages c.loop-at.fill size c.if-fill-size-le-REGION_BYTES.before within (size-at cs raws young i below ∙ sym (is raws all)) before (c.loop-at.invariant.counted raws all) in
          rw (c.pages_up_to.ensures, c.pages_up_to-in-loop-at.ensures) next;
    }

pub returns-clause-pages : goal.returns-clause-pages
returns-clause-pages c raws all =
    let sizes : List ℕ = sizes_at c.args.classes.now raws c.args.young.now in
    counted-end sizes c.loop-at.at-index c.loop-at.pages c.loop-at.fill (omega (arith, length-map c.args.young.now (λ (a : Addr). raw_size c.args.classes.now raws a.0))) (c.loop-at.invariant.counted raws all)
