use Rattle.std.proofs.Common.{◌≡◌, ◌∙◌, ℕ, ◌<◌, List, get_or, length, map, take, sym, ap, subst, arith}
use Rattle.std.specs.Prelude.{IsTrue, is_some}
use Rattle.std.proofs.lemmas.List.{get_or_default, take_all}
use Rattle.page_tables.specs.declared.address.Addr.{Addr}
use Rattle.large_objects.specs.declared.rows.LargeRow.{LargeRow}
use Rattle.large_objects.specs.Rows.{marked_at, row_at}
use Rattle.live_objects.proofs.StartLemmas.{take-next}
use Rattle.live_objects.proofs.YoungLemmas.{map-in}
use Rattle.object_collection.specs.Phases.{marked_by}
use Rattle.object_collection.proofs.Marked.{marked-found, marked-more, marked-none}
use Rattle.object_collection.proofs.phases.mark_all.Goals as goal

pub loop-at-init : goal.loop-at-init
loop-at-init c = marked-none _

pub mark-requires : goal.mark-requires
mark-requires c =
    let none : Addr = record { 0 = 0 } in
    let at : Addr = get_or c.args.large.now c.loop-at.at-index none in
    let there = map-in (λ (a : Addr). a.0) c.args.large.now at (c.loop-at.at-index, c.loop-at-test.true, get-same c.args.large.now c.loop-at.at-index none c.loop-at-test.true) in
    subst (λ (rows : List LargeRow). IsTrue (is_some (row_at rows at.0))) (sym c.loop-at.invariant)
    (marked-found (take c.loop-at.at-index c.args.large.now) c.args.larges.now at.0 (c.requires at.0 there))
  where
    get-same : (xs : List Addr) (k : ℕ) (d : Addr) → k < length xs → get_or xs k (get_or xs k d) ≡ get_or xs k d
    get-same xs k d below = get_or_default xs k (get_or xs k d) d below

pub loop-at-preserved : goal.loop-at-preserved
loop-at-preserved c =
    let none : Addr = record { 0 = 0 } in
    let i : ℕ = c.loop-at.at-index in
    let ats : List Addr = c.args.large.now in
    let at : Addr = get_or ats i none in
    c.mark.ensures.rows
    ∙ ap (λ (rows : List LargeRow). map (marked_at at.0) rows) c.loop-at.invariant
    ∙ marked-more (take i ats) at c.args.larges.now
    ∙ ap (λ (xs : List Addr). map (marked_by xs) c.args.larges.now) (sym (take-next ats i none c.loop-at-test.true))

pub returns : goal.returns
returns c =
    c.loop-at.invariant ∙ ap (λ (xs : List Addr). map (marked_by xs) c.args.larges.now) (take_all c.loop-at.at-index c.args.large.now (omega arith))
