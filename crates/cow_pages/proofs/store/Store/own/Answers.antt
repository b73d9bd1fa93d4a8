use Rattle.std.proofs.Common.{◌≢◌, ◌⊎◌, ◌/◌, sym, ◌∙◌, inl, inr, arith}
use Rattle.std.proofs.lemmas.Option.{none-some}
use Rattle.cow_pages.specs.Memory.{IsShared}
use Rattle.cow_pages.specs.Store.{shown, table_grid, frame_sharers, leaf_sharers}
use Rattle.page_tables.proofs.GridLemmas.{cell-column}
use Rattle.cow_pages.proofs.CountLemmas.{count-within}
use Rattle.cow_pages.proofs.RoomLemmas.{not_shared}
use Rattle.cow_pages.proofs.SharedLemmas.{stands, leaf_held, leaf_within, frame_held}
use Rattle.cow_pages.proofs.StoreLemmas.{owns_same}
use Rattle.cow_pages.proofs.ReadLemmas.{place_live}
use Rattle.cow_pages.proofs.SlotLemmas.{shared_more, takes_none}
use Rattle.cow_pages.proofs.MarkLemmas.{owns_kept}
use Rattle.cow_pages.proofs.store.Store.own.Goals as goal
use Rattle.cow_pages.proofs.store.Store.own.Goals.{else-holders-eq1-via-then-holders-eq1+else-holders-eq1-2, else-holders-eq1-via-else-holders-eq1}

pub place-requires-clause-live : goal.place-requires-clause-live
place-requires-clause-live c =
    let s = c.args.self.now in
    let st = stands s c.args.t c.args.page c.args.entry c.requires.there in
    place_live s c.args.t (c.args.page / 1024) st.leaf st.place

pub place-requires-clause-within : goal.place-requires-clause-within
place-requires-clause-within c =
    let s = c.args.self.now in
    let st = stands s c.args.t c.args.page c.args.entry c.requires.there in
    cell-column (table_grid s) c.args.t (c.args.page / 1024) st.leaf st.place

pub unreachable-requires : goal.unreachable-requires
unreachable-requires c =
    let st = stands c.args.self.now c.args.t c.args.page c.args.entry c.requires.there in
    none-some st.leaf (sym c.in_default.is ∙ c.place.ensures ∙ st.place)

pub holders-requires : goal.holders-requires
holders-requires c =
    let s = c.args.self.now in
    leaf_within s c.in-Some.leaf (leaf_held s c.requires.store.kept.counts c.args.t (c.args.page / 1024) c.in-Some.leaf (sym c.place.ensures ∙ c.in-Some.is))

pub holders-requires-then-holders-eq1 : goal.holders-requires-then-holders-eq1
holders-requires-then-holders-eq1 c =
    let s = c.args.self.now in
    count-within s.frame_counts c.args.entry.frame (omega (arith, frame_held s c.requires.store.kept.counts c.args.t c.args.page c.args.entry c.requires.there))

pub returns-then-holders-eq1-2-clause-owns : goal.returns-then-holders-eq1-2-clause-owns
returns-then-holders-eq1-2-clause-owns c =
    owns_kept c.args.self.now c.args.t c.args.page c.in-Some.leaf c.args.entry c.requires.store.kept (sym c.place.ensures ∙ c.in-Some.is) c.requires.there
    (sym c.holders.ensures ∙ c.if-holders-eq1.true) (sym c.holders-then-holders-eq1.ensures ∙ c.if-holders-eq1-2.true)

pub returns-then-holders-eq1-2-clause-takes : goal.returns-then-holders-eq1-2-clause-takes
returns-then-holders-eq1-2-clause-takes c =
    let owns = owns_kept c.args.self.now c.args.t c.args.page c.in-Some.leaf c.args.entry c.requires.store.kept (sym c.place.ensures ∙ c.in-Some.is) c.requires.there
    (sym c.holders.ensures ∙ c.if-holders-eq1.true) (sym c.holders-then-holders-eq1.ensures ∙ c.if-holders-eq1-2.true) in
    takes_none (shown c.args.self.now) c.args.t c.args.page owns.alone

pub returns-then-holders-eq1-2-clause-leaf : goal.returns-then-holders-eq1-2-clause-leaf
returns-then-holders-eq1-2-clause-leaf c =
    owns_same c.args.self.now c.requires.store c.args.t (c.args.page / 1024) c.in-Some.leaf (sym c.place.ensures ∙ c.in-Some.is) (sym c.holders.ensures ∙ c.if-holders-eq1.true)

pub copy-requires-clause-shared : goal.copy-requires-clause-shared
copy-requires-clause-shared c =
    let s = c.args.self.now in
    let l = c.in-Some.leaf in
    let more : (leaf_sharers s l ≢ 1) ⊎ (frame_sharers s c.args.entry.frame ≢ 1) = elim c.else-holders-eq1.branch [
      | else-holders-eq1-via-then-holders-eq1+else-holders-eq1-2 w ↦ inr (λ one. w.if-holders-eq1-2.false (w.holders-then-holders-eq1.ensures ∙ one))
      | else-holders-eq1-via-else-holders-eq1 w ↦ inl (λ one. w.if-holders-eq1.false (c.holders.ensures ∙ one))
    ] in
    shared_more s c.requires.store.kept c.args.t c.args.page l c.args.entry (sym c.place.ensures ∙ c.in-Some.is) c.requires.there more

pub returns-clause-succeeds : goal.returns-clause-succeeds
returns-clause-succeeds c =
    let s = c.args.self.now in
    let l = c.in-Some.leaf in
    let more : (leaf_sharers s l ≢ 1) ⊎ (frame_sharers s c.args.entry.frame ≢ 1) = elim c.else-holders-eq1.branch [
      | else-holders-eq1-via-then-holders-eq1+else-holders-eq1-2 w ↦ inr (λ one. w.if-holders-eq1-2.false (w.holders-then-holders-eq1.ensures ∙ one))
      | else-holders-eq1-via-else-holders-eq1 w ↦ inl (λ one. w.if-holders-eq1.false (c.holders.ensures ∙ one))
    ] in
    let shared : IsShared (shown s) c.args.t c.args.page = shared_more s c.requires.store.kept c.args.t c.args.page l c.args.entry (sym c.place.ensures ∙ c.in-Some.is) c.requires.there more in
    λ either. elim either [
      | inl one ↦ absurd (not_shared (shown s) c.args.t c.args.page one shared)
      | inr some ↦ c.copy.ensures.succeeds some
    ]
