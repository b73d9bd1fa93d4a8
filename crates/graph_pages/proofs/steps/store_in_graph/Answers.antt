use Rattle.std.proofs.Common.{◌≡◌, ◌∙◌, ℕ, true, refl, sym, ap, subst, to_z, of_z}
use Rattle.std.specs.Int.{w64}
use Rattle.std.proofs.lemmas.Int.{to_z-of_z}
use Rattle.std.proofs.lemmas.Result.{on_ok_weaker}
use Rattle.cow_pages.specs.View.{view_of}
use Rattle.object_view.specs.Objects.{IsPlace}
use Rattle.raw_objects.specs.Raws.{stored, HoldsRaws, Raw, Raws}
use Rattle.address_table.specs.Computed.{table_of}
use Rattle.graph_pages.specs.Holds.{raws_under}
use Rattle.graph_pages.proofs.Graphs.{graph-fits, graph-raws, tells-apart}
use Rattle.graph_pages.proofs.Held.{held-stored, storable}
use Rattle.graph_pages.proofs.Numbers.{numbers-differ}
use Rattle.graph_pages.proofs.Stored.{graph-stored}
use Rattle.graph_pages.proofs.steps.store_in_graph.Goals as goal

pub store_value-requires-clause-below : goal.store_value-requires-clause-below
store_value-requires-clause-below c =
    let held = c.requires.held in (storable c.args.frames.now c.args.t.0 c.args.at.0 c.args.kind c.args.offset held.1 held.0 held.2 held.3 held.4 held.5).below

pub store_value-requires-clause-aligned : goal.store_value-requires-clause-aligned
store_value-requires-clause-aligned c =
    let held = c.requires.held in (storable c.args.frames.now c.args.t.0 c.args.at.0 c.args.kind c.args.offset held.1 held.0 held.2 held.3 held.4 held.5).aligned

pub store_value-requires-clause-mapped : goal.store_value-requires-clause-mapped
store_value-requires-clause-mapped c =
    let held = c.requires.held in (storable c.args.frames.now c.args.t.0 c.args.at.0 c.args.kind c.args.offset held.1 held.0 held.2 held.3 held.4 held.5).mapped

pub returns-clause-held : goal.returns-clause-held
returns-clause-held c =
    let e : to_z w64 (of_z w64 c.args.v) ≡ c.args.v = to_z-of_z w64 c.args.v c.ranges.v in
    on_ok_weaker c.store_value.result (λ step g homes o place content formed h is value.
    let t : ℕ = c.args.t.0 in
    let table : ℕ → ℕ = table_of homes g in
    let raws : Raws = raws_under table g.objects in
    let apart = tells-apart g.classes (view_of c.args.frames.now t) table g.objects h.objects (numbers-differ 0 g.next g.objects formed.numbers) in
    let it = graph-fits g.classes table g.objects apart o is.is_in in
    let now : HoldsRaws g.classes (view_of c.store_value.new.frames t) (stored raws c.args.at.0 c.args.offset c.args.v) =
    subst (λ z. HoldsRaws g.classes (view_of c.store_value.new.frames t) (stored raws c.args.at.0 c.args.offset z)) e
    (step g.classes raws place (graph-raws g.classes _ table g.objects h.objects) (ap raws.has (sym is.at_is) ∙ it.0)
    (subst (λ (r : Raw). IsPlace g.classes r.shape c.args.kind c.args.offset place) (sym (ap raws.raw (sym is.at_is) ∙ it.1)) is.is_place)) in
    held-stored c.args.frames.now c.store_value.new.frames t homes g o.number (record { at = place; value = content }) h (c.store_value.ensures.keeps (λ p. true) refl).mapped
    (graph-stored g.classes table g.objects apart o is.is_in (record { at = place; value = content }) c.args.v value _
    (subst (λ a. HoldsRaws g.classes (view_of c.store_value.new.frames t) (stored raws a place.offset c.args.v)) (sym is.at_is)
    (subst (λ n. HoldsRaws g.classes (view_of c.store_value.new.frames t) (stored raws c.args.at.0 n c.args.v)) (sym is.is_place.offset_is) now)))) c.store_value.ensures.held
