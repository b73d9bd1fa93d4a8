-- The cards of a space can be updated.
use Rattle.std.proofs.Common.{◌≡◌, ◌∙◌, ℕ, ◌+◌, true, sym, ap, subst, arith}
use Rattle.card_table.specs.CardSet.{card_of}
use Rattle.cow_pages.specs.Memory.{Memory}
use Rattle.cow_pages.specs.View.{view_of}
use Rattle.heap_graph.specs.Graph.{size_of_object}
use Rattle.heap_graph.specs.Sizes.{size_in}
use Rattle.heap_world.specs.Part.{Part}
use Rattle.mark_bitmap.specs.Marks.{is_marked, Marks}
use Rattle.raw_objects.specs.Raws.{raw_size, Raw}
use Rattle.mod_union.specs.ModUnion.{is_noted, space_of, CanUpdate, IsKnownTarget}
use Rattle.process_state.specs.Cards.{has_noted, NotesWindow}
use Rattle.process_state.specs.Slots.{raws_in}
use Rattle.process_state.specs.Stands.{StandsIn}
use Rattle.process_state.specs.State.{Notes, State}
use Rattle.process_state.proofs.Outward.{slot-card}
use Rattle.process_state.proofs.Spaces.{holds-raws, in-space, known-target, place-of, IsWindow, SpotWindow}

pub can-update : (s : State) (m : Memory) (p : Part) (k : StandsIn s m p) (sealed : p.graph.sealed ≡ true) (w : SpotWindow)
    → IsWindow s m p k w → (notes : Notes) (starts : Marks) → ((a : ℕ) → (raws_in w.has s p.graph).has a ≡ is_marked starts a) → NotesWindow w.base w.bytes notes
    → ((n : ℕ) → has_noted s (w.card n) ≡ true → is_noted notes.records notes.cards (card_of w.base + n) ≡ true)
    → CanUpdate (space_of s.classes (view_of m s.page_table) starts s.rows) notes.records notes.cards (raws_in w.has s p.graph)
can-update s m p k sealed w is_window notes starts begins within noted = record {
  held = record {
    holds = holds-raws s m p k w.has;
    begins = begins;
    targets = λ a at has is_place kind.
        let it = in-space s m p k w.has a has in
        subst (IsKnownTarget s.rows) (sym (ap (λ (r : Raw). r.values at) it.raw_is))
        (known-target s m p k it.object at it.is_in (place-of s m p k ((raws_in w.has s p.graph).raw a) it.object at it.raw_is is_place) kind);
  };
  spanned = λ a i has less.
      let it = in-space s m p k w.has a has in
      let spot = is_window.spots it.object it.is_in it.here in
      let size : raw_size s.classes (raws_in w.has s p.graph) a ≡ size_of_object p.graph.classes it.object =
      ap (λ cs. raw_size cs (raws_in w.has s p.graph) a) k.heap.stands.classes ∙ ap (λ (r : Raw). size_in p.graph.classes r.shape) it.raw_is in
      record { from = omega (arith, within.start, it.at_is, spot.low); below = omega (arith, within.start, within.span, it.at_is, spot.high, size, less) };
  noted = λ slot is.
      let it = slot-card s m p k sealed w is_window (λ c. has_noted s c ≡ true) slot is k.cards.outward in
      subst (λ card. is_noted notes.records notes.cards card ≡ true) it.1 (noted it.0 it.2);
}
