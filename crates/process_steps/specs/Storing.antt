-- A store into an object of a process, as the calls that make it leave it.
use Rattle.std.specs.Prelude.{◌≡◌, ◌==◌, ◌||◌, ◌&&◌, ℕ, ◌+◌, Bool, true, false}
use Rattle.page_tables.specs.declared.address.Window.TheVariants as window
use Rattle.page_tables.specs.Address.{is_in, page_of}
use Rattle.cow_pages.specs.Memory.{IsSound}
use Rattle.card_table.specs.CardSet.{card_of}
use Rattle.class_layout.specs.declared.kind.FieldAt.{FieldAt}
use Rattle.class_layout.specs.Kinds.{is_ref}
use Rattle.class_layout.specs.Placing.{IsIn}
use Rattle.heap_graph.specs.declared.names.Content.{Content}
use Rattle.heap_graph.specs.Formed.{HasSlot}
use Rattle.heap_graph.specs.Graph.{Object}
use Rattle.heap_world.specs.Acts.{with_slot}
use Rattle.heap_world.specs.Part.{Part}
use Rattle.mod_union.specs.ModUnion.{is_noted}
use Rattle.object_view.specs.Changes.{AreWritten}
use Rattle.raw_objects.specs.Keeps.{Keeps}
use Rattle.graph_pages.specs.Pages.{PagesHold}
use Rattle.evacuate.specs.Stands.{homes_in}
use Rattle.process_state.specs.Acts.{Step}
use Rattle.process_state.specs.State.{addresses_in, Notes, State}

-- the address of a place of an object
abbrev pub place_in : State → Part → Object → FieldAt → ℕ
place_in s p o at = addresses_in s p.graph o.number + at.offset

-- if so, the card was made dirty, and else nothing changed
pub record DirtiesIf (may : Bool) (old new : Notes) (card : ℕ) : Type 0 where
  pub not : may ≡ false → new ≡ old
  pub start : new.cards.start ≡ old.cards.start
  pub span : new.cards.span ≡ old.cards.span
  pub noted : may ≡ true → (k : ℕ) → is_noted new.records new.cards k ≡ (k == card || is_noted old.records old.cards k)

-- the object's place was stored to, in its page; where a reference was stored in the zygote window, or in the image of a
-- sealed process, its card is dirty
pub record IsStore (c : Step) (p : Part) (o : Object) (at : FieldAt) (v : Content) : Type 0 where
  pub stands : IsIn o p.graph.objects
  pub slot : HasSlot p.graph.classes o.shape at
  pub rest : c.new ≡ record c.old { image_notes = c.new.image_notes; zygote_notes = c.new.zygote_notes }
  pub image_notes : DirtiesIf (is_ref at.kind && (c.old.sealed && is_in window.Image (page_of (place_in c.old p o at)))) c.old.image_notes c.new.image_notes (card_of (place_in c.old p o at))
  pub zygote_notes : DirtiesIf (is_ref at.kind && is_in window.Zygote (page_of (place_in c.old p o at))) c.old.zygote_notes c.new.zygote_notes (card_of (place_in c.old p o at))
  pub pages : PagesHold c.now c.old.page_table (homes_in c.old.regions.in_use c.old.rows) (with_slot p.graph o.number (record { at = at; value = v }))
  pub keeps : (may : ℕ → Bool) → may (page_of (place_in c.old p o at)) ≡ true → Keeps c.was c.now c.old.page_table may
  pub written : AreWritten c.now c.old.page_table (page_of (place_in c.old p o at)) 1
  pub sound : IsSound c.now
