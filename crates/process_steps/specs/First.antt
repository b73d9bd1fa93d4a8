-- The first process of a machine.
use Rattle.std.specs.Prelude.{◌≡◌, ℕ, ◌*◌, false, IsTrue, [], None}
use Rattle.model_numbers.specs.Numbers.{image_base, image_length, zygote_base, zygote_length}
use Rattle.class_layout.specs.ClassList.{builtin_classes}
use Rattle.cow_pages.specs.Memory.{is_live, page_at, IsSound, Memory}
use Rattle.mark_bitmap.specs.Marks.{is_marked}
use Rattle.image_space.specs.Space as image
use Rattle.zygote_space.specs.Space as zygote
use Rattle.region_space.specs.Space.{lists_of, IsSpace}
use Rattle.process_state.specs.Cards.{NotesNothing}
use Rattle.process_state.specs.State.{Notes, State}

-- the cards are those of a window of so many bytes, and none is dirty or recorded
pub record AreFresh (base bytes : ℕ) (notes : Notes) : Type 0 where
  pub start : notes.cards.start ≡ base
  pub span : notes.cards.span ≡ bytes
  pub none : NotesNothing notes

-- a new process, whose table has no page yet
pub record IsFirst (s : State) (m : Memory) (regions number : ℕ) : Type 0 where
  pub classes : s.classes ≡ builtin_classes
  pub roots : s.roots ≡ []
  pub next : s.next ≡ number
  pub budget : s.budget ≡ regions
  pub unsealed : s.sealed ≡ false
  pub counts : (s.dumps ≡ 0) × (s.objects ≡ 0) × (s.promoted_pages ≡ 0)
  pub rows : s.rows ≡ []
  pub image_notes : AreFresh image_base image_length s.image_notes
  pub zygote_notes : AreFresh zygote_base zygote_length s.zygote_notes
  pub none_in_use : (s.regions.in_use ≡ []) × (s.regions.from ≡ []) × (s.regions.objects ≡ 0)
  pub count : s.regions.count ≡ 2 * regions
  pub space : IsSpace (lists_of s.regions)
  pub image_is : image.IsSpace s.image
  pub image_empty : (s.image.fill ≡ 0) × ((q : ℕ) → is_marked s.image.starts q ≡ false)
  pub zygote_is : zygote.IsSpace s.zygote
  pub zygote_empty : (s.zygote.segment ≡ None) × (s.zygote.fill ≡ 0) × ((q : ℕ) → is_marked s.zygote.starts q ≡ false)
  pub live : IsTrue (is_live m s.page_table)
  pub unmapped : (q : ℕ) → page_at m s.page_table q ≡ None
  pub sound : IsSound m
