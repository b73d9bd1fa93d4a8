-- Reads that aren't counted.
use Rattle.std.proofs.Common.{◌≡◌, ◌∙◌, ℕ, ◌+◌, ◌≤◌, true, false, cond, List, [], ◌∷◌, ◌++◌, Option, Some, None, refl, sym, ap, arith}
use Rattle.std.specs.Prelude.{◌||◌, min, ◌^◌, ◌-◌, option_map}
use Rattle.std.proofs.lemmas.Option.{none-some, same_Some}
use Rattle.std.proofs.lemmas.Bool.{and_parts, and_right, le-ltb, leb-true}
use Rattle.page_tables.specs.declared.address.Window.TheVariants.{Zygote}
use Rattle.class_layout.specs.declared.kind.FieldAt.{FieldAt}
use Rattle.cow_pages.specs.View.{View}
use Rattle.object_view.specs.Objects.{slot_at}
use Rattle.page_tables.specs.Address.{is_immune, is_in, page_of}
use Rattle.heap_graph.specs.declared.names.Shape.{Shape}
use Rattle.heap_graph.specs.declared.names.Shape.TheVariants.{Instance, Array}
use Rattle.object_view.specs.declared.names.Slot.{Slot}
use Rattle.object_view.specs.Changes.{reads_after_all, shape_reads, slot_reads}
use Rattle.raw_objects.specs.References.{in_regions}

-- reads from the first region on aren't
not-immune : (a : ℕ) → 0x40000000 ≤ a → is_immune a ≡ false
not-immune a low =
    ap (λ b. b || is_in Zygote (page_of a)) (and_right _ _ (le-ltb (page_of a) 147456 (omega (arith, low)))) ∙ and_right _ _ (le-ltb (page_of a) 262144 (omega (arith, low)))

pub read-free : (reads a : ℕ) (more : List ℕ) → 0x40000000 ≤ a → reads_after_all reads (a ∷ more) ≡ reads_after_all reads more
read-free reads a more low = ap (λ b. reads_after_all (cond b (min (reads + 1) (2 ^ 64 - 1)) reads) more) (not-immune a low)

pub regions-low : (at : ℕ) → in_regions at ≡ true → 0x40000000 ≤ at
regions-low at is = let low = leb-true 262144 (page_of at) (and_parts _ _ is).0 in omega (arith, low)

last-free : (reads at : ℕ) (found : Option Slot) → 0x40000000 ≤ at → ((s : Slot) → found ≡ Some s → at ≤ s.at.0) → reads_after_all reads (slot_reads found) ≡ reads
last-free reads at None low behind = refl
last-free reads at (Some s) low behind = read-free reads s.at.0 [] (let more = behind s refl in omega (arith, low, more))

-- a slot stands behind the beginning of its object
slot-behind : (v : View) (at : ℕ) (found : Option Slot) (place : Option FieldAt) → found ≡ option_map (slot_at v at) place → (s : Slot) → found ≡ Some s → at ≤ s.at.0
slot-behind v at found None e s is = absurd (none-some s (sym e ∙ is))
slot-behind v at found (Some p) e s is = let here : s.at.0 ≡ at + p.offset = ap (λ (x : Slot). x.at.0) (sym (same_Some (slot_at v at p) s (sym e ∙ is))) in omega (arith, here)

-- the reads of a slot of an object from the first region on
pub slot-free : (v : View) (reads at : ℕ) (shape : Shape) (found : Option Slot) (place : Option FieldAt) → 0x40000000 ≤ at → found ≡ option_map (slot_at v at) place
    → reads_after_all reads (shape_reads at shape ++ slot_reads found) ≡ reads
slot-free v reads at (Instance class) found place low e = read-free reads at (slot_reads found) low ∙ last-free reads at found low (slot-behind v at found place e)
slot-free v reads at (Array kind count) found place low e =
    read-free reads at ((at + 8) ∷ slot_reads found) low ∙ read-free reads (at + 8) (slot_reads found) (omega (arith, low)) ∙ last-free reads at found low (slot-behind v at found place e)
