-- What the calls of a promotion give together.
use Rattle.std.proofs.Common.{◌≡◌, ◌∙◌, ℕ, Bool, true, List, length, sum, sym, ap}
use Rattle.page_tables.specs.declared.address.Addr.{Addr}
use Rattle.page_tables.specs.declared.address.Window.TheVariants.{Regions}
use Rattle.page_tables.specs.Address.{is_in}
use Rattle.std.proofs.lemmas.Bool.{or_left, or_right}
use Rattle.cow_pages.specs.Memory.{Memory}
use Rattle.object_view.specs.declared.names.Slot.{Slot}
use Rattle.raw_objects.specs.Keeps.{Keeps}
use Rattle.raw_objects.specs.Raws.{Raws}
use Rattle.region_space.specs.Space.{lists_of}
use Rattle.live_objects.specs.Live.{addresses}
use Rattle.object_moves.specs.Copies.{moved, sizes_at, AreMoved, HoldsRegions}
use Rattle.object_collection.specs.Collects.{may_change, HeapState}
use Rattle.object_collection.specs.Phases.{Turning}
use Rattle.object_collection.proofs.Facts.{may-young}
use Rattle.zygote_space.specs.Space as zygote
use Rattle.object_promotion.specs.Promotes.{in_segment, spots_for}
use Rattle.object_promotion.specs.Phases.{IsOpened}
use Rattle.object_promotion.proofs.Copied.{may, HaveMoved}

-- the lists of a plan, as slices
pub same-plan : (p : Turning) (young large : List Addr) (slots : List Slot) → young ≡ p.young → large ≡ p.large → slots ≡ p.slots → p ≡ record { young = young; large = large; slots = slots }
same-plan p young large slots a b c =
    ap (λ (x : List Addr). record { young = x; large = p.large; slots = p.slots }) (sym a)
    ∙ ap (λ (x : List Addr). record { young = young; large = x; slots = p.slots }) (sym b)
    ∙ ap (λ (x : List Slot). record { young = young; large = large; slots = x }) (sym c)

pub have-moved : (h : HeapState) (m m1 m2 : Memory) (t : ℕ) (raws : Raws) (z z1 : zygote.Space) (plan : Turning) (ok : IsOpened h m m1 t raws z z1 plan) (tos : List Addr)
    → HoldsRegions h.classes m2 t (lists_of h.regions) (moved raws plan.young tos (length plan.young)) → AreMoved raws (moved raws plan.young tos (length plan.young)) plan.young tos (length plan.young)
    → addresses tos ≡ spots_for z1.fill (sizes_at h.classes raws plan.young)
    → ((test : ℕ → Bool) → ((p : ℕ) → is_in Regions p ≡ true → test p ≡ true) → ((p : ℕ) → in_segment z1.fill (sum (sizes_at h.classes raws plan.young)) p ≡ true → test p ≡ true) → Keeps m1 m2 t test)
    → HaveMoved h m m1 t raws z z1 plan ok m2 tos
have-moved h m m1 m2 t raws z z1 plan ok tos held moves spots keeps =
    let total : ℕ = sum (sizes_at h.classes raws plan.young) in
    record {
      held = held;
      moves = moves;
      spots = spots ∙ ap (λ (n : ℕ). spots_for n (sizes_at h.classes raws plan.young)) ok.opens.fill;
      keeps = keeps (may h m m1 t raws z z1 plan ok) (λ p inside. or_left (may_change h p) (in_segment z.fill total p) (may-young h m t raws ok.can.can p inside))
          (λ p is. or_right (may_change h p) (in_segment z.fill total p) (ap (λ (n : ℕ). in_segment n total p) (sym ok.opens.fill) ∙ is));
    }
