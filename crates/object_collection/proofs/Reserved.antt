-- Memory in which frames were taken holds what it held.
use Rattle.std.proofs.Common.{◌≡◌, ℕ, refl, sym, ap, subst}
use Rattle.cow_pages.specs.Memory.{IsSound, Memory}
use Rattle.cow_pages.specs.View.{byte_at, view_of, SameView}
use Rattle.object_view.specs.Seen.{RoseBy}
use Rattle.raw_objects.specs.Raws.{Raws}
use Rattle.raw_objects.proofs.Raws.{raws-seen}
use Rattle.object_collection.specs.Collects.{CanCollect, HeapState, LeavesPages}

-- other counts of frames and leaves
abbrev pub counted : Memory → Memory → Memory
counted old new = record old { frames = new.frames; leaf_count = new.leaf_count; spare = new.spare }

byte-counted : (old new : Memory) (t at : ℕ) → byte_at (counted old new) t at ≡ byte_at old t at
unfolding byte_at
byte-counted old new t at = refl

seen-counted : (old new : Memory) (t : ℕ) → SameView (view_of old t) (view_of (counted old new) t)
seen-counted old new t = record { byte = byte-counted old new t; mapped = λ at. refl }

pub can-reserved : (h : HeapState) (old new : Memory) (t : ℕ) (raws : Raws) → new ≡ counted old new → IsSound new → CanCollect h old t raws → CanCollect h new t raws
can-reserved h old new t raws is sound can =
    let s : IsSound (counted old new) = subst (λ (m : Memory). IsSound m) is sound in
    subst (λ (m : Memory). CanCollect h m t raws) (sym is) (record {
      held = record {
        live = can.held.live;
        sound = s;
        space = can.held.space;
        pages = can.held.pages;
        alone = can.held.alone;
        holds = raws-seen h.classes (view_of old t) (view_of (counted old new) t) raws can.held.holds (seen-counted old new t);
        rows = can.held.rows;
        others = can.held.others;
      };
      young = can.young;
      unmoved = can.unmoved;
      large = record { rows = can.large.rows; pages = can.large.pages; unmarked = can.large.unmarked; alone = can.large.alone; has = can.large.has; only = can.large.only };
      slots = record { exact = can.slots.exact; once = can.slots.once; alone = can.slots.alone };
      roots = can.roots;
      targets = can.targets;
    })

pub leaves-reserved : (h : HeapState) (old mid new : Memory) (t : ℕ) → mid ≡ counted old mid → LeavesPages h mid new t → LeavesPages h old new t
leaves-reserved h old mid new t is leaves =
    let l : LeavesPages h (counted old mid) new t = subst (λ (m : Memory). LeavesPages h m new t) is leaves in
    record { others = l.others; live = l.live; alone = l.alone; mapped = l.mapped; written = l.written; frames = l.frames }

pub rose-reserved : (old mid new : Memory) (n : ℕ) → mid ≡ counted old mid → RoseBy n mid.reads new.reads → RoseBy n old.reads new.reads
rose-reserved old mid new n is rose = subst (λ (r : ℕ). RoseBy n r new.reads) (ap (λ (m : Memory). m.reads) is) rose
