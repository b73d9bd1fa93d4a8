-- References that were cleared, as a step over pages.
use Rattle.std.proofs.Common.{◌≡◌, ◌∙◌, ℕ, List, sym, ap, inl, inr}
use Rattle.std.proofs.lemmas.Bool.{cases_Bool}
use Rattle.cow_pages.specs.Memory.{flag_of, is_mapped, Memory}
use Rattle.object_view.proofs.Spans.{frame-same}
use Rattle.raw_objects.specs.Keeps.{Keeps}
use Rattle.raw_objects.proofs.Kept.{page-mapped}
use Rattle.weak_refs.specs.Weak.{is_page_of, ClearsSlots}
use Rattle.weak_refs.proofs.Clears.{alone-stays, frame-stays, mapped-after}

-- the pages with one of the slots may have changed
pub cleared-kept : (old new : Memory) (t : ℕ) (slots : List ℕ) → ClearsSlots old new t slots → Keeps old new t (is_page_of slots)
cleared-kept old new t slots c = record {
  mapped = same;
  alone = alone-stays old new t slots c;
  frames = λ q is one. frame-stays old new t slots c q one;
  written = λ q is. elim (cases_Bool (is_page_of slots q)) [ inl among ↦ c.written q among | inr beside ↦ ap flag_of (c.others t q (inr beside)) ∙ is ];
  others = c.others;
  live = c.live;
  own = λ q. elim (cases_Bool (is_page_of slots q)) [ inl among ↦ inr (c.alone q among) | inr beside ↦ inl (frame-same old new t t q q (c.others t q (inr beside))) ];
  room = λ all. c.in_place (λ q is. all q is (sym (same q) ∙ mapped-after old new t slots c q is));
}
  where
    same : (q : ℕ) → is_mapped new t q ≡ is_mapped old t q
    same q = page-mapped old new t q c.bytes.mapped
