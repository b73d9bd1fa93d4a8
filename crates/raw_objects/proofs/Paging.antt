-- Pages that are mapped or released beside the objects.
use Rattle.std.proofs.Common.{◌≡◌, ◌∙◌, ℕ, ◌+◌, ◌<◌, Bool, true, false, List, None, refl, sym, ap, inl, inr}
use Rattle.std.specs.Prelude.{is_some}
use Rattle.std.proofs.lemmas.Bool.{and_parts, cases_lt, cases_Bool, true≢false}
use Rattle.class_layout.specs.ClassList.{Class}
use Rattle.page_tables.specs.Address.{page_of}
use Rattle.cow_pages.specs.Memory.{Memory, is_mapped, page_at}
use Rattle.cow_pages.specs.View.{view_of, SameBeside, View}
use Rattle.cow_pages.proofs.ViewLemmas.{byte-page, mapped-page}
use Rattle.page_runs.specs.Runs.{MapsRun}
use Rattle.object_view.proofs.Standing.{Stands-copied}
use Rattle.raw_objects.specs.Raws.{among, raw_size, HoldsRaws, IsOffPage, Raw, Raws}

-- objects stand beside a page that changed
pub raws-paged : (cs : List Class) (v w : View) (raws : Raws) (p : ℕ) → HoldsRaws cs v raws → SameBeside v w p → IsOffPage cs raws p → HoldsRaws cs w raws
raws-paged cs v w raws p h beside off = record {
  known = h.known;
  stands = λ a is.
      let r : Raw = raws.raw a in
      let s = h.stands a is in
      Stands-copied cs v w a a r.shape r.header r.values s s.aligned
      (record { below = s.space.below; mapped = λ i lt. (beside (a + i) (off a i is lt)).1 ∙ s.space.mapped i lt })
      (λ i lt. (beside (a + i) (off a i is lt)).0);
  apart = h.apart;
}

-- objects stand beside all pages that are gone
pub raws-gone : (cs : List Class) (v w : View) (raws : Raws) (gone : ℕ → Bool) → HoldsRaws cs v raws → ((p : ℕ) → gone p ≡ true → IsOffPage cs raws p)
    → ((at : ℕ) → gone (page_of at) ≡ false → (w.byte at ≡ v.byte at) × (w.mapped at ≡ v.mapped at)) → HoldsRaws cs w raws
raws-gone cs v w raws gone h off beside = record {
  known = h.known;
  stands = λ a is.
      let r : Raw = raws.raw a in
      let s = h.stands a is in
      Stands-copied cs v w a a r.shape r.header r.values s s.aligned
      (record { below = s.space.below; mapped = λ i lt. (beside (a + i) (there a i is lt)).1 ∙ s.space.mapped i lt })
      (λ i lt. (beside (a + i) (there a i is lt)).0);
  apart = h.apart;
}
  where
    there : (a i : ℕ) → raws.has a ≡ true → i < raw_size cs raws a → gone (page_of (a + i)) ≡ false
    there a i is lt = elim (cases_Bool (gone (page_of (a + i)))) [ inl lost ↦ absurd (off (page_of (a + i)) lost a i is lt refl) | inr kept ↦ kept ]

-- no object has a byte in a page that is not mapped
pub off-unmapped : (cs : List Class) (m : Memory) (t p : ℕ) (raws : Raws) → HoldsRaws cs (view_of m t) raws → page_at m t p ≡ None → IsOffPage cs raws p
off-unmapped cs m t p raws h none a i is lt e = true≢false (sym ((h.stands a is).space.mapped i lt) ∙ ap (λ q. is_some (page_at m t q)) e ∙ ap (λ o. is_some o) none)

-- objects stand beside pages that were mapped one directly behind the other
pub raws-run : (cs : List Class) (old new : Memory) (t first n : ℕ) (raws : Raws) → HoldsRaws cs (view_of old t) raws → MapsRun old new t first n → HoldsRaws cs (view_of new t) raws
raws-run cs old new t first n raws h run = record {
  known = h.known;
  stands = λ a is.
      let r : Raw = raws.raw a in
      let s = h.stands a is in
      Stands-copied cs (view_of old t) (view_of new t) a a r.shape r.header r.values s s.aligned
      (record { below = s.space.below; mapped = λ i lt. mapped-page old new t t (a + i) (same (a + i) (s.space.mapped i lt)) ∙ s.space.mapped i lt })
      (λ i lt. byte-page old new t t (a + i) (same (a + i) (s.space.mapped i lt)));
  apart = h.apart;
}
  where
    -- what was mapped before is none of the pages
    same : (b : ℕ) → is_mapped old t (page_of b) ≡ true → page_at new t (page_of b) ≡ page_at old t (page_of b)
    same b mapped = run.others t (page_of b) (inr (elim (cases_lt (page_of b) first) [
      | inl below ↦ inl below
      | inr from ↦ elim (cases_lt (page_of b) (first + n)) [
        | inl to ↦ absurd (true≢false (sym mapped ∙ run.fresh (page_of b) (record { from = from; to = to })))
        | inr behind ↦ inr behind
      ]
    ]))

-- fewer objects are held
pub raws-among : (cs : List Class) (v : View) (raws : Raws) (test : ℕ → Bool) → HoldsRaws cs v raws → HoldsRaws cs v (among raws test)
raws-among cs v raws test h = record {
  known = λ a is. h.known a (and_parts (raws.has a) (test a) is).0;
  stands = λ a is. h.stands a (and_parts (raws.has a) (test a) is).0;
  apart = λ a b is is' lt. h.apart a b (and_parts (raws.has a) (test a) is).0 (and_parts (raws.has b) (test b) is').0 lt;
}
