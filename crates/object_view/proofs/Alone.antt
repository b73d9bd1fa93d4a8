-- Pages that have their frames alone, over a change of some pages.
use Rattle.std.proofs.Common.{◌≡◌, ◌≢◌, ◌⊎◌, ◌∙◌, ℕ, ◌+◌, ◌<◌, ◌≤◌, Option, Some, None, true≢false, IsTrue, refl, sym, ap, subst, inl, inr}
use Rattle.std.specs.Prelude.{option_map, is_some}
use Rattle.std.proofs.lemmas.Bool.{cases_eq}
use Rattle.cow_pages.specs.Memory.{Memory, Page, page_at, frame_at, is_mapped, is_written, flag_of, HasOneSharer, IsShared, IsSound}
use Rattle.cow_pages.specs.Only.{OnlyTable}
use Rattle.object_view.specs.Changes.{ChangesPages}
use Rattle.object_view.proofs.Spans.{frame-same, not-shared}

mapped-frame : (m : Memory) (t p : ℕ) → IsTrue (is_mapped m t p) → (f : ℕ) × (frame_at m t p ≡ Some f)
mapped-frame m t p is = by (page_at m t p) is
  where
    by : (o : Option Page) → IsTrue (is_some o) → (f : ℕ) × (option_map (λ (page : Page). page.frame) o ≡ Some f)
    by None is = absurd (true≢false (sym is))
    by (Some page) is = (page.frame, refl)

module _ (old new : Memory) (t first n : ℕ) (c : ChangesPages old new t first n) where
  -- a page is none of those that may have changed, or it is one
  side : (u q : ℕ) → ((u ≢ t) ⊎ ((q < first) ⊎ (first + n ≤ q))) ⊎ (u ≡ t)
  side u q = elim (cases_eq u t) [
    | inr other ↦ inl (inl other)
    | inl same ↦ inr same
  ]

  pub frame-beside : (u q : ℕ) → (u ≢ t) ⊎ ((q < first) ⊎ (first + n ≤ q)) → (frame_at new u q ≡ frame_at old u q) × (is_written new u q ≡ is_written old u q)
  frame-beside u q beside = (frame-same old new u u q q (c.others u q beside), ap flag_of (c.others u q beside))

  -- a page that had its frame alone keeps it
  frame-stays : (u q : ℕ) → IsTrue (is_mapped new u q) → HasOneSharer old u q → frame_at new u q ≡ frame_at old u q
  frame-stays u q mapped one = elim (side u q) [
    | inl beside ↦ (frame-beside u q beside).0
    | inr same ↦
        let frame = mapped-frame new u q mapped in
        elim (c.frames q frame.0 (ap (λ k. frame_at new k q) (sym same) ∙ frame.1)) [
          | inl kept ↦ frame.1 ∙ sym kept ∙ ap (λ k. frame_at old k q) (sym same)
          | inr copied ↦ absurd (not-shared old u q one (subst (λ k. IsShared old k q) (sym same) copied.0))
        ]
  ]

  -- and has it alone
  pub alone-stays : (u q : ℕ) → IsTrue (is_mapped old u q) → IsTrue (is_mapped new u q) → HasOneSharer old u q → (frame_at new u q ≡ frame_at old u q) × HasOneSharer new u q
  alone-stays u q was mapped one =
      let stays : frame_at new u q ≡ frame_at old u q = frame-stays u q mapped one in
      let frame = mapped-frame old u q was in (
        stays,
        λ w r same. elim (side w r) [
          | inl beside ↦ one w r (sym (frame-beside w r beside).0 ∙ same ∙ stays)
          | inr is ↦ elim (c.frames r frame.0 (ap (λ k. frame_at new k r) (sym is) ∙ same ∙ stays ∙ frame.1)) [
            | inl kept ↦ one w r (ap (λ k. frame_at old k r) is ∙ kept ∙ sym frame.1)
            | inr copied ↦ absurd (copied.1 u q frame.1)
          ]
        ],
      )

-- a page that has a free frame in place of its own has it alone
pub one-table : (old new : Memory) (t first n : ℕ) → ChangesPages old new t first n → IsSound new → OnlyTable old new t
one-table old new t first n c sound = record {
  others = λ u q apart. c.others u q (inl apart);
  live = c.live;
  own = λ p f is. elim (c.frames p f is) [
    | inl kept ↦ inl kept
    | inr copied ↦ inr (λ u q same. elim (cases_eq u t) [
      | inr apart ↦ absurd (copied.1 u q (sym (frame-same old new u u q q (c.others u q (inl apart))) ∙ same ∙ is))
      | inl here ↦ (here, sound.same_page u q t p f (same ∙ is) is)
    ])
  ];
}
