-- What writes of one page and of several words change among the pages.
use Rattle.std.proofs.Common.{cond, ◌≡◌, ◌≢◌, ◌⊎◌, ◌∙◌, ℕ, zero, suc, ◌+◌, ◌-◌, ◌%◌, ◌<◌, ◌≤◌, Bool, true, false, List, Option, Some, None, refl, sym, ap, subst, inl, inr, arith, true≢false, IsTrue}
use Rattle.std.specs.Prelude.{option_map, Result, Ok, Err, OnOk, OnErr}
use Rattle.std.proofs.lemmas.Bool.{cases_eq, cases_lt, lt-ltb, le-ltb}
use Rattle.std.proofs.lemmas.Option.{same_Some}
use Rattle.page_tables.specs.Address.{page_of}
use Rattle.cow_pages.specs.Memory.{Memory, Page, page_at, frame_at, is_live, is_written, flag_of, HasOneSharer, IsShared, IsFree, IsSound}
use Rattle.cow_pages.specs.Change.{KeepsRoom, TakesOnCopy, WritesPage}
use Rattle.cow_pages.specs.View.{OthersSeen}
use Rattle.cow_pages.proofs.ViewLemmas.{SameView-pages}
use Rattle.object_view.specs.Changes.{pages_in, others_among, AreAlone, AreWritten, ChangesPages, WritesSpan}

pages-some : (from to : ℕ) → from < to → pages_in from to ≡ page_of (to - 1) + 1 - page_of from
pages-some from to below = ap (λ b. cond {A = ℕ} b (page_of (to - 1) + 1 - page_of from) 0) (lt-ltb from to below)

pages-none : (from : ℕ) → pages_in from from ≡ 0
pages-none from = ap (λ b. cond {A = ℕ} b (page_of (from - 1) + 1 - page_of from) 0) (le-ltb from from (omega arith))

-- the page of the next word is the last one that was written, or the one behind it
page-step : (at done : ℕ) → at % 8 ≡ 0 → done % 8 ≡ 0
    → ((page_of (at + done) + 1 ≡ page_of at + pages_in at (at + done)) × (0 < pages_in at (at + done)) × (pages_in at (at + (done + 8)) ≡ pages_in at (at + done)))
    ⊎ ((page_of (at + done) ≡ page_of at + pages_in at (at + done)) × (pages_in at (at + (done + 8)) ≡ pages_in at (at + done) + 1))
page-step at done aligned multiple = elim (cases_lt 0 done) [
  | inl some ↦
      let here = pages-some at (at + done) (omega arith) in
      let next = pages-some at (at + (done + 8)) (omega arith) in
      elim (cases_eq (page_of (at + done)) (page_of (at + done - 1))) [
        | inl same ↦ inl (omega (arith, here, same), omega (arith, here, same), omega (arith, here, next, same))
        | inr apart ↦ inr (omega (arith, here, apart), omega (arith, here, next, apart))
      ]
  | inr none ↦
      let is : done ≡ 0 = omega arith in
      let here : pages_in at (at + done) ≡ 0 = ap (pages_in at) (let e : at + done ≡ at = omega arith in e) ∙ pages-none at in
      let next = pages-some at (at + (done + 8)) (omega arith) in
      inr (omega (arith, here, is), omega (arith, here, next, is))
]

-- the page of a word lies among those of all words
pub page-within : (at done total : ℕ) → at % 8 ≡ 0 → done % 8 ≡ 0 → done + 8 ≤ total → (page_of at ≤ page_of (at + done)) × (page_of (at + done) < page_of at + pages_in at (at + total))
page-within at done total aligned multiple within = let all = pages-some at (at + total) (omega arith) in (omega arith, omega (arith, all))

pub pages-more : (at done total : ℕ) → done ≤ total → pages_in at (at + done) ≤ pages_in at (at + total)
pages-more at done total le = elim (cases_lt 0 done) [
  | inl some ↦ omega (arith, pages-some at (at + done) (omega arith), pages-some at (at + total) (omega arith))
  | inr none ↦ omega (arith, ap (pages_in at) (let e : at + done ≡ at = omega arith in e) ∙ pages-none at)
]

pub frame-same : (old new : Memory) (t u p q : ℕ) → page_at new u q ≡ page_at old t p → frame_at new u q ≡ frame_at old t p
frame-same old new t u p q same = ap (option_map (λ (page : Page). page.frame)) same

-- a page with its flag set is there
written-frame : (m : Memory) (t p : ℕ) → IsTrue (is_written m t p) → (f : ℕ) × (frame_at m t p ≡ Some f)
written-frame m t p is = by (page_at m t p) is
  where
    by : (o : Option Page) → IsTrue (flag_of o) → (f : ℕ) × (option_map (λ (page : Page). page.frame) o ≡ Some f)
    by None is = absurd (true≢false (sym is))
    by (Some page) is = (page.frame, refl)

pub others-more : (alone : ℕ → Bool) (first n m : ℕ) → n ≤ m → others_among alone first n ≤ others_among alone first m
others-more alone first zero m le = omega arith
others-more alone first (suc n) zero le = absurd (omega arith)
others-more alone first (suc n) (suc m) le = elim (cases_eq n m) [
  | inl same ↦ subst (λ k. others_among alone first (suc n) ≤ others_among alone first (suc k)) same (omega arith)
  | inr apart ↦
      let rest = others-more alone first (suc n) m (omega arith) in
      omega (arith, rest)
]

-- as many frames and leaves, and as many of them used
pub room-same : (m : Memory) → KeepsRoom m m
room-same m = record { frames = refl; leaf_count = refl; spare = refl; used = refl; used_leaves = refl }

pub room-reads : (m old : Memory) (n : ℕ) → KeepsRoom m old → KeepsRoom m (record old { reads = n })
room-reads m old n k = record { frames = k.frames; leaf_count = k.leaf_count; spare = k.spare; used = k.used; used_leaves = k.used_leaves }

pub room-after : (a b c : Memory) → KeepsRoom a b → KeepsRoom b c → KeepsRoom a c
room-after a b c one two = record {
  frames = two.frames ∙ one.frames;
  leaf_count = two.leaf_count ∙ one.leaf_count;
  spare = two.spare ∙ one.spare;
  used = two.used ∙ one.used;
  used_leaves = two.used_leaves ∙ one.used_leaves;
}

-- nothing changed
pub ChangesPages-none : (m : Memory) (t first : ℕ) → ChangesPages m m t first 0
ChangesPages-none m t first = record {
  others = λ u q apart. refl;
  live = λ u. refl;
  frames = λ p f is. inl is;
  spare = λ alone h. omega arith;
  in_place = λ alone. room-same m;
}

-- more pages may have changed
pub ChangesPages-more : (old new : Memory) (t first n m : ℕ) → n ≤ m → ChangesPages old new t first n → ChangesPages old new t first m
ChangesPages-more old new t first n m le c = record {
  others = λ u q apart. c.others u q (elim apart [
    | inl other ↦ inl other
    | inr beside ↦ inr (elim beside [ inl before ↦ inl before | inr behind ↦ inr (omega arith) ])
  ]);
  live = c.live;
  frames = c.frames;
  spare = λ alone h. omega (arith, c.spare alone h, others-more alone first n m le);
  in_place = λ alone. c.in_place (λ p low high. alone p low (omega arith));
}

pub ChangesPages-same : (old new : Memory) (t first n : ℕ) → new ≡ old → ChangesPages old new t first n
ChangesPages-same old new t first n same = subst (λ m. ChangesPages old m t first n) (sym same) (ChangesPages-more old old t first 0 n (omega arith) (ChangesPages-none old t first))

pub OthersSeen-pages : (old new : Memory) (t first n : ℕ) → ChangesPages old new t first n → OthersSeen old new t
OthersSeen-pages old new t first n c u apart = SameView-pages old new u u (λ q. c.others u q (inl apart))

pub WritesSpan-none : (m : Memory) (t at : ℕ) → WritesSpan m m t at at
WritesSpan-none m t at =
    let none = pages-none at in
    record {
      pages = subst (ChangesPages m m t (page_of at)) (sym none) (ChangesPages-none m t (page_of at));
      written = λ p low high. absurd (omega (arith, none, low, high));
      alone = λ p low high. absurd (omega (arith, none, low, high));
    }

-- a count of reads is no part of the pages
pub WritesSpan-reads : (m old : Memory) (t from to n : ℕ) → WritesSpan m old t from to → WritesSpan m (record old { reads = n }) t from to
WritesSpan-reads m old t from to n s = record {
  pages = record { others = s.pages.others; live = s.pages.live; frames = s.pages.frames; spare = s.pages.spare; in_place = λ alone. room-reads m old n (s.pages.in_place alone) };
  written = s.written;
  alone = s.alone;
}

module _ (m old : Memory) (t from to : ℕ) (s : WritesSpan m old t from to) where
  -- where a page of a table lies: it is of another table or beside those that were written, or it is one of them
  side : (u q : ℕ) → ((u ≢ t) ⊎ ((q < page_of from) ⊎ (page_of from + pages_in from to ≤ q))) ⊎ ((u ≡ t) × (page_of from ≤ q) × (q < page_of from + pages_in from to))
  side u q = elim (cases_eq u t) [
    | inr other ↦ inl (inl other)
    | inl same ↦ elim (cases_lt q (page_of from)) [
      | inl before ↦ inl (inr (inl before))
      | inr low ↦ elim (cases_lt q (page_of from + pages_in from to)) [
        | inl high ↦ inr (same, low, high)
        | inr behind ↦ inl (inr (inr behind))
      ]
    ]
  ]

  -- a page that had a frame of its own, and was not written yet, has it still
  pub alone-kept : (p : ℕ) → page_of from + pages_in from to ≤ p → HasOneSharer m t p → HasOneSharer old t p
  alone-kept p behind one u q same = elim (side u q) [
    | inl beside ↦ one u q (sym (frame-same m old u u q q (s.pages.others u q beside)) ∙ same ∙ here)
    | inr among ↦
        let frame = written-frame old t q (s.written q among.1 among.2) in
        let at_q : frame_at old t q ≡ Some frame.0 = frame.1 in
        let at_p : frame_at old t p ≡ Some frame.0 = sym same ∙ ap (λ n. frame_at old n q) among.0 ∙ at_q in
        elim (s.pages.frames q frame.0 at_q) [
          | inl kept ↦ let is = one t q (kept ∙ sym at_p ∙ here) in (among.0, is.1)
          | inr copied ↦ absurd (copied.1 t p (sym here ∙ at_p))
        ]
  ]
    where
      here : frame_at old t p ≡ frame_at m t p
      here = frame-same m old t t p p (s.pages.others t p (inr (inr behind)))

  -- a frame that no entry has now had none before
  free-before : (f : ℕ) → IsFree old f → IsFree m f
  free-before f free u q is = elim (side u q) [
    | inl beside ↦ free u q (frame-same m old u u q q (s.pages.others u q beside) ∙ is)
    | inr among ↦
        let frame = written-frame old t q (s.written q among.1 among.2) in
        elim (s.pages.frames q frame.0 frame.1) [
          | inl kept ↦
              let same : frame.0 ≡ f = same_Some frame.0 f (sym kept ∙ ap (λ n. frame_at m n q) (sym among.0) ∙ is) in
              free t q (frame.1 ∙ ap Some same)
          | inr copied ↦
              let other : (u : ℕ) × (u ≢ t) × (frame_at m u q ≡ frame_at m t q) = copied.0 in
              free other.0 q (frame-same m old other.0 other.0 q q (s.pages.others other.0 q (inl other.1)) ∙ other.2 ∙ ap (λ n. frame_at m n q) (sym among.0) ∙ is)
        ]
  ]

  shared-before : (p : ℕ) → page_of from + pages_in from to ≤ p → IsShared old t p → IsShared m t p
  shared-before p behind shared = (
    shared.0,
    shared.1,
    sym (frame-same m old shared.0 shared.0 p p (s.pages.others shared.0 p (inl shared.1))) ∙ shared.2 ∙ frame-same m old t t p p (s.pages.others t p (inr (inr behind))),
  )

module _ (old new : Memory) (t at : ℕ) (bytes : List ℕ) (w : WritesPage old new t at bytes) where
  frame-there : frame_at new t (page_of at) ≡ Some w.frame
  frame-there = ap (option_map (λ (page : Page). page.frame)) w.now

  written-there : IsTrue (is_written new t (page_of at))
  written-there = ap flag_of w.now

  -- every page but the one that was written
  page-other : (u q : ℕ) → (u ≢ t) ⊎ (q ≢ page_of at) → page_at new u q ≡ page_at old u q
  page-other u q apart = w.rest.others u q apart

  -- the frame of a page after the write
  frames-write : (p f : ℕ) → frame_at new t p ≡ Some f → (frame_at old t p ≡ Some f) ⊎ (IsShared old t p × IsFree old f)
  frames-write p f is = elim (cases_eq p (page_of at)) [
    | inr apart ↦ inl (sym (frame-same old new t t p p (page-other t p (inr apart))) ∙ is)
    | inl same ↦
        let frame : w.frame ≡ f = same_Some w.frame f (sym frame-there ∙ ap (frame_at new t) (sym same) ∙ is) in
        elim w.frame_is [
          | inl kept ↦ inl (ap (frame_at old t) same ∙ kept.1 ∙ ap Some frame)
          | inr copied ↦ inr (subst (IsShared old t) (sym same) copied.0, subst (IsFree old) frame copied.1)
        ]
  ]

  page-is : (p : ℕ) → page_of at ≤ p → p < page_of at + 1 → p ≡ page_of at
  page-is p low high = omega arith

  pub AreWritten-write : AreWritten new t (page_of at) 1
  AreWritten-write p low high = subst (λ q. IsTrue (is_written new t q)) (sym (page-is p low high)) written-there

  -- a page whose frame is known to be its own takes none
  spare-write : TakesOnCopy old new t (page_of at) → (b : Bool) → (b ≡ true → HasOneSharer old t (page_of at)) → old.spare ≤ new.spare + cond b 0 1
  spare-write takes true one = omega (arith, (takes.in_place (one refl)).spare)
  spare-write takes false one = takes.copied.spare

  pub ChangesPages-write : TakesOnCopy old new t (page_of at) → ChangesPages old new t (page_of at) 1
  ChangesPages-write takes = record {
    others = λ u q apart. page-other u q (elim apart [
      | inl other ↦ inl other
      | inr beside ↦ inr (λ same. elim beside [ inl before ↦ omega arith | inr behind ↦ omega arith ])
    ]);
    live = w.rest.live;
    frames = frames-write;
    spare = λ alone h.
        let e : page_of at + 0 ≡ page_of at = omega arith in
        let one = spare-write takes (alone (page_of at + 0)) (λ is. h (page_of at) (ap alone (sym e) ∙ is)) in
        omega (arith, one);
    in_place = λ alone. takes.in_place (alone (page_of at) (omega arith) (omega arith));
  }

module _ (m old new : Memory) (t from c : ℕ) (bytes : List ℕ) (s : WritesSpan m old t from c) (w : WritesPage old new t c bytes) (takes : TakesOnCopy old new t (page_of c)) (sound : IsSound new) where
  others-step : (n : ℕ) → page_of from + pages_in from c ≤ page_of from + n → page_of c < page_of from + n → page_of from ≤ page_of c
      → (u q : ℕ) → (u ≢ t) ⊎ ((q < page_of from) ⊎ (page_of from + n ≤ q)) → page_at new u q ≡ page_at m u q
  others-step n more within low u q apart =
      page-other old new t c bytes w u q (elim apart [
        | inl other ↦ inl other
        | inr beside ↦ inr (λ same. elim beside [ inl before ↦ omega arith | inr behind ↦ omega arith ])
      ])
      ∙ s.pages.others u q (elim apart [
        | inl other ↦ inl other
        | inr beside ↦ inr (elim beside [ inl before ↦ inl before | inr behind ↦ inr (omega arith) ])
      ])

  live-step : (u : ℕ) → is_live new u ≡ is_live m u
  live-step u = w.rest.live u ∙ s.pages.live u

  written-step : (n : ℕ) → (page_of from + n ≤ page_of from + pages_in from c) ⊎ ((page_of c ≡ page_of from + pages_in from c) × (n ≡ pages_in from c + 1)) → AreWritten new t (page_of from) n
  written-step n grown p low high = elim (cases_eq p (page_of c)) [
    | inl same ↦ subst (λ q. IsTrue (is_written new t q)) (sym same) (written-there old new t c bytes w)
    | inr apart ↦
        let before : p < page_of from + pages_in from c = elim grown [ inl none ↦ omega arith | inr one ↦ omega (arith, one.0, one.1) ] in
        ap flag_of (page-other old new t c bytes w t p (inr apart)) ∙ s.written p low before
  ]

  frames-step : (HasOneSharer old t (page_of c)) ⊎ (page_of from + pages_in from c ≤ page_of c)
      → (p f : ℕ) → frame_at new t p ≡ Some f → (frame_at m t p ≡ Some f) ⊎ (IsShared m t p × IsFree m f)
  frames-step where_c p f is = elim (frames-write old new t c bytes w p f is) [
    | inl kept ↦ s.pages.frames p f kept
    | inr copied ↦ elim (cases_eq p (page_of c)) [
      | inr apart ↦
          s.pages.frames p f (sym (frame-same old new t t p p (page-other old new t c bytes w t p (inr apart))) ∙ is)
      | inl same ↦ elim where_c [
        | inl one ↦
            let shared : IsShared old t (page_of c) = subst (IsShared old t) same copied.0 in
            absurd (shared.1 (one shared.0 (page_of c) shared.2).0)
        | inr behind ↦
            inr (subst (IsShared m t) (sym same) (shared-before m old t from c s (page_of c) behind (subst (IsShared old t) same copied.0)), free-before m old t from c s f copied.1)
      ]
    ]
  ]

  -- another word in a page that was written
  same-page : (next : ℕ) → page_of c + 1 ≡ page_of from + pages_in from c → 0 < pages_in from c → pages_in from next ≡ pages_in from c → WritesSpan m new t from next
  same-page next last some same =
      let one : HasOneSharer old t (page_of c) = s.alone (page_of c) (omega arith) (omega arith) in
      let room = takes.in_place one in
      let written : AreWritten new t (page_of from) (pages_in from next) = written-step (pages_in from next) (inl (omega (arith, same))) in
      record {
        pages = record {
          others = others-step (pages_in from next) (omega (arith, same)) (omega (arith, last, same)) (omega (arith, last, some));
          live = live-step;
          frames = frames-step (inl one);
          spare = λ alone h. rw same (omega (arith, s.pages.spare alone h, room.spare));
          in_place = λ alone. room-after m old new (s.pages.in_place (λ p low high. alone p low (omega (arith, same)))) room;
        };
        written = written;
        alone = λ p low high. sound.written_alone t p (written p low high);
      }

  -- the first word in a page
  next-page : (next : ℕ) → page_of c ≡ page_of from + pages_in from c → pages_in from next ≡ pages_in from c + 1 → WritesSpan m new t from next
  next-page next behind more =
      let written : AreWritten new t (page_of from) (pages_in from next) = written-step (pages_in from next) (inr (behind, more)) in
      let kept : HasOneSharer m t (page_of c) → HasOneSharer old t (page_of c) = alone-kept m old t from c s (page_of c) (omega (arith, behind)) in
      record {
        pages = record {
          others = others-step (pages_in from next) (omega (arith, more)) (omega (arith, behind, more)) (omega (arith, behind));
          live = live-step;
          frames = frames-step (inr (omega (arith, behind)));
          spare = λ alone h.
              let one = spare-write old new t c bytes w takes (alone (page_of from + pages_in from c)) (λ is. kept (h (page_of c) (ap alone behind ∙ is))) in
              let e : pages_in from next ≡ suc (pages_in from c) = omega (arith, more) in
              rw e (omega (arith, s.pages.spare alone h, one));
          in_place = λ alone. room-after m old new (s.pages.in_place (λ p low high. alone p low (omega (arith, more)))) (takes.in_place (kept (alone (page_of c) (omega (arith, behind)) (omega (arith, behind, more)))));
        };
        written = written;
        alone = λ p low high. sound.written_alone t p (written p low high);
      }

-- one word more
pub WritesSpan-step : (m old new : Memory) (t at done : ℕ) (bytes : List ℕ) → at % 8 ≡ 0 → done % 8 ≡ 0 → WritesPage old new t (at + done) bytes → TakesOnCopy old new t (page_of (at + done)) → IsSound new
    → WritesSpan m old t at (at + done) → WritesSpan m new t at (at + (done + 8))
WritesSpan-step m old new t at done bytes aligned multiple w takes sound s = elim (page-step at done aligned multiple) [
  | inl last ↦ same-page m old new t at (at + done) bytes s w takes sound (at + (done + 8)) last.0 last.1 last.2
  | inr behind ↦ next-page m old new t at (at + done) bytes s w takes sound (at + (done + 8)) behind.0 behind.1
]

-- the page of a piece is the last one that was written, or the one behind it
piece-step : (at done count : ℕ) → at % 8 ≡ 0 → done % 8 ≡ 0 → 0 < count → (at + done) % 4096 + count ≤ 4096
    → ((page_of (at + done) + 1 ≡ page_of at + pages_in at (at + done)) × (0 < pages_in at (at + done)) × (pages_in at (at + (done + count)) ≡ pages_in at (at + done)))
    ⊎ ((page_of (at + done) ≡ page_of at + pages_in at (at + done)) × (pages_in at (at + (done + count)) ≡ pages_in at (at + done) + 1))
piece-step at done count aligned multiple some room = elim (cases_lt 0 done) [
  | inl more ↦
      let here = pages-some at (at + done) (omega arith) in
      let next = pages-some at (at + (done + count)) (omega arith) in
      let last : page_of (at + (done + count) - 1) ≡ page_of (at + done) = omega arith in
      elim (cases_eq (page_of (at + done)) (page_of (at + done - 1))) [
        | inl same ↦ inl (omega (arith, here, same), omega (arith, here, same), omega (arith, here, next, same, last))
        | inr apart ↦ inr (omega (arith, here, apart), omega (arith, here, next, apart, last))
      ]
  | inr none ↦
      let is : done ≡ 0 = omega arith in
      let here : pages_in at (at + done) ≡ 0 = ap (pages_in at) (let e : at + done ≡ at = omega arith in e) ∙ pages-none at in
      let next = pages-some at (at + (done + count)) (omega arith) in
      let last : page_of (at + (done + count) - 1) ≡ page_of (at + done) = omega arith in
      inr (omega (arith, here, is), omega (arith, here, next, is, last))
]

-- a piece of one page more
pub WritesSpan-piece : (m old new : Memory) (t at done count : ℕ) (bytes : List ℕ) → at % 8 ≡ 0 → done % 8 ≡ 0 → 0 < count → (at + done) % 4096 + count ≤ 4096
    → WritesPage old new t (at + done) bytes → TakesOnCopy old new t (page_of (at + done)) → IsSound new → WritesSpan m old t at (at + done) → WritesSpan m new t at (at + (done + count))
WritesSpan-piece m old new t at done count bytes aligned multiple some room w takes sound s = elim (piece-step at done count aligned multiple some room) [
  | inl last ↦ same-page m old new t at (at + done) bytes s w takes sound (at + (done + count)) last.0 last.1 last.2
  | inr behind ↦ next-page m old new t at (at + done) bytes s w takes sound (at + (done + count)) behind.0 behind.1
]

-- a page that is still to be written has its own frame, where all had
pub alone-next : (m old : Memory) (t at done total : ℕ) → at % 8 ≡ 0 → done % 8 ≡ 0 → done + 8 ≤ total → WritesSpan m old t at (at + done) → AreAlone m t (page_of at) (pages_in at (at + total))
    → HasOneSharer old t (page_of (at + done))
alone-next m old t at done total aligned multiple within s alone =
    let inside = page-within at done total aligned multiple within in
    elim (page-step at done aligned multiple) [
      | inl last ↦ s.alone (page_of (at + done)) inside.0 (omega (arith, last.0))
      | inr behind ↦ alone-kept m old t at (at + done) s (page_of (at + done)) (omega (arith, behind.0)) (alone (page_of (at + done)) inside.0 inside.1)
    ]

-- a page with a frame of its own shares it with no other table
pub not-shared : (m : Memory) (t p : ℕ) → HasOneSharer m t p → IsShared m t p → ⊥
not-shared m t p one shared = shared.1 (one shared.0 p shared.2).0

-- a call that wrote in one page, or nothing
pub single-pages : {T E : Type 0} (r : Result T E) (old new : Memory) (t at p : ℕ) (bytes : List ℕ) → page_of at ≡ p → OnOk r (WritesPage old new t at bytes) → OnOk r (TakesOnCopy old new t (page_of at)) → OnErr r (new ≡ old)
    → ChangesPages old new t p 1
single-pages (Ok x) old new t at p bytes is w takes err = subst (λ q. ChangesPages old new t q 1) is (ChangesPages-write old new t at bytes w takes)
single-pages (Err e) old new t at p bytes is w takes err = ChangesPages-same old new t p 1 err
