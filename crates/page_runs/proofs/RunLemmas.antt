-- What mapping or releasing pages, one after the other, does to all pages.
use Rattle.std.proofs.Common.{◌≡◌, ◌≢◌, ◌⊎◌, ◌∙◌, ℕ, ◌+◌, ◌-◌, ◌≤◌, max, IsTrue, true≢false, Option, Some, None, refl, sym, ap, subst, inl, inr, arith}
use Rattle.std.specs.Prelude.{option_map, is_some}
use Rattle.std.proofs.lemmas.Bool.{cases_eq, cases_lt}
use Rattle.std.proofs.lemmas.Option.{none-some}
use Rattle.model_numbers.specs.Numbers.{page_bytes}
use Rattle.cow_pages.specs.Memory.{Memory, Page, page_at, frame_at, is_live, is_mapped, used_frames, used_leaves, HasOneSharer, IsSound}
use Rattle.page_tables.specs.Address.{page_of, offset_of}
use Rattle.cow_pages.specs.Change.{ChangesPage, MapsZeros, TakesOne, FreesFrames}
use Rattle.cow_pages.specs.Only.{OnlyTable}
use Rattle.cow_pages.specs.View.{view_of, OthersSeen}
use Rattle.cow_pages.proofs.ViewLemmas.{byte-is, byte-page, mapped-page, zeros-at, SameView-pages}
use Rattle.page_runs.specs.Runs.{IsInRun, IsBeside, MapsRun, ReleasesRun, SeesRun, LosesRun}

-- a page is none of those of the run, or it is one
pub side : (t first n u q : ℕ) → IsBeside t first n u q ⊎ ((u ≡ t) × IsInRun first n q)
side t first n u q = elim (cases_eq u t) [
  | inr other ↦ inl (inl other)
  | inl same ↦ elim (cases_lt q first) [
    | inl below ↦ inl (inr (inl below))
    | inr from ↦ elim (cases_lt q (first + n)) [
      | inl within ↦ inr (same, record { from = omega (arith, from); to = within })
      | inr behind ↦ inl (inr (inr (omega (arith, behind))))
    ]
  ]
]

-- what stands beside a run stands beside a shorter one
pub beside-shorter : (t first i k u q : ℕ) → IsBeside t first (i + k) u q → IsBeside t first i u q
beside-shorter t first i k u q (inl other) = inl other
beside-shorter t first i k u q (inr (inl below)) = inr (inl below)
beside-shorter t first i k u q (inr (inr behind)) = inr (inr (omega (arith, behind)))

-- and beside the rest of it
pub beside-later : (t first i k u q : ℕ) → IsBeside t first (i + k) u q → IsBeside t (first + i) k u q
beside-later t first i k u q (inl other) = inl other
beside-later t first i k u q (inr (inl below)) = inr (inl (omega (arith, below)))
beside-later t first i k u q (inr (inr behind)) = inr (inr (omega (arith, behind)))

-- and is none of the next page
pub beside-next : (t first i u q : ℕ) → IsBeside t first (i + 1) u q → (u ≢ t) ⊎ (q ≢ first + i)
beside-next t first i u q (inl other) = inl other
beside-next t first i u q (inr (inl below)) = inr (λ same. omega (arith, below, same))
beside-next t first i u q (inr (inr behind)) = inr (λ same. omega (arith, behind, same))

pub frame-same : (old new : Memory) (u q : ℕ) → page_at new u q ≡ page_at old u q → frame_at new u q ≡ frame_at old u q
frame-same old new u q same = ap (option_map (λ (page : Page). page.frame)) same

-- a page that is not mapped has no frame
pub frame-none : (m : Memory) (t p f : ℕ) → page_at m t p ≡ None → frame_at m t p ≡ Some f → ⊥
frame-none m t p f none is = none-some f (sym (ap (option_map (λ (page : Page). page.frame)) none) ∙ is)

-- MAPPED ONE AFTER THE OTHER

pub record IsMapping (old new : Memory) (t first n : ℕ) : Type 0 where
  pub zeros : (p : ℕ) → IsInRun first n p → MapsZeros old new t p
  pub others : (u q : ℕ) → IsBeside t first n u q → page_at new u q ≡ page_at old u q
  pub live : (u : ℕ) → is_live new u ≡ is_live old u
  pub reads : new.reads ≡ old.reads
  pub spare : old.spare ≤ new.spare + n
  pub frames_stay : old.frames ≤ new.frames
  pub leaves_stay : old.leaf_count ≤ new.leaf_count
  pub frames : new.frames ≤ old.frames + (n - old.spare)
  pub leaf_count : new.leaf_count ≤ old.leaf_count + (n - old.spare)
  pub used : used_frames new ≡ used_frames old + n

-- the pages were not mapped
abbrev pub AreFresh : Memory → ℕ → ℕ → ℕ → Type 0
AreFresh m t first n = (p : ℕ) → IsInRun first n p → page_at m t p ≡ None

pub mapping-none : (m : Memory) (t first : ℕ) → IsMapping m m t first 0
mapping-none m t first = record {
  zeros = λ p in_run. absurd (omega (arith, in_run.from, in_run.to));
  others = λ u q apart. refl;
  live = λ u. refl;
  reads = refl;
  spare = omega arith;
  frames_stay = omega arith;
  leaves_stay = omega arith;
  frames = omega arith;
  leaf_count = omega arith;
  used = omega arith;
}

-- an entry stays with its frame
pub frame-stays : (old mid : Memory) (t first n : ℕ) → AreFresh old t first n → ((u q : ℕ) → IsBeside t first n u q → page_at mid u q ≡ page_at old u q) → (u q f : ℕ) → frame_at old u q ≡ Some f → frame_at mid u q ≡ Some f
frame-stays old mid t first n fresh others u q f is = elim (side t first n u q) [
  | inl apart ↦ frame-same old mid u q (others u q apart) ∙ is
  | inr here ↦ absurd (frame-none old t q f (fresh q here.1) (ap (λ k. frame_at old k q) (sym here.0) ∙ is))
]

pub mapping-next : (old mid new : Memory) (t first n i : ℕ) → AreFresh old t first n → i ≤ n → IsMapping old mid t first i → MapsZeros mid new t (first + i) → ChangesPage mid new t (first + i) → TakesOne mid new
    → IsMapping old new t first (i + 1)
mapping-next old mid new t first n i fresh within m z change one = record {
  zeros = λ p in_run. elim (cases_eq p (first + i)) [
    | inl same ↦ subst (MapsZeros old new t) (sym same) (record {
      frame = z.frame;
      frame_is = λ u q is. z.frame_is u q (frame-stays old mid t first i (λ p here. fresh p (record { from = here.from; to = omega (arith, here.to, within) })) m.others u q z.frame is);
      now = z.now;
    })
    | inr other ↦
        let was = m.zeros p (record { from = in_run.from; to = omega (arith, in_run.to, other) }) in
        record { frame = was.frame; frame_is = was.frame_is; now = change.others t p (inr other) ∙ was.now }
  ];
  others = λ u q apart. change.others u q (beside-next t first i u q apart) ∙ m.others u q (beside-shorter t first i 1 u q apart);
  live = λ u. change.live u ∙ m.live u;
  reads = change.reads ∙ m.reads;
  spare = omega (arith, m.spare, one.spare);
  frames_stay = omega (arith, m.frames_stay, one.frames_stay);
  leaves_stay = omega (arith, m.leaves_stay, one.leaves_stay);
  frames = omega (arith, m.spare, m.frames, one.frames);
  leaf_count = omega (arith, m.spare, m.leaf_count, one.leaf_count);
  used = omega (arith, m.used, one.used);
}

pub mapping-alone : (old new : Memory) (t first n : ℕ) → IsMapping old new t first n → IsSound new → (p : ℕ) → IsInRun first n p → HasOneSharer new t p
mapping-alone old new t first n m sound p in_run u q same =
    let z = m.zeros p in_run in
    let here : frame_at new t p ≡ Some z.frame = ap (option_map (λ (page : Page). page.frame)) z.now in
    elim (cases_eq u t) [
      | inl e ↦ (e, sound.same_page u q t p z.frame (same ∙ here) here)
      | inr other ↦ absurd (z.frame_is u q (sym (frame-same old new u q (m.others u q (inl other))) ∙ same ∙ here))
    ]

pub mapping-all : (old new : Memory) (t first n : ℕ) → IsMapping old new t first n → AreFresh old t first n → IsSound new → MapsRun old new t first n
mapping-all old new t first n m fresh sound = record {
  fresh = λ p in_run. ap is_some (fresh p in_run);
  zeros = m.zeros;
  alone = mapping-alone old new t first n m sound;
  others = m.others;
  live = m.live;
  reads = m.reads;
  spare = m.spare;
  frames_stay = m.frames_stay;
  leaves_stay = m.leaves_stay;
  frames = m.frames;
  leaf_count = m.leaf_count;
  used = m.used;
}

-- as much was made free before as was lacking
pub record Reserved (old mid : Memory) (n : ℕ) : Type 0 where
  pub rest : mid ≡ record old { frames = mid.frames; leaf_count = mid.leaf_count; spare = mid.spare }
  pub spare : mid.spare ≡ max old.spare n
  pub frames : mid.frames ≡ max old.frames (used_frames old + n)
  pub leaf_count : mid.leaf_count ≡ max old.leaf_count (used_leaves old + n)

-- the same where frames and leaves were made free before
pub mapping-reserved : (old mid new : Memory) (t first n : ℕ) → IsSound old → Reserved old mid n → MapsRun mid new t first n → MapsRun old new t first n
mapping-reserved old mid new t first n sound made maps = by (subst (λ (m : Memory). MapsRun m new t first n) made.rest maps)
  where
    by : MapsRun (record old { frames = mid.frames; leaf_count = mid.leaf_count; spare = mid.spare }) new t first n → MapsRun old new t first n
    by m = record {
      fresh = m.fresh;
      zeros = λ p in_run. let z = m.zeros p in_run in record { frame = z.frame; frame_is = z.frame_is; now = z.now };
      alone = m.alone;
      others = m.others;
      live = m.live;
      reads = m.reads;
      spare = omega (arith, m.spare, made.spare);
      frames_stay = omega (arith, m.frames_stay, made.frames);
      leaves_stay = omega (arith, m.leaves_stay, made.leaf_count);
      frames = omega (arith, m.frames, made.spare, made.frames, sound.spare_is, sound.frames_counted);
      leaf_count = omega (arith, m.leaf_count, made.spare, made.leaf_count, sound.spare_is, sound.leaves_counted);
      used = m.used;
    }

pub run-seen : (old new : Memory) (t first n : ℕ) → MapsRun old new t first n → SeesRun (view_of old t) (view_of new t) first n
run-seen old new t first n m = record {
  mapped = λ at in_run. ap is_some (m.zeros (page_of at) in_run).now;
  zeros = λ at in_run. byte-is new t at _ (m.zeros (page_of at) in_run).now ∙ zeros-at page_bytes (offset_of at);
  others = λ at apart.
      let same = m.others t (page_of at) (inr apart) in
      (byte-page old new t t at same, mapped-page old new t t at same);
}

pub others-seen : (old new : Memory) (t first n : ℕ) → ((u q : ℕ) → IsBeside t first n u q → page_at new u q ≡ page_at old u q) → OthersSeen old new t
others-seen old new t first n others u apart = SameView-pages old new u u (λ q. others u q (inl apart))

pub run-only : (old new : Memory) (t first n : ℕ) → MapsRun old new t first n → OnlyTable old new t
run-only old new t first n m = record {
  others = λ u q apart. m.others u q (inl apart);
  live = m.live;
  own = λ p f is. elim (side t first n t p) [
    | inl apart ↦ inl (sym (frame-same old new t p (m.others t p apart)) ∙ is)
    | inr here ↦ inr (m.alone p here.1)
  ];
}

-- RELEASED ONE AFTER THE OTHER

pub releasing-none : (m : Memory) (t first : ℕ) → ReleasesRun m m t first 0
releasing-none m t first = record {
  gone = λ p in_run. absurd (omega (arith, in_run.from, in_run.to));
  others = λ u q apart. refl;
  live = λ u. refl;
  reads = refl;
  frames = refl;
  leaf_count = refl;
  spare = omega arith;
  used = omega arith;
}

pub releasing-next : (old mid new : Memory) (t first i : ℕ) → ReleasesRun old mid t first i → page_at new t (first + i) ≡ None → ChangesPage mid new t (first + i) → FreesFrames mid new → used_frames new + 1 ≡ used_frames mid
    → ReleasesRun old new t first (i + 1)
releasing-next old mid new t first i m gone change room used = record {
  gone = λ p in_run. elim (cases_eq p (first + i)) [
    | inl same ↦ ap (page_at new t) same ∙ gone
    | inr other ↦ change.others t p (inr other) ∙ m.gone p (record { from = in_run.from; to = omega (arith, in_run.to, other) })
  ];
  others = λ u q apart. change.others u q (beside-next t first i u q apart) ∙ m.others u q (beside-shorter t first i 1 u q apart);
  live = λ u. change.live u ∙ m.live u;
  reads = change.reads ∙ m.reads;
  frames = room.frames ∙ m.frames;
  leaf_count = room.leaf_count ∙ m.leaf_count;
  spare = omega (arith, room.spare, m.spare);
  used = omega (arith, used, m.used);
}

-- the next page is as it was
pub next-same : (old mid : Memory) (t first i : ℕ) → ReleasesRun old mid t first i → page_at mid t (first + i) ≡ page_at old t (first + i)
next-same old mid t first i m = m.others t (first + i) (inr (inr (omega arith)))

-- and has its frame alone still
pub next-alone : (old mid : Memory) (t first i : ℕ) → ReleasesRun old mid t first i → IsTrue (is_mapped old t (first + i)) → HasOneSharer old t (first + i) → HasOneSharer mid t (first + i)
next-alone old mid t first i m mapped one u q same =
    let here : frame_at mid t (first + i) ≡ frame_at old t (first + i) = frame-same old mid t (first + i) (next-same old mid t first i m) in
    let f = framed (page_at old t (first + i)) mapped in
    elim (side t first i u q) [
      | inl apart ↦ one u q (sym (frame-same old mid u q (m.others u q apart)) ∙ same ∙ here)
      | inr at ↦ absurd (frame-none mid t q f.0 (m.gone q at.1) (ap (λ k. frame_at mid k q) (sym at.0) ∙ same ∙ here ∙ f.1))
    ]
  where
    framed : (o : Option Page) → IsTrue (is_some o) → (f : ℕ) × (option_map (λ (page : Page). page.frame) o ≡ Some f)
    framed None is = absurd (true≢false (sym is))
    framed (Some page) is = (page.frame, refl)

pub run-lost : (old new : Memory) (t first n : ℕ) → ReleasesRun old new t first n → LosesRun (view_of old t) (view_of new t) first n
run-lost old new t first n m = record {
  unmapped = λ at in_run. ap is_some (m.gone (page_of at) in_run);
  others = λ at apart.
      let same = m.others t (page_of at) (inr apart) in
      (byte-page old new t t at same, mapped-page old new t t at same);
}

pub released-only : (old new : Memory) (t first n : ℕ) → ReleasesRun old new t first n → OnlyTable old new t
released-only old new t first n m = record {
  others = λ u q apart. m.others u q (inl apart);
  live = m.live;
  own = λ p f is. elim (side t first n t p) [
    | inl apart ↦ inl (sym (frame-same old new t p (m.others t p apart)) ∙ is)
    | inr here ↦ absurd (frame-none new t p f (m.gone p here.1) is)
  ];
}
