-- What holds after either outcome of a call, and what a reserve leaves.
use Rattle.std.proofs.Common.{◌≡◌, ℕ, ◌≤◌, length, sym, ap, ◌∙◌, arith}
use Rattle.std.specs.Prelude.{Result, Ok, Err, OnErr, OnOk, min}
use Rattle.cow_pages.specs.declared.store.Store.{Store}
use Rattle.cow_pages.specs.Memory.{Memory, HasOneSharer, IsShared}
use Rattle.cow_pages.specs.Change.{KeepsRoom, FreesFrames}
use Rattle.cow_pages.specs.Store.{shown, IsStore}
use Rattle.cow_pages.proofs.SoundLemmas.{counted, leaves_counted, leaf_total}

-- a page whose frame has one sharer shares it with no other
pub not_shared : (m : Memory) (t p : ℕ) → HasOneSharer m t p → IsShared m t p → ⊥
not_shared m t p one other = other.1 (one other.0 p other.2).0

-- what holds holds after an error
pub on_err : {T E P : Type 0} (r : Result T E) → P → OnErr r P
on_err (Ok x) p = tt
on_err (Err e) p = p

-- what two facts say together after a success
pub on_ok_both : {T E P Q R : Type 0} (r : Result T E) → (P → Q → R) → OnOk r P → OnOk r Q → OnOk r R
on_ok_both (Ok x) f p q = f p q
on_ok_both (Err e) f p q = tt

-- what follows from either outcome
pub by_result : {T E P Q R : Type 0} (r : Result T E) → OnOk r P → OnErr r Q → (P → R) → (Q → R) → R
by_result (Ok x) p q f g = f p
by_result (Err e) p q f g = g q

-- a memory that differs in its frames and leaves alone
pub rest_of : (m old : Memory) (frames leaves spare : ℕ) → m ≡ record old { frames = frames; leaf_count = leaves; spare = spare } → m ≡ record old { frames = m.frames; leaf_count = m.leaf_count; spare = m.spare }
rest_of m old frames leaves spare is =
    is ∙ ap (λ (n : ℕ). record old { frames = n; leaf_count = leaves; spare = spare }) (sym (ap (λ (it : Memory). it.frames) is))
    ∙ ap (λ (n : ℕ). record old { frames = m.frames; leaf_count = n; spare = spare }) (sym (ap (λ (it : Memory). it.leaf_count) is))
    ∙ ap (λ (n : ℕ). record old { frames = m.frames; leaf_count = m.leaf_count; spare = n }) (sym (ap (λ (it : Memory). it.spare) is))

-- as many frames and leaves, and as many of them free: as many are used
pub keeps_room : (s new : Store) → IsStore s → IsStore new → length new.frames.items ≡ length s.frames.items → length new.leaf_counts.counts ≡ length s.leaf_counts.counts → new.frame_counts.spare ≡ s.frame_counts.spare
    → new.leaf_counts.spare ≡ s.leaf_counts.spare → KeepsRoom (shown s) (shown new)
keeps_room s new store also frames leaves frame_spare leaf_spare = record {
  frames = frames;
  leaf_count = leaf_total new also.kept ∙ leaves ∙ sym (leaf_total s store.kept);
  spare = ap (λ (n : ℕ). min n new.leaf_counts.spare) frame_spare ∙ ap (λ (n : ℕ). min s.frame_counts.spare n) leaf_spare;
  used = omega (arith, counted s store.kept store.room, counted new also.kept also.room, frames, frame_spare);
  used_leaves = omega (arith, leaves_counted s store.kept store.room, leaves_counted new also.kept also.room, leaves, leaf_spare);
}

-- and no fewer of them free: no more are used
pub frees_frames : (s new : Store) → IsStore s → IsStore new → length new.frames.items ≡ length s.frames.items → length new.leaf_counts.counts ≡ length s.leaf_counts.counts → s.frame_counts.spare ≤ new.frame_counts.spare
    → s.leaf_counts.spare ≤ new.leaf_counts.spare → FreesFrames (shown s) (shown new)
frees_frames s new store also frames leaves frame_spare leaf_spare = record {
  frames = frames;
  leaf_count = leaf_total new also.kept ∙ leaves ∙ sym (leaf_total s store.kept);
  spare = omega (arith, frame_spare, leaf_spare);
  used = omega (arith, counted s store.kept store.room, counted new also.kept also.room, frames, frame_spare);
  used_leaves = omega (arith, leaves_counted s store.kept store.room, leaves_counted new also.kept also.room, leaves, leaf_spare);
}
