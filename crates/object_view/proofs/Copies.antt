-- Copies of 8 bytes at a time.
use Rattle.std.proofs.Common.{◌≡◌, ◌⊎◌, ◌∙◌, ℕ, zero, suc, ◌+◌, ◌*◌, ◌-◌, ◌<◌, ◌≤◌, List, length, get_or, refl, sym, ap, subst, inl, inr, arith}
use Rattle.std.specs.Int.{w64, to_le_bytes}
use Rattle.std.proofs.lemmas.Bool.{cases_lt, cond-false}
use Rattle.cow_pages.specs.Memory.{Memory}
use Rattle.page_tables.specs.declared.address.Window.TheVariants.{Image, Zygote}
use Rattle.page_tables.specs.Address.{page_of, is_in, is_immune}
use Rattle.cow_pages.proofs.ViewLemmas.{length-bytes_at}
use Rattle.std.specs.Prelude.{◌^◌, ◌%◌, ◌||◌, min, false}
use Rattle.cow_pages.specs.Change.{reads_after}
use Rattle.cow_pages.specs.View.{byte_at, bytes_at, view_of, WritesBytes}
use Rattle.object_view.specs.Changes.{reads_after_all, steps_from, IsCopying, WritesSpan, WritesWords}
use Rattle.object_view.proofs.Numbers.{bytes_at-nth}
use Rattle.object_view.proofs.Spans.{WritesSpan-reads}
use Rattle.object_view.proofs.Heads.{WritesWords-none, WritesWords-step, WritesWords-piece}
use Rattle.object_view.proofs.Lookups.{byte-reads}

-- one read more
reads-more : (r a n : ℕ) → reads_after_all r (steps_from a (suc n)) ≡ reads_after (reads_after_all r (steps_from a n)) (a + 8 * n)
reads-more r a zero = let e : a ≡ a + 8 * 0 = omega arith in ap (reads_after r) e
reads-more r a (suc n) =
    let e : a + 8 + 8 * n ≡ a + 8 * suc n = omega arith in
    reads-more (reads_after r a) (a + 8) n ∙ ap (reads_after (reads_after_all r (steps_from a (suc n)))) e

pub IsCopying-none : (m : Memory) (t from to : ℕ) → IsCopying m m t from to 0
IsCopying-none m t from to = record { words = WritesWords-none m t to; copied = λ b below. absurd (omega arith); reads = refl }

-- a count of reads is no part of the words
words-reads : (m old : Memory) (t at i n : ℕ) → WritesWords m old t at i → WritesWords m (record old { reads = n }) t at i
words-reads m old t at i n words = record {
  span = WritesSpan-reads m old t at (at + 8 * i) n words.span;
  bytes = record { others = λ b off. byte-reads old t n b ∙ words.bytes.others b off; mapped = words.bytes.mapped };
}

module _ (m old mid : Memory) (t from to i : ℕ) (so_far : IsCopying m old t from to i) (counts : mid ≡ record old { reads = reads_after old.reads (from + 8 * i) }) where
  -- a read of the next word changes nothing but the count
  pub words-mid : WritesWords m mid t to i
  words-mid = subst (λ (n : Memory). WritesWords m n t to i) (sym counts) (words-reads m old t to i (reads_after old.reads (from + 8 * i)) so_far.words)

  byte-mid : (b : ℕ) → byte_at mid t b ≡ byte_at old t b
  byte-mid b = ap (λ (n : Memory). byte_at n t b) counts ∙ byte-reads old t (reads_after old.reads (from + 8 * i)) b

  pub reads-mid : mid.reads ≡ reads_after_all m.reads (steps_from from (i + 1))
  reads-mid =
      ap (λ (n : Memory). n.reads) counts ∙ ap (λ n. reads_after n (from + 8 * i)) so_far.reads
      ∙ sym (reads-more m.reads from i) ∙ ap (λ n. reads_after_all m.reads (steps_from from n)) (let e : suc i ≡ i + 1 = omega arith in e)

module _ (m old mid new : Memory) (t from to size i word : ℕ) (apart : (from + size ≤ to) ⊎ (to + size ≤ from)) (within : 8 * i + 8 ≤ size) (so_far : IsCopying m old t from to i)
    (read : to_le_bytes w64 word ≡ bytes_at (view_of old t) (from + 8 * i) 8) (counts : mid ≡ record old { reads = reads_after old.reads (from + 8 * i) })
    (writes : WritesBytes (view_of mid t) (view_of new t) (to + 8 * i) (to_le_bytes w64 word)) (span : (m : Memory) → WritesSpan m mid t to (to + 8 * i) → WritesSpan m new t to (to + 8 * (i + 1)))
    (same : new.reads ≡ mid.reads) where
  before : (b : ℕ) → b < 8 * i → byte_at new t (to + b) ≡ byte_at m t (from + b)
  before b below = writes.others (to + b) (inl (omega arith)) ∙ byte-mid m old mid t from to i so_far counts (to + b) ∙ so_far.copied b below

  here : (j : ℕ) → j < 8 → byte_at new t (to + 8 * i + j) ≡ byte_at m t (from + 8 * i + j)
  here j below =
      sym (bytes_at-nth (view_of new t) (to + 8 * i) 8 j below)
      ∙ ap (λ (bs : List ℕ). get_or bs j 0) (writes.there ∙ read)
      ∙ bytes_at-nth (view_of old t) (from + 8 * i) 8 j below
      ∙ so_far.words.bytes.others (from + 8 * i + j) (elim apart [ inl low ↦ inl (omega arith) | inr high ↦ inr (omega arith) ])

  pub IsCopying-step : IsCopying m new t from to (i + 1)
  IsCopying-step = record {
    words = WritesWords-step m mid new t to i word (words-mid m old mid t from to i so_far counts) writes (span m (words-mid m old mid t from to i so_far counts).span);
    copied = λ b below. elim (cases_lt b (8 * i)) [
      | inl low ↦ before b low
      | inr high ↦
          let j : ℕ = b - 8 * i in
          ap (byte_at new t) (let e : to + b ≡ to + 8 * i + (b - 8 * i) = omega arith in e) ∙ here j (omega arith) ∙ ap (byte_at m t) (let e : from + 8 * i + (b - 8 * i) ≡ from + b = omega arith in e)
    ];
    reads = same ∙ reads-mid m old mid t from to i so_far counts;
  }

-- reads that are not counted
reads-quiet : (r at : ℕ) → is_immune at ≡ false → reads_after r at ≡ r
reads-quiet r at quiet = cond-false {A = ℕ} (is_immune at) (min (r + 1) (2 ^ 64 - 1)) r quiet

-- an address in the page of one where reads are not counted
pub quiet-along : (at k : ℕ) → at % 4096 + k < 4096 → is_immune at ≡ false → is_immune (at + k) ≡ false
quiet-along at k below quiet =
    let same : page_of (at + k) ≡ page_of at = omega arith in
    ap (λ p. is_in Image p || is_in Zygote p) same ∙ quiet

steps-quiet : (r a i n : ℕ) → ((k : ℕ) → k < n → is_immune (a + 8 * (i + k)) ≡ false) → reads_after_all r (steps_from a (i + n)) ≡ reads_after_all r (steps_from a i)
steps-quiet r a i zero quiet = ap (λ k. reads_after_all r (steps_from a k)) (let e : i + zero ≡ i = omega arith in e)
steps-quiet r a i (suc n) quiet =
    ap (λ k. reads_after_all r (steps_from a k)) (let e : i + suc n ≡ suc (i + n) = omega arith in e)
    ∙ reads-more r a (i + n) ∙ reads-quiet (reads_after_all r (steps_from a (i + n))) (a + 8 * (i + n)) (quiet n (omega arith))
    ∙ steps-quiet r a i n (λ k below. quiet k (omega arith))

module _ (m old new : Memory) (t from to size i n : ℕ) (apart : (from + size ≤ to) ⊎ (to + size ≤ from)) (within : 8 * i + 8 * n ≤ size) (so_far : IsCopying m old t from to i)
    (writes : WritesBytes (view_of old t) (view_of new t) (to + 8 * i) (bytes_at (view_of old t) (from + 8 * i) (8 * n))) (span : WritesSpan m new t to (to + 8 * (i + n)))
    (same : new.reads ≡ old.reads) (page : (k : ℕ) → k < n → is_immune (from + 8 * (i + k)) ≡ false) where
  len : length (bytes_at (view_of old t) (from + 8 * i) (8 * n)) ≡ 8 * n
  len = length-bytes_at (view_of old t) (from + 8 * i) (8 * n)

  piece-before : (b : ℕ) → b < 8 * i → byte_at new t (to + b) ≡ byte_at m t (from + b)
  piece-before b below = writes.others (to + b) (inl (omega arith)) ∙ so_far.copied b below

  piece-here : (j : ℕ) → j < 8 * n → byte_at new t (to + 8 * i + j) ≡ byte_at m t (from + 8 * i + j)
  piece-here j below =
      sym (bytes_at-nth (view_of new t) (to + 8 * i) (8 * n) j below)
      ∙ ap (λ (bs : List ℕ). get_or bs j 0) (ap (λ (k : ℕ). bytes_at (view_of new t) (to + 8 * i) k) (sym len) ∙ writes.there)
      ∙ bytes_at-nth (view_of old t) (from + 8 * i) (8 * n) j below
      ∙ so_far.words.bytes.others (from + 8 * i + j) (elim apart [ inl low ↦ inl (omega arith) | inr high ↦ inr (omega arith) ])

  -- a piece was copied as a slice
  pub IsCopying-piece : IsCopying m new t from to (i + n)
  IsCopying-piece = record {
    words = WritesWords-piece m old new t to i n (bytes_at (view_of old t) (from + 8 * i) (8 * n)) len so_far.words writes span;
    copied = λ b below. elim (cases_lt b (8 * i)) [
      | inl low ↦ piece-before b low
      | inr high ↦
          let j : ℕ = b - 8 * i in
          ap (byte_at new t) (let e : to + b ≡ to + 8 * i + (b - 8 * i) = omega arith in e) ∙ piece-here j (omega arith) ∙ ap (byte_at m t) (let e : from + 8 * i + (b - 8 * i) ≡ from + b = omega arith in e)
    ];
    reads = same ∙ so_far.reads ∙ sym (steps-quiet m.reads from i n page);
  }
