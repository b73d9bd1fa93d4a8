-- The words of a new object, as they are written.
use Rattle.std.proofs.Common.{◌≡◌, ◌∙◌, ℕ, ◌+◌, ◌-◌, ◌*◌, ◌%◌, ◌^◌, ◌<◌, ◌≤◌, List, length, refl, sym, ap, subst, inl, inr, arith}
use Rattle.std.specs.Int.{w64, to_le_bytes}
use Rattle.class_layout.specs.declared.kind.Kind.{Kind}
use Rattle.class_layout.specs.declared.kind.Kind.TheVariants.{Int}
use Rattle.class_layout.specs.ClassList.{Class}
use Rattle.page_tables.specs.Address.{page_of}
use Rattle.cow_pages.specs.Memory.{Memory, IsShared}
use Rattle.cow_pages.specs.View.{View, bytes_at, view_of, u32_at, WritesBytes}
use Rattle.heap_graph.specs.declared.names.Shape.{Shape}
use Rattle.heap_graph.specs.declared.names.Shape.TheVariants.{Instance, Array}
use Rattle.heap_graph.specs.Sizes.{size_in}
use Rattle.object_view.specs.declared.names.Header.{Header}
use Rattle.object_view.specs.declared.names.Header.TheVariants.{Number}
use Rattle.object_view.specs.Changes.{pages_in, AreAlone, ChangesPages, ChangesWithin, WritesSpan, WritesWords}
use Rattle.object_view.specs.Objects.{HasWords, IsSpace, Stands}
use Rattle.object_view.specs.Words.{class_word, head_end, lock_word, HasLength, IsHeader}
use Rattle.object_view.specs.Values.{no_values}
use Rattle.std.proofs.lemmas.Bool.{cases_lt}
use Rattle.model_numbers.specs.Numbers.{number_limit}
use Rattle.object_view.proofs.Numbers.{one-word, two-words}
use Rattle.object_view.proofs.Laid.{size-bounds}
use Rattle.object_view.proofs.Standing.{number-beside, space-kept, Stands-new}
use Rattle.object_view.proofs.Spans.{alone-next, not-shared, pages-more, ChangesPages-more, WritesSpan-none}

-- nothing changed
pub changes-none : (v : View) (from to : ℕ) → ChangesWithin v v from to
changes-none v from to = record { others = λ b off. refl; mapped = λ b. refl }

-- two changes, one after the other
pub changes-after : (u v w : View) (a b c d from to : ℕ) → from ≤ a → from ≤ c → b ≤ to → d ≤ to → ChangesWithin u v a b → ChangesWithin v w c d → ChangesWithin u w from to
changes-after u v w a b c d from to low_a low_c high_b high_d one two = record {
  others = λ x off.
      two.others x (elim off [ inl below ↦ inl (omega arith) | inr above ↦ inr (omega arith) ])
      ∙ one.others x (elim off [ inl below ↦ inl (omega arith) | inr above ↦ inr (omega arith) ]);
  mapped = λ x. two.mapped x ∙ one.mapped x;
}

-- a write of eight bytes
pub changes-write : (v w : View) (at n : ℕ) → WritesBytes v w at (to_le_bytes w64 n) → ChangesWithin v w at (at + 8)
changes-write v w at n writes = record { others = writes.others; mapped = writes.mapped }

pub WritesWords-none : (m : Memory) (t at : ℕ) → WritesWords m m t at 0
WritesWords-none m t at = record {
  span = subst (WritesSpan m m t at) (let e : at ≡ at + 8 * 0 = omega arith in e) (WritesSpan-none m t at);
  bytes = changes-none (view_of m t) at (at + 8 * 0);
}

-- one word more
pub WritesWords-step : (m old new : Memory) (t at i n : ℕ) → WritesWords m old t at i → WritesBytes (view_of old t) (view_of new t) (at + 8 * i) (to_le_bytes w64 n)
    → WritesSpan m new t at (at + 8 * (i + 1)) → WritesWords m new t at (i + 1)
WritesWords-step m old new t at i n words writes span = record {
  span = span;
  bytes = changes-after (view_of m t) (view_of old t) (view_of new t) at (at + 8 * i) (at + 8 * i) (at + 8 * i + 8) at (at + 8 * (i + 1)) (omega arith) (omega arith) (omega arith) (omega arith)
      words.bytes (changes-write (view_of old t) (view_of new t) (at + 8 * i) n writes);
}

-- several words more, in one write
pub WritesWords-piece : (m old new : Memory) (t at i n : ℕ) (bytes : List ℕ) → length bytes ≡ 8 * n → WritesWords m old t at i → WritesBytes (view_of old t) (view_of new t) (at + 8 * i) bytes
    → WritesSpan m new t at (at + 8 * (i + n)) → WritesWords m new t at (i + n)
WritesWords-piece m old new t at i n bytes len words writes span = record {
  span = span;
  bytes = changes-after (view_of m t) (view_of old t) (view_of new t) at (at + 8 * i) (at + 8 * i) (at + 8 * i + length bytes) at (at + 8 * (i + n)) (omega arith) (omega arith) (omega arith) (omega (arith, len))
      words.bytes (record { others = writes.others; mapped = writes.mapped });
}

-- a word can't fail where each page has a frame of its own
pub never-fails : (m old : Memory) (t at i : ℕ) (cs : List Class) (shape : Shape) → at % 8 ≡ 0 → 8 * i + 8 ≤ size_in cs shape → WritesSpan m old t at (at + 8 * i)
    → AreAlone m t (page_of at) (pages_in at (at + size_in cs shape)) → IsShared old t (page_of (at + 8 * i)) → ⊥
never-fails m old t at i cs shape aligned within span alone shared =
    not-shared old t (page_of (at + 8 * i)) (alone-next m old t at (8 * i) (size_in cs shape) aligned (omega arith) within span alone) shared

-- class word and lock word, written as one number
pub first-words : (v : View) (at : ℕ) (shape : Shape) (number : ℕ) → class_word shape < 2 ^ 32 → number < number_limit
    → bytes_at v at 8 ≡ to_le_bytes w64 (class_word shape + lock_word (Number number) * 2 ^ 32)
    → (u32_at v at ≡ class_word shape) × (u32_at v (at + 4) ≡ lock_word (Number number))
first-words v at shape number small few is = two-words v at (class_word shape) (lock_word (Number number)) small (omega arith) is

pub words-instance : (v : View) (at : ℕ) (shape : Shape) (header : Header) (class : ℕ) → shape ≡ Instance class → u32_at v at ≡ class_word shape → u32_at v (at + 4) ≡ lock_word header
    → HasWords v at shape header 8
words-instance v at shape header class is first second =
    subst (λ (s : Shape). HasWords v at s header 8) (sym is)
    (record { class_is = subst (λ (s : Shape). u32_at v at ≡ class_word s) is first; lock_is = second; length_is = tt; zeros = λ i low high. absurd (omega arith) })

pub words-array : (v w : View) (at : ℕ) (shape : Shape) (header : Header) (kind : Kind) (count : ℕ) → shape ≡ Array kind count → u32_at v at ≡ class_word shape → u32_at v (at + 4) ≡ lock_word header
    → count < 2 ^ 32 → WritesBytes v w (at + 8) (to_le_bytes w64 count) → HasWords w at shape header 16
words-array v w at shape header kind count is first second small writes =
    let changes = changes-write v w (at + 8) count writes in
    let third = one-word w (at + 8) count small writes.there in
    subst (λ (s : Shape). HasWords w at s header 16) (sym is)
    (record {
      class_is = number-beside v w (at + 8) (at + 8 + 8) Int at changes (inl (omega arith)) ∙ subst (λ (s : Shape). u32_at v at ≡ class_word s) is first;
      lock_is = number-beside v w (at + 8) (at + 8 + 8) Int (at + 4) changes (inl (omega arith)) ∙ second;
      length_is = third.0;
      zeros = λ i low high.
          let k : ℕ = i - 8 in
          ap w.byte (let e : at + i ≡ at + 8 + (i - 8) = omega arith in e) ∙ third.1 k (omega arith) (omega arith);
    })

pub instance-end : (shape : Shape) (class : ℕ) → shape ≡ Instance class → head_end shape ≡ 8
instance-end shape class is = ap head_end is

pub array-end : (shape : Shape) (kind : Kind) (count : ℕ) → shape ≡ Array kind count → head_end shape ≡ 12
array-end shape kind count is = ap head_end is

pub changes-more : (u v : View) (from to more : ℕ) → to ≤ more → ChangesWithin u v from to → ChangesWithin u v from more
changes-more u v from to more le changes = record {
  others = λ x off. changes.others x (elim off [ inl below ↦ inl below | inr above ↦ inr (omega arith) ]);
  mapped = changes.mapped;
}

pub words-pages : (old new : Memory) (t at n total : ℕ) → 8 * n ≤ total → WritesWords old new t at n → ChangesPages old new t (page_of at) (pages_in at (at + total))
words-pages old new t at n total le words =
    ChangesPages-more old new t (page_of at) (pages_in at (at + 8 * n)) (pages_in at (at + total)) (pages-more at (8 * n) total le) words.span.pages

length-kept : (v w : View) (at : ℕ) (shape : Shape) (from to : ℕ) → head_end shape ≤ from → ChangesWithin v w (at + from) to → HasLength v at shape → HasLength w at shape
length-kept v w at (Instance class) from to behind changes is = tt
length-kept v w at (Array kind count) from to behind changes is = number-beside v w (at + from) to Int (at + 8) changes (inl (omega arith)) ∙ is

-- an object whose words were written, and then zeros behind them
pub Stands-zeros : (cs : List Class) (u v w : View) (at : ℕ) (shape : Shape) (header : Header) (first total : ℕ) → at % 8 ≡ 0 → IsSpace u at (size_in cs shape) → IsHeader header
    → HasWords v at shape header first → head_end shape ≤ first → total ≡ size_in cs shape → ((b : ℕ) → v.mapped b ≡ u.mapped b) → ChangesWithin v w (at + first) (at + total)
    → ((b : ℕ) → at + first ≤ b → b < at + total → w.byte b ≡ 0) → Stands cs w at shape header no_values
Stands-zeros cs u v w at shape header first total aligned space fits words behind whole mapped changes zeros =
    let bounds = size-bounds cs shape in
    Stands-new cs w at shape header aligned (space-kept v w at (size_in cs shape) changes.mapped (space-kept u v at (size_in cs shape) mapped space)) fits
    (number-beside v w (at + first) (at + total) Int at changes (inl (omega (arith, bounds.2))) ∙ words.class_is)
    (number-beside v w (at + first) (at + total) Int (at + 4) changes (inl (omega (arith, bounds.2))) ∙ words.lock_is)
    (length-kept v w at shape first (at + total) behind changes words.length_is)
    (λ i low high. elim (cases_lt i first) [
      | inl below ↦ changes.others (at + i) (inl (omega arith)) ∙ words.zeros i low below
      | inr above ↦ zeros (at + i) (omega arith) (omega arith)
    ])
