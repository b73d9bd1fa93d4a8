-- Which pages a step leaves as they were.
use Rattle.std.proofs.Common.{◌≡◌, ◌⊎◌, ◌∙◌, Bool, true, false, Option, Some, None, ℕ, ◌*◌, ◌+◌, ◌-◌, ◌<◌, ◌≤◌, refl, cond, inl, inr, IsTrue, sym, ap, subst, arith}
use Rattle.std.specs.Prelude.{is_some, option_map, Result, OnOk, OnErr}
use Rattle.std.proofs.lemmas.Bool.{cases_eq, cases_lt, le-ltb, lt-ltb, true≢false}
use Rattle.std.proofs.lemmas.Result.{on_err_weaker, on_ok_weaker}
use Rattle.class_layout.specs.declared.kind.Kind.{Kind}
use Rattle.page_tables.specs.Address.{page_of}
use Rattle.cow_pages.specs.Memory.{Memory, Page, frame_at, is_mapped, is_written, page_at, HasOneSharer, IsFree, IsSound}
use Rattle.cow_pages.specs.Only.{OnlyTable}
use Rattle.cow_pages.specs.View.{view_of}
use Rattle.object_view.specs.Changes.{pages_in, AreWritten, ChangesPages, PutsNumber, WritesWords}
use Rattle.object_view.specs.Objects.{IsSpace}
use Rattle.object_view.proofs.Alone.{alone-stays, frame-beside}
use Rattle.object_view.proofs.Outcomes.{either, on_ok_both}
use Rattle.object_view.proofs.Spans.{room-after, room-reads, room-same}
use Rattle.raw_objects.specs.Keeps.{Covers, Keeps}

-- the same addresses are mapped, so the same pages are
pub page-mapped : (old new : Memory) (t q : ℕ) → ((b : ℕ) → (view_of new t).mapped b ≡ (view_of old t).mapped b) → is_mapped new t q ≡ is_mapped old t q
page-mapped old new t q same =
    let e : page_of (q * 4096) ≡ q = omega arith in
    ap (is_mapped new t) (sym e) ∙ same (q * 4096) ∙ ap (is_mapped old t) e

-- each page of a space is mapped
pub space-page : (m : Memory) (t at size p : ℕ) → IsSpace (view_of m t) at size → 0 < size → page_of at ≤ p → p < page_of at + pages_in at (at + size) → IsTrue (is_mapped m t p)
space-page m t at size p space some low high =
    let count : pages_in at (at + size) ≡ page_of (at + size - 1) + 1 - page_of at = ap (λ b. cond {A = ℕ} b (page_of (at + size - 1) + 1 - page_of at) 0) (lt-ltb at (at + size) (omega arith)) in
    elim (cases_eq p (page_of at)) [
      | inl e ↦
          let same : page_of (at + 0) ≡ p = omega (arith, e) in
          ap (is_mapped m t) (sym same) ∙ space.mapped 0 some
      | inr ne ↦
          let low' : at ≤ p * 4096 = omega arith in
          let high' : p * 4096 < at + size = omega (arith, count) in
          let same : page_of (at + (p * 4096 - at)) ≡ p = omega arith in
          ap (is_mapped m t) (sym same) ∙ space.mapped (p * 4096 - at) (omega arith)
    ]

space-pages : (m : Memory) (t at size : ℕ) → IsSpace (view_of m t) at size → (p : ℕ) → page_of at ≤ p → p < page_of at + pages_in at (at + size) → IsTrue (is_mapped m t p)
space-pages m t at size space p low high = elim (cases_lt 0 size) [
  | inl some ↦ space-page m t at size p space some low high
  | inr none ↦
      let count : pages_in at (at + size) ≡ 0 = ap (λ b. cond {A = ℕ} b (page_of (at + size - 1) + 1 - page_of at) 0) (le-ltb at (at + size) (omega (arith, none))) in
      absurd (omega (arith, count, low, high))
]

pub object-page : (m : Memory) (t at size : ℕ) → IsSpace (view_of m t) at size → 0 < size → IsTrue (is_mapped m t (page_of at))
object-page m t at size space some = let same : at + 0 ≡ at = omega arith in ap (λ b. is_mapped m t (page_of b)) (sym same) ∙ space.mapped 0 some

-- a page whose frame was copied has it alone
copied-alone : (old new : Memory) (t first n p f : ℕ) → ChangesPages old new t first n → IsSound new → frame_at new t p ≡ Some f → IsFree old f → HasOneSharer new t p
copied-alone old new t first n p f pages sound is free u q same =
    let frame : frame_at new u q ≡ Some f = same ∙ is in
    elim (cases_eq u t) [
      | inr other ↦ absurd (free u q (ap (λ o. option_map (λ (page : Page). page.frame) o) (sym (pages.others u q (inl other))) ∙ frame))
      | inl e ↦ (e, sound.same_page u q t p f frame is)
    ]

own-page : (old new : Memory) (t first n : ℕ) → ChangesPages old new t first n → IsSound new → ((q : ℕ) → is_mapped new t q ≡ is_mapped old t q) → (q : ℕ) → (frame_at new t q ≡ frame_at old t q) ⊎ HasOneSharer new t q
own-page old new t first n pages sound same q = by (page_at new t q) refl (page_at old t q) refl (same q)
  where
    by : (o : Option Page) → page_at new t q ≡ o → (b : Option Page) → page_at old t q ≡ b → is_mapped new t q ≡ is_mapped old t q → (frame_at new t q ≡ frame_at old t q) ⊎ HasOneSharer new t q
    by None e None e' m = inl (ap (λ o. option_map (λ (page : Page). page.frame) o) (e ∙ sym e'))
    by None e (Some page) e' m = absurd (true≢false (sym (ap is_some e') ∙ sym m ∙ ap is_some e))
    by (Some page) e b e' m =
        let frame : frame_at new t q ≡ Some page.frame = ap (λ o. option_map (λ (it : Page). it.frame) o) e in
        elim (pages.frames q page.frame frame) [
          | inl kept ↦ inl (frame ∙ sym kept)
          | inr copied ↦ inr (copied-alone old new t first n q page.frame pages sound frame copied.1)
        ]

-- nothing was done
pub keeps-none : (m : Memory) (t : ℕ) (may : ℕ → Bool) → Keeps m m t may
keeps-none m t may = record { mapped = λ q. refl; alone = λ q is one. one; frames = λ q is one. refl; written = λ q is. is; others = λ u q off. refl; live = λ u. refl; own = λ q. inl refl; room = λ all. room-same m }

pub keeps-same : (old new : Memory) (t : ℕ) (may : ℕ → Bool) → new ≡ old → Keeps old new t may
keeps-same old new t may e = subst (λ m. Keeps old m t may) (sym e) (keeps-none old t may)

-- only the count of reads changed
pub keeps-reads : (old : Memory) (t n : ℕ) (may : ℕ → Bool) → Keeps old (record old { reads = n }) t may
keeps-reads old t n may = record { mapped = λ q. refl; alone = λ q is one. one; frames = λ q is one. refl; written = λ q is. is; others = λ u q off. refl; live = λ u. refl; own = λ q. inl refl; room = λ all. room-reads old old n (room-same old) }

pub keeps-read : (old new : Memory) (t n : ℕ) (may : ℕ → Bool) → new ≡ record old { reads = n } → Keeps old new t may
keeps-read old new t n may e = subst (λ m. Keeps old m t may) (sym e) (keeps-reads old t n may)

no-frame : (o : Option Page) → is_some o ≡ false → option_map (λ (page : Page). page.frame) o ≡ None
no-frame None absent = refl
no-frame (Some page) absent = absurd (true≢false absent)

unmapped : (m : Memory) (t q : ℕ) → is_mapped m t q ≡ false → frame_at m t q ≡ None
unmapped m t q absent = no-frame (page_at m t q) absent

-- one step after the other
pub keeps-then : (a b c : Memory) (t : ℕ) (may : ℕ → Bool) → Keeps a b t may → Keeps b c t may → Keeps a c t may
keeps-then a b c t may one two = record {
  mapped = λ q. two.mapped q ∙ one.mapped q;
  alone = λ q is alone. two.alone q (one.mapped q ∙ is) (one.alone q is alone);
  frames = λ q is alone. two.frames q (one.mapped q ∙ is) (one.alone q is alone) ∙ one.frames q is alone;
  written = λ q is. two.written q (one.written q is);
  others = λ u q off. two.others u q off ∙ one.others u q off;
  live = λ u. two.live u ∙ one.live u;
  own = λ q. elim (two.own q) [
    | inr mine ↦ inr mine
    | inl same ↦ elim (one.own q) [
      | inl before ↦ inl (same ∙ before)
      | inr mine ↦ by q same mine (is_mapped b t q) refl
    ]
  ];
  room = λ all. room-after a b c (one.room all)
      (two.room (λ q is mapped. let before : IsTrue (is_mapped a t q) = sym (one.mapped q) ∙ mapped in one.alone q before (all q is before)));
}
  where
    by : (q : ℕ) → frame_at c t q ≡ frame_at b t q → HasOneSharer b t q → (m : Bool) → is_mapped b t q ≡ m → (frame_at c t q ≡ frame_at a t q) ⊎ HasOneSharer c t q
    by q same mine true is = inr (two.alone q is mine)
    by q same mine false is = inl (unmapped c t q (two.mapped q ∙ is) ∙ sym (unmapped a t q (sym (one.mapped q) ∙ is)))

off-wider : (may more : ℕ → Bool) (q : ℕ) → ((p : ℕ) → may p ≡ true → more p ≡ true) → more q ≡ false → may q ≡ false
off-wider may more q wider off = by (may q) refl
  where
    by : (b : Bool) → may q ≡ b → may q ≡ false
    by true e = absurd (true≢false (sym (wider q e) ∙ off))
    by false e = e

-- a step may be allowed more
pub keeps-wider : (old new : Memory) (t : ℕ) (may more : ℕ → Bool) → Keeps old new t may → ((p : ℕ) → may p ≡ true → more p ≡ true) → Keeps old new t more
keeps-wider old new t may more k wider = record {
  mapped = k.mapped;
  alone = k.alone;
  frames = k.frames;
  written = k.written;
  others = λ u q off. k.others u q (elim off [ inl ne ↦ inl ne | inr out ↦ inr (off-wider may more q wider out) ]);
  live = k.live;
  own = k.own;
  room = λ all. k.room (λ q is mapped. all q (wider q is) mapped);
}

-- a step changes its table alone
pub one-table : (old new : Memory) (t : ℕ) (may : ℕ → Bool) → Keeps old new t may → OnlyTable old new t
one-table old new t may k = record {
  others = λ u q apart. k.others u q (inl apart);
  live = k.live;
  own = λ q f is. elim (k.own q) [ inl same ↦ inl (sym same ∙ is) | inr mine ↦ inr mine ];
}

-- some pages changed
pub keeps-pages : (old new : Memory) (t first n : ℕ) (may : ℕ → Bool) → ChangesPages old new t first n → IsSound new → ((q : ℕ) → is_mapped new t q ≡ is_mapped old t q)
    → ((q : ℕ) → first ≤ q → q < first + n → IsTrue (is_mapped old t q))
    → ((q : ℕ) → first ≤ q → q < first + n → IsTrue (is_written old t q) → IsTrue (is_written new t q))
    → ((q : ℕ) → first ≤ q → q < first + n → may q ≡ true) → Keeps old new t may
keeps-pages old new t first n may pages sound same there flags covers = record {
  mapped = same;
  alone = λ q is one. (alone-stays old new t first n pages t q is (same q ∙ is) one).1;
  frames = λ q is one. (alone-stays old new t first n pages t q is (same q ∙ is) one).0;
  written = λ q is. elim (cases_lt q first) [
    | inl before ↦ (frame-beside old new t first n pages t q (inr (inl before))).1 ∙ is
    | inr low ↦ elim (cases_lt q (first + n)) [ inl high ↦ flags q low high is | inr behind ↦ (frame-beside old new t first n pages t q (inr (inr behind))).1 ∙ is ]
  ];
  others = λ u q off. pages.others u q (elim off [
    | inl ne ↦ inl ne
    | inr off ↦ inr (elim (cases_lt q first) [
      | inl before ↦ inl before
      | inr low ↦ elim (cases_lt q (first + n)) [ inl high ↦ absurd (true≢false (sym (covers q low high) ∙ off)) | inr behind ↦ inr behind ]
    ])
  ]);
  live = pages.live;
  own = own-page old new t first n pages sound same;
  room = λ all. pages.in_place (λ q low high. all q (covers q low high) (there q low high));
}

-- a store that did what it does, or nothing
pub keeps-put : {T E : Type 0} (r : Result T E) (old new : Memory) (t : ℕ) (kind : Kind) (at n p : ℕ) (may : ℕ → Bool) → ChangesPages old new t p 1 → IsSound new → IsTrue (is_mapped old t p)
    → OnOk r (PutsNumber (view_of old t) (view_of new t) kind at n) → OnOk r (AreWritten new t p 1) → OnErr r (new ≡ old) → may p ≡ true → Keeps old new t may
keeps-put r old new t kind at n p may pages sound there puts written err covers =
    either r
    (on_ok_both r (λ put flags. keeps-pages old new t p 1 may pages sound (λ q. page-mapped old new t q put.rest.mapped)
    (λ q low high. subst (λ x. IsTrue (is_mapped old t x)) (let e : p ≡ q = omega arith in e) there) (λ q low high was. flags q low high)
    (λ q low high. ap may (let e : q ≡ p = omega arith in e) ∙ covers)) puts written)
    (on_err_weaker r (keeps-same old new t may) err)

-- words that were written clear no flag
words-flags : (old new : Memory) (t at n q : ℕ) → WritesWords old new t at n → IsTrue (is_written old t q) → IsTrue (is_written new t q)
words-flags old new t at n q w is =
    let first : ℕ = page_of at in
    let count : ℕ = pages_in at (at + 8 * n) in
    elim (cases_lt q first) [
      | inl before ↦ (frame-beside old new t first count w.span.pages t q (inr (inl before))).1 ∙ is
      | inr low ↦ elim (cases_lt q (first + count)) [ inl high ↦ w.span.written q low high | inr behind ↦ (frame-beside old new t first count w.span.pages t q (inr (inr behind))).1 ∙ is ]
    ]

-- a whole object was written, or its first words were
pub keeps-words : {T E : Type 0} (r : Result T E) (old new : Memory) (t at size : ℕ) (may : ℕ → Bool) → ChangesPages old new t (page_of at) (pages_in at (at + size)) → IsSound new → IsSpace (view_of old t) at size
    → ((b : ℕ) → (view_of new t).mapped b ≡ (view_of old t).mapped b) → OnOk r (AreWritten new t (page_of at) (pages_in at (at + size)))
    → OnErr r ((n : ℕ) × (8 * n ≤ size) × WritesWords old new t at n) → Covers may at size → Keeps old new t may
keeps-words r old new t at size may pages sound space same written partly covers =
    either r
    (on_ok_weaker r (λ flags. keeps-pages old new t (page_of at) (pages_in at (at + size)) may pages sound (λ q. page-mapped old new t q same) (space-pages old t at size space) (λ q low high was. flags q low high) covers) written)
    (on_err_weaker r (λ it. keeps-pages old new t (page_of at) (pages_in at (at + size)) may pages sound (λ q. page-mapped old new t q same) (space-pages old t at size space) (λ q low high was. words-flags old new t at it.0 q it.2 was) covers) partly)

pub page-in : (at size b : ℕ) → at ≤ b → b < at + size → page_of b < page_of at + pages_in at (at + size)
page-in at size b low high =
    let count : pages_in at (at + size) ≡ page_of (at + size - 1) + 1 - page_of at = ap (λ c. cond {A = ℕ} c (page_of (at + size - 1) + 1 - page_of at) 0) (lt-ltb at (at + size) (omega arith)) in
    omega (arith, count)

pub covered : (at size offset b : ℕ) (may : ℕ → Bool) → b ≡ at + offset → offset + 4 ≤ size → Covers may at size → may (page_of b) ≡ true
covered at size offset b may is within covers = covers (page_of b) (omega (arith, is)) (page-in at size b (omega (arith, is)) (omega (arith, is, within)))
