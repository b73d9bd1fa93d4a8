-- Clears one after the other are a clear of all.
use Rattle.std.proofs.Common.{cond, ◌≡◌, ◌≢◌, ◌⊎◌, ◌∙◌, ℕ, ◌+◌, ◌*◌, ◌<◌, ◌≤◌, Bool, true, false, true≢false, ◌||◌, List, [], ◌∷◌, ◌++◌, Option, Some, None, get_or, refl, sym, ap, subst, inl, inr, arith, IsTrue, ◌-◌, eq-eqb}
use Rattle.std.specs.Prelude.{option_map, is_some, ◌==◌, ◌&&◌, nat_le, nat_lt}
use Rattle.std.specs.Int.{w32, to_le_bytes}
use Rattle.std.proofs.lemmas.Bool.{cases_eq, cases_lt, cases_Bool, or_cases, eqb-true, or_left, or_right, or_parts}
use Rattle.std.proofs.lemmas.List.Folds.{list_any-append}
use Rattle.model_numbers.specs.Numbers.{page_bytes}
use Rattle.page_tables.specs.Address.{page_of}
use Rattle.cow_pages.specs.Memory.{Memory, Page, page_at, frame_at, is_mapped, is_written, flag_of, HasOneSharer, IsShared, IsFree, IsSound}
use Rattle.cow_pages.specs.Change.{TakesOnCopy, WritesPage}
use Rattle.cow_pages.specs.Only.{OnlyTable}
use Rattle.cow_pages.specs.View.{View, view_of, OthersSeen, WritesBytes}
use Rattle.cow_pages.proofs.ViewLemmas.{SameView-pages, zeros-at}
use Rattle.object_view.specs.Changes.{ChangesPages}
use Rattle.object_view.proofs.Lookups.{byte-reads}
use Rattle.object_view.proofs.Numbers.{bytes_at-nth}
use Rattle.object_view.proofs.Spans.{frame-same, not-shared, room-after, room-reads, room-same, AreWritten-write, ChangesPages-write}
use Rattle.weak_refs.specs.Weak.{is_byte_of, is_page_of, shared_pages, ClearsSlots}
use Rattle.weak_refs.proofs.Slots.{cond-or, in-slot, out-of-slot}

written-frame : (m : Memory) (t p : ℕ) → IsTrue (is_written m t p) → (f : ℕ) × (frame_at m t p ≡ Some f)
written-frame m t p is = by (page_at m t p) is
  where
    by : (o : Option Page) → IsTrue (flag_of o) → (f : ℕ) × (option_map (λ (page : Page). page.frame) o ≡ Some f)
    by None is = absurd (true≢false (sym is))
    by (Some page) is = (page.frame, refl)

frame-mapped : (m : Memory) (t p f : ℕ) → frame_at m t p ≡ Some f → is_mapped m t p ≡ true
frame-mapped m t p f is = by (page_at m t p) is
  where
    by : (o : Option Page) → option_map (λ (page : Page). page.frame) o ≡ Some f → is_some o ≡ true
    by None is = cc
    by (Some page) is = refl

mapped-frame : (m : Memory) (t p : ℕ) → is_mapped m t p ≡ true → (f : ℕ) × (frame_at m t p ≡ Some f)
mapped-frame m t p is = by (page_at m t p) is
  where
    by : (o : Option Page) → is_some o ≡ true → (f : ℕ) × (option_map (λ (page : Page). page.frame) o ≡ Some f)
    by None is = absurd (true≢false (sym is))
    by (Some page) is = (page.frame, refl)

-- a read sets nothing to null
pub clears-none : (old mid : Memory) (t n : ℕ) → mid ≡ record old { reads = n } → ClearsSlots old mid t []
clears-none old mid t n counts = subst (λ (m : Memory). ClearsSlots old m t []) (sym counts) (record {
  bytes = record { byte = byte-reads old t n; mapped = λ at. refl };
  others = λ u q apart. refl;
  live = λ u. refl;
  written = λ p is. absurd (true≢false (sym is));
  alone = λ p is. absurd (true≢false (sym is));
  frames = λ p f is. inl is;
  spare = λ own h. omega arith;
  in_place = λ all. room-reads old old n (room-same old);
})

module _ (old new : Memory) (t : ℕ) (ds : List ℕ) (c : ClearsSlots old new t ds) where
  -- a page is of another table or has none of the slots, or it is of this table and has one
  side : (u q : ℕ) → ((u ≢ t) ⊎ (is_page_of ds q ≡ false)) ⊎ ((u ≡ t) × (is_page_of ds q ≡ true))
  side u q = elim (cases_eq u t) [
    | inr other ↦ inl (inl other)
    | inl same ↦ elim (cases_Bool (is_page_of ds q)) [ inl among ↦ inr (same, among) | inr beside ↦ inl (inr beside) ]
  ]

  beside-frame : (u q : ℕ) → (u ≢ t) ⊎ (is_page_of ds q ≡ false) → frame_at new u q ≡ frame_at old u q
  beside-frame u q beside = frame-same old new u u q q (c.others u q beside)

  mapped-before : (p : ℕ) → is_mapped new t p ≡ true → is_mapped old t p ≡ true
  mapped-before p is =
      let e : page_of (p * page_bytes) ≡ p = omega arith in
      ap (is_mapped old t) (sym e) ∙ sym (c.bytes.mapped (p * page_bytes)) ∙ ap (is_mapped new t) e ∙ is

  pub mapped-after : (p : ℕ) → is_page_of ds p ≡ true → is_mapped new t p ≡ true
  mapped-after p is = let frame = written-frame new t p (c.written p is) in frame-mapped new t p frame.0 frame.1

  -- a page that had a frame of its own keeps it
  pub frame-stays : (p : ℕ) → HasOneSharer old t p → frame_at new t p ≡ frame_at old t p
  frame-stays p one = elim (cases_Bool (is_page_of ds p)) [
    | inr beside ↦ beside-frame t p (inr beside)
    | inl among ↦
        let frame = written-frame new t p (c.written p among) in
        elim (c.frames p frame.0 frame.1) [
          | inl kept ↦ frame.1 ∙ sym kept
          | inr copied ↦ absurd (not-shared old t p one copied.0)
        ]
  ]

  pub alone-stays : (p : ℕ) → is_mapped old t p ≡ true → HasOneSharer old t p → HasOneSharer new t p
  alone-stays p mapped one w r same =
      let frame = mapped-frame old t p mapped in
      let stays = frame-stays p one in
      elim (side w r) [
        | inl beside ↦ one w r (sym (beside-frame w r beside) ∙ same ∙ stays)
        | inr among ↦
            let at_r : frame_at new t r ≡ Some frame.0 = ap (λ k. frame_at new k r) (sym among.0) ∙ same ∙ stays ∙ frame.1 in
            elim (c.frames r frame.0 at_r) [
              | inl kept ↦ one w r (ap (λ k. frame_at old k r) among.0 ∙ kept ∙ sym frame.1)
              | inr copied ↦ absurd (copied.1 t p frame.1)
            ]
      ]

  -- a frame that no entry has now had none before
  free-before : (f : ℕ) → IsFree new f → IsFree old f
  free-before f free u q is = elim (side u q) [
    | inl beside ↦ free u q (beside-frame u q beside ∙ is)
    | inr among ↦
        let frame = written-frame new t q (c.written q among.1) in
        let was : frame_at old t q ≡ Some f = ap (λ k. frame_at old k q) (sym among.0) ∙ is in
        elim (c.frames q frame.0 frame.1) [
          | inl kept ↦ free t q (frame.1 ∙ sym kept ∙ was)
          | inr copied ↦
              let other : (w : ℕ) × (w ≢ t) × (frame_at old w q ≡ frame_at old t q) = copied.0 in
              free other.0 q (beside-frame other.0 q (inl other.1) ∙ other.2 ∙ was)
        ]
  ]

  -- a mapped page that is shared now was shared before
  shared-before : (p : ℕ) → is_mapped new t p ≡ true → IsShared new t p → IsShared old t p
  shared-before p mapped shared =
      let frame = mapped-frame new t p mapped in
      let other : frame_at old shared.0 p ≡ Some frame.0 = sym (beside-frame shared.0 p (inl shared.1)) ∙ shared.2 ∙ frame.1 in
      elim (c.frames p frame.0 frame.1) [
        | inl kept ↦ (shared.0, shared.1, other ∙ sym kept)
        | inr copied ↦ absurd (copied.1 shared.0 p other)
      ]

  pub one-table : OnlyTable old new t
  one-table = record {
    others = λ u q apart. c.others u q (inl apart);
    live = c.live;
    own = λ p f is. elim (cases_Bool (is_page_of ds p)) [
      | inl among ↦ inr (c.alone p among)
      | inr beside ↦ inl (sym (beside-frame t p (inr beside)) ∙ is)
    ];
  }

  pub OthersSeen-clears : OthersSeen old new t
  OthersSeen-clears u apart = SameView-pages old new u u (λ q. c.others u q (inl apart))

module _ (old mid new : Memory) (t : ℕ) (ds es : List ℕ) (a : ClearsSlots old mid t ds) (b : ClearsSlots mid new t es)
    (splits : (own : ℕ → Bool) → shared_pages own (ds ++ es) ≡ shared_pages own ds + shared_pages (λ p. own p || is_page_of ds p) es) where
  pages : (p : ℕ) → is_page_of (ds ++ es) p ≡ (is_page_of ds p || is_page_of es p)
  pages p = list_any-append (λ at. page_of at == p) ds es

  first : (p : ℕ) → is_page_of ds p ≡ true → is_page_of (ds ++ es) p ≡ true
  first p is = pages p ∙ or_left (is_page_of ds p) (is_page_of es p) is

  second : (p : ℕ) → is_page_of es p ≡ true → is_page_of (ds ++ es) p ≡ true
  second p is = pages p ∙ or_right (is_page_of ds p) (is_page_of es p) is

  mapped-mid : (p : ℕ) → is_page_of es p ≡ true → is_mapped mid t p ≡ true
  mapped-mid p is = mapped-before mid new t es b p (mapped-after mid new t es b p is)

  mapped-old : (p : ℕ) → is_page_of es p ≡ true → is_mapped old t p ≡ true
  mapped-old p is = mapped-before old mid t ds a p (mapped-mid p is)

  one-mid : (p : ℕ) → is_page_of es p ≡ true → HasOneSharer old t p → HasOneSharer mid t p
  one-mid p is = alone-stays old mid t ds a p (mapped-old p is)

  pub clears-both : ClearsSlots old new t (ds ++ es)
  clears-both = record {
    bytes = record {
      byte = λ at.
          b.bytes.byte at ∙ ap (λ n. cond (is_byte_of es at) 0 n) (a.bytes.byte at) ∙ cond-or (is_byte_of ds at) (is_byte_of es at) ((view_of old t).byte at)
          ∙ sym (ap (λ d. cond d 0 ((view_of old t).byte at)) (list_any-append (λ x. nat_le x at && nat_lt at (x + 4)) ds es));
      mapped = λ at. b.bytes.mapped at ∙ a.bytes.mapped at;
    };
    others = λ u q apart. elim apart [
      | inl other ↦ b.others u q (inl other) ∙ a.others u q (inl other)
      | inr none ↦ let both = or_parts (is_page_of ds q) (is_page_of es q) (sym (pages q) ∙ none) in b.others u q (inr both.1) ∙ a.others u q (inr both.0)
    ];
    live = λ u. b.live u ∙ a.live u;
    written = λ p is. elim (cases_Bool (is_page_of es p)) [
      | inl there ↦ b.written p there
      | inr none ↦ elim (or_cases (is_page_of ds p) (is_page_of es p) (sym (pages p) ∙ is)) [
        | inl there ↦ ap flag_of (b.others t p (inr none)) ∙ a.written p there
        | inr there ↦ b.written p there
      ]
    ];
    alone = λ p is. elim (or_cases (is_page_of ds p) (is_page_of es p) (sym (pages p) ∙ is)) [
      | inl there ↦ alone-stays mid new t es b p (mapped-after old mid t ds a p there) (a.alone p there)
      | inr there ↦ b.alone p there
    ];
    frames = λ p f is. elim (b.frames p f is) [
      | inl kept ↦ a.frames p f kept
      | inr copied ↦ inr (
        shared-before old mid t ds a p (mapped-before mid new t es b p (frame-mapped new t p f is)) copied.0,
        free-before old mid t ds a f copied.1,
      )
    ];
    spare = λ own h.
        let one = a.spare own (λ p is mine. h p (first p is) mine) in
        let two = b.spare (λ p. own p || is_page_of ds p) (λ p is mine. elim (or_cases (own p) (is_page_of ds p) mine) [
          | inl known ↦ one-mid p is (h p (second p is) known)
          | inr there ↦ a.alone p there
        ]) in
        let sum = splits own in
        omega (arith, one, two, sum);
    in_place = λ all.
        let one = a.in_place (λ p is. all p (first p is)) in
        let two = b.in_place (λ p is. one-mid p is (all p (second p is))) in
        room-after old mid new one two;
  }

-- what stands in a slot where four bytes of 0 were written
zero-bytes : (old new : View) (at : ℕ) → WritesBytes old new at (to_le_bytes w32 0) → (b : ℕ) → at ≤ b → b < at + 4 → new.byte b ≡ 0
zero-bytes old new at w b low high =
    ap new.byte (let e : b ≡ at + (b - at) = omega arith in e)
    ∙ sym (bytes_at-nth new at 4 (b - at) (omega arith))
    ∙ ap (λ (bs : List ℕ). get_or bs (b - at) 0) w.there
    ∙ zeros-at 4 (b - at)

byte-after : (old new : View) (at : ℕ) → WritesBytes old new at (to_le_bytes w32 0) → (b : ℕ) → new.byte b ≡ cond (is_byte_of (at ∷ []) b) 0 (old.byte b)
byte-after old new at w b = elim (cases_lt b at) [
  | inl below ↦ w.others b (inl below) ∙ sym (ap (λ d. cond (d || false) 0 (old.byte b)) (out-of-slot at b (inl below)))
  | inr low ↦ elim (cases_lt b (at + 4)) [
    | inl high ↦ zero-bytes old new at w b low high ∙ sym (ap (λ d. cond (d || false) 0 (old.byte b)) (in-slot at b low high))
    | inr above ↦ w.others b (inr above) ∙ sym (ap (λ d. cond (d || false) 0 (old.byte b)) (out-of-slot at b (inr above)))
  ]
]

-- a write of null clears one slot
module _ (old new : Memory) (t at : ℕ) (page : WritesPage old new t at (to_le_bytes w32 0)) (view : WritesBytes (view_of old t) (view_of new t) at (to_le_bytes w32 0))
    (takes : TakesOnCopy old new t (page_of at)) (sound : IsSound new) where
  changes : ChangesPages old new t (page_of at) 1
  changes = ChangesPages-write old new t at (to_le_bytes w32 0) page takes

  here : (p : ℕ) → is_page_of (at ∷ []) p ≡ true → p ≡ page_of at
  here p is = elim (or_cases (page_of at == p) false is) [ inl same ↦ sym (eqb-true (page_of at) p same) | inr none ↦ absurd (true≢false (sym none)) ]

  there : is_page_of (at ∷ []) (page_of at) ≡ true
  there = or_left (page_of at == page_of at) false (eq-eqb (page_of at) (page_of at) refl)

  written-here : (p : ℕ) → is_page_of (at ∷ []) p ≡ true → IsTrue (is_written new t p)
  written-here p is = let same = here p is in AreWritten-write old new t at (to_le_bytes w32 0) page p (omega (arith, same)) (omega (arith, same))

  spare-here : (d : Bool) → (d ≡ true → HasOneSharer old t (page_of at)) → old.spare ≤ new.spare + (cond (d || false) 0 1 + 0)
  spare-here true one = omega (arith, (takes.in_place (one refl)).spare)
  spare-here false one = omega (arith, takes.copied.spare)

  pub clears-one : ClearsSlots old new t (at ∷ [])
  clears-one = record {
    bytes = record { byte = byte-after (view_of old t) (view_of new t) at view; mapped = view.mapped };
    others = λ u q apart. page.rest.others u q (elim apart [
      | inl other ↦ inl other
      | inr none ↦ inr (λ same. true≢false (sym there ∙ ap (is_page_of (at ∷ [])) (sym same) ∙ none))
    ]);
    live = page.rest.live;
    written = written-here;
    alone = λ p is. sound.written_alone t p (written-here p is);
    frames = changes.frames;
    spare = λ own h. spare-here (own (page_of at)) (h (page_of at) there);
    in_place = λ all. takes.in_place (all (page_of at) there);
  }
