use Rattle.std.proofs.Common.{◌≡◌, ◌∙◌, ◌+◌, ◌*◌, ◌<◌, ◌≤◌, ◌-◌, ◌^◌, ℕ, true, refl, sym, ap, subst, arith}
use Rattle.std.specs.Prelude.{is_ok, IsOk, ◌||◌}
use Rattle.std.proofs.lemmas.Bool.{true≢false}
use Rattle.page_tables.specs.Address.{page_of}
use Rattle.cow_pages.specs.Memory.{Memory}
use Rattle.cow_pages.specs.View.{view_of}
use Rattle.object_view.specs.Changes.{pages_in}
use Rattle.object_view.specs.Objects.{reference_place}
use Rattle.object_view.specs.Seen.{RoseBy}
use Rattle.object_view.proofs.Outcomes.{on_err}
use Rattle.object_view.proofs.Rises.{rose-more, rose-none}
use Rattle.raw_objects.specs.Raws.{raw_size, HoldsRaws, Raws}
use Rattle.raw_objects.specs.References.{is_first_reference}
use Rattle.raw_objects.proofs.Kept.{covered, keeps-none, keeps-read, keeps-then, page-in, space-page}
use Rattle.raw_objects.proofs.Counted.{slot-rose}
use Rattle.raw_objects.proofs.Uncounted.{slot-free}
use Rattle.raw_objects.proofs.Turned.{first-last, first-more, no-slot, none-last, object-held, raws-read, rises-by, slot-readable, turned_first, turning}
use Rattle.raw_objects.proofs.moves.turn_object.Goals as goal

pub loop-k-init : goal.loop-k-init
loop-k-init c = record { held = λ raws done ok. ok.holds; keeps = λ raws done may ok covers. keeps-none c.args.frames.now c.args.t.0 may; reads = λ is. refl; bounded = λ s raws done ok. (omega arith, rose-none c.args.frames.now.reads); sound = λ s. s }

pub ref_slot-requires : goal.ref_slot-requires
ref_slot-requires c =
    let raws : Raws = c.requires.0 in
    let now : Raws = turned_first c.args.classes.now raws c.requires.1 c.args.at.0 c.loop-k.k in
    ((raws.raw c.args.at.0).shape, object-held c.args.classes.now _ now c.args.at.0 (c.loop-k.invariant.held raws c.requires.1 c.requires.2) c.requires.2.has)

pub turn_slot-requires-clause-aligned : goal.turn_slot-requires-clause-aligned
turn_slot-requires-clause-aligned c =
    let cs = c.args.classes.now in
    let raws : Raws = c.requires.0 in
    let ok = c.requires.2 in
    let h = c.loop-k.invariant.held raws c.requires.1 ok in
    let shape = (object-held cs _ (turned_first cs raws c.requires.1 c.args.at.0 c.loop-k.k) c.args.at.0 h ok.has).has_shape in
    (turning cs _ _ raws c.requires.1 c.args.at.0 c.loop-k.k c.in-Some.slot ok h (sym c.in-Some.is ∙ c.ref_slot.ensures.slot (raws.raw c.args.at.0).shape shape)).aligned

pub turn_slot-requires-clause-mapped : goal.turn_slot-requires-clause-mapped
turn_slot-requires-clause-mapped c =
    let cs = c.args.classes.now in
    let raws : Raws = c.requires.0 in
    let ok = c.requires.2 in
    let h = c.loop-k.invariant.held raws c.requires.1 ok in
    let shape = (object-held cs _ (turned_first cs raws c.requires.1 c.args.at.0 c.loop-k.k) c.args.at.0 h ok.has).has_shape in
    let it = turning cs _ _ raws c.requires.1 c.args.at.0 c.loop-k.k c.in-Some.slot ok h (sym c.in-Some.is ∙ c.ref_slot.ensures.slot (raws.raw c.args.at.0).shape shape) in
    ap (λ (m : Memory). (view_of m c.args.t.0).mapped c.in-Some.slot.at.0) (c.ref_slot.ensures.reads (raws.raw c.args.at.0).shape shape) ∙ it.mapped

pub turn_slot-requires-clause-readable : goal.turn_slot-requires-clause-readable
turn_slot-requires-clause-readable c =
    let cs = c.args.classes.now in
    let raws : Raws = c.requires.0 in
    let ok = c.requires.2 in
    let now : Raws = turned_first cs raws c.requires.1 c.args.at.0 c.loop-k.k in
    let h = c.loop-k.invariant.held raws c.requires.1 ok in
    let shape = (object-held cs _ now c.args.at.0 h ok.has).has_shape in
    let it = turning cs _ _ raws c.requires.1 c.args.at.0 c.loop-k.k c.in-Some.slot ok h (sym c.in-Some.is ∙ c.ref_slot.ensures.slot (raws.raw c.args.at.0).shape shape) in
    slot-readable cs _ raws (λ b. is_first_reference cs (raws.raw c.args.at.0).shape c.args.at.0 c.loop-k.k b || c.requires.1 b) _ _ (raws-read cs _ _ c.args.t.0 _ now (c.ref_slot.ensures.reads (raws.raw c.args.at.0).shape shape) h) it.slot_in

pub loop-k-preserved : goal.loop-k-preserved
loop-k-preserved c =
    let cs = c.args.classes.now in
    let t : ℕ = c.args.t.0 in
    let at : ℕ = c.args.at.0 in
    record {
      held = λ raws done ok.
          let now : Raws = turned_first cs raws done at c.loop-k.k in
          let h = c.loop-k.invariant.held raws done ok in
          let shape = (object-held cs _ now at h ok.has).has_shape in
          let it = turning cs _ _ raws done at c.loop-k.k c.in-Some.slot ok h (sym c.in-Some.is ∙ c.ref_slot.ensures.slot (raws.raw at).shape shape) in
          first-more cs _ _ raws done at c.loop-k.k c.in-Some.slot it
          (c.in_ok-turn_slot.ensures.held cs raws (λ b. is_first_reference cs (raws.raw at).shape at c.loop-k.k b || done b) (raws-read cs _ _ t _ now (c.ref_slot.ensures.reads (raws.raw at).shape shape) h) it.slot_in);
      keeps = λ raws done may ok covers.
          let h = c.loop-k.invariant.held raws done ok in
          let shape = (object-held cs _ (turned_first cs raws done at c.loop-k.k) at h ok.has).has_shape in
          let it = turning cs _ _ raws done at c.loop-k.k c.in-Some.slot ok h (sym c.in-Some.is ∙ c.ref_slot.ensures.slot (raws.raw at).shape shape) in
          keeps-then c.args.frames.now c.ref_slot.new.frames c.turn_slot.new.frames t may
          (keeps-then c.args.frames.now c.loop-k.frames c.ref_slot.new.frames t may (c.loop-k.invariant.keeps raws done may ok covers) (keeps-read c.loop-k.frames c.ref_slot.new.frames t _ may (c.ref_slot.ensures.reads (raws.raw at).shape shape)))
          (c.turn_slot.ensures.keeps may (covered at (raw_size cs raws at) it.place.offset c.in-Some.slot.at.0 may it.at_is it.within covers));
      reads = λ is.
          let raws : Raws = c.requires.0 in
          let ok = c.requires.2 in
          let h = c.loop-k.invariant.held raws c.requires.1 ok in
          let shape = (object-held cs _ (turned_first cs raws c.requires.1 at c.loop-k.k) at h ok.has).has_shape in
          c.turn_slot.ensures.reads ∙ ap (λ (m : Memory). m.reads) (c.ref_slot.ensures.reads (raws.raw at).shape shape)
          ∙ slot-free (view_of c.loop-k.frames t) c.loop-k.frames.reads at (raws.raw at).shape c.ref_slot.result (reference_place cs (raws.raw at).shape c.loop-k.k) is (c.ref_slot.ensures.slot (raws.raw at).shape shape)
          ∙ c.loop-k.invariant.reads is;
      bounded = λ s raws done ok.
          let h = c.loop-k.invariant.held raws done ok in
          let shape = (object-held cs _ (turned_first cs raws done at c.loop-k.k) at h ok.has).has_shape in
          let it = turning cs _ _ raws done at c.loop-k.k c.in-Some.slot ok h (sym c.in-Some.is ∙ c.ref_slot.ensures.slot (raws.raw at).shape shape) in
          let rose = slot-rose c.args.frames.now.reads c.loop-k.k at c.loop-k.frames c.ref_slot.new.frames (raws.raw at).shape c.ref_slot.result (c.loop-k.invariant.sound s)
          (c.loop-k.invariant.bounded s raws done ok).1 (c.ref_slot.ensures.reads (raws.raw at).shape shape) in
          let more : 3 * c.loop-k.k + 3 ≡ 3 * (c.loop-k.k + 1) = omega arith in (
            omega (arith, rises-by cs (raws.raw at).shape c.loop-k.k it.place it.is, it.within),
            subst (λ n. RoseBy n c.args.frames.now.reads c.turn_slot.new.frames.reads) more (subst (RoseBy (3 * c.loop-k.k + 3) c.args.frames.now.reads) (sym c.turn_slot.ensures.reads) rose),
          );
      sound = λ s. c.turn_slot.ensures.sound c.ref_slot.ensures.sound;
    }

pub returns-in_default-clause-held : goal.returns-in_default-clause-held
returns-in_default-clause-held c raws done ok =
    let cs = c.args.classes.now in
    let now : Raws = turned_first cs raws done c.args.at.0 c.loop-k.k in
    let h = c.loop-k.invariant.held raws done ok in
    let shape = (object-held cs _ now c.args.at.0 h ok.has).has_shape in
    first-last cs _ raws done c.args.at.0 c.loop-k.k
    (no-slot _ _ _ (c.in_default.not-Some) (c.ref_slot.ensures.slot (raws.raw c.args.at.0).shape shape))
    (raws-read cs _ _ c.args.t.0 _ now (c.ref_slot.ensures.reads (raws.raw c.args.at.0).shape shape) h)

pub returns-clause-held : goal.returns-clause-held
returns-clause-held c raws done ok =
    let cs = c.args.classes.now in
    let last : c.loop-k.k ≡ 2 ^ 64 - 1 = omega arith in
    first-last cs _ raws done c.args.at.0 c.loop-k.k
    (ap (reference_place cs (raws.raw c.args.at.0).shape) last ∙ none-last cs _ _ c.args.at.0 ok.holds ok.has) (c.loop-k.invariant.held raws done ok)

pub returns-in_default-clause-keeps : goal.returns-in_default-clause-keeps
returns-in_default-clause-keeps c raws done may ok covers =
    let cs = c.args.classes.now in
    let shape = (object-held cs _ (turned_first cs raws done c.args.at.0 c.loop-k.k) c.args.at.0 (c.loop-k.invariant.held raws done ok) ok.has).has_shape in
    keeps-then c.args.frames.now c.loop-k.frames c.ref_slot.new.frames c.args.t.0 may (c.loop-k.invariant.keeps raws done may ok covers)
    (keeps-read c.loop-k.frames c.ref_slot.new.frames c.args.t.0 _ may (c.ref_slot.ensures.reads (raws.raw c.args.at.0).shape shape))

pub returns-in_err-turn_slot-clause-keeps : goal.returns-in_err-turn_slot-clause-keeps
returns-in_err-turn_slot-clause-keeps c raws done may ok covers =
    let cs = c.args.classes.now in
    let t : ℕ = c.args.t.0 in
    let at : ℕ = c.args.at.0 in
    let h = c.loop-k.invariant.held raws done ok in
    let shape = (object-held cs _ (turned_first cs raws done at c.loop-k.k) at h ok.has).has_shape in
    let it = turning cs _ _ raws done at c.loop-k.k c.in-Some.slot ok h (sym c.in-Some.is ∙ c.ref_slot.ensures.slot (raws.raw at).shape shape) in
    keeps-then c.args.frames.now c.ref_slot.new.frames c.turn_slot.new.frames t may
    (keeps-then c.args.frames.now c.loop-k.frames c.ref_slot.new.frames t may (c.loop-k.invariant.keeps raws done may ok covers) (keeps-read c.loop-k.frames c.ref_slot.new.frames t _ may (c.ref_slot.ensures.reads (raws.raw at).shape shape)))
    (c.turn_slot.ensures.keeps may (covered at (raw_size cs raws at) it.place.offset c.in-Some.slot.at.0 may it.at_is it.within covers))

pub returns-in_err-turn_slot-clause-succeeds : goal.returns-in_err-turn_slot-clause-succeeds
returns-in_err-turn_slot-clause-succeeds c raws done ok alone =
    let cs = c.args.classes.now in
    let t : ℕ = c.args.t.0 in
    let at : ℕ = c.args.at.0 in
    let h = c.loop-k.invariant.held raws done ok in
    let shape = (object-held cs _ (turned_first cs raws done at c.loop-k.k) at h ok.has).has_shape in
    let read = c.ref_slot.ensures.reads (raws.raw at).shape shape in
    let it = turning cs _ _ raws done at c.loop-k.k c.in-Some.slot ok h (sym c.in-Some.is ∙ c.ref_slot.ensures.slot (raws.raw at).shape shape) in
    let keeps = keeps-then c.args.frames.now c.loop-k.frames c.ref_slot.new.frames t (λ p. true) (c.loop-k.invariant.keeps raws done (λ p. true) ok (λ p low high. refl)) (keeps-read c.loop-k.frames c.ref_slot.new.frames t _ (λ p. true) read) in
    let stands = ok.holds.stands at ok.has in
    let size : ℕ = raw_size cs raws at in
    let within : it.place.offset + 4 ≤ size = it.within in
    let low : page_of at ≤ page_of c.in-Some.slot.at.0 = omega (arith, it.at_is) in
    let high : page_of c.in-Some.slot.at.0 < page_of at + pages_in at (at + size) = page-in at size c.in-Some.slot.at.0 (omega (arith, it.at_is)) (omega (arith, it.at_is, within)) in
    let mine = alone (page_of c.in-Some.slot.at.0) low high in
    let is = space-page c.args.frames.now t at size (page_of c.in-Some.slot.at.0) stands.space (omega (arith, within)) low high in
    let done' : IsOk c.turn_slot.result = c.turn_slot.ensures.succeeds (keeps.alone (page_of c.in-Some.slot.at.0) is mine) in
    absurd (true≢false (sym done' ∙ ap (λ r. is_ok r) c.in_err-turn_slot.was))

pub returns-in_err-turn_slot-clause-err : goal.returns-in_err-turn_slot-clause-err
returns-in_err-turn_slot-clause-err c = on_err c.from_residual.result (λ raws done ok.
    let cs = c.args.classes.now in
    let t : ℕ = c.args.t.0 in
    let at : ℕ = c.args.at.0 in
    let now : Raws = turned_first cs raws done at c.loop-k.k in
    let h = c.loop-k.invariant.held raws done ok in
    let shape = (object-held cs _ now at h ok.has).has_shape in
    let read : HoldsRaws cs (view_of c.ref_slot.new.frames t) now = raws-read cs _ _ t _ now (c.ref_slot.ensures.reads (raws.raw at).shape shape) h in
    (c.loop-k.k, subst (λ (m : Memory). HoldsRaws cs (view_of m t) now) (sym c.in_err-turn_slot.ensures.err) read))

pub returns-in_default-clause-reads : goal.returns-in_default-clause-reads
returns-in_default-clause-reads c is =
    let cs = c.args.classes.now in
    let t : ℕ = c.args.t.0 in
    let at : ℕ = c.args.at.0 in
    let raws : Raws = c.requires.0 in
    let ok = c.requires.2 in
    let h = c.loop-k.invariant.held raws c.requires.1 ok in
    let shape = (object-held cs _ (turned_first cs raws c.requires.1 at c.loop-k.k) at h ok.has).has_shape in
    ap (λ (m : Memory). m.reads) (c.ref_slot.ensures.reads (raws.raw at).shape shape)
    ∙ slot-free (view_of c.loop-k.frames t) c.loop-k.frames.reads at (raws.raw at).shape c.ref_slot.result (reference_place cs (raws.raw at).shape c.loop-k.k) is (c.ref_slot.ensures.slot (raws.raw at).shape shape)
    ∙ c.loop-k.invariant.reads is

pub returns-in_err-turn_slot-clause-reads : goal.returns-in_err-turn_slot-clause-reads
returns-in_err-turn_slot-clause-reads c is =
    let cs = c.args.classes.now in
    let t : ℕ = c.args.t.0 in
    let at : ℕ = c.args.at.0 in
    let raws : Raws = c.requires.0 in
    let ok = c.requires.2 in
    let h = c.loop-k.invariant.held raws c.requires.1 ok in
    let shape = (object-held cs _ (turned_first cs raws c.requires.1 at c.loop-k.k) at h ok.has).has_shape in
    c.turn_slot.ensures.reads ∙ ap (λ (m : Memory). m.reads) (c.ref_slot.ensures.reads (raws.raw at).shape shape)
    ∙ slot-free (view_of c.loop-k.frames t) c.loop-k.frames.reads at (raws.raw at).shape c.ref_slot.result (reference_place cs (raws.raw at).shape c.loop-k.k) is (c.ref_slot.ensures.slot (raws.raw at).shape shape)
    ∙ c.loop-k.invariant.reads is

pub returns-in_default-clause-bounded : goal.returns-in_default-clause-bounded
returns-in_default-clause-bounded c s raws done ok =
    let cs = c.args.classes.now in
    let at : ℕ = c.args.at.0 in
    let shape = (object-held cs _ (turned_first cs raws done at c.loop-k.k) at (c.loop-k.invariant.held raws done ok) ok.has).has_shape in
    let was = c.loop-k.invariant.bounded s raws done ok in
    rose-more (3 * c.loop-k.k + 3) (raw_size cs raws at + 16) c.args.frames.now.reads c.ref_slot.new.frames.reads (omega (arith, was.0))
    (slot-rose c.args.frames.now.reads c.loop-k.k at c.loop-k.frames c.ref_slot.new.frames (raws.raw at).shape c.ref_slot.result (c.loop-k.invariant.sound s) was.1
    (c.ref_slot.ensures.reads (raws.raw at).shape shape))

pub returns-in_err-turn_slot-clause-bounded : goal.returns-in_err-turn_slot-clause-bounded
returns-in_err-turn_slot-clause-bounded c s raws done ok =
    let cs = c.args.classes.now in
    let at : ℕ = c.args.at.0 in
    let shape = (object-held cs _ (turned_first cs raws done at c.loop-k.k) at (c.loop-k.invariant.held raws done ok) ok.has).has_shape in
    let was = c.loop-k.invariant.bounded s raws done ok in
    subst (RoseBy (raw_size cs raws at + 16) c.args.frames.now.reads) (sym c.turn_slot.ensures.reads)
    (rose-more (3 * c.loop-k.k + 3) (raw_size cs raws at + 16) c.args.frames.now.reads c.ref_slot.new.frames.reads (omega (arith, was.0))
    (slot-rose c.args.frames.now.reads c.loop-k.k at c.loop-k.frames c.ref_slot.new.frames (raws.raw at).shape c.ref_slot.result (c.loop-k.invariant.sound s) was.1
    (c.ref_slot.ensures.reads (raws.raw at).shape shape)))

pub returns-clause-bounded : goal.returns-clause-bounded
returns-clause-bounded c s raws done ok =
    let was = c.loop-k.invariant.bounded s raws done ok in
    rose-more (3 * c.loop-k.k) (raw_size c.args.classes.now raws c.args.at.0 + 16) c.args.frames.now.reads c.loop-k.frames.reads (omega (arith, was.0)) was.1
