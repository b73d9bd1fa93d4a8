use Rattle.std.proofs.Common.{◌∙◌, ℕ, Bool, is_ok, true, refl, sym, ap, subst, arith, true≢false}
use Rattle.std.specs.Prelude.{◌||◌}
use Rattle.std.proofs.lemmas.List.{take_all}
use Rattle.cow_pages.specs.View.{view_of}
use Rattle.object_view.specs.Seen.{RoseBy}
use Rattle.object_view.proofs.Rises.{rose-none}
use Rattle.raw_objects.specs.Raws.{HoldsRaws, Raws}
use Rattle.raw_objects.specs.References.{turned_where}
use Rattle.raw_objects.proofs.Kept.{keeps-none, keeps-then}
use Rattle.object_moves.specs.Turns.{is_reference_of, reads_to_turn}
use Rattle.object_moves.proofs.Many.{next-alone, next-turnable, reads-next, turned-next, turned_to}
use Rattle.object_moves.proofs.turns.turn_all.Goals as goal

pub loop-at-init : goal.loop-at-init
loop-at-init c = record {
  held = λ raws done h ok. h;
  keeps = λ raws done may h ok within. keeps-none c.args.frames.now c.args.t.0 may;
  reads = λ low. refl;
  bounded = λ s raws done h ok. rose-none c.args.frames.now.reads;
  sound = λ s. s;
}

pub turn_object-requires : goal.turn_object-requires
turn_object-requires c =
    let raws : Raws = c.requires.0 in
    let done : ℕ → Bool = c.requires.1 in
    let ok = c.requires.3 in
    (raws, turned_to _ raws done c.args.ats.now ok c.loop-at.at-index, next-turnable _ raws done c.args.ats.now ok _ c.loop-at.at-index (omega arith) (c.loop-at.invariant.held raws done c.requires.2 ok))

pub unreachable-requires : goal.unreachable-requires
unreachable-requires c =
    let raws : Raws = c.requires.0 in
    let done : ℕ → Bool = c.requires.1 in
    let ok = c.requires.3 in
    let i : ℕ = c.loop-at.at-index in
    let held = c.loop-at.invariant.held raws done c.requires.2 ok in
    let turnable = next-turnable _ raws done c.args.ats.now ok _ i (omega arith) held in
    let alone = next-alone _ raws done c.args.ats.now ok _ _ c.args.t.0 i (omega arith) held (c.loop-at.invariant.keeps raws done (λ p. true) c.requires.2 ok (λ j below p low high. refl)) c.requires.2 c.requires.4 in
    absurd (true≢false (sym (c.turn_object.ensures.succeeds raws _ turnable alone) ∙ ap (λ r. is_ok r) c.in-Err.is))

pub loop-at-preserved : goal.loop-at-preserved
loop-at-preserved c =
    let i : ℕ = c.loop-at.at-index in
    record {
      held = λ raws done h ok.
          turned-next _ raws done c.args.ats.now ok _ i (omega arith) (c.in-Ok.ensures.held raws _ (next-turnable _ raws done c.args.ats.now ok _ i (omega arith) (c.loop-at.invariant.held raws done h ok)));
      keeps = λ raws done may h ok within.
          keeps-then _ _ _ c.args.t.0 may (c.loop-at.invariant.keeps raws done may h ok within)
          (c.turn_object.ensures.keeps raws _ may (next-turnable _ raws done c.args.ats.now ok _ i (omega arith) (c.loop-at.invariant.held raws done h ok)) (within i (omega arith)));
      reads = λ low. c.turn_object.ensures.reads (low i (omega arith)) ∙ c.loop-at.invariant.reads low;
      bounded = λ s raws done h ok.
          reads-next _ raws done c.args.ats.now ok i _ _ _ (omega arith) (c.loop-at.invariant.bounded s raws done h ok)
          (c.turn_object.ensures.bounded (c.loop-at.invariant.sound s) raws _ (next-turnable _ raws done c.args.ats.now ok _ i (omega arith) (c.loop-at.invariant.held raws done h ok)));
      sound = λ s. c.turn_object.ensures.sound (c.loop-at.invariant.sound s);
    }

pub returns-clause-held : goal.returns-clause-held
returns-clause-held c raws done h ok =
    let whole = take_all c.loop-at.at-index c.args.ats.now (omega arith) in
    subst (λ (xs : _). HoldsRaws c.args.classes.now (view_of c.loop-at.frames c.args.t.0) (turned_where raws (λ b. is_reference_of c.args.classes.now raws xs b || done b))) whole (c.loop-at.invariant.held raws done h ok)

pub returns-clause-bounded : goal.returns-clause-bounded
returns-clause-bounded c s raws done h ok =
    let whole = take_all c.loop-at.at-index c.args.ats.now (omega arith) in
    subst (λ (xs : _). RoseBy (reads_to_turn c.args.classes.now raws xs) c.args.frames.now.reads c.loop-at.frames.reads) whole (c.loop-at.invariant.bounded s raws done h ok)
