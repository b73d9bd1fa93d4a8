use Rattle.std.proofs.Common.{cond, ◌∙◌, Bool, [], ◌∷◌, sym, subst}
use Rattle.weak_refs.specs.Weak.{ClearsSlots}
use Rattle.weak_refs.proofs.Slots.{pages-more}
use Rattle.weak_refs.proofs.Clears.{clears-none, clears-one, clears-both}
use Rattle.weak_refs.proofs.clear.clear_slot.Goals as goal

pub returns-then-not-holds_dead-clause-cleared : goal.returns-then-not-holds_dead-clause-cleared
returns-then-not-holds_dead-clause-cleared g c =
    subst (λ (d : Bool). ClearsSlots c.args.frames.now c.holds_dead.new.frames c.args.t.0 (cond d (c.args.at.0 ∷ []) []))
    (sym c.if-not-holds_dead.true ∙ c.holds_dead.ensures.answer)
    (clears-none c.args.frames.now c.holds_dead.new.frames c.args.t.0 _ c.holds_dead.ensures.counts)

pub returns-clause-cleared : goal.returns-clause-cleared
returns-clause-cleared g c =
    subst (λ (d : Bool). ClearsSlots c.args.frames.now c.write_u32.new.self c.args.t.0 (cond d (c.args.at.0 ∷ []) []))
    (sym c.if-not-holds_dead.false ∙ c.holds_dead.ensures.answer)
    (clears-both c.args.frames.now c.holds_dead.new.frames c.write_u32.new.self c.args.t.0 [] (c.args.at.0 ∷ [])
    (clears-none c.args.frames.now c.holds_dead.new.frames c.args.t.0 _ c.holds_dead.ensures.counts)
    (clears-one c.holds_dead.new.frames c.write_u32.new.self c.args.t.0 c.args.at.0 c.in_ok-write_u32.ensures.page c.in_ok-write_u32.ensures.view c.in_ok-write_u32.ensures.takes c.write_u32.ensures.sound)
    (λ own. pages-more own c.args.at.0 []))
