use Rattle.std.proofs.Common.{◌∙◌, sym, true≢false}
use Rattle.mod_union.proofs.laws.clean_cards_hold_no_outward_slot.Goals as goal

pub returns : goal.returns
returns c space records cards raws slot h clean o = true≢false (sym (h.noted slot o) ∙ clean)
