use Rattle.std.proofs.Common.{ℕ, ◌≡◌, ◌∙◌, ◌+◌, ◌<◌, Vec, Global, length, get_or, true, sym, ap, subst, arith}
use Rattle.std.specs.Prelude.{min}
use Rattle.std.proofs.lemmas.List.{get_or_default, get_or_past}
use Rattle.mod_union.specs.Lists.{itself, ListsBelow}
use Rattle.mod_union.specs.ModUnion.{is_noted}
use Rattle.mod_union.proofs.Lists.{lists-none}
use Rattle.mod_union.proofs.Cards.{all_cards, card-above, dirty-noted, earlier, in-at, noted-more, noted-wider}
use Rattle.mod_union.proofs.noted.noted_cards.Goals as goal
use Rattle.mod_union.proofs.noted.noted_cards.Goals.{then-dirty-card+in_ok-push, else-dirty-card}

pub loop-card-init : goal.loop-card-init
loop-card-init c =
    let records = c.args.records.now in
    let cards = c.args.cards.now in
    record {
      dirty = c.first_dirty-dirty.ensures.dirty;
      past = λ j less there. absurd (omega (arith, less));
      first = λ card low high. c.first_dirty-dirty.ensures.first card (omega arith) high;
      listed = subst (ListsBelow itself (λ card. is_noted records cards card ≡ true) (min c.first_dirty-dirty.result (get_or records 0 all_cards))) (sym c.new-noted.ensures.items)
          (noted-wider records cards c.requires.rising 0 0 c.first_dirty-dirty.result _ (λ j less there. absurd (omega (arith, less))) c.first_dirty-dirty.ensures.first (omega arith)
          (lists-none itself (λ card. is_noted records cards card ≡ true)));
    }

pub push_dirty-requires-clause-within : goal.push_dirty-requires-clause-within
push_dirty-requires-clause-within c =
    let most = c.requires.within (get_or c.args.records.now c.loop-card.card-index 0) (in-at c.args.records.now c.loop-card.card-index (omega arith)) in
    omega (arith, most)

pub loop-card-preserved : goal.loop-card-preserved
loop-card-preserved c =
    let records = c.args.records.now in
    let cards = c.args.cards.now in
    let i = c.loop-card.card-index in
    let within : i < length records = omega arith in
    let card : ℕ = get_or records i 0 in
    let above = card-above records i c.requires within in
    let e : get_or records i all_cards ≡ card = get_or_default records i all_cards 0 within in
    let next = c.in_ok-dirty.dirty in
    let le = c.in_ok-dirty.ensures.next.1 in
    let most = c.requires.within card (in-at records i within) in
    let here = c.in_ok-dirty.ensures.listed (is_noted records cards)
    (λ n low high. dirty-noted records cards c.requires.rising i c.loop-card.dirty n c.loop-card.invariant.dirty.dirty c.loop-card.invariant.past low (omega (arith, e, high)) (omega (arith, high, most)))
    (subst (λ n. ListsBelow itself (λ m. is_noted records cards m ≡ true) (min c.loop-card.dirty n) c.loop-card.noted.items) e c.loop-card.invariant.listed) in
    record {
      dirty = c.in_ok-dirty.ensures.next.0;
      past = λ j before there. let low = earlier records i j (card + 1) c.requires.rising within before (omega arith) in omega (arith, low, le);
      first = λ n low high. c.in_ok-dirty.ensures.first n (omega (arith, low, above)) high;
      listed = elim c.if-dirty-card.branch [
        | then-dirty-card+in_ok-push w ↦
            subst (ListsBelow itself (λ m. is_noted records cards m ≡ true) (min next (get_or records (i + 1) all_cards))) (sym (ap (λ (v : Vec ℕ Global). v.items) w.noted-is ∙ w.in_ok-push.ensures.items))
            (noted-more records cards c.requires.rising i next c.push_dirty.new.noted.items c.requires within (let ne = w.if-dirty-card.true in omega (arith, le, ne)) c.in_ok-dirty.ensures.first here)
        | else-dirty-card w ↦
            let same : next ≡ card = (let e = w.if-dirty-card.false in omega (arith, e)) in
            let bound : card ≡ min next (get_or records (i + 1) all_cards) = omega (arith, same, above) in
            subst (ListsBelow itself (λ m. is_noted records cards m ≡ true) (min next (get_or records (i + 1) all_cards))) (sym (ap (λ (v : Vec ℕ Global). v.items) w.noted-is))
            (subst (λ n. ListsBelow itself (λ m. is_noted records cards m ≡ true) n c.push_dirty.new.noted.items) bound here)
      ];
    }

pub returns : goal.returns
returns c =
    let records = c.args.records.now in
    let cards = c.args.cards.now in
    let i = c.loop-card.card-index in
    let end : get_or records i all_cards ≡ all_cards = get_or_past records i all_cards (omega arith) in
    c.in_ok-push_dirty.ensures.listed (is_noted records cards)
    (λ card low high. dirty-noted records cards c.requires.rising i c.loop-card.dirty card c.loop-card.invariant.dirty.dirty c.loop-card.invariant.past low (omega (arith, end, high)) high)
    (subst (λ n. ListsBelow itself (λ card. is_noted records cards card ≡ true) (min c.loop-card.dirty n) c.loop-card.noted.items) end c.loop-card.invariant.listed)
