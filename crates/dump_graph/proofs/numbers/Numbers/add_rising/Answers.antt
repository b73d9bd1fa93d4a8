use Rattle.std.proofs.Common.{◌≡◌, ◌+◌, ◌-◌, ◌<◌, ◌∙◌, ◌++◌, [], ◌∷◌, List, ℕ, ap, sym, subst, take, length, arith, rules}
use Rattle.std.specs.Prelude.{All}
use Rattle.std.proofs.Math.Seq.{take-append_seam}
use Rattle.dump_graph.specs.Numbering.{IsNumbering}
use Rattle.dump_graph.proofs.Numberings.{numbering-places, numbering-rising}
use Rattle.dump_graph.proofs.numbers.Numbers.add_rising.Goals as goal

pub invariant_of-self-in_err-push-2 : goal.invariant_of-self-in_err-push-2
invariant_of-self-in_err-push-2 c =
    let of = c.self.inside in
    let ids = of.ids.items in
    let rising = of.rising.items in
    let placed : c.push.new.self.items ≡ take (length rising) of.places.items ++ c.in_ok-number.number ∷ [] =
    c.in_ok-push.ensures.items ∙ ap (λ (l : List ℕ). l ++ c.in_ok-number.number ∷ []) (c.truncate.ensures.items ∙ ap (λ n. take n of.places.items) (c.len-2.ensures ∙ of.rising.ok.0)) in
    let same : c.push-2.new.self.items ≡ ids = search rules in
    subst (λ (l : List ℕ). IsNumbering l of.limit rising c.push.new.self.items of.others) (sym same)
    (subst (λ (l : List ℕ). IsNumbering ids of.limit rising l of.others) (sym placed) (numbering-places ids of.limit rising of.places.items of.others c.self.invariant (c.in_ok-number.number ∷ [])))

pub invariant_of-self-in-Ok : goal.invariant_of-self-in-Ok
invariant_of-self-in-Ok c =
    let of = c.self.inside in
    let ids = of.ids.items in
    let rising = of.rising.items in
    let number : c.in_ok-number.number ≡ length ids = c.in_ok-number.ensures ∙ (c.len.ensures ∙ of.ids.ok.0) in
    let placed : c.push.new.self.items ≡ take (length rising) of.places.items ++ length ids ∷ [] =
    c.in_ok-push.ensures.items
    ∙ (ap (λ (l : List ℕ). l ++ c.in_ok-number.number ∷ []) (c.truncate.ensures.items ∙ ap (λ n. take n of.places.items) (c.len-2.ensures ∙ of.rising.ok.0))
    ∙ ap (λ (n : ℕ). take (length rising) of.places.items ++ n ∷ []) number) in
    subst (λ (l : List ℕ). IsNumbering l (c.args.id + 1) c.push-3.new.self.items c.push.new.self.items of.others) (sym c.in_ok-push-2.ensures.items)
    (subst (λ (l : List ℕ). IsNumbering (ids ++ c.args.id ∷ []) (c.args.id + 1) l c.push.new.self.items of.others) (sym c.in-Ok.ensures.items)
    (subst (λ (l : List ℕ). IsNumbering (ids ++ c.args.id ∷ []) (c.args.id + 1) (rising ++ c.args.id ∷ []) l of.others) (sym placed)
    (numbering-rising ids of.limit rising of.places.items of.others c.self.invariant c.args.id (subst (λ (l : List ℕ). All (λ q. q < c.args.id) l) (sym c.self.view_is) c.requires))))

pub invariant_of-self-in-Err : goal.invariant_of-self-in-Err
invariant_of-self-in-Err c =
    let of = c.self.inside in
    let ids = of.ids.items in
    let rising = of.rising.items in
    let placed : c.push.new.self.items ≡ take (length rising) of.places.items ++ c.in_ok-number.number ∷ [] =
    c.in_ok-push.ensures.items ∙ ap (λ (l : List ℕ). l ++ c.in_ok-number.number ∷ []) (c.truncate.ensures.items ∙ ap (λ n. take n of.places.items) (c.len-2.ensures ∙ of.rising.ok.0)) in
    let short : c.push-2.new.self.len - 1 ≡ length ids = omega (arith, c.in_ok-push-2.ensures.len, of.ids.ok.0) in
    let same : c.pop.new.self.items ≡ ids =
    c.pop.ensures.rest
    ∙ (ap (take (c.push-2.new.self.len - 1)) c.in_ok-push-2.ensures.items ∙ (ap (λ n. take n (ids ++ c.args.id ∷ [])) short ∙ take-append_seam ids (c.args.id ∷ []))) in
    let also : c.push-3.new.self.items ≡ rising = search rules in
    subst (λ (l : List ℕ). IsNumbering l of.limit c.push-3.new.self.items c.push.new.self.items of.others) (sym same)
    (subst (λ (l : List ℕ). IsNumbering ids of.limit l c.push.new.self.items of.others) (sym also)
    (subst (λ (l : List ℕ). IsNumbering ids of.limit rising l of.others) (sym placed) (numbering-places ids of.limit rising of.places.items of.others c.self.invariant (c.in_ok-number.number ∷ []))))
