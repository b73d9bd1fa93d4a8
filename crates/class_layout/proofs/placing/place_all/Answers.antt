use Rattle.std.proofs.Common.{◌≡◌, ℕ, ◌+◌, refl, sym, ap, subst, ◌∙◌, arith}
use Rattle.class_layout.specs.Layout.{Laid, place_fields}
use Rattle.class_layout.specs.Placing.{ranked, ArePlaced}
use Rattle.class_layout.proofs.Places.{place_fields-ranked, lay_out-ranked}
use Rattle.class_layout.proofs.placing.place_all.Goals as goal

pub loop-rank-preserved : goal.loop-rank-preserved
loop-rank-preserved c =
    let fs = c.args.fields.now in
    let r = c.loop-rank.rank in
    let group = c.place_group-end.ensures in
    let inv = c.loop-rank.invariant in
    let next = c.place_group-end.new.offsets in
    record {
      long = omega arith;
      bound = omega arith;
      ends = λ weak laid h. ap (λ l. l.end) (place_fields-ranked weak laid fs r) ∙ group.end weak (place_fields weak laid (ranked fs r)) (inv.ends weak laid h);
      places = λ weak laid h.
          let P : Laid → Type 0 = λ l. ArePlaced weak l fs next (r + 1) 0 in
          subst P (sym (place_fields-ranked weak laid fs r)) (group.places weak (place_fields weak laid (ranked fs r)) (inv.ends weak laid h) (inv.places weak laid h));
    }

pub returns-clause-end : goal.returns-clause-end
returns-clause-end c weak laid h =
    let e : c.loop-rank.rank ≡ 5 = omega arith in
    ap (λ l. l.end) (sym (lay_out-ranked weak laid c.args.fields.now c.loop-rank.rank e)) ∙ c.loop-rank.invariant.ends weak laid h

pub returns-clause-places : goal.returns-clause-places
returns-clause-places c weak laid h =
    let fs = c.args.fields.now in
    let e : c.loop-rank.rank ≡ 5 = omega arith in
    let P : ℕ → Laid → Type 0 = λ r l. ArePlaced weak l fs c.loop-rank.offsets r 0 in
    subst (P 5) (lay_out-ranked weak laid fs 5 refl) (subst (λ r. P r (place_fields weak laid (ranked fs r))) e (c.loop-rank.invariant.places weak laid h))
