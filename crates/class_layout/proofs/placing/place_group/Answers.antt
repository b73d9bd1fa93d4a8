use Rattle.std.proofs.Common.{◌≡◌, ℕ, List, length, filter, take, sym, subst, ◌∙◌, arith}
use Rattle.std.proofs.Math.Seq.{take-length}
use Rattle.class_layout.specs.declared.kind.FieldDecl.{FieldDecl}
use Rattle.class_layout.specs.Layout.{place_fields}
use Rattle.class_layout.specs.Placing.{has_rank, ArePlaced, rank_of}
use Rattle.class_layout.proofs.Places.{ArePlaced-group, places-yes, places-no, end-yes, end-no, kind_bytes-le}
use Rattle.class_layout.proofs.placing.place_group.Goals as goal
use Rattle.class_layout.proofs.placing.place_group.Goals.{then-rank, else-rank}

pub loop-i-preserved : goal.loop-i-preserved
loop-i-preserved c =
    let fs = c.args.fields.now in
    let i = c.loop-i.i in
    let f = c.index-fields-i.result in
    let os = c.loop-i.offsets in
    let next = c.if-rank.offsets in
    let r = c.args.rank in
    let within = c.loop-i-test.true in
    let f-is = c.index-fields-i.is in
    elim c.if-rank.branch [
      | then-rank w ↦
          let rank : rank_of f.kind ≡ r = sym c.rank.ensures ∙ w.if-rank.true in
          let offset = w.place_from-offset in
          record {
            long = omega arith;
            bound = omega (arith, kind_bytes-le f.kind);
            ends = λ weak laid h.
                end-yes weak laid fs os next r i f within f-is c.loop-i.end offset.result w.bytes.result rank (c.loop-i.invariant.ends weak laid h) offset.ensures.value w.bytes.ensures ∙ sym w.end-is;
            places = λ weak laid h placed.
                places-yes weak laid fs os next r i f within f-is c.loop-i.end offset.result rank c.loop-i.invariant.long (c.loop-i.invariant.ends weak laid h) offset.ensures.value w.offsets-is
                (c.loop-i.invariant.places weak laid h placed);
          }
      | else-rank w ↦
          let rank : rank_of f.kind ≡ r → ⊥ = λ e. w.if-rank.false (c.rank.ensures ∙ e) in
          record {
            long = omega arith;
            bound = omega arith;
            ends = λ weak laid h. end-no weak laid fs os next r i f within f-is rank ∙ c.loop-i.invariant.ends weak laid h ∙ sym w.end-is;
            places = λ weak laid h placed. places-no weak laid fs os next r i f within f-is rank w.offsets-is (c.loop-i.invariant.places weak laid h placed);
          }
    ]

pub returns-clause-places : goal.returns-clause-places
returns-clause-places c weak laid h placed =
    let fs = c.args.fields.now in
    let r = c.args.rank in
    let os = c.loop-i.offsets in
    let i-is : c.loop-i.i ≡ length fs = omega arith in
    let P : ℕ → List FieldDecl → Type 0 = λ i gs. ArePlaced weak (place_fields weak laid (filter (has_rank r) gs)) fs os r i in
    ArePlaced-group weak (place_fields weak laid (filter (has_rank r) fs)) fs os r
    (subst (P (length fs)) (take-length fs) (subst (λ i. P i (take i fs)) i-is (c.loop-i.invariant.places weak laid h placed)))
