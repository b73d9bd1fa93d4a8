use Rattle.std.proofs.Common.{◌≡◌, ℕ, ◌+◌, ◌*◌, List, length, ap, sym, subst, ◌∙◌}
use Rattle.std.specs.Prelude.{IfSome}
use Rattle.std.specs.List.{flat_map}
use Rattle.hprof_records.specs.Fields.{field}
use Rattle.hprof_records.specs.Parts.{constant_bytes}
use Rattle.hprof_wide.specs.declared.wide_sub.WideSub.{WideSub}
use Rattle.hprof_wide.specs.Parts.{wide_field_name_bytes, wide_part_bytes, wide_static_bytes}
use Rattle.hprof_convert.proofs.MissingLemmas.{size-array, size-class, size-heap, size-instance, size-no_data, size-primitive, size-root}
use Rattle.hprof_convert.proofs.missing.wide_part_size.Goals as goal

pub returns-in-Root : goal.returns-in-Root
returns-in-Root c =
    let r = c.in-Root in
    let w = c.args.width in
    subst (λ k. IfSome c.more.result (λ n. n ≡ k)) (ap (λ k. 1 + w + k) c.wide_further_size.ensures ∙ size-root w r.tag r.id r.first r.second ∙ ap (λ (x : WideSub). length (wide_part_bytes w x)) (sym r.is)) c.more.ensures

pub returns-in-HeapInfo : goal.returns-in-HeapInfo
returns-in-HeapInfo c =
    let r = c.in-HeapInfo in
    let w = c.args.width in
    subst (λ k. IfSome c.more-in-HeapInfo.result (λ n. n ≡ k)) (size-heap w r.heap r.name ∙ ap (λ (x : WideSub). length (wide_part_bytes w x)) (sym r.is)) c.more-in-HeapInfo.ensures

pub returns-in-ClassDump : goal.returns-in-ClassDump
returns-in-ClassDump c =
    let r = c.in-ClassDump in
    let w = c.args.width in
    subst (λ k. IfSome c.wide_class_size.result (λ n. n ≡ k)) (ap (λ (l : List (ℕ × ℕ × List ℕ)). 15 + 7 * w + length (flat_map constant_bytes l) + length (flat_map (wide_static_bytes w) c.as_slice-in-ClassDump.result.now) + length (flat_map (wide_field_name_bytes w) c.as_slice-in-ClassDump-2.result.now)) c.as_slice.ensures
    ∙ ap (λ (l : List (ℕ × ℕ × List ℕ)). 15 + 7 * w + length (flat_map constant_bytes r.constants) + length (flat_map (wide_static_bytes w) l) + length (flat_map (wide_field_name_bytes w) c.as_slice-in-ClassDump-2.result.now)) c.as_slice-in-ClassDump.ensures
    ∙ ap (λ (l : List (ℕ × ℕ)). 15 + 7 * w + length (flat_map constant_bytes r.constants) + length (flat_map (wide_static_bytes w) r.statics) + length (flat_map (wide_field_name_bytes w) l)) c.as_slice-in-ClassDump-2.ensures
    ∙ size-class w r.id r.stack r.parent r.loader r.signers r.domain r.spare_a r.spare_b r.size r.constants r.statics r.fields ∙ ap (λ (x : WideSub). length (wide_part_bytes w x)) (sym r.is)) c.wide_class_size.ensures

pub returns-in-Instance : goal.returns-in-Instance
returns-in-Instance c =
    let r = c.in-Instance in
    let w = c.args.width in
    subst (λ k. IfSome c.with_two_ids.result (λ n. n ≡ k)) (ap (λ (l : List ℕ). 9 + 2 * w + length l) c.as_slice-in-Instance.ensures ∙ size-instance w r.id r.stack r.class r.bytes ∙ ap (λ (x : WideSub). length (wide_part_bytes w x)) (sym r.is)) c.with_two_ids.ensures

pub returns-in-ObjectArray : goal.returns-in-ObjectArray
returns-in-ObjectArray c =
    let r = c.in-ObjectArray in
    let w = c.args.width in
    subst (λ k. IfSome c.wide_array_size.result (λ n. n ≡ k)) (ap (λ (l : List ℕ). 9 + 2 * w + length (flat_map (field w) l)) c.as_slice-in-ObjectArray.ensures ∙ size-array w r.id r.stack r.class r.items ∙ ap (λ (x : WideSub). length (wide_part_bytes w x)) (sym r.is)) c.wide_array_size.ensures

pub returns-in-PrimitiveArray : goal.returns-in-PrimitiveArray
returns-in-PrimitiveArray c =
    let r = c.in-PrimitiveArray in
    let w = c.args.width in
    subst (λ k. IfSome c.more-in-PrimitiveArray.result (λ n. n ≡ k)) (ap (λ (l : List ℕ). 10 + w + length l) c.as_slice-in-PrimitiveArray.ensures ∙ size-primitive w r.id r.stack r.code r.count r.bytes ∙ ap (λ (x : WideSub). length (wide_part_bytes w x)) (sym r.is)) c.more-in-PrimitiveArray.ensures

pub returns-in-NoData : goal.returns-in-NoData
returns-in-NoData c =
    let r = c.in-NoData in
    let w = c.args.width in
    subst (λ k. IfSome c.more-in-NoData.result (λ n. n ≡ k)) (size-no_data w r.id r.stack r.count r.code ∙ ap (λ (x : WideSub). length (wide_part_bytes w x)) (sym r.is)) c.more-in-NoData.ensures
