-- The class dumps of records, record by record.
use Rattle.std.proofs.Common.{◌≡◌, ℕ, ◌+◌, ◌<◌, List, [], ◌∷◌, ◌++◌, length, get_or, take, ap, ◌∙◌}
use Rattle.std.specs.List.{filter_map, flat_map}
use Rattle.std.proofs.lemmas.List.{append-nil, take_more}
use Rattle.std.proofs.lemmas.List.Concat.{flat_map-append}
use Rattle.std.proofs.lemmas.List.Elements.{filter_map-append}
use Rattle.hprof_wide.specs.declared.wide_sub.WideSub.{WideSub}
use Rattle.hprof_wide.specs.declared.wide_top.WideTop.{WideTop}
use Rattle.hprof_convert.specs.Layouts.{wide_class_of, wide_classes, wide_parts_of}

pub classes-more : (records : List WideTop) (i : ℕ) (d : WideTop) → i < length records
    → wide_classes (take (i + 1) records) ≡ wide_classes (take i records) ++ filter_map wide_class_of (wide_parts_of (get_or records i d))
classes-more records i d within =
    let one : WideTop = get_or records i d in
    let before : List WideSub = flat_map wide_parts_of (take i records) in
    ap wide_classes (take_more records i d within)
    ∙ (ap (filter_map wide_class_of) (flat_map-append wide_parts_of (take i records) (one ∷ []) ∙ ap (λ (l : List WideSub). before ++ l) (append-nil (wide_parts_of one)))
    ∙ filter_map-append wide_class_of before (wide_parts_of one))
