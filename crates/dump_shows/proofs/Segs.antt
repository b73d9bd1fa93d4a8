-- What stands in the segments of a dump alone, and what outside of them.
use Rattle.std.proofs.Common.{◌≡◌, ℕ, ◌+◌, Bool, true, false, List, [], ◌∷◌, ◌++◌, length, refl, ap, ◌∙◌}
use Rattle.std.proofs.lemmas.List.{append-nil}
use Rattle.std.proofs.lemmas.Grind.{flat_map-append}
use Rattle.std.specs.List.{flat_map, fold}
use Rattle.class_layout.specs.ClassList.{Class}
use Rattle.hprof_records.specs.declared.sub_record.SubRecord.{SubRecord}
use Rattle.hprof_records.specs.declared.top_record.TopRecord.{TopRecord}
use Rattle.hprof_records.specs.declared.top_record.TopRecord.TheVariants.{LoadClass, Text}
use Rattle.heap_graph.specs.Graph.{Graph}
use Rattle.hprof_write.specs.Classes.{array_class_id, load_record, load_records, loads_from}
use Rattle.hprof_write.specs.Segments.{Filling, Item, begun, closed, is_full, room_if, segment, segments, with_item}
use Rattle.hprof_write.specs.Strings.{array_name, text_records}
use Rattle.hprof_write.specs.Written.{dump_end, front_of, items, no_trace, written_with}
use Rattle.hprof_write.proofs.Fillings.{item-done}

module _ {X : Type 0} (v : TopRecord → List X) where
  -- a view that sees nothing in a segment sees nothing in all of them
  module _ (none : (ps : List SubRecord) → v (segment ps) ≡ []) (ss : List (List ℕ)) where
    closed-none : (f : Filling) → flat_map v f.done ≡ [] → flat_map v (closed f) ≡ []
    closed-none f h =
        flat_map-append v f.done (segment f.parts ∷ []) ∙ ap (λ l. l ++ flat_map v (segment f.parts ∷ [])) h
        ∙ append-nil (v (segment f.parts)) ∙ none f.parts

    room-none : (f : Filling) (b : Bool) → flat_map v f.done ≡ [] → flat_map v (room_if b f).done ≡ []
    room-none f true h = closed-none f h
    room-none f false h = h

    items-none : (is : List Item) (f : Filling) → flat_map v f.done ≡ [] → flat_map v (closed (fold (with_item ss) f is)) ≡ []
    items-none [] f h = closed-none f h
    items-none (i ∷ is) f h = items-none is (with_item ss f i) (ap (flat_map v) (item-done ss f i) ∙ room-none f (is_full f) h)

    pub segments-none : (is : List Item) → flat_map v (segments ss is) ≡ []
    segments-none is = items-none is (begun []) refl

  pub texts-none : ((id : ℕ) (text : List ℕ) → v (Text 0 id text) ≡ []) → (id : ℕ) (ss : List (List ℕ)) → flat_map v (text_records id ss) ≡ []
  texts-none none id [] = refl
  texts-none none id (s ∷ ss) = ap (λ l. l ++ flat_map v (text_records (id + 1) ss)) (none id s) ∙ texts-none none (id + 1) ss

  pub loads-none : ((serial class name : ℕ) → v (LoadClass 0 serial class 0 name []) ≡ []) → (ss : List (List ℕ)) (k : ℕ) (cs : List Class) → flat_map v (loads_from ss k cs) ≡ []
  loads-none none ss k [] = refl
  loads-none none ss k (c ∷ cs) = ap (λ l. l ++ flat_map v (loads_from ss (k + 1) cs)) (none _ _ _) ∙ loads-none none ss (k + 1) cs

-- what a view sees of the records of a dump
pub view-written : {X : Type 0} (v : TopRecord → List X) (ss : List (List ℕ)) (g : Graph) (table : ℕ → ℕ) → v no_trace ≡ [] → v dump_end ≡ []
    → flat_map v (written_with ss g table)
    ≡ flat_map v (text_records 1 ss) ++ (flat_map v (loads_from ss 0 g.classes) ++ v (load_record ss (length g.classes + 1) array_class_id array_name))
    ++ flat_map v (segments ss (items ss g table))
view-written v ss g table trace last =
    let texts = text_records 1 ss in
    let loads = loads_from ss 0 g.classes in
    let array = load_record ss (length g.classes + 1) array_class_id array_name in
    let all = load_records ss g.classes in
    let segs = segments ss (items ss g table) in
    let front : flat_map v (front_of ss g.classes) ≡ flat_map v texts ++ (flat_map v loads ++ v array) =
    flat_map-append v (texts ++ all) (no_trace ∷ []) ∙ ap (λ l. flat_map v (texts ++ all) ++ (l ++ [])) trace
    ∙ append-nil (flat_map v (texts ++ all)) ∙ flat_map-append v texts all
    ∙ ap (λ l. flat_map v texts ++ l) (flat_map-append v loads (array ∷ []) ∙ ap (λ l. flat_map v loads ++ l) (append-nil (v array))) in
    flat_map-append v (front_of ss g.classes ++ segs) (dump_end ∷ []) ∙ ap (λ l. flat_map v (front_of ss g.classes ++ segs) ++ (l ++ [])) last
    ∙ append-nil (flat_map v (front_of ss g.classes ++ segs)) ∙ flat_map-append v (front_of ss g.classes) segs
    ∙ ap (λ l. l ++ flat_map v segs) front

-- what a view sees before the segments, and in and behind them
pub view-front : {X : Type 0} (v : TopRecord → List X) (ss : List (List ℕ)) (cs : List Class) → ((id : ℕ) (text : List ℕ) → v (Text 0 id text) ≡ [])
    → ((serial class name : ℕ) → v (LoadClass 0 serial class 0 name []) ≡ []) → v no_trace ≡ [] → flat_map v (front_of ss cs) ≡ []
view-front v ss cs texts loads trace =
    let all = text_records 1 ss ++ load_records ss cs in
    flat_map-append v all (no_trace ∷ []) ∙ ap (λ l. flat_map v all ++ (l ++ [])) trace ∙ append-nil (flat_map v all)
    ∙ flat_map-append v (text_records 1 ss) (load_records ss cs) ∙ ap (λ l. l ++ flat_map v (load_records ss cs)) (texts-none v texts 1 ss)
    ∙ flat_map-append v (loads_from ss 0 cs) (load_record ss (length cs + 1) array_class_id array_name ∷ [])
    ∙ ap (λ l. l ++ (v (load_record ss (length cs + 1) array_class_id array_name) ++ [])) (loads-none v loads ss 0 cs)
    ∙ append-nil (v (load_record ss (length cs + 1) array_class_id array_name)) ∙ loads _ _ _

pub view-back : {X : Type 0} (v : TopRecord → List X) (ss : List (List ℕ)) (g : Graph) (table : ℕ → ℕ) → ((ps : List SubRecord) → v (segment ps) ≡ []) → v dump_end ≡ []
    → flat_map v (segments ss (items ss g table) ++ dump_end ∷ []) ≡ []
view-back v ss g table none last =
    flat_map-append v (segments ss (items ss g table)) (dump_end ∷ [])
    ∙ ap (λ l. l ++ (v dump_end ++ [])) (segments-none v none ss (items ss g table)) ∙ append-nil (v dump_end) ∙ last
