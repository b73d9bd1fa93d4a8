-- The frames of one process that lives alone.
use Rattle.std.proofs.Common.{◌≡◌, ◌+◌, true, false, true≢false, inl, inr, List, [], ◌∷◌, ◌++◌, append-nil, length, map, sum, nat_eq, refl, sym, ap, subst, ◌∙◌, arith}
use Rattle.std.specs.List.{AllByRecursion, IsDistinct, flat_map, list_any}
use Rattle.std.proofs.lemmas.Bool.{and_parts, or_cases, or_left, or_right}
use Rattle.heap_graph.specs.Graph.{Graph}
use Rattle.heap_world.specs.declared.names.Label.{Label}
use Rattle.heap_world.specs.declared.names.PageName.{PageName}
use Rattle.heap_graph.specs.Formed.{IsFormed}
use Rattle.heap_world.specs.Pages.{is_touched, own_page_count, same_page, standing_pages}
use Rattle.heap_world.specs.World.{Process, World, distinct_labels, frame_count, keep_label, label_of, live, same_label, some_labels, standing_labels}
use Rattle.world_laws.specs.Labels.{HasLabel, IsLabelled}
use Rattle.world_laws.specs.Named.{stands, waits}
use Rattle.world_laws.proofs.StandingLists.{distinct_parts, named_both, none_from, page_first, standing_lists, standing_once}

-- what each page of a list has
all_touched : (P : PageName → Type 0) (ps : List PageName) → ((a : PageName) → is_touched ps a ≡ true → P a) → AllByRecursion P ps
all_touched P [] h = tt
all_touched P (p ∷ ps) h = (h p (page_first p ps), all_touched P ps (λ a e. h a (or_right (same_page a p) (is_touched ps a) e)))

module _ (q : Process) where
  abbrev labels_of : List PageName → List Label
  labels_of ps = flat_map (λ page. some_labels (label_of q.labels page)) ps

  -- a label of these pages is of one of them
  label_at : (l : Label) (ps : List PageName) → AllByRecursion (HasLabel q) ps → list_any (same_label l) (labels_of ps) ≡ true → is_touched ps l.page ≡ true
  label_at l [] all h = h
  label_at l (p ∷ ps) all h =
      let own : Label = record { page = p; line = all.0.0 } in
      let have : list_any (same_label l) (own ∷ labels_of ps) ≡ true = subst (λ o. list_any (same_label l) (some_labels o ++ labels_of ps) ≡ true) all.0.1 h in
      elim (or_cases (same_label l own) (list_any (same_label l) (labels_of ps)) have) [
        | inl here ↦ or_left (same_page l.page p) (is_touched ps l.page) (and_parts (same_page l.page p) (nat_eq l.line all.0.0) here).0
        | inr later ↦ or_right (same_page l.page p) (is_touched ps l.page) (label_at l ps all.1 later)
      ]

  -- so there are as many different ones as pages
  labels_counted : (ps : List PageName) → AllByRecursion (HasLabel q) ps → IsDistinct same_page ps → length (distinct_labels (labels_of ps)) ≡ length ps
  labels_counted [] all once = refl
  labels_counted (p ∷ ps) all once =
      let own : Label = record { page = p; line = all.0.0 } in
      let parts = distinct_parts p ps once in
      let apart : list_any (same_label own) (labels_of ps) ≡ false = none_from (list_any (same_label own) (labels_of ps)) (λ h. true≢false (sym (label_at own ps all.1 h) ∙ parts.0)) in
      ap (λ o. length (distinct_labels (some_labels o ++ labels_of ps))) all.0.1
      ∙ ap (λ b. length (keep_label b own (distinct_labels (labels_of ps)))) apart
      ∙ omega (arith, labels_counted ps all.1 parts.1)

pub frames_alone : (w : World) (q : Process) → live w.processes ≡ q ∷ [] → IsFormed q.part.graph → IsLabelled q → frame_count w ≡ length (standing_pages q.part.graph) + own_page_count q.part.graph
frames_alone w q alone formed labelled =
    let g : Graph = q.part.graph in
    let ps : List PageName = standing_pages g in
    let all : AllByRecursion (HasLabel q) ps =
    all_touched (HasLabel q) ps (λ a h. labelled a (named_both g a ∙ or_left (stands g a) (waits g a) (sym (standing_lists g a) ∙ h))) in
    ap (λ qs. length (distinct_labels (flat_map standing_labels qs)) + sum (map (λ r. own_page_count r.part.graph) qs)) alone
    ∙ ap (λ ls. length (distinct_labels ls) + sum (own_page_count g ∷ [])) (append-nil (labels_of q ps))
    ∙ ap (λ n. n + sum (own_page_count g ∷ [])) (labels_counted q ps all (standing_once g formed))
    ∙ omega arith
