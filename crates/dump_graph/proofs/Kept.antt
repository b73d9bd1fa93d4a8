-- A graph as it is kept.
use Rattle.std.proofs.Common.{◌≡◌, ℕ, ◌+◌, ◌-◌, ◌<◌, ◌≤◌, List, [], ◌∷◌, ◌++◌, map, length, get_or, take, drop, refl, ap, sym, ◌∙◌, arith, length-append, length-drop, subst}
use Rattle.std.proofs.lemmas.List.{drop-append-le, get_or-map, length-map, map-append, take-append-le}
use Rattle.std.proofs.lemmas.List.Elements.{All-append, All-cons, All-head, All-tail}
use Rattle.std.proofs.Math.Seq.{drop-append_seam, take-length}
use Rattle.dump_graph.specs.Graph.{Node}
use Rattle.dump_graph.specs.Kept.{AreKept, kept_graph, kept_node}
use Rattle.dump_graph.specs.declared.node.KeptNode.{KeptNode}

abbrev IsKept : List ℕ → KeptNode → Type 0
IsKept ts n = (n.from ≤ n.to) × (n.to ≤ length ts)

abbrev with_targets : KeptNode → List ℕ → Node
with_targets n ts = record { id = n.id; is_root = n.is_root; targets = ts }

-- further targets change no node
kept-more : (ns : List KeptNode) (ts us : List ℕ) → AreKept ns ts → kept_graph (ts ++ us) ns ≡ kept_graph ts ns
kept-more [] ts us are = refl
kept-more (n ∷ ns) ts us are =
    let one = All-head (IsKept ts) n ns are in
    let own : take (n.to - n.from) (drop n.from (ts ++ us)) ≡ take (n.to - n.from) (drop n.from ts) =
    ap (take (n.to - n.from)) (drop-append-le n.from ts us (omega (arith, one.0, one.1))) ∙ take-append-le (n.to - n.from) (drop n.from ts) us (omega (arith, length-drop n.from ts, one.0, one.1)) in
    ap (λ l. with_targets n l ∷ kept_graph (ts ++ us) ns) own ∙ ap (λ l. kept_node ts n ∷ l) (kept-more ns ts us (All-tail (IsKept ts) n ns are))

-- a node behind others, with its targets
module _ (ns ns' : List KeptNode) (ts ts' more : List ℕ) (n : KeptNode) (are : AreKept ns ts) (targets : ts' ≡ ts ++ more) (nodes : ns' ≡ ns ++ n ∷ []) (from : n.from ≡ length ts) (to : n.to ≡ length ts') where
  long : length ts' ≡ length ts + length more
  long = ap length targets ∙ length-append ts more

  pub are-kept-add : AreKept ns' ts'
  are-kept-add =
      subst (λ (l : List KeptNode). AreKept l ts') (sym nodes)
      (All-append (IsKept ts') ns (n ∷ []) (λ k d within. let r = are k d within in (r.0, omega (arith, r.1, long)))
      (All-cons (IsKept ts') n [] (omega (arith, from, to, long), omega (arith, to)) (λ k d within. absurd (omega (arith, within)))))

  pub kept-add : kept_graph ts' ns' ≡ kept_graph ts ns ++ with_targets n more ∷ []
  kept-add =
      let own : take (n.to - n.from) (drop n.from ts') ≡ more =
      ap (λ k. take k (drop n.from ts')) (omega (arith, from, to, long))
      ∙ (ap (take (length more)) (ap (λ k. drop k ts') from ∙ (ap (drop (length ts)) targets ∙ drop-append_seam ts more)) ∙ take-length more) in
      ap (kept_graph ts') nodes
      ∙ (map-append (kept_node ts') ns (n ∷ [])
      ∙ (ap (λ l. l ++ kept_node ts' n ∷ []) (ap (λ t. kept_graph t ns) targets ∙ kept-more ns ts more are)
      ∙ ap (λ l. kept_graph ts ns ++ with_targets n l ∷ []) own))

-- what a graph has of a node
pub told-at : {X : Type 0} (f : Node → X) (ts : List ℕ) (ns : List KeptNode) (g : List Node) (i : ℕ) (n : KeptNode) (e : X) → kept_graph ts ns ≡ g → i < length g → n ≡ get_or ns i n → f (kept_node ts n) ≡ get_or (map f g) i e
told-at f ts ns g i n e view within is =
    let inside : i < length ns = omega (arith, within, ap length view, length-map ns (kept_node ts)) in
    let among : i < length (kept_graph ts ns) = omega (arith, inside, length-map ns (kept_node ts)) in
    ap (λ (m : KeptNode). f (kept_node ts m)) is
    ∙ (sym (get_or-map f (kept_graph ts ns) i (kept_node ts n) e among ∙ ap f (get_or-map (kept_node ts) ns i n (kept_node ts n) inside)) ∙ ap (λ (l : List Node). get_or (map f l) i e) view)

pub kept-ids : (ts : List ℕ) (ns : List KeptNode) → map (λ x. x.id) (kept_graph ts ns) ≡ map (λ n. n.id) ns
kept-ids ts [] = refl
kept-ids ts (n ∷ ns) = ap (λ l. n.id ∷ l) (kept-ids ts ns)
