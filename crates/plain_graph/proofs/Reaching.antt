-- What slots and roots hold, one more at a time, and rounds that add nothing.
use Rattle.std.proofs.Common.{◌≡◌, ℕ, zero, suc, ◌+◌, ◌-◌, ◌<◌, true, false, not, cond, List, [], ◌∷◌, ◌++◌, map, take, get_or, length, append-nil, refl, sym, ap, ◌∙◌, arith}
use Rattle.std.proofs.lemmas.List.{take_more, map-append}
use Rattle.std.proofs.lemmas.List.Elements.{filter_more}
use Rattle.heap_graph.specs.declared.names.Content.{Content}
use Rattle.heap_graph.specs.declared.names.Content.TheVariants as content
use Rattle.heap_graph.specs.declared.names.Root.{Root}
use Rattle.heap_graph.specs.declared.names.Held.{Held}
use Rattle.heap_graph.specs.declared.names.Stored.{Stored}
use Rattle.heap_graph.specs.Values.{with_target, targets, held_targets, slot_of, strong_slots}
use Rattle.heap_graph.specs.Reach.{Node, next_round, round, reached_from}
use Rattle.plain_graph.specs.Reaching.{roots_held}

-- a slot's target in front of two lists
with_target-append : (s : Content) (ms ns : List ℕ) → with_target s (ms ++ ns) ≡ with_target s ms ++ ns
with_target-append (content.Number z) ms ns = refl
with_target-append content.Null ms ns = refl
with_target-append (content.Object n) ms ns = refl

targets-append : (ss ts : List Stored) → targets (ss ++ ts) ≡ targets ss ++ targets ts
targets-append [] ts = refl
targets-append (s ∷ ss) ts = ap (with_target s.value) (targets-append ss ts) ∙ with_target-append s.value (targets ss) (targets ts)

held_targets-append : (hs ks : List Held) → held_targets (hs ++ ks) ≡ held_targets hs ++ held_targets ks
held_targets-append [] ks = refl
held_targets-append (h ∷ hs) ks = ap (with_target (slot_of h)) (held_targets-append hs ks) ∙ with_target-append (slot_of h) (held_targets hs) (held_targets ks)

-- one more slot that isn't weak
pub strong_more : (ss : List Stored) (i : ℕ) (d : Stored) → i < length ss → (get_or ss i d).at.weak ≡ false →
    targets (strong_slots (take (i + 1) ss)) ≡ targets (strong_slots (take i ss)) ++ with_target (get_or ss i d).value []
strong_more ss i d within strong =
    ap targets (filter_more (λ s. not s.at.weak) ss i d within)
    ∙ (ap (λ b. targets (strong_slots (take i ss) ++ cond (not b) (get_or ss i d ∷ []) [])) strong
    ∙ targets-append (strong_slots (take i ss)) (get_or ss i d ∷ []))

-- one more slot that is weak
pub weak_more : (ss : List Stored) (i : ℕ) (d : Stored) → i < length ss → (get_or ss i d).at.weak ≡ true →
    targets (strong_slots (take (i + 1) ss)) ≡ targets (strong_slots (take i ss))
weak_more ss i d within weak =
    ap targets (filter_more (λ s. not s.at.weak) ss i d within)
    ∙ (ap (λ b. targets (strong_slots (take i ss) ++ cond (not b) (get_or ss i d ∷ []) [])) weak
    ∙ ap targets (append-nil (strong_slots (take i ss))))

-- one more root
pub roots_more : (rs : List Root) (i : ℕ) (r : Root) → i < length rs → r ≡ get_or rs i r →
    roots_held (take (i + 1) rs) ≡ roots_held (take i rs) ++ with_target (slot_of r.holds) []
roots_more rs i r within is =
    ap roots_held (take_more rs i r within)
    ∙ (ap held_targets (map-append (λ r. r.holds) (take i rs) (get_or rs i r ∷ []))
    ∙ (held_targets-append (map (λ r. r.holds) (take i rs)) (map (λ r. r.holds) (get_or rs i r ∷ []))
    ∙ ap (λ ns. roots_held (take i rs) ++ ns)
    (ap (λ r. with_target (slot_of r.holds) []) (sym is))))

-- a round that adds nothing is the last
stays : (vs : List Node) (from seen : List ℕ) (k : ℕ) → next_round vs from seen ≡ seen → seen ≡ round vs from k → (more : ℕ) → round vs from (more + k) ≡ seen
stays vs from seen k same is zero =
    let e : 0 + k ≡ k = omega arith in
    ap (round vs from) e ∙ sym is
stays vs from seen k same is (suc more) =
    let e : suc more + k ≡ suc (more + k) = omega arith in
    ap (round vs from) e ∙ (ap (next_round vs from) (stays vs from seen k same is more) ∙ same)

pub last_round : (vs : List Node) (from seen : List ℕ) (k : ℕ) → k < length vs → next_round vs from seen ≡ seen → seen ≡ round vs from k → seen ≡ reached_from vs from
last_round vs from seen k within same is =
    let e : (length vs - k) + k ≡ length vs = omega arith in
    sym (stays vs from seen k same is (length vs - k)) ∙ ap (round vs from) e
