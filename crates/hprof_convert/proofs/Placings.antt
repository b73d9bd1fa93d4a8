-- Places of identifiers, with one more of these.
use Rattle.std.proofs.Common.{◌≡◌, ℕ, ◌+◌, ◌<◌, ◌^◌, cond, nat_eq, List, [], ◌∷◌, ◌++◌, length, None, Some, ap, ◌∙◌, arith, length-append}
use Rattle.std.specs.Prelude.{position}
use Rattle.std.specs.Ordering.{is_eq, nat_cmp}
use Rattle.std.specs.BTreeMap.{BTreeMap, get}
use Rattle.dump_graph.proofs.Numberings.{numbered-push}
use Rattle.hprof_convert.specs.Placed.{ArePlaced}

pub placed-new : (ids : List ℕ) (firsts firsts' : BTreeMap ℕ ℕ) (id : ℕ) → ArePlaced ids firsts → length ids + 1 < 2 ^ 32 → position (nat_eq id) ids ≡ None
    → ((q : ℕ) → get nat_cmp firsts' q ≡ cond (is_eq (nat_cmp id q)) (Some (length ids)) (get nat_cmp firsts q)) → ArePlaced (ids ++ id ∷ []) firsts'
placed-new ids firsts firsts' id are few new updated = record {
  placed = λ q. updated q ∙ (ap (λ o. cond (is_eq (nat_cmp id q)) (Some (length ids)) o) (are.placed q) ∙ numbered-push ids id q new);
  few = omega (arith, few, length-append ids (id ∷ []));
}
