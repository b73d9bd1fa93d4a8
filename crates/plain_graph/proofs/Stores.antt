-- A store, where the slot was stored to before, and where not.
use Rattle.std.proofs.Common.{◌≡◌, ℕ, Bool, true, false, cond, List, [], ◌∷◌, ◌++◌, None, Some, nat_eq, position, set, refl}
use Rattle.heap_graph.specs.declared.names.Stored.{Stored}
use Rattle.heap_graph.specs.Values.{stored_if, with_stored}
use Rattle.plain_graph.proofs.FirstPlaces.{changed_at, grown_by}

stored_if-cond : (b : Bool) (new old : Stored) (rest later : List Stored) → stored_if b new rest later old ≡ cond b (new ∷ rest) (old ∷ later)
stored_if-cond true new old rest later = refl
stored_if-cond false new old rest later = refl

pub with_stored-at : (ss : List Stored) (new : Stored) (i : ℕ) → position (λ s. nat_eq s.at.offset new.at.offset) ss ≡ Some i → with_stored ss new ≡ set ss i new
with_stored-at ss new i at =
    changed_at (λ ss. with_stored ss new) (λ s. nat_eq s.at.offset new.at.offset) (λ s. new) new refl (λ s ss. stored_if-cond (nat_eq s.at.offset new.at.offset) new s ss (with_stored ss new)) ss i new at

pub with_stored-new : (ss : List Stored) (new : Stored) → position (λ s. nat_eq s.at.offset new.at.offset) ss ≡ None → with_stored ss new ≡ ss ++ new ∷ []
with_stored-new ss new at =
    grown_by (λ ss. with_stored ss new) (λ s. nat_eq s.at.offset new.at.offset) (λ s. new) new refl (λ s ss. stored_if-cond (nat_eq s.at.offset new.at.offset) new s ss (with_stored ss new)) ss at

-- both
pub ruleset stores = (with_stored-at, with_stored-new)
