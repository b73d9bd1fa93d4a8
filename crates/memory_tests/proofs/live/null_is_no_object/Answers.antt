use Rattle.std.proofs.Common.{◌≡◌, ℕ, false, [], ◌∷◌, sym, subst, inl, inr, arith}
use Rattle.std.specs.List.{Contains}
use Rattle.std.proofs.lemmas.Bool.{false≢true}
use Rattle.heap_graph.specs.declared.names.Shape.TheVariants.{Instance}
use Rattle.raw_objects.specs.Raws.{Raws, new_raw}
use Rattle.live_objects.specs.Reach.{IsFound}
use Rattle.live_objects.proofs.YoungLemmas.{cons-cases}
use Rattle.memory_tests.proofs.live.null_is_no_object.Goals as goal

-- no objects
nothing : Raws
nothing = record { has = λ a. false; raw = λ a. new_raw (Instance 0) 0 }

null-found : IsFound nothing 0
null-found = record { young = λ is. absurd (false≢true is); large = λ is. absurd (false≢true is) }

only-null : (n : ℕ) → Contains (0 ∷ 0 ∷ []) n → n ≡ 0
only-null n c = elim (cons-cases 0 (0 ∷ []) n c) [
  | inl same ↦ sym same
  | inr later ↦ elim (cons-cases 0 [] n later) [ inl same ↦ sym same | inr none ↦ absurd (omega (arith, none.1)) ]
]

pub find_live-requires : goal.find_live-requires
unfolding nothing
find_live-requires g c = (
  nothing,
  record {
    holds = record { known = λ a has. absurd (false≢true has); stands = λ a has. absurd (false≢true has); apart = λ a b has. absurd (false≢true has) };
    young = λ a has. absurd (false≢true has);
    large = λ a has. absurd (false≢true has);
    first = λ n within. subst (IsFound nothing) (sym (only-null n within)) null-found;
    targets = λ a p node. absurd (false≢true node);
  },
)
