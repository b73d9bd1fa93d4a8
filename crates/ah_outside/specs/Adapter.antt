-- What an adapter over one of std's readers or writers holds.
use Rattle.std.specs.Prelude.{ℕ, refl}
use Rattle.std.specs.Coded.{Coded, code_by, coded×, coded_ℕ}

-- the reader or the writer, and how many faults there have been
pub record Adapter (I : Type 0) : Type 0 where
  pub inner : I
  pub faults : ℕ

module _ {I : Type 0} where
  -- an adapter is stored as the pair of its parts
  abbrev pub adapter_code : Coded I → Coded (Adapter I)
  adapter_code inner =
      code_by (I × ℕ) (coded× inner coded_ℕ) (λ a. (a.inner, a.faults)) (λ p. record { inner = p.0; faults = p.1 }) (λ _. refl)
