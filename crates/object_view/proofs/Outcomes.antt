-- What holds of a call that succeeded, and of one that failed.
use Rattle.std.specs.Prelude.{Result, Ok, Err, OnOk, OnErr, IsOk}
use Rattle.std.proofs.Common.{rules}

module _ {T E : Type 0} where
  -- two facts give a third
  pub on_ok_both : {P Q R : Type 0} (r : Result T E) → (P → Q → R) → OnOk r P → OnOk r Q → OnOk r R
  on_ok_both (Ok x) f p q = f p q
  on_ok_both (Err e) f p q = tt

  -- what holds of both outcomes holds
  pub either : {P : Type 0} (r : Result T E) → OnOk r P → OnErr r P → P
  either (Ok x) p q = p
  either (Err e) p q = q

  -- a call that can't have failed succeeded
  pub is_ok_unless : {P : Type 0} (r : Result T E) → OnErr r P → (P → ⊥) → IsOk r
  is_ok_unless (Ok x) p never = search rules
  is_ok_unless (Err e) p never = absurd (never p)

  -- what holds, holds of each outcome
  pub on_ok : {P : Type 0} (r : Result T E) → P → OnOk r P
  on_ok (Ok x) p = p
  on_ok (Err e) p = tt

  pub on_err : {P : Type 0} (r : Result T E) → P → OnErr r P
  on_err (Ok x) p = tt
  on_err (Err e) p = p
