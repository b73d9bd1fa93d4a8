use Rattle.std.proofs.Common.{◌≡◌, ◌+◌, ◌++◌, ◌∷◌, [], List, length, refl, sym, ap, subst, arith}
use Rattle.std.proofs.lemmas.List.{length_push, length-map}
use Rattle.sharers.specs.declared.rows.Row.{Row}
use Rattle.sharers.specs.Shares.{Shares}
use Rattle.sharers.specs.Rows.{IsLinked}
use Rattle.sharers.proofs.LinkLemmas.{IsLinked-frees, Frees-join}
use Rattle.sharers.proofs.rows.Sharers.add_one.Goals as goal

pub invariant_of-self : goal.invariant_of-self
invariant_of-self c =
    let rows = c.self.inside.rows.items in
    let spare = c.self.inside.spare in
    let first = c.self.inside.first_free in
    let number : c.len-number.result ≡ length rows = omega (arith, c.len-number.ensures, c.self.inside.rows.ok) in
    let y : Row = record { holders = 0; next = first; rank = spare + 1 } in
    let linked = IsLinked-frees _ _ _ _ _ c.self.invariant.linked (Frees-join rows first spare y refl refl refl) in
    let more = c.push_reserved.ensures.items in
    record {
      linked = subst (λ (new : List Row). IsLinked new c.len-number.result (spare + 1)) (sym more) (subst (λ n. IsLinked (rows ++ y ∷ []) n (spare + 1)) (sym number) linked);
      few = omega (
        arith,
        c.requires.few,
        ap length more,
        length_push rows y,
        ap (λ (s : Shares). length s.counts) c.self.view_is,
        length-map rows (λ (it : Row). it.holders),
      );
    }
