use Rattle.std.proofs.Common.{length, inl, inr, refl, ap, arith, length-append}
use Rattle.ah_outside.proofs.RowLemmas.{counts, name_added}
use Rattle.ah_outside.proofs.memory_shelf.MemoryShelfShelf.begin.Goals as goal
use Rattle.ah_outside.proofs.memory_shelf.MemoryShelfShelf.begin.Goals.{then-is_next_to_fail-via-then-is_next_to_fail, then-is_next_to_fail-via-else-is_next_to_fail+then-len-self, then-is_next_to_fail-via-else-is_next_to_fail+else-len-self+then-self-start}

pub returns-then-is_next_to_fail-clause-fails : goal.returns-then-is_next_to_fail-clause-fails
returns-then-is_next_to_fail-clause-fails c =
    let known = counts c.self.inside.bytes.items c.self.inside.rows.items c.self.invariant.0 in
    rw (← c.self.view_is) (
      λ _. elim c.then-is_next_to_fail.branch [
        | then-is_next_to_fail-via-then-is_next_to_fail w ↦ inl (c.is_next_to_fail.ensures.0 w.if-is_next_to_fail.true)
        | then-is_next_to_fail-via-else-is_next_to_fail+then-len-self w ↦ inr (inl (omega arith))
        | then-is_next_to_fail-via-else-is_next_to_fail+else-len-self+then-self-start w ↦ inr (inr (omega arith))
      ],
      λ _. refl,
    )

pub invariant_of-self-2 : goal.invariant_of-self-2
invariant_of-self-2 c =
    let extended = rw c.unwrap.ensures at c.extend_from_slice.ensures.items in
    let pushed = rw c.unwrap-2.ensures at c.push.ensures.items in
    let added = name_added _ _ _ _ _ _ _ c.self.invariant.0 extended pushed (omega arith) (omega arith) in (
      added.laid,
      omega (arith, ap length extended, length-append c.self.inside.bytes.items c.args.name.now),
      omega (arith, c.extend_from_slice.ensures.capacity),
      omega (arith, c.push.ensures.upper_bound),
      omega (arith, c.push.ensures.capacity),
    )

pub returns-clause-state : goal.returns-clause-state
returns-clause-state c =
    let extended = rw c.unwrap.ensures at c.extend_from_slice.ensures.items in
    let pushed = rw c.unwrap-2.ensures at c.push.ensures.items in
    let added = name_added _ _ _ _ _ _ _ c.self.invariant.0 extended pushed (omega arith) (omega arith) in
    rw (← c.self.view_is, added.entries, c.count_call.ensures)

pub returns-clause-fails : goal.returns-clause-fails
returns-clause-fails c =
    let known = counts c.self.inside.bytes.items c.self.inside.rows.items c.self.invariant.0 in
    rw (← c.self.view_is) (
      λ h. absurd (cc),
      λ h. elim h [
        | inl next ↦ let called = c.is_next_to_fail.ensures.1 next in cc
        | inr h ↦ elim h [ inl full ↦ absurd (omega arith) | inr short ↦ absurd (omega arith) ]
      ],
    )
