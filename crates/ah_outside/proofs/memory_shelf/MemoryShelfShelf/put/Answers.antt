use Rattle.std.proofs.Common.{length, inl, inr, refl, ap, arith, length-append}
use Rattle.ah_outside.specs.ShelfRows.{ended_at}
use Rattle.ah_outside.proofs.RowLemmas.{counts, some_open, bytes_added, length-with_last}
use Rattle.ah_outside.proofs.memory_shelf.MemoryShelfShelf.put.Goals as goal
use Rattle.ah_outside.proofs.memory_shelf.MemoryShelfShelf.put.Goals.{then-is_next_to_fail-via-then-is_next_to_fail, then-is_next_to_fail-via-else-is_next_to_fail+then-self-len}

pub returns-then-is_next_to_fail-clause-fails : goal.returns-then-is_next_to_fail-clause-fails
returns-then-is_next_to_fail-clause-fails c =
    let known = counts c.self.inside.bytes.items c.self.inside.rows.items c.self.invariant.0 in
    rw (← c.self.view_is) (
      λ _. elim c.then-is_next_to_fail.branch [
        | then-is_next_to_fail-via-then-is_next_to_fail w ↦ inl (c.is_next_to_fail.ensures.0 w.if-is_next_to_fail.true)
        | then-is_next_to_fail-via-else-is_next_to_fail+then-self-len w ↦ inr (omega arith)
      ],
      λ _. refl,
    )

pub invariant_of-self-2 : goal.invariant_of-self-2
invariant_of-self-2 c =
    let some = some_open c.self.inside.bytes.items c.self.inside.rows.items (rw (← c.self.view_is) at c.requires) in
    let extended = rw c.unwrap.ensures at c.extend_from_slice.ensures.items in
    let added = bytes_added _ _ _ _ _ _ c.self.invariant.0 some extended c.move_last_end.ensures.moved (omega arith) in (
      added.laid,
      omega (arith, ap length extended, length-append c.self.inside.bytes.items c.args.piece.now),
      omega (arith, c.extend_from_slice.ensures.capacity),
      omega (arith, ap length c.move_last_end.ensures.moved, length-with_last (ended_at c.len-2.result) c.self.inside.rows.items),
      omega (arith, c.move_last_end.ensures.capacity),
    )

pub returns-clause-state : goal.returns-clause-state
returns-clause-state c =
    let some = some_open c.self.inside.bytes.items c.self.inside.rows.items (rw (← c.self.view_is) at c.requires) in
    let extended = rw c.unwrap.ensures at c.extend_from_slice.ensures.items in
    let added = bytes_added _ _ _ _ _ _ c.self.invariant.0 some extended c.move_last_end.ensures.moved (omega arith) in
    rw (← c.self.view_is, added.entries, c.count_call.ensures)

pub returns-clause-fails : goal.returns-clause-fails
returns-clause-fails c =
    let known = counts c.self.inside.bytes.items c.self.inside.rows.items c.self.invariant.0 in
    rw (← c.self.view_is) (
      λ h. absurd (cc),
      λ h. elim h [
        | inl next ↦ let called = c.is_next_to_fail.ensures.1 next in cc
        | inr short ↦ absurd (omega arith)
      ],
    )
