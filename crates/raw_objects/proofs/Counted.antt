-- How many reads are counted where references are turned.
use Rattle.std.proofs.Common.{◌≡◌, ℕ, ◌+◌, ◌*◌, ◌≤◌, List, ◌++◌, Option, Some, None, length, sym, ap, subst, arith}
use Rattle.std.specs.List.{count_by}
use Rattle.std.proofs.lemmas.List.Sums.{count_by-le-length}
use Rattle.page_tables.specs.Address.{is_immune}
use Rattle.cow_pages.specs.Memory.{Memory, IsSound}
use Rattle.heap_graph.specs.declared.names.Shape.{Shape}
use Rattle.heap_graph.specs.declared.names.Shape.TheVariants.{Instance, Array}
use Rattle.object_view.specs.declared.names.Slot.{Slot}
use Rattle.object_view.specs.Changes.{reads_after_all, shape_reads, slot_reads}
use Rattle.object_view.specs.Seen.{RoseBy}
use Rattle.object_view.proofs.Rises.{reads-rise, rose-both, rose-more}

-- a shape is read by at most two reads, and a slot by one
few : (at : ℕ) (shape : Shape) (found : Option Slot) → length (shape_reads at shape ++ slot_reads found) ≤ 3
few at (Instance class) None = omega arith
few at (Instance class) (Some slot) = omega arith
few at (Array kind count) None = omega arith
few at (Array kind count) (Some slot) = omega arith

-- the reads of one reference, behind those of the ones before it
pub slot-rose : (before k at : ℕ) (m n : Memory) (shape : Shape) (found : Option Slot) → IsSound m → RoseBy (3 * k) before m.reads
    → n ≡ record m { reads = reads_after_all m.reads (shape_reads at shape ++ slot_reads found) } → RoseBy (3 * k + 3) before n.reads
slot-rose before k at m n shape found sound was is =
    let ats : List ℕ = shape_reads at shape ++ slot_reads found in
    let most : count_by is_immune ats ≤ 3 = omega (arith, count_by-le-length is_immune ats, few at shape found) in
    let now : n.reads ≡ reads_after_all m.reads ats = ap (λ (x : Memory). x.reads) is in
    subst (RoseBy (3 * k + 3) before) (sym now)
    (rose-both (3 * k) 3 before m.reads (reads_after_all m.reads ats) was
    (rose-more (count_by is_immune ats) 3 m.reads (reads_after_all m.reads ats) most (reads-rise m.reads ats sound.reads_fit)))
