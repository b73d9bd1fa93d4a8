use Rattle.std.proofs.Common.{◌≡◌, ◌∙◌, ◌-◌, ◌/◌, ◌<◌, ℕ, List, length, get_or, ap, arith}
use Rattle.std.specs.Prelude.{slice_get}
use Rattle.std.proofs.lemmas.List.{get_or_default}
use Rattle.large_objects.specs.declared.rows.LargeRow.{LargeRow}
use Rattle.large_objects.specs.Rows.{slot_base}
use Rattle.large_objects.specs.Table.{AreFound, slot_of}
use Rattle.large_objects.proofs.RowLemmas.{slot-in}
use Rattle.large_objects.proofs.TableLemmas.{row-found}
use Rattle.large_objects.proofs.table.Table.index.Goals as goal

-- the row that an address has, where the code looks for it
read : (row_of : List ℕ) (rows : List LargeRow) (i at x : ℕ) → AreFound row_of rows → i < length rows → slot_of rows i < length row_of → slot_base (slot_of rows i) ≡ at → x ≡ get_or row_of ((at - 2147483648) / 1048576) x → x ≡ i
read row_of rows i at x found within there spot is =
    let slot : (at - 2147483648) / 1048576 ≡ slot_of rows i = omega (arith, spot) in
    is ∙ get_or_default row_of ((at - 2147483648) / 1048576) x 0 (omega (arith, slot, there)) ∙ ap (λ k. get_or row_of k 0) slot ∙ found i within

pub overflow_sub-at : goal.overflow_sub-at
overflow_sub-at c =
    let at = row-found c.args.self.now.rows.items c.args.at.0 c.requires.there in
    omega (arith, at.2)

pub index-requires : goal.index-requires
index-requires c =
    let rows = c.args.self.now.rows.items in
    let at = row-found rows c.args.at.0 c.requires.there in
    omega (arith, at.2, slot-in rows at.0 c.requires.table.rows at.1, c.requires.table.len, c.args.self.now.row_of.ok.0)

pub returns-clause-within : goal.returns-clause-within
returns-clause-within c =
    let table = c.args.self.now in
    let rows = table.rows.items in
    let at = row-found rows c.args.at.0 c.requires.there in
    let there : slot_of rows at.0 < length table.row_of.items = omega (arith, slot-in rows at.0 c.requires.table.rows at.1, c.requires.table.len) in
    let same = read table.row_of.items rows at.0 c.args.at.0 c.index.result.now c.requires.table.found at.1 there at.2 c.index.ensures in
    omega (arith, same, at.1, table.rows.ok.0)

pub returns-clause-row : goal.returns-clause-row
returns-clause-row c =
    let table = c.args.self.now in
    let rows = table.rows.items in
    let at = row-found rows c.args.at.0 c.requires.there in
    let there : slot_of rows at.0 < length table.row_of.items = omega (arith, slot-in rows at.0 c.requires.table.rows at.1, c.requires.table.len) in
    ap (slice_get rows) (read table.row_of.items rows at.0 c.args.at.0 c.index.result.now c.requires.table.found at.1 there at.2 c.index.ensures) ∙ at.3
