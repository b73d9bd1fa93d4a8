-- The rows of a shelf in memory, and the entries that they stand for.
use Rattle.std.proofs.Common.{◌≡◌, ℕ, zero, suc, ◌+◌, ◌-◌, ◌<◌, ◌≤◌, true, false, List, [], ◌∷◌, ◌++◌, length, map, take, drop, set, get_or, slice_range, slice_get, Some, option_map, refl, sym, ap, ◌∙◌, arith, le_refl}
use Rattle.std.proofs.lemmas.List.{take-append-le, drop-append-le, length-take-le, length-drop, length-append, length-map, map-append, take_all}
use Rattle.std.proofs.lemmas.Option.{slice_get-map, slice_get-get_or}
use Rattle.std.proofs.Math.Nat.{sub_self}
use Rattle.std.proofs.Math.Seq.{drop-append_seam}
use Rattle.ah_outside.specs.Outside.{Entry, begun, with_bytes, with_last_closed, is_last_open}
use Rattle.ah_outside.specs.MemoryShelf.{room_taken}
use Rattle.ah_outside.specs.ShelfRows.{entry_of, IsLaidOut, ended_at, marked, with_last}
use Rattle.ah_outside.specs.declared.memory_shelf.Row.{Row}

-- the last element written is the list with its last row changed
pub set-last : (other : Row → Row) (rows : List Row) (i : ℕ) (row : Row) → i + 1 ≡ length rows → row ≡ get_or rows i row →
    set rows i (other row) ≡ with_last other rows
set-last other [] i row last is = absurd (omega arith)
set-last other (x ∷ []) zero row last is = ap (λ r. other r ∷ []) is
set-last other (x ∷ []) (suc i) row last is = absurd (omega arith)
set-last other (x ∷ y ∷ rows) zero row last is = absurd (omega arith)
set-last other (x ∷ y ∷ rows) (suc i) row last is = ap (λ l. x ∷ l) (set-last other (y ∷ rows) i row (omega arith) is)

pub length-with_last : (other : Row → Row) (rows : List Row) → length (with_last other rows) ≡ length rows
length-with_last other [] = refl
length-with_last other (x ∷ []) = refl
length-with_last other (x ∷ y ∷ rows) = ap suc (length-with_last other (y ∷ rows))

pub IsLaidOut-le : (from : ℕ) (rows : List Row) (to : ℕ) → IsLaidOut from rows to → from ≤ to
IsLaidOut-le from [] to laid = omega (arith, laid)
IsLaidOut-le from (row ∷ rows) to laid = omega (arith, laid.0, IsLaidOut-le row.end rows to laid.3)

-- a row of a layout
pub record Fits (row : Row) (to : ℕ) : Type 0 where
  pub name_in_order : row.start ≤ row.name_end
  pub bytes_in_order : row.name_end ≤ row.end
  pub within : row.end ≤ to

pub Fits-at : (from : ℕ) (rows : List Row) (to k : ℕ) (row : Row) → IsLaidOut from rows to → k < length rows → row ≡ get_or rows k row → Fits row to
Fits-at from [] to k row laid there is = absurd (omega arith)
Fits-at from (x ∷ rows) to zero row laid there is =
    rw is (record { name_in_order = laid.1; bytes_in_order = laid.2; within = IsLaidOut-le x.end rows to laid.3 })
Fits-at from (x ∷ rows) to (suc k) row laid there is = Fits-at x.end rows to k row laid.3 (omega arith) is

-- the entry of a row, at the row's place
pub entry_at : (bytes : List ℕ) (rows : List Row) (k : ℕ) (row : Row) → k < length rows → row ≡ get_or rows k row →
    slice_get (map (entry_of bytes) rows) k ≡ Some (entry_of bytes row)
entry_at bytes rows k row there is =
    slice_get-map (entry_of bytes) rows k
    ∙ ap (option_map (entry_of bytes)) (slice_get-get_or rows k row there)
    ∙ ap (λ r. Some (entry_of bytes r)) (sym is)

length-slice_range : (xs : List ℕ) (a b : ℕ) → a ≤ b → b ≤ length xs → length (slice_range xs a b) ≡ b - a
length-slice_range xs a b in_order within =
    let fits : b - a ≤ length (drop a xs) = rw length-drop (omega arith) in
    length-take-le (b - a) (drop a xs) fits

slice_range-append : (xs ys : List ℕ) (a b : ℕ) → a ≤ b → b ≤ length xs → slice_range (xs ++ ys) a b ≡ slice_range xs a b
slice_range-append xs ys a b in_order within =
    let before : a ≤ length xs = omega arith in
    let fits : b - a ≤ length (drop a xs) = rw length-drop (omega arith) in
    ap (take (b - a)) (drop-append-le a xs ys before) ∙ take-append-le (b - a) (drop a xs) ys fits

-- what the rows stand for takes as much room as there are bytes
pub room_taken-laid : (bytes : List ℕ) (from : ℕ) (rows : List Row) (to : ℕ) → IsLaidOut from rows to → to ≤ length bytes →
    from + room_taken (map (entry_of bytes) rows) ≡ to
room_taken-laid bytes from [] to laid within = omega (arith, laid)
room_taken-laid bytes from (row ∷ rows) to laid within =
    let behind : row.end ≤ to = IsLaidOut-le row.end rows to laid.3 in
    omega (
      arith,
      laid.0,
      laid.1,
      laid.2,
      length-slice_range bytes row.start row.name_end laid.1 (omega (arith, laid.2)),
      length-slice_range bytes row.name_end row.end laid.2 (omega arith),
      room_taken-laid bytes row.end rows to laid.3 within,
    )

-- how many rows there are, and how many bytes, as the entries tell it
pub record Counts (bytes : List ℕ) (rows : List Row) : Type 0 where
  pub count : length (map (entry_of bytes) rows) ≡ length rows
  pub taken : room_taken (map (entry_of bytes) rows) ≡ length bytes

pub counts : (bytes : List ℕ) (rows : List Row) → IsLaidOut 0 rows (length bytes) → Counts bytes rows
counts bytes rows laid = record {
  count = length-map rows (entry_of bytes);
  taken = omega (arith, room_taken-laid bytes 0 rows (length bytes) laid (omega arith));
}

pub row_there : (bytes : List ℕ) (rows : List Row) (es : List Entry) (k : ℕ) → map (entry_of bytes) rows ≡ es → k < length es → k < length rows
row_there bytes rows es k are there =
    let same : length (map (entry_of bytes) rows) ≡ length rows = length-map rows (entry_of bytes) in
    omega (arith, ap length are)

-- more bytes behind change no entry
pub entries_kept : (bytes more : List ℕ) (from : ℕ) (rows : List Row) (to : ℕ) → IsLaidOut from rows to → to ≤ length bytes →
    map (entry_of (bytes ++ more)) rows ≡ map (entry_of bytes) rows
entries_kept bytes more from [] to laid within = refl
entries_kept bytes more from (row ∷ rows) to laid within =
    let behind : row.end ≤ to = IsLaidOut-le row.end rows to laid.3 in
    rw (
      slice_range-append bytes more row.start row.name_end laid.1 (omega (arith, laid.2)),
      slice_range-append bytes more row.name_end row.end laid.2 (omega arith),
      entries_kept bytes more row.end rows to laid.3 within,
    )

pub IsLaidOut-append : (from : ℕ) (rows : List Row) (row : Row) → IsLaidOut from rows row.start → row.start ≤ row.name_end → row.name_end ≤ row.end →
    IsLaidOut from (rows ++ row ∷ []) row.end
IsLaidOut-append from [] row laid name_in_order bytes_in_order = (sym laid, name_in_order, bytes_in_order, refl)
IsLaidOut-append from (x ∷ rows) row laid name_in_order bytes_in_order =
    (laid.0, laid.1, laid.2, IsLaidOut-append x.end rows row laid.3 name_in_order bytes_in_order)

pub IsLaidOut-ended : (from : ℕ) (rows : List Row) (to later : ℕ) → IsLaidOut from rows to → to ≤ later → 0 < length rows →
    IsLaidOut from (with_last (ended_at later) rows) later
IsLaidOut-ended from [] to later laid after some = absurd (omega arith)
IsLaidOut-ended from (row ∷ []) to later laid after some = (laid.0, laid.1, omega (arith, laid.2, laid.3), refl)
IsLaidOut-ended from (row ∷ next ∷ rows) to later laid after some =
    (laid.0, laid.1, laid.2, IsLaidOut-ended row.end (next ∷ rows) to later laid.3 after (omega arith))

pub IsLaidOut-marked : (from : ℕ) (rows : List Row) (to : ℕ) → IsLaidOut from rows to → IsLaidOut from (with_last marked rows) to
IsLaidOut-marked from [] to laid = laid
IsLaidOut-marked from (row ∷ []) to laid = laid
IsLaidOut-marked from (row ∷ next ∷ rows) to laid = (laid.0, laid.1, laid.2, IsLaidOut-marked row.end (next ∷ rows) to laid.3)

slice_range-behind : (xs ys : List ℕ) → slice_range (xs ++ ys) (length xs) (length xs + length ys) ≡ ys
slice_range-behind xs ys = rw (drop-append_seam) (take_all _ ys (omega arith))

slice_range-more : (xs ys : List ℕ) (a : ℕ) → a ≤ length xs → slice_range (xs ++ ys) a (length xs + length ys) ≡ slice_range xs a (length xs) ++ ys
slice_range-more xs ys a within =
    let rest : length (drop a xs) ≡ length xs - a = length-drop a xs in
    let all : length (drop a xs ++ ys) ≤ length xs + length ys - a = rw (length-append) (omega (arith, rest)) in
    ap (take (length xs + length ys - a)) (drop-append-le a xs ys within) ∙ take_all _ (drop a xs ++ ys) all
    ∙ ap (λ l. l ++ ys) (sym (take_all _ (drop a xs) (omega (arith, rest))))

-- a name behind all bytes, with a row for it, is an entry that was just begun
pub record NameAdded (bytes name all : List ℕ) (rows more : List Row) : Type 0 where
  pub laid : IsLaidOut 0 more (length all)
  pub entries : map (entry_of all) more ≡ map (entry_of bytes) rows ++ begun name ∷ []

pub name_added : (bytes name all : List ℕ) (rows more : List Row) (start end : ℕ) → IsLaidOut 0 rows (length bytes) →
    all ≡ bytes ++ name → more ≡ rows ++ record { start = start; name_end = end; end = end; closed = false } ∷ [] →
    start ≡ length bytes → end ≡ length all → NameAdded bytes name all rows more
name_added bytes name all rows more start end laid extended pushed starts ends =
    let whole : end ≡ length bytes + length name = rw (ends, extended) (length-append bytes name) in
    record {
      laid = rw (pushed, ← ends) (IsLaidOut-append 0 rows _ (rw starts laid) (omega arith) (le_refl end));
      entries =
          rw (
            pushed,
            extended,
            map-append,
            entries_kept bytes name 0 rows (length bytes) laid (omega arith),
            whole,
            starts,
            slice_range-behind bytes name,
            sub_self,
          );
    }

-- bytes behind all others are behind those of the last entry
entries-longer : (bytes piece : List ℕ) (from : ℕ) (rows : List Row) → IsLaidOut from rows (length bytes) →
    map (entry_of (bytes ++ piece)) (with_last (ended_at (length bytes + length piece)) rows) ≡ with_bytes (map (entry_of bytes) rows) piece
entries-longer bytes piece from [] laid = refl
entries-longer bytes piece from (row ∷ []) laid =
    rw (
      slice_range-append bytes piece row.start row.name_end laid.1 (omega (arith, laid.2, laid.3)),
      slice_range-more bytes piece row.name_end (omega (arith, laid.2, laid.3)),
      laid.3,
    )
entries-longer bytes piece from (row ∷ next ∷ rows) laid =
    let behind : row.end ≤ length bytes = IsLaidOut-le row.end (next ∷ rows) (length bytes) laid.3 in
    rw (
      slice_range-append bytes piece row.start row.name_end laid.1 (omega (arith, laid.2)),
      slice_range-append bytes piece row.name_end row.end laid.2 (omega arith),
      entries-longer bytes piece row.end (next ∷ rows) laid.3,
    )

-- bytes behind all others, with the last row's end behind them, are behind those of the last entry
pub record BytesAdded (bytes piece all : List ℕ) (rows more : List Row) : Type 0 where
  pub laid : IsLaidOut 0 more (length all)
  pub entries : map (entry_of all) more ≡ with_bytes (map (entry_of bytes) rows) piece

pub bytes_added : (bytes piece all : List ℕ) (rows more : List Row) (end : ℕ) → IsLaidOut 0 rows (length bytes) → 0 < length rows →
    all ≡ bytes ++ piece → more ≡ with_last (ended_at end) rows → end ≡ length all → BytesAdded bytes piece all rows more
bytes_added bytes piece all rows more end laid some extended moved ends =
    let whole : end ≡ length bytes + length piece = rw (ends, extended) (length-append bytes piece) in
    record {
      laid = rw (moved, ← ends) (IsLaidOut-ended 0 rows (length bytes) end laid (omega arith) some);
      entries = rw (moved, extended, whole) (entries-longer bytes piece 0 rows laid);
    }

pub entries-marked : (bytes : List ℕ) (rows : List Row) → map (entry_of bytes) (with_last marked rows) ≡ with_last_closed (map (entry_of bytes) rows)
entries-marked bytes [] = refl
entries-marked bytes (row ∷ []) = refl
entries-marked bytes (row ∷ next ∷ rows) = ap (λ es. entry_of bytes row ∷ es) (entries-marked bytes (next ∷ rows))

-- where a last entry is unfinished, there is one
pub some_open : (bytes : List ℕ) (rows : List Row) → is_last_open (map (entry_of bytes) rows) ≡ true → 0 < length rows
some_open bytes [] is_open = absurd (cc)
some_open bytes (row ∷ rows) is_open = omega arith
