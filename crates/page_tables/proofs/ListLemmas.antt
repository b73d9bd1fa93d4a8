-- Lists of frames, leaves and tables after one of them was changed.
use Rattle.std.proofs.Common.{◌≡◌, ◌≢◌, ℕ, ◌-◌, ◌<◌, List, [], ◌++◌, length, map, get_or, set, Some, None, Option, is_some, IsTrue, sym, ap, ◌∙◌, inl, inr, arith}
use Rattle.std.proofs.lemmas.List.{get_or-set_same, get_or-set_other, get_or-map, get_or_past, get_or_default, length-map, map-set, set-append_left, set-append_right, get_or_append_left, get_or-append_right}
use Rattle.std.proofs.lemmas.Bool.{cases_eq, cases_lt, false≢true}
use Rattle.page_tables.specs.declared.frame.Frame.{Frame}
use Rattle.page_tables.specs.declared.table.Table.{Table}
use Rattle.page_tables.specs.Frame.{frame_bytes, frame_of, part_of, patched}
use Rattle.page_tables.specs.Leaf.{Leaf, present}

-- a frame of which nothing is known
abbrev pub no_frame : Frame
no_frame = record { bytes = [] }

pub frame-there : (frames : List Frame) (f : ℕ) → f < length frames → frame_bytes frames f ≡ (get_or frames f no_frame).bytes
frame-there frames f within = get_or-map (λ (it : Frame). it.bytes) frames f no_frame [] within

-- a list of frames that was cut in two: a frame of the first part, and the first of the second, read and replaced
pub low-read : (frames low high : List Frame) (f : ℕ) → frames ≡ low ++ high → f < length low → f < length frames → frame_bytes frames f ≡ (get_or low f no_frame).bytes
low-read frames low high f cut below within =
    frame-there frames f within ∙ ap (λ (fs : List Frame). (get_or fs f no_frame).bytes) cut ∙ ap (λ (it : Frame). it.bytes) (get_or_append_left low high no_frame f below)

pub high-read : (frames low high : List Frame) (f : ℕ) → frames ≡ low ++ high → length low ≡ f → f < length frames → frame_bytes frames f ≡ (get_or high 0 no_frame).bytes
high-read frames low high f cut len within =
    let none : f - f ≡ 0 = omega arith in
    frame-there frames f within ∙ ap (λ (fs : List Frame). (get_or fs f no_frame).bytes) cut
    ∙ ap (λ (it : Frame). it.bytes) (get_or-append_right low high f f no_frame len (omega arith) ∙ ap (λ i. get_or high i no_frame) none)

pub high-set : (frames low high : List Frame) (f : ℕ) (y : Frame) → frames ≡ low ++ high → length low ≡ f → low ++ set high 0 y ≡ set frames f y
high-set frames low high f y cut len =
    let none : f - f ≡ 0 = omega arith in
    sym (ap (λ (fs : List Frame). set fs f y) cut ∙ set-append_right low high f f y len (omega arith) ∙ ap (λ i. low ++ set high i y) none)

pub low-set : (frames low high : List Frame) (f : ℕ) (y : Frame) → frames ≡ low ++ high → f < length low → set low f y ++ high ≡ set frames f y
low-set frames low high f y cut below = sym (ap (λ (fs : List Frame). set fs f y) cut ∙ set-append_left low high f y below)

-- the list was cut in two at the frame that is copied to
pub copied-up : (frames low high : List Frame) (from to : ℕ) (bs : List ℕ) → frames ≡ low ++ high → length low ≡ to → from < to → to < length frames → bs ≡ (get_or low from no_frame).bytes
    → low ++ set high 0 (record { bytes = bs }) ≡ set frames to (frame_of frames from)
copied-up frames low high from to bs cut len below within is =
    high-set frames low high to (record { bytes = bs }) cut len
    ∙ ap (λ (it : List ℕ). set frames to (record { bytes = it })) (is ∙ sym (low-read frames low high from cut (omega (arith, len, below)) (omega (arith, below, within))))

-- the list was cut in two at the frame that is copied from
pub copied-down : (frames low high : List Frame) (from to : ℕ) (bs : List ℕ) → frames ≡ low ++ high → length low ≡ from → to < from → from < length frames → bs ≡ (get_or high 0 no_frame).bytes
    → set low to (record { bytes = bs }) ++ high ≡ set frames to (frame_of frames from)
copied-down frames low high from to bs cut len below within is =
    low-set frames low high to (record { bytes = bs }) cut (omega (arith, len, below))
    ∙ ap (λ (it : List ℕ). set frames to (record { bytes = it })) (is ∙ sym (high-read frames low high from cut len within))

-- the same where a part of the frame was copied
pub part-up : (frames low high : List Frame) (from start to offset count : ℕ) (y : Frame) → frames ≡ low ++ high → length low ≡ to → from < to → to < length frames
    → y.bytes ≡ patched (get_or high 0 no_frame).bytes offset (part_of (get_or low from no_frame).bytes start count)
    → low ++ set high 0 y ≡ set frames to (record { bytes = patched (frame_bytes frames to) offset (part_of (frame_bytes frames from) start count) })
part-up frames low high from start to offset count y cut len below within is =
    high-set frames low high to y cut len
    ∙ ap (λ (it : List ℕ). set frames to (record { bytes = it }))
    (is ∙ ap (λ (it : List ℕ). patched it offset (part_of (get_or low from no_frame).bytes start count)) (sym (high-read frames low high to cut len within))
    ∙ ap (λ (it : List ℕ). patched (frame_bytes frames to) offset (part_of it start count)) (sym (low-read frames low high from cut (omega (arith, len, below)) (omega (arith, below, within)))))

pub part-down : (frames low high : List Frame) (from start to offset count : ℕ) (y : Frame) → frames ≡ low ++ high → length low ≡ from → to < from → from < length frames
    → y.bytes ≡ patched (get_or low to no_frame).bytes offset (part_of (get_or high 0 no_frame).bytes start count)
    → set low to y ++ high ≡ set frames to (record { bytes = patched (frame_bytes frames to) offset (part_of (frame_bytes frames from) start count) })
part-down frames low high from start to offset count y cut len below within is =
    low-set frames low high to y cut (omega (arith, len, below))
    ∙ ap (λ (it : List ℕ). set frames to (record { bytes = it }))
    (is ∙ ap (λ (it : List ℕ). patched it offset (part_of (get_or high 0 no_frame).bytes start count)) (sym (low-read frames low high to cut (omega (arith, len, below)) (omega (arith, below, within))))
    ∙ ap (λ (it : List ℕ). patched (frame_bytes frames to) offset (part_of it start count)) (sym (high-read frames low high from cut len within)))

-- a field at the place that was changed, and at another
pub field-here : {X B : Type 0} (f : X → B) (xs : List X) (k : ℕ) (y : X) (d : B) → k < length xs → get_or (map f (set xs k y)) k d ≡ f y
field-here f xs k y d within = ap (λ (l : List _). get_or l k d) (map-set f xs k y) ∙ get_or-set_same (map f xs) k (f y) d (omega (arith, within, length-map xs f))

pub field-other : {X B : Type 0} (f : X → B) (xs : List X) (k n : ℕ) (y : X) (d : B) → n ≢ k → get_or (map f (set xs k y)) n d ≡ get_or (map f xs) n d
field-other f xs k n y d off = ap (λ (l : List _). get_or l n d) (map-set f xs k y) ∙ get_or-set_other (map f xs) k n (f y) d off

pub field-was : {X B : Type 0} (f : X → B) (xs : List X) (k : ℕ) (x : X) (d : B) → k < length xs → x ≡ get_or xs k x → get_or (map f xs) k d ≡ f x
field-was f xs k x d within is = get_or-map f xs k x d within ∙ ap f (sym is)

-- the entries of a leaf, as the code read it
pub entry_read : (leaves : List Leaf) (l : ℕ) (x : Leaf) → l < length leaves → x ≡ get_or leaves l x → get_or (map (λ (it : Leaf). it.entries) leaves) l [] ≡ x.entries
entry_read leaves l x within is = field-was (λ (it : Leaf). it.entries) leaves l x [] within is

-- leaves that count their pages still do after one was replaced by one that does
pub slots-set : (leaves : List Leaf) (k : ℕ) (y : Leaf) → k < length leaves → y.mapped ≡ present y.entries
    → ((l : ℕ) → get_or (map (λ (it : Leaf). it.mapped) leaves) l 0 ≡ present (get_or (map (λ (it : Leaf). it.entries) leaves) l []))
    → (l : ℕ) → get_or (map (λ (it : Leaf). it.mapped) (set leaves k y)) l 0 ≡ present (get_or (map (λ (it : Leaf). it.entries) (set leaves k y)) l [])
slots-set leaves k y within counts all l = elim (cases_eq l k) [
  | inl here ↦
      ap (λ n. get_or (map (λ (it : Leaf). it.mapped) (set leaves k y)) n 0) here ∙ field-here (λ (it : Leaf). it.mapped) leaves k y 0 within ∙ counts
      ∙ ap present (sym (ap (λ n. get_or (map (λ (it : Leaf). it.entries) (set leaves k y)) n []) here ∙ field-here (λ (it : Leaf). it.entries) leaves k y [] within))
  | inr off ↦
      field-other (λ (it : Leaf). it.mapped) leaves k l y 0 off ∙ all l
      ∙ ap present (sym (field-other (λ (it : Leaf). it.entries) leaves k l y [] off))
]

-- a live table has its number
pub live-within : (tables : List (Option Table)) (t : ℕ) (table : Table) → get_or tables t None ≡ Some table → t < length tables
live-within tables t table is = elim (cases_lt t (length tables)) [
  | inl below ↦ below
  | inr past ↦ absurd (Rattle.std.proofs.lemmas.Option.none-some table (sym (get_or_past tables t None past) ∙ is))
]

pub table-here : (tables : List (Option Table)) (t : ℕ) (new : Table) → t < length tables → get_or (set tables t (Some new)) t None ≡ Some new
table-here tables t new within = get_or-set_same tables t (Some new) None within

pub live_within : (tables : List (Option Table)) (t : ℕ) → IsTrue (is_some (get_or tables t None)) → t < length tables
live_within tables t live = elim (cases_lt t (length tables)) [
  | inl below ↦ below
  | inr past ↦ absurd (false≢true (sym (ap (λ (o : Option Table). is_some o) (get_or_past tables t None past)) ∙ live))
]

-- the table that the code found
pub table_is : (tables : List (Option Table)) (t : ℕ) (x : Option Table) (table : Table) → t < length tables → x ≡ get_or tables t x → x ≡ Some table → get_or tables t None ≡ Some table
table_is tables t x table within at is = get_or_default tables t None x within ∙ sym at ∙ is
