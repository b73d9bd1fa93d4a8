-- One object of the regions that is copied behind those in use.
use Rattle.std.proofs.Common.{◌≡◌, ◌≢◌, ◌∙◌, ◌⊎◌, ℕ, zero, suc, ◌+◌, ◌*◌, ◌/◌, ◌-◌, ◌%◌, ◌<◌, ◌≤◌, Bool, true, false, cond, List, [], ◌∷◌, Option, Some, None, is_some, refl, sym, ap, subst, inl, inr, arith, nat_le, nat_eq}
use Rattle.std.specs.Prelude.{◌||◌, option_map, All}
use Rattle.std.specs.List.{list_any}
use Rattle.std.proofs.lemmas.Bool.{and_from, and_parts, cases_Bool, cases_eq, eqb-true, le-leb, leb-true, lt-ltb, or_cases, or_left, or_right, true≢false}
use Rattle.std.proofs.lemmas.List.Elements.{All-head, All-tail}
use Rattle.std.proofs.lemmas.List.Folds.{list_any-append}
use Rattle.std.proofs.lemmas.Option.{same_Some}
use Rattle.model_numbers.specs.Numbers.{region_base, region_bytes, region_count}
use Rattle.class_layout.specs.ClassList.{Class}
use Rattle.page_tables.specs.declared.address.Window.TheVariants.{Regions}
use Rattle.page_tables.specs.Address.{is_in, page_of}
use Rattle.cow_pages.specs.Memory.{Memory, Page, frame_at, is_mapped, page_at, HasOneSharer, IsSound}
use Rattle.cow_pages.specs.Only.{OnlyTable}
use Rattle.cow_pages.specs.View.{view_of, View}
use Rattle.cow_pages.proofs.OnlyLemmas.{alone-stays, only-trans}
use Rattle.heap_graph.specs.declared.names.Shape.{Shape}
use Rattle.heap_graph.specs.declared.names.Shape.TheVariants.{Instance, Array}
use Rattle.heap_graph.specs.Sizes.{size_in}
use Rattle.object_view.specs.Changes.{pages_in, reads_after_all, shape_reads, steps_from, AreAlone}
use Rattle.object_view.specs.Objects.{HasShape, IsSpace}
use Rattle.object_view.proofs.Laid.{size-bounds}
use Rattle.object_view.proofs.Standing.{HasShape-stands}
use Rattle.page_runs.specs.Runs.{IsInRun, MapsRun}
use Rattle.page_runs.proofs.RunLemmas.{run-only, side}
use Rattle.region_lists.specs.Rows.{Lists, Row, last_of, with_last}
use Rattle.page_runs.specs.Covered.{covers}
use Rattle.region_space.specs.Pages.{IsObjectIn, lies_in}
use Rattle.region_space.specs.Space.{base_of, filled, further_from, further_pages, holds_page, with_object, HasPages, IsFilled, IsSize, Places}
use Rattle.region_space.specs.Space as regions
use Rattle.region_space.proofs.DropLemmas.{held-run}
use Rattle.region_space.proofs.LieLemmas.{all-both, any-holds, filled-within, home, lies-in, object-mapped, pages-grown, placed-beside, placed-lies, Both, LiesIn}
use Rattle.region_space.proofs.PageLemmas.{filled-is, from-is, inside, run-in_window, run_from, run_length}
use Rattle.region_space.proofs.RoomLemmas.{home-most, home-within, last-holds, Fits, Opens}
use Rattle.region_space.proofs.WalkLemmas.{in_use-filled}
use Rattle.raw_objects.specs.Keeps.{Covers, Keeps}
use Rattle.raw_objects.specs.Raws.{added, evacuated, forwarded_raw, raw_size, HoldsRaws, IsFreeSpace, Raw, Raws}
use Rattle.raw_objects.specs.References.{in_regions}
use Rattle.raw_objects.proofs.Kept.{one-table}
use Rattle.raw_objects.proofs.Paging.{raws-run}
use Rattle.raw_objects.proofs.Raws.{at-here, at-other}
use Rattle.raw_objects.proofs.Uncounted.{read-free, regions-low, slot-free}
use Rattle.object_moves.specs.Copies.{CanCopy, HoldsRegions, IsBesideRegions, IsYoungAt, KeepsOutside}

-- READS

-- an object of the regions is read without a count
pub shape-free : (m : Memory) (t at : ℕ) (shape : Shape) → in_regions at ≡ true → reads_after_all m.reads (shape_reads at shape) ≡ m.reads
shape-free m t at (Instance class) is = slot-free (view_of m t) m.reads at (Instance class) None None (regions-low at is) refl
shape-free m t at (Array kind count) is = slot-free (view_of m t) m.reads at (Array kind count) None None (regions-low at is) refl

pub read-same : (old new : Memory) (t at : ℕ) (shape : Shape) → in_regions at ≡ true → new ≡ record old { reads = reads_after_all old.reads (shape_reads at shape) } → new ≡ old
read-same old new t at shape is same = same ∙ ap (λ (n : ℕ). record old { reads = n }) (shape-free old t at shape is)

-- so is each word of it
pub steps-free : (reads at n : ℕ) → 0x40000000 ≤ at → reads_after_all reads (steps_from at n) ≡ reads
steps-free reads at zero low = refl
steps-free reads at (suc n) low = read-free reads at (steps_from (at + 8) n) low ∙ steps-free reads (at + 8) n (omega (arith, low))

-- ROWS

-- a row in which an object lies, with what holds of each row
pub row-of : (s : Lists) (at size : ℕ) → regions.IsSpace s → IsObjectIn (filled s) at size → LiesIn IsFilled at size
row-of s at size space object = lies-in IsFilled (filled s) at size space.filled object.there

-- an object that lies in a row lies in a window of 1,024 regions
pub record Within (at size : ℕ) : Type 0 where
  pub from : region_base ≤ at
  pub to : at + size ≤ region_base + region_count * region_bytes

module _ (s : Lists) (at size : ℕ) (space : regions.IsSpace s) where
  -- in which region it is placed, and how far from its start
  pub record Spot (to : ℕ) : Type 0 where
    pub region : ℕ
    pub fill : ℕ
    pub is : to ≡ base_of region + fill
    pub few : region < 1024
    pub multiple : fill % 8 ≡ 0
    pub most : fill + size ≤ region_bytes
    pub run : (p : ℕ) → IsInRun (further_from s.in_use to size) (further_pages s.in_use size) p → is_in Regions p ≡ true

  pub spot : (new : Lists) → IsSize size → Places s new at size → Spot at
  spot new fits places =
      let h = home s.in_use places.region size in
      let is : at ≡ base_of h.region + h.fill = places.spot ∙ h.spot in
      let within = home-within s new.free h.region h.fill size space (places.free ∙ h.free new.free) h.room in
      let most = home-most s.in_use h.region h.fill size fits h.room in
      let few : h.region < 1024 = omega (arith, within, space.few) in
      record {
        region = h.region;
        fill = h.fill;
        is = is;
        few = few;
        multiple = by h.fill h.room;
        most = most;
        run = λ p in_run.
            let first : further_from s.in_use at size ≡ run_from h.region h.fill = ap (λ (a : ℕ). further_from s.in_use a size) is ∙ from-is s.in_use h.region h.fill size h.fill_is in
            let count : further_pages s.in_use size ≡ run_length h.fill size = ap (λ (k : ℕ). run_length k size) (sym h.fill_is) in
            run-in_window h.region h.fill size p few most (record { from = omega (arith, in_run.from, first); to = omega (arith, in_run.to, first, count) });
      }
    where
      by : {region : ℕ} (fill : ℕ) → Fits s.in_use region fill size ⊎ Opens s.in_use region fill size → fill % 8 ≡ 0
      by fill (inl fits) = ap (λ (n : ℕ). n % 8) fits.fill_is ∙ (last-holds IsFilled s.in_use fits.last fits.last_is (in_use-filled s space)).multiple
      by fill (inr opens) = ap (λ (n : ℕ). n % 8) opens.fill_is

-- an object lies in a row with a greater fill too
lies-wider : (a n fill : ℕ) (row : Row) → row.fill ≤ fill → lies_in a n row ≡ true → lies_in a n (record { region = row.region; fill = fill }) ≡ true
lies-wider a n fill row more is =
    let parts = and_parts (nat_le (base_of row.region) a) (nat_le (a + n) (base_of row.region + row.fill)) is in
    and_from _ _ parts.0 (le-leb (a + n) (base_of row.region + fill) (omega (arith, leb-true (a + n) (base_of row.region + row.fill) parts.1, more)))

last-wider : (a n fill : ℕ) (rows : List Row) (last : Row) → last_of rows ≡ Some last → last.fill ≤ fill → list_any (lies_in a n) rows ≡ true → list_any (lies_in a n) (with_last rows fill) ≡ true
last-wider a n fill [] last is more there = there
last-wider a n fill (row ∷ []) last is more there =
    let same : row ≡ last = same_Some row last is in
    elim (or_cases (lies_in a n row) false there) [
      | inl here ↦ or_left (lies_in a n (record { region = row.region; fill = fill })) false (lies-wider a n fill row (subst (λ (it : Row). it.fill ≤ fill) (sym same) more) here)
      | inr never ↦ absurd (true≢false (sym never))
    ]
last-wider a n fill (row ∷ next ∷ rest) last is more there = elim (or_cases (lies_in a n row) (list_any (lies_in a n) (next ∷ rest)) there) [
  | inl here ↦ or_left (lies_in a n row) (list_any (lies_in a n) (with_last (next ∷ rest) fill)) here
  | inr later ↦ or_right (lies_in a n row) (list_any (lies_in a n) (with_last (next ∷ rest) fill)) (last-wider a n fill (next ∷ rest) last is more later)
]

-- an object lies in its row still where another was placed
pub lies-still : (s new : Lists) (at size a n : ℕ) → Places s new at size → IsObjectIn (filled s) a n → IsObjectIn (filled new) a n
lies-still s new at size a n places object =
    let h = home s.in_use places.region size in
    let test = lies_in a n in
    let more : list_any test s.in_use ≡ true → list_any test (with_object s.in_use h.region size) ≡ true = by h.region h.fill h.room in
    record {
      some = object.some;
      there =
          ap (list_any test) (filled-is s new h.region size (places.in_use ∙ h.more) places.from) ∙ list_any-append test (with_object s.in_use h.region size) s.from
          ∙ elim (or_cases (list_any test s.in_use) (list_any test s.from) (sym (list_any-append test s.in_use s.from) ∙ object.there)) [
            | inl here ↦ or_left (list_any test (with_object s.in_use h.region size)) (list_any test s.from) (more here)
            | inr there ↦ or_right (list_any test (with_object s.in_use h.region size)) (list_any test s.from) there
          ];
    }
  where
    by : (region fill : ℕ) → Fits s.in_use region fill size ⊎ Opens s.in_use region fill size → list_any (lies_in a n) s.in_use ≡ true → list_any (lies_in a n) (with_object s.in_use region size) ≡ true
    by region fill (inl fits) is = ap (list_any (lies_in a n)) fits.more ∙ last-wider a n (fill + size) s.in_use fits.last fits.last_is (omega (arith, fits.fill_is)) is
    by region fill (inr opens) is =
        ap (list_any (lies_in a n)) opens.more ∙ list_any-append (lies_in a n) s.in_use (record { region = region; fill = size } ∷ [])
        ∙ or_left (list_any (lies_in a n) s.in_use) (list_any (lies_in a n) (record { region = region; fill = size } ∷ [])) is

pub in_use-left : (new : Lists) (a n : ℕ) → IsObjectIn new.in_use a n → IsObjectIn (filled new) a n
in_use-left new a n object = record {
  some = object.some;
  there = list_any-append (lies_in a n) new.in_use new.from ∙ or_left (list_any (lies_in a n) new.in_use) (list_any (lies_in a n) new.from) object.there;
}

-- a page of a window's rows is one of the window
filled-window : (s : Lists) (p : ℕ) → regions.IsSpace s → list_any (holds_page p) (filled s) ≡ true → is_in Regions p ≡ true
filled-window s p space is =
    let within = λ (row : Row). row.region < s.count in
    by (filled s) (all-both IsFilled within (filled s) space.filled (filled-within s space)) is
  where
    by : (rows : List Row) → All (Both IsFilled (λ (row : Row). row.region < s.count)) rows → list_any (holds_page p) rows ≡ true → is_in Regions p ≡ true
    by [] all there = absurd (true≢false (sym there))
    by (row ∷ rest) all there = elim (or_cases (holds_page p row) (list_any (holds_page p) rest) there) [
      | inl here ↦
          let run = held-run row p here in
          let both = All-head (Both IsFilled (λ (it : Row). it.region < s.count)) row rest all in
          inside 262144 327680 p (omega (arith, run.from)) (omega (arith, run.from, run.to, both.one.most, both.two, space.few))
      | inr later ↦ by rest (All-tail (Both IsFilled (λ (it : Row). it.region < s.count)) row rest all) later
    ]

-- a page of an object's bytes is covered by it
pub covered-page : (to size p : ℕ) → 0 < size → page_of to ≤ p → p < page_of to + pages_in to (to + size) → covers to size p ≡ true
covered-page to size p some low high =
    let count : pages_in to (to + size) ≡ page_of (to + size - 1) + 1 - page_of to = ap (λ b. cond {A = ℕ} b (page_of (to + size - 1) + 1 - page_of to) 0) (lt-ltb to (to + size) (omega (arith, some))) in
    and_from _ _ (le-leb (page_of to) p low) (le-leb p (page_of (to + size - 1)) (omega (arith, count, high)))

-- a mapped page has its frame alone where it has for each frame that it may have
mapped-alone : (m : Memory) (t p : ℕ) → is_mapped m t p ≡ true → ((f : ℕ) → frame_at m t p ≡ Some f → HasOneSharer m t p) → HasOneSharer m t p
mapped-alone m t p is each = by (page_at m t p) refl
  where
    by : (o : Option Page) → page_at m t p ≡ o → HasOneSharer m t p
    by None e = absurd (true≢false (sym is ∙ ap (λ (o : Option Page). is_some o) e))
    by (Some page) e = each page.frame (ap (option_map (λ (it : Page). it.frame)) e)

-- THE COPY

-- an object begins at an address after one was copied
pub evacuated-only : (raws : Raws) (from to a : ℕ) → (evacuated raws from to).has a ≡ true → (a ≡ to) ⊎ (raws.has a ≡ true)
evacuated-only raws from to a is = elim (or_cases (nat_eq a to) (raws.has a) is) [ inl e ↦ inl (eqb-true a to e) | inr it ↦ inr it ]

pub evacuated-shape : (raws : Raws) (from to a : ℕ) → a ≢ to → ((evacuated raws from to).raw a).shape ≡ (raws.raw a).shape
evacuated-shape raws from to a ne =
    let was : ((added raws to (raws.raw from)).raw a) ≡ raws.raw a = at-other (raws.raw from) (raws.raw a) a to (λ r. r ≡ raws.raw a) ne refl in
    elim (cases_eq a from) [
      | inl e ↦ at-here (forwarded_raw (raws.raw from) to) ((added raws to (raws.raw from)).raw a) a from (λ r. r.shape ≡ (raws.raw a).shape) e
          (ap (λ (b : ℕ). (raws.raw b).shape) (sym e))
      | inr other ↦ at-other (forwarded_raw (raws.raw from) to) ((added raws to (raws.raw from)).raw a) a from (λ r. r.shape ≡ (raws.raw a).shape) other (ap (λ (r : Raw). r.shape) was)
    ]

pub evacuated-to : (raws : Raws) (from to : ℕ) → to ≢ from → (evacuated raws from to).raw to ≡ raws.raw from
evacuated-to raws from to ne =
    at-other (forwarded_raw (raws.raw from) to) ((added raws to (raws.raw from)).raw to) to from (λ r. r ≡ raws.raw from) ne
    (at-here (raws.raw from) (raws.raw to) to to (λ r. r ≡ raws.raw from) refl refl)

module _ (cs : List Class) (m : Memory) (t : ℕ) (s : Lists) (raws : Raws) (at : ℕ) (can : CanCopy cs m t s raws at) where
  abbrev size : ℕ
  size = raw_size cs raws at

  pub size-fits : IsSize size
  size-fits =
      let bounds = size-bounds cs (raws.raw at).shape in
      let row = row-of s at size can.held.space (can.held.rows at can.has can.inside) in
      record { multiple = bounds.3; least = omega (arith, bounds.0, bounds.1, bounds.2); greatest = omega (arith, row.from, row.to, row.holds.most) }

  -- the memory after the place was found, and the rows
  module _ (m' : Memory) (s' : Lists) (to : ℕ) (places : Places s s' to size) (maps : MapsRun m m' t (further_from s.in_use to size) (further_pages s.in_use size))
      (has' : HasPages m' t (filled s')) (space' : regions.IsSpace s') where
    held' : HoldsRaws cs (view_of m' t) raws
    held' = raws-run cs m m' t _ _ raws can.held.holds maps

    pub from-space : IsSpace (view_of m' t) at size
    from-space = (held'.stands at can.has).space

    to-lies : IsObjectIn (filled s') to size
    to-lies = in_use-left s' to size (placed-lies s s' to size size-fits places)

    to-spot : Spot s to size can.held.space to
    to-spot = spot s to size can.held.space s' size-fits places

    pub to-aligned : to % 8 ≡ 0
    to-aligned = omega (arith, to-spot.is, to-spot.multiple)

    pub to-space : IsSpace (view_of m' t) to size
    to-space = record {
      below = omega (arith, to-spot.is, to-spot.few, to-spot.most);
      mapped = λ i lt. object-mapped m' t s' to size i space' has' to-lies lt;
    }

    pub moved-apart : (at + size ≤ to) ⊎ (to + size ≤ at)
    moved-apart = placed-beside s s' to size at size can.held.space size-fits places (can.held.rows at can.has can.inside)

    pub to-free : IsFreeSpace cs raws to size
    to-free a is = elim (cases_Bool (in_regions a)) [
      | inl inside ↦ placed-beside s s' to size a (raw_size cs raws a) can.held.space size-fits places (can.held.rows a is inside)
      | inr out ↦ elim (can.held.others a is out) [
        | inl low ↦ inl (omega (arith, low, to-spot.is))
        | inr high ↦ inr (omega (arith, high, to-spot.is, to-spot.few, to-spot.most))
      ]
    ]

    to-inside : in_regions to ≡ true
    to-inside = and_from _ _ (le-leb 262144 (page_of to) (omega (arith, to-spot.is))) (lt-ltb (page_of to) 327680 (omega (arith, to-spot.is, to-spot.few, to-spot.most, size-fits.least)))

    -- which pages there are
    pages-more : (p : ℕ) → list_any (holds_page p) (filled s') ≡ (list_any (holds_page p) (filled s) || covers to size p)
    pages-more p = pages-grown s s' to size p size-fits places

    in-window : (p : ℕ) → list_any (holds_page p) (filled s') ≡ true → is_in Regions p ≡ true
    in-window p is = filled-window s' p space' is

    alone' : regions.AreAlone m' t (filled s')
    alone' p is =
        let window = in-window p is in
        elim (side t (further_from s.in_use to size) (further_pages s.in_use size) t p) [
          | inr run ↦ maps.alone p run.1
          | inl beside ↦
              let same = maps.others t p beside in
              let now : is_mapped m' t p ≡ true = has' p window ∙ is in
              let was : list_any (holds_page p) (filled s) ≡ true = sym (can.held.pages p window) ∙ ap (λ (o : Option Page). is_some o) (sym same) ∙ now in
              mapped-alone m' t p now (λ f frame. alone-stays m m' t t p f (run-only m m' t _ _ maps) (can.held.alone p was) frame)
        ]

    pub to-alone : (p : ℕ) → page_of to ≤ p → p < page_of to + pages_in to (to + size) → HasOneSharer m' t p
    to-alone p low high = alone' p (pages-more p ∙ or_right (list_any (holds_page p) (filled s)) (covers to size p) (covered-page to size p (omega (arith, size-fits.least)) low high))

    pub from-alone : HasOneSharer m' t (page_of at)
    from-alone =
        let here : at + 0 ≡ at = omega arith in
        let was : list_any (holds_page (page_of at)) (filled s) ≡ true = ap (λ (a : ℕ). list_any (holds_page (page_of a)) (filled s)) (sym here)
        ∙ any-holds (filled s) at size 0 (can.held.rows at can.has can.inside).there (omega (arith, size-fits.least)) in
        alone' (page_of at) (pages-more (page_of at) ∙ or_left (list_any (holds_page (page_of at)) (filled s)) (covers to size (page_of at)) was)

    -- the memory after the copy
    module _ (n : Memory) (keeps : (may : ℕ → Bool) → Covers may to size → may (page_of at) ≡ true → Keeps m' n t may)
        (held : HoldsRaws cs (view_of n t) (evacuated raws at to)) (sound : IsSound n) where
      window-keeps : Keeps m' n t (λ p. is_in Regions p)
      window-keeps = keeps (λ p. is_in Regions p)
          (λ p low high. in-window p (pages-more p ∙ or_right (list_any (holds_page p) (filled s)) (covers to size p) (covered-page to size p (omega (arith, size-fits.least)) low high))) can.inside

      to-other : to ≢ at
      to-other e = elim moved-apart [ inl x ↦ omega (arith, size-fits.least) | inr x ↦ omega (arith, size-fits.least) ]

      pub regions-held : HoldsRegions cs n t s' (evacuated raws at to)
      regions-held = record {
        live = window-keeps.live t ∙ maps.live t ∙ can.held.live;
        sound = sound;
        space = space';
        pages = λ p window. window-keeps.mapped p ∙ has' p window;
        alone = λ p is. window-keeps.alone p (has' p (in-window p is) ∙ is) (alone' p is);
        holds = held;
        rows = λ a is inside. elim (cases_eq a to) [
          | inl e ↦ subst (λ (b : ℕ). IsObjectIn (filled s') b (raw_size cs (evacuated raws at to) b)) (sym e)
              (subst (λ (r : Raw). IsObjectIn (filled s') to (size_in cs r.shape)) (sym (evacuated-to raws at to to-other)) to-lies)
          | inr ne ↦ subst (λ (x : Shape). IsObjectIn (filled s') a (size_in cs x)) (sym (evacuated-shape raws at to a ne))
              (lies-still s s' to size a (raw_size cs raws a) places (can.held.rows a (was a is ne) inside))
        ];
        others = λ a is out. elim (cases_eq a to) [
          | inl e ↦ absurd (true≢false (sym to-inside ∙ ap in_regions (sym e) ∙ out))
          | inr ne ↦ subst (λ (x : Shape). IsBesideRegions a (size_in cs x)) (sym (evacuated-shape raws at to a ne)) (can.held.others a (was a is ne) out)
        ];
      }
        where
          was : (a : ℕ) → (evacuated raws at to).has a ≡ true → a ≢ to → raws.has a ≡ true
          was a is ne = elim (evacuated-only raws at to a is) [ inl e ↦ absurd (ne e) | inr it ↦ it ]

      pub regions-spare : m.spare ≤ n.spare + further_pages s.in_use size
      regions-spare =
          let room = window-keeps.room (λ q window mapped. alone' q (sym (has' q window) ∙ mapped)) in
          omega (arith, maps.spare, room.spare)

      pub regions-outside : n.reads ≡ m'.reads → KeepsOutside m n t
      regions-outside reads = record {
        others = λ u q off. window-keeps.others u q off ∙ maps.others u q (elim (side t (further_from s.in_use to size) (further_pages s.in_use size) u q) [
          | inl beside ↦ beside
          | inr run ↦ elim off [
            | inl ne ↦ absurd (ne run.0)
            | inr out ↦ absurd (true≢false (sym (to-spot.run q run.1) ∙ out))
          ]
        ]);
        live = λ u. window-keeps.live u ∙ maps.live u;
        reads = reads ∙ maps.reads;
      }

      pub regions-only : OnlyTable m n t
      regions-only = only-trans m m' n t (run-only m m' t _ _ maps) (one-table m' n t (λ p. is_in Regions p) window-keeps)

-- what is known once the place was found, by the numbers of the call
pub record Known (cs : List Class) (m m' : Memory) (t : ℕ) (s s' : Lists) (raws : Raws) (at size to : ℕ) : Type 0 where
  pub can : CanCopy cs m t s raws at
  pub size_is : size ≡ raw_size cs raws at
  pub places : Places s s' to (raw_size cs raws at)
  pub maps : MapsRun m m' t (further_from s.in_use to (raw_size cs raws at)) (further_pages s.in_use (raw_size cs raws at))
  pub pages : HasPages m' t (filled s')
  pub space : regions.IsSpace s'

pub known : (cs : List Class) (m mid m' : Memory) (t : ℕ) (s s' : Lists) (raws : Raws) (at size' to : ℕ) → CanCopy cs m t s raws at → mid ≡ m → size' ≡ raw_size cs raws at → Places s s' to size'
    → MapsRun mid m' t (further_from s.in_use to size') (further_pages s.in_use size') → HasPages m' t (filled s') → regions.IsSpace s' → Known cs m m' t s s' raws at size' to
known cs m mid m' t s s' raws at size' to can same size_is places maps pages space = record {
  can = can;
  size_is = size_is;
  places = subst (λ (n : ℕ). Places s s' to n) size_is places;
  maps = subst (λ (x : Memory). MapsRun x m' t (further_from s.in_use to (raw_size cs raws at)) (further_pages s.in_use (raw_size cs raws at))) same
      (subst (λ (n : ℕ). MapsRun mid m' t (further_from s.in_use to n) (further_pages s.in_use n)) size_is maps);
  pages = pages;
  space = space;
}

-- an object that can be copied is young
pub young-here : (cs : List Class) (m : Memory) (t : ℕ) (s : Lists) (raws : Raws) (at : ℕ) → CanCopy cs m t s raws at → IsYoungAt cs (view_of m t) raws at
young-here cs m t s raws at can = record { holds = can.held.holds; has = can.has; inside = can.inside; fits = (size-fits cs m t s raws at can).greatest }

-- its shape stands there
pub shape-is : (cs : List Class) (v : View) (raws : Raws) (at : ℕ) → IsYoungAt cs v raws at → HasShape v at (raws.raw at).shape
shape-is cs v raws at young =
    let r : Raw = raws.raw at in
    HasShape-stands cs v at r.shape r.header r.values (young.holds.stands at young.has)

-- so the copy can be made, and no memory is wanting
module _ (cs : List Class) (m m' : Memory) (t : ℕ) (s s' : Lists) (raws : Raws) (at size to : ℕ) (k : Known cs m m' t s s' raws at size to) where
  pub found-aligned : to % 8 ≡ 0
  found-aligned = to-aligned cs m t s raws at k.can m' s' to k.places k.maps k.pages k.space

  pub found-size : IsSize size
  found-size = subst IsSize (sym k.size_is) (size-fits cs m t s raws at k.can)

  pub found-from : IsSpace (view_of m' t) at size
  found-from = subst (λ (n : ℕ). IsSpace (view_of m' t) at n) (sym k.size_is) (from-space cs m t s raws at k.can m' s' to k.places k.maps k.pages k.space)

  pub found-to : IsSpace (view_of m' t) to size
  found-to = subst (λ (n : ℕ). IsSpace (view_of m' t) to n) (sym k.size_is) (to-space cs m t s raws at k.can m' s' to k.places k.maps k.pages k.space)

  pub found-apart : (at + size ≤ to) ⊎ (to + size ≤ at)
  found-apart = subst (λ (n : ℕ). (at + n ≤ to) ⊎ (to + n ≤ at)) (sym k.size_is) (moved-apart cs m t s raws at k.can m' s' to k.places k.maps k.pages k.space)

  pub found-free : IsFreeSpace cs raws to size
  found-free = subst (IsFreeSpace cs raws to) (sym k.size_is) (to-free cs m t s raws at k.can m' s' to k.places k.maps k.pages k.space)

  pub found-fresh : raws.has to ≡ false
  found-fresh = elim (cases_Bool (raws.has to)) [
    | inr none ↦ none
    | inl there ↦
        let bounds = size-bounds cs (raws.raw to).shape in
        elim (found-free to there) [
          | inl low ↦ absurd (omega (arith, low, bounds.0, bounds.1, bounds.2))
          | inr high ↦ absurd (omega (arith, high, found-size.least))
        ]
  ]

  pub found-alone : AreAlone m' t (page_of to) (pages_in to (to + size)) × HasOneSharer m' t (page_of at)
  found-alone = (
    subst (λ (n : ℕ). AreAlone m' t (page_of to) (pages_in to (to + n))) (sym k.size_is) (to-alone cs m t s raws at k.can m' s' to k.places k.maps k.pages k.space),
    from-alone cs m t s raws at k.can m' s' to k.places k.maps k.pages k.space,
  )

  -- and this is what it leaves
  pub record Copied (n : Memory) : Type 0 where
    pub held : HoldsRegions cs n t s' (evacuated raws at to)
    pub spare : m.spare ≤ n.spare + further_pages s.in_use (raw_size cs raws at)
    pub outside : KeepsOutside m n t
    pub only : OnlyTable m n t

  pub copied : (n : Memory) → ((may : ℕ → Bool) → Covers may to size → may (page_of at) ≡ true → Keeps m' n t may)
      → (HoldsRaws cs (view_of m' t) raws → raws.has at ≡ true → raw_size cs raws at ≡ size → IsFreeSpace cs raws to size → HoldsRaws cs (view_of n t) (evacuated raws at to))
      → n.reads ≡ reads_after_all m'.reads (steps_from at (size / 8)) → IsSound n → Copied n
  copied n keeps held reads sound =
      let now = held (held' cs m t s raws at k.can m' s' to k.places k.maps k.pages k.space) k.can.has (sym k.size_is) found-free in
      let keeps' : (may : ℕ → Bool) → Covers may to (raw_size cs raws at) → may (page_of at) ≡ true → Keeps m' n t may = λ may covers here. keeps may (subst (Covers may to) (sym k.size_is) covers) here in
      let same : n.reads ≡ m'.reads = reads ∙ steps-free m'.reads at (size / 8) (regions-low at k.can.inside) in
      record {
        held = regions-held cs m t s raws at k.can m' s' to k.places k.maps k.pages k.space n keeps' now sound;
        spare = regions-spare cs m t s raws at k.can m' s' to k.places k.maps k.pages k.space n keeps' now sound;
        outside = regions-outside cs m t s raws at k.can m' s' to k.places k.maps k.pages k.space n keeps' now sound same;
        only = regions-only cs m t s raws at k.can m' s' to k.places k.maps k.pages k.space n keeps' now sound;
      }
