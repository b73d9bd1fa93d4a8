-- The first process of a machine stands.
use Rattle.std.proofs.Common.{◌≡◌, ◌∙◌, ℕ, ◌*◌, ◌≤◌, false, true≢false, List, [], ◌++◌, map, filter, length, is_some, refl, sym, ap, subst, arith}
use Rattle.std.specs.List.{list_any}
use Rattle.model_numbers.specs.Numbers.{image_base, image_length, most_regions, number_limit, zygote_base, zygote_length}
use Rattle.cow_pages.specs.Memory.{Memory}
use Rattle.heap_graph.specs.Graph.{first_graph, Graph}
use Rattle.heap_world.specs.declared.names.Card.{Card}
use Rattle.heap_world.specs.declared.names.Card.TheVariants as card
use Rattle.heap_world.specs.declared.names.PageName.{PageName}
use Rattle.heap_world.specs.declared.names.PageName.TheVariants.{Image, Zygote, Large}
use Rattle.heap_world.specs.Part.{first_part}
use Rattle.heap_world.specs.Sound.{IsSound}
use Rattle.heap_world.proofs.SoundActs.{first_sound}
use Rattle.world_laws.specs.Named.{waits}
use Rattle.region_lists.specs.Rows.{Row}
use Rattle.region_space.specs.Space as region
use Rattle.large_objects.specs.declared.rows.LargeRow.{LargeRow}
use Rattle.large_objects.specs.Pages as large
use Rattle.large_objects.specs.Rows as large_rows
use Rattle.live_objects.specs.Live.{addresses}
use Rattle.address_table.specs.Computed.{AreNumbers, HouseAll}
use Rattle.object_moves.specs.Copies.{PacksAt}
use Rattle.evacuate.specs.Stands.{homes_in, HoldsHeap}
use Rattle.evacuate.proofs.Sealed.{no-numbers, packs-none}
use Rattle.root_list.specs.declared.root.RootAt.{RootAt}
use Rattle.root_list.specs.Roots.{held_by_all}
use Rattle.process_state.specs.Cards.{card_number, has_noted, NotesWindow}
use Rattle.process_state.specs.Stands.{StandsIn}
use Rattle.process_state.specs.State.{heap_of, Notes, State}
use Rattle.process_steps.specs.First.{AreFresh, IsFirst}

none-waits : (regions number : ℕ) (a : PageName) → waits (first_graph regions number) a ≡ false
none-waits regions number (Image k) = refl
none-waits regions number (Zygote k) = refl
none-waits regions number (Large n k) = refl

fresh-window : (base bytes : ℕ) (notes : Notes) → AreFresh base bytes notes → NotesWindow base bytes notes
fresh-window base bytes notes fresh = record { start = fresh.start; span = fresh.span; behind = λ card has. absurd (true≢false (sym has ∙ fresh.none card)) }

module _ (s : State) (m : Memory) (regions number : ℕ) (some : 1 ≤ regions) (few : regions ≤ most_regions) (numbered : 1 ≤ number) (limit : number ≤ number_limit) (is : IsFirst s m regions number) where
  abbrev g : Graph
  g = first_graph regions number

  part : IsSound (first_part regions number)
  part = first_sound regions number some few limit

  house : HouseAll (homes_in s.regions.in_use s.rows) (first_graph regions number)
  house = record {
    regions = subst (λ (rows : List Row). AreNumbers (2 * regions) (map (λ (row : Row). row.region) rows)) (sym is.none_in_use.0) (no-numbers (2 * regions));
    slots = subst (λ (rows : List LargeRow). AreNumbers 512 (map (λ (row : LargeRow). row.slot) rows)) (sym is.rows) (no-numbers 512);
    for_young = omega arith;
    for_large = omega arith;
  }

  packed : PacksAt s.regions.in_use [] []
  packed = subst (λ (rows : List Row). PacksAt rows [] []) (sym is.none_in_use.0) packs-none

  none-in-regions : (q : ℕ) → list_any (region.holds_page q) (region.filled (region.lists_of s.regions)) ≡ false
  none-in-regions q =
      ap (λ (rows : List Row). list_any (region.holds_page q) (rows ++ s.regions.from)) is.none_in_use.0 ∙ ap (λ (rows : List Row). list_any (region.holds_page q) rows) is.none_in_use.1

  none-in-slots : (q : ℕ) → list_any (large.holds_page q) (filter large_rows.waits s.rows) ≡ false
  none-in-slots q = ap (λ (rows : List LargeRow). list_any (large.holds_page q) (filter large_rows.waits rows)) is.rows

  heap : HoldsHeap (heap_of s []) m s.page_table (first_graph regions number)
  heap = record {
    formed = part.formed;
    house = house;
    pages = record {
      objects = record { known = λ o there. absurd there; stands = λ o there. absurd there; apart = λ o x there also less. absurd there };
      pages = λ w q inside. ap is_some (is.unmapped q);
    };
    stands = record {
      classes = is.classes;
      packed = packed;
      objects = is.none_in_use.2;
      no_from = is.none_in_use.1;
      half = omega (arith, ap length is.none_in_use.0);
      count = is.count;
      rows = is.rows;
      roots = ap (λ (rs : List RootAt). addresses (held_by_all rs)) is.roots;
    };
    regions = λ q there. absurd (true≢false (sym there ∙ none-in-regions q));
    large = λ q there. absurd (true≢false (sym there ∙ none-in-slots q));
    space = is.space;
    sound = is.sound;
    live = is.live;
  }

  none-noted : (d : Card) → has_noted s d ≡ false
  none-noted (card.Image k) = is.image_notes.none (card_number (card.Image k))
  none-noted (card.Zygote k) = is.zygote_notes.none (card_number (card.Zygote k))

  stands-first : StandsIn s m (first_part regions number)
  stands-first = record {
    lives = refl;
    part = part;
    outward = λ o at there. absurd there;
    within = record { stored = tt; held = tt };
    counts = record {
      names = ap (map (λ (r : RootAt). r.name)) is.roots;
      next = is.next;
      numbered = omega (arith, is.next, numbered);
      budget = is.budget;
      is_sealed = is.unsealed;
      dumps = is.counts.0;
      objects = is.counts.1;
      promoted = is.counts.2;
    };
    heap = heap;
    flags = record { touched = λ a sealed. absurd (true≢false (sym sealed)); waiting = λ a waiting. absurd (true≢false (sym waiting ∙ none-waits regions number a)) };
    cards = record {
      image = fresh-window image_base image_length s.image_notes is.image_notes;
      zygote = fresh-window zygote_base zygote_length s.zygote_notes is.zygote_notes;
      noted = λ d has. absurd (true≢false (sym has ∙ none-noted d));
      outward = tt;
      before_seal = λ unsealed. (is.image_notes.none, is.zygote_notes.none);
    };
    alone = λ q unsealed inside mapped. absurd (true≢false (sym mapped ∙ ap is_some (is.unmapped q)));
    image_is = is.image_is;
    zygote_is = is.zygote_is;
    image = record { fill = is.image_empty.0; starts = is.image_empty.1 };
    zygote = record { closed = is.zygote_empty.0; fill = is.zygote_empty.1; starts = is.zygote_empty.2 };
  }

pub first-stands : (s : State) (m : Memory) (regions number : ℕ) → 1 ≤ regions → regions ≤ most_regions → 1 ≤ number → number ≤ number_limit → IsFirst s m regions number → StandsIn s m (first_part regions number)
first-stands s m regions number some few numbered limit is = stands-first s m regions number some few numbered limit is
