-- Noted cards lie below the fills of their windows, and how many there can be.
use Rattle.std.proofs.Common.{◌≡◌, ℕ, zero, suc, ◌+◌, ◌<◌, ◌≤◌, Bool, true, false, cond, inl, inr, List, [], ◌∷◌, ◌++◌, Some, length, length-append, map, nat_eq, refl, sym, ap, subst, ◌∙◌, eq-eqb, arith}
use Rattle.std.specs.List.{AllByRecursion, IsDistinct, find}
use Rattle.std.specs.Cmp.{IsEquivalence}
use Rattle.std.proofs.lemmas.Bool.{cases_eq, eqb-true, lt-ltb, ltb-true, or_cases, or_left, or_right}
use Rattle.std.proofs.lemmas.List.{length-map}
use Rattle.std.proofs.lemmas.List.Folds.{list_any-append}
use Rattle.std.proofs.lemmas.Map.Made.{length-le_from_is_member}
use Rattle.std.proofs.lemmas.Option.{same_Some, none-some}
use Rattle.model_numbers.specs.Numbers.{card_bytes, image_base}
use Rattle.class_layout.specs.declared.kind.FieldAt.{FieldAt}
use Rattle.class_layout.specs.declared.kind.Kind.{Kind}
use Rattle.class_layout.specs.declared.kind.Kind.TheVariants.{Ref}
use Rattle.class_layout.specs.Kinds.{is_ref, kind_bytes}
use Rattle.class_layout.specs.Placing.{IsIn}
use Rattle.heap_graph.specs.declared.names.Content.{Content}
use Rattle.heap_graph.specs.declared.names.Place.TheVariants as place
use Rattle.heap_graph.specs.Allocation.{with_heap_object, with_object}
use Rattle.heap_graph.specs.Collection.{collect}
use Rattle.heap_graph.specs.Graph.{Graph, Object, image_fill, is_immune, object_at, zygote_fill}
use Rattle.heap_graph.specs.Sizes.{is_large, parts_for}
use Rattle.heap_graph.proofs.LaidOut.{all-weaken}
use Rattle.heap_world.specs.declared.command.Verb.{Verb}
use Rattle.heap_world.specs.declared.names.Card.{Card}
use Rattle.heap_world.specs.declared.names.Card.TheVariants.{Image, Zygote}
use Rattle.heap_world.specs.Acts.{act, fork_part, root_written, store_effect, stored_cards_if, with_slot}
use Rattle.heap_world.specs.Cards.{add_card_if, add_cards, cards_in, held_cards, is_card_among, noted_count, outward_cards, same_card}
use Rattle.heap_world.specs.Effect.{Effect}
use Rattle.heap_graph.specs.Formed.{HasSlot, IsFormed}
use Rattle.heap_world.specs.Commands.{HasFewFields}
use Rattle.heap_world.specs.Pages.{count_from}
use Rattle.heap_world.specs.Part.{Part}
use Rattle.heap_world.specs.Sound.{IsSound}
use Rattle.heap_world.proofs.Bounds.{length-count}
use Rattle.heap_world.proofs.FormedDefine.{IsGrown}
use Rattle.heap_world.proofs.FormedKept.{collect_formed}
use Rattle.heap_world.proofs.PlacedSame.{AreSame, grown-same, stored-same}
use Rattle.heap_world.proofs.SoundParts.{distinct-cards}
use Rattle.heap_world.proofs.Standing.{slot-lies}
use Rattle.world_laws.specs.Outward.{NotesWithin, is_card_of}
use Rattle.world_laws.proofs.Named.{fills-collect, fills-heap, fills-image, fills-same}
use Rattle.heap_graph.proofs.Places.{stored-slot}
use Rattle.world_laws.proofs.OutwardPages.{cards_all}
use Rattle.world_laws.proofs.StandingObjects.{cards_within}
use Rattle.world_laws.proofs.Walk.{act_walk, fork_walk}

abbrev AreCards : Graph → List Card → Type 0
AreCards g cards = AllByRecursion (λ c. is_card_of g c ≡ true) cards

-- a graph that fills as much, or more
abbrev Fills : Graph → Graph → Type 0
Fills g h = (image_fill g ≤ image_fill h) × (zygote_fill g ≤ zygote_fill h)

cards_more : (g h : Graph) → Fills g h → (cards : List Card) → AreCards g cards → AreCards h cards
cards_more g h fills cards all = all-weaken (λ c. is_card_of g c ≡ true) (λ c. is_card_of h c ≡ true) more cards all
  where
    more : (c : Card) → is_card_of g c ≡ true → is_card_of h c ≡ true
    more (Image k) e = lt-ltb k (parts_for card_bytes (image_fill h)) (omega (arith, fills.0, ltb-true k (parts_for card_bytes (image_fill g)) e))
    more (Zygote k) e = lt-ltb k (parts_for card_bytes (zygote_fill h)) (omega (arith, fills.1, ltb-true k (parts_for card_bytes (zygote_fill g)) e))

-- a set of cards with more
all_added : (P : Card → Type 0) (more cards : List Card) → AllByRecursion P more → AllByRecursion P cards → AllByRecursion P (add_cards more cards)
all_added P [] cards new old = old
all_added P (c ∷ more) cards new old = by (is_card_among (add_cards more cards) c) (all_added P more cards new.1 old)
  where
    by : (b : Bool) → AllByRecursion P (add_cards more cards) → AllByRecursion P (add_card_if b c (add_cards more cards))
    by true rest = rest
    by false rest = (new.0, rest)

-- a slot begins before its object's end
bytes_least : (k : Kind) → 1 ≤ kind_bytes k
bytes_least k = elim k as (λ k. 1 ≤ kind_bytes k) [ Ref ↦ omega arith | _ ↦ omega arith ]

-- an object that is found is there
pub found_in : (os : List Object) (n : ℕ) (o : Object) → find (λ x. nat_eq x.number n) os ≡ Some o → IsIn o os
found_in [] n o e = absurd (none-some o e)
found_in (x ∷ os) n o e = by (nat_eq x.number n) e (found_in os n o)
  where
    by : (b : Bool) → cond b (Some x) (find (λ x. nat_eq x.number n) os) ≡ Some o → (find (λ x. nat_eq x.number n) os ≡ Some o → IsIn o os) → IsIn o (x ∷ os)
    by true e rest = inl (same_Some x o e)
    by false e rest = inr (rest e)

slot_cards_within : (g : Graph) (o : Object) (s : FieldAt) → IsFormed g → IsIn o g.objects → HasSlot g.classes o.shape s → AreCards g (cards_in o.place s.offset)
slot_cards_within g o s formed there has = let lies = slot-lies g.classes o.shape s has in cards_within g o s.offset formed there (omega (arith, lies.1, bytes_least s.kind))

-- the cards of outward slots
held_within : (g : Graph) → IsFormed g → AreCards g (held_cards g)
held_within g formed =
    all_added (λ c. is_card_of g c ≡ true) (outward_cards g) []
    (cards_all (λ c. is_card_of g c ≡ true) g g.objects (λ o s there slot immune out. slot_cards_within g o s.at formed there (stored-slot g o s formed there slot)))
    tt

fills_from : (g h : Graph) → (image_fill h ≡ image_fill g) × (zygote_fill h ≡ zygote_fill g) → Fills g h
fills_from g h same = (omega (arith, same.0), omega (arith, same.1))

fills_then : (g h k : Graph) → Fills g h → Fills h k → Fills g k
fills_then g h k one two = (omega (arith, one.0, two.0), omega (arith, one.1, two.1))

module _ (p : Part) (sound : IsSound p) (notes : NotesWithin p) where
  abbrev g : Graph
  g = p.graph

  -- the cards as they were, in a graph that fills as much or more; or those that a collection leaves
  kept : (h : Graph) → Fills g h → NotesWithin (record p { graph = h })
  kept h fills = record { stored = cards_more g h fills p.stored notes.stored; held = cards_more g h fills p.held notes.held }

  collected : (h : Graph) → Fills g h → NotesWithin (record p { graph = h; stored = []; held = held_cards g })
  collected h fills = record { stored = tt; held = cards_more g h fills (held_cards g) (held_within g sound.formed) }

  fills_collect : g.sealed ≡ true → Fills g (collect g)
  fills_collect sealed = fills_from g (collect g) (fills-collect g sealed sound.formed)

  abbrev After : Effect → Type 0
  After e = NotesWithin e.part

  pub act_notes : (v : Verb) → HasFewFields v → NotesWithin (act p v).part
  act_notes v few = act_walk p v After (record {
    telling = λ r told. notes;
    refusing = λ why left. notes;
    define = λ cs grown.
        let more : IsGrown g.classes cs = grown few sound.formed in
        let same : AreSame g.classes cs g.objects g.objects = subst (λ ds. AreSame g.classes ds g.objects g.objects) (sym more.same) (grown-same g.classes more.added g.objects sound.formed.objects) in
        kept (record g { classes = cs }) (fills_from g (record g { classes = cs }) (fills-same g (record g { classes = cs }) same sound.formed.zygote));
    roots = λ rs r told. record { stored = notes.stored; held = notes.held };
    heap = λ root shape slots sealed. kept (root_written (with_heap_object g shape slots) root g.next) (fills_from g (with_heap_object g shape slots) (fills-heap g shape slots (is_large g.classes shape) sound.formed.zygote));
    again = λ root shape slots sealed.
        let left : Graph = collect g in
        collected (root_written (with_heap_object left shape slots) root g.next)
        (fills_then g left (with_heap_object left shape slots) (fills_collect sealed)
        (fills_from left (with_heap_object left shape slots) (fills-heap left shape slots (is_large left.classes shape) (collect_formed g sealed sound.formed).zygote)));
    full = λ root shape free needed sealed. collected (collect g) (fills_collect sealed);
    image = λ root shape slots unsealed.
        let h : Graph = with_object g shape slots (place.Image (image_base + image_fill g)) in
        let fills = fills-image g shape slots (image_base + image_fill g) sound.formed.zygote in
        kept (root_written h root g.next) (omega (arith, fills.0), omega (arith, fills.1));
    storing = λ o s new found has fits. stored o s new found has (is_immune g.sealed o.place);
    seal = λ is unsealed. record { stored = tt; held = notes.held };
    gc = λ sealed. collected (collect g) (fills_collect sealed);
    exit = record { stored = notes.stored; held = notes.held };
    dump = λ sealed. record { stored = notes.stored; held = notes.held };
  })
    where
      stored : (o : Object) (s : FieldAt) (new : Content) → object_at g o.number ≡ Some o → HasSlot g.classes o.shape s → (b : Bool)
          → NotesWithin (store_effect b p (with_slot g o.number (record { at = s; value = new })) o s).part
      stored o s new found has b =
          let h : Graph = with_slot g o.number (record { at = s; value = new }) in
          let fills : Fills g h = fills_from g h (fills-same g h (stored-same g.classes g.objects o.number (record { at = s; value = new })) sound.formed.zygote) in
          by b h fills
        where
          added : (b : Bool) → AreCards g (stored_cards_if b (cards_in o.place s.offset))
          added true = slot_cards_within g o s sound.formed (found_in g.objects o.number o found) has
          added false = tt

          by : (b : Bool) (h : Graph) → Fills g h → NotesWithin (store_effect b p h o s).part
          by true h fills = record {
            stored = cards_more g h fills (add_cards (stored_cards_if (is_ref s.kind) (cards_in o.place s.offset)) p.stored)
                (all_added (λ c. is_card_of g c ≡ true) (stored_cards_if (is_ref s.kind) (cards_in o.place s.offset)) p.stored (added (is_ref s.kind)) notes.stored);
            held = cards_more g h fills p.held notes.held;
          }
          by false h fills = kept h fills

  pub fork_notes : g.sealed ≡ true → NotesWithin (fork_part p).part
  fork_notes sealed = fork_walk p After (λ room. record { stored = tt; held = tt }) (λ full. collected (collect g) (fills_collect sealed))

-- cards are the same where the test says so
card_is : (a b : Card) → same_card a b ≡ true → a ≡ b
card_is (Image j) (Image k) e = ap Image (eqb-true j k e)
card_is (Image j) (Zygote k) e = cc
card_is (Zygote j) (Image k) e = cc
card_is (Zygote j) (Zygote k) e = ap Zygote (eqb-true j k e)

card_refl : (a : Card) → same_card a a ≡ true
card_refl (Image j) = eq-eqb j j refl
card_refl (Zygote j) = eq-eqb j j refl

card_symm : (a b : Card) → same_card a b ≡ same_card b a
card_symm a b = by (same_card a b) (same_card b a) refl refl
  where
    by : (x y : Bool) → same_card a b ≡ x → same_card b a ≡ y → x ≡ y
    by true true d e = refl
    by false false d e = refl
    by true false d e = sym (sym e ∙ ap (λ c. same_card c a) (sym (card_is a b d)) ∙ card_refl a)
    by false true d e = sym d ∙ ap (λ c. same_card a c) (card_is b a e) ∙ card_refl a

card_laws : IsEquivalence same_card
card_laws = record { refl = card_refl; symm = card_symm; congr = λ a b c e. ap (λ x. same_card x c) (card_is a b e) }

-- the cards below the fills, as a list
cards_below : (card : ℕ → Card) (start n k : ℕ) → start ≤ k → k < start + n → is_card_among (map card (count_from start n)) (card k) ≡ true
cards_below card start zero k low high = absurd (omega arith)
cards_below card start (suc n) k low high =
    elim (cases_eq k start) [
      | inl same ↦ or_left _ (is_card_among (map card (count_from (start + 1) n)) (card k)) (ap (λ j. same_card (card k) (card j)) (sym same) ∙ card_refl (card k))
      | inr other ↦ or_right _ (is_card_among (map card (count_from (start + 1) n)) (card k)) (cards_below card (start + 1) n k (omega arith) (omega arith))
    ]

window_cards : (images zygotes : ℕ) → List Card
window_cards images zygotes = map Image (count_from 0 images) ++ map Zygote (count_from 0 zygotes)

module _ (g : Graph) where
  abbrev images : ℕ
  images = parts_for card_bytes (image_fill g)

  abbrev zygotes : ℕ
  zygotes = parts_for card_bytes (zygote_fill g)

  in_windows : (c : Card) → is_card_of g c ≡ true → is_card_among (window_cards images zygotes) c ≡ true
  unfolding window_cards
  in_windows (Image k) e =
      list_any-append (same_card (Image k)) (map Image (count_from 0 images)) (map Zygote (count_from 0 zygotes))
      ∙ or_left (is_card_among (map Image (count_from 0 images)) (Image k)) (is_card_among (map Zygote (count_from 0 zygotes)) (Image k)) (cards_below Image 0 images k (omega arith) (omega (arith, ltb-true k images e)))
  in_windows (Zygote k) e =
      list_any-append (same_card (Zygote k)) (map Image (count_from 0 images)) (map Zygote (count_from 0 zygotes))
      ∙ or_right (is_card_among (map Image (count_from 0 images)) (Zygote k)) (is_card_among (map Zygote (count_from 0 zygotes)) (Zygote k)) (cards_below Zygote 0 zygotes k (omega arith) (omega (arith, ltb-true k zygotes e)))

  windows_length : length (window_cards images zygotes) ≡ images + zygotes
  unfolding window_cards
  windows_length =
      length-append (map Image (count_from 0 images)) (map Zygote (count_from 0 zygotes))
      ∙ ap (λ n. n + length (map Zygote (count_from 0 zygotes))) (length-map (count_from 0 images) Image ∙ length-count 0 images)
      ∙ ap (λ n. images + n) (length-map (count_from 0 zygotes) Zygote ∙ length-count 0 zygotes)

-- what all cards have, one among them has
card_has : (P : Card → Type 0) (cards : List Card) (c : Card) → AllByRecursion P cards → is_card_among cards c ≡ true → P c
card_has P [] c all e = cc
card_has P (d ∷ cards) c all e = elim (or_cases (same_card c d) (is_card_among cards c) e) [
  | inl here ↦ subst P (sym (card_is c d here)) all.0
  | inr later ↦ card_has P cards c all.1 later
]

pub few_noted : (p : Part) → IsSound p → NotesWithin p → noted_count p.stored p.held ≤ 327680
few_noted p sound notes =
    let g : Graph = p.graph in
    let cards : List Card = add_cards p.stored p.held in
    let all : AreCards g cards = all_added (λ c. is_card_of g c ≡ true) p.stored p.held notes.stored notes.held in
    let once : IsDistinct same_card cards = distinct-cards p.stored p.held sound.held_once in
    let fits : length cards ≤ length (window_cards (images g) (zygotes g)) =
    length-le_from_is_member card_laws cards (window_cards (images g) (zygotes g)) once (λ c e. in_windows g c (card_has (λ c. is_card_of g c ≡ true) cards c all e)) in
    omega (arith, fits, windows_length g, sound.formed.image_fits, sound.formed.zygote_fits)
