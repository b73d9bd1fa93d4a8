-- A slot lies in one page: spots are multiples of 8, and a slot's offset is one of its size.
use Rattle.std.proofs.Common.{◌≡◌, ℕ, ◌+◌, ◌-◌, ◌*◌, ◌/◌, ◌≤◌, Bool, true, false, true≢false, inl, inr, List, [], ◌∷◌, ◌++◌, Some, refl, sym, subst, arith}
use Rattle.std.specs.List.{AllByRecursion}
use Rattle.std.proofs.lemmas.Bool.{or_left}
use Rattle.model_numbers.specs.Numbers.{card_bytes, image_base, page_bytes, zygote_base}
use Rattle.class_layout.specs.declared.kind.FieldAt.{FieldAt}
use Rattle.class_layout.specs.declared.kind.FieldDecl.{FieldDecl}
use Rattle.class_layout.specs.declared.kind.Kind.{Kind}
use Rattle.class_layout.specs.declared.kind.Kind.TheVariants.{Ref, Boolean, Byte, Char, Short, Int, Long}
use Rattle.class_layout.specs.ClassList.{Class, layout_of}
use Rattle.class_layout.specs.Kinds.{first_element, is_ref, kind_bytes, next_multiple}
use Rattle.class_layout.specs.Layout.{Laid, place_field}
use Rattle.class_layout.specs.Placing.{IsIn}
use Rattle.heap_graph.specs.declared.names.Content.{Content}
use Rattle.heap_graph.specs.declared.names.Place.{Place}
use Rattle.heap_graph.specs.declared.names.Place.TheVariants as place
use Rattle.heap_graph.specs.declared.names.Shape.{Shape}
use Rattle.heap_graph.specs.declared.names.Shape.TheVariants.{Instance, Array}
use Rattle.heap_graph.specs.declared.names.Stored.{Stored}
use Rattle.heap_graph.specs.Table.{in_spot_window}
use Rattle.heap_graph.specs.Graph.{Graph, Object, image_size, is_immune, object_at, size_of_object}
use Rattle.heap_graph.proofs.LaidOut.{all-push, each-layout, found-all}
use Rattle.heap_world.specs.declared.names.Card.{Card}
use Rattle.heap_world.specs.declared.names.Card.TheVariants as card
use Rattle.heap_world.specs.Cards.{add_cards, cards_in, is_card_among, is_noted, is_outward}
use Rattle.heap_world.specs.Sound.{IsSound}
use Rattle.heap_world.proofs.Noted.{has-cards}
use Rattle.heap_world.specs.declared.names.PageName.{PageName}
use Rattle.heap_world.specs.declared.names.PageName.TheVariants.{Image, Zygote, Large}
use Rattle.heap_world.specs.Acts.{first_touch, store, store_effect, stored_cards_if, with_slot}
use Rattle.heap_graph.specs.Formed.{FillImage, FillZygote, HasSlot, IsBehindImage, IsBehindZygote, IsFormed, zygote_next}
use Rattle.heap_world.specs.Pages.{is_touched, page_in}
use Rattle.heap_world.specs.Part.{Part}
use Rattle.world_laws.specs.Outward.{IsCardAmong, LieIn, LieWithin, card_start, page_start, start_of}
use Rattle.world_laws.proofs.NotedCards.{found_in}
use Rattle.heap_graph.proofs.Places.{stored-slot}
use Rattle.world_laws.proofs.OutwardPages.{cards_one, holds_none, touch_has}
use Rattle.world_laws.proofs.StandingObjects.{all_in}

-- the offset is a multiple of the slot's size
abbrev IsAligned : FieldAt → Type 0
IsAligned at = (m : ℕ) × (at.offset ≡ m * kind_bytes at.kind)

abbrev AreAligned : Laid → Type 0
AreAligned laid = AllByRecursion (λ p. IsAligned p.at) laid.fields

aligned_step : (weak : Bool) (laid : Laid) (f : FieldDecl) → AreAligned laid → AreAligned (place_field weak laid f)
aligned_step weak laid f h =
    all-push (λ p. IsAligned p.at) laid.fields (record { name = f.name; at = record { kind = f.kind; offset = next_multiple (kind_bytes f.kind) laid.end; weak = weak } }) h
    ((laid.end + (kind_bytes f.kind - 1)) / kind_bytes f.kind, refl)

element_aligned : (k : Kind) (i : ℕ) → (m : ℕ) × (first_element k + i * kind_bytes k ≡ m * kind_bytes k)
element_aligned Ref i = (3 + i, omega arith)
element_aligned Boolean i = (12 + i, omega arith)
element_aligned Byte i = (12 + i, omega arith)
element_aligned Char i = (6 + i, omega arith)
element_aligned Short i = (6 + i, omega arith)
element_aligned Int i = (3 + i, omega arith)
element_aligned Long i = (2 + i, omega arith)

slot_aligned : (cs : List Class) (shape : Shape) (at : FieldAt) → HasSlot cs shape at → IsAligned at
slot_aligned cs (Instance class) at has = found-all IsAligned (layout_of cs class).fields has.0 at (each-layout AreAligned tt aligned_step cs class) has.1
slot_aligned cs (Array kind count) at has = subst IsAligned (sym has.2) (element_aligned kind has.0)

-- a spot lies a multiple of 8 behind its window's start: in the image, and in the zygote window
abbrev IsEvenImage : Place → Type 0
IsEvenImage (place.Image spot) = (a : ℕ) × (spot ≡ image_base + 8 * a)
IsEvenImage (place.Zygote spot) = Unit {0}
IsEvenImage place.Young = Unit {0}
IsEvenImage place.Large = Unit {0}
IsEvenImage place.Promoted = Unit {0}

abbrev IsEvenZygote : Place → Type 0
IsEvenZygote (place.Image spot) = Unit {0}
IsEvenZygote (place.Zygote spot) = (a : ℕ) × (spot ≡ zygote_base + 8 * a)
IsEvenZygote place.Young = Unit {0}
IsEvenZygote place.Large = Unit {0}
IsEvenZygote place.Promoted = Unit {0}

-- a size is a multiple of 8
size_even : (cs : List Class) (o : Object) → (s : ℕ) × (size_of_object cs o ≡ 8 * s)
size_even cs o = (size_of_object cs o / 8, omega arith)

even_image : (cs : List Class) (a : ℕ) (os : List Object) → FillImage cs (8 * a) os → AllByRecursion (λ o. IsEvenImage o.place) os
even_image cs a [] fill = tt
even_image cs a (o ∷ os) fill = by o.place fill.0 fill.1 (λ b rest. even_image cs b os rest)
  where
    by : (q : Place) → IsBehindImage (8 * a) q → FillImage cs (8 * a + image_size cs o q) os → ((b : ℕ) → FillImage cs (8 * b) os → AllByRecursion (λ o. IsEvenImage o.place) os) → IsEvenImage q × AllByRecursion (λ o. IsEvenImage o.place) os
    by (place.Image spot) behind fill rest = let s = size_even cs o in ((a, behind), rest (a + s.0) (subst (λ n. FillImage cs n os) (omega (arith, s.1)) fill))
    by (place.Zygote spot) behind fill rest = (tt, rest a (subst (λ n. FillImage cs n os) (omega arith) fill))
    by place.Young behind fill rest = (tt, rest a (subst (λ n. FillImage cs n os) (omega arith) fill))
    by place.Large behind fill rest = (tt, rest a (subst (λ n. FillImage cs n os) (omega arith) fill))
    by place.Promoted behind fill rest = (tt, rest a (subst (λ n. FillImage cs n os) (omega arith) fill))

even_zygote : (cs : List Class) (a : ℕ) (os : List Object) → FillZygote cs (8 * a) os → AllByRecursion (λ o. IsEvenZygote o.place) os
even_zygote cs a [] fill = tt
even_zygote cs a (o ∷ os) fill = by o.place fill.0 fill.1 (λ b rest. even_zygote cs b os rest)
  where
    spot_even : (spot : ℕ) → IsBehindZygote (8 * a) (place.Zygote spot) → (b : ℕ) × (spot ≡ zygote_base + 8 * b)
    spot_even spot (inl e) = (a, e)
    spot_even spot (inr e) = (next_multiple page_bytes (8 * a) / 8, omega (arith, e))

    by : (q : Place) → IsBehindZygote (8 * a) q → FillZygote cs (zygote_next cs (8 * a) o q) os → ((b : ℕ) → FillZygote cs (8 * b) os → AllByRecursion (λ o. IsEvenZygote o.place) os)
        → IsEvenZygote q × AllByRecursion (λ o. IsEvenZygote o.place) os
    by (place.Image spot) behind fill rest = (tt, rest a fill)
    by (place.Zygote spot) behind fill rest =
        let s = size_even cs o in
        let b = spot_even spot behind in
        (b, rest (b.0 + s.0) (subst (λ n. FillZygote cs n os) (omega (arith, b.1, s.1)) fill))
    by place.Young behind fill rest = (tt, rest a fill)
    by place.Large behind fill rest = (tt, rest a fill)
    by place.Promoted behind fill rest = (tt, rest a fill)

-- a value that stands at a multiple of its size lies in one page
in_page : (k : Kind) (a m x : ℕ) → x ≡ 8 * a + m * kind_bytes k → x + kind_bytes k ≤ x / page_bytes * page_bytes + page_bytes
in_page Ref a m x e = omega (arith, e)
in_page Boolean a m x e = omega (arith, e)
in_page Byte a m x e = omega (arith, e)
in_page Char a m x e = omega (arith, e)
in_page Short a m x e = omega (arith, e)
in_page Int a m x e = omega (arith, e)
in_page Long a m x e = omega (arith, e)

-- the page of an immune object's slot, in which the slot lies
pub slot_page : (g : Graph) (o : Object) (s : FieldAt) → IsFormed g → IsIn o g.objects → HasSlot g.classes o.shape s → is_immune g.sealed o.place ≡ true
    → (page : PageName) × (page_in o o.place s.offset ≡ Some page) × LieIn page o s.offset (kind_bytes s.kind)
slot_page g o s formed there has immune =
    by o.place immune (all_in (λ o. IsEvenImage o.place) g.objects o (even_image g.classes 0 g.objects formed.image) there) (all_in (λ o. IsEvenZygote o.place) g.objects o (even_zygote g.classes 0 g.objects formed.zygote) there)
  where
    aligned : IsAligned s
    aligned = slot_aligned g.classes o.shape s has

    by : (q : Place) → is_immune g.sealed q ≡ true → IsEvenImage q → IsEvenZygote q → (page : PageName) × (page_in o q s.offset ≡ Some page) × ((table : ℕ → ℕ) → LieWithin (page_start table page) page_bytes (start_of table o q + s.offset) (kind_bytes s.kind))
    by (place.Image spot) immune image zygote =
        let x : ℕ = spot + s.offset - image_base in
        let fits = in_page s.kind image.0 aligned.0 x (omega (arith, image.1, aligned.1)) in
        (Image (x / page_bytes), refl, λ table. (omega (arith, image.1), omega (arith, image.1, fits)))
    by (place.Zygote spot) immune image zygote =
        let x : ℕ = spot + s.offset - zygote_base in
        let fits = in_page s.kind zygote.0 aligned.0 x (omega (arith, zygote.1, aligned.1)) in
        (Zygote (x / page_bytes), refl, λ table. (omega (arith, zygote.1), omega (arith, zygote.1, fits)))
    by place.Young immune image zygote = absurd (true≢false (sym immune))
    by place.Large immune image zygote = absurd (true≢false (sym immune))
    by place.Promoted immune image zygote =
        let fits = in_page s.kind 0 aligned.0 s.offset (omega (arith, aligned.1)) in
        (Large o.number (s.offset / page_bytes), refl, λ table. (omega arith, omega (arith, fits)))

pub store_page : (p : Part) (o : Object) (s : FieldAt) (v : Content) → IsFormed p.graph → object_at p.graph o.number ≡ Some o → HasSlot p.graph.classes o.shape s → is_immune p.graph.sealed o.place ≡ true
    → (page : PageName) × (page_in o o.place s.offset ≡ Some page) × (is_touched (store p o s v).part.touched page ≡ true) × LieIn page o s.offset (kind_bytes s.kind)
store_page p o s v formed found has immune =
    let at = slot_page p.graph o s formed (found_in p.graph.objects o.number o found) has immune in
    let h : Graph = with_slot p.graph o.number (record { at = s; value = v }) in
    let touched : is_touched (first_touch p.touched (page_in o o.place s.offset) ++ p.touched) at.0 ≡ true =
    subst (λ q. is_touched (first_touch p.touched q ++ p.touched) at.0 ≡ true) (sym at.1) (touch_has p.touched at.0) in
    (at.0, at.1, subst (λ b. is_touched (store_effect b p h o s).part.touched at.0 ≡ true) (sym immune) touched, at.2)

-- and on one card
on_card : (k : Kind) (a m x : ℕ) → x ≡ 8 * a + m * kind_bytes k → x + kind_bytes k ≤ x / card_bytes * card_bytes + card_bytes
on_card Ref a m x e = omega (arith, e)
on_card Boolean a m x e = omega (arith, e)
on_card Byte a m x e = omega (arith, e)
on_card Char a m x e = omega (arith, e)
on_card Short a m x e = omega (arith, e)
on_card Int a m x e = omega (arith, e)
on_card Long a m x e = omega (arith, e)

-- the card of a slot, on which it lies
slot_card : (g : Graph) (o : Object) (s : FieldAt) → IsFormed g → IsIn o g.objects → HasSlot g.classes o.shape s → in_spot_window o.place ≡ true
    → (c : Card) × (cards_in o.place s.offset ≡ c ∷ []) × ((table : ℕ → ℕ) → LieWithin (card_start c) card_bytes (start_of table o o.place + s.offset) (kind_bytes s.kind))
slot_card g o s formed there has window =
    by o.place window (all_in (λ o. IsEvenImage o.place) g.objects o (even_image g.classes 0 g.objects formed.image) there) (all_in (λ o. IsEvenZygote o.place) g.objects o (even_zygote g.classes 0 g.objects formed.zygote) there)
  where
    aligned : IsAligned s
    aligned = slot_aligned g.classes o.shape s has

    by : (q : Place) → in_spot_window q ≡ true → IsEvenImage q → IsEvenZygote q
        → (c : Card) × (cards_in q s.offset ≡ c ∷ []) × ((table : ℕ → ℕ) → LieWithin (card_start c) card_bytes (start_of table o q + s.offset) (kind_bytes s.kind))
    by (place.Image spot) window image zygote =
        let x : ℕ = spot + s.offset - image_base in
        let fits = on_card s.kind image.0 aligned.0 x (omega (arith, image.1, aligned.1)) in
        (card.Image (x / card_bytes), refl, λ table. (omega (arith, image.1), omega (arith, image.1, fits)))
    by (place.Zygote spot) window image zygote =
        let x : ℕ = spot + s.offset - zygote_base in
        let fits = on_card s.kind zygote.0 aligned.0 x (omega (arith, zygote.1, aligned.1)) in
        (card.Zygote (x / card_bytes), refl, λ table. (omega (arith, zygote.1), omega (arith, zygote.1, fits)))
    by place.Young window image zygote = absurd (true≢false (sym window))
    by place.Large window image zygote = absurd (true≢false (sym window))
    by place.Promoted window image zygote = absurd (true≢false (sym window))

-- a store of a reference notes it
pub store_card : (p : Part) (o : Object) (s : FieldAt) (v : Content) → IsFormed p.graph → object_at p.graph o.number ≡ Some o → HasSlot p.graph.classes o.shape s → is_immune p.graph.sealed o.place ≡ true
    → is_ref s.kind ≡ true → in_spot_window o.place ≡ true → IsCardAmong (store p o s v).part.stored [] o s.offset (kind_bytes s.kind)
store_card p o s v formed found has immune ref window =
    let at = slot_card p.graph o s formed (found_in p.graph.objects o.number o found) has window in
    let h : Graph = with_slot p.graph o.number (record { at = s; value = v }) in
    let there : is_card_among (add_cards (cards_in o.place s.offset) p.stored) at.0 ≡ true =
    (subst (λ cs. AllByRecursion (λ c. is_card_among (add_cards (cards_in o.place s.offset) p.stored) c ≡ true) cs) at.1 (has-cards (cards_in o.place s.offset) p.stored)).0 in
    let noted : is_noted (store_effect true p h o s).part.stored [] at.0 ≡ true =
    or_left (is_card_among (add_cards (stored_cards_if (is_ref s.kind) (cards_in o.place s.offset)) p.stored) at.0) false
    (subst (λ b. is_card_among (add_cards (stored_cards_if b (cards_in o.place s.offset)) p.stored) at.0 ≡ true) (sym ref) there) in
    (at.0, at.1, subst (λ b. is_noted (store_effect b p h o s).part.stored [] at.0 ≡ true) (sym immune) noted, at.2)

-- so it is while the slot is outward
pub outward_card : (p : Part) (o : Object) (s : Stored) → IsSound p → IsIn o p.graph.objects → IsIn s o.slots → is_immune p.graph.sealed o.place ≡ true → is_outward p.graph s.value ≡ true
    → IsCardAmong p.stored p.held o s.at.offset (kind_bytes s.at.kind)
outward_card p o s sound there slot immune out =
    let at = slot_card p.graph o s.at sound.formed there (stored-slot p.graph o s sound.formed there slot) (window o.place refl immune) in
    let all = cards_one (λ c. is_noted p.stored p.held c ≡ true) p.graph p.graph.objects o s sound.outward_noted there slot immune out in
    (at.0, at.1, (subst (λ cs. AllByRecursion (λ c. is_noted p.stored p.held c ≡ true) cs) at.1 all).0, at.2)
  where
    window : (q : Place) → o.place ≡ q → is_immune p.graph.sealed q ≡ true → in_spot_window q ≡ true
    window (place.Image spot) e immune = refl
    window (place.Zygote spot) e immune = refl
    window place.Young e immune = absurd (true≢false (sym immune))
    window place.Large e immune = absurd (true≢false (sym immune))
    window place.Promoted e immune = absurd (holds_none p.graph o s sound.formed there slot e out)
