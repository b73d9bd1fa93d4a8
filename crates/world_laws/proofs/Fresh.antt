-- The pages that each command and each fork makes are new, and have labels afterwards.
use Rattle.std.proofs.Common.{◌≡◌, ℕ, ◌+◌, ◌-◌, ◌<◌, ◌≤◌, Bool, true, false, true≢false, ◌&&◌, ◌||◌, List, [], ◌∷◌, ◌++◌, nat_eq, nat_lt, refl, sym, subst, ap, ◌∙◌, eq-eqb, arith}
use Rattle.std.proofs.lemmas.Bool.{and_from, eqb-true, lt-ltb, ltb-true, or_right}
use Rattle.std.proofs.lemmas.List.Folds.{list_any-append}
use Rattle.model_numbers.specs.Numbers.{image_base, page_bytes}
use Rattle.class_layout.specs.declared.kind.FieldAt.{FieldAt}
use Rattle.class_layout.specs.ClassList.{Class}
use Rattle.heap_graph.specs.declared.names.Content.{Content}
use Rattle.heap_graph.specs.declared.names.Place.{Place}
use Rattle.heap_graph.specs.declared.names.Place.TheVariants as place
use Rattle.heap_graph.specs.declared.names.Shape.{Shape}
use Rattle.heap_graph.specs.declared.names.Stored.{Stored}
use Rattle.heap_graph.specs.Allocation.{heap_place, with_heap_object, with_object}
use Rattle.heap_graph.specs.Collection.{collect}
use Rattle.heap_graph.specs.Fork.{promoted, promotion_bytes, promotion_start}
use Rattle.heap_graph.specs.Graph.{Graph, Object, image_fill, image_size, is_immune, zygote_fill}
use Rattle.heap_graph.specs.Sizes.{is_large, parts_for, size_in, unrounded}
use Rattle.heap_graph.proofs.Totals.{total, total-push}
use Rattle.heap_world.specs.declared.command.Verb.{Verb}
use Rattle.heap_world.specs.declared.names.PageName.{PageName}
use Rattle.heap_world.specs.declared.names.PageName.TheVariants.{Image, Zygote, Large}
use Rattle.heap_world.specs.Acts.{act, fork_pages, fork_part, image_pages_behind, pages_of_new, slot_pages_if, store_effect, with_slot}
use Rattle.heap_world.specs.Effect.{Effect}
use Rattle.heap_graph.specs.Formed.{AreRising, IsFormed}
use Rattle.heap_world.specs.Pages.{is_touched}
use Rattle.heap_world.specs.Part.{Part}
use Rattle.heap_world.proofs.FormedKept.{collect_formed, promoted_formed}
use Rattle.heap_world.proofs.Placed.{fill-is, top-is}
use Rattle.heap_world.proofs.PlacedFork.{young-sum, young_size}
use Rattle.world_laws.specs.Effects.{MakesNew}
use Rattle.world_laws.specs.Named.{has_page, has_slot, is_named, is_paged}
use Rattle.world_laws.proofs.Named.{fills-collect}
use Rattle.world_laws.proofs.PageLists.{in_count_at}
use Rattle.world_laws.proofs.StandingLists.{none_from}
use Rattle.world_laws.proofs.Tops.{top-least}
use Rattle.world_laws.proofs.Walk.{act_walk, fork_walk}

-- a number that isn't below another
not_less : (k n : ℕ) → n ≤ k → nat_lt k n ≡ false
not_less k n le = none_from (nat_lt k n) (λ e. omega (arith, ltb-true k n e, le))

-- no object has a number that lies behind them all
no_number : (at : Place → Bool) (cs : List Class) (low next n k : ℕ) (os : List Object) → next ≤ n → AreRising low next os → is_paged at cs os n k ≡ false
no_number at cs low next n k [] le rising = refl
no_number at cs low next n k (o ∷ os) le rising =
    let above = rising_above (o.number + 1) next os rising.1 in
    ap (λ b. (b && (at o.place && nat_lt k (parts_for page_bytes (unrounded cs o.shape)))) || is_paged at cs os n k) (none_from (nat_eq o.number n) (λ e. omega (arith, eqb-true o.number n e, above, le)))
    ∙ no_number at cs (o.number + 1) next n k os le rising.1
  where
    rising_above : (low next : ℕ) (os : List Object) → AreRising low next os → low ≤ next
    rising_above low next [] h = h
    rising_above low next (x ∷ xs) h = omega (arith, h.0, rising_above (x.number + 1) next xs h.1)

-- an object behind others has its pages
last_page : (cs : List Class) (os : List Object) (o : Object) (k : ℕ) → has_slot o.place ≡ true → k < parts_for page_bytes (unrounded cs o.shape) → is_paged has_slot cs (os ++ o ∷ []) o.number k ≡ true
last_page cs os o k slot less =
    let within : Bool = nat_lt k (parts_for page_bytes (unrounded cs o.shape)) in
    let here : has_page has_slot cs o.number k o ≡ true =
    and_from (nat_eq o.number o.number) (has_slot o.place && within) (eq-eqb o.number o.number refl) (and_from (has_slot o.place) within slot (lt-ltb k (parts_for page_bytes (unrounded cs o.shape)) less)) in
    list_any-append (has_page has_slot cs o.number k) os (o ∷ [])
    ∙ or_right (is_paged has_slot cs os o.number k) (has_page has_slot cs o.number k o || false) (ap (λ b. b || false) here)

-- new pages: without a label in one graph, and with one in another
abbrev New : Graph → Graph → List PageName → Type 0
New g h made = (page : PageName) → is_touched made page ≡ true → (is_named g page ≡ false) × (is_named h page ≡ true)

-- one more object, behind others that may be fewer than they were
new_heap : (g left : Graph) (shape : Shape) (slots : List Stored) → IsFormed g → left.classes ≡ g.classes → left.next ≡ g.next → (b : Bool)
    → New g (with_object left shape slots (heap_place b)) (slot_pages_if b g shape)
new_heap g left shape slots formed classes next true page e =
    let count : ℕ = parts_for page_bytes (unrounded g.classes shape) in
    let at = in_count_at (Large g.next) 0 count page e in
    let made : Object = record { number = left.next; shape = shape; slots = slots; place = place.Large } in
    let below : at.0 < parts_for page_bytes (unrounded left.classes shape) = subst (λ cs. at.0 < parts_for page_bytes (unrounded cs shape)) (sym classes) (omega (arith, at.2)) in
    let there : is_named (with_object left shape slots place.Large) (Large g.next at.0) ≡ true =
    ap (λ n. is_paged has_slot left.classes (left.objects ++ made ∷ []) n at.0) (sym next) ∙ last_page left.classes left.objects made at.0 refl below in
    (ap (is_named g) at.3 ∙ no_number has_slot g.classes 0 g.next g.next at.0 g.objects (omega arith) formed.numbers, ap (is_named (with_object left shape slots place.Large)) at.3 ∙ there)
new_heap g left shape slots formed classes next false page e = absurd (true≢false (sym e))

new_image : (g : Graph) (shape : Shape) (slots : List Stored) → New g (with_object g shape slots (place.Image (image_base + image_fill g))) (image_pages_behind (image_fill g) (size_in g.classes shape))
new_image g shape slots page e =
    let made : Object = record { number = g.next; shape = shape; slots = slots; place = place.Image (image_base + image_fill g) } in
    let h : Graph = with_object g shape slots (place.Image (image_base + image_fill g)) in
    let low : ℕ = parts_for page_bytes (image_fill g) in
    let high : ℕ = parts_for page_bytes (image_fill g + size_in g.classes shape) in
    let at = in_count_at Image low (high - low) page e in
    let fill : image_fill h ≡ image_fill g + size_in g.classes shape = omega (arith, fill-is h, fill-is g, total-push (λ o. image_size g.classes o o.place) g.objects made) in
    let below : at.0 < parts_for page_bytes (image_fill h) = subst (λ n. at.0 < parts_for page_bytes n) (sym fill) (omega (arith, at.1, at.2)) in
    (ap (is_named g) at.3 ∙ not_less at.0 low at.1, ap (is_named h) at.3 ∙ lt-ltb at.0 (parts_for page_bytes (image_fill h)) below)

-- a promotion
new_zygote : (g left : Graph) → zygote_fill left ≡ zygote_fill g → IsFormed left → IsFormed (promoted left) → New g (promoted left) (fork_pages left)
new_zygote g left same formed after page e =
    let h : Graph = promoted left in
    let cs : List Class = left.classes in
    let low : ℕ = parts_for page_bytes (zygote_fill left) in
    let bytes : ℕ = promotion_bytes left in
    let at = in_count_at Zygote low (parts_for page_bytes bytes) page e in
    let total_is : bytes ≡ total (λ o. young_size cs o o.place) left.objects = young-sum cs left.objects in
    let some : 0 < total (λ o. young_size cs o o.place) left.objects = omega (arith, at.1, at.2, total_is) in
    let top : promotion_start left + bytes ≤ zygote_fill h = omega (arith, top-least cs 0 (promotion_start left) left.objects after.zygote some, top-is cs h.objects after.zygote, total_is) in
    let below : at.0 < parts_for page_bytes (zygote_fill h) = omega (arith, top, at.2) in
    let above : parts_for page_bytes (zygote_fill g) ≤ at.0 = subst (λ n. parts_for page_bytes n ≤ at.0) same at.1 in
    (ap (is_named g) at.3 ∙ not_less at.0 (parts_for page_bytes (zygote_fill g)) above, ap (is_named h) at.3 ∙ lt-ltb at.0 (parts_for page_bytes (zygote_fill h)) below)

new_from : (p : Part) (e : Effect) → New p.graph e.part.graph e.made → MakesNew p e
new_from p e new = record { was_none = λ page h. (new page h).0; is_there = λ page h. (new page h).1 }

module _ (p : Part) (formed : IsFormed p.graph) where
  abbrev g : Graph
  g = p.graph

  abbrev Makes : Effect → Type 0
  Makes e = New g e.part.graph e.made

  act_new : (v : Verb) → Makes (act p v)
  act_new v = act_walk p v Makes (record {
    telling = λ r told. (λ page e. absurd (true≢false (sym e)));
    refusing = λ why left. (λ page e. absurd (true≢false (sym e)));
    define = λ cs grown. (λ page e. absurd (true≢false (sym e)));
    roots = λ rs r told. (λ page e. absurd (true≢false (sym e)));
    heap = λ root shape slots sealed. subst (λ b. New g (with_heap_object g shape slots) (pages_of_new b g shape)) (sym sealed) (new_heap g g shape slots formed refl refl (is_large g.classes shape));
    again = λ root shape slots sealed.
        subst (λ b. New g (with_heap_object (collect g) shape slots) (pages_of_new b g shape)) (sym sealed) (new_heap g (collect g) shape slots formed refl refl (is_large g.classes shape));
    full = λ root shape free needed sealed. (λ page e. absurd (true≢false (sym e)));
    image = λ root shape slots unsealed.
        subst (λ b. New g (with_object g shape slots (place.Image (image_base + image_fill g))) (pages_of_new b g shape)) (sym unsealed) (new_image g shape slots);
    storing = λ o s new found has fits. stored (is_immune g.sealed o.place) o s new;
    seal = λ is unsealed. (λ page e. absurd (true≢false (sym e)));
    gc = λ sealed. (λ page e. absurd (true≢false (sym e)));
    exit = (λ page e. absurd (true≢false (sym e)));
    dump = λ sealed. (λ page e. absurd (true≢false (sym e)));
  })
    where
      stored : (b : Bool) (o : Object) (s : FieldAt) (new : Content) → Makes (store_effect b p (with_slot g o.number (record { at = s; value = new })) o s)
      stored true o s new page e = absurd (true≢false (sym e))
      stored false o s new page e = absurd (true≢false (sym e))

  fork_new : g.sealed ≡ true → Makes (fork_part p)
  fork_new sealed = fork_walk p Makes
      (λ room.
      let after : IsFormed (collect g) = collect_formed g sealed formed in
      new_zygote g (collect g) (fills-collect g sealed formed).1 after (promoted_formed (collect g) sealed room after))
      (λ full page e. absurd (true≢false (sym e)))

pub makes_new : (p : Part) (v : Verb) → IsFormed p.graph → MakesNew p (act p v)
makes_new p v formed = new_from p (act p v) (act_new p formed v)

pub fork_makes_new : (p : Part) → p.graph.sealed ≡ true → IsFormed p.graph → MakesNew p (fork_part p)
fork_makes_new p sealed formed = new_from p (fork_part p) (fork_new p formed sealed)
