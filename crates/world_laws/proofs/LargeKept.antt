-- Large objects over each command and each fork: each is one that was there, or its pages were made.
use Rattle.std.proofs.Common.{◌≡◌, ◌⊎◌, ℕ, ◌+◌, ◌<◌, Bool, true, false, true≢false, cond, inl, inr, List, [], ◌∷◌, ◌++◌, filter, map, nat_eq, refl, sym, ap, subst, ◌∙◌, arith}
use Rattle.model_numbers.specs.Numbers.{image_base, page_bytes}
use Rattle.class_layout.specs.declared.kind.FieldAt.{FieldAt}
use Rattle.class_layout.specs.ClassList.{Class}
use Rattle.class_layout.specs.Placing.{IsIn}
use Rattle.heap_graph.specs.declared.names.Content.{Content}
use Rattle.heap_graph.specs.declared.names.Place.{Place}
use Rattle.heap_graph.specs.declared.names.Place.TheVariants as place
use Rattle.heap_graph.specs.declared.names.Shape.{Shape}
use Rattle.heap_graph.specs.declared.names.Stored.{Stored}
use Rattle.heap_graph.specs.Allocation.{heap_place, with_heap_object, with_object}
use Rattle.heap_graph.specs.Collection.{cleared, collect, is_kept}
use Rattle.heap_graph.specs.Fork.{next_spot, promoted_from, promoted_place, promotion_start}
use Rattle.heap_graph.specs.Graph.{Graph, Object, image_fill, is_immune, size_of_object}
use Rattle.heap_graph.specs.Reach.{reached}
use Rattle.heap_graph.specs.Sizes.{is_large, parts_for, unrounded}
use Rattle.heap_world.specs.declared.command.Verb.{Verb}
use Rattle.heap_world.specs.declared.names.PageName.{PageName}
use Rattle.heap_world.specs.declared.names.PageName.TheVariants.{Large}
use Rattle.heap_world.specs.Acts.{act, dump_counted, fork_part, pages_of_new, slot_pages_if, store_effect, stored_in, stored_in_if, with_slot}
use Rattle.heap_world.specs.Effect.{Effect}
use Rattle.heap_graph.specs.Formed.{AreObjects, IsFormed, IsShape}
use Rattle.heap_world.specs.Commands.{HasFewFields}
use Rattle.heap_world.specs.Pages.{is_touched}
use Rattle.heap_world.specs.Part.{Part}
use Rattle.heap_world.proofs.FormedDefine.{IsGrown}
use Rattle.heap_world.proofs.PlacedSame.{bytes-grown}
use Rattle.heap_world.proofs.Standing.{in-count}
use Rattle.world_laws.specs.Named.{has_slot, is_waiting}
use Rattle.world_laws.proofs.Walk.{act_walk, fork_walk}

-- an object of a later graph is one of an earlier one
pub record IsStill (cs ds : List Class) (o x : Object) : Type 0 where
  pub number : x.number ≡ o.number
  pub shape : x.shape ≡ o.shape
  pub bytes : unrounded ds x.shape ≡ unrounded cs o.shape
  pub slot : has_slot x.place ≡ true → has_slot o.place ≡ true
  pub waiting : is_waiting x.place ≡ true → is_waiting o.place ≡ true

abbrev pub Stays : List Class → List Class → List Object → Object → Type 0
Stays cs ds os x = (o : Object) × IsIn o os × IsStill cs ds o x

-- its pages were made
abbrev pub PagesMade : Graph → Object → List PageName → Type 0
PagesMade h x made = (k : ℕ) → k < parts_for page_bytes (unrounded h.classes x.shape) → is_touched made (Large x.number k) ≡ true

abbrev pub LargeFrom : Graph → Graph → List PageName → Type 0
LargeFrom g h made = (x : Object) → IsIn x h.objects → has_slot x.place ≡ true → Stays g.classes h.classes g.objects x ⊎ PagesMade h x made

itself : (cs : List Class) (o : Object) → IsStill cs cs o o
itself cs o = record { number = refl; shape = refl; bytes = refl; slot = λ e. e; waiting = λ e. e }

-- the same objects
same_large : (g h : Graph) (made : List PageName) → h.classes ≡ g.classes → h.objects ≡ g.objects → LargeFrom g h made
same_large g h made classes objects x there slot =
    inl (x, subst (λ os. IsIn x os) objects there, subst (λ ds. IsStill g.classes ds x x) (sym classes) (itself g.classes x))

-- more classes
shape_of : (cs : List Class) (os : List Object) (x : Object) → AreObjects cs os → IsIn x os → IsShape cs x.shape
shape_of cs [] x h there = absurd there
shape_of cs (o ∷ os) x h (inl e) = subst (λ y. IsShape cs y.shape) e h.0
shape_of cs (o ∷ os) x h (inr there) = shape_of cs os x h.2 there

grown_large : (g : Graph) (ds : List Class) → IsFormed g → IsGrown g.classes ds → LargeFrom g (record g { classes = ds }) []
grown_large g ds formed grown x there slot =
    let bytes : unrounded ds x.shape ≡ unrounded g.classes x.shape =
    ap (λ es. unrounded es x.shape) grown.same ∙ bytes-grown g.classes grown.added x.shape (shape_of g.classes g.objects x formed.objects there) in
    inl (x, there, record { number = refl; shape = refl; bytes = bytes; slot = λ e. e; waiting = λ e. e })

-- a collection
cleared_from : (cs : List Class) (kept : List ℕ) (keep : Object → Bool) (os : List Object) (x : Object) → IsIn x (map (cleared kept) (filter keep os)) → Stays cs cs os x
cleared_from cs kept keep [] x there = absurd there
cleared_from cs kept keep (o ∷ os) x there = by (keep o) there (cleared_from cs kept keep os x)
  where
    later : Stays cs cs os x → Stays cs cs (o ∷ os) x
    later s = (s.0, inr s.1, s.2)

    here : cleared kept o ≡ x → Stays cs cs (o ∷ os) x
    here e = (o, inl refl, subst (IsStill cs cs o) e (record { number = refl; shape = refl; bytes = refl; slot = λ s. s; waiting = λ s. s }))

    by : (b : Bool) → IsIn x (map (cleared kept) (cond b (o ∷ filter keep os) (filter keep os))) → (IsIn x (map (cleared kept) (filter keep os)) → Stays cs cs os x) → Stays cs cs (o ∷ os) x
    by true (inl e) rest = here e
    by true (inr there) rest = later (rest there)
    by false there rest = later (rest there)

collect_stays : (g : Graph) (x : Object) → IsIn x (collect g).objects → Stays g.classes g.classes g.objects x
collect_stays g x there = cleared_from g.classes (map (λ o. o.number) (filter (is_kept g.sealed (reached g)) g.objects)) (is_kept g.sealed (reached g)) g.objects x there

-- a store
stored_from : (cs : List Class) (n : ℕ) (new : Stored) (os : List Object) (x : Object) → IsIn x (stored_in os n new) → Stays cs cs os x
stored_from cs n new [] x there = absurd there
stored_from cs n new (o ∷ os) x (inl e) = (o, inl refl, subst (IsStill cs cs o) e (by (nat_eq o.number n)))
  where
    by : (b : Bool) → IsStill cs cs o (stored_in_if b o new)
    by true = record { number = refl; shape = refl; bytes = refl; slot = λ s. s; waiting = λ s. s }
    by false = itself cs o
stored_from cs n new (o ∷ os) x (inr there) = let s = stored_from cs n new os x there in (s.0, inr s.1, s.2)

-- a promotion
promoted_stays : (cs : List Class) (at : ℕ) (os : List Object) (x : Object) → IsIn x (promoted_from cs at os) → Stays cs cs os x
promoted_stays cs at [] x there = absurd there
promoted_stays cs at (o ∷ os) x (inl e) = (o, inl refl, subst (IsStill cs cs o) e (record { number = refl; shape = refl; bytes = refl; slot = slot o.place; waiting = waiting o.place }))
  where
    slot : (q : Place) → has_slot (promoted_place at q) ≡ true → has_slot q ≡ true
    slot (place.Image spot) e = e
    slot (place.Zygote spot) e = e
    slot place.Young e = e
    slot place.Large e = refl
    slot place.Promoted e = e

    waiting : (q : Place) → is_waiting (promoted_place at q) ≡ true → is_waiting q ≡ true
    waiting (place.Image spot) e = e
    waiting (place.Zygote spot) e = e
    waiting place.Young e = e
    waiting place.Large e = refl
    waiting place.Promoted e = e
promoted_stays cs at (o ∷ os) x (inr there) = let s = promoted_stays cs (next_spot at (size_of_object cs o) o.place) os x there in (s.0, inr s.1, s.2)

both_stay : (cs : List Class) (os : List Object) (o x : Object) → Stays cs cs os o → IsStill cs cs o x → Stays cs cs os x
both_stay cs os o x s t = (
  s.0,
  s.1,
  record {
    number = t.number ∙ s.2.number;
    shape = t.shape ∙ s.2.shape;
    bytes = t.bytes ∙ s.2.bytes;
    slot = λ e. s.2.slot (t.slot e);
    waiting = λ e. s.2.waiting (t.waiting e);
  },
)

-- one more object
in_push : (os : List Object) (o x : Object) → IsIn x (os ++ o ∷ []) → IsIn x os ⊎ (o ≡ x)
in_push [] o x (inl e) = inr e
in_push [] o x (inr none) = absurd none
in_push (p ∷ os) o x (inl e) = inl (inl e)
in_push (p ∷ os) o x (inr there) = elim (in_push os o x there) [ inl h ↦ inl (inr h) | inr e ↦ inr e ]

pushed_large : (g left : Graph) (shape : Shape) (slots : List Stored) → left.classes ≡ g.classes → left.next ≡ g.next → ((x : Object) → IsIn x left.objects → Stays g.classes g.classes g.objects x) → (b : Bool)
    → LargeFrom g (with_object left shape slots (heap_place b)) (slot_pages_if b g shape)
pushed_large g left shape slots classes next stay b x there slot = elim (in_push left.objects made x there) [
  | inl before ↦ inl (subst (λ ds. Stays g.classes ds g.objects x) (sym classes) (stay x before))
  | inr e ↦ inr (subst (λ y. PagesMade (with_object left shape slots (heap_place b)) y (slot_pages_if b g shape)) e (pages b (subst (λ y. has_slot y.place ≡ true) (sym e) slot)))
]
  where
    made : Object
    made = record { number = left.next; shape = shape; slots = slots; place = heap_place b }

    pages : (b : Bool) → has_slot (heap_place b) ≡ true → (k : ℕ) → k < parts_for page_bytes (unrounded left.classes shape) → is_touched (slot_pages_if b g shape) (Large left.next k) ≡ true
    pages true e k less =
        let count : ℕ = parts_for page_bytes (unrounded g.classes shape) in
        let within : k < count = subst (λ cs. k < parts_for page_bytes (unrounded cs shape)) classes less in
        subst (λ n. is_touched (slot_pages_if true g shape) (Large n k) ≡ true) (sym next) (in-count (Large g.next) 0 count k (omega arith) (omega (arith, within)))
    pages false e k less = absurd (true≢false (sym e))

image_large : (g : Graph) (shape : Shape) (slots : List Stored) (spot : ℕ) (made : List PageName) → LargeFrom g (with_object g shape slots (place.Image spot)) made
image_large g shape slots spot made x there slot = elim (in_push g.objects (record { number = g.next; shape = shape; slots = slots; place = place.Image spot }) x there) [
  | inl before ↦ inl (x, before, itself g.classes x)
  | inr e ↦ absurd (true≢false (sym (ap (λ y. has_slot y.place) e ∙ slot)))
]

module _ (p : Part) (formed : IsFormed p.graph) where
  abbrev g : Graph
  g = p.graph

  abbrev Larges : Effect → Type 0
  Larges e = LargeFrom g e.part.graph e.made

  keeps_collected : LargeFrom g (collect g) []
  keeps_collected x there slot = inl (collect_stays g x there)

  pub act_large : (v : Verb) → HasFewFields v → LargeFrom g (act p v).part.graph (act p v).made
  act_large v few = act_walk p v Larges (record {
    telling = λ r told. same_large g g [] refl refl;
    refusing = λ why left. same_large g g [] refl refl;
    define = λ cs grown. grown_large g cs formed (grown few formed);
    roots = λ rs r told. same_large g (record g { roots = rs }) [] refl refl;
    heap = λ root shape slots sealed.
        subst (λ b. LargeFrom g (with_heap_object g shape slots) (pages_of_new b g shape)) (sym sealed)
        (pushed_large g g shape slots refl refl (λ x there. (x, there, itself g.classes x)) (is_large g.classes shape));
    again = λ root shape slots sealed.
        subst (λ b. LargeFrom g (with_heap_object (collect g) shape slots) (pages_of_new b g shape)) (sym sealed)
        (pushed_large g (collect g) shape slots refl refl (collect_stays g) (is_large g.classes shape));
    full = λ root shape free needed sealed. keeps_collected;
    image = λ root shape slots unsealed. image_large g shape slots (image_base + image_fill g) (pages_of_new g.sealed g shape);
    storing = λ o s new found has fits. stored o s new (is_immune g.sealed o.place);
    seal = λ is unsealed. same_large g (record g { sealed = true }) [] refl refl;
    gc = λ sealed. keeps_collected;
    exit = same_large g g [] refl refl;
    dump = λ sealed. same_large g (dump_counted g) [] refl refl;
  })
    where
      stored : (o : Object) (s : FieldAt) (new : Content) (b : Bool) → Larges (store_effect b p (with_slot g o.number (record { at = s; value = new })) o s)
      stored o s new true x there slot = inl (stored_from g.classes o.number (record { at = s; value = new }) g.objects x there)
      stored o s new false x there slot = inl (stored_from g.classes o.number (record { at = s; value = new }) g.objects x there)

  pub fork_large : LargeFrom g (fork_part p).part.graph (fork_part p).made
  fork_large = fork_walk p Larges
      (λ room x there slot.
      let s = promoted_stays g.classes (promotion_start (collect g)) (collect g).objects x there in
      inl (both_stay g.classes g.objects s.0 x (collect_stays g s.0 s.1) s.2))
      (λ full. keeps_collected)
