-- Items that go into segments one after another.
use Rattle.std.proofs.Common.{◌≡◌, ℕ, zero, suc, ◌+◌, ◌<◌, ◌≤◌, List, [], ◌∷◌, ◌++◌, Option, Some, None, length, take, drop, map, refl, sym, ap, ◌∙◌, subst, add-one, zero-add, arith}
use Rattle.std.proofs.lemmas.List.{append-nil, map-append, take-append-drop, take_all}
use Rattle.std.proofs.lemmas.Grind.{flat_map-append, fold-append}
use Rattle.std.specs.List.{fold, slice_get}
use Rattle.std.specs.Option.{IsSomeAnd}
use Rattle.ah_outside.specs.Outside.{Shelved}
use Rattle.class_layout.specs.ClassList.{Class}
use Rattle.heap_graph.specs.declared.names.Held.{Held}
use Rattle.heap_graph.specs.declared.names.Held.TheVariants as held
use Rattle.heap_graph.specs.declared.names.Root.{Root}
use Rattle.object_view.specs.Seen.{root_address}
use Rattle.hprof_records.specs.declared.sub_record.SubRecord.{SubRecord}
use Rattle.hprof_records.specs.declared.sub_record.SubRecord.TheVariants as part
use Rattle.hprof_records.specs.Records.{bytes_of_records}
use Rattle.hprof_write.specs.Classes.{array_class_dump, class_dump, class_dumps, class_dumps_from}
use Rattle.hprof_write.specs.Objects.{held_parts, root_parts}
use Rattle.hprof_write.specs.Outcomes.{AppendedPrefix}
use Rattle.hprof_write.specs.Segments.{Bare, Filling, Item, begun, closed, segment, with_item, with_room}
use Rattle.hprof_write.proofs.Fillings.{DoneMore, items-more, room-prefix}
use Rattle.hprof_write.proofs.InstancePlaces.{none-beyond}
use Rattle.hprof_write.proofs.TableLines.{take-more}

module _ {X : Type 0} (ss : List (List ℕ)) (item : X → Item) (xs : List X) (f : Filling) where
  -- the items of the first k are in
  abbrev pub filled_at : ℕ → Filling
  filled_at k = fold (with_item ss) f (map item (take k xs))

  pub filled-next : (k : ℕ) (x : X) → slice_get xs k ≡ Some x → filled_at (k + 1) ≡ with_item ss (filled_at k) (item x)
  filled-next k x e =
      ap filled_at (add-one k) ∙ ap (λ (l : List X). fold (with_item ss) f (map item l)) (take-more xs k x e)
      ∙ ap (fold (with_item ss) f) (map-append item (take k xs) (x ∷ [])) ∙ fold-append (with_item ss) f (map item (take k xs)) (item x ∷ [])

  pub filled-last : (k : ℕ) → DoneMore (filled_at k) (fold (with_item ss) f (map item xs))
  filled-last k =
      let e : fold (with_item ss) (filled_at k) (map item (drop k xs)) ≡ fold (with_item ss) f (map item xs) =
      sym (fold-append (with_item ss) f (map item (take k xs)) (map item (drop k xs)))
      ∙ ap (fold (with_item ss) f) (sym (map-append item (take k xs) (drop k xs)))
      ∙ ap (λ (l : List X). fold (with_item ss) f (map item l)) (take-append-drop k xs) in
      subst (λ (h : Filling). DoneMore (filled_at k) h) e (items-more ss (filled_at k) (map item (drop k xs)))

  -- no room was made for the next item
  pub next-stopped : (k : ℕ) (x : X) (start now : Shelved) (front : List ℕ) → slice_get xs k ≡ Some x → AppendedPrefix start (front ++ bytes_of_records (with_room (filled_at k)).done) now
      → AppendedPrefix start (front ++ bytes_of_records (fold (with_item ss) f (map item xs)).done) now
  next-stopped k x start now front e h =
      let m : DoneMore (with_item ss (filled_at k) (item x)) (fold (with_item ss) f (map item xs)) =
      subst (λ (h : Filling). DoneMore h (fold (with_item ss) f (map item xs))) (filled-next k x e) (filled-last (k + 1)) in
      room-prefix start now front ss (filled_at k) (fold (with_item ss) f (map item xs)) (item x) m h

  pub filled-all : (k : ℕ) → length xs ≤ k → filled_at k ≡ fold (with_item ss) f (map item xs)
  filled-all k within = ap (λ (l : List X). fold (with_item ss) f (map item l)) (take_all k xs within)

  -- what holds once the next item is in
  pub next-in : (k : ℕ) (Q : Filling → Type 0) → IsSomeAnd (slice_get xs k) (λ x. Q (with_item ss (filled_at k) (item x))) → Q (filled_at (k + 1))
  next-in k Q h = by (slice_get xs k) refl h
    where
      by : (o : Option X) → slice_get xs k ≡ o → IsSomeAnd o (λ x. Q (with_item ss (filled_at k) (item x))) → Q (filled_at (k + 1))
      by None e h = absurd h
      by (Some x) e h = subst Q (sym (filled-next k x e)) h

  pub next-out : (k : ℕ) (start now : Shelved) (front : List ℕ) → k < length xs → AppendedPrefix start (front ++ bytes_of_records (with_room (filled_at k)).done) now
      → AppendedPrefix start (front ++ bytes_of_records (fold (with_item ss) f (map item xs)).done) now
  next-out k start now front within h = by (slice_get xs k) refl
    where
      by : (o : Option X) → slice_get xs k ≡ o → AppendedPrefix start (front ++ bytes_of_records (fold (with_item ss) f (map item xs)).done) now
      by None e = absurd (none-beyond xs k within e)
      by (Some x) e = next-stopped k x start now front e h

-- the class dump of a number
pub dump-at : (ss : List (List ℕ)) (cs : List Class) (from : ℕ) (more : List Class) (k : ℕ) (c : Class) → slice_get more k ≡ Some c
    → slice_get (class_dumps_from ss cs from more) k ≡ Some (class_dump ss cs (from + k) c)
dump-at ss cs from [] k c h = cc
dump-at ss cs from (d ∷ more) zero c h =
    let e : d ≡ c = cc in
    let z : from ≡ from + 0 = omega arith in
    ap (λ (x : Class). Some (class_dump ss cs from x)) e ∙ ap (λ n. Some (class_dump ss cs n c)) z
dump-at ss cs from (d ∷ more) (suc k) c h =
    let z : from + 1 + k ≡ from + suc k = omega arith in
    dump-at ss cs (from + 1) more k c h ∙ ap (λ n. Some (class_dump ss cs n c)) z

pub length-dumps : (ss : List (List ℕ)) (cs : List Class) (from : ℕ) (more : List Class) → length (class_dumps_from ss cs from more) ≡ length more
length-dumps ss cs from [] = refl
length-dumps ss cs from (d ∷ more) = ap suc (length-dumps ss cs (from + 1) more)

-- what holds once the next class is in
pub class-in : (ss : List (List ℕ)) (cs : List Class) (f : Filling) (k : ℕ) (Q : Filling → Type 0)
    → IsSomeAnd (slice_get cs k) (λ c. Q (with_item ss (filled_at ss Bare (class_dumps_from ss cs 0 cs) f k) (Bare (class_dump ss cs k c))))
    → Q (filled_at ss Bare (class_dumps_from ss cs 0 cs) f (k + 1))
class-in ss cs f k Q h = by (slice_get cs k) refl h
  where
    by : (o : Option Class) → slice_get cs k ≡ o → IsSomeAnd o (λ c. Q (with_item ss (filled_at ss Bare (class_dumps_from ss cs 0 cs) f k) (Bare (class_dump ss cs k c))))
        → Q (filled_at ss Bare (class_dumps_from ss cs 0 cs) f (k + 1))
    by None e h = absurd h
    by (Some c) e h =
        let there : slice_get (class_dumps_from ss cs 0 cs) k ≡ Some (class_dump ss cs k c) = dump-at ss cs 0 cs k c e ∙ ap (λ n. Some (class_dump ss cs n c)) (zero-add k) in
        subst Q (sym (filled-next ss Bare (class_dumps_from ss cs 0 cs) f k (class_dump ss cs k c) there)) h

-- the part of a root that holds an object
pub root-item : (ss : List (List ℕ)) (table : ℕ → ℕ) (f : Filling) (h : Held) (at : ℕ) → (at ≡ 0 → ⊥) → at ≡ root_address table h
    → with_item ss f (Bare (part.Root 0xff at None None)) ≡ fold (with_item ss) f (map Bare (held_parts table h))
root-item ss table f held.Null at some is = absurd (some is)
root-item ss table f (held.Object n) at some is = ap (λ (a : ℕ). with_item ss f (Bare (part.Root 0xff a None None))) is

-- the current segment is done too
pub closed-more : (f : Filling) → DoneMore f (begun (closed f))
closed-more f = record { more = segment f.parts ∷ []; is = refl }

-- items in three runs
pub three-runs : (ss : List (List ℕ)) (f : Filling) (is js ks : List Item)
    → fold (with_item ss) (fold (with_item ss) (fold (with_item ss) f is) js) ks ≡ fold (with_item ss) f (is ++ js ++ ks)
three-runs ss f is js ks =
    sym (fold-append (with_item ss) f (is ++ js) ks ∙ ap (λ (x : Filling). fold (with_item ss) x ks) (fold-append (with_item ss) f is js))

-- the parts of the first roots, and of one more
pub roots-next : (ss : List (List ℕ)) (table : ℕ → ℕ) (roots : List Root) (f : Filling) (k : ℕ) (r : Root) → slice_get roots k ≡ Some r
    → fold (with_item ss) f (map Bare (root_parts table (take (k + 1) roots))) ≡ fold (with_item ss) (fold (with_item ss) f (map Bare (root_parts table (take k roots)))) (map Bare (held_parts table r.holds))
roots-next ss table roots f k r e =
    let parts : root_parts table (take (k + 1) roots) ≡ root_parts table (take k roots) ++ held_parts table r.holds =
    ap (λ n. root_parts table (take n roots)) (add-one k) ∙ ap (root_parts table) (take-more roots k r e)
    ∙ flat_map-append (λ (q : Root). held_parts table q.holds) (take k roots) (r ∷ []) ∙ ap (λ l. root_parts table (take k roots) ++ l) (append-nil (held_parts table r.holds)) in
    ap (λ (l : List SubRecord). fold (with_item ss) f (map Bare l)) parts
    ∙ ap (fold (with_item ss) f) (map-append Bare (root_parts table (take k roots)) (held_parts table r.holds))
    ∙ fold-append (with_item ss) f (map Bare (root_parts table (take k roots))) (map Bare (held_parts table r.holds))

pub roots-last : (ss : List (List ℕ)) (table : ℕ → ℕ) (roots : List Root) (f : Filling) (k : ℕ)
    → DoneMore (fold (with_item ss) f (map Bare (root_parts table (take k roots)))) (fold (with_item ss) f (map Bare (root_parts table roots)))
roots-last ss table roots f k =
    let before : Filling = fold (with_item ss) f (map Bare (root_parts table (take k roots))) in
    let parts : root_parts table (take k roots) ++ root_parts table (drop k roots) ≡ root_parts table roots =
    sym (flat_map-append (λ (q : Root). held_parts table q.holds) (take k roots) (drop k roots)) ∙ ap (root_parts table) (take-append-drop k roots) in
    let e : fold (with_item ss) before (map Bare (root_parts table (drop k roots))) ≡ fold (with_item ss) f (map Bare (root_parts table roots)) =
    sym (fold-append (with_item ss) f (map Bare (root_parts table (take k roots))) (map Bare (root_parts table (drop k roots))))
    ∙ ap (fold (with_item ss) f) (sym (map-append Bare (root_parts table (take k roots)) (root_parts table (drop k roots))))
    ∙ ap (λ (l : List SubRecord). fold (with_item ss) f (map Bare l)) parts in
    subst (λ (h : Filling). DoneMore before h) e (items-more ss before (map Bare (root_parts table (drop k roots))))

-- what holds once the next root is in
pub root-in : (ss : List (List ℕ)) (table : ℕ → ℕ) (roots : List Root) (f : Filling) (k at : ℕ) (Q : Filling → Type 0)
    → IsSomeAnd (slice_get roots k) (λ r. at ≡ 0 → r.holds ≡ held.Null) → IsSomeAnd (slice_get roots k) (λ r. at ≡ root_address table r.holds)
    → ((h : Held) → (at ≡ 0 → h ≡ held.Null) → at ≡ root_address table h
    → Q (fold (with_item ss) (fold (with_item ss) f (map Bare (root_parts table (take k roots)))) (map Bare (held_parts table h))))
    → Q (fold (with_item ss) f (map Bare (root_parts table (take (k + 1) roots))))
root-in ss table roots f k at Q null value put = by (slice_get roots k) refl null value
  where
    by : (o : Option Root) → slice_get roots k ≡ o → IsSomeAnd o (λ r. at ≡ 0 → r.holds ≡ held.Null) → IsSomeAnd o (λ r. at ≡ root_address table r.holds)
        → Q (fold (with_item ss) f (map Bare (root_parts table (take (k + 1) roots))))
    by None e a b = absurd b
    by (Some r) e a b = subst Q (sym (roots-next ss table roots f k r e)) (put r.holds a b)

-- the class of arrays of references comes behind the other classes
pub classes-all : (ss : List (List ℕ)) (cs : List Class) (f : Filling)
    → with_item ss (fold (with_item ss) f (map Bare (class_dumps_from ss cs 0 cs))) (Bare array_class_dump) ≡ fold (with_item ss) f (map Bare (class_dumps ss cs))
classes-all ss cs f =
    sym (ap (fold (with_item ss) f) (map-append Bare (class_dumps_from ss cs 0 cs) (array_class_dump ∷ []))
    ∙ fold-append (with_item ss) f (map Bare (class_dumps_from ss cs 0 cs)) (Bare array_class_dump ∷ []))

pub classes-done : (ss : List (List ℕ)) (cs : List Class) (f : Filling)
    → DoneMore (fold (with_item ss) f (map Bare (class_dumps_from ss cs 0 cs))) (fold (with_item ss) f (map Bare (class_dumps ss cs)))
classes-done ss cs f =
    let own : Filling = fold (with_item ss) f (map Bare (class_dumps_from ss cs 0 cs)) in
    subst (λ (h : Filling). DoneMore own h) (classes-all ss cs f) (items-more ss own (Bare array_class_dump ∷ []))
