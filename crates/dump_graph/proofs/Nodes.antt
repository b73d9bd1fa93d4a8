-- The nodes and roots of a dump, part by part, and the graph that is made of the tables.
use Rattle.std.proofs.Common.{◌≡◌, ℕ, suc, ◌+◌, ◌<◌, ◌≤◌, ◌&&◌, Bool, true, false, cond, not, nat_eq, List, [], ◌∷◌, ◌++◌, map, length, get_or, take, Option, None, Some, refl, ap, sym, ◌∙◌, arith, subst, length-append}
use Rattle.std.specs.Prelude.{◌↔◌, position, filter, All, IsNone}
use Rattle.std.specs.List.{cons_option, list_any, zip}
use Rattle.std.proofs.lemmas.List.{take_all, take_more, append-nil, get_or-map, length-map, map-append}
use Rattle.std.proofs.lemmas.Slice.Zip.{get_or-zip, length-zip}
use Rattle.std.proofs.lemmas.List.Elements.{All-cons, filter-append, filter_map-append}
use Rattle.hprof_records.specs.declared.sub_record.SubRecord.{SubRecord}
use Rattle.hprof_records.specs.declared.sub_record.SubRecord.TheVariants.{Root, HeapInfo, ClassDump, Instance, ObjectArray, PrimitiveArray, NoData}
use Rattle.dump_graph.specs.Classes.{Class, class_of, classes}
use Rattle.dump_graph.specs.Firsts.{firsts, with_first}
use Rattle.dump_graph.specs.Graph.{LeadsWithin, Node, graph, id_of, node_ids, node_of, nodes, roots_it, stands_for_node}
use Rattle.dump_graph.specs.References.{instance_references, references}
use Rattle.dump_graph.specs.Tables.{Known, known_of, known_references, made_node, numbers_of, root_id}
use Rattle.dump_graph.proofs.Firsts.{added-known, added-new, find-firsts, firsts-push}
use Rattle.dump_graph.proofs.Layouts.{codes-same}
use Rattle.dump_graph.proofs.Positions.{position-at}

-- one part more
pub take-next : (ps : List SubRecord) (i : ℕ) (p : SubRecord) → i < length ps → p ≡ get_or ps i p → take (i + 1) ps ≡ take i ps ++ p ∷ []
take-next ps i p within is = take_more ps i p within ∙ ap (λ q. take i ps ++ q ∷ []) (sym is)

-- is a class dump, or isn't
pub classes-more : (ps : List SubRecord) (i : ℕ) (p : SubRecord) (c : Class) → i < length ps → p ≡ get_or ps i p → class_of p ≡ Some c → classes (take (i + 1) ps) ≡ classes (take i ps) ++ c ∷ []
classes-more ps i p c within is one =
    ap classes (take-next ps i p within is) ∙ (filter_map-append class_of (take i ps) (p ∷ []) ∙ ap (λ o. classes (take i ps) ++ cons_option o []) one)

pub classes-as_before : (ps : List SubRecord) (i : ℕ) (p : SubRecord) → i < length ps → p ≡ get_or ps i p → class_of p ≡ None → classes (take (i + 1) ps) ≡ classes (take i ps)
classes-as_before ps i p within is none =
    ap classes (take-next ps i p within is) ∙ (filter_map-append class_of (take i ps) (p ∷ []) ∙ (ap (λ o. classes (take i ps) ++ cons_option o []) none ∙ append-nil (classes (take i ps))))

-- the first class dumps, and how many class dumps there are
pub firsts-more : (ps : List SubRecord) (i : ℕ) (p : SubRecord) (c : Class) (known known' : List Class) → i < length ps → p ≡ get_or ps i p → class_of p ≡ Some c → known ≡ firsts (λ c. c.id) (classes (take i ps))
    → known' ≡ with_first (λ c. c.id) known c → known' ≡ firsts (λ c. c.id) (classes (take (i + 1) ps))
firsts-more ps i p c known known' within is one had more =
    more ∙ (ap (λ l. with_first (λ (c : Class). c.id) l c) had ∙ (sym (firsts-push (λ (c : Class). c.id) c (classes (take i ps))) ∙ ap (firsts (λ (c : Class). c.id)) (sym (classes-more ps i p c within is one))))

pub dumps-more : (ps : List SubRecord) (i : ℕ) (p : SubRecord) (c : Class) → i < length ps → p ≡ get_or ps i p → class_of p ≡ Some c → length (classes (take (i + 1) ps)) ≡ length (classes (take i ps)) + 1
dumps-more ps i p c within is one =
    let more : length (classes (take (i + 1) ps)) ≡ length (classes (take i ps) ++ c ∷ []) = ap length (classes-more ps i p c within is one) in
    omega (arith, more, length-append (classes (take i ps)) (c ∷ []))

-- a list of references, by what they show
pub shown : {X Y : Type 0} (f : X → Y) (xs : List X) (i : ℕ) (x : X) → i < length xs → x ≡ get_or xs i x → f x ≡ get_or (map f xs) i (f x)
shown f xs i x within is = ap f is ∙ sym (get_or-map f xs i x (f x) within)

pub shown-within : {X Y : Type 0} (f : X → Y) (xs : List X) (i : ℕ) → i < length xs → i < length (map f xs)
shown-within f xs i within = omega (arith, within, length-map xs f)

-- stands for a node, or doesn't
pub nodes-more : (ps : List SubRecord) (i : ℕ) (p : SubRecord) → i < length ps → p ≡ get_or ps i p → stands_for_node p ≡ true → nodes (take (i + 1) ps) ≡ with_first id_of (nodes (take i ps)) p
nodes-more ps i p within is stands =
    ap nodes (take-next ps i p within is)
    ∙ (ap (firsts id_of) (filter-append stands_for_node (take i ps) (p ∷ []) ∙ ap (λ b. filter stands_for_node (take i ps) ++ cond b (p ∷ []) []) stands)
    ∙ firsts-push id_of p (filter stands_for_node (take i ps)))

pub nodes-as_before : (ps : List SubRecord) (i : ℕ) (p : SubRecord) → i < length ps → p ≡ get_or ps i p → stands_for_node p ≡ false → nodes (take (i + 1) ps) ≡ nodes (take i ps)
nodes-as_before ps i p within is stands =
    ap nodes (take-next ps i p within is)
    ∙ ap (firsts id_of) (filter-append stands_for_node (take i ps) (p ∷ []) ∙ (ap (λ b. filter stands_for_node (take i ps) ++ cond b (p ∷ []) []) stands ∙ append-nil (filter stands_for_node (take i ps))))

-- its identifier is new, or was known
module _ (ps : List SubRecord) (i : ℕ) (p : SubRecord) (within : i < length ps) (is : p ≡ get_or ps i p) (stands : stands_for_node p ≡ true)
    (fs : List SubRecord) (ids : List ℕ) (id : ℕ) (is_new : Bool) (firsts_are : fs ≡ nodes (take i ps)) (ids_are : ids ≡ node_ids (take i ps)) (id_is : id ≡ id_of p)
    (told : (is_new ≡ true) ↔ IsNone (position (nat_eq id) ids)) where
  ids-same : ids ≡ map id_of fs
  ids-same = ids_are ∙ ap (map id_of) (sym firsts_are)

  next-nodes : nodes (take (i + 1) ps) ≡ with_first id_of fs p
  next-nodes = nodes-more ps i p within is stands ∙ ap (λ l. with_first id_of l p) (sym firsts_are)

  new-nodes : is_new ≡ true → nodes (take (i + 1) ps) ≡ fs ++ p ∷ []
  new-nodes new = next-nodes ∙ added-new id_of fs p ids id is_new ids-same id_is told new

  old-nodes : is_new ≡ false → nodes (take (i + 1) ps) ≡ fs
  old-nodes old = next-nodes ∙ added-known id_of fs p ids id is_new ids-same id_is told old

  pub firsts-new : (fs' : List SubRecord) → is_new ≡ true → fs' ≡ fs ++ p ∷ [] → fs' ≡ nodes (take (i + 1) ps)
  firsts-new fs' new more = more ∙ sym (new-nodes new)

  pub ids-new : (ids' : List ℕ) → is_new ≡ true → ids' ≡ ids ++ id ∷ [] → ids' ≡ node_ids (take (i + 1) ps)
  ids-new ids' new more =
      more ∙ (ap (λ l. l ++ id ∷ []) ids-same ∙ (ap (λ k. map id_of fs ++ k ∷ []) id_is ∙ (sym (map-append id_of fs (p ∷ [])) ∙ ap (map id_of) (sym (new-nodes new)))))

  pub firsts-old : is_new ≡ false → fs ≡ nodes (take (i + 1) ps)
  firsts-old old = sym (old-nodes old)

  pub ids-old : is_new ≡ false → ids ≡ node_ids (take (i + 1) ps)
  ids-old old = ids-same ∙ ap (map id_of) (sym (old-nodes old))

-- tells a root, or none
pub roots-none : (id : ℕ) (p : SubRecord) → root_id p ≡ None → roots_it id p ≡ false
roots-none id (Root tag root first second) none = by (nat_eq tag 0x90) none
  where
    by : (b : Bool) → cond b None (Some root) ≡ None → (nat_eq root id && not b) ≡ false
    by true e = and-false (nat_eq root id)
      where
        and-false : (a : Bool) → (a && false) ≡ false
        and-false true = refl
        and-false false = refl
    by false e = absurd cc
roots-none id (HeapInfo heap name) none = refl
roots-none id (ClassDump i stack parent loader signers domain spare_a spare_b size constants statics fields) none = refl
roots-none id (Instance i stack class bytes) none = refl
roots-none id (ObjectArray i stack class items) none = refl
roots-none id (PrimitiveArray i stack code count bytes) none = refl
roots-none id (NoData i stack count code) none = refl

pub roots-some : (id r : ℕ) (p : SubRecord) → root_id p ≡ Some r → roots_it id p ≡ nat_eq r id
roots-some id r (Root tag root first second) some = by (nat_eq tag 0x90) some
  where
    and-true : (a : Bool) → (a && true) ≡ a
    and-true true = refl
    and-true false = refl

    by : (b : Bool) → cond b None (Some root) ≡ Some r → (nat_eq root id && not b) ≡ nat_eq r id
    by true e = absurd cc
    by false e = let same : root ≡ r = cc in and-true (nat_eq root id) ∙ ap (λ z. nat_eq z id) same
roots-some id r (HeapInfo heap name) some = absurd cc
roots-some id r (ClassDump i stack parent loader signers domain spare_a spare_b size constants statics fields) some = absurd cc
roots-some id r (Instance i stack class bytes) some = absurd cc
roots-some id r (ObjectArray i stack class items) some = absurd cc
roots-some id r (PrimitiveArray i stack code count bytes) some = absurd cc
roots-some id r (NoData i stack count code) some = absurd cc

-- to what a part refers, by the table of classes
known-same : (all : List Class) (p : SubRecord) → known_references (known_of all) p ≡ references all p
known-same all (Root tag id first second) = refl
known-same all (HeapInfo heap name) = refl
known-same all (ClassDump i stack parent loader signers domain spare_a spare_b size constants statics fields) = refl
known-same all (Instance i stack class bytes) =
    ap (λ o. instance_references o bytes) (codes-same (firsts (λ c. c.id) all) all (λ id. find-firsts (λ (c : Class). c.id) id all) (length all) class)
known-same all (ObjectArray i stack class items) = refl
known-same all (PrimitiveArray i stack code count bytes) = refl
known-same all (NoData i stack count code) = refl

made-same : (ps : List SubRecord) (b : Bool) (p : SubRecord) → b ≡ list_any (roots_it (id_of p)) ps → made_node (known_of (classes ps)) (node_ids ps) b p ≡ node_of ps p
made-same ps b p is =
    ap (λ (r : Bool). let n : Node = record { id = id_of p; is_root = r; targets = numbers_of (node_ids ps) (known_references (known_of (classes ps)) p) } in n) is
    ∙ ap (λ (l : List ℕ). let n : Node = record { id = id_of p; is_root = list_any (roots_it (id_of p)) ps; targets = numbers_of (node_ids ps) l } in n) (known-same (classes ps) p)

-- a node is made by its identifier and its references
pub node-made : (known : Known) (ids : List ℕ) (is_root : Bool) (p : SubRecord) (id : ℕ) (refers : List ℕ) → id ≡ id_of p → refers ≡ known_references known p
    → (let n : Node = record { id = id; is_root = is_root; targets = numbers_of ids refers } in n) ≡ made_node known ids is_root p
node-made known ids is_root p id refers same all =
    ap (λ (i : ℕ). let n : Node = record { id = i; is_root = is_root; targets = numbers_of ids refers } in n) same
    ∙ ap (λ (l : List ℕ). let n : Node = record { id = id_of p; is_root = is_root; targets = numbers_of ids l } in n) all

-- two lists, place by place
map-zip : (made : Bool → SubRecord → Node) (node : SubRecord → Node) (xs : List Bool) (ys : List SubRecord) → length xs ≡ length ys
    → ((k : ℕ) (d : SubRecord) → k < length ys → made (get_or xs k false) (get_or ys k d) ≡ node (get_or ys k d)) → map (λ x. made x.0 x.1) (zip xs ys) ≡ map node ys
map-zip made node [] [] same each = refl
map-zip made node [] (y ∷ ys) same each = absurd (omega (arith, same))
map-zip made node (x ∷ xs) [] same each = absurd (omega (arith, same))
map-zip made node (x ∷ xs) (y ∷ ys) same each =
    ap (λ n. n ∷ map (λ x. made x.0 x.1) (zip xs ys)) (each 0 y (omega arith))
    ∙ ap (λ ns. node y ∷ ns) (map-zip made node xs ys (omega (arith, same)) (λ k d within. each (suc k) d (omega (arith, within))))

-- one pair more, and all
pub zip-more : {A B C : Type 0} (f : A × B → C) (xs : List A) (ys : List B) (i : ℕ) (a : A) (b : B) → length xs ≡ length ys → i < length ys → b ≡ get_or ys i b
    → map f (take (i + 1) (zip xs ys)) ≡ map f (take i (zip xs ys)) ++ f (get_or xs i a, b) ∷ []
zip-more f xs ys i a b same within is =
    let both : i < length (zip xs ys) = omega (arith, length-zip xs ys, same, within) in
    let first : i < length xs = omega (arith, same, within) in
    ap (map f) (take_more (zip xs ys) i (a, b) both)
    ∙ (map-append f (take i (zip xs ys)) (get_or (zip xs ys) i (a, b) ∷ [])
    ∙ ap (λ p. map f (take i (zip xs ys)) ++ f p ∷ []) (get_or-zip xs ys i (a, b) first within ∙ ap (λ y. (get_or xs i a, y)) (sym is)))

pub zip-all : {A B : Type 0} (xs : List A) (ys : List B) (i : ℕ) → length ys ≤ i → take i (zip xs ys) ≡ zip xs ys
zip-all xs ys i all = take_all i (zip xs ys) (omega (arith, length-zip xs ys, all))

-- the graph is made of the tables
pub graph-made : (ps : List SubRecord) (roots : List Bool) → length roots ≡ length (nodes ps)
    → ((k : ℕ) → k < length (nodes ps) → get_or roots k false ≡ list_any (roots_it (get_or (node_ids ps) k 0)) ps)
    → map (λ x. made_node (known_of (classes ps)) (node_ids ps) x.0 x.1) (zip roots (nodes ps)) ≡ graph ps
graph-made ps roots same marked =
    map-zip (made_node (known_of (classes ps)) (node_ids ps)) (node_of ps) roots (nodes ps) same
    (λ k d within. made-same ps (get_or roots k false) (get_or (nodes ps) k d)
    (marked k within ∙ ap (λ id. list_any (roots_it id) ps) (get_or-map id_of (nodes ps) k d 0 within)))

pub graph-of : (ps : List SubRecord) (known : Known) (ids : List ℕ) (roots : List Bool) (parts : List SubRecord) (made : List Node)
    → known ≡ known_of (classes ps) → ids ≡ node_ids ps → parts ≡ nodes ps → length roots ≡ length parts
    → ((k : ℕ) → k < length parts → get_or roots k false ≡ list_any (roots_it (get_or ids k 0)) ps)
    → made ≡ map (λ x. made_node known ids x.0 x.1) (zip roots parts) → made ≡ graph ps
graph-of ps known ids roots parts made known_is ids_is parts_are same marked is =
    let all : Known = known_of (classes ps) in
    is
    ∙ (ap (λ k. map (λ (x : Bool × SubRecord). made_node k ids x.0 x.1) (zip roots parts)) known_is
    ∙ (ap (λ i. map (λ (x : Bool × SubRecord). made_node all i x.0 x.1) (zip roots parts)) ids_is
    ∙ (ap (λ l. map (λ (x : Bool × SubRecord). made_node all (node_ids ps) x.0 x.1) (zip roots l)) parts_are
    ∙ graph-made ps roots (same ∙ ap length parts_are)
    (λ k within. marked k (subst (λ (l : List SubRecord). k < length l) (sym parts_are) within) ∙ ap (λ i. list_any (roots_it (get_or i k 0)) ps) ids_is))))

-- each target is a node
targets-within : (ids refers : List ℕ) → All (λ t. t < length ids) (numbers_of ids refers)
targets-within ids [] = λ k d within. absurd (omega (arith, within))
targets-within ids (id ∷ refers) = by (position (nat_eq id) ids) (λ n is. (position-at (nat_eq id) ids n 0 is).0) (targets-within ids refers)
  where
    by : (o : Option ℕ) → ((n : ℕ) → o ≡ Some n → n < length ids) → All (λ t. t < length ids) (numbers_of ids refers) → All (λ t. t < length ids) (cons_option o (numbers_of ids refers))
    by None below rest = rest
    by (Some n) below rest = All-cons (λ t. t < length ids) n (numbers_of ids refers) (below n refl) rest

All-map : {X Y : Type 0} (f : X → Y) (P : Y → Type 0) (xs : List X) → ((x : X) → P (f x)) → All P (map f xs)
All-map f P [] each = λ k d within. absurd (omega (arith, within))
All-map f P (x ∷ xs) each = All-cons P (f x) (map f xs) (each x) (All-map f P xs each)

pub graph-within : (ps : List SubRecord) → LeadsWithin (graph ps)
graph-within ps =
    let same : length (node_ids ps) ≡ length (graph ps) = length-map (nodes ps) id_of ∙ sym (length-map (nodes ps) (node_of ps)) in
    All-map (node_of ps) (λ x. All (λ t. t < length (graph ps)) x.targets) (nodes ps)
    (λ p. subst (λ n. All (λ t. t < n) (node_of ps p).targets) same (targets-within (node_ids ps) (references (classes ps) p)))
