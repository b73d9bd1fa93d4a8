-- Classes and their superclasses.
use Rattle.std.proofs.Common.{◌≡◌, ℕ, zero, suc, ◌<◌, List, [], ◌∷◌, ◌++◌, Option, Some, None, length, map, refl, sym, ap, ◌∙◌, subst, append_assoc, arith, inl, inr, ◌⊎◌, ⊎_elim}
use Rattle.std.proofs.lemmas.List.{append-nil}
use Rattle.std.specs.List.{slice_get}
use Rattle.std.specs.Prelude.{unwrap_or}
use Rattle.std.specs.Option.{IfSome, IsSomeAnd}
use Rattle.class_layout.specs.declared.kind.FieldAt.{FieldAt}
use Rattle.class_layout.specs.declared.kind.FieldDecl.{FieldDecl}
use Rattle.class_layout.specs.Placing.{IsIn}
use Rattle.class_layout.specs.ClassList.{Class, IsClassList, IsEarlier, layout_of}
use Rattle.hprof_records.specs.declared.sub_record.SubRecord.TheVariants.{ClassDump}
use Rattle.hprof_records.specs.Parts.{bytes_of_part}
use Rattle.hprof_write.specs.Classes.{class_dump, class_id, field_entry, parent_id}
use Rattle.hprof_write.specs.Objects.{own_places, parent_of, places_up}

-- what a map has at an index is what the list has there
pub at-map : {X Y : Type 0} (f : X → Y) (xs : List X) (k : ℕ) (y : Y) → slice_get (map f xs) k ≡ Some y → IsSomeAnd (slice_get xs k) (λ x. f x ≡ y)
at-map f [] k y h = cc
at-map f (x ∷ xs) zero y h = cc
at-map f (x ∷ xs) (suc k) y h = at-map f xs k y h

pub some-and-is : {X : Type 0} (P Q : X → Type 0) (o : Option X) → ((x : X) → P x → Q x) → IsSomeAnd o P → IsSomeAnd o Q
some-and-is P Q None f h = h
some-and-is P Q (Some x) f h = f x h

-- a superclass's number is less than its class's
pub parent-earlier : (cs : List Class) (k p : ℕ) → IsClassList cs → slice_get (map (λ c. c.parent) cs) k ≡ Some (Some p) → p < k
parent-earlier cs k p formed h = earlier (slice_get cs k) (formed.parents k) (at-map (λ (c : Class). c.parent) cs k (Some p) h)
  where
    earlier : (x : Option Class) → IfSome x (λ c. IsEarlier k c.parent) → IsSomeAnd x (λ c. c.parent ≡ Some p) → p < k
    earlier None a b = absurd b
    earlier (Some c) a b = subst (IsEarlier k) b a

pub parent-small : (cs : List Class) (k p : ℕ) → IsClassList cs → k < length cs → slice_get (map (λ c. c.parent) cs) k ≡ Some (Some p) → p < 65536
parent-small cs k p formed within h =
    let e = parent-earlier cs k p formed h in
    let f = formed.few in
    omega arith

pub parent-known : (cs : List Class) (k id : ℕ) (q : Option ℕ) → slice_get (map (λ c. c.parent) cs) k ≡ Some q → id ≡ parent_id q → IsSomeAnd (slice_get cs k) (λ c. id ≡ parent_id c.parent)
parent-known cs k id q h e =
    some-and-is (λ (c : Class). c.parent ≡ q) (λ c. id ≡ parent_id c.parent) (slice_get cs k) (λ c same. e ∙ ap parent_id (sym same)) (at-map (λ (c : Class). c.parent) cs k q h)

-- the dump of a class, by what is told of it
pub class-put : (ss : List (List ℕ)) (cs : List Class) (k id parent size : ℕ) (fields : List FieldDecl) (o d : List ℕ) → id ≡ class_id k → size ≡ (layout_of cs k).end
    → IsSomeAnd (slice_get cs k) (λ c. parent ≡ parent_id c.parent) → slice_get (map (λ c. c.fields) cs) k ≡ Some fields
    → d ≡ o ++ bytes_of_part (ClassDump id 0 parent 0 0 0 0 0 size [] [] (map (field_entry ss) fields))
    → IsSomeAnd (slice_get cs k) (λ c. d ≡ o ++ bytes_of_part (class_dump ss cs k c))
class-put ss cs k id parent size fields o d hid hsize hparent hfields h =
    put (slice_get cs k) hparent (at-map (λ (c : Class). c.fields) cs k fields hfields)
  where
    put : (x : Option Class) → IsSomeAnd x (λ c. parent ≡ parent_id c.parent) → IsSomeAnd x (λ c. c.fields ≡ fields)
        → IsSomeAnd x (λ c. d ≡ o ++ bytes_of_part (class_dump ss cs k c))
    put None a b = absurd a
    put (Some c) a b =
        let f : map (field_entry ss) fields ≡ map (field_entry ss) c.fields = ap (map (field_entry ss)) (sym b) in
        let e : ClassDump id 0 parent 0 0 0 0 0 size [] [] (map (field_entry ss) fields) ≡ class_dump ss cs k c = cc in
        h ∙ ap (λ p. o ++ bytes_of_part p) e

pub none-up : (cs : List Class) (n : ℕ) → places_up cs n None ≡ []
none-up cs zero = refl
none-up cs (suc n) = refl

is-parent : (o : Option (Option ℕ)) (p : ℕ) → unwrap_or o None ≡ Some p → o ≡ Some (Some p)
is-parent None p h = cc
is-parent (Some q) p h = ap (λ x. Some x) h

enough-parent : (cs : List Class) (n m k : ℕ) → IsClassList cs → k < suc n → k < suc m → ((p : ℕ) → p < n → p < m → places_up cs n (Some p) ≡ places_up cs m (Some p))
    → (q : Option ℕ) → parent_of cs k ≡ q → places_up cs n q ≡ places_up cs m q
enough-parent cs n m k formed a b up None e = none-up cs n ∙ sym (none-up cs m)
enough-parent cs n m k formed a b up (Some p) e =
    let less = parent-earlier cs k p formed (is-parent (slice_get (map (λ (c : Class). c.parent) cs) k) p e) in
    up p (omega arith) (omega arith)

-- any number of classes is enough that is greater than the class's number
pub enough-up : (cs : List Class) (n m k : ℕ) → IsClassList cs → k < n → k < m → places_up cs n (Some k) ≡ places_up cs m (Some k)
enough-up cs zero m k formed a b = absurd (omega arith)
enough-up cs (suc n) zero k formed a b = absurd (omega arith)
enough-up cs (suc n) (suc m) k formed a b =
    ap (λ l. own_places cs k ++ l) (enough-parent cs n m k formed a b (λ p x y. enough-up cs n m p formed x y) (parent_of cs k) refl)

-- a class's own places were taken, and those of its superclass are left
pub up-more : (cs : List Class) (k p : ℕ) (before now whole : List FieldAt) → IsClassList cs → slice_get (map (λ c. c.parent) cs) k ≡ Some (Some p)
    → before ++ places_up cs (suc k) (Some k) ≡ whole → now ≡ before ++ own_places cs k → now ++ places_up cs (suc p) (Some p) ≡ whole
up-more cs k p before now whole formed h e f =
    let less = parent-earlier cs k p formed h in
    let q : parent_of cs k ≡ Some p = ap (λ (o : Option (Option ℕ)). unwrap_or o None) h in
    let w : p < suc p = omega arith in
    ap (λ l. l ++ places_up cs (suc p) (Some p)) f ∙ append_assoc before (own_places cs k) (places_up cs (suc p) (Some p))
    ∙ ap (λ l. before ++ (own_places cs k ++ l)) (enough-up cs (suc p) k p formed w less)
    ∙ ap (λ (x : Option ℕ). before ++ (own_places cs k ++ places_up cs k x)) (sym q) ∙ e

-- a class's own places were taken, and it has no superclass
pub up-end : (cs : List Class) (k : ℕ) (before now whole : List FieldAt) → slice_get (map (λ c. c.parent) cs) k ≡ Some None
    → before ++ places_up cs (suc k) (Some k) ≡ whole → now ≡ before ++ own_places cs k → now ≡ whole
up-end cs k before now whole h e f =
    let q : parent_of cs k ≡ None = ap (λ (o : Option (Option ℕ)). unwrap_or o None) h in
    f ∙ ap (λ l. before ++ l) (sym (append-nil (own_places cs k)))
    ∙ ap (λ l. before ++ (own_places cs k ++ l)) (sym (none-up cs k))
    ∙ ap (λ (x : Option ℕ). before ++ (own_places cs k ++ places_up cs k x)) (sym q) ∙ e

IsIn-append : {X : Type 0} (xs ys : List X) (x : X) → IsIn x (xs ++ ys) → IsIn x xs ⊎ IsIn x ys
IsIn-append [] ys x h = inr h
IsIn-append (y ∷ xs) ys x (inl e) = inl (inl e)
IsIn-append (y ∷ xs) ys x (inr h) = ⊎_elim (λ a. inl (inr a)) (λ b. inr b) (IsIn-append xs ys x h)

-- the places of a list and of one more all are an object's
pub within-more : (Q : FieldAt → Type 0) (xs ys zs : List FieldAt) → zs ≡ xs ++ ys → ((p : FieldAt) → IsIn p xs → Q p) → ((p : FieldAt) → IsIn p ys → Q p)
    → (p : FieldAt) → IsIn p zs → Q p
within-more Q xs ys zs e f g p h =
    ⊎_elim (λ a. f p a) (λ b. g p b) (IsIn-append xs ys p (subst (λ (l : List FieldAt). IsIn p l) e h))
