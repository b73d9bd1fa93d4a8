-- Records that are put one after another.
use Rattle.std.proofs.Common.{◌≡◌, ℕ, zero, suc, ◌+◌, List, [], ◌∷◌, ◌++◌, Option, Some, None, length, take, map, refl, zero-add, sym, ap, ◌∙◌, subst, append_assoc, add-one, arith}
use Rattle.std.proofs.lemmas.List.{append-nil}
use Rattle.std.proofs.lemmas.Grind.{flat_map-append}
use Rattle.std.specs.List.{slice_get}
use Rattle.std.specs.Option.{IsSomeAnd}
use Rattle.ah_outside.specs.Outside.{Shelved}
use Rattle.class_layout.specs.ClassList.{Class}
use Rattle.hprof_records.specs.declared.top_record.TopRecord.{TopRecord}
use Rattle.hprof_records.specs.declared.top_record.TopRecord.TheVariants.{Text}
use Rattle.hprof_records.specs.Records.{bytes_of_record, bytes_of_records}
use Rattle.hprof_write.specs.Classes.{array_class_id, class_id, load_record, load_records, loads_from}
use Rattle.hprof_write.specs.Outcomes.{AppendedBut, AppendedPrefix}
use Rattle.hprof_write.specs.Strings.{array_name, text_records}
use Rattle.hprof_write.proofs.Appends.{AppendedBut-more, AppendedBut-stopped, AppendedPrefix-more}
use Rattle.hprof_write.proofs.Chains.{at-map}
use Rattle.hprof_write.proofs.Fillings.{records-more}

-- nothing more
pub records-none : (start now : Shelved) (bytes waiting : List ℕ) → AppendedBut start bytes waiting now → AppendedBut start (bytes ++ bytes_of_records []) waiting now
records-none start now bytes waiting h = subst (λ l. AppendedBut start l waiting now) (sym (append-nil bytes)) h

-- one more record waits
pub record-waits : (start now : Shelved) (bytes waiting more : List ℕ) (rs all : List TopRecord) (r : TopRecord) → all ≡ rs ++ r ∷ [] → more ≡ waiting ++ bytes_of_record r
    → AppendedBut start (bytes ++ bytes_of_records rs) waiting now → AppendedBut start (bytes ++ bytes_of_records all) more now
record-waits start now bytes waiting more rs all r e f h =
    rw e (rw f (rw (records-more bytes rs r) (AppendedBut-more start now (bytes ++ bytes_of_records rs) waiting (bytes_of_record r) h)))

-- the records so far are the first ones
pub records-prefix : (start now : Shelved) (bytes : List ℕ) (rs more all : List TopRecord) → all ≡ rs ++ more
    → AppendedPrefix start (bytes ++ bytes_of_records rs) now → AppendedPrefix start (bytes ++ bytes_of_records all) now
records-prefix start now bytes rs more all e h =
    let t : (bytes ++ bytes_of_records rs) ++ bytes_of_records more ≡ bytes ++ bytes_of_records all =
    append_assoc bytes (bytes_of_records rs) (bytes_of_records more)
    ∙ ap (λ l. bytes ++ l) (sym (flat_map-append bytes_of_record rs more) ∙ ap bytes_of_records (sym e)) in
    subst (λ l. AppendedPrefix start l now) t (AppendedPrefix-more start now (bytes ++ bytes_of_records rs) (bytes_of_records more) h)

-- nothing more was put
pub records-stopped : (start now : Shelved) (bytes waiting : List ℕ) (rs more all : List TopRecord) → all ≡ rs ++ more
    → AppendedBut start (bytes ++ bytes_of_records rs) waiting now → AppendedPrefix start (bytes ++ bytes_of_records all) now
records-stopped start now bytes waiting rs more all e h =
    records-prefix start now bytes rs more all e (AppendedBut-stopped start now (bytes ++ bytes_of_records rs) waiting h)

-- one more string
pub texts-more : (id : ℕ) (ss : List (List ℕ)) (k : ℕ) (s : List ℕ) → slice_get ss k ≡ Some s → text_records id (take (suc k) ss) ≡ text_records id (take k ss) ++ Text 0 (id + k) s ∷ []
texts-more id [] k s h = cc
texts-more id (t ∷ ss) zero s h =
    let e : t ≡ s = cc in
    let z : id ≡ id + 0 = omega arith in
    ap (λ (x : List ℕ). Text 0 id x ∷ []) e ∙ ap (λ n. Text 0 n s ∷ []) z
texts-more id (t ∷ ss) (suc k) s h =
    let z : id + 1 + k ≡ id + suc k = omega arith in
    ap (λ l. Text 0 id t ∷ l) (texts-more (id + 1) ss k s h ∙ ap (λ n. text_records (id + 1) (take k ss) ++ Text 0 n s ∷ []) z)

pub texts-split : (id : ℕ) (ss : List (List ℕ)) (k : ℕ) → (more : List TopRecord) × (text_records id ss ≡ text_records id (take k ss) ++ more)
texts-split id ss zero = (text_records id ss, refl)
texts-split id [] (suc k) = ([], refl)
texts-split id (s ∷ ss) (suc k) = let (more, e) = texts-split (id + 1) ss k in (more, ap (λ l. Text 0 id s ∷ l) e)

-- one more class
pub loads-more : (ss : List (List ℕ)) (from : ℕ) (cs : List Class) (k : ℕ) (c : Class) → slice_get cs k ≡ Some c
    → loads_from ss from (take (suc k) cs) ≡ loads_from ss from (take k cs) ++ load_record ss (from + k + 1) (class_id (from + k)) c.name ∷ []
loads-more ss from [] k c h = cc
loads-more ss from (d ∷ cs) zero c h =
    let e : d ≡ c = cc in
    let z : from ≡ from + 0 = omega arith in
    ap (λ (x : Class). load_record ss (from + 1) (class_id from) x.name ∷ []) e ∙ ap (λ n. load_record ss (n + 1) (class_id n) c.name ∷ []) z
loads-more ss from (d ∷ cs) (suc k) c h =
    let z : from + 1 + k ≡ from + suc k = omega arith in
    ap (λ l. load_record ss (from + 1) (class_id from) d.name ∷ l)
    (loads-more ss (from + 1) cs k c h ∙ ap (λ n. loads_from ss (from + 1) (take k cs) ++ load_record ss (n + 1) (class_id n) c.name ∷ []) z)

pub loads-split : (ss : List (List ℕ)) (from : ℕ) (cs : List Class) (k : ℕ) → (more : List TopRecord) × (loads_from ss from cs ≡ loads_from ss from (take k cs) ++ more)
loads-split ss from cs zero = (loads_from ss from cs, refl)
loads-split ss from [] (suc k) = ([], refl)
loads-split ss from (c ∷ cs) (suc k) = let (more, e) = loads-split ss (from + 1) cs k in (more, ap (λ l. load_record ss (from + 1) (class_id from) c.name ∷ l) e)

-- one more string, by its number
pub text-next : (ss : List (List ℕ)) (k : ℕ) (s : List ℕ) → slice_get ss k ≡ Some s → text_records 1 (take (k + 1) ss) ≡ text_records 1 (take k ss) ++ Text 0 (k + 1) s ∷ []
text-next ss k s h =
    let n : 1 + k ≡ k + 1 = omega arith in
    ap (λ m. text_records 1 (take m ss)) (add-one k) ∙ texts-more 1 ss k s h ∙ ap (λ m. text_records 1 (take k ss) ++ Text 0 m s ∷ []) n

-- one more class, by its number
pub load-next : (ss : List (List ℕ)) (cs : List Class) (k id : ℕ) (name : List ℕ) → slice_get (map (λ c. c.name) cs) k ≡ Some name → id ≡ class_id k
    → loads_from ss 0 (take (k + 1) cs) ≡ loads_from ss 0 (take k cs) ++ load_record ss (k + 1) id name ∷ []
load-next ss cs k id name h e =
    ap (λ m. loads_from ss 0 (take m cs)) (add-one k) ∙ at (slice_get cs k) refl (at-map (λ (c : Class). c.name) cs k name h)
    ∙ ap (λ m. loads_from ss 0 (take k cs) ++ load_record ss (m + 1) (class_id m) name ∷ []) (zero-add k)
    ∙ ap (λ i. loads_from ss 0 (take k cs) ++ load_record ss (k + 1) i name ∷ []) (sym e)
  where
    at : (x : Option Class) → slice_get cs k ≡ x → IsSomeAnd x (λ c. c.name ≡ name)
        → loads_from ss 0 (take (suc k) cs) ≡ loads_from ss 0 (take k cs) ++ load_record ss (0 + k + 1) (class_id (0 + k)) name ∷ []
    at None e is = absurd is
    at (Some c) e is = loads-more ss 0 cs k c e ∙ ap (λ (n : List ℕ). loads_from ss 0 (take k cs) ++ load_record ss (0 + k + 1) (class_id (0 + k)) n ∷ []) is

-- the classes so far are the first ones of all that are loaded
pub loads-all : (ss : List (List ℕ)) (cs : List Class) (k : ℕ) → (more : List TopRecord) × (load_records ss cs ≡ loads_from ss 0 (take k cs) ++ more)
loads-all ss cs k =
    let (more, e) = loads-split ss 0 cs k in (
      more ++ load_record ss (length cs + 1) array_class_id array_name ∷ [],
      ap (λ l. l ++ load_record ss (length cs + 1) array_class_id array_name ∷ []) e ∙ append_assoc (loads_from ss 0 (take k cs)) more (load_record ss (length cs + 1) array_class_id array_name ∷ []),
    )

-- records behind records
pub records-join : (bytes : List ℕ) (rs more : List TopRecord) → (bytes ++ bytes_of_records rs) ++ bytes_of_records more ≡ bytes ++ bytes_of_records (rs ++ more)
records-join bytes rs more =
    append_assoc bytes (bytes_of_records rs) (bytes_of_records more) ∙ ap (λ l. bytes ++ l) (sym (flat_map-append bytes_of_record rs more))
