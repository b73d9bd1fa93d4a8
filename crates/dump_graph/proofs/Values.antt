-- The references among values, field by field.
use Rattle.std.proofs.Common.{◌≡◌, ℕ, zero, suc, ◌+◌, ◌-◌, ◌<◌, ◌≤◌, nat_eq, List, [], ◌∷◌, ◌++◌, length, get_or, take, drop, Option, None, Some, refl, ap, sym, ◌∙◌, arith, append_assoc, length-drop, zero-add, suc-add}
use Rattle.std.specs.Prelude.{sum_by, option_to_list, position}
use Rattle.std.proofs.lemmas.List.Elements.{filter_map-append}
use Rattle.dump_graph.specs.Tables.{numbers_of}
use Rattle.std.specs.List.{cons_option}
use Rattle.std.proofs.lemmas.List.{take_more}
use Rattle.std.proofs.lemmas.List.Sums.{sum_by-append, sum_by-cons, sum_by-take-le}
use Rattle.std.proofs.lemmas.Grind.{common_steps}
use Rattle.hprof_records.specs.Types.{value_bytes}
use Rattle.dump_graph.specs.References.{reference, references_in}

pub to-list : {X : Type 0} (o : Option X) → cons_option o [] ≡ option_to_list o
to-list None = refl
to-list (Some x) = refl

cons-to-list : {X : Type 0} (o : Option X) (l : List X) → cons_option o l ≡ option_to_list o ++ l
cons-to-list None l = refl
cons-to-list (Some x) l = refl

drop-none : {X : Type 0} (n : ℕ) → let l : List X = [] in drop n l ≡ l
drop-none zero = refl
drop-none (suc n) = refl

pub drop-plus : {X : Type 0} (m n : ℕ) (xs : List X) → drop n (drop m xs) ≡ drop (m + n) xs
drop-plus zero n xs = ap (λ k. drop k xs) (sym (zero-add n))
drop-plus {X = X} (suc m) n [] = drop-none {X = X} n ∙ sym (drop-none {X = X} (suc m + n))
drop-plus (suc m) n (x ∷ xs) = drop-plus m n xs ∙ ap (λ k. drop k (x ∷ xs)) (sym (suc-add m n))

pub references-append : (a b bytes : List ℕ) → references_in (a ++ b) bytes ≡ references_in a bytes ++ references_in b (drop (sum_by value_bytes a) bytes)
references-append [] b bytes = refl
references-append (code ∷ a) b bytes =
    ap (cons_option (reference code bytes)) (references-append a b (drop (value_bytes code) bytes))
    ∙ (cons-to-list (reference code bytes) (references_in a (drop (value_bytes code) bytes) ++ references_in b (drop (sum_by value_bytes a) (drop (value_bytes code) bytes)))
    ∙ (sym (append_assoc (option_to_list (reference code bytes)) (references_in a (drop (value_bytes code) bytes)) (references_in b (drop (sum_by value_bytes a) (drop (value_bytes code) bytes))))
    ∙ (ap (λ l. l ++ references_in b (drop (sum_by value_bytes a) (drop (value_bytes code) bytes))) (sym (cons-to-list (reference code bytes) (references_in a (drop (value_bytes code) bytes))))
    ∙ ap (λ l. references_in (code ∷ a) bytes ++ references_in b l) (drop-plus (value_bytes code) (sum_by value_bytes a) bytes ∙ ap (λ k. drop k bytes) (sym (sum_by-cons value_bytes code a))))))

-- one value more
pub sizes-more : (codes : List ℕ) (i : ℕ) → i < length codes → sum_by value_bytes (take (i + 1) codes) ≡ sum_by value_bytes (take i codes) + value_bytes (get_or codes i 0)
sizes-more codes i within =
    ap (sum_by value_bytes) (take_more codes i 0 within)
    ∙ (sum_by-append value_bytes (take i codes) (get_or codes i 0 ∷ []) ∙ ap (λ n. sum_by value_bytes (take i codes) + n) (zero-add (value_bytes (get_or codes i 0))))

pub references-more : (codes bytes : List ℕ) (i : ℕ) → i < length codes
    → references_in (take (i + 1) codes) bytes ≡ references_in (take i codes) bytes ++ option_to_list (reference (get_or codes i 0) (drop (sum_by value_bytes (take i codes)) bytes))
references-more codes bytes i within =
    ap (λ l. references_in l bytes) (take_more codes i 0 within)
    ∙ (references-append (take i codes) (get_or codes i 0 ∷ []) bytes
    ∙ ap (λ l. references_in (take i codes) bytes ++ l) (to-list (reference (get_or codes i 0) (drop (sum_by value_bytes (take i codes)) bytes))))

-- the sizes of some values are at most those of all
pub sizes-within : (codes : List ℕ) (i : ℕ) → i < length codes → sum_by value_bytes (take i codes) + value_bytes (get_or codes i 0) ≤ sum_by value_bytes codes
sizes-within codes i within = omega (arith, sizes-more codes i within, sum_by-take-le value_bytes codes (i + 1))

-- all bytes from a place on
pub cut-all : (xs : List ℕ) (n : ℕ) → take (length xs - n) (drop n xs) ≡ drop n xs
cut-all xs n = ap (λ k. take k (drop n xs)) (sym (length-drop n xs)) ∙ grind (arith, common_steps)

-- one identifier more
pub numbers-more : (ids refers : List ℕ) (i : ℕ) → i < length refers → numbers_of ids (take (i + 1) refers) ≡ numbers_of ids (take i refers) ++ option_to_list (position (nat_eq (get_or refers i 0)) ids)
numbers-more ids refers i within =
    ap (numbers_of ids) (take_more refers i 0 within)
    ∙ (filter_map-append (λ id. position (nat_eq id) ids) (take i refers) (get_or refers i 0 ∷ [])
    ∙ ap (λ l. numbers_of ids (take i refers) ++ l) (to-list (position (nat_eq (get_or refers i 0)) ids)))
