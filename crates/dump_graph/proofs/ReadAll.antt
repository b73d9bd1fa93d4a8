-- The reading of an instance's values, class by class upwards.
use Rattle.std.proofs.Common.{◌≡◌, ℕ, ◌+◌, ◌-◌, ◌<◌, ◌≤◌, Bool, true, false, cond, nat_eq, List, [], ◌++◌, drop, length, get_or, Option, None, Some, option_map, refl, ap, sym, ◌∙◌, arith, subst, append_assoc, length-drop}
use Rattle.std.specs.Prelude.{sum_by}
use Rattle.std.proofs.lemmas.List.{append-nil, get_or-map, get_or_default}
use Rattle.std.proofs.lemmas.List.Sums.{sum_by-append}
use Rattle.std.proofs.lemmas.Grind.{common_steps}
use Rattle.hprof_records.specs.Types.{value_bytes}
use Rattle.dump_graph.specs.Classes.{Class, codes_within}
use Rattle.dump_graph.specs.Climbing.{AreClimbs, climb, gathered, join, join_at, lost, own_codes}
use Rattle.dump_graph.specs.ClassTable.{laid_out}
use Rattle.dump_graph.specs.References.{instance_references, references_in}
use Rattle.dump_graph.specs.Reading.{HasRead, IsLeft}
use Rattle.dump_graph.specs.declared.climb.Climb.{Climb}
use Rattle.dump_graph.specs.declared.climb.Up.{Up}
use Rattle.dump_graph.specs.declared.climb.Up.TheVariants.{Top, Above, Lost}
use Rattle.dump_graph.proofs.Climbs.{climb-more}
use Rattle.dump_graph.proofs.Layouts.{GathersBy, codes-by-climb, gathers}
use Rattle.dump_graph.proofs.Values.{drop-plus, references-append}

-- more steps than to the top lead no further
top-stays : (one : Climb) (more : ℕ → Climb) → one.next ≡ Top → join one more ≡ one
top-stays one more top = by one.next refl
  where
    by : (u : Up) → one.next ≡ u → join_at one.fielded u more ≡ record { fielded = one.fielded; next = u }
    by Top is = refl
    by (Above p) is = absurd (cc (top, is))
    by Lost is = refl

pub climb-stays : (known : List Class) (s t n : ℕ) → (climb known s n).next ≡ Top → s ≤ t → climb known t n ≡ climb known s n
climb-stays known s t n top below =
    let split : t ≡ s + (t - s) = omega (arith, below) in
    ap (λ k. climb known k n) split ∙ (climb-more known s (t - s) n ∙ top-stays (climb known s n) (climb known (t - s)) top)

-- nothing was read
pub reading-begins : (known : List Class) (dumps fuel n : ℕ) (bytes found : List ℕ) → dumps ≤ fuel → n < length known → (climb known dumps n).next ≡ Top
    → (left : List ℕ) × (IsLeft known (Some n) fuel left × HasRead (gathered known dumps n) left bytes found bytes found)
reading-begins known dumps fuel n bytes found few within top =
    (gathered known dumps n, ((dumps, (few, within, top, refl)), record { done = []; split = refl; within = omega arith; rest_is = refl; found_is = sym (append-nil found) }))

-- the fields of a class more were read
module _ (all own left bytes found rest found' after found'' : List ℕ) (read : HasRead all (own ++ left) bytes found rest found') where
  pub reads-own : sum_by value_bytes own ≤ length rest → after ≡ drop (sum_by value_bytes own) rest → found'' ≡ found' ++ references_in own rest → HasRead all left bytes found after found''
  reads-own fits after_is more =
      let sums = sum_by-append value_bytes read.done own in
      let long : length rest ≡ length bytes - sum_by value_bytes read.done = ap length read.rest_is ∙ length-drop (sum_by value_bytes read.done) bytes in
      record {
        done = read.done ++ own;
        split = read.split ∙ sym (append_assoc read.done own left);
        within = omega (arith, sums, long, fits, read.within);
        rest_is = after_is ∙ (ap (drop (sum_by value_bytes own)) read.rest_is ∙ (drop-plus (sum_by value_bytes read.done) (sum_by value_bytes own) bytes ∙ ap (λ k. drop k bytes) (sym sums)));
        found_is =
            more ∙ (ap (λ l. l ++ references_in own rest) read.found_is ∙ (append_assoc found (references_in read.done bytes) (references_in own rest)
            ∙ ap (λ l. found ++ l) (ap (λ r. references_in read.done bytes ++ references_in own r) read.rest_is ∙ sym (references-append read.done own bytes))));
      }

  -- there are too few bytes for them
  pub reads-short : length rest < sum_by value_bytes own → length bytes < sum_by value_bytes all
  reads-short short =
      let sums = sum_by-append value_bytes read.done (own ++ left) in
      let sums' = sum_by-append value_bytes own left in
      let whole : sum_by value_bytes all ≡ sum_by value_bytes (read.done ++ (own ++ left)) = ap (sum_by value_bytes) read.split in
      let long : length rest ≡ length bytes - sum_by value_bytes read.done = ap length read.rest_is ∙ length-drop (sum_by value_bytes read.done) bytes in
      omega (arith, sums, sums', whole, long, short)

-- what is left from a class on are its own codes, and what is left from the next that has fields on
pub left-next : (known : List Class) (n fuel dumps : ℕ) (left : List ℕ) → IsLeft known (Some n) fuel left → fuel ≤ dumps
    → (left' : List ℕ) × ((left ≡ own_codes known n ++ left') × IsLeft known (climb known dumps n).fielded (fuel - 1) left')
left-next known n fuel dumps left (s, (below, within, top, is)) few =
    by (climb known s n).fielded (gathers known s n within top) (ap (λ (c : Climb). c.fielded) (climb-stays known s dumps n top (omega (arith, below, few))))
  where
    by : (o : Option ℕ) → GathersBy known s n o → (climb known dumps n).fielded ≡ o
        → (left' : List ℕ) × ((left ≡ own_codes known n ++ left') × IsLeft known (climb known dumps n).fielded (fuel - 1) left')
    by None own first = ([], (is ∙ (own ∙ sym (append-nil (own_codes known n))), subst (λ o. IsLeft known o (fuel - 1) []) (sym first) refl))
    by (Some d) (t, (less, inside, up, more)) first =
        (gathered known t d, (is ∙ more, subst (λ o. IsLeft known o (fuel - 1) (gathered known t d)) (sym first) (t, (omega (arith, less, below), inside, up, refl))))

-- the class whose fields come next is known, and the table has its codes and its climb
pub left-within : (known : List Class) (at : Option ℕ) (n fuel : ℕ) (left : List ℕ) → IsLeft known at fuel left → at ≡ Some n → n < length known
left-within known None n fuel left is at_n = absurd cc
left-within known (Some m) n fuel left (s, (below, within, top, is)) at_n = let same : m ≡ n = cc in subst (λ k. k < length known) same within

pub codes-at : (known known' : List Class) (n : ℕ) (c : Class) → known ≡ known' → n < length known' → c ≡ get_or known n c → c.codes ≡ own_codes known' n
codes-at known known' n c same within is =
    let inside : n < length known = subst (λ (l : List Class). n < length l) (sym same) within in
    ap (λ (x : Class). x.codes) is ∙ (sym (get_or-map (λ (x : Class). x.codes) known n c [] inside) ∙ ap (λ l. own_codes l n) same)

pub climb-at : (known known' : List Class) (dumps dumps' : ℕ) (climbs : List Climb) (n : ℕ) (one : Climb) → known ≡ known' → dumps ≡ dumps' → AreClimbs known dumps climbs → n < length known' → one ≡ get_or climbs n one
    → one ≡ climb known' dumps' n
climb-at known known' dumps dumps' climbs n one same same' are within is =
    let inside : n < length known = subst (λ (l : List Class). n < length l) (sym same) within in
    is ∙ (get_or_default climbs n one lost (omega (arith, are.0, inside)) ∙ (are.1 n inside ∙ (ap (λ l. climb l dumps n) same ∙ ap (λ d. climb known' d n) same')))

-- nothing is left after the last step
pub left-none : (known : List Class) (o : Option ℕ) (left : List ℕ) → IsLeft known o 0 left → left ≡ []
left-none known None left is = is
left-none known (Some n) left (s, (below, within, top, is)) =
    let none : s ≡ 0 = omega (arith, below) in
    absurd (by (subst (λ k. (climb known k n).next ≡ Top) none top))
  where
    by : Above n ≡ Top → ⊥
    by e = cc

-- all codes were read
module _ (all bytes found rest found' : List ℕ) (read : HasRead all [] bytes found rest found') where
  all-done : all ≡ read.done
  all-done = read.split ∙ append-nil read.done

  pub reads-all : found' ≡ found ++ references_in all bytes
  reads-all = read.found_is ∙ ap (λ l. found ++ references_in l bytes) (sym all-done)

  pub fits-all : nat_eq (sum_by value_bytes all) (length bytes) ≡ nat_eq (length rest) 0
  fits-all =
      let same : sum_by value_bytes all ≡ sum_by value_bytes read.done = ap (sum_by value_bytes) all-done in
      let long : length rest ≡ length bytes - sum_by value_bytes read.done = ap length read.rest_is ∙ length-drop (sum_by value_bytes read.done) bytes in
      grind (arith, common_steps, same, long, read.within)

-- a class's fields are read, and those of the classes above it are left
pub reads-on : (known : List Class) (dumps fuel n : ℕ) (at : Option ℕ) (all codes bytes rest found found' found'' after : List ℕ) (more : Option ℕ) (fuel' : ℕ)
    → (left : List ℕ) × (IsLeft known at fuel left × HasRead all left bytes found rest found') → at ≡ Some n → fuel ≤ dumps → codes ≡ own_codes known n → more ≡ (climb known dumps n).fielded
    → sum_by value_bytes codes ≤ length rest → after ≡ drop (sum_by value_bytes codes) rest → found'' ≡ found' ++ references_in codes rest → fuel' ≡ fuel - 1
    → (left : List ℕ) × (IsLeft known more fuel' left × HasRead all left bytes found after found'')
reads-on known dumps fuel n at all codes bytes rest found found' found'' after more fuel' (left, (is, read)) at_n few own next fits after_is also less =
    let here : IsLeft known (Some n) fuel left = subst (λ o. IsLeft known o fuel left) at_n is in
    let onward = left-next known n fuel dumps left here few in
    let split : HasRead all (codes ++ onward.0) bytes found rest found' = subst (λ l. HasRead all l bytes found rest found') (onward.1.0 ∙ ap (λ l. l ++ onward.0) (sym own)) read in
    (onward.0, (subst (λ k. IsLeft known more k onward.0) (sym less) (subst (λ o. IsLeft known o (fuel - 1) onward.0) (sym next) onward.1.1), reads-own all codes onward.0 bytes found rest found' after found'' split fits after_is also))

pub stops-short : (known : List Class) (dumps fuel n : ℕ) (at : Option ℕ) (all codes bytes rest found found' : List ℕ)
    → (left : List ℕ) × (IsLeft known at fuel left × HasRead all left bytes found rest found') → at ≡ Some n → fuel ≤ dumps → codes ≡ own_codes known n
    → length rest < sum_by value_bytes codes → false ≡ nat_eq (sum_by value_bytes all) (length bytes)
stops-short known dumps fuel n at all codes bytes rest found found' (left, (is, read)) at_n few own short =
    let here : IsLeft known (Some n) fuel left = subst (λ o. IsLeft known o fuel left) at_n is in
    let onward = left-next known n fuel dumps left here few in
    let split : HasRead all (codes ++ onward.0) bytes found rest found' = subst (λ l. HasRead all l bytes found rest found') (onward.1.0 ∙ ap (λ l. l ++ onward.0) (sym own)) read in
    let more = reads-short all codes onward.0 bytes found rest found' [] [] split short in
    grind (arith, common_steps, more)

-- the references of an instance whose class has no layout, or of one whose values have its size, or of another one
pub laid-none : (known : List Class) (dumps id : ℕ) (bytes : List ℕ) → laid_out known dumps id ≡ None → [] ≡ instance_references (codes_within known dumps id) bytes
laid-none known dumps id bytes none =
    sym (ap (λ o. instance_references o bytes) (codes-by-climb known dumps id ∙ ap (option_map (gathered known dumps)) none))

module _ (known : List Class) (dumps id n : ℕ) (bytes : List ℕ) (fits : Bool) (laid : laid_out known dumps id ≡ Some n)
    (told : fits ≡ nat_eq (sum_by value_bytes (gathered known dumps n)) (length bytes)) where
  by-size : instance_references (codes_within known dumps id) bytes ≡ cond fits (references_in (gathered known dumps n) bytes) []
  by-size =
      ap (λ o. instance_references o bytes) (codes-by-climb known dumps id ∙ ap (option_map (gathered known dumps)) laid)
      ∙ ap (λ b. cond b (references_in (gathered known dumps n) bytes) []) (sym told)

  pub laid-fits : (found : List ℕ) → fits ≡ true → found ≡ references_in (gathered known dumps n) bytes → found ≡ instance_references (codes_within known dumps id) bytes
  laid-fits found fit is = is ∙ sym (by-size ∙ ap (λ b. cond b (references_in (gathered known dumps n) bytes) []) fit)

  pub laid-unfit : fits ≡ false → [] ≡ instance_references (codes_within known dumps id) bytes
  laid-unfit unfit = sym (by-size ∙ ap (λ b. cond b (references_in (gathered known dumps n) bytes) []) unfit)
