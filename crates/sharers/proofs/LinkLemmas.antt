-- The list of free numbers.
use Rattle.std.proofs.Common.{◌≡◌, ◌≢◌, ℕ, ◌+◌, ◌-◌, ◌<◌, List, [], ◌∷◌, ◌++◌, length, set, sym, ap, subst, ◌∙◌, inl, inr, arith, eqb}
use Rattle.std.proofs.lemmas.List.{length_push, map-set}
use Rattle.std.proofs.lemmas.List.Sums.{sum_by_push}
use Rattle.std.proofs.lemmas.Bool.{cases_eq, eq-eqb, ne_eqb, cond-true, cond-false}
use Rattle.sharers.specs.declared.rows.Row.{Row}
use Rattle.sharers.specs.Rows.{counts_of, holders_of, next_of, rank_of, IsFree, IsLinked}
use Rattle.sharers.proofs.RowLemmas.{Replaces, free_count, one_free, field_before, field_joined}

-- a row with sharers is not free
pub held_apart : (rows : List Row) (f g n : ℕ) → holders_of rows f ≡ n → n ≢ 0 → IsFree rows g → g ≢ f
held_apart rows f g n held some free same = some (sym held ∙ ap (holders_of rows) (sym same) ∙ free.1)

-- what is free after one row was replaced, which has sharers now, was free before
pub free_back : (old new : List Row) (f : ℕ) (x y : Row) → Replaces old new f x y → y.holders ≢ 0 → (g : ℕ) → IsFree new g → (g ≢ f) × IsFree old g
free_back old new f x y r some g free =
    let apart = held_apart new f g y.holders r.holders_here some free in
    (apart, (omega (arith, r.len, free.0), sym (r.holders g apart) ∙ free.1))

pub free_there : (old new : List Row) (f : ℕ) (x y : Row) → Replaces old new f x y → (g : ℕ) → g ≢ f → IsFree old g → IsFree new g
free_there old new f x y r g apart free = (omega (arith, r.len, free.0), r.holders g apart ∙ free.1)

-- the list of free rows after its first frame was taken
pub IsLinked-take : (old new : List Row) (first spare : ℕ) (x y : Row) → IsLinked old first spare → 0 < spare → Replaces old new first x y → y.holders ≡ 1 → IsLinked new x.next (spare - 1)
IsLinked-take old new first spare x y is some r one =
    let at = is.head some in
    let held : y.holders ≢ 0 = (λ (none : y.holders ≡ 0). omega arith) in
    let back = free_back old new first x y r held in
    record {
      head = λ more.
          let link = is.linked first at.0 (omega (arith, at.1)) in
          let next = ap {B = ℕ} (λ n. n) r.next_was in
          let free = subst (IsFree old) next link.0 in
          let rank : rank_of old x.next + 1 ≡ rank_of old first = ap (λ n. rank_of old n + 1) (sym next) ∙ link.1 in
          let apart : x.next ≢ first = (λ (same : x.next ≡ first). omega (arith, rank, ap (rank_of old) same)) in
          (free_there old new first x y r x.next apart free, omega (arith, rank, at.1, r.rank x.next apart));
      ranked = λ g free.
          let b = back g free in
          let ranks = is.ranked g b.1 in
          let below : rank_of old g ≢ spare = (λ (same : rank_of old g ≡ spare). b.0 (is.apart g first b.1 at.0 (same ∙ sym at.1))) in
          let here = r.rank g b.0 in
          (omega (arith, ranks.0), omega (arith, ranks.1));
      apart = λ g h free also same.
          let b = back g free in
          let c = back h also in
          is.apart g h b.1 c.1 (sym (r.rank g b.0) ∙ same ∙ r.rank h c.0);
      linked = λ g free more.
          let b = back g free in
          let link = is.linked g b.1 (omega (arith, r.rank g b.0)) in
          let next = r.next g b.0 in
          let apart : next_of old g ≢ first = (λ (same : next_of old g ≡ first). omega (arith, link.1, ap (rank_of old) same, at.1, (is.ranked g b.1).1)) in (
            subst (IsFree new) (sym next) (free_there old new first x y r (next_of old g) apart link.0),
            ap (λ n. rank_of new n + 1) next ∙ ap (λ n. n + 1) (r.rank (next_of old g) apart) ∙ link.1 ∙ sym (r.rank g b.0),
          );
      counted = omega (
        arith,
        r.free,
        is.counted,
        cond-true {A = ℕ} (eqb x.holders 0) 1 0 (eq-eqb x.holders 0 (sym r.holders_was ∙ at.0.1)),
        cond-false {A = ℕ} (eqb y.holders 0) 1 0 (ne_eqb y.holders 0 held),
      );
    }

-- a row became the first of the list of free rows
pub record Frees (old new : List Row) (f first spare : ℕ) : Type 0 where
  pub now : IsFree new f
  pub rank : rank_of new f ≡ spare + 1
  pub next : next_of new f ≡ first
  pub back : (g : ℕ) → g ≢ f → IsFree new g → IsFree old g
  pub there : (g : ℕ) → IsFree old g → IsFree new g × (g ≢ f)
  pub ranks : (g : ℕ) → IsFree old g → rank_of new g ≡ rank_of old g
  pub nexts : (g : ℕ) → IsFree old g → next_of new g ≡ next_of old g
  pub counted : free_count new ≡ free_count old + 1

pub IsLinked-frees : (old new : List Row) (f first spare : ℕ) → IsLinked old first spare → Frees old new f first spare → IsLinked new f (spare + 1)
IsLinked-frees old new f first spare is r = record {
  head = λ some. (r.now, r.rank);
  ranked = λ g free. elim (cases_eq g f) [
    | inl same ↦ let here = ap (rank_of new) same ∙ r.rank in (omega (arith, here), omega (arith, here))
    | inr apart ↦
        let b = r.back g apart free in
        (omega (arith, (is.ranked g b).0, r.ranks g b), omega (arith, (is.ranked g b).1, r.ranks g b))
  ];
  apart = λ g h free also same. elim (cases_eq g f) [
    | inl is_g ↦ elim (cases_eq h f) [
      | inl is_h ↦ is_g ∙ sym is_h
      | inr other_h ↦
          let b = r.back h other_h also in
          absurd (omega (arith, same, ap (rank_of new) is_g ∙ r.rank, r.ranks h b, (is.ranked h b).1))
    ]
    | inr other_g ↦ elim (cases_eq h f) [
      | inl is_h ↦
          let b = r.back g other_g free in
          absurd (omega (arith, same, ap (rank_of new) is_h ∙ r.rank, r.ranks g b, (is.ranked g b).1))
      | inr other_h ↦
          let b = r.back g other_g free in
          let d = r.back h other_h also in
          is.apart g h b d (sym (r.ranks g b) ∙ same ∙ r.ranks h d)
    ]
  ];
  linked = λ g free more. elim (cases_eq g f) [
    | inl same ↦
        let rank = ap (rank_of new) same ∙ r.rank in
        let at = is.head (omega (arith, rank)) in
        let next : next_of new g ≡ first = ap (next_of new) same ∙ r.next in (
          subst (IsFree new) (sym next) (r.there first at.0).0,
          ap (λ n. rank_of new n + 1) next ∙ ap (λ n. n + 1) (r.ranks first at.0 ∙ at.1) ∙ sym rank,
        )
    | inr apart ↦
        let b = r.back g apart free in
        let link = is.linked g b (omega (arith, r.ranks g b)) in
        let next = r.nexts g b in (
          subst (IsFree new) (sym next) (r.there (next_of old g) link.0).0,
          ap (λ n. rank_of new n + 1) next ∙ ap (λ n. n + 1) (r.ranks (next_of old g) link.0) ∙ link.1 ∙ sym (r.ranks g b),
        )
  ];
  counted = omega (arith, r.counted, is.counted);
}

-- the last sharer of a row left
pub Frees-unshare : (old new : List Row) (f first spare : ℕ) (x y : Row) → Replaces old new f x y → x.holders ≡ 1 → y.holders ≡ 0 → y.next ≡ first → y.rank ≡ spare + 1 → Frees old new f first spare
Frees-unshare old new f first spare x y r one none next rank =
    let held : x.holders ≢ 0 = (λ (zero : x.holders ≡ 0). omega arith) in
    record {
      now = (omega (arith, r.len, r.within), r.holders_here ∙ none);
      rank = r.rank_here ∙ rank;
      next = r.next_here ∙ next;
      back = λ g apart free. (omega (arith, r.len, free.0), sym (r.holders g apart) ∙ free.1);
      there = λ g free. let apart = held_apart old f g x.holders r.holders_was held free in (free_there old new f x y r g apart free, apart);
      ranks = λ g free. r.rank g (held_apart old f g x.holders r.holders_was held free);
      nexts = λ g free. r.next g (held_apart old f g x.holders r.holders_was held free);
      counted = omega (
        arith,
        r.free,
        cond-false {A = ℕ} (eqb x.holders 0) 1 0 (ne_eqb x.holders 0 held),
        cond-true {A = ℕ} (eqb y.holders 0) 1 0 (eq-eqb y.holders 0 none),
      );
    }

-- a row that joined
pub Frees-join : (old : List Row) (first spare : ℕ) (y : Row) → y.holders ≡ 0 → y.next ≡ first → y.rank ≡ spare + 1 → Frees old (old ++ y ∷ []) (length old) first spare
Frees-join old first spare y none next rank = record {
  now = (omega (arith, length_push old y), field_joined (λ it. it.holders) old y 0 ∙ none);
  rank = field_joined (λ it. it.rank) old y 0 ∙ rank;
  next = field_joined (λ it. it.next) old y 0 ∙ next;
  back = λ g apart free.
      let within : g < length old = omega (arith, free.0, length_push old y) in
      (within, sym (field_before (λ it. it.holders) old (y ∷ []) g 0 within) ∙ free.1);
  there = λ g free. (
    (omega (arith, free.0, length_push old y), field_before (λ it. it.holders) old (y ∷ []) g 0 free.0 ∙ free.1),
    (λ (same : g ≡ length old). omega (arith, free.0)),
  );
  ranks = λ g free. field_before (λ it. it.rank) old (y ∷ []) g 0 free.0;
  nexts = λ g free. field_before (λ it. it.next) old (y ∷ []) g 0 free.0;
  counted = sum_by_push one_free old y ∙ ap (λ n. free_count old + n) (cond-true {A = ℕ} (eqb y.holders 0) 1 0 (eq-eqb y.holders 0 none));
}

-- a row that has sharers before and after
pub IsLinked-held : (old new : List Row) (f first spare : ℕ) (x y : Row) → IsLinked old first spare → Replaces old new f x y → x.holders ≢ 0 → y.holders ≢ 0 → IsLinked new first spare
IsLinked-held old new f first spare x y is r was held =
    let off = λ (g : ℕ) (free : IsFree old g). held_apart old f g x.holders r.holders_was was free in
    let there = λ (g : ℕ) (free : IsFree old g). free_there old new f x y r g (off g free) free in
    let back = λ (g : ℕ) (free : IsFree new g). (free_back old new f x y r held g free).1 in
    let rank = λ (g : ℕ) (free : IsFree old g). r.rank g (off g free) in
    record {
      head = λ some. let at = is.head some in (there first at.0, rank first at.0 ∙ at.1);
      ranked = λ g free. let b = back g free in (omega (arith, (is.ranked g b).0, rank g b), omega (arith, (is.ranked g b).1, rank g b));
      apart = λ g h free also same. let b = back g free in let d = back h also in is.apart g h b d (sym (rank g b) ∙ same ∙ rank h d);
      linked = λ g free more.
          let b = back g free in
          let link = is.linked g b (omega (arith, rank g b)) in
          let next = r.next g (off g b) in (
            subst (IsFree new) (sym next) (there (next_of old g) link.0),
            ap (λ n. rank_of new n + 1) next ∙ ap (λ n. n + 1) (rank (next_of old g) link.0) ∙ link.1 ∙ sym (rank g b),
          );
      counted = omega (
        arith,
        r.free,
        is.counted,
        cond-false {A = ℕ} (eqb x.holders 0) 1 0 (ne_eqb x.holders 0 was),
        cond-false {A = ℕ} (eqb y.holders 0) 1 0 (ne_eqb y.holders 0 held),
      );
    }

-- the counts after one row was put in the place of another
pub counts-set : (rows : List Row) (counts : List ℕ) (n k : ℕ) (y : Row) → counts_of rows ≡ counts → y.holders ≡ k → counts_of (set rows n y) ≡ set counts n k
counts-set rows counts n k y was now =
    map-set (λ (it : Row). it.holders) rows n y ∙ ap (λ (cs : List ℕ). set cs n y.holders) was ∙ ap (set counts n) now
