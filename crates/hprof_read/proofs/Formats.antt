-- Formats: a reader, the bytes that it reads a value from, and which values have bytes. What is read stands there, what
-- stands there is read, and where reading stops the bytes before that place could go on.
use Rattle.std.proofs.Common.{◌≡◌, ℕ, zero, suc, ◌⊎◌, inl, inr, List, [], ◌∷◌, ◌++◌, length, Result, Ok, Err, refl, sym, ap, subst, ◌∙◌, append_assoc, arith, All}
use Rattle.std.specs.List.{flat_map}
use Rattle.std.proofs.lemmas.List.Elements.{All-cons, All-nil, All-head, All-tail, All-drop, All-append}
use Rattle.std.proofs.Math.Seq.{drop-append_seam}
use Rattle.hprof_records.specs.Formed.{IsByte}
use Rattle.hprof_read.specs.declared.fields.Stop.{Stop}
use Rattle.hprof_read.specs.declared.fields.Stop.TheVariants.{Short, Refused}
use Rattle.hprof_read.specs.Reading.{Reader, ◌>>=◌, both, made, times}

-- each number is a byte
abbrev pub AreBytes : List ℕ → Type 0
AreBytes bytes = All IsByte bytes

pub AreBytes-right : (xs ys : List ℕ) → AreBytes (xs ++ ys) → AreBytes ys
AreBytes-right xs ys h = subst AreBytes (drop-append_seam xs ys) (All-drop IsByte (length xs) (xs ++ ys) h)

-- some value's bytes begin so, and go on
abbrev pub GoesOn : {A : Type 0} → (A → List ℕ) → (A → Type 0) → List ℕ → Type 0
GoesOn {A} text Fits front = (v : A) × (next : ℕ) × (more : List ℕ) × (Fits v × (text v ≡ front ++ next ∷ more))

-- a byte is refused, before which the bytes could go on, and whatever follows it
pub record StopsAt {A : Type 0} (read : Reader A) (text : A → List ℕ) (Fits : A → Type 0) (bytes : List ℕ) (left : ℕ) : Type 0 where
  pub front : List ℕ
  pub code : ℕ
  pub after : List ℕ
  pub whole : bytes ≡ front ++ code ∷ after
  pub place : left ≡ suc (length after)
  pub before : GoesOn text Fits front
  pub refused : (rest : List ℕ) → read (front ++ code ∷ rest) ≡ Err (Refused (suc (length rest)))

pub record IsFormat {A : Type 0} (read : Reader A) (text : A → List ℕ) (Fits : A → Type 0) : Type 0 where
  -- what stands there is read
  pub again : (v : A) (rest : List ℕ) → Fits v → read (text v ++ rest) ≡ Ok (v, rest)
  -- what is read stands there
  pub takes : (bytes : List ℕ) (v : A) (rest : List ℕ) → AreBytes bytes → read bytes ≡ Ok (v, rest) → (bytes ≡ text v ++ rest) × Fits v
  pub some : (v : A) × Fits v
  pub octets : (v : A) → Fits v → AreBytes (text v)
  pub short : (bytes : List ℕ) → AreBytes bytes → read bytes ≡ Err Short → GoesOn text Fits bytes
  pub bad : (bytes : List ℕ) (left : ℕ) → AreBytes bytes → read bytes ≡ Err (Refused left) → StopsAt read text Fits bytes left

abbrev failed : {B : Type 0} → Stop → Result B Stop
failed e = Err e

-- where two steps stop: at the first, or at the second
pub bind_err : {A B : Type 0} (r : Result A Stop) (f : A → Result B Stop) (e : Stop) → (r >>= f) ≡ Err e → (r ≡ Err e) ⊎ ((x : A) × ((r ≡ Ok x) × (f x ≡ Err e)))
bind_err (Ok x) f e h = inr (x, (refl, h))
bind_err {A} {B} (Err d) f e h = let same : d ≡ e = cc in inl (ap (λ (s : Stop). failed {B = A} s) same)

pub bind_ok : {A B : Type 0} (r : Result A Stop) (f : A → Result B Stop) (y : B) → (r >>= f) ≡ Ok y → (x : A) × ((r ≡ Ok x) × (f x ≡ Ok y))
bind_ok (Ok x) f y h = (x, (refl, h))
bind_ok (Err d) f y h = absurd cc

abbrev done : {A : Type 0} → A → Result A Stop
done x = Ok x

pub ok_is : {A : Type 0} (x y : A) → done x ≡ done y → x ≡ y
ok_is x y e = cc

-- ---- two values in order

module _ {A B : Type 0} (first : Reader A) (text : A → List ℕ) (Fits : A → Type 0) (second : A → Reader B) (text' : B → List ℕ) (Fits' : A → B → Type 0) where
  abbrev pub both_text : A × B → List ℕ
  both_text p = text p.0 ++ text' p.1

  abbrev pub BothFit : A × B → Type 0
  BothFit p = Fits p.0 × Fits' p.0 p.1

  abbrev paired : A → B × List ℕ → Result ((A × B) × List ℕ) Stop
  paired a y = Ok ((a, y.0), y.1)

  abbrev behind : A × List ℕ → Result ((A × B) × List ℕ) Stop
  behind x = second x.0 x.1 >>= paired x.0

  both_again : IsFormat first text Fits → ((a : A) → Fits a → IsFormat (second a) text' (Fits' a)) → (p : A × B) (rest : List ℕ) → BothFit p → both first second (both_text p ++ rest) ≡ Ok (p, rest)
  both_again f g p rest fit =
      let e : both_text p ++ rest ≡ text p.0 ++ (text' p.1 ++ rest) = append_assoc (text p.0) (text' p.1) rest in
      let one : first (both_text p ++ rest) ≡ Ok (p.0, text' p.1 ++ rest) = ap first e ∙ f.again p.0 (text' p.1 ++ rest) fit.0 in
      let two : second p.0 (text' p.1 ++ rest) ≡ Ok (p.1, rest) = (g p.0 fit.0).again p.1 rest fit.1 in
      ap (λ (r : Result (A × List ℕ) Stop). r >>= behind) one ∙ ap (λ (r : Result (B × List ℕ) Stop). r >>= paired p.0) two

  both_takes : IsFormat first text Fits → ((a : A) → Fits a → IsFormat (second a) text' (Fits' a)) → (bytes : List ℕ) (p : A × B) (rest : List ℕ) → AreBytes bytes → both first second bytes ≡ Ok (p, rest) → (bytes ≡ both_text p ++ rest) × BothFit p
  both_takes f g bytes p rest fits e =
      let a = bind_ok (first bytes) behind (p, rest) e in
      let x = a.0 in
      let one = f.takes bytes x.0 x.1 fits a.1.0 in
      let b = bind_ok (second x.0 x.1) (paired x.0) (p, rest) a.1.1 in
      let y = b.0 in
      let fits' : AreBytes x.1 = AreBytes-right (text x.0) x.1 (subst AreBytes one.0 fits) in
      let two = (g x.0 one.1).takes x.1 y.0 y.1 fits' b.1.0 in
      let whole : bytes ≡ (text x.0 ++ text' y.0) ++ y.1 = one.0 ∙ ap (λ (t : List ℕ). text x.0 ++ t) two.0 ∙ sym (append_assoc (text x.0) (text' y.0) y.1) in
      let made : (A × B) × List ℕ = ((x.0, y.0), y.1) in
      subst (λ (q : (A × B) × List ℕ). (bytes ≡ both_text q.0 ++ q.1) × BothFit q.0) (ok_is made (p, rest) b.1.1) (whole, (one.1, two.1))

  -- where the first goes on, both do
  first_goes_on : ((a : A) → Fits a → IsFormat (second a) text' (Fits' a)) → (front : List ℕ) → GoesOn text Fits front → GoesOn both_text BothFit front
  first_goes_on g front h =
      let last = (g h.0 h.3.0).some in
      let whole : text h.0 ++ text' last.0 ≡ front ++ h.1 ∷ (h.2 ++ text' last.0) = ap (λ (t : List ℕ). t ++ text' last.0) h.3.1 ∙ append_assoc front (h.1 ∷ h.2) (text' last.0) in
      ((h.0, last.0), h.1, h.2 ++ text' last.0, ((h.3.0, last.1), whole))

  -- where the second goes on behind a first, both do
  second_goes_on : (a : A) (front : List ℕ) → Fits a → GoesOn text' (Fits' a) front → GoesOn both_text BothFit (text a ++ front)
  second_goes_on a front fit h =
      let whole : text a ++ text' h.0 ≡ (text a ++ front) ++ h.1 ∷ h.2 = ap (λ (t : List ℕ). text a ++ t) h.3.1 ∙ sym (append_assoc (text a) front (h.1 ∷ h.2)) in
      ((a, h.0), h.1, h.2, ((fit, h.3.0), whole))

  both_short : IsFormat first text Fits → ((a : A) → Fits a → IsFormat (second a) text' (Fits' a)) → (bytes : List ℕ) → AreBytes bytes → both first second bytes ≡ Err Short → GoesOn both_text BothFit bytes
  both_short f g bytes fits e =
      elim (bind_err (first bytes) behind Short e) [
        | inl h ↦ first_goes_on g bytes (f.short bytes fits h)
        | inr a ↦
            let x = a.0 in
            let one = f.takes bytes x.0 x.1 fits a.1.0 in
            let fits' : AreBytes x.1 = AreBytes-right (text x.0) x.1 (subst AreBytes one.0 fits) in
            elim (bind_err (second x.0 x.1) (paired x.0) Short a.1.1) [
              | inl h ↦ subst (GoesOn both_text BothFit) (sym one.0) (second_goes_on x.0 x.1 one.1 ((g x.0 one.1).short x.1 fits' h))
              | inr b ↦ absurd cc
            ]
      ]

  first_stops : ((a : A) → Fits a → IsFormat (second a) text' (Fits' a)) → (bytes : List ℕ) (left : ℕ) → StopsAt first text Fits bytes left → StopsAt (both first second) both_text BothFit bytes left
  first_stops g bytes left s = record {
    front = s.front;
    code = s.code;
    after = s.after;
    whole = s.whole;
    place = s.place;
    before = first_goes_on g s.front s.before;
    refused = λ rest. ap (λ (r : Result (A × List ℕ) Stop). r >>= behind) (s.refused rest);
  }

  second_stops : IsFormat first text Fits → (bytes : List ℕ) (a : A) (rest : List ℕ) (left : ℕ) → Fits a → bytes ≡ text a ++ rest → StopsAt (second a) text' (Fits' a) rest left → StopsAt (both first second) both_text BothFit bytes left
  second_stops f bytes a rest left fit e s = record {
    front = text a ++ s.front;
    code = s.code;
    after = s.after;
    whole = e ∙ ap (λ (t : List ℕ). text a ++ t) s.whole ∙ sym (append_assoc (text a) s.front (s.code ∷ s.after));
    place = s.place;
    before = second_goes_on a s.front fit s.before;
    refused = λ more.
        ap (λ (t : List ℕ). both first second t) (append_assoc (text a) s.front (s.code ∷ more))
        ∙ ap (λ (r : Result (A × List ℕ) Stop). r >>= behind) (f.again a (s.front ++ s.code ∷ more) fit)
        ∙ ap (λ (r : Result (B × List ℕ) Stop). r >>= paired a) (s.refused more);
  }

  both_bad : IsFormat first text Fits → ((a : A) → Fits a → IsFormat (second a) text' (Fits' a)) → (bytes : List ℕ) (left : ℕ) → AreBytes bytes → both first second bytes ≡ Err (Refused left) → StopsAt (both first second) both_text BothFit bytes left
  both_bad f g bytes left fits e =
      elim (bind_err (first bytes) behind (Refused left) e) [
        | inl h ↦ first_stops g bytes left (f.bad bytes left fits h)
        | inr a ↦
            let x = a.0 in
            let one = f.takes bytes x.0 x.1 fits a.1.0 in
            let fits' : AreBytes x.1 = AreBytes-right (text x.0) x.1 (subst AreBytes one.0 fits) in
            elim (bind_err (second x.0 x.1) (paired x.0) (Refused left) a.1.1) [
              | inl h ↦ second_stops f bytes x.0 x.1 left one.1 one.0 ((g x.0 one.1).bad x.1 left fits' h)
              | inr b ↦ absurd cc
            ]
      ]

  pub both_format : IsFormat first text Fits → ((a : A) → Fits a → IsFormat (second a) text' (Fits' a)) → IsFormat (both first second) both_text BothFit
  both_format f g = record {
    again = both_again f g;
    takes = both_takes f g;
    some = let a = f.some in let b = (g a.0 a.1).some in ((a.0, b.0), (a.1, b.1));
    octets = λ p fit. All-append IsByte (text p.0) (text' p.1) (f.octets p.0 fit.0) ((g p.0 fit.0).octets p.1 fit.1);
    short = both_short f g;
    bad = both_bad f g;
  }

-- ---- what is made of a value

-- each value that fits is made of one that fits, and has its bytes
pub record IsMade {A B : Type 0} (text : A → List ℕ) (Fits : A → Type 0) (make : A → B) (text' : B → List ℕ) (Fits' : B → Type 0) : Type 0 where
  pub to : (a : A) → Fits a → Fits' (make a)
  pub same : (a : A) → Fits a → text' (make a) ≡ text a
  pub from : (b : B) → Fits' b → (a : A) × (Fits a × (make a ≡ b))

module _ {A B : Type 0} (read : Reader A) (text : A → List ℕ) (Fits : A → Type 0) (make : A → B) (text' : B → List ℕ) (Fits' : B → Type 0) where
  abbrev finish : A × List ℕ → Result (B × List ℕ) Stop
  finish x = Ok (make x.0, x.1)

  made_again : IsFormat read text Fits → IsMade text Fits make text' Fits' → (b : B) (rest : List ℕ) → Fits' b → made make read (text' b ++ rest) ≡ Ok (b, rest)
  made_again f m b rest fit =
      let a = m.from b fit in
      let here : made make read (text' (make a.0) ++ rest) ≡ Ok (make a.0, rest) =
      ap (λ (t : List ℕ). made make read (t ++ rest)) (m.same a.0 a.1.0)
      ∙ ap (λ (r : Result (A × List ℕ) Stop). r >>= finish) (f.again a.0 rest a.1.0) in
      subst (λ (c : B). made make read (text' c ++ rest) ≡ Ok (c, rest)) a.1.1 here

  made_takes : IsFormat read text Fits → IsMade text Fits make text' Fits' → (bytes : List ℕ) (b : B) (rest : List ℕ) → AreBytes bytes → made make read bytes ≡ Ok (b, rest) → (bytes ≡ text' b ++ rest) × Fits' b
  made_takes f m bytes b rest fits e =
      let a = bind_ok (read bytes) finish (b, rest) e in
      let one = f.takes bytes a.0.0 a.0.1 fits a.1.0 in
      let got : B × List ℕ = (make a.0.0, a.0.1) in
      subst (λ (q : B × List ℕ). (bytes ≡ text' q.0 ++ q.1) × Fits' q.0) (ok_is got (b, rest) a.1.1)
      (one.0 ∙ ap (λ (t : List ℕ). t ++ a.0.1) (sym (m.same a.0.0 one.1)), m.to a.0.0 one.1)

  made_goes_on : IsMade text Fits make text' Fits' → (front : List ℕ) → GoesOn text Fits front → GoesOn text' Fits' front
  made_goes_on m front h = (make h.0, h.1, h.2, (m.to h.0 h.3.0, m.same h.0 h.3.0 ∙ h.3.1))

  made_short : IsFormat read text Fits → IsMade text Fits make text' Fits' → (bytes : List ℕ) → AreBytes bytes → made make read bytes ≡ Err Short → GoesOn text' Fits' bytes
  made_short f m bytes fits e =
      elim (bind_err (read bytes) finish Short e) [
        | inl h ↦ made_goes_on m bytes (f.short bytes fits h)
        | inr a ↦ absurd cc
      ]

  made_stops : IsMade text Fits make text' Fits' → (bytes : List ℕ) (left : ℕ) → StopsAt read text Fits bytes left → StopsAt (made make read) text' Fits' bytes left
  made_stops m bytes left s = record {
    front = s.front;
    code = s.code;
    after = s.after;
    whole = s.whole;
    place = s.place;
    before = made_goes_on m s.front s.before;
    refused = λ rest. ap (λ (r : Result (A × List ℕ) Stop). r >>= finish) (s.refused rest);
  }

  made_bad : IsFormat read text Fits → IsMade text Fits make text' Fits' → (bytes : List ℕ) (left : ℕ) → AreBytes bytes → made make read bytes ≡ Err (Refused left) → StopsAt (made make read) text' Fits' bytes left
  made_bad f m bytes left fits e =
      elim (bind_err (read bytes) finish (Refused left) e) [
        | inl h ↦ made_stops m bytes left (f.bad bytes left fits h)
        | inr a ↦ absurd cc
      ]

  pub made_format : IsFormat read text Fits → IsMade text Fits make text' Fits' → IsFormat (made make read) text' Fits'
  made_format f m = record {
    again = made_again f m;
    takes = made_takes f m;
    some = let a = f.some in (make a.0, m.to a.0 a.1);
    octets = λ b fit. let a = m.from b fit in subst (λ (c : B). AreBytes (text' c)) a.1.1 (subst AreBytes (sym (m.same a.0 a.1.0)) (f.octets a.0 a.1.0));
    short = made_short f m;
    bad = made_bad f m;
  }

-- ---- so many values

abbrev pub SoMany : {A : Type 0} → (A → Type 0) → ℕ → List A → Type 0
SoMany Fits n xs = (length xs ≡ n) × All Fits xs

module _ {A : Type 0} (read : Reader A) (text : A → List ℕ) (Fits : A → Type 0) where
  nothing_again : (xs : List A) (rest : List ℕ) → SoMany Fits 0 xs → times 0 read (flat_map text xs ++ rest) ≡ Ok (xs, rest)
  nothing_again [] rest fit = refl
  nothing_again (x ∷ xs) rest fit = let e : suc (length xs) ≡ 0 = fit.0 in absurd (omega arith)

  nothing_takes : (bytes : List ℕ) (xs : List A) (rest : List ℕ) → AreBytes bytes → times 0 read bytes ≡ Ok (xs, rest) → (bytes ≡ flat_map text xs ++ rest) × SoMany Fits 0 xs
  nothing_takes bytes xs rest fits e =
      let got : List A × List ℕ = ([], bytes) in
      subst (λ (q : List A × List ℕ). (bytes ≡ flat_map text q.0 ++ q.1) × SoMany Fits 0 q.0) (ok_is got (xs, rest) e) (refl, (refl, All-nil Fits))

  nothing_octets : (xs : List A) → SoMany Fits 0 xs → AreBytes (flat_map text xs)
  nothing_octets [] fit = All-nil IsByte
  nothing_octets (x ∷ xs) fit = let e : suc (length xs) ≡ 0 = fit.0 in absurd (omega arith)

  nothing_format : IsFormat (times 0 read) (flat_map text) (SoMany Fits 0)
  nothing_format = record {
    again = nothing_again;
    takes = nothing_takes;
    some = ([], (refl, All-nil Fits));
    octets = nothing_octets;
    short = λ bytes fits e. absurd cc;
    bad = λ bytes left fits e. absurd cc;
  }

  abbrev joined : A × List A → List A
  joined x = x.0 ∷ x.1

  one_more : (n : ℕ) (xs : List A) → SoMany Fits (suc n) xs → (p : A × List A) × (BothFit read text Fits (λ _. times n read) (flat_map text) (λ _. SoMany Fits n) p × (joined p ≡ xs))
  one_more n [] fit = let e : 0 ≡ suc n = fit.0 in absurd (omega arith)
  one_more n (x ∷ xs) fit = let e : suc (length xs) ≡ suc n = fit.0 in ((x, xs), ((All-head Fits x xs fit.1, (omega arith, All-tail Fits x xs fit.1)), refl))

  joined_made : (n : ℕ) → IsMade (both_text read text Fits (λ _. times n read) (flat_map text) (λ _. SoMany Fits n)) (BothFit read text Fits (λ _. times n read) (flat_map text) (λ _. SoMany Fits n)) joined (flat_map text) (SoMany Fits (suc n))
  joined_made n = record {
    to = λ a fit. (ap suc fit.1.0, All-cons Fits a.0 a.1 fit.0 fit.1.1);
    same = λ a fit. refl;
    from = one_more n;
  }

  pub times_format : IsFormat read text Fits → (n : ℕ) → IsFormat (times n read) (flat_map text) (SoMany Fits n)
  times_format f zero = nothing_format
  times_format f (suc n) =
      let two = both_format read text Fits (λ _. times n read) (flat_map text) (λ _. SoMany Fits n) f (λ a fit. times_format f n) in
      made_format (both read (λ _. times n read)) (both_text read text Fits (λ _. times n read) (flat_map text) (λ _. SoMany Fits n)) (BothFit read text Fits (λ _. times n read) (flat_map text) (λ _. SoMany Fits n)) joined (flat_map text) (SoMany Fits (suc n)) two (joined_made n)
