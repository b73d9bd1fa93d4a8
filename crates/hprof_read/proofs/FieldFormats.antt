-- The formats of single fields: numbers, bytes as they stand, bytes that pass a test, and counts before values.
use Rattle.std.proofs.Common.{◌≡◌, ℕ, zero, suc, ◌-◌, ◌^◌, ◌≤◌, ◌<◌, Bool, true, false, cond, ltb, List, [], ◌∷◌, ◌++◌, length, get_or, take, drop, replicate, Ok, Err, refl, sym, ap, subst, ◌∙◌, arith, inl, inr}
use Rattle.std.specs.Int.{Width, byte_at, w8, w16, w32, byte_len, from_be_bytes, to_be_bytes, w64}
use Rattle.std.proofs.lemmas.Bool.{cases_lt, ltb-false, ltb-true, le-ltb}
use Rattle.std.proofs.lemmas.List.{length-replicate, take_at, drop_at, take-append-drop, length-append, length-take, get_or_past}
use Rattle.std.proofs.lemmas.List.Elements.{All-nil, All-cons, All-append, All-replicate, All-take, All-get_or, All-head}
use Rattle.std.proofs.lemmas.Nat.{be_bytes_2, be_bytes_4, from_be_bytes-to_be_bytes_2, from_be_bytes-to_be_bytes_4, be_bytes_8, from_be_bytes-to_be_bytes_8}
use Rattle.hprof_records.specs.Fields.{field}
use Rattle.hprof_records.specs.Formed.{IsByte}
use Rattle.hprof_read.specs.declared.fields.Stop.{Stop}
use Rattle.hprof_read.specs.declared.fields.Stop.TheVariants.{Short, Refused}
use Rattle.hprof_read.specs.Reading.{number, raw, checked}
use Rattle.hprof_read.proofs.Formats.{AreBytes, GoesOn, StopsAt, IsFormat, SoMany}

-- a test that let a value through, and one that didn't
pub guard_ok : {A : Type 0} (t : Bool) (d : Stop) (x y : A) → cond t (Err d) (Ok x) ≡ Ok y → (t ≡ false) × (x ≡ y)
guard_ok true d x y e = absurd cc
guard_ok false d x y e = (refl, cc)

pub guard_err : {A : Type 0} (t : Bool) (d s : Stop) (x : A) → cond t (Err d) (Ok x) ≡ Err s → (t ≡ true) × (d ≡ s)
guard_err true d s x e = (refl, cc)
guard_err false d s x e = absurd cc

-- bytes at each place, and zero past them
pub fits_at : (bytes : List ℕ) → AreBytes bytes → (i : ℕ) → get_or bytes i 0 < 256
fits_at bytes h i =
    elim (cases_lt i (length bytes)) [
      | inl lt ↦ All-get_or IsByte bytes i 0 lt h
      | inr le ↦ rw (get_or_past bytes i 0 le) (omega arith)
    ]

-- bytes with zeros up to a length
abbrev pub padded : List ℕ → ℕ → List ℕ
padded bytes more = bytes ++ 0 ∷ replicate more 0

pub AreBytes-padded : (bytes : List ℕ) (more : ℕ) → AreBytes bytes → AreBytes (padded bytes more)
AreBytes-padded bytes more h =
    let zero_fits : IsByte 0 = omega arith in
    All-append IsByte bytes (replicate (suc more) 0) h (All-replicate IsByte (suc more) 0 zero_fits)

pub length-padded : (bytes : List ℕ) (n : ℕ) → length bytes < n → length (padded bytes (n - length bytes - 1)) ≡ n
length-padded bytes n lt = simp (length-append, length-replicate) (omega arith)

-- ---- numbers

pub record IsWide (w : Width) (limit : ℕ) : Type 0 where
  pub len : (n : ℕ) → length (to_be_bytes w n) ≡ byte_len w
  pub back : (bytes : List ℕ) → length bytes ≡ byte_len w → AreBytes bytes → to_be_bytes w (from_be_bytes w bytes) ≡ bytes
  pub again : (n : ℕ) → n < limit → from_be_bytes w (to_be_bytes w n) ≡ n
  pub below : (bytes : List ℕ) → AreBytes bytes → from_be_bytes w bytes < limit
  pub some : 0 < limit

one_cell : (bytes : List ℕ) → length bytes ≡ 1 → AreBytes bytes → to_be_bytes w8 (from_be_bytes w8 bytes) ≡ bytes
one_cell [] e h = absurd (omega arith)
one_cell (a ∷ []) e h = let lt : a < 256 = All-head IsByte a [] h in ap (λ (b : ℕ). b ∷ []) (omega arith)
one_cell (a ∷ b ∷ bytes) e h = absurd (omega arith)

pub wide8 : IsWide w8 (2 ^ 8)
wide8 = record {
  len = λ n. refl;
  back = one_cell;
  again = λ n lt. omega arith;
  below = λ bytes h. omega (arith, fits_at bytes h 0);
  some = omega arith;
}

pub wide16 : IsWide w16 (2 ^ 16)
wide16 = record {
  len = λ n. refl;
  back = λ bytes len h. be_bytes_2 bytes _ len (fits_at bytes h) refl;
  again = λ n lt. from_be_bytes-to_be_bytes_2 n lt;
  below = λ bytes h. omega (arith, fits_at bytes h 0, fits_at bytes h 1);
  some = omega arith;
}

pub wide32 : IsWide w32 (2 ^ 32)
wide32 = record {
  len = λ n. refl;
  back = λ bytes len h. be_bytes_4 bytes _ len (fits_at bytes h) refl;
  again = λ n lt. from_be_bytes-to_be_bytes_4 n lt;
  below = λ bytes h. omega (arith, fits_at bytes h 0, fits_at bytes h 1, fits_at bytes h 2, fits_at bytes h 3);
  some = omega arith;
}

pub wide64 : IsWide w64 (2 ^ 64)
wide64 = record {
  len = λ n. refl;
  back = λ bytes len h. be_bytes_8 bytes _ len (fits_at bytes h) refl;
  again = λ n lt. from_be_bytes-to_be_bytes_8 n lt;
  below = λ bytes h. omega (arith, fits_at bytes h 0, fits_at bytes h 1, fits_at bytes h 2, fits_at bytes h 3, fits_at bytes h 4, fits_at bytes h 5, fits_at bytes h 6, fits_at bytes h 7);
  some = omega arith;
}

byte_small : (k n : ℕ) → byte_at k n < 256
byte_small zero n = omega arith
byte_small (suc k) n = omega arith

pub field_octets : (k n : ℕ) → AreBytes (field k n)
field_octets zero n = All-nil IsByte
field_octets (suc k) n = All-cons IsByte (byte_at k n) (field k n) (byte_small k n) (field_octets k n)

module _ (w : Width) (limit : ℕ) (wide : IsWide w limit) where
  abbrev pub number_text : ℕ → List ℕ
  number_text n = to_be_bytes w n

  abbrev pub NumberFits : ℕ → Type 0
  NumberFits n = n < limit

  number_again : (n : ℕ) (rest : List ℕ) → n < limit → number w (number_text n ++ rest) ≡ Ok (n, rest)
  number_again n rest lt =
      let len = wide.len n in
      let long : ltb (length (number_text n ++ rest)) (byte_len w) ≡ false = le-ltb _ _ (omega (arith, length-append (number_text n) rest)) in
      rw (long, take_at (number_text n) rest (byte_len w) len, drop_at (number_text n) rest (byte_len w) len, wide.again n lt) refl

  number_takes : (bytes : List ℕ) (n : ℕ) (rest : List ℕ) → AreBytes bytes → number w bytes ≡ Ok (n, rest) → (bytes ≡ number_text n ++ rest) × (n < limit)
  number_takes bytes n rest fits e =
      let front = take (byte_len w) bytes in
      let got : ℕ × List ℕ = (from_be_bytes w front, drop (byte_len w) bytes) in
      let g = guard_ok (ltb (length bytes) (byte_len w)) Short got (n, rest) e in
      let long : byte_len w ≤ length bytes = ltb-false _ _ g.0 in
      let are : AreBytes front = All-take IsByte (byte_len w) bytes fits in
      let stands : number_text (from_be_bytes w front) ≡ front = wide.back front (omega (arith, length-take (byte_len w) bytes)) are in
      subst (λ (q : ℕ × List ℕ). (bytes ≡ number_text q.0 ++ q.1) × (q.0 < limit)) g.1
      (rw stands (sym (take-append-drop (byte_len w) bytes)), wide.below front are)

  number_short : (bytes : List ℕ) → AreBytes bytes → number w bytes ≡ Err Short → GoesOn number_text NumberFits bytes
  number_short bytes fits e =
      let got : ℕ × List ℕ = (from_be_bytes w (take (byte_len w) bytes), drop (byte_len w) bytes) in
      let g = guard_err (ltb (length bytes) (byte_len w)) Short Short got e in
      let lt : length bytes < byte_len w = ltb-true _ _ g.0 in
      let more = byte_len w - length bytes - 1 in
      let all = padded bytes more in
      let are = AreBytes-padded bytes more fits in
      (from_be_bytes w all, 0, replicate more 0, (wide.below all are, wide.back all (length-padded bytes (byte_len w) lt) are))

  pub number_format : IsFormat (number w) number_text NumberFits
  number_format = record {
    again = number_again;
    takes = number_takes;
    some = (0, wide.some);
    octets = λ n lt. field_octets (byte_len w) n;
    short = number_short;
    bad = λ bytes left fits e.
        let got : ℕ × List ℕ = (from_be_bytes w (take (byte_len w) bytes), drop (byte_len w) bytes) in
        let g = guard_err (ltb (length bytes) (byte_len w)) Short (Refused left) got e in
        absurd cc;
  }

pub byte_format : IsFormat (number w8) (field 1) (λ n. n < 2 ^ 8)
byte_format = number_format w8 (2 ^ 8) wide8

pub long_number_format : IsFormat (number w64) (field 8) (λ n. n < 2 ^ 64)
long_number_format = number_format w64 (2 ^ 64) wide64

pub half_format : IsFormat (number w16) (field 2) (λ n. n < 2 ^ 16)
half_format = number_format w16 (2 ^ 16) wide16

pub word_format : IsFormat (number w32) (field 4) (λ n. n < 2 ^ 32)
word_format = number_format w32 (2 ^ 32) wide32

-- ---- bytes as they stand

abbrev pub same_bytes : List ℕ → List ℕ
same_bytes bytes = bytes

raw_again : (n : ℕ) (xs rest : List ℕ) → SoMany IsByte n xs → raw n (xs ++ rest) ≡ Ok (xs, rest)
raw_again n xs rest fit =
    let long : ltb (length (xs ++ rest)) n ≡ false = le-ltb _ _ (omega (arith, length-append xs rest, fit.0)) in
    rw (long, take_at xs rest n fit.0, drop_at xs rest n fit.0) refl

raw_takes : (n : ℕ) (bytes xs rest : List ℕ) → AreBytes bytes → raw n bytes ≡ Ok (xs, rest) → (bytes ≡ xs ++ rest) × SoMany IsByte n xs
raw_takes n bytes xs rest fits e =
    let got : List ℕ × List ℕ = (take n bytes, drop n bytes) in
    let g = guard_ok (ltb (length bytes) n) Short got (xs, rest) e in
    let long : n ≤ length bytes = ltb-false _ _ g.0 in
    subst (λ (q : List ℕ × List ℕ). (bytes ≡ q.0 ++ q.1) × SoMany IsByte n q.0) g.1
    (sym (take-append-drop n bytes), (omega (arith, length-take n bytes), All-take IsByte n bytes fits))

raw_short : (n : ℕ) (bytes : List ℕ) → AreBytes bytes → raw n bytes ≡ Err Short → GoesOn same_bytes (SoMany IsByte n) bytes
raw_short n bytes fits e =
    let got : List ℕ × List ℕ = (take n bytes, drop n bytes) in
    let g = guard_err (ltb (length bytes) n) Short Short got e in
    let lt : length bytes < n = ltb-true _ _ g.0 in
    let more = n - length bytes - 1 in
    (padded bytes more, 0, replicate more 0, ((length-padded bytes n lt, AreBytes-padded bytes more fits), refl))

pub raw_format : (n : ℕ) → IsFormat (raw n) same_bytes (SoMany IsByte n)
raw_format n = record {
  again = raw_again n;
  takes = raw_takes n;
  some = let zero_fits : IsByte 0 = omega arith in (replicate n 0, (length-replicate n 0, All-replicate IsByte n 0 zero_fits));
  octets = λ xs fit. fit.1;
  short = raw_short n;
  bad = λ bytes left fits e.
      let got : List ℕ × List ℕ = (take n bytes, drop n bytes) in
      let g = guard_err (ltb (length bytes) n) Short (Refused left) got e in
      absurd cc;
}

-- ---- a byte that passes a test

chosen_ok : (t : Bool) (x y : ℕ × List ℕ) (s : Stop) → cond t (Ok x) (Err s) ≡ Ok y → (t ≡ true) × (x ≡ y)
chosen_ok true x y s e = (refl, cc)
chosen_ok false x y s e = absurd cc

chosen_err : (t : Bool) (x : ℕ × List ℕ) (s r : Stop) → cond t (Ok x) (Err s) ≡ Err r → (t ≡ false) × (s ≡ r)
chosen_err true x s r e = absurd cc
chosen_err false x s r e = (refl, cc)

pub cell : (n : ℕ) → n < 256 → field 1 n ≡ n ∷ []
cell n lt = ap (λ (b : ℕ). b ∷ []) (omega arith)

module _ (test : ℕ → Bool) (good : ℕ) (passes : test good ≡ true) (small : (c : ℕ) → test c ≡ true → c < 256) where
  abbrev pub Passes : ℕ → Type 0
  Passes c = test c ≡ true

  checked_again : (c : ℕ) (rest : List ℕ) → Passes c → checked test (field 1 c ++ rest) ≡ Ok (c, rest)
  checked_again c rest h =
      let one : checked test (c ∷ rest) ≡ Ok (c, rest) = rw h refl in
      ap (λ (t : List ℕ). checked test (t ++ rest)) (cell c (small c h)) ∙ one

  checked_takes : (bytes : List ℕ) (c : ℕ) (rest : List ℕ) → AreBytes bytes → checked test bytes ≡ Ok (c, rest) → (bytes ≡ field 1 c ++ rest) × Passes c
  checked_takes [] c rest fits e = absurd cc
  checked_takes (b ∷ bytes) c rest fits e =
      let got : ℕ × List ℕ = (b, bytes) in
      let g = chosen_ok (test b) got (c, rest) (Refused (suc (length bytes))) e in
      subst (λ (q : ℕ × List ℕ). (b ∷ bytes ≡ field 1 q.0 ++ q.1) × Passes q.0) g.1 (ap (λ (t : List ℕ). t ++ bytes) (sym (cell b (All-head IsByte b bytes fits))), g.0)

  checked_short : (bytes : List ℕ) → AreBytes bytes → checked test bytes ≡ Err Short → GoesOn (field 1) Passes bytes
  checked_short [] fits e = (good, good, [], (passes, cell good (small good passes)))
  checked_short (b ∷ bytes) fits e =
      let got : ℕ × List ℕ = (b, bytes) in
      let g = chosen_err (test b) got (Refused (suc (length bytes))) Short e in
      absurd cc

  checked_bad : (bytes : List ℕ) (left : ℕ) → AreBytes bytes → checked test bytes ≡ Err (Refused left) → StopsAt (checked test) (field 1) Passes bytes left
  checked_bad [] left fits e = absurd cc
  checked_bad (b ∷ bytes) left fits e =
      let got : ℕ × List ℕ = (b, bytes) in
      let g = chosen_err (test b) got (Refused (suc (length bytes))) (Refused left) e in
      let same : left ≡ suc (length bytes) = cc in
      record {
        front = [];
        code = b;
        after = bytes;
        whole = refl;
        place = same;
        before = (good, good, [], (passes, cell good (small good passes)));
        refused = λ rest. rw g.0 refl;
      }

  pub checked_format : IsFormat (checked test) (field 1) Passes
  checked_format = record {
    again = checked_again;
    takes = checked_takes;
    some = (good, passes);
    octets = λ c h. field_octets 1 c;
    short = checked_short;
    bad = checked_bad;
  }
