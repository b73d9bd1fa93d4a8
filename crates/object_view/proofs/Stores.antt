-- What a write of a number is to the object that it lies in.
use Rattle.std.proofs.Common.{◌≡◌, ◌≢◌, ◌⊎◌, ◌∙◌, ℕ, ◌+◌, List, [], ◌∷◌, length, Bool, true, false, true≢false, ◌&&◌, nat_le, ℤ, pos, to_z, of_z, refl, sym, ap, subst, arith}
use Rattle.std.specs.Prelude.{Result, Ok, Err, OnOk, OnErr, IsOk}
use Rattle.std.specs.Int.{Width, w8, w16, w32, w64}
use mir.Val.{SFits}
use Rattle.std.proofs.lemmas.Int.{to_z-of_z}
use Rattle.std.proofs.lemmas.Bool.{leb-true}
use Rattle.std.specs.List.{AllByRecursion}
use Rattle.std.proofs.Common.{inl, inr}
use Rattle.class_layout.specs.ClassList.{Class}
use Rattle.class_layout.specs.Placing.{IsIn}
use Rattle.class_layout.specs.declared.kind.FieldAt.{FieldAt}
use Rattle.class_layout.specs.declared.kind.Kind.{Kind}
use Rattle.heap_graph.specs.declared.names.Shape.{Shape}
use Rattle.object_view.specs.declared.names.Header.{Header}
use Rattle.heap_graph.specs.Places.{places_of}
use Rattle.object_view.specs.Objects.{IsPlace, Stands}
use lib.IntN.{negsuc, nat_abs}
use Rattle.class_layout.specs.declared.kind.Kind.TheVariants.{Ref, Boolean, Byte, Char, Short, Int, Long}
use Rattle.class_layout.specs.Kinds.{kind_bytes}
use Rattle.page_tables.specs.Address.{page_of}
use Rattle.cow_pages.specs.Memory.{Memory, HasOneSharer, IsShared, IsSound}
use Rattle.cow_pages.specs.Change.{TakesOnCopy, WritesPage}
use Rattle.cow_pages.specs.View.{View, view_of, WritesBytes}
use Rattle.object_view.specs.Changes.{ChangesWithin, PutsNumber, StoresNumber}
use Rattle.object_view.specs.Values.{is_value, number_at, number_of, value_of}
use Rattle.object_view.proofs.Spans.{single-pages, OthersSeen-pages, AreWritten-write}
use Rattle.object_view.proofs.Outcomes.{on_ok_both}
use Rattle.std.proofs.lemmas.Result.{on_ok_weaker}

PutsNumber-write : (v w : View) (kind : Kind) (at n : ℕ) (bytes : List ℕ) → length bytes ≡ kind_bytes kind → WritesBytes v w at bytes → number_at w kind at ≡ n → PutsNumber v w kind at n
PutsNumber-write v w kind at n bytes long writes there =
    record {
      there = there;
      rest = subst (λ k. ChangesWithin v w at (at + k)) long (record { others = writes.others; mapped = writes.mapped });
    }

-- the byte that was written
pub one-byte : (v w : View) (at n : ℕ) → WritesBytes v w at (n ∷ []) → w.byte at ≡ n
one-byte v w at n writes = let there : w.byte (at + 0) ∷ [] ≡ n ∷ [] = writes.there in ap w.byte (let e : at ≡ at + 0 = omega arith in e) ∙ head there
  where
    head : {x y : ℕ} → x ∷ [] ≡ y ∷ [] → x ≡ y
    head e = cc

reads-same : {T E : Type 0} (r : Result T E) (old new : Memory) (t at : ℕ) (bytes : List ℕ) → OnOk r (WritesPage old new t at bytes) → OnErr r (new ≡ old) → new.reads ≡ old.reads
reads-same (Ok x) old new t at bytes w err = w.rest.reads
reads-same (Err e) old new t at bytes w err = ap (λ (m : Memory). m.reads) err

pub StoresNumber-write : {T E : Type 0} (r : Result T E) (old new : Memory) (t : ℕ) (kind : Kind) (at n : ℕ) (bytes : List ℕ) → length bytes ≡ kind_bytes kind
    → OnOk r (number_at (view_of new t) kind at ≡ n) → OnOk r (WritesPage old new t at bytes) → OnOk r (WritesBytes (view_of old t) (view_of new t) at bytes) → OnOk r (TakesOnCopy old new t (page_of at))
    → (HasOneSharer old t (page_of at) ⊎ (old.spare ≢ 0) → IsOk r) → OnErr r (IsShared old t (page_of at) × (old.spare ≡ 0)) → OnErr r (new ≡ old) → IsSound new → StoresNumber r old new t kind at n
StoresNumber-write r old new t kind at n bytes long there page view takes succeeds only err sound = record {
  puts = on_ok_both r (PutsNumber-write (view_of old t) (view_of new t) kind at n bytes long) view there;
  pages = single-pages r old new t at (page_of at) bytes refl page takes err;
  written = on_ok_weaker r (λ w. AreWritten-write old new t at bytes w) page;
  others_seen = OthersSeen-pages old new t (page_of at) 1 (single-pages r old new t at (page_of at) bytes refl page takes err);
  reads = reads-same r old new t at bytes page err;
  succeeds = succeeds;
  takes = takes;
  only = only;
  err = err;
  sound = sound;
}

-- a value that isn't negative is its own number
pub abs-ref : (v : ℤ) → is_value Ref v ≡ true → nat_abs v ≡ number_of Ref v
abs-ref (pos n) is = refl
abs-ref (negsuc n) is = absurd (true≢false (sym is))

pub abs-boolean : (v : ℤ) → is_value Boolean v ≡ true → nat_abs v ≡ number_of Boolean v
abs-boolean (pos n) is = refl
abs-boolean (negsuc n) is = absurd (true≢false (sym is))

pub abs-char : (v : ℤ) → is_value Char v ≡ true → nat_abs v ≡ number_of Char v
abs-char (pos n) is = refl
abs-char (negsuc n) is = absurd (true≢false (sym is))

-- a signed value in two's complement, through the casts of the code
pub signed-number : (w : Width) (v : ℤ) (n : ℕ) → SFits w64 v → SFits w v → n ≡ of_z w (to_z w (of_z w (to_z w64 (of_z w64 v)))) → n ≡ of_z w v
signed-number w v n wide fits is = is ∙ ap (λ z. of_z w (to_z w (of_z w z))) (to_z-of_z w64 v wide) ∙ ap (of_z w) (to_z-of_z w v fits)

left : (b : Bool) → (b && true) ≡ true → b ≡ true
left true is = refl
left false is = is

pub fits-byte : (v : ℤ) → is_value Byte v ≡ true → SFits w8 v
fits-byte (pos n) is = record { sfits = omega (arith, leb-true n 127 is) }
fits-byte (negsuc n) is = record { sfits = omega (arith, leb-true n 127 (left (nat_le n 127) is)) }

pub fits-short : (v : ℤ) → is_value Short v ≡ true → SFits w16 v
fits-short (pos n) is = record { sfits = omega (arith, leb-true n 32767 is) }
fits-short (negsuc n) is = record { sfits = omega (arith, leb-true n 32767 (left (nat_le n 32767) is)) }

pub fits-int : (v : ℤ) → is_value Int v ≡ true → SFits w32 v
fits-int (pos n) is = record { sfits = omega (arith, leb-true n 2147483647 is) }
fits-int (negsuc n) is = record { sfits = omega (arith, leb-true n 2147483647 (left (nat_le n 2147483647) is)) }

pub fits-long : (v : ℤ) → is_value Long v ≡ true → SFits w64 v
fits-long (pos n) is = record { sfits = omega (arith, leb-true n 9223372036854775807 is) }
fits-long (negsuc n) is = record { sfits = omega (arith, leb-true n 9223372036854775807 (left (nat_le n 9223372036854775807) is)) }

-- a number of a value stands for the value
pub value-again : (kind : Kind) (z : ℤ) → is_value kind z ≡ true → value_of kind (number_of kind z) ≡ z
value-again Ref (pos n) is = refl
value-again Ref (negsuc n) is = absurd (true≢false (sym is))
value-again Boolean (pos n) is = refl
value-again Boolean (negsuc n) is = absurd (true≢false (sym is))
value-again Byte z is = to_z-of_z w8 z (fits-byte z is)
value-again Char (pos n) is = refl
value-again Char (negsuc n) is = absurd (true≢false (sym is))
value-again Short z is = to_z-of_z w16 z (fits-short z is)
value-again Int z is = to_z-of_z w32 z (fits-int z is)
value-again Long z is = to_z-of_z w64 z (fits-long z is)

pub all-in : (P : FieldAt → Type 0) (ps : List FieldAt) (p : FieldAt) → IsIn p ps → AllByRecursion P ps → P p
all-in P [] p there all = absurd there
all-in P (q ∷ ps) p (inl same) all = subst P same all.0
all-in P (q ∷ ps) p (inr there) all = all-in P ps p there all.1

-- the number at a place is that of the object's value there
pub number-there : (cs : List Class) (v : View) (at : ℕ) (shape : Shape) (header : Header) (values : FieldAt → ℤ) (kind : Kind) (offset : ℕ) (place : FieldAt)
    → Stands cs v at shape header values → IsPlace cs shape kind offset place → number_at v kind (at + offset) ≡ number_of kind (values place)
number-there cs v at shape header values kind offset place s is =
    let there = all-in (λ p. number_at v p.kind (at + p.offset) ≡ number_of p.kind (values p)) (places_of cs shape) place is.is_in s.numbers in
    subst (λ (k : Kind). number_at v k (at + offset) ≡ number_of k (values place)) is.kind_is
    (subst (λ o. number_at v place.kind (at + o) ≡ number_of place.kind (values place)) is.offset_is there)

-- what is read at a place is the object's value there
pub loaded : (cs : List Class) (v : View) (at : ℕ) (shape : Shape) (header : Header) (values : FieldAt → ℤ) (kind : Kind) (offset : ℕ) (place : FieldAt)
    → Stands cs v at shape header values → IsPlace cs shape kind offset place → is_value kind (values place) ≡ true → value_of kind (number_at v kind (at + offset)) ≡ values place
loaded cs v at shape header values kind offset place s is value =
    ap (value_of kind) (number-there cs v at shape header values kind offset place s is) ∙ value-again kind (values place) value
