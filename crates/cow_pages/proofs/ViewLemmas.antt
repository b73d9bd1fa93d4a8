-- What a change of pages is to the views of tables.
use Rattle.std.proofs.Common.{◌≡◌, ◌≢◌, ◌⊎◌, ℕ, zero, suc, ◌+◌, ◌-◌, ◌<◌, ◌≤◌, List, [], ◌∷◌, map, length, get_or, Some, None, Option, is_some, false, true≢false, refl, sym, ap, subst, ◌∙◌, inl, inr, arith, replicate}
use Rattle.std.proofs.lemmas.Bool.{cases_eq}
use Rattle.std.proofs.lemmas.List.{length-map}
use Rattle.model_numbers.specs.Numbers.{page_bytes}
use Rattle.page_tables.specs.Address.{page_of, offset_of}
use Rattle.cow_pages.specs.Memory.{Memory, Page, Table, page_in, pages_of, page_at, is_live, is_mapped, IsSound}
use Rattle.page_tables.specs.Frame.{patched}
use Rattle.cow_pages.specs.Change.{ChangesPage, ChangesTable, MapsZeros, WritesPage, settled}
use Rattle.cow_pages.specs.View.{View, view_of, byte_at, byte_in, numbers_from, SameView, OthersSeen, AllSeen, MapsPage, UnmapsPage, WritesBytes, IsEmptyView, bytes_at}
use Rattle.page_tables.proofs.PatchLemmas.{patched-before, patched-in, patched-after}

pub byte-page : (old new : Memory) (t u at : ℕ) → page_at new u (page_of at) ≡ page_at old t (page_of at) → byte_at new u at ≡ byte_at old t at
unfolding byte_at
byte-page old new t u at same = ap (λ (page : Option Page). byte_in page (offset_of at)) same

pub byte-is : (m : Memory) (t at : ℕ) (page : Page) → page_at m t (page_of at) ≡ Some page → byte_at m t at ≡ get_or page.bytes (offset_of at) 0
unfolding byte_at
byte-is m t at page is = ap (λ (it : Option Page). byte_in it (offset_of at)) is

pub mapped-page : (old new : Memory) (t u at : ℕ) → page_at new u (page_of at) ≡ page_at old t (page_of at) → is_mapped new u (page_of at) ≡ is_mapped old t (page_of at)
mapped-page old new t u at same = ap is_some same

pub SameView-pages : (old new : Memory) (t u : ℕ) → ((p : ℕ) → page_at new u p ≡ page_at old t p) → SameView (view_of old t) (view_of new u)
SameView-pages old new t u same = record { byte = λ at. byte-page old new t u at (same (page_of at)); mapped = λ at. mapped-page old new t u at (same (page_of at)) }

pub OthersSeen-page : (old new : Memory) (t p : ℕ) → ChangesPage old new t p → OthersSeen old new t
OthersSeen-page old new t p rest u apart = SameView-pages old new u u (λ q. rest.others u q (inl apart))

pub OthersSeen-table : (old new : Memory) (t : ℕ) → ChangesTable old new t → OthersSeen old new t
OthersSeen-table old new t rest u apart = SameView-pages old new u u (λ q. rest.others u q apart)

pub zeros-at : (n i : ℕ) → ◌≡◌ {A = ℕ} (get_or (replicate n 0) i 0) 0
zeros-at zero i = refl
zeros-at (suc n) zero = refl
zeros-at (suc n) (suc i) = zeros-at n i

pub beside : (old new : Memory) (t p at : ℕ) → ChangesPage old new t p → page_of at ≢ p → (byte_at new t at ≡ byte_at old t at) × (is_mapped new t (page_of at) ≡ is_mapped old t (page_of at))
beside old new t p at rest apart = let same = rest.others t (page_of at) (inr apart) in (byte-page old new t t at same, mapped-page old new t t at same)

pub MapsPage-zeros : (old new : Memory) (t p : ℕ) → MapsZeros old new t p → ChangesPage old new t p → MapsPage (view_of old t) (view_of new t) p
MapsPage-zeros old new t p zeros rest = record {
  mapped = λ at is. ap is_some (ap (page_at new t) is ∙ zeros.now);
  zero = λ at is. byte-is new t at _ (ap (page_at new t) is ∙ zeros.now) ∙ zeros-at page_bytes (offset_of at);
  others = λ at apart. beside old new t p at rest apart;
}

pub UnmapsPage-none : (old new : Memory) (t p : ℕ) → page_at new t p ≡ None → ChangesPage old new t p → UnmapsPage (view_of old t) (view_of new t) p
UnmapsPage-none old new t p none rest = record {
  unmapped = λ at is. ap is_some (ap (page_at new t) is ∙ none);
  others = λ at apart. beside old new t p at rest apart;
}

-- a page without its flag has its bytes
pub settled-byte : (page : Option Page) (offset : ℕ) → byte_in (settled page) offset ≡ byte_in page offset
settled-byte None offset = refl
settled-byte (Some page) offset = refl

pub settled-some : (page : Option Page) → is_some (settled page) ≡ is_some page
settled-some None = refl
settled-some (Some page) = refl

pub byte-settled : (old new : Memory) (t : ℕ) → ((p : ℕ) → page_at new t p ≡ settled (page_at old t p)) → (at : ℕ) → byte_at new t at ≡ byte_at old t at
unfolding byte_at
byte-settled old new t same at = ap (λ (it : Option Page). byte_in it (offset_of at)) (same (page_of at)) ∙ settled-byte (page_at old t (page_of at)) (offset_of at)

pub SameView-settled : (old new : Memory) (t : ℕ) → ((p : ℕ) → page_at new t p ≡ settled (page_at old t p)) → SameView (view_of old t) (view_of new t)
SameView-settled old new t same = record { byte = byte-settled old new t same; mapped = λ at. ap is_some (same (page_of at)) ∙ settled-some (page_at old t (page_of at)) }

pub AllSeen-settled : (old new : Memory) (t : ℕ) → ChangesTable old new t → ((p : ℕ) → page_at new t p ≡ settled (page_at old t p)) → AllSeen old new
AllSeen-settled old new t rest same u = elim (cases_eq u t) [
  | inl is ↦ subst (λ n. SameView (view_of old n) (view_of new n)) (sym is) (SameView-settled old new t same)
  | inr apart ↦ OthersSeen-table old new t rest u apart
]

-- the bytes of a view, each by its number
pub bytes-are : (v : View) (at k : ℕ) (bs : List ℕ) → ((i : ℕ) → i < length bs → v.byte (at + (k + i)) ≡ get_or bs i 0) → map (λ i. v.byte (at + i)) (numbers_from k (length bs)) ≡ bs
bytes-are v at k [] same = refl
bytes-are v at k (b ∷ rest) same =
    ap (λ n. n ∷ map (λ i. v.byte (at + i)) (numbers_from (k + 1) (length rest))) (ap (λ i. v.byte (at + i)) (let e : k ≡ k + 0 = omega arith in e) ∙ same 0 (omega arith))
    ∙ ap (λ (bs : List ℕ). b ∷ bs) (bytes-are v at (k + 1) rest (λ i below. ap (λ i. v.byte (at + i)) (let e : k + 1 + i ≡ k + suc i = omega arith in e) ∙ same (suc i) (omega arith)))

pub along_page : (at i : ℕ) → offset_of at + i < page_bytes → (page_of (at + i) ≡ page_of at) × (offset_of (at + i) ≡ offset_of at + i)
along_page at i below = (omega arith, omega arith)

-- a write of a page is a write of its addresses
pub WritesBytes-page : (old new : Memory) (t at : ℕ) (bytes : List ℕ) → IsSound old → offset_of at + length bytes ≤ page_bytes → WritesPage old new t at bytes → WritesBytes (view_of old t) (view_of new t) at bytes
WritesBytes-page old new t at bytes sound room w =
    let o = offset_of at in
    let whole = sound.whole t (page_of at) w.was w.was_there in
    let fits : o + length bytes ≤ length w.was.bytes = omega (arith, whole, room) in
    record {
      there = bytes-are (view_of new t) at 0 bytes (λ i below.
          let along = along_page at i (omega (arith, room, below)) in
          ap (byte_at new t) (let e : at + (0 + i) ≡ at + i = omega arith in e)
          ∙ byte-is new t (at + i) _ (ap (page_at new t) along.0 ∙ w.now)
          ∙ ap (λ n. get_or (patched w.was.bytes o bytes) n 0) along.1
          ∙ patched-in w.was.bytes o bytes (o + i) 0 fits (omega arith) (omega (arith, below))
          ∙ ap (λ n. get_or bytes n 0) (let e : o + i - o ≡ i = omega arith in e));
      others = λ b off. elim (cases_eq (page_of b) (page_of at)) [
        | inl same ↦
            byte-is new t b _ (ap (page_at new t) same ∙ w.now)
            ∙ kept o b (offset_of b) w.was.bytes (side b same off) fits
            ∙ sym (byte-is old t b w.was (ap (page_at old t) same ∙ w.was_there))
        | inr apart ↦ (beside old new t (page_of at) b w.rest apart).0
      ];
      mapped = λ b. elim (cases_eq (page_of b) (page_of at)) [
        | inl same ↦ ap is_some (ap (page_at new t) same ∙ w.now) ∙ sym (ap is_some (ap (page_at old t) same ∙ w.was_there))
        | inr apart ↦ (beside old new t (page_of at) b w.rest apart).1
      ];
    }
  where
    side : (b : ℕ) → page_of b ≡ page_of at → (b < at) ⊎ (at + length bytes ≤ b) → (offset_of b < offset_of at) ⊎ (offset_of at + length bytes ≤ offset_of b)
    side b same (inl below) = inl (omega (arith, same, below))
    side b same (inr above) = inr (omega (arith, same, above))

    kept : (o b k : ℕ) (bs : List ℕ) → (k < o) ⊎ (o + length bytes ≤ k) → o + length bytes ≤ length bs → get_or (patched bs o bytes) k 0 ≡ get_or bs k 0
    kept o b k bs (inl below) fits = patched-before bs o bytes k 0 fits below
    kept o b k bs (inr above) fits = patched-after bs o bytes k 0 fits above

-- the byte of a list of one
pub one_byte : (m : Memory) (t at v : ℕ) → bytes_at (view_of m t) at 1 ≡ v ∷ [] → byte_at m t at ≡ v
one_byte m t at v is = ap (byte_at m t) (let e : at ≡ at + 0 = omega arith in e) ∙ ap (λ (bs : List ℕ). get_or bs 0 0) is

-- a table that is not live has no pages
pub ended-pages : (tables : Option Table) → is_some tables ≡ false → (p : ℕ) → page_in (pages_of tables) p ≡ None
ended-pages None ended p = refl
ended-pages (Some pages) ended p = absurd (true≢false ended)

pub page_at-ended : (old new : Memory) (t : ℕ) → ChangesTable old new t → is_live new t ≡ false → (p : ℕ) → page_at new t p ≡ None
page_at-ended old new t rest ended = ended-pages (get_or new.tables t None) ended

pub IsEmptyView-ended : (old new : Memory) (t : ℕ) → ChangesTable old new t → is_live new t ≡ false → IsEmptyView (view_of new t)
IsEmptyView-ended old new t rest ended at = ap is_some (page_at-ended old new t rest ended (page_of at))

-- as many bytes as were asked for
pub length-bytes_at : (v : View) (at count : ℕ) → length (bytes_at v at count) ≡ count
length-bytes_at v at count = length-map (numbers_from 0 count) (λ i. v.byte (at + i)) ∙ length-numbers 0 count
  where
    length-numbers : (k n : ℕ) → length (numbers_from k n) ≡ n
    length-numbers k zero = refl
    length-numbers k (suc n) = omega (arith, length-numbers (k + 1) n)
