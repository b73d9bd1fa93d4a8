-- What a copy of bytes from one page to another finds in the first.
use Rattle.std.proofs.Common.{◌≡◌, ◌≢◌, ℕ, ◌+◌, ◌≤◌, length, get_or, Some, sym, ap, ◌∙◌, inr, arith}
use Rattle.std.specs.Prelude.{option_map}
use Rattle.model_numbers.specs.Numbers.{page_bytes}
use Rattle.page_tables.specs.Address.{page_of, offset_of}
use Rattle.page_tables.specs.declared.leaf.Entry.{Entry}
use Rattle.page_tables.specs.Frame.{part_of}
use Rattle.page_tables.proofs.PatchLemmas.{length-part, part-at}
use Rattle.cow_pages.specs.declared.store.Store.{Store}
use Rattle.cow_pages.specs.Memory.{page_at}
use Rattle.cow_pages.specs.View.{byte_at, bytes_at, view_of}
use Rattle.cow_pages.specs.Store.{shown, bytes_of, entry_at, page_of_entry, HasPages, IsStore}
use Rattle.cow_pages.specs.Steps.{OwnsEntry, Marks}
use Rattle.cow_pages.proofs.ShownLemmas.{page_at-shown}
use Rattle.cow_pages.proofs.SeenLemmas.{page-kept}
use Rattle.cow_pages.proofs.SoundLemmas.{entry_within}
use Rattle.cow_pages.proofs.ViewLemmas.{byte-is, bytes-are, along_page}

-- another page is as it was after a page was made the table's own and its flag was set
pub marked_others : (s m1 m2 : Store) (t p q : ℕ) (e own : Entry) → IsStore m1 → IsStore m2 → OwnsEntry s m1 t p e own → Marks m1 m2 t p own → q ≢ p → page_at (shown m2) t q ≡ page_at (shown s) t q
marked_others s m1 m2 t p q e own one two owns marks off =
    page-kept m1 m2 one.kept two.kept t q t q (marks.entries.others t q (inr off)) (λ d there. ap (λ (it : Store). bytes_of it d.frame) marks.rest) ∙ owns.rest.others t q (inr off)

-- entries of two pages have two frames
pub frames_apart : (s : Store) → HasPages s → (t p q : ℕ) (e d : Entry) → entry_at s t p ≡ Some e → entry_at s t q ≡ Some d → p ≢ q → e.frame ≢ d.frame
frames_apart s pages t p q e d is at off = λ same. off (pages.same_page t p t q e d is at same)

-- a part of a page's frame is what a view has there
pub part_seen : (s m : Store) (t at count : ℕ) (e : Entry) → IsStore m → entry_at m t (page_of at) ≡ Some e → page_at (shown m) t (page_of at) ≡ page_at (shown s) t (page_of at)
    → offset_of at + count ≤ page_bytes → part_of (bytes_of m e.frame) (offset_of at) count ≡ bytes_at (view_of (shown s) t) at count
part_seen s m t at count e store is same room =
    let bytes = bytes_of m e.frame in
    let part = part_of bytes (offset_of at) count in
    let whole = store.room.whole e.frame (entry_within m store.kept store.room t (page_of at) e is) in
    let len : length part ≡ count = length-part bytes (offset_of at) count (omega (arith, room, whole)) in
    let there : page_at (shown s) t (page_of at) ≡ Some (page_of_entry m e) = sym same ∙ page_at-shown m store.kept t (page_of at) ∙ ap (option_map (page_of_entry m)) is in
    sym (ap (λ (n : ℕ). bytes_at (view_of (shown s) t) at n) (sym len)
    ∙ bytes-are (view_of (shown s) t) at 0 part (λ i below.
    let along = along_page at i (omega (arith, room, below, len)) in
    ap (byte_at (shown s) t) (let e : at + (0 + i) ≡ at + i = omega arith in e)
    ∙ byte-is (shown s) t (at + i) (page_of_entry m e) (ap (page_at (shown s) t) along.0 ∙ there)
    ∙ ap (λ (n : ℕ). get_or bytes n 0) along.1
    ∙ sym (part-at bytes (offset_of at) count i 0 (omega (arith, below, len)))))
