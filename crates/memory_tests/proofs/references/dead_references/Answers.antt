use Rattle.std.proofs.Common.{◌≡◌, ◌∙◌, ℕ, zero, suc, ◌%◌, [], ◌∷◌, IsTrue, refl, sym, subst, arith}
use Rattle.std.specs.List.{All, IsDistinct}
use Rattle.std.specs.Prelude.{nat_eq}
use Rattle.page_tables.specs.Address.{page_of}
use Rattle.cow_pages.specs.Memory.{Memory, is_mapped}
use Rattle.memory_tests.proofs.references.dead_references.Goals as goal

all-of-four : (P : ℕ → Type 0) (a b c d : ℕ) → P a → P b → P c → P d → All P (a ∷ b ∷ c ∷ d ∷ [])
all-of-four P a b c d pa pb pc pd zero e below = pa
all-of-four P a b c d pa pb pc pd (suc zero) e below = pb
all-of-four P a b c d pa pb pc pd (suc (suc zero)) e below = pc
all-of-four P a b c d pa pb pc pd (suc (suc (suc zero))) e below = pd
all-of-four P a b c d pa pb pc pd (suc (suc (suc (suc k)))) e below = absurd (omega arith)

four-apart : IsDistinct nat_eq (0x40000000 ∷ 0x40000004 ∷ 0x40000010 ∷ 0x20000ffc ∷ [])
unfolding IsDistinct
four-apart = ((refl, (refl, (refl, tt))), ((refl, (refl, tt)), ((refl, tt), (tt, tt))))

pub clear_dead-requires-clause-slots : goal.clear_dead-requires-clause-slots
clear_dead-requires-clause-slots g c =
    let m = c.write_u32-4.new.self in
    let written : (at : ℕ) → is_mapped m c.in_ok-t.t.0 (page_of at) ≡ is_mapped c.map_zero-2.new.self c.in_ok-t.t.0 (page_of at) =
    λ at. c.in_ok-write_u32-4.ensures.view.mapped at ∙ c.in_ok-write_u32-3.ensures.view.mapped at ∙ c.in_ok-write_u32-2.ensures.view.mapped at ∙ c.in_ok-write_u32.ensures.view.mapped at in
    let high : (at : ℕ) → page_of at ≡ 0x40000 → IsTrue (is_mapped m c.in_ok-t.t.0 (page_of at)) =
    λ at is. written at ∙ (c.in_ok-map_zero-2.ensures.view.others at (omega (arith, is))).1 ∙ c.in_ok-map_zero.ensures.view.mapped at is in
    let low : (at : ℕ) → page_of at ≡ 0x20000 → IsTrue (is_mapped m c.in_ok-t.t.0 (page_of at)) =
    λ at is. written at ∙ c.in_ok-map_zero-2.ensures.view.mapped at is in
    record {
      aligned = all-of-four (λ at. at % 4 ≡ 0) 0x40000000 0x40000004 0x40000010 0x20000ffc refl refl refl refl;
      mapped = all-of-four (λ at. IsTrue (is_mapped m c.in_ok-t.t.0 (page_of at))) 0x40000000 0x40000004 0x40000010 0x20000ffc (high 0x40000000 refl) (high 0x40000004 refl) (high 0x40000010 refl) (low 0x20000ffc refl);
      once = four-apart;
    }

pub read_u32-requires-clause-mapped : goal.read_u32-requires-clause-mapped
read_u32-requires-clause-mapped g c =
    let there : IsTrue (is_mapped c.clear_dead.new.frames c.in_ok-t.t.0 0x40000) = (c.in_ok-clear_dead.ensures.cleared.bytes.mapped 0x40000000 ∙ c.in_ok-write_u32-4.ensures.view.mapped 0x40000000 ∙ c.in_ok-write_u32-3.ensures.view.mapped 0x40000000 ∙ c.in_ok-write_u32-2.ensures.view.mapped 0x40000000 ∙ c.in_ok-write_u32.ensures.view.mapped 0x40000000 ∙ (c.in_ok-map_zero-2.ensures.view.others 0x40000000 (omega arith)).1 ∙ c.in_ok-map_zero.ensures.view.mapped 0x40000000 refl) in
    there

pub read_u32-requires-2-clause-mapped : goal.read_u32-requires-2-clause-mapped
read_u32-requires-2-clause-mapped g c =
    let there : IsTrue (is_mapped c.clear_dead.new.frames c.in_ok-t.t.0 0x40000) = (c.in_ok-clear_dead.ensures.cleared.bytes.mapped 0x40000000 ∙ c.in_ok-write_u32-4.ensures.view.mapped 0x40000000 ∙ c.in_ok-write_u32-3.ensures.view.mapped 0x40000000 ∙ c.in_ok-write_u32-2.ensures.view.mapped 0x40000000 ∙ c.in_ok-write_u32.ensures.view.mapped 0x40000000 ∙ (c.in_ok-map_zero-2.ensures.view.others 0x40000000 (omega arith)).1 ∙ c.in_ok-map_zero.ensures.view.mapped 0x40000000 refl) in
    subst (λ (n : Memory). IsTrue (is_mapped n c.in_ok-t.t.0 0x40000)) (sym c.read_u32.ensures.counts) (there)

pub read_u32-requires-3-clause-mapped : goal.read_u32-requires-3-clause-mapped
read_u32-requires-3-clause-mapped g c =
    let there : IsTrue (is_mapped c.clear_dead.new.frames c.in_ok-t.t.0 0x40000) = (c.in_ok-clear_dead.ensures.cleared.bytes.mapped 0x40000000 ∙ c.in_ok-write_u32-4.ensures.view.mapped 0x40000000 ∙ c.in_ok-write_u32-3.ensures.view.mapped 0x40000000 ∙ c.in_ok-write_u32-2.ensures.view.mapped 0x40000000 ∙ c.in_ok-write_u32.ensures.view.mapped 0x40000000 ∙ (c.in_ok-map_zero-2.ensures.view.others 0x40000000 (omega arith)).1 ∙ c.in_ok-map_zero.ensures.view.mapped 0x40000000 refl) in
    subst (λ (n : Memory). IsTrue (is_mapped n c.in_ok-t.t.0 0x40000)) (sym c.read_u32-2.ensures.counts) (subst (λ (n : Memory). IsTrue (is_mapped n c.in_ok-t.t.0 0x40000)) (sym c.read_u32.ensures.counts) (there))

pub read_u32-requires-4-clause-mapped : goal.read_u32-requires-4-clause-mapped
read_u32-requires-4-clause-mapped g c =
    let there : IsTrue (is_mapped c.clear_dead.new.frames c.in_ok-t.t.0 0x40000) = (c.in_ok-clear_dead.ensures.cleared.bytes.mapped 0x40000000 ∙ c.in_ok-write_u32-4.ensures.view.mapped 0x40000000 ∙ c.in_ok-write_u32-3.ensures.view.mapped 0x40000000 ∙ c.in_ok-write_u32-2.ensures.view.mapped 0x40000000 ∙ c.in_ok-write_u32.ensures.view.mapped 0x40000000 ∙ (c.in_ok-map_zero-2.ensures.view.others 0x40000000 (omega arith)).1 ∙ c.in_ok-map_zero.ensures.view.mapped 0x40000000 refl) in
    subst (λ (n : Memory). IsTrue (is_mapped n c.in_ok-t.t.0 0x40000)) (sym c.read_u32-3.ensures.counts) (subst (λ (n : Memory). IsTrue (is_mapped n c.in_ok-t.t.0 0x40000)) (sym c.read_u32-2.ensures.counts) (subst (λ (n : Memory). IsTrue (is_mapped n c.in_ok-t.t.0 0x40000)) (sym c.read_u32.ensures.counts) (there)))

pub read_u32-requires-5-clause-mapped : goal.read_u32-requires-5-clause-mapped
read_u32-requires-5-clause-mapped g c =
    let there : IsTrue (is_mapped c.clear_dead.new.frames c.in_ok-t.t.0 0x20000) = (c.in_ok-clear_dead.ensures.cleared.bytes.mapped 0x20000ffc ∙ c.in_ok-write_u32-4.ensures.view.mapped 0x20000ffc ∙ c.in_ok-write_u32-3.ensures.view.mapped 0x20000ffc ∙ c.in_ok-write_u32-2.ensures.view.mapped 0x20000ffc ∙ c.in_ok-write_u32.ensures.view.mapped 0x20000ffc ∙ c.in_ok-map_zero-2.ensures.view.mapped 0x20000ffc refl) in
    subst (λ (n : Memory). IsTrue (is_mapped n c.in_ok-t.t.0 0x20000)) (sym c.read_u32-4.ensures.counts) (subst (λ (n : Memory). IsTrue (is_mapped n c.in_ok-t.t.0 0x20000)) (sym c.read_u32-3.ensures.counts) (subst (λ (n : Memory). IsTrue (is_mapped n c.in_ok-t.t.0 0x20000)) (sym c.read_u32-2.ensures.counts) (subst (λ (n : Memory). IsTrue (is_mapped n c.in_ok-t.t.0 0x20000)) (sym c.read_u32.ensures.counts) (there))))

pub clear_dead-requires-clause-live : goal.clear_dead-requires-clause-live
clear_dead-requires-clause-live g c =
    let t = c.in_ok-t.t.0 in
    c.in_ok-write_u32-4.ensures.page.rest.live t ∙ c.in_ok-write_u32-3.ensures.page.rest.live t ∙ c.in_ok-write_u32-2.ensures.page.rest.live t ∙ c.in_ok-write_u32.ensures.page.rest.live t ∙ c.in_ok-map_zero-2.ensures.rest.live t ∙ c.in_ok-map_zero.ensures.rest.live t ∙ c.in_ok-t.ensures.live
