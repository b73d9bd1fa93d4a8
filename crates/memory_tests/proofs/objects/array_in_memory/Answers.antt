use Rattle.std.proofs.Common.{◌≡◌, ◌∙◌, ℕ, ◌+◌, ◌/◌, true, refl, ap, arith}
use Rattle.cow_pages.specs.Memory.{Memory}
use Rattle.cow_pages.specs.View.{view_of}
use Rattle.memory_tests.proofs.objects.array_in_memory.Goals as goal

pub copy_object-requires-clause-from_space : goal.copy_object-requires-clause-from_space
copy_object-requires-clause-from_space g c =
    let t = c.in_ok-t.t.0 in
    let there : (at : ℕ) → at / 4096 ≡ 0x40000 → (view_of c.read_u32-4.new.self t).mapped at ≡ true =
    λ at is. ap (λ (m : Memory). (view_of m t).mapped at) c.read_u32-4.ensures.counts ∙ ap (λ (m : Memory). (view_of m t).mapped at) c.read_u32-3.ensures.counts ∙ ap (λ (m : Memory). (view_of m t).mapped at) c.read_u32-2.ensures.counts ∙ ap (λ (m : Memory). (view_of m t).mapped at) c.read_u32.ensures.counts ∙ c.in_ok-store.ensures.number.rest.mapped at ∙ c.in_ok-write_new.ensures.bytes.mapped at ∙ c.in_ok-map_zero.ensures.view.mapped at is in
    record { below = omega arith; mapped = λ i below. there (0x40000000 + i) (omega arith) }

pub copy_object-requires-clause-to_space : goal.copy_object-requires-clause-to_space
copy_object-requires-clause-to_space g c =
    let t = c.in_ok-t.t.0 in
    let there : (at : ℕ) → at / 4096 ≡ 0x40000 → (view_of c.read_u32-4.new.self t).mapped at ≡ true =
    λ at is. ap (λ (m : Memory). (view_of m t).mapped at) c.read_u32-4.ensures.counts ∙ ap (λ (m : Memory). (view_of m t).mapped at) c.read_u32-3.ensures.counts ∙ ap (λ (m : Memory). (view_of m t).mapped at) c.read_u32-2.ensures.counts ∙ ap (λ (m : Memory). (view_of m t).mapped at) c.read_u32.ensures.counts ∙ c.in_ok-store.ensures.number.rest.mapped at ∙ c.in_ok-write_new.ensures.bytes.mapped at ∙ c.in_ok-map_zero.ensures.view.mapped at is in
    record { below = omega arith; mapped = λ i below. there (0x40000040 + i) (omega arith) }

pub set_forward-requires-clause-mapped : goal.set_forward-requires-clause-mapped
set_forward-requires-clause-mapped g c =
    let t = c.in_ok-t.t.0 in
    let there : (at : ℕ) → at / 4096 ≡ 0x40000 → (view_of c.copy_object.new.frames t).mapped at ≡ true =
    λ at is. c.in_ok-copy_object.ensures.bytes.mapped at ∙ ap (λ (m : Memory). (view_of m t).mapped at) c.read_u32-4.ensures.counts ∙ ap (λ (m : Memory). (view_of m t).mapped at) c.read_u32-3.ensures.counts ∙ ap (λ (m : Memory). (view_of m t).mapped at) c.read_u32-2.ensures.counts ∙ ap (λ (m : Memory). (view_of m t).mapped at) c.read_u32.ensures.counts ∙ c.in_ok-store.ensures.number.rest.mapped at ∙ c.in_ok-write_new.ensures.bytes.mapped at ∙ c.in_ok-map_zero.ensures.view.mapped at is in
    there 0x40000000 refl

pub read_u32-requires-5-clause-mapped : goal.read_u32-requires-5-clause-mapped
read_u32-requires-5-clause-mapped g c =
    let t = c.in_ok-t.t.0 in
    let there : (at : ℕ) → at / 4096 ≡ 0x40000 → (view_of c.set_forward.new.frames t).mapped at ≡ true =
    λ at is. c.in_ok-set_forward.ensures.word.rest.mapped at ∙ c.in_ok-copy_object.ensures.bytes.mapped at ∙ ap (λ (m : Memory). (view_of m t).mapped at) c.read_u32-4.ensures.counts ∙ ap (λ (m : Memory). (view_of m t).mapped at) c.read_u32-3.ensures.counts ∙ ap (λ (m : Memory). (view_of m t).mapped at) c.read_u32-2.ensures.counts ∙ ap (λ (m : Memory). (view_of m t).mapped at) c.read_u32.ensures.counts ∙ c.in_ok-store.ensures.number.rest.mapped at ∙ c.in_ok-write_new.ensures.bytes.mapped at ∙ c.in_ok-map_zero.ensures.view.mapped at is in
    there 0x40000004 refl

pub read_u32-requires-6-clause-mapped : goal.read_u32-requires-6-clause-mapped
read_u32-requires-6-clause-mapped g c =
    let t = c.in_ok-t.t.0 in
    let there : (at : ℕ) → at / 4096 ≡ 0x40000 → (view_of c.read_u32-5.new.self t).mapped at ≡ true =
    λ at is. ap (λ (m : Memory). (view_of m t).mapped at) c.read_u32-5.ensures.counts ∙ c.in_ok-set_forward.ensures.word.rest.mapped at ∙ c.in_ok-copy_object.ensures.bytes.mapped at ∙ ap (λ (m : Memory). (view_of m t).mapped at) c.read_u32-4.ensures.counts ∙ ap (λ (m : Memory). (view_of m t).mapped at) c.read_u32-3.ensures.counts ∙ ap (λ (m : Memory). (view_of m t).mapped at) c.read_u32-2.ensures.counts ∙ ap (λ (m : Memory). (view_of m t).mapped at) c.read_u32.ensures.counts ∙ c.in_ok-store.ensures.number.rest.mapped at ∙ c.in_ok-write_new.ensures.bytes.mapped at ∙ c.in_ok-map_zero.ensures.view.mapped at is in
    there 0x40000044 refl

pub load-requires-clause-mapped : goal.load-requires-clause-mapped
load-requires-clause-mapped g c =
    let t = c.in_ok-t.t.0 in
    let there : (at : ℕ) → at / 4096 ≡ 0x40000 → (view_of c.read_u32-6.new.self t).mapped at ≡ true =
    λ at is. ap (λ (m : Memory). (view_of m t).mapped at) c.read_u32-6.ensures.counts ∙ ap (λ (m : Memory). (view_of m t).mapped at) c.read_u32-5.ensures.counts ∙ c.in_ok-set_forward.ensures.word.rest.mapped at ∙ c.in_ok-copy_object.ensures.bytes.mapped at ∙ ap (λ (m : Memory). (view_of m t).mapped at) c.read_u32-4.ensures.counts ∙ ap (λ (m : Memory). (view_of m t).mapped at) c.read_u32-3.ensures.counts ∙ ap (λ (m : Memory). (view_of m t).mapped at) c.read_u32-2.ensures.counts ∙ ap (λ (m : Memory). (view_of m t).mapped at) c.read_u32.ensures.counts ∙ c.in_ok-store.ensures.number.rest.mapped at ∙ c.in_ok-write_new.ensures.bytes.mapped at ∙ c.in_ok-map_zero.ensures.view.mapped at is in
    there 0x4000004e refl
