use Rattle.std.proofs.Common.{◌≡◌, ◌∙◌, [], ◌∷◌, refl, sym, ap, subst, arith, true, to_z, of_z}
use Rattle.std.specs.Int.{w8, w16, w32, w64, to_le_bytes}
use Rattle.std.proofs.lemmas.Int.{ints, to_z-of_z}
use Rattle.std.proofs.lemmas.Result.{on_ok_weaker}
use lib.IntN.{nat_abs}
use Rattle.class_layout.specs.declared.kind.Kind.{Kind}
use Rattle.class_layout.specs.declared.kind.Kind.TheVariants.{Ref, Boolean, Byte, Char, Short, Int, Long}
use Rattle.cow_pages.specs.View.{view_of}
use Rattle.object_view.specs.Changes.{StoresNumber}
use Rattle.object_view.specs.Values.{is_value, number_of}
use Rattle.object_view.proofs.Stores.{abs-boolean, abs-char, abs-ref, fits-byte, fits-int, fits-short, signed-number, one-byte, StoresNumber-write}
use Rattle.object_view.proofs.values.store_at.Goals as goal

pub returns-in-Ref : goal.returns-in-Ref
returns-in-Ref c =
    let old = c.args.frames.now in
    let new = c.write_u32.new.self in
    let is : c.args.kind ≡ Ref = c.in-Ref.is in
    let e : nat_abs (to_z w64 (of_z w64 c.args.v)) ≡ number_of Ref c.args.v = ap nat_abs (to_z-of_z w64 c.args.v c.ranges.v) ∙ abs-ref c.args.v (subst (λ (k : Kind). is_value k c.args.v ≡ true) c.in-Ref.is c.requires.value) in
    let done = c.write_u32.ensures in
    subst (λ (k : Kind). StoresNumber c.write_u32.result old new c.args.t.0 k c.args.place.0 (number_of k c.args.v)) (sym is)
    (subst (λ n. StoresNumber c.write_u32.result old new c.args.t.0 Ref c.args.place.0 n) e
    (StoresNumber-write c.write_u32.result old new c.args.t.0 Ref c.args.place.0 (nat_abs (to_z w64 (of_z w64 c.args.v))) (to_le_bytes w32 (nat_abs (to_z w64 (of_z w64 c.args.v)))) refl c.write_u32.ensures.reads_back
    done.page done.view done.takes done.succeeds done.only done.err done.sound))

pub returns-in-Boolean : goal.returns-in-Boolean
returns-in-Boolean c =
    let old = c.args.frames.now in
    let new = c.write_u8.new.self in
    let is : c.args.kind ≡ Boolean = c.in-Boolean.is in
    let e : nat_abs (to_z w64 (of_z w64 c.args.v)) ≡ number_of Boolean c.args.v = ap nat_abs (to_z-of_z w64 c.args.v c.ranges.v) ∙ abs-boolean c.args.v (subst (λ (k : Kind). is_value k c.args.v ≡ true) c.in-Boolean.is c.requires.value) in
    let done = c.write_u8.ensures in
    subst (λ (k : Kind). StoresNumber c.write_u8.result old new c.args.t.0 k c.args.place.0 (number_of k c.args.v)) (sym is)
    (subst (λ n. StoresNumber c.write_u8.result old new c.args.t.0 Boolean c.args.place.0 n) e
    (StoresNumber-write c.write_u8.result old new c.args.t.0 Boolean c.args.place.0 (nat_abs (to_z w64 (of_z w64 c.args.v))) (nat_abs (to_z w64 (of_z w64 c.args.v)) ∷ []) refl (on_ok_weaker c.write_u8.result (λ w. one-byte (view_of old c.args.t.0) (view_of new c.args.t.0) c.args.place.0 (nat_abs (to_z w64 (of_z w64 c.args.v))) w) c.write_u8.ensures.view)
    done.page done.view done.takes done.succeeds done.only done.err done.sound))

pub returns-in-Byte : goal.returns-in-Byte
returns-in-Byte c =
    let old = c.args.frames.now in
    let new = c.write_u8-in-Byte.new.self in
    let is : c.args.kind ≡ Byte = c.in-Byte.is in
    let e : c.cast_unsigned.result ≡ number_of Byte c.args.v = signed-number w8 c.args.v c.cast_unsigned.result c.ranges.v (fits-byte c.args.v (subst (λ (k : Kind). is_value k c.args.v ≡ true) is c.requires.value)) c.cast_unsigned.ensures in
    let done = c.write_u8-in-Byte.ensures in
    subst (λ (k : Kind). StoresNumber c.write_u8-in-Byte.result old new c.args.t.0 k c.args.place.0 (number_of k c.args.v)) (sym is)
    (subst (λ n. StoresNumber c.write_u8-in-Byte.result old new c.args.t.0 Byte c.args.place.0 n) e
    (StoresNumber-write c.write_u8-in-Byte.result old new c.args.t.0 Byte c.args.place.0 (c.cast_unsigned.result) (c.cast_unsigned.result ∷ []) refl (on_ok_weaker c.write_u8-in-Byte.result (λ w. one-byte (view_of old c.args.t.0) (view_of new c.args.t.0) c.args.place.0 (c.cast_unsigned.result) w) c.write_u8-in-Byte.ensures.view)
    done.page done.view done.takes done.succeeds done.only done.err done.sound))

pub returns-in-Char : goal.returns-in-Char
returns-in-Char c =
    let old = c.args.frames.now in
    let new = c.write_u16.new.self in
    let is : c.args.kind ≡ Char = c.in-Char.is in
    let e : nat_abs (to_z w64 (of_z w64 c.args.v)) ≡ number_of Char c.args.v = ap nat_abs (to_z-of_z w64 c.args.v c.ranges.v) ∙ abs-char c.args.v (subst (λ (k : Kind). is_value k c.args.v ≡ true) c.in-Char.is c.requires.value) in
    let done = c.write_u16.ensures in
    subst (λ (k : Kind). StoresNumber c.write_u16.result old new c.args.t.0 k c.args.place.0 (number_of k c.args.v)) (sym is)
    (subst (λ n. StoresNumber c.write_u16.result old new c.args.t.0 Char c.args.place.0 n) e
    (StoresNumber-write c.write_u16.result old new c.args.t.0 Char c.args.place.0 (nat_abs (to_z w64 (of_z w64 c.args.v))) (to_le_bytes w16 (nat_abs (to_z w64 (of_z w64 c.args.v)))) refl c.write_u16.ensures.reads_back
    done.page done.view done.takes done.succeeds done.only done.err done.sound))

pub returns-in-Short : goal.returns-in-Short
returns-in-Short c =
    let old = c.args.frames.now in
    let new = c.write_u16-in-Short.new.self in
    let is : c.args.kind ≡ Short = c.in-Short.is in
    let e : c.cast_unsigned-in-Short.result ≡ number_of Short c.args.v = signed-number w16 c.args.v c.cast_unsigned-in-Short.result c.ranges.v (fits-short c.args.v (subst (λ (k : Kind). is_value k c.args.v ≡ true) is c.requires.value)) c.cast_unsigned-in-Short.ensures in
    let done = c.write_u16-in-Short.ensures in
    subst (λ (k : Kind). StoresNumber c.write_u16-in-Short.result old new c.args.t.0 k c.args.place.0 (number_of k c.args.v)) (sym is)
    (subst (λ n. StoresNumber c.write_u16-in-Short.result old new c.args.t.0 Short c.args.place.0 n) e
    (StoresNumber-write c.write_u16-in-Short.result old new c.args.t.0 Short c.args.place.0 (c.cast_unsigned-in-Short.result) (to_le_bytes w16 (c.cast_unsigned-in-Short.result)) refl c.write_u16-in-Short.ensures.reads_back
    done.page done.view done.takes done.succeeds done.only done.err done.sound))

pub returns-in-Int : goal.returns-in-Int
returns-in-Int c =
    let old = c.args.frames.now in
    let new = c.write_u32-in-Int.new.self in
    let is : c.args.kind ≡ Int = c.in-Int.is in
    let e : c.cast_unsigned-in-Int.result ≡ number_of Int c.args.v = signed-number w32 c.args.v c.cast_unsigned-in-Int.result c.ranges.v (fits-int c.args.v (subst (λ (k : Kind). is_value k c.args.v ≡ true) is c.requires.value)) c.cast_unsigned-in-Int.ensures in
    let done = c.write_u32-in-Int.ensures in
    subst (λ (k : Kind). StoresNumber c.write_u32-in-Int.result old new c.args.t.0 k c.args.place.0 (number_of k c.args.v)) (sym is)
    (subst (λ n. StoresNumber c.write_u32-in-Int.result old new c.args.t.0 Int c.args.place.0 n) e
    (StoresNumber-write c.write_u32-in-Int.result old new c.args.t.0 Int c.args.place.0 (c.cast_unsigned-in-Int.result) (to_le_bytes w32 (c.cast_unsigned-in-Int.result)) refl c.write_u32-in-Int.ensures.reads_back
    done.page done.view done.takes done.succeeds done.only done.err done.sound))

pub returns-in-Long : goal.returns-in-Long
returns-in-Long c =
    let old = c.args.frames.now in
    let new = c.write_u64.new.self in
    let is : c.args.kind ≡ Long = c.in-Long.is in
    let e : c.cast_unsigned-in-Long.result ≡ number_of Long c.args.v = grind (arith, ints, c.cast_unsigned-in-Long.ensures) in
    let done = c.write_u64.ensures in
    subst (λ (k : Kind). StoresNumber c.write_u64.result old new c.args.t.0 k c.args.place.0 (number_of k c.args.v)) (sym is)
    (subst (λ n. StoresNumber c.write_u64.result old new c.args.t.0 Long c.args.place.0 n) e
    (StoresNumber-write c.write_u64.result old new c.args.t.0 Long c.args.place.0 (c.cast_unsigned-in-Long.result) (to_le_bytes w64 (c.cast_unsigned-in-Long.result)) refl c.write_u64.ensures.reads_back
    done.page done.view done.takes done.succeeds done.only done.err done.sound))
