-- What holds of the result of a call that succeeded.
use Rattle.std.specs.Prelude.{Result, Ok, Err, IfOk, OnOk}

-- three facts give a fourth
pub if_ok_all : {T E : Type 0} {A B D : T → Type 0} {C : Type 0} (r : Result T E) → ((x : T) → A x → B x → C → D x) → IfOk r A → IfOk r B → OnOk r C → IfOk r D
if_ok_all (Ok x) f a b c = f x a b c
if_ok_all (Err e) f a b c = tt
