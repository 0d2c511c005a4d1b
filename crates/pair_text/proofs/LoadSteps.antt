-- Loads step by step.
use Rattle.std.proofs.Common.{Result, Ok, Err, IfOk, OnOk}

-- what follows from what a call gives
pub ok_map : {T E : Type 0} (r : Result T E) (P Q : T → Type 0) → ((t : T) → P t → Q t) → IfOk r P → IfOk r Q
ok_map (Ok t) P Q f is = f t is
ok_map (Err e) P Q f is = tt

-- the same of a call that gives nothing back
pub on_ok_map : {T E : Type 0} (r : Result T E) (P Q : Type 0) → (P → Q) → OnOk r P → OnOk r Q
on_ok_map (Ok t) P Q f is = f is
on_ok_map (Err e) P Q f is = tt
