-- What an answer says where the call went well.
use Rattle.std.proofs.Common.{Result, Ok, Err}
use Rattle.std.specs.Prelude.{MatchResult, OnOk}

pub ok_of : {A E P R : Type 0} (Q : Type 0) (r : Result A E) → MatchResult r (λ x. P) (λ e. Q) → (P → R) → OnOk r R
ok_of Q (Ok x) p f = f p
ok_of Q (Err e) p f = tt

pub ok_then : {A E : Type 0} {P R : Type 0} (r : Result A E) → OnOk r P → (P → R) → OnOk r R
ok_then (Ok x) p f = f p
ok_then (Err e) p f = tt

pub ok_here : {A E : Type 0} {R : Type 0} (r : Result A E) → R → OnOk r R
ok_here (Ok x) p = p
ok_here (Err e) p = tt
