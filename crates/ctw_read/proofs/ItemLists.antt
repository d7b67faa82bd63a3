-- Lists of items.
use Rattle.std.proofs.Common.{◌≡◌, ℕ, ◌<◌, ◌≤◌, Bool, true, false, List, [], ◌∷◌, Ok, refl, arith}
use Rattle.ctw_ops.specs.declared.types.Label.{Label}
use Rattle.ctw_ops.specs.declared.fault.What.{What}
use Rattle.ctw_ops.specs.Tree.{Import}
use Rattle.ctw_leb.specs.Input.{Input}
use Rattle.ctw_leb.specs.Grammar.{state_after}
use Rattle.ctw_leb.specs.Reading.{Reader}
use Rattle.ctw_form.specs.declared.fault.FormFault.{FormFault}
use Rattle.ctw_form.specs.declared.table.Held.{Held}
use Rattle.ctw_form.specs.Sections.{held_after, held_by}
use Rattle.ctw_form.specs.Spelled.{room}
use Rattle.ctw_form.specs.Read.{upto_at, vector_upto_at}

-- where one may stand and some does, it is the only one
pub only_one : {A : Type 0} (r : Reader A FormFault) (imported : Bool) (what : What) (i mid o : Input) (n : ℕ) (a : A)
    → upto_at (room imported) what 1 i ≡ Ok (n, mid) → n ≤ room imported → 0 < n → r mid ≡ Ok (a, o) → vector_upto_at (room imported) what 1 r i ≡ Ok (a ∷ [], o)
only_one r true what i mid o n a e le some h = absurd (omega arith)
only_one r false what i mid o n a e le some h =
    let one : n ≡ 1 = omega arith in
    rw (e, one, h) refl

pub held_state : (held : Held) (imports : List (Import Label)) → state_after held_after held imports ≡ held_by held imports
held_state held [] = refl
held_state held (i ∷ imports) = held_state (held_after held i) imports
