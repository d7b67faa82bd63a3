use Rattle.std.proofs.Common.{◌≡◌, ℕ, ◌++◌, ◌∷◌, [], List, length, Option, Some, Result, Ok, Err, refl, sym, ap, ap₂, ◌∙◌, subst, arith, length-append, append_assoc}
use Rattle.std.specs.Prelude.{IfSome}
use Rattle.ctw_num.specs.declared.trap.NumTrap.{NumTrap}
use Rattle.ctw_ops.specs.declared.numeric.NumSig.{NumSig}
use Rattle.ctw_ops.specs.Types.{FitsWidth}
use Rattle.ctw_ops.specs.Numeric.{leaks}
use Rattle.ctw_num.specs.Values.{value2}
use Rattle.ctw_step.specs.declared.running.Stepped.TheVariants as Steppeds
use Rattle.ctw_step.specs.Shown.{Shown, shown}
use Rattle.ctw_step.specs.Told.{Computed, shown_division, with_operands}
use Rattle.ctw_step.proofs.numeric.binary.Goals as goal

two : (l front : List ℕ) (x y : ℕ) → l ≡ front ++ x ∷ y ∷ [] → l ≡ (front ++ x ∷ []) ++ y ∷ []
two l front x y e = e ∙ sym (append_assoc front (x ∷ []) (y ∷ []))

pub top-b-requires : goal.top-b-requires
top-b-requires c = let o = c.requires in omega (arith, ap length o.6, length-append o.1 (o.2 ∷ o.3 ∷ []))

pub second-a-requires : goal.second-a-requires
second-a-requires c = let o = c.requires in omega (arith, ap length o.6, length-append o.1 (o.2 ∷ o.3 ∷ []))

pub apply2-requires : goal.apply2-requires
apply2-requires c =
    let o = c.requires in
    record {
      takes_two = subst (λ (s : Option NumSig). IfSome s (λ sig. (sig.arity ≡ 2) × FitsWidth sig.operand c.second-a.result × FitsWidth sig.operand c.top-b.result)) (sym o.4)
          (o.5, subst (FitsWidth o.0.operand) (sym (c.second-a.ensures o.1 o.2 o.3 o.6)) o.7, subst (FitsWidth o.0.operand) (sym (c.top-b.ensures (o.1 ++ o.2 ∷ []) o.3 (two c.args.act.now.operands.items o.1 o.2 o.3 o.6))) o.8);
    }

pub shrink-requires : goal.shrink-requires
shrink-requires c = let o = c.requires in omega (arith, ap length o.6, length-append o.1 (o.2 ∷ o.3 ∷ []))

pub set_top-requires : goal.set_top-requires
set_top-requires c = let o = c.requires in omega (arith, ap length o.6, length-append o.1 (o.2 ∷ o.3 ∷ []), c.shrink.ensures.fewer)

pub returns-in-Ok : goal.returns-in-Ok
returns-in-Ok c = λ front x y r e v.
    let f = two c.args.act.now.operands.items front x y e in
    let a = c.second-a.ensures front x y e in
    let b = c.top-b.ensures (front ++ x ∷ []) y f in
    let k : value2 c.args.op c.second-a.result c.top-b.result ≡ Some (Ok c.in-Ok.number) = c.in-Ok.ensures.value in
    let w : Some (Ok c.in-Ok.number) ≡ Some r = sym k ∙ ap₂ (value2 c.args.op) a b ∙ v in
    let same : Ok c.in-Ok.number ≡ r = cc in
    let s = c.shrink.ensures.cut (front ++ x ∷ []) (y ∷ []) f refl in
    let t = c.set_top.ensures.set front x (ap (λ (c : Shown). c.operands) s) in
    subst (λ (n : Result ℕ NumTrap). Computed (shown c.args.act.now) front (shown_division (leaks c.args.op c.args.profile) x y) c.args.next n (Steppeds.Went c.division-event.result) (shown c.set_top.new.act)) same
    (ap Steppeds.Went (c.division-event.ensures ∙ ap₂ (shown_division (leaks c.args.op c.args.profile)) a b), t ∙ ap (λ (d : Shown). with_operands d (front ++ c.in-Ok.number ∷ []) c.args.next) s)

pub returns-in-Err : goal.returns-in-Err
returns-in-Err c = λ front x y r e v.
    let f = two c.args.act.now.operands.items front x y e in
    let a = c.second-a.ensures front x y e in
    let b = c.top-b.ensures (front ++ x ∷ []) y f in
    let k : value2 c.args.op c.second-a.result c.top-b.result ≡ Some (Err c.in-Err.trap) = c.in-Err.ensures.value in
    let w : Some (Err c.in-Err.trap) ≡ Some r = sym k ∙ ap₂ (value2 c.args.op) a b ∙ v in
    let same : Err c.in-Err.trap ≡ r = cc in
    subst (λ (n : Result ℕ NumTrap). Computed (shown c.args.act.now) front (shown_division (leaks c.args.op c.args.profile) x y) c.args.next n (Steppeds.Trapped c.code_of.result c.division-event.result) (shown c.args.act.now)) same
    (ap₂ Steppeds.Trapped c.code_of.ensures (c.division-event.ensures ∙ ap₂ (shown_division (leaks c.args.op c.args.profile)) a b))
