use Rattle.std.proofs.Common.{◌≡◌, ℕ, ◌++◌, ◌∷◌, [], List, length, Bool, Option, Some, None, Result, Ok, refl, sym, ap, ap₂, ◌∙◌, subst, arith, length-append, append_assoc}
use Rattle.std.specs.Prelude.{IfSome}
use Rattle.ctw_num.specs.declared.trap.NumTrap.{NumTrap}
use Rattle.ctw_ops.specs.declared.types.Label.TheVariants.{Public}
use Rattle.ctw_ops.specs.declared.numeric.NumSig.{NumSig}
use Rattle.ctw_ops.specs.Types.{FitsWidth}
use Rattle.ctw_ops.specs.Numeric.{leaks}
use Rattle.ctw_num.specs.Values.{value2}
use Rattle.ctw_flat.specs.declared.instr.Instr.TheVariants as instr
use Rattle.ctw_step.specs.declared.running.Stepped.TheVariants as Steppeds
use Rattle.ctw_step.specs.Shown.{Shown, shown}
use Rattle.ctw_step.specs.Stands.{numbers}
use Rattle.ctw_step.specs.Told.{Computed, shown_division, with_operands}
use Rattle.ctw_step.proofs.Inside.{under}
use Rattle.ctw_step.proofs.NumericLaws.{two, two_done}
use Rattle.ctw_step.proofs.ShortForms.{passes_with}
use Rattle.ctw_step.proofs.short.pass_binary.Goals as goal

last_two : (l front : List ℕ) (x y : ℕ) → l ≡ front ++ x ∷ y ∷ [] → l ≡ (front ++ x ∷ []) ++ y ∷ []
last_two l front x y e = e ∙ sym (append_assoc front (x ∷ []) (y ∷ []))

pub top-b-requires : goal.top-b-requires
top-b-requires c =
    let q = c.requires.sig in
    let r = c.requires.runs.2 in
    let o = two r.codes c.requires.runs.0 (shown c.args.act.now) c.args.next r.fns r.fn c.requires.runs.1 r.place r.code r.values c.args.op Public r.meets q.0 q.1 q.2 in
    omega (arith, ap length o.are, length-append (under r.place ++ numbers o.below) (o.v.number ∷ o.w.number ∷ []))

pub second-a-requires : goal.second-a-requires
second-a-requires c =
    let q = c.requires.sig in
    let r = c.requires.runs.2 in
    let o = two r.codes c.requires.runs.0 (shown c.args.act.now) c.args.next r.fns r.fn c.requires.runs.1 r.place r.code r.values c.args.op Public r.meets q.0 q.1 q.2 in
    omega (arith, ap length o.are, length-append (under r.place ++ numbers o.below) (o.v.number ∷ o.w.number ∷ []))

pub apply2-requires : goal.apply2-requires
apply2-requires c =
    let q = c.requires.sig in
    let r = c.requires.runs.2 in
    let o = two r.codes c.requires.runs.0 (shown c.args.act.now) c.args.next r.fns r.fn c.requires.runs.1 r.place r.code r.values c.args.op Public r.meets q.0 q.1 q.2 in
    let front : List ℕ = under r.place ++ numbers o.below in
    record {
      takes_two = subst (λ (s : Option NumSig). IfSome s (λ sig. (sig.arity ≡ 2) × FitsWidth sig.operand c.second-a.result × FitsWidth sig.operand c.top-b.result)) (sym q.1)
          (q.2, subst (FitsWidth q.0.operand) (sym (c.second-a.ensures front o.v.number o.w.number o.are)) o.left, subst (FitsWidth q.0.operand) (sym (c.top-b.ensures (front ++ o.v.number ∷ []) o.w.number (last_two c.args.act.now.operands.items front o.v.number o.w.number o.are))) o.right);
    }

pub shrink-requires : goal.shrink-requires
shrink-requires c =
    let q = c.requires.sig in
    let r = c.requires.runs.2 in
    let o = two r.codes c.requires.runs.0 (shown c.args.act.now) c.args.next r.fns r.fn c.requires.runs.1 r.place r.code r.values c.args.op Public r.meets q.0 q.1 q.2 in
    omega (arith, ap length o.are, length-append (under r.place ++ numbers o.below) (o.v.number ∷ o.w.number ∷ []))

pub set_top-requires : goal.set_top-requires
set_top-requires c =
    let q = c.requires.sig in
    let r = c.requires.runs.2 in
    let o = two r.codes c.requires.runs.0 (shown c.args.act.now) c.args.next r.fns r.fn c.requires.runs.1 r.place r.code r.values c.args.op Public r.meets q.0 q.1 q.2 in
    omega (arith, ap length o.are, length-append (under r.place ++ numbers o.below) (o.v.number ∷ o.w.number ∷ []), c.shrink.ensures.fewer)

pub returns-in-Ok-clause-passes : goal.returns-in-Ok-clause-passes
returns-in-Ok-clause-passes c = λ e.
    passes_with (shown c.args.act.now) (shown c.set_top.new.act) (instr.Numeric c.args.op Public) c.args.next c.set_top.new.act.operands.items
    (c.set_top.ensures.alone ∙ ap (λ (d : Shown). with_operands d c.set_top.new.act.operands.items c.args.next) c.shrink.ensures.alone)
    (let f = c.shrink.ensures.fewer in let g = c.set_top.ensures.as_many in omega (arith, f, g))
    (λ bytes s codes fns fn h code vs k m.
    let q = c.requires.sig in
    let o = two codes bytes (shown c.args.act.now) c.args.next fns fn s h code vs c.args.op Public m q.0 q.1 q.2 in
    let front : List ℕ = under h ++ numbers o.below in
    let f = last_two c.args.act.now.operands.items front o.v.number o.w.number o.are in
    let a = c.second-a.ensures front o.v.number o.w.number o.are in
    let b = c.top-b.ensures (front ++ o.v.number ∷ []) o.w.number f in
    let k : value2 c.args.op c.second-a.result c.top-b.result ≡ Some (Ok c.in-Ok.number) = c.in-Ok.ensures.value in
    let w : Some (Ok c.in-Ok.number) ≡ Some o.r = sym k ∙ ap₂ (value2 c.args.op) a b ∙ o.is in
    let same : Ok c.in-Ok.number ≡ o.r = cc in
    let s1 = c.shrink.ensures.cut (front ++ o.v.number ∷ []) (o.w.number ∷ []) f refl in
    let t = c.set_top.ensures.set front o.v.number (ap (λ (c : Shown). c.operands) s1) in
    two_done codes bytes (shown c.args.act.now) c.args.next fns fn s h code vs c.args.op Public m q.0 q.1 o (Steppeds.Went None) (shown c.set_top.new.act)
    (subst (λ (n : Result ℕ NumTrap). Computed (shown c.args.act.now) front (shown_division (leaks c.args.op fn.part.profile) o.v.number o.w.number) c.args.next n (Steppeds.Went None) (shown c.set_top.new.act)) same
    (ap (λ (x : Bool). Steppeds.Went (shown_division x o.v.number o.w.number)) (sym (c.requires.silent fn.part.profile)), t ∙ ap (λ (d : Shown). with_operands d (front ++ c.in-Ok.number ∷ []) c.args.next) s1)))
