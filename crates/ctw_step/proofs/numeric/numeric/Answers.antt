use Rattle.std.proofs.Common.{◌≡◌, ◌++◌, ◌⊎◌, inl, inr, ℕ, sym, subst}
use Rattle.ctw_ops.specs.declared.numeric.Profile.{Profile}
use Rattle.ctw_ops.specs.Numeric.{leaks}
use Rattle.ctw_step.specs.Shown.{shown}
use Rattle.ctw_step.specs.Stands.{numbers}
use Rattle.ctw_step.specs.Told.{Computed, shown_division}
use Rattle.ctw_step.proofs.Inside.{under}
use Rattle.ctw_step.proofs.NumericLaws.{arity_is, one, one_done, two, two_done}
use Rattle.ctw_step.proofs.numeric.numeric.Goals as goal

other : (a : ℕ) → (a ≡ 1 → ⊥) → (a ≡ 1) ⊎ (a ≡ 2) → a ≡ 2
other a n (inl e) = absurd (n e)
other a n (inr e) = e

pub unary-requires : goal.unary-requires
unary-requires c =
    let q = c.requires in
    let r = q.3 in
    let o = one r.codes q.1 (shown c.args.act.now) c.args.next r.fns r.fn q.2 r.place r.code r.values c.args.op q.0 r.meets c.signature-sig.result c.signature-sig.ensures c.if-sig-eq1.true in
    (c.signature-sig.result, _, o.v.number, c.signature-sig.ensures, c.if-sig-eq1.true, o.are, o.fits)

pub binary-requires : goal.binary-requires
binary-requires c =
    let q = c.requires in
    let r = q.3 in
    let e = other c.signature-sig.result.arity c.if-sig-eq1.false (arity_is r.codes q.1 (shown c.args.act.now) c.args.next r.fns r.fn q.2 r.place r.code r.values c.args.op q.0 r.meets c.signature-sig.result c.signature-sig.ensures) in
    let o = two r.codes q.1 (shown c.args.act.now) c.args.next r.fns r.fn q.2 r.place r.code r.values c.args.op q.0 r.meets c.signature-sig.result c.signature-sig.ensures e in
    (c.signature-sig.result, _, o.v.number, o.w.number, c.signature-sig.ensures, e, o.are, o.left, o.right)

pub returns-then-sig-eq1 : goal.returns-then-sig-eq1
returns-then-sig-eq1 c = λ l bytes s codes fns fn h code vs k m.
    let o = one codes bytes (shown c.args.act.now) c.args.next fns fn s h code vs c.args.op l m c.signature-sig.result c.signature-sig.ensures c.if-sig-eq1.true in
    one_done codes bytes (shown c.args.act.now) c.args.next fns fn s h code vs c.args.op l m c.signature-sig.result c.signature-sig.ensures o (shown c.unary.new.act) c.unary.ensures

pub returns : goal.returns
returns c = λ l bytes s codes fns fn h code vs k m.
    let e = other c.signature-sig.result.arity c.if-sig-eq1.false (arity_is codes bytes (shown c.args.act.now) c.args.next fns fn s h code vs c.args.op l m c.signature-sig.result c.signature-sig.ensures) in
    let o = two codes bytes (shown c.args.act.now) c.args.next fns fn s h code vs c.args.op l m c.signature-sig.result c.signature-sig.ensures e in
    two_done codes bytes (shown c.args.act.now) c.args.next fns fn s h code vs c.args.op l m c.signature-sig.result c.signature-sig.ensures o c.binary.result (shown c.binary.new.act)
    (subst (λ (p : Profile). Computed (shown c.args.act.now) (under h ++ numbers o.below) (shown_division (leaks c.args.op p) o.v.number o.w.number) c.args.next o.r c.binary.result (shown c.binary.new.act)) (sym k)
    (c.binary.ensures (under h ++ numbers o.below) o.v.number o.w.number o.r o.are o.is))
