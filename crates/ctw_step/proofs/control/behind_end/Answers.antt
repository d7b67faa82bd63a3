use Rattle.std.proofs.Common.{◌≡◌, ℕ, ◌+◌, Option, Some, Ok, sym, ap, ◌∙◌, subst, arith}
use Rattle.ctw_ops.specs.Code.{ByEnd, Closes}
use Rattle.ctw_flat.specs.Places.{instr_in}
use Rattle.ctw_flat.proofs.Closers.{behind_closer}
use Rattle.ctw_flat.proofs.Places.{instr_behind}
use Rattle.ctw_step.proofs.control.behind_end.Goals as goal

same : (x y : ℕ × Option ℕ) → Some x ≡ Some y → x.0 ≡ y.0
same x y e = let p : x ≡ y = cc in ap (λ (p : ℕ × Option ℕ). p.0) p

pub overflow_add-result : goal.overflow_add-result
overflow_add-result c =
    let e = c.requires.1 in
    let q = same (c.in-Some.end, c.in-Some.field-0-1) (e.end, e.other) (sym c.in-Some.is ∙ c.ends.ensures ∙ e.ends) in
    let n = behind_closer c.args.body.now e.end ByEnd c.requires.0 e.reads in
    let b = (instr_behind c.args.body.now e.end (Closes ByEnd) c.requires.0 e.inside e.reads).1 in
    let s = c.code-code.ensures.short in
    omega (arith, q, n, b, s)

pub returns : goal.returns
returns c =
    let e = c.requires.1 in
    let q = same (c.in-Some.end, c.in-Some.field-0-1) (e.end, e.other) (sym c.in-Some.is ∙ c.ends.ensures ∙ e.ends) in
    record {
      end = e.end;
      other = e.other;
      ends = e.ends;
      inside = e.inside;
      reads = subst (λ n. instr_in c.args.body.now e.end ≡ Ok (Closes ByEnd, n)) (behind_closer c.args.body.now e.end ByEnd c.requires.0 e.reads ∙ ap (λ n. n + 1) (sym q)) e.reads;
    }
