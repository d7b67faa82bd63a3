use Rattle.std.proofs.Common.{◌∙◌, sym, arith}
use Rattle.ctw_labels.specs.Points.{has_number}
use Rattle.ctw_infer.proofs.Firsts.{passes_begin, passes_on, passes_found, passes_end}
use Rattle.ctw_infer.proofs.trust.first_in_element.Goals as goal

pub functions-init : goal.functions-init
functions-init c = passes_begin (λ f. has_number f c.args.p.now.trusted) c.args.element.now.functions

pub returns-then-trusted : goal.returns-then-trusted
returns-then-trusted c = passes_found (λ f. has_number f c.args.p.now.trusted) c.args.element.now.functions c.functions.k c.func-func.result c.func-func.ensures (sym c.trusted.ensures ∙ c.if-trusted.true) c.functions.invariant

pub functions-preserved : goal.functions-preserved
functions-preserved c = passes_on (λ f. has_number f c.args.p.now.trusted) c.args.element.now.functions c.functions.k c.func-func.result c.func-func.ensures (sym c.trusted.ensures ∙ c.if-trusted.false) c.functions.invariant

pub returns : goal.returns
returns c = passes_end (λ f. has_number f c.args.p.now.trusted) c.args.element.now.functions c.functions.k (omega (arith, c.functions-test.false, c.count-k-end.ensures)) c.functions.invariant
