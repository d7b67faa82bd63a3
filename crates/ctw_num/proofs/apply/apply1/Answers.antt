-- Answers of `apply1`: the value, and its size.
use Rattle.std.proofs.Common.{◌≡◌, ℕ, Option, Some, IfSome, sym, ap, ◌∙◌, subst}
use Rattle.ctw_ops.specs.declared.numeric.NumSig.{NumSig}
use Rattle.ctw_ops.specs.Types.{FitsWidth}
use Rattle.ctw_ops.specs.Numeric.{num_sig_of}
use Rattle.ctw_num.specs.Values.{value1}
use Rattle.ctw_num.proofs.Sizes.{value1_below}
use Rattle.ctw_num.proofs.Signatures.{one_narrow, one_wide}
use Rattle.ctw_num.proofs.Values.{unary32_is, unary64_is}
use Rattle.ctw_num.proofs.apply.apply1.Goals as goal

takes_one : (op a : ℕ) (sig : NumSig) → num_sig_of op ≡ Some sig → IfSome (num_sig_of op) (λ sig. (sig.arity ≡ 1) × FitsWidth sig.operand a) → (sig.arity ≡ 1) × FitsWidth sig.operand a
takes_one op a sig s h = subst (λ (o : Option NumSig). IfSome o (λ sig. (sig.arity ≡ 1) × FitsWidth sig.operand a)) s h

fits : (op r : ℕ) (sig : NumSig) → num_sig_of op ≡ Some sig → FitsWidth sig.result r → IfSome (num_sig_of op) (λ sig. FitsWidth sig.result r)
fits op r sig s h = subst (λ (o : Option NumSig). IfSome o (λ sig. FitsWidth sig.result r)) (sym s) h

pub returns-in-W32 : goal.returns-in-W32
returns-in-W32 c =
    let one = takes_one c.args.op c.args.a c.signature.result c.signature.ensures c.requires.takes_one in
    let value : value1 c.args.op c.args.a ≡ Some c.unary32.result =
    unary32_is c.args.op c.code.result c.args.a c.unary32.result c.signature.result c.signature.ensures c.in-W32.is c.code.ensures.value c.unary32.ensures in
    record { value = value; below = fits c.args.op c.unary32.result c.signature.result c.signature.ensures (value1_below c.args.op c.args.a c.unary32.result c.signature.result c.signature.ensures one.1 value) }

pub returns-in-W64 : goal.returns-in-W64
returns-in-W64 c =
    let one = takes_one c.args.op c.args.a c.signature.result c.signature.ensures c.requires.takes_one in
    let value : value1 c.args.op c.args.a ≡ Some c.unary64.result =
    unary64_is c.args.op c.code-in-W64.result c.args.a c.unary64.result c.signature.result c.signature.ensures c.in-W64.is c.code-in-W64.ensures.value c.unary64.ensures in
    record { value = value; below = fits c.args.op c.unary64.result c.signature.result c.signature.ensures (value1_below c.args.op c.args.a c.unary64.result c.signature.result c.signature.ensures one.1 value) }

pub unary32-requires : goal.unary32-requires
unary32-requires c =
    record { listed = one_narrow c.code.result c.signature.result (ap num_sig_of c.code.ensures.value ∙ c.signature.ensures) (takes_one c.args.op c.args.a c.signature.result c.signature.ensures c.requires.takes_one).0 c.in-W32.is }

pub unary64-requires : goal.unary64-requires
unary64-requires c =
    record { listed = one_wide c.code-in-W64.result c.signature.result (ap num_sig_of c.code-in-W64.ensures.value ∙ c.signature.ensures) (takes_one c.args.op c.args.a c.signature.result c.signature.ensures c.requires.takes_one).0 c.in-W64.is }
