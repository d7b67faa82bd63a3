-- Answers of `apply2`: the value, its size, and where there is none.
use Rattle.std.proofs.Common.{ℕ, ◌≡◌, Option, Some, Result, IfSome, IfOk, sym, ap, ◌∙◌, subst}
use Rattle.ctw_ops.specs.declared.numeric.NumSig.{NumSig}
use Rattle.ctw_ops.specs.Types.{FitsWidth}
use Rattle.ctw_ops.specs.Numeric.{num_sig_of}
use Rattle.ctw_num.specs.Values.{value2}
use Rattle.ctw_num.specs.declared.trap.NumTrap.{NumTrap}
use Rattle.ctw_num.proofs.Sizes.{value2_below}
use Rattle.ctw_num.proofs.Signatures.{two_narrow, two_wide_codes}
use Rattle.ctw_num.proofs.Traps.{zero_exactly, overflow_exactly, untimed}
use Rattle.ctw_num.proofs.Values.{binary32_is, binary64_is}
use Rattle.ctw_num.proofs.apply.apply2.Goals as goal

takes_two : (op a b : ℕ) (sig : NumSig) → num_sig_of op ≡ Some sig → IfSome (num_sig_of op) (λ sig. (sig.arity ≡ 2) × FitsWidth sig.operand a × FitsWidth sig.operand b)
    → (sig.arity ≡ 2) × FitsWidth sig.operand a × FitsWidth sig.operand b
takes_two op a b sig s h = subst (λ (o : Option NumSig). IfSome o (λ sig. (sig.arity ≡ 2) × FitsWidth sig.operand a × FitsWidth sig.operand b)) s h

fits : (op : ℕ) (r : Result ℕ NumTrap) (sig : NumSig) → num_sig_of op ≡ Some sig → IfOk r (FitsWidth sig.result) → IfSome (num_sig_of op) (λ sig. IfOk r (FitsWidth sig.result))
fits op r sig s h = subst (λ (o : Option NumSig). IfSome o (λ sig. IfOk r (FitsWidth sig.result))) (sym s) h

pub returns-in-W32 : goal.returns-in-W32
returns-in-W32 c =
    let sig = c.signature.result in
    let s = c.signature.ensures in
    let two = takes_two c.args.op c.args.a c.args.b sig s c.requires.takes_two in
    let value : value2 c.args.op c.args.a c.args.b ≡ Some c.binary32.result =
    binary32_is c.args.op c.code.result c.args.a c.args.b c.binary32.result sig s c.in-W32.is c.code.ensures.value c.binary32.ensures in
    record {
      value = value;
      below = fits c.args.op c.binary32.result sig s (value2_below c.args.op c.args.a c.args.b c.binary32.result sig s two.0 two.1 value);
      zero = zero_exactly c.args.op c.args.a c.args.b c.binary32.result sig s value;
      overflow = overflow_exactly c.args.op c.args.a c.args.b c.binary32.result sig s two.1 two.2 value;
      untimed = untimed c.args.op c.args.a c.args.b c.binary32.result sig s value;
    }

pub returns-in-W64 : goal.returns-in-W64
returns-in-W64 c =
    let sig = c.signature.result in
    let s = c.signature.ensures in
    let two = takes_two c.args.op c.args.a c.args.b sig s c.requires.takes_two in
    let value : value2 c.args.op c.args.a c.args.b ≡ Some c.binary64.result =
    binary64_is c.args.op c.code-in-W64.result c.args.a c.args.b c.binary64.result sig s c.in-W64.is c.code-in-W64.ensures.value c.binary64.ensures in
    record {
      value = value;
      below = fits c.args.op c.binary64.result sig s (value2_below c.args.op c.args.a c.args.b c.binary64.result sig s two.0 two.1 value);
      zero = zero_exactly c.args.op c.args.a c.args.b c.binary64.result sig s value;
      overflow = overflow_exactly c.args.op c.args.a c.args.b c.binary64.result sig s two.1 two.2 value;
      untimed = untimed c.args.op c.args.a c.args.b c.binary64.result sig s value;
    }

pub binary32-requires : goal.binary32-requires
binary32-requires c =
    record { listed = two_narrow c.code.result c.signature.result (ap num_sig_of c.code.ensures.value ∙ c.signature.ensures) (takes_two c.args.op c.args.a c.args.b c.signature.result c.signature.ensures c.requires.takes_two).0 c.in-W32.is }

pub binary64-requires : goal.binary64-requires
binary64-requires c =
    record { listed = two_wide_codes c.code-in-W64.result c.signature.result (ap num_sig_of c.code-in-W64.ensures.value ∙ c.signature.ensures) (takes_two c.args.op c.args.a c.args.b c.signature.result c.signature.ensures c.requires.takes_two).0 c.in-W64.is }
