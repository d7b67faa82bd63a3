-- What files spell keeps what the laws of printed texts ask for.
use Rattle.std.proofs.Common.{◌≡◌, ◌≤◌, ℕ, suc, List, All, ap, sym, ◌∙◌, subst}
use Rattle.std.specs.Prelude.{max, Ok}
use Rattle.ctw_ops.specs.declared.numeric.Profile.{Profile}
use Rattle.ctw_ops.specs.declared.numeric.Profile.TheVariants.{Divide}
use Rattle.ctw_ops.specs.declared.types.Label.{Label}
use Rattle.ctw_ops.specs.Limits.{most_nesting}
use Rattle.ctw_ops.specs.WithinLimits.{IsOctet}
use Rattle.ctw_ops.specs.Code as ops
use Rattle.ctw_ops.specs.Code.{Leaf, Code, Op, Plain, Opens, Closes}
use Rattle.ctw_ops.specs.Tree as tree
use Rattle.ctw_ops.specs.Tree.{Module, Extern, Import, Function, Constant, Element, Segment, Custom, under}
use Rattle.ctw_ops.specs.Valid.{IsValid}
use Rattle.ctw_flat.specs.Spelled as flat
use Rattle.ctw_form.specs.Spelled.{Spells}
use Rattle.ctw_form.proofs.WithinLimits.{within_limits}
use Rattle.ctw_write.specs.KeepsLimits as kept
use Rattle.ctw_write.proofs.KeptModules.{module_limited}
use Rattle.ctw_text.specs.Limited.{IsLimitedLeaf, IsLimitedOp, height, IsLimitedFunction, IsLimitedExtern, IsLimitedConstant, IsLimited}
use Rattle.ctw_text.specs.Print.{printed}
use Rattle.ctw_text.specs.Denotes.{assembled}
use Rattle.ctw_text.proofs.ReadBack.{printed_assembled}
use Rattle.ctw_print.proofs.CustomBytes.{custom_octets}

leaf_kept : (leaf : Leaf Label) → kept.IsLimitedLeaf leaf → IsLimitedLeaf leaf
leaf_kept (ops.Br n) h = h
leaf_kept (ops.BrIf n) h = h
leaf_kept (ops.BrTable ns n) h = h
leaf_kept (ops.Call n) h = h
leaf_kept (ops.CallIndirect n) h = h
leaf_kept (ops.LocalGet n) h = h
leaf_kept (ops.LocalSet n) h = h
leaf_kept (ops.LocalTee n) h = h
leaf_kept (ops.GlobalGet n) h = h
leaf_kept (ops.GlobalSet n) h = h
leaf_kept (ops.Load w l bytes signed align offset) h = h.2
leaf_kept (ops.Store w l bytes align offset) h = h.2
leaf_kept ops.Unreachable h = tt
leaf_kept _ h = tt

op_kept : (op : Op Label) → kept.IsLimitedOp op → IsLimitedOp op
op_kept (Plain leaf) h = leaf_kept leaf h
op_kept (Opens shape t) h = tt
op_kept (Closes closer) h = tt

same_height : (c : Code Label) → height c ≡ flat.height c
same_height ops.Stop i = 0
same_height (ops.Then leaf more) i = same_height more i
same_height (ops.Block t body more) i = max (suc (same_height body i)) (same_height more i)
same_height (ops.Loop t body more) i = max (suc (same_height body i)) (same_height more i)
same_height (ops.If t arm more) i = max (suc (same_height arm i)) (same_height more i)
same_height (ops.IfElse t arm other more) i = max (suc (max (same_height arm i) (same_height other i))) (same_height more i)

function_kept : (f : Function Label) → kept.IsLimitedFunction f → IsLimitedFunction f
function_kept f h = record {
  type = h.type;
  locals = h.locals;
  ops = λ k d l. op_kept _ (h.ops k d l);
  nesting = subst (λ n. n ≤ most_nesting) (sym (same_height f.body)) h.nesting;
}

extern_kept : (kind : Extern Label) → kept.IsLimitedExtern kind → IsLimitedExtern kind
extern_kept (tree.ImportedFunction n) h = h
extern_kept (tree.ImportedTable l) h = h
extern_kept (tree.ImportedMemory m) h = h
extern_kept (tree.ImportedGlobal g) h = tt

constant_kept : (c : Constant Label) → kept.IsLimitedConstant c → IsLimitedConstant c
constant_kept (tree.Number t bits) h = tt
constant_kept (tree.ValueOf n) h = h

pub limited_of : (bytes : List ℕ) (m : Module Label) → All IsOctet bytes → Spells bytes m → IsLimited m
limited_of bytes m o s =
    let x = module_limited bytes m s in
    let w = within_limits bytes m o s in
    let c = custom_octets bytes m o s in
    record {
      types = x.types;
      imports = λ k d l. let h = x.imports k d l in (h.0, h.1, extern_kept _ h.2);
      functions = λ k d l. function_kept _ (x.functions k d l);
      locals = x.locals;
      table = x.table;
      memory = x.memory;
      globals = λ k d l. constant_kept _ (x.globals k d l);
      exports = x.exports;
      start = x.start;
      elements = λ k d l. let h = x.elements k d l in (constant_kept _ h.1, h.2);
      segments = λ k d l. (constant_kept _ (x.segments k d l).1, w.bytes k d l);
      customs = λ k d l. let h = x.customs k d l in record { place = h.place; name = h.name; bytes = c k d l };
      rising = x.rising;
    }

-- the profile of what bytes spell is that of what is read back
own_profile : (m : Module Label) (profile : Profile) → m.profile ≡ profile → under profile m ≡ m
own_profile m profile e = ap (λ (p : Profile). under p m) (sym e)

-- what bytes spell has the profile Divide
pub divide_profile : (bytes : List ℕ) (m : Module Label) → Spells bytes m → under Divide m ≡ m
divide_profile bytes m s = own_profile m Divide (module_limited bytes m s).profile

pub read_back : (bytes : List ℕ) (m : Module Label) → All IsOctet bytes → Spells bytes m → IsValid m → assembled (printed m) ≡ Ok m
read_back bytes m o s v = printed_assembled m v (limited_of bytes m o s) ∙ ap (λ (m : Module Label). Ok m) (own_profile m _ (module_limited bytes m s).profile)
