use Rattle.std.proofs.Common.{◌≡◌, ◌+◌, ℕ, List, length, Option, Some, slice_get, is_some, refl, sym, ap, ◌∙◌, subst, arith, length-append}
use Rattle.ctw_ops.specs.Types.{FunctionType}
use Rattle.ctw_ops.specs.declared.types.Label.{Label}
use Rattle.ctw_ops.specs.Tree.{Function, function_entries, type_named}
use Rattle.ctw_flat.specs.Spelled.{IsLimitedBody}
use Rattle.ctw_module.specs.Trees.{tree}
use Rattle.ctw_module.specs.Lookup.{locals_of_some}
use Rattle.ctw_form.proofs.Params.{types_length}
use Rattle.ctw_step.proofs.Homes.{named_entry, entry_within}
use Rattle.ctw_step.proofs.sets.callee_in.Goals as goal

entry_is : (a b : ℕ) (o : Option ℕ) → o ≡ Some a → o ≡ Some b → a ≡ b
entry_is a b o e f = cc

pub unreachable-requires : goal.unreachable-requires
unreachable-requires c =
    let x = c.in_default.ensures.imported.0 refl in
    let l = c.requires.low in
    omega (arith, x, l)

pub func_type-ty-requires : goal.func_type-ty-requires
func_type-ty-requires c =
    let s = c.in-Some.ensures.spelled in
    entry_within (tree c.args.home.now) c.args.index s.0 c.type_of_func.result c.requires.valid.around.functions s.1 c.requires.low c.type_of_func.ensures

pub without-requires : goal.without-requires
without-requires c =
    let s = c.in-Some.ensures.spelled in
    let m = tree c.args.home.now in
    let t = entry_is c.type_of_func.result s.0.type (slice_get (function_entries m) c.args.index) c.type_of_func.ensures (named_entry m c.args.index s.0 s.1 c.requires.low) in
    let par : length c.ty.inside.params.now ≡ length (type_named m s.0.type).params =
    sym (types_length c.ty.inside.params.now c.ty.invariant) ∙ ap (λ (t : FunctionType Label). length t.params) (c.ty.view_is ∙ c.func_type-ty.ensures) ∙ ap (λ i. length (type_named m i).params) t in
    let loc : c.local_count.result ≡ length (type_named m s.0.type).params + length s.0.locals = c.local_count.ensures ∙ ap (λ (o : Option (Function Label)). length (locals_of_some m o)) s.1 ∙ length-append (type_named m s.0.type).params s.0.locals in
    omega (arith, par, loc)

pub returns-clause-known : goal.returns-clause-known
returns-clause-known c = λ f named.
    let s = c.in-Some.ensures.spelled in
    let m = tree c.args.home.now in
    let t = entry_is c.type_of_func.result f.type (slice_get (function_entries m) c.args.index) c.type_of_func.ensures (named_entry m c.args.index f named c.requires.low) in
    let q : Some s.0 ≡ Some f = sym s.1 ∙ named in
    let same : s.0 ≡ f = cc in
    let ty : c.func_type-ty.result ≡ type_named m f.type = c.func_type-ty.ensures ∙ ap (λ i. type_named m i) t in
    let par : length c.ty.inside.params.now ≡ length (type_named m f.type).params =
    sym (types_length c.ty.inside.params.now c.ty.invariant) ∙ ap (λ (t : FunctionType Label). length t.params) (c.ty.view_is ∙ ty) in
    let loc : c.local_count.result ≡ length (type_named m f.type).params + length f.locals = c.local_count.ensures ∙ ap (λ (o : Option (Function Label)). length (locals_of_some m o)) named ∙ length-append (type_named m f.type).params f.locals in
    record {
      params = par;
      declared = c.without.ensures ∙ omega (arith, par, loc);
      has_result = c.is_some.ensures ∙ ap (λ (t : FunctionType Label). is_some t.result) (c.ty.view_is ∙ ty);
      spelled = subst (λ (c : List ℕ). IsLimitedBody c f.body) (c.in-Some.ensures.bytes) (subst (λ (f : Function Label). IsLimitedBody c.in-Some.field-0 f.body) same s.2);
    }
