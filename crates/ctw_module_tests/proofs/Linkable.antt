-- Two small valid parts can be linked.
use Rattle.std.proofs.Common.{◌<◌, length, [], ◌∷◌, arith}
use Rattle.std.proofs.lemmas.List.Elements.{All-nil, All-cons}
use Rattle.std.proofs.lemmas.List.Sums.{sum_by-cons}
use Rattle.ctw_ops.specs.declared.types.ExternTag.TheVariants.{Func, Global}
use Rattle.ctw_link.specs.declared.set.Part.{Part}
use Rattle.ctw_link.specs.Sets.{NamedModule, defined_in, part_in}
use Rattle.ctw_link.specs.Linked.{IsValidPart, CanBeLinked}
use Rattle.ctw_link.proofs.Counts.{things_are}
use Rattle.ctw_module_tests.specs.Small.{IsSmall}

pub linkable : (p q : Part) → IsSmall p → IsSmall q → CanBeLinked (p ∷ q ∷ [])
linkable p q sp sq =
    let a = part_in p in
    let b = part_in q in
    record {
      some = omega arith;
      few = omega arith;
      valid = All-cons IsValidPart p (q ∷ []) sp.valid (All-cons IsValidPart q [] sq.valid (All-nil IsValidPart));
      functions = omega (arith, sp.functions, sq.functions, things_are Func a.tree, things_are Func b.tree, sum_by-cons (λ (n : NamedModule). defined_in Func n.tree) a (b ∷ []), sum_by-cons (λ (n : NamedModule). defined_in Func n.tree) b []);
      globals = omega (arith, sp.globals, sq.globals, things_are Global a.tree, things_are Global b.tree, sum_by-cons (λ (n : NamedModule). defined_in Global n.tree) a (b ∷ []), sum_by-cons (λ (n : NamedModule). defined_in Global n.tree) b []);
    }
