use Rattle.std.proofs.Common.{◌≡◌, ◌<◌, ◌++◌, ℕ, List, length, sym, ap, ◌∙◌, append-nil, arith, codes}
use Rattle.std.specs.String.{string_bytes}
use Rattle.ctw_ops.specs.ValueType.{ValueType}
use Rattle.ctw_ops.specs.declared.types.Label.{Label}
use Rattle.ctw_module.specs.Trees.{tree}
use Rattle.ctw_print.specs.Texts.{all_texts, spaced_type}
use Rattle.ctw_print.proofs.Listed.{locals_none, locals_some}
use Rattle.ctw_print.proofs.Shown.{named_within, declared_is, locals_count}
use Rattle.ctw_print.proofs.Joined.{behind3}
use Rattle.ctw_print.proofs.Walked.{on_ok}
use Rattle.ctw_print.proofs.field.put_locals.Goals as goal

pub local_count-count-requires-clause-defined : goal.local_count-count-requires-clause-defined
local_count-count-requires-clause-defined c = (named_within (tree c.args.m.now) c.args.f c.requires.0 c.requires.1).0

pub local_count-count-requires-clause-there : goal.local_count-count-requires-clause-there
local_count-count-requires-clause-there c = (named_within (tree c.args.m.now) c.args.f c.requires.0 c.requires.1).1

pub overflow_cast-first : goal.overflow_cast-first
overflow_cast-first c =
    let m = tree c.args.m.now in
    let size = locals_count m c.args.f c.first_local-first.result c.requires.0 c.requires.1 (c.first_local-first.ensures c.requires.0 c.requires.1) in
    record { fits = omega (arith, size, c.local_count-count.ensures) }

pub put_local_group-requires-clause-from : goal.put_local_group-requires-clause-from
put_local_group-requires-clause-from c =
    let m = tree c.args.m.now in
    omega (arith, locals_count m c.args.f c.first_local-first.result c.requires.0 c.requires.1 (c.first_local-first.ensures c.requires.0 c.requires.1), c.local_count-count.ensures)

pub returns-then-first-count : goal.returns-then-first-count
returns-then-first-count c function e =
    let m = tree c.args.m.now in
    let size = locals_count m c.args.f c.first_local-first.result function e (c.first_local-first.ensures function e) in
    let none : length function.locals ≡ 0 = omega (arith, size, c.local_count-count.ensures) in
    sym (append-nil (string_bytes c.args.out.now)) ∙ ap (λ (l : List ℕ). string_bytes c.args.out.now ++ l) (sym (locals_none function.locals none))

pub returns : goal.returns
returns c function e =
    let m = tree c.args.m.now in
    let first = c.first_local-first.result in
    let size = locals_count m c.args.f first function e (c.first_local-first.ensures function e) in
    let some : 0 < length function.locals = omega (arith, size, c.local_count-count.ensures) in
    on_ok c.put_local_group.result
    (λ q. q ∙ ap (λ (ts : List (ValueType Label)). string_bytes c.args.out.now ++ codes " (local" ++ all_texts spaced_type ts ++ codes ")") (declared_is m c.args.f first function e (c.first_local-first.ensures function e))
    ∙ behind3 (string_bytes c.args.out.now) (codes " (local") (all_texts spaced_type function.locals) (codes ")")
    ∙ ap (λ (l : List ℕ). string_bytes c.args.out.now ++ l) (sym (locals_some function.locals some))) c.put_local_group.ensures
