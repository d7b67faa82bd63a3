use Rattle.ctw_module.specs.Trees.{view_module}
use Rattle.ctw_infer.specs.Misuse.{misused_calls, misused_entries}
use Rattle.ctw_infer.proofs.Firsts.{none_there}
use Rattle.ctw_infer.proofs.Keeping.{clear_kept}
use Rattle.ctw_infer.proofs.inference.keep_trust.Goals as goal

pub returns-in-Some-first_entry-clause-misused : goal.returns-in-Some-first_entry-clause-misused
returns-in-Some-first_entry-clause-misused c =
    (none_there (misused_calls (view_module c.args.m.now) c.args.p.now) c.in_default.ensures, c.in-Some-first_entry.ensures)

pub returns-clause-kept : goal.returns-clause-kept
returns-clause-kept c =
    let m = view_module c.args.m.now in
    let p = c.args.p.now in
    clear_kept m p (none_there (misused_calls m p) c.in_default.ensures) (none_there (misused_entries m p) c.in_default-first_entry.ensures)
