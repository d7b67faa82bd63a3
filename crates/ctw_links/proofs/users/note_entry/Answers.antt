use Rattle.std.proofs.Common.{◌<◌, length, ap, subst, arith}
use Rattle.std.specs.Prelude.{get_or}
use Rattle.ctw_ops.specs.Tree.{function_entries}
use Rattle.ctw_module.specs.Trees.{view_module}
use Rattle.ctw_sites.proofs.ScopeLaws.{heads_length}
use Rattle.ctw_links.proofs.UserNotes.{none_noted, some_noted}
use Rattle.ctw_links.proofs.users.note_entry.Goals as goal

pub returns-then-i-heads : goal.returns-then-i-heads
returns-then-i-heads c = none_noted (view_module c.args.m.now) c.args.f c.args.users.now.items (omega (arith, ap length c.requires, c.if-i-heads.true))

pub type_of_func-requires : goal.type_of_func-requires
type_of_func-requires c = omega (arith, ap length c.requires, c.if-i-heads.false, heads_length (view_module c.args.m.now) 0 (function_entries (view_module c.args.m.now)))

pub returns : goal.returns
returns c =
    some_noted (view_module c.args.m.now) c.args.f c.type_of_func.result (get_or c.args.heads.now c.args.f 0) c.args.users.now.items _ (subst (λ z. c.args.f < length z) c.requires c.if-i-heads.false) c.type_of_func.ensures
    (ap (λ z. get_or z c.args.f 0) c.requires) c.in_ok-push.ensures.items
