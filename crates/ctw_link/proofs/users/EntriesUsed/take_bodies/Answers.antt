use Rattle.std.proofs.Common.{◌+◌, ◌-◌, ◌∙◌, arith}
use Rattle.ctw_ops.specs.IndirectCalls.{indirect_calls}
use Rattle.ctw_module.specs.Lookup.{imported_count}
use Rattle.ctw_module.specs.Trees.{view_module}
use Rattle.ctw_link.specs.Users.{with_entry}
use Rattle.ctw_link.proofs.EntryBounds.{named_at, body_below}
use Rattle.ctw_link.proofs.Folding.{folded_at}
use Rattle.ctw_link.proofs.users.EntriesUsed.take_bodies.Goals as goal

pub take_calls-requires : goal.take_calls-requires
take_calls-requires c =
    let m = view_module c.args.m.now in
    let s = c.in-Some.ensures.spelled in
    let below = body_below m (c.functions.f - imported_count m) s.0 c.requires.valid (named_at m c.functions.f s.0 s.1).1 in
    (s.0.body, s.2.0, λ k d within. omega (arith, below k d within, c.functions.invariant.count, c.requires.count))

pub functions-preserved : goal.functions-preserved
functions-preserved c =
    let m = view_module c.args.m.now in
    let s = c.in-Some.ensures.spelled in
    let n = named_at m c.functions.f s.0 s.1 in
    record {
      taken = folded_at with_entry (λ f. indirect_calls f.body) m.functions _ _ _ (c.functions.f - imported_count m) (c.functions.f + 1 - imported_count m) s.0 (omega (arith, n.0)) n.1 (c.in_ok-take_calls.ensures.entries s.0.body s.2.0) c.functions.invariant.taken;
      count = c.in_ok-take_calls.ensures.count ∙ c.functions.invariant.count;
    }
