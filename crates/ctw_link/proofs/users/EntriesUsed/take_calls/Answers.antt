use Rattle.std.proofs.Common.{◌<◌, length, refl, ap, ◌∙◌, arith}
use Rattle.ctw_flat.specs.Instructions.{op_of}
use Rattle.ctw_link.proofs.CallWalk.{walk_begins, walk_below, walk_on, walk_done, walk_reads}
use Rattle.ctw_link.proofs.users.EntriesUsed.take_calls.Goals as goal

pub opcodes-init : goal.opcodes-init
opcodes-init c = record { walk = walk_begins _ _ _ c.requires.0 c.requires.1 c.requires.2; count = refl }

pub unreachable-requires : goal.unreachable-requires
unreachable-requires c =
    let lt : c.opcodes.place < length c.args.body.now = omega (arith, c.opcodes-test.true, ap length c.code-end.ensures.bytes) in
    walk_reads _ _ _ _ _ c.in-Err.field-0 c.opcodes.invariant.walk lt c.in-Err.ensures.instr

pub take_call-requires : goal.take_call-requires
take_call-requires c =
    let lt : c.opcodes.place < length c.args.body.now = omega (arith, c.opcodes-test.true, ap length c.code-end.ensures.bytes) in
    let below = walk_below _ _ _ _ _ (op_of c.in-Ok.read.0) c.in-Ok.read.1 c.opcodes.invariant.walk lt c.in-Ok.ensures.instr in
    λ k d within. omega (arith, below k d within, c.opcodes.invariant.count)

pub opcodes-preserved : goal.opcodes-preserved
opcodes-preserved c =
    let lt : c.opcodes.place < length c.args.body.now = omega (arith, c.opcodes-test.true, ap length c.code-end.ensures.bytes) in
    record {
      walk = walk_on _ _ _ _ _ c.take_call.new.self.entries.items (op_of c.in-Ok.read.0) c.in-Ok.read.1 c.opcodes.invariant.walk lt c.in-Ok.ensures.instr c.in_ok-take_call.ensures.entries;
      count = c.in_ok-take_call.ensures.count ∙ c.opcodes.invariant.count;
    }

pub returns-clause-entries : goal.returns-clause-entries
returns-clause-entries c = walk_done _ _ _ _ _ c.opcodes.invariant.walk (omega (arith, c.opcodes-test.false, ap length c.code-end.ensures.bytes))
