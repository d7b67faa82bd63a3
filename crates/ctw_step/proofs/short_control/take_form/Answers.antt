use Rattle.std.proofs.Common.{◌+◌, ◌∷◌, ℕ, None, refl, ap, ◌∙◌}
use Rattle.ctw_flat.specs.declared.opcode.Indexed.TheVariants as indexed
use Rattle.ctw_flat.specs.declared.opcode.Opener.TheVariants as opener
use Rattle.ctw_flat.specs.declared.opcode.Bare.TheVariants as bare
use Rattle.ctw_flat.specs.declared.instr.Instr.TheVariants as instr
use Rattle.ctw_step.proofs.ShortForms.{two_bytes}
use Rattle.ctw_step.proofs.ShortReading.{indexed_reads, opens_reads, bare_reads}
use Rattle.ctw_step.proofs.short_control.take_form.Goals as goal

pub enter_block-requires-clause-runs : goal.enter_block-requires-clause-runs
enter_block-requires-clause-runs c =
    let e = c.if-has_no_result.ensures refl in
    c.requires.runs (instr.Block None) (c.args.act.now.at + 2) (opens_reads c.args.body.now e.0 c.args.act.now.at opener.Block (two_bytes c.args.body.now c.args.tail.now e.0 c.args.act.now.at c.args.byte 0x02 0x40 c.requires.here c.in-2.is e.1)) refl

pub returns-in-Ok-clause-taken : goal.returns-in-Ok-clause-taken
returns-in-Ok-clause-taken c =
    let e = c.if-has_no_result.ensures refl in
    record {
      instr = instr.Block None;
      next = c.args.act.now.at + 2;
      reads = opens_reads c.args.body.now e.0 c.args.act.now.at opener.Block (two_bytes c.args.body.now c.args.tail.now e.0 c.args.act.now.at c.args.byte 0x02 0x40 c.requires.here c.in-2.is e.1);
      counted = refl;
      does = c.in-Ok.ensures.does;
    }

pub enter_loop-requires-clause-runs : goal.enter_loop-requires-clause-runs
enter_loop-requires-clause-runs c =
    let e = c.if-has_no_result-2.ensures refl in
    c.requires.runs (instr.Loop None) (c.args.act.now.at + 2) (opens_reads c.args.body.now e.0 c.args.act.now.at opener.Loop (two_bytes c.args.body.now c.args.tail.now e.0 c.args.act.now.at c.args.byte 0x03 0x40 c.requires.here c.in-3.is e.1)) refl

pub returns-in-Ok-enter_loop-clause-taken : goal.returns-in-Ok-enter_loop-clause-taken
returns-in-Ok-enter_loop-clause-taken c =
    let e = c.if-has_no_result-2.ensures refl in
    record {
      instr = instr.Loop None;
      next = c.args.act.now.at + 2;
      reads = opens_reads c.args.body.now e.0 c.args.act.now.at opener.Loop (two_bytes c.args.body.now c.args.tail.now e.0 c.args.act.now.at c.args.byte 0x03 0x40 c.requires.here c.in-3.is e.1);
      counted = refl;
      does = c.in-Ok-enter_loop.ensures.does;
    }

pub end_label-requires : goal.end_label-requires
end_label-requires c =
    let x = c.requires.runs instr.End (c.args.act.now.at + 1) (bare_reads c.args.body.now c.args.tail.now c.args.act.now.at bare.End (c.requires.here ∙ ap (λ (n : ℕ). n ∷ c.args.tail.now) c.in-11.is)) refl in
    (c.args.body.now, x.0, x.1)

pub returns-in-11-clause-taken : goal.returns-in-11-clause-taken
returns-in-11-clause-taken c = record {
  instr = instr.End;
  next = c.args.act.now.at + 1;
  reads = bare_reads c.args.body.now c.args.tail.now c.args.act.now.at bare.End (c.requires.here ∙ ap (λ (n : ℕ). n ∷ c.args.tail.now) c.in-11.is);
  counted = refl;
  does = c.end_label.ensures c.args.body.now;
}

pub branch_always-requires : goal.branch_always-requires
branch_always-requires c =
    let e = c.in-Some.ensures in
    let x = c.requires.runs (instr.Br c.in-Some.depth) (c.args.act.now.at + 2) (indexed_reads c.args.body.now e.1 c.args.act.now.at indexed.Br c.in-Some.depth (two_bytes c.args.body.now c.args.tail.now e.1 c.args.act.now.at c.args.byte 0x0C c.in-Some.depth c.requires.here c.in-12.is e.2) e.0) refl in
    (c.args.body.now, x.0, x.1)

pub returns-in-Some-clause-taken : goal.returns-in-Some-clause-taken
returns-in-Some-clause-taken c =
    let e = c.in-Some.ensures in
    record {
      instr = instr.Br c.in-Some.depth;
      next = c.args.act.now.at + 2;
      reads = indexed_reads c.args.body.now e.1 c.args.act.now.at indexed.Br c.in-Some.depth (two_bytes c.args.body.now c.args.tail.now e.1 c.args.act.now.at c.args.byte 0x0C c.in-Some.depth c.requires.here c.in-12.is e.2) e.0;
      counted = refl;
      does = c.branch_always.ensures c.args.body.now;
    }

pub branch_if-requires : goal.branch_if-requires
branch_if-requires c =
    let e = c.in-Some-short_index.ensures in
    let x = c.requires.runs (instr.BrIf c.in-Some-short_index.depth) (c.args.act.now.at + 2) (indexed_reads c.args.body.now e.1 c.args.act.now.at indexed.BrIf c.in-Some-short_index.depth (two_bytes c.args.body.now c.args.tail.now e.1 c.args.act.now.at c.args.byte 0x0D c.in-Some-short_index.depth c.requires.here c.in-13.is e.2) e.0) refl in
    (c.args.body.now, x.0, x.1)

pub returns-in-Some-short_index-clause-taken : goal.returns-in-Some-short_index-clause-taken
returns-in-Some-short_index-clause-taken c =
    let e = c.in-Some-short_index.ensures in
    record {
      instr = instr.BrIf c.in-Some-short_index.depth;
      next = c.args.act.now.at + 2;
      reads = indexed_reads c.args.body.now e.1 c.args.act.now.at indexed.BrIf c.in-Some-short_index.depth (two_bytes c.args.body.now c.args.tail.now e.1 c.args.act.now.at c.args.byte 0x0D c.in-Some-short_index.depth c.requires.here c.in-13.is e.2) e.0;
      counted = refl;
      does = c.branch_if.ensures c.args.body.now;
    }

pub enter_if-requires-clause-runs : goal.enter_if-requires-clause-runs
enter_if-requires-clause-runs c =
    let e = c.if-has_no_result-3.ensures refl in
    c.requires.runs (instr.If None) (c.args.act.now.at + 2) (opens_reads c.args.body.now e.0 c.args.act.now.at opener.If (two_bytes c.args.body.now c.args.tail.now e.0 c.args.act.now.at c.args.byte 0x04 0x40 c.requires.here c.in-4.is e.1)) refl

pub returns-in-Ok-enter_if-clause-taken : goal.returns-in-Ok-enter_if-clause-taken
returns-in-Ok-enter_if-clause-taken c =
    let e = c.if-has_no_result-3.ensures refl in
    record {
      instr = instr.If None;
      next = c.args.act.now.at + 2;
      reads = opens_reads c.args.body.now e.0 c.args.act.now.at opener.If (two_bytes c.args.body.now c.args.tail.now e.0 c.args.act.now.at c.args.byte 0x04 0x40 c.requires.here c.in-4.is e.1);
      counted = refl;
      does = c.in-Ok-enter_if.ensures.does;
    }

pub end_arm-requires : goal.end_arm-requires
end_arm-requires c =
    let x = c.requires.runs instr.Else (c.args.act.now.at + 1) (bare_reads c.args.body.now c.args.tail.now c.args.act.now.at bare.Else (c.requires.here ∙ ap (λ (n : ℕ). n ∷ c.args.tail.now) c.in-5.is)) refl in
    (c.args.body.now, x.0, x.1)

pub returns-in-5-clause-taken : goal.returns-in-5-clause-taken
returns-in-5-clause-taken c = record {
  instr = instr.Else;
  next = c.args.act.now.at + 1;
  reads = bare_reads c.args.body.now c.args.tail.now c.args.act.now.at bare.Else (c.requires.here ∙ ap (λ (n : ℕ). n ∷ c.args.tail.now) c.in-5.is);
  counted = refl;
  does = c.end_arm.ensures c.args.body.now;
}

pub return_now-requires : goal.return_now-requires
return_now-requires c =
    let x = c.requires.runs instr.Return (c.args.act.now.at + 1) (bare_reads c.args.body.now c.args.tail.now c.args.act.now.at bare.Return (c.requires.here ∙ ap (λ (n : ℕ). n ∷ c.args.tail.now) c.in-15.is)) refl in
    (c.args.body.now, x.0, x.1)

pub returns-in-15-clause-taken : goal.returns-in-15-clause-taken
returns-in-15-clause-taken c = record {
  instr = instr.Return;
  next = c.args.act.now.at + 1;
  reads = bare_reads c.args.body.now c.args.tail.now c.args.act.now.at bare.Return (c.requires.here ∙ ap (λ (n : ℕ). n ∷ c.args.tail.now) c.in-15.is);
  counted = refl;
  does = c.return_now.ensures c.args.body.now;
}
