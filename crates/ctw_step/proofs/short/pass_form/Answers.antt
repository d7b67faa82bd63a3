use Rattle.std.proofs.Common.{◌+◌, ◌∷◌, ℕ, refl, sym, ap, ◌∙◌, ap₂, List}
use Rattle.ctw_ops.specs.declared.types.Label.TheVariants.{Public}
use Rattle.ctw_ops.specs.declared.types.Width.TheVariants.{W32}
use Rattle.ctw_flat.specs.declared.opcode.Bare.TheVariants as bare
use Rattle.ctw_flat.specs.declared.opcode.Indexed.TheVariants as indexed
use Rattle.ctw_flat.specs.declared.instr.Instr.TheVariants as instr
use Rattle.ctw_step.proofs.ShortForms.{two_bytes, operation}
use Rattle.ctw_step.proofs.ShortReading.{bare_reads, indexed_reads, constant_reads, select_reads, numeric_reads}
use Rattle.ctw_step.proofs.short.pass_form.Goals as goal

pub pass_get-requires : goal.pass_get-requires
pass_get-requires c =
    let b = c.requires.runs in
    let e = c.in-Some.ensures in
    b.2 (instr.LocalGet c.in-Some.index) (c.args.act.now.at + 2) (indexed_reads b.0 e.1 c.args.act.now.at indexed.LocalGet c.in-Some.index (two_bytes b.0 c.args.tail.now e.1 c.args.act.now.at c.args.byte 0x20 c.in-Some.index b.1 c.in-32.is e.2) e.0) refl

pub returns-in-Some-clause-passed : goal.returns-in-Some-clause-passed
returns-in-Some-clause-passed c = λ bytes q t.
    let e = c.in-Some.ensures in
    record {
      instr = instr.LocalGet c.in-Some.index;
      next = c.args.act.now.at + 2;
      reads = indexed_reads bytes e.1 c.args.act.now.at indexed.LocalGet c.in-Some.index (two_bytes bytes c.args.tail.now e.1 c.args.act.now.at c.args.byte 0x20 c.in-Some.index q c.in-32.is e.2) e.0;
      counted = refl;
      passes = c.pass_get.ensures.passes t;
    }

pub pass_set-requires : goal.pass_set-requires
pass_set-requires c =
    let b = c.requires.runs in
    let e = c.in-Some-short_index.ensures in
    b.2 (instr.LocalSet c.in-Some-short_index.index) (c.args.act.now.at + 2) (indexed_reads b.0 e.1 c.args.act.now.at indexed.LocalSet c.in-Some-short_index.index (two_bytes b.0 c.args.tail.now e.1 c.args.act.now.at c.args.byte 0x21 c.in-Some-short_index.index b.1 c.in-33.is e.2) e.0) refl

pub returns-in-Some-short_index-clause-passed : goal.returns-in-Some-short_index-clause-passed
returns-in-Some-short_index-clause-passed c = λ bytes q t.
    let e = c.in-Some-short_index.ensures in
    record {
      instr = instr.LocalSet c.in-Some-short_index.index;
      next = c.args.act.now.at + 2;
      reads = indexed_reads bytes e.1 c.args.act.now.at indexed.LocalSet c.in-Some-short_index.index (two_bytes bytes c.args.tail.now e.1 c.args.act.now.at c.args.byte 0x21 c.in-Some-short_index.index q c.in-33.is e.2) e.0;
      counted = refl;
      passes = c.pass_set.ensures;
    }

pub pass_tee-requires : goal.pass_tee-requires
pass_tee-requires c =
    let b = c.requires.runs in
    let e = c.in-Some-short_index-2.ensures in
    b.2 (instr.LocalTee c.in-Some-short_index-2.index) (c.args.act.now.at + 2) (indexed_reads b.0 e.1 c.args.act.now.at indexed.LocalTee c.in-Some-short_index-2.index (two_bytes b.0 c.args.tail.now e.1 c.args.act.now.at c.args.byte 0x22 c.in-Some-short_index-2.index b.1 c.in-34.is e.2) e.0) refl

pub returns-in-Some-short_index-2-clause-passed : goal.returns-in-Some-short_index-2-clause-passed
returns-in-Some-short_index-2-clause-passed c = λ bytes q t.
    let e = c.in-Some-short_index-2.ensures in
    record {
      instr = instr.LocalTee c.in-Some-short_index-2.index;
      next = c.args.act.now.at + 2;
      reads = indexed_reads bytes e.1 c.args.act.now.at indexed.LocalTee c.in-Some-short_index-2.index (two_bytes bytes c.args.tail.now e.1 c.args.act.now.at c.args.byte 0x22 c.in-Some-short_index-2.index q c.in-34.is e.2) e.0;
      counted = refl;
      passes = c.pass_tee.ensures;
    }

pub pass_constant-requires : goal.pass_constant-requires
pass_constant-requires c =
    let b = c.requires.runs in
    let e = c.in-Some-number_in_front.ensures in
    b.2 (instr.Const W32 Public c.in-Some-number_in_front.bits) (c.args.act.now.at + 1 + c.in-Some-number_in_front.size) (constant_reads b.0 e.1 c.args.act.now.at e.0 c.in-Some-number_in_front.bits (c.args.act.now.at + 1 + c.in-Some-number_in_front.size) (b.1 ∙ ap₂ (λ (b : ℕ) (l : List ℕ). b ∷ l) c.in-65.is e.3) e.2 (ap (λ n. c.args.act.now.at + 1 + n) e.4)) refl

pub returns-in-Some-number_in_front-clause-passed : goal.returns-in-Some-number_in_front-clause-passed
returns-in-Some-number_in_front-clause-passed c = λ bytes q t.
    let e = c.in-Some-number_in_front.ensures in
    record {
      instr = instr.Const W32 Public c.in-Some-number_in_front.bits;
      next = c.args.act.now.at + 1 + c.in-Some-number_in_front.size;
      reads = constant_reads bytes e.1 c.args.act.now.at e.0 c.in-Some-number_in_front.bits (c.args.act.now.at + 1 + c.in-Some-number_in_front.size) (q ∙ ap₂ (λ (b : ℕ) (l : List ℕ). b ∷ l) c.in-65.is e.3) e.2 (ap (λ n. c.args.act.now.at + 1 + n) e.4);
      counted = refl;
      passes = c.pass_constant.ensures.passes t;
    }

pub pass_numeric-requires : goal.pass_numeric-requires
pass_numeric-requires c =
    let b = c.requires.runs in
    let o = operation c.args.byte c.in-Some-num_op.op (sym c.in-Some-num_op.is ∙ c.num_op.ensures) in
    record {
      runs = b.2 (instr.Numeric c.in-Some-num_op.op Public) (c.args.act.now.at + 1)
          (numeric_reads b.0 c.args.tail.now c.args.act.now.at c.in-Some-num_op.op (b.1 ∙ ap (λ (n : ℕ). n ∷ c.args.tail.now) o.1) o.0) refl;
    }

pub returns-in-Some-num_op-clause-passed : goal.returns-in-Some-num_op-clause-passed
returns-in-Some-num_op-clause-passed c = λ bytes q t.
    let o = operation c.args.byte c.in-Some-num_op.op (sym c.in-Some-num_op.is ∙ c.num_op.ensures) in
    record {
      instr = instr.Numeric c.in-Some-num_op.op Public;
      next = c.args.act.now.at + 1;
      reads = numeric_reads bytes c.args.tail.now c.args.act.now.at c.in-Some-num_op.op (q ∙ ap (λ (n : ℕ). n ∷ c.args.tail.now) o.1) o.0;
      counted = refl;
      passes = c.pass_numeric.ensures.passes t;
    }

pub pass_drop-requires : goal.pass_drop-requires
pass_drop-requires c =
    let b = c.requires.runs in
    b.2 instr.Drop (c.args.act.now.at + 1) (bare_reads b.0 c.args.tail.now c.args.act.now.at bare.Drop (b.1 ∙ ap (λ (n : ℕ). n ∷ c.args.tail.now) c.in-26.is)) refl

pub returns-in-26-clause-passed : goal.returns-in-26-clause-passed
returns-in-26-clause-passed c = λ bytes q t. record {
  instr = instr.Drop;
  next = c.args.act.now.at + 1;
  reads = bare_reads bytes c.args.tail.now c.args.act.now.at bare.Drop (q ∙ ap (λ (n : ℕ). n ∷ c.args.tail.now) c.in-26.is);
  counted = refl;
  passes = c.pass_drop.ensures;
}

pub pass_select-requires : goal.pass_select-requires
pass_select-requires c =
    let b = c.requires.runs in
    b.2 (instr.Select Public) (c.args.act.now.at + 1) (select_reads b.0 c.args.tail.now c.args.act.now.at (b.1 ∙ ap (λ (n : ℕ). n ∷ c.args.tail.now) c.in-27.is)) refl

pub returns-in-27-clause-passed : goal.returns-in-27-clause-passed
returns-in-27-clause-passed c = λ bytes q t. record {
  instr = instr.Select Public;
  next = c.args.act.now.at + 1;
  reads = select_reads bytes c.args.tail.now c.args.act.now.at (q ∙ ap (λ (n : ℕ). n ∷ c.args.tail.now) c.in-27.is);
  counted = refl;
  passes = c.pass_select.ensures;
}
