-- What contracts see of a running call: each list with the innermost last.
use Rattle.std.specs.Prelude.{ℕ, List}
use Rattle.ctw_step.specs.declared.running.Opened.{Opened}
use Rattle.ctw_step.specs.declared.running.Caller.{Caller}
use Rattle.ctw_step.specs.declared.running.Running.{Running}

pub record Shown : Type 0 where
  pub operands : List ℕ
  pub locals : List ℕ
  pub labels : List Opened
  pub frames : List Caller
  pub at : ℕ

abbrev pub shown : Running → Shown
shown r =
    record {
      operands = r.operands.items;
      locals = r.locals.items;
      labels = r.labels.items;
      frames = r.frames.items;
      at = r.at;
    }
