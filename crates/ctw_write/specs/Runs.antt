-- Groups of locals as they are written: groups that are written, a run of equal locals, and locals that are left.
use Rattle.std.specs.Prelude.{◌≡◌, ◌+◌, ℕ, List, ◌++◌, length, replicate}
use Rattle.ctw_ops.specs.ValueType.{ValueType}
use Rattle.ctw_ops.specs.declared.types.Label.{Label}
use Rattle.ctw_form.specs.Sections.{Group}
use Rattle.ctw_write.specs.Canon.{all_texts, groups_of, group_text}
use Rattle.ctw_write.specs.declared.entry.Run.{Run}

-- what is written, the run and the types that are left make these groups
pub record Ahead (whole : List Group) (written : List ℕ) (run : Run) (types : List (ValueType Label)) : Type 0 where
  pub texts : written ++ all_texts group_text (groups_of (replicate run.count run.ty ++ types))
      ≡ all_texts group_text whole
  pub counted : run.groups + length (groups_of (replicate run.count run.ty ++ types)) ≡ length whole
