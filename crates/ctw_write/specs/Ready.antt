-- What is known of a view whose module is written canonically.
use Rattle.std.specs.Prelude.{◌<◌, ◌^◌, length}
use Rattle.std.specs.List.{All}
use Rattle.ctw_form.specs.Spelled.{Spells}
use Rattle.ctw_module.specs.Trees.{Lent, tree}
use Rattle.ctw_write.specs.Canon.{canon}
use Rattle.ctw_ops.specs.Valid.{IsFitting}

-- its bytes spell it, its canonical spelling is short, and its constants fit
pub record IsReady (lent : Lent) : Type 0 where
  pub spelled : Spells lent.bytes (tree lent)
  pub short : length (canon (tree lent)) < 2 ^ 32
  pub global_constants : All (λ g. IsFitting g.init) (tree lent).globals
  pub element_offsets : All (λ e. IsFitting e.offset) (tree lent).elements
  pub segment_offsets : All (λ s. IsFitting s.offset) (tree lent).segments
