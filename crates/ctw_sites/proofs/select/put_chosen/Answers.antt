use Rattle.std.proofs.Common.{◌≡◌, ◌∙◌, sym, ap}
use Rattle.ctw_stack.specs.declared.slot.Slot.TheVariants.{Known}
use Rattle.ctw_labels.specs.declared.tag.Tag.TheVariants.{At}
use Rattle.ctw_sites.proofs.Answered.{ok_of}
use Rattle.ctw_sites.proofs.SelectLaws.{known_put, wide_put}
use Rattle.ctw_sites.proofs.select.put_chosen.Goals as goal
