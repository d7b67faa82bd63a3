use Rattle.std.proofs.Common.{refl, ◌∙◌}
use Rattle.ctw_form.specs.Shown.{constant_of}
use Rattle.ctw_form.specs.Spelled.{element_of}
use Rattle.ctw_form.proofs.Heads.{element_headed}
use Rattle.ctw_read.proofs.lists.element.Goals as goal

pub returns : goal.returns
returns c =
    let s = c.in_ok-indexes.ensures in
    let head = c.in_ok-_offset.field-0 in
    (element_of head.index (constant_of head.offset) s.0, element_headed c.args.ct c.args.cursor.now ∙ rw (c.in_ok-_offset.ensures, s.1) refl)
