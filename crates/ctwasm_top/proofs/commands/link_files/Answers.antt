use Rattle.std.proofs.Common.{map, ap, ◌∙◌}
use Rattle.ctw_inputs.specs.Parts.{part_named}
use Rattle.ctwasm_top.proofs.Settled.{parts_on}
use Rattle.ctwasm_top.proofs.commands.link_files.Goals as goal

pub returns-clause-told : goal.returns-clause-told
returns-clause-told g c = λ files told.
    parts_on files c.args.profile c.args.words.now c.deref.result.now c.in_ok-loaded.loaded.items c.deref-2.result.now c.matched.result (c.in_ok-loaded.ensures.told files told) c.in_ok-loaded.ensures.parts
    (ap (map part_named) c.deref.ensures.value ∙ c.in_ok-parts.ensures.named) c.deref-2.ensures.value c.matched.ensures.told
