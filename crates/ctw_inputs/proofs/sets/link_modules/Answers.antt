use Rattle.std.proofs.Common.{List, sym, subst}
use Rattle.ctw_link.specs.declared.set.Part.{Part}
use Rattle.ctw_link.specs.Sets.{set_of}
use Rattle.ctw_inputs.specs.Parts.{AreNamed}
use Rattle.ctw_inputs.proofs.PartsRead.{matches}
use Rattle.ctw_inputs.proofs.sets.link_modules.Goals as goal

pub returns-in-Ok-clause-told : goal.returns-in-Ok-clause-told
returns-in-Ok-clause-told c = λ go. matches c.args.modules.items _ go c.in-Ok.ensures.sound c.in-Ok.ensures.parts

pub returns-in-Ok-clause-named : goal.returns-in-Ok-clause-named
returns-in-Ok-clause-named c = subst (λ (l : List Part). AreNamed (set_of l) c.args.parts.now) (sym c.in-Ok.ensures.parts) c.requires.named
