use Rattle.std.proofs.Common.{◌∙◌, sym}
use Rattle.ctw_module.specs.Trees.{view_module}
use Rattle.ctw_sites.specs.Scope.{memory_of}
use Rattle.ctw_sites.proofs.ScopeLaws.{memory_some, memory_none}
use Rattle.ctw_sites.proofs.around.Around.memory.Goals as goal

pub returns-in-Some : goal.returns-in-Some
unfolding memory_of
returns-in-Some c =
    let s = c.args.self.now in
    memory_some (view_module s.whole.now) s.memory c.in-Some.field-0 s.memory_is (sym c.memory.ensures ∙ c.in-Some.is)

pub returns-in-None : goal.returns-in-None
unfolding memory_of
returns-in-None c = memory_none (view_module c.args.self.now.whole.now) (sym c.memory.ensures ∙ c.in-None.is)
