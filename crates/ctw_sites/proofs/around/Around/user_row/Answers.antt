use Rattle.std.proofs.Common.{◌∙◌, ◌+◌, ap}
use Rattle.ctw_module.specs.Trees.{view_module}
use Rattle.ctw_sites.specs.Rows.{gives_of}
use Rattle.ctw_sites.proofs.ScopeLaws.{user_given}
use Rattle.ctw_sites.proofs.around.Around.user_row.Goals as goal

pub returns : goal.returns
returns c =
    let m = view_module c.args.self.now.whole.now in
    c.gives_of.ensures ∙ ap (gives_of (c.signature-params.result.0 + 1)) c.given.ensures
    ∙ user_given m c.args.n c.args.y c.signature-params.result.0 c.signature-params.result.1 c.signature-params.ensures.params c.signature-params.ensures.width
