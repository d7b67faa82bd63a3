use Rattle.std.proofs.Common.{sym, ◌∙◌}
use Rattle.std.proofs.lemmas.Result.{err_from_is_err_and}
use Rattle.ctw_leb.proofs.Exact.{err_ok}
use Rattle.ctw_form.specs.Sections.{with_section}
use Rattle.ctw_module.proofs.Filling.{in_section, in_section_kind, in_section_window, takes_window}
use Rattle.ctw_module.proofs.gather.section.Goals as goal

pub returns-in_err-kind : goal.returns-in_err-kind
returns-in_err-kind c = λ seen section o p e h.
    let r = err_from_is_err_and c.from_residual.result c.from_residual.ensures.1 in
    let s = in_section c.args.ct seen c.args.cursor.now o section e in
    rw (r.1, r.2) (err_ok c.in_err-kind.field-0.0 (s.kind, s.body) (sym c.in_err-kind.ensures ∙ s.named))

pub returns-in_err-window : goal.returns-in_err-window
returns-in_err-window c = λ seen section o p e h.
    let r = err_from_is_err_and c.from_residual-in_err-window.result c.from_residual-in_err-window.ensures.1 in
    let s = in_section c.args.ct seen c.args.cursor.now o section e in
    let k = in_section_kind c.args.ct seen c.args.cursor.now o section s c.in_ok-kind.kind c.section_kind.new.cursor c.in_ok-kind.ensures in
    rw (r.1, r.2) (err_ok c.in_err-window.field-0.0 (s.window, o) (sym c.in_err-window.ensures ∙ k.0))

pub returns : goal.returns
returns c = λ seen section o p e h.
    let s = in_section c.args.ct seen c.args.cursor.now o section e in
    let k = in_section_kind c.args.ct seen c.args.cursor.now o section s c.in_ok-kind.kind c.section_kind.new.cursor c.in_ok-kind.ensures in
    let w = in_section_window c.args.ct seen o section c.in_ok-kind.kind c.section_kind.new.cursor s.window k c.in_ok-window.window c.window.new.cursor c.in_ok-window.ensures in
    takes_window c.fill.result c.window.new.cursor o c.in_ok-window.window c.fill.new.found (with_section p section) w.0 (c.fill.ensures seen section p w.1 h)
