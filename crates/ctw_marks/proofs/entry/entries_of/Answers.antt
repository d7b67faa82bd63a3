use Rattle.std.proofs.Common.{◌≡◌, ap, sym, ◌∙◌, subst}
use Rattle.std.proofs.lemmas.List.Elements.{All-drop}
use Rattle.ctw_script.specs.MoveValues.{IsWhole, AreWhole}
use Rattle.ctw_marks.proofs.EntryLaws.{line_read}
use Rattle.ctw_marks.proofs.entry.entries_of.Goals as goal

pub lines-preserved : goal.lines-preserved
lines-preserved c = record {
  whole = subst AreWhole (sym c.behind-rest.ensures) (All-drop IsWhole c.line_length-count.result c.lines.rest.now c.lines.invariant.whole);
  read = line_read c.lines.entries.items c.in_ok-entry.entry c.push.new.self.items c.line_length-count.result c.lines.rest.now c.behind-rest.result.now c.args.tokens.now
      c.line_length-count.ensures.lines c.in_ok-entry.ensures c.in_ok-push.ensures.items c.behind-rest.ensures c.lines.invariant.read;
}
