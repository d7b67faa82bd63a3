use Rattle.ctw_write.proofs.Walked.{on_ok}
use Rattle.ctw_write.proofs.ReadyViews.{sections_joined}
use Rattle.ctw_place.specs.Bodies.{placed_of}
use Rattle.ctw_place.proofs.whole.put_sections.Goals as goal

pub returns : goal.returns
returns c =
    on_ok c.put_contents.result
    (sections_joined (placed_of c.args.setting.now) c.args.out.now.items c.put_declarations.new.out.items c.put_spaces.new.out.items c.put_uses_of_spaces.new.out.items c.put_contents.new.out.items
    c.in_ok-put_declarations.ensures c.in_ok-put_spaces.ensures c.in_ok-put_uses_of_spaces.ensures) c.put_contents.ensures
