use Rattle.ctw_text.specs.Names.{Wide}
use Rattle.ctw_parse.proofs.Joined.{canon_joined, sections_joined}
use Rattle.ctw_parse.proofs.whole.write.Goals as goal
use Rattle.std.proofs.Common.{ap}

pub returns-clause-written : goal.returns-clause-written
returns-clause-written c =
    canon_joined c.args.m.now c.m.inside.ct c.new-out.result.items c.put_header.new.out.items c.put_filling.new.out.items c.new-out.ensures.items (ap (λ (m : Wide). m.ct) c.m.view_is) c.in_ok-put_header.ensures
    (sections_joined c.args.m.now c.put_header.new.out.items c.put_declarations.new.out.items c.put_spaces.new.out.items c.put_uses_of_spaces.new.out.items c.put_filling.new.out.items c.in_ok-put_declarations.ensures.written c.in_ok-put_spaces.ensures.written c.in_ok-put_uses_of_spaces.ensures.written c.in_ok-put_filling.ensures.written)
