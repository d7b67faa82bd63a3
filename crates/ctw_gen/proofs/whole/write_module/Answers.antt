use Rattle.ctw_gen.proofs.Sections.{module_joined}
use Rattle.ctw_gen.proofs.whole.write_module.Goals as goal

pub returns-clause-bytes : goal.returns-clause-bytes
returns-clause-bytes c =
    let seed = c.args.draws.now in
    let size = c.args.size in
    module_joined seed size c.new-out.result.items c.put_header.new.out.items c.put_types.new.out.items c.put_uses.new.out.items c.put_memories.new.out.items c.put_exports.new.out.items c.put_codes.new.out.items c.new-out.ensures.items c.in_ok-put_header.ensures
    (c.in_ok-put_types.ensures seed size) (c.in_ok-put_uses.ensures seed) (c.in_ok-put_memories.ensures seed size) (c.in_ok-put_exports.ensures seed) c.in_ok-put_codes.ensures.written
