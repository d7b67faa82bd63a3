use Rattle.ctw_write.proofs.Walked.{on_ok}
use Rattle.ctw_gen.proofs.Sections.{typed_text}
use Rattle.ctw_gen.proofs.section.put_type.Goals as goal

pub returns : goal.returns
returns c =
    on_ok c.put_result.result (λ e. typed_text c.args.params.now c.args.out.now.items c.push.new.self.items c.put_sized.new.out.items c.put_result.new.out.items c.requires.types c.in_ok-push.ensures.items c.in_ok-put_sized.ensures.put e)
    c.put_result.ensures
