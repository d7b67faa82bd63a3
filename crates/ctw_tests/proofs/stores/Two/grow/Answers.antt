use Rattle.std.proofs.Common.{◌≡◌, ◌<◌, ◌∙◌, length, arith}
use Rattle.ctw_store.proofs.Counts.{grows_count}
use Rattle.ctw_tests.proofs.stores.Two.grow.Goals as goal

pub invariant_of-self : goal.invariant_of-self
invariant_of-self c =
    let e : length c.args.self.now.store.storage.memories ≡ 2 = c.args.self.now.two in
    let l : c.args.mem < length c.args.self.now.store.storage.memories = omega arith in
    record { two = grows_count c.args.self.now.store.storage c.grow.new.self.storage c.args.mem c.args.pages c.grow.result l c.grow.ensures.answer ∙ e }
