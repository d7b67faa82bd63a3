use Rattle.std.proofs.Common.{◌≡◌, ◌<◌, ◌∙◌, length, arith}
use Rattle.ctw_store.proofs.Counts.{stores_count}
use Rattle.ctw_tests.proofs.stores.Two.store.Goals as goal

pub invariant_of-self : goal.invariant_of-self
invariant_of-self c =
    let e : length c.args.self.now.store.storage.memories ≡ 2 = c.args.self.now.two in
    let l : c.args.mem < length c.args.self.now.store.storage.memories = omega arith in
    record { two = stores_count c.args.self.now.store.storage c.store.new.self.storage c.args.mem c.args.at c.args.bytes c.args.value c.store.result l c.store.ensures.answer ∙ e }
