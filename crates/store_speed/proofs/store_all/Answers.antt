use Rattle.std.proofs.Common.{◌≡◌, ℕ, ◌*◌, ◌<◌, ◌∙◌, length, arith}
use Rattle.ctw_store.proofs.Counts.{stores_count}
use Rattle.store_speed.proofs.store_all.Goals as goal

pub numbers-preserved : goal.numbers-preserved
numbers-preserved c =
    let l : 0 < length c.numbers.store.storage.memories = omega arith in
    stores_count c.numbers.store.storage c.store.new.self.storage 0 (c.numbers.k * 4) 4 _ c.store.result l c.store.ensures.answer ∙ c.numbers.invariant

pub returns-in_err-store : goal.returns-in_err-store
returns-in_err-store c =
    let l : 0 < length c.numbers.store.storage.memories = omega arith in
    let e = stores_count c.numbers.store.storage c.store.new.self.storage 0 (c.numbers.k * 4) 4 _ c.store.result l c.store.ensures.answer in
    omega arith
