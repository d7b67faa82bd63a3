use Rattle.ctw_form.specs.Read.{export_at}
use Rattle.ctw_form.proofs.Listing.{items_step}
use Rattle.ctw_form.proofs.lists.exports.Goals as goal

pub exports-preserved : goal.exports-preserved
exports-preserved c =
    items_step export_at c.in_ok-count.count c.number.new.cursor c.exports.counter c.exports.cursor c.export.new.cursor c.exports.found.items c.push.new.self.items _ c.exports-test.true c.exports.invariant c.in_ok-export.ensures c.in_ok-push.ensures.items
