use Rattle.std.proofs.Common.{refl}
use Rattle.ctw_io.proofs.Places.{replaced, added}
use Rattle.ctw_io.proofs.kept.Kept.put.Goals as goal

pub returns-in-Some-clause-ok : goal.returns-in-Some-clause-ok
returns-in-Some-clause-ok c =
    replaced c.self.inside.files.items c.deref.result.now c.args.self.now c.args.name.now c.args.bytes.now c.in-Some.place c.index_mut-file.result.now (c.index_mut-file.result.now.0, c.in_ok-content.content) c.self.view_is c.deref.ensures.value c.in-Some.ensures c.index_mut-file.ensures.value refl c.in_ok-content.ensures.items

pub returns-clause-ok : goal.returns-clause-ok
returns-clause-ok c =
    added c.self.inside.files.items c.deref.result.now c.push.new.self.items c.args.self.now c.args.name.now c.args.bytes.now (c.in_ok-name.name, c.in_ok-content.content) c.self.view_is c.deref.ensures.value c.in_default.ensures c.in_ok-name.ensures.ok c.in_ok-content.ensures.items c.in_ok-push.ensures.items
