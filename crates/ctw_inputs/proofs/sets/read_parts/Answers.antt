use Rattle.ctw_inputs.proofs.PartsRead.{IsPartRead, one_more_read, goes_on, ends_reading}
use Rattle.ctw_inputs.proofs.sets.read_parts.Goals as goal

pub parts-preserved : goal.parts-preserved
parts-preserved c =
    let r = c.in_ok-read_part.ensures in
    let one : IsPartRead c.args.profile c.part-item.result c.in_ok-read_part.field-0 = record { told = r.told; named = r.named; valid = r.valid; spelled = r.spelled } in
    record {
      read = one_more_read c.args.profile c.args.parts.now c.parts.modules.items c.parts.part-index c.part-item.result c.parts-test.true c.part-item.is c.push.new.self.items c.in_ok-read_part.field-0 c.in_ok-push.ensures.items one c.parts.invariant.read;
      told = goes_on c.args.profile c.args.parts.now c.parts.modules.items c.parts.part-index c.part-item.result c.parts-test.true c.part-item.is c.push.new.self.items c.in_ok-read_part.field-0 c.in_ok-push.ensures.items one c.parts.invariant.told;
    }

pub returns-clause-told : goal.returns-clause-told
returns-clause-told c = λ go. ends_reading c.args.profile c.args.parts.now c.parts.modules.items c.parts.part-index c.parts-test.false c.parts.auto.part-index-end c.parts.invariant.told go
