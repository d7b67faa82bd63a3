use Rattle.std.proofs.Common.{refl, ◌∙◌, arith}
use Rattle.std.proofs.lemmas.Result.{err_from_is_err_and}
use Rattle.ctw_inputs.proofs.PartsLoaded.{parts_more, left_more, goes_on, stops, ends_loading}
use Rattle.ctw_inputs.proofs.parts.load_parts.Goals as goal

pub returns-in_err-bytes-clause-told : goal.returns-in_err-bytes-clause-told
returns-in_err-bytes-clause-told g c = λ files told.
    let p = err_from_is_err_and c.from_residual.result c.from_residual.ensures.1 in
    rw (p.1, p.2)
    (stops files c.args.parts.now c.parts.loaded.items c.parts.part-index c.parts.left c.min.result _ c.parts-test.true c.min.ensures c.in_err-bytes.field-0.0 (c.parts.invariant.told files told)
    (c.in_err-bytes.ensures.told files (c.parts.invariant.unchanged ∙ told)))

pub parts-preserved : goal.parts-preserved
parts-preserved g c = record {
  parts = parts_more c.args.parts.now c.parts.loaded.items c.push.new.self.items c.parts.part-index _ _ c.in_ok-push.ensures.items refl c.parts-test.true c.parts.invariant.parts;
  left = left_more c.parts.loaded.items c.push.new.self.items _ c.parts.left c.len.result c.min.result c.in_ok-push.ensures.items (let e = c.len.ensures in let v = c.in_ok-bytes.bytes.ok.0 in omega (arith, e, v)) c.in_ok-bytes.ensures.within c.min.ensures c.parts.invariant.left;
  unchanged = c.load_file.ensures.unchanged ∙ c.parts.invariant.unchanged;
  kept = let h = c.load_file.ensures.cause.kept in let k = c.parts.invariant.kept in omega (arith, h, k);
  told = λ files told.
      goes_on files c.args.parts.now c.parts.loaded.items c.parts.part-index c.parts.left c.min.result _ c.parts-test.true c.min.ensures c.push.new.self.items _ c.len.result c.in_ok-push.ensures.items
      (let e = c.len.ensures in let v = c.in_ok-bytes.bytes.ok.0 in omega (arith, e, v)) (c.parts.invariant.told files told) (c.in_ok-bytes.ensures.told files (c.parts.invariant.unchanged ∙ told));
}

pub returns-clause-told : goal.returns-clause-told
returns-clause-told g c = λ files told go. ends_loading files c.args.parts.now c.parts.loaded.items c.parts.part-index c.parts.left c.parts-test.false (c.parts.invariant.told files told) go
