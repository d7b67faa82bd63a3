use Rattle.std.specs.List.{All}
use Rattle.ctw_text.specs.Names.{WideFunction}
use Rattle.ctw_write.specs.KeepsLimits.{IsLimitedOp}
use Rattle.ctw_parse.specs.WideCanon.{wide_code_text}
use Rattle.ctw_parse.proofs.Sections.{ListedWith}
use Rattle.ctw_parse.proofs.section.put_codes.Given as goal

-- the first ones are written
abbrev pub invariant-items : goal.invariant-items
invariant-items l = ListedWith (λ (f : WideFunction). All IsLimitedOp f.code) wide_code_text l.functions l.function-index l.initial.contents.items l.contents.items
