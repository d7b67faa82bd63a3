use Rattle.std.proofs.Common.{◌≡◌, ◌++◌, drop, map, option_map}
use Rattle.ctw_lex.specs.Told.{lexeme_of}
use Rattle.ctw_script.specs.MoveValues.{arguments_of}
use Rattle.ctw_script.proofs.line.arguments.Given as goal

abbrev pub invariant-loop-t : goal.invariant-loop-t
invariant-loop-t l = arguments_of (map lexeme_of l.tokens) ≡ option_map (λ more. l.args.items ++ more) (arguments_of (map lexeme_of (drop l.t-index l.tokens)))
