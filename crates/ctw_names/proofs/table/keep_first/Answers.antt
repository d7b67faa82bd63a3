use Rattle.std.proofs.Common.{Some, sym, ◌∙◌}
use Rattle.std.specs.Str.{bytes_eq}
use Rattle.std.proofs.lemmas.Map.Text.{hash_map_updates_str}
use Rattle.indexmap.specs.IndexMap.{get_by}
use Rattle.ctw_names.proofs.Positions.{first_put}
use Rattle.ctw_names.proofs.table.keep_first.Goals as goal

pub returns-clause-firsts : goal.returns-clause-firsts
returns-clause-firsts c =
    first_put (λ v. get_by (λ k. bytes_eq v k.now) c.args.firsts.now) (λ v. get_by (λ k. bytes_eq v k.now) c.insert.new.self) c.args.word.now (Some c.args.at)
    (sym c.contains_key.ensures ∙ c.if-contains_key.false)
    (hash_map_updates_str c.args.word.now c.args.firsts.now c.insert.new.self (Some c.args.at) c.in_ok-insert.ensures.updates)
