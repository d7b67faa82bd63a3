use Rattle.std.proofs.Common.{Some, sym, ◌∙◌}
use Rattle.std.specs.Str.{bytes_eq}
use Rattle.indexmap.specs.IndexMap.{get_by}
use Rattle.ctw_names.proofs.Positions.{first_put}
use Rattle.ctw_names.proofs.TypeLaws.{updates_items}
use Rattle.ctw_names.proofs.types.keep_entry.Goals as goal

pub returns-clause-firsts : goal.returns-clause-firsts
returns-clause-firsts c =
    first_put (λ v. get_by (λ k. bytes_eq v k.items) c.args.firsts.now) (λ v. get_by (λ k. bytes_eq v k.items) c.insert.new.self) c.args.key.items (Some c.args.at)
    (sym c.contains_key.ensures ∙ c.if-contains_key.false)
    (updates_items c.args.key.items c.args.firsts.now c.insert.new.self (Some c.args.at) c.in_ok-insert.ensures.updates)
