use Rattle.std.proofs.Common.{◌≡◌, get_or, sym, ap, ◌∙◌}
use Rattle.std.proofs.lemmas.Option.{slice_get-get_or, same_Some}
use Rattle.ctw_module.specs.Trees.{tree}
use Rattle.ctw_link.specs.Linked.{IsPart, IsValidPart}
use Rattle.ctw_link.specs.Users.{user_entries, first_uses}
use Rattle.ctw_link.proofs.Folding.{all_there}
use Rattle.ctw_link.proofs.PassedUsers.{users_there, users_pass}
use Rattle.ctw_link.proofs.tables.pass_part.Goals as goal

pub pass_entries-requires-clause-there : goal.pass_entries-requires-clause-there
pass_entries-requires-clause-there c =
    let p = get_or c.args.parts.now c.args.part c.index-parts-part.result in
    let is : IsPart c.args.parts.now c.args.part p = slice_get-get_or c.args.parts.now c.args.part c.index-parts-part.result c.requires.there in
    let valid = all_there IsValidPart c.args.parts.now c.args.part p is c.requires.valid in
    users_there c.args.parts.now c.args.part p c.deref.result.now is valid (c.deref.ensures ∙ c.in_ok-entries.ensures)

pub returns : goal.returns
returns c = λ p before is told.
    let q = get_or c.args.parts.now c.args.part c.index-parts-part.result in
    let here : IsPart c.args.parts.now c.args.part q = slice_get-get_or c.args.parts.now c.args.part c.index-parts-part.result c.requires.there in
    let same : q ≡ p = same_Some q p (sym here ∙ is) in
    let e = c.deref.ensures ∙ c.in_ok-entries.ensures ∙ ap (λ q. first_uses (user_entries (tree q.«module»))) same in
    users_pass c.args.parts.now c.args.part c.args.table p c.deref.result.now before c.pass_entries.new.firsts c.pass_entries.result is e (c.pass_entries.ensures before told)
