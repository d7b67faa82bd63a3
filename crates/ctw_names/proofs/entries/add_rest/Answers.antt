use Rattle.std.proofs.Common.{◌+◌, List, [], ◌∷◌, ◌++◌, drop, map, append_assoc, ap, sym, ◌∙◌}
use Rattle.ctw_text.specs.Names.{Spelled, WideEntry, plain_entry}
use Rattle.ctw_names.proofs.Noting.{drop_get}
use Rattle.ctw_names.proofs.entries.add_rest.Goals as goal

pub entries-preserved : goal.entries-preserved
entries-preserved c =
    let es = c.args.entries.now in
    let n = c.entries.n in
    let before = c.entries.types.items in
    let rest = map plain_entry (drop (n + 1) es) in
    ap (λ (l : List WideEntry). l ++ rest) c.in_ok-push.ensures.items ∙ append_assoc before (plain_entry c.in_ok-ty.ty ∷ []) rest
    ∙ ap (λ (t : Spelled). before ++ plain_entry t ∷ rest) c.in_ok-ty.ensures
    ∙ ap (λ (l : List Spelled). before ++ map plain_entry l) (sym (drop_get es n c.entry.result.now c.entry.ensures)) ∙ c.entries.invariant
