use Rattle.std.proofs.Common.{◌∙◌, ap, sym, inr, Some, ℕ, List, cond, is_some, get_or, arith, rules}
use Rattle.std.specs.Str.{bytes_eq}
use Rattle.std.specs.Ordering.{nat_cmp}
use Rattle.std.specs.Cmp.Lexicographic.{slice_cmp}
use Rattle.std.specs.BTreeMap.{get_by}
use Rattle.std.proofs.lemmas.List.{length-map}
use Rattle.std.proofs.lemmas.Option.{slice_get-get_or}
use Rattle.std.proofs.lemmas.Map.Text.{btree_map_updates_str}
use Rattle.ctw_link.specs.Sets.{set_of, part_in}
use Rattle.ctw_link.proofs.Lists.{mapped_at, copied_there}
use Rattle.ctw_link.proofs.NameMaps.{named_none, named_double, named_more, named_all}
use Rattle.ctw_link.proofs.names.names_of.Goals as goal

pub parts-init : goal.parts-init
parts-init c = named_none (set_of c.args.parts.now) _ (search rules)

pub returns-then-is_some-clause-fault : goal.returns-then-is_some-clause-fault
returns-then-is_some-clause-fault c =
    let p = get_or c.args.parts.now c.parts.i c.index-parts-i.result in
    let at = mapped_at part_in c.args.parts.now c.parts.i p (slice_get-get_or c.args.parts.now c.parts.i c.index-parts-i.result (omega arith)) in
    let some = sym (ap is_some c.get.ensures.value) ∙ copied_there c.get.result ∙ sym c.if-is_some.ensures in
    let held = λ (n : List ℕ). get_by (λ key. slice_cmp nat_cmp n key.now) c.parts.names in
    inr (named_double (set_of c.args.parts.now) held c.parts.i (part_in p) at (ap (λ n. is_some (held n)) (sym c.as_str-name.ensures) ∙ some) c.parts.invariant)

pub parts-preserved : goal.parts-preserved
parts-preserved c =
    let p = get_or c.args.parts.now c.parts.i c.index-parts-i.result in
    let at = mapped_at part_in c.args.parts.now c.parts.i p (slice_get-get_or c.args.parts.now c.parts.i c.index-parts-i.result (omega arith)) in
    let none = sym (ap is_some c.get.ensures.value) ∙ copied_there c.get.result ∙ sym c.if-is_some.ensures in
    let after = btree_map_updates_str c.as_str-name.result.now c.parts.names c.insert.new.self (Some c.parts.i) c.in_ok-insert.ensures.updates in
    let held = λ (n : List ℕ). get_by (λ key. slice_cmp nat_cmp n key.now) c.parts.names in
    named_more (set_of c.args.parts.now) held (λ n. get_by (λ key. slice_cmp nat_cmp n key.now) c.insert.new.self) c.parts.i (part_in p) at (ap (λ n. is_some (held n)) (sym c.as_str-name.ensures) ∙ none)
    (λ n. after n ∙ ap (λ (m : List ℕ). cond (bytes_eq m n) (Some c.parts.i) (held n)) c.as_str-name.ensures) c.parts.invariant

pub returns-clause-fault : goal.returns-clause-fault
returns-clause-fault c = (named_all (set_of c.args.parts.now) _ c.parts.i (omega (arith, length-map c.args.parts.now part_in)) c.parts.invariant).1

pub returns-clause-names : goal.returns-clause-names
returns-clause-names c = (named_all (set_of c.args.parts.now) _ c.parts.i (omega (arith, length-map c.args.parts.now part_in)) c.parts.invariant).0
