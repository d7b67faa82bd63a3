-- An entry more is read off at each step.
use Rattle.std.proofs.Common.{◌≡◌, ◌<◌, ◌+◌, ℕ, List, [], ◌∷◌, ◌++◌, length, length-append, get_or, reverse, ◌∙◌, ap, arith}
use Rattle.ctw_flow.specs.declared.search.Entry.{Entry}
use Rattle.ctw_flow.specs.Search.{At}
use Rattle.std.proofs.lemmas.List.{length-reverse}
use Rattle.std.proofs.lemmas.Option.{slice_get-get_or}
use Rattle.ctw_flow.proofs.Trails.{read_node, read_rule, read_root, read_rules}
use Rattle.ctw_flow.proofs.search.trace.Goals as goal

one_more : (xs ys : List ℕ) (x y : ℕ) → length xs ≡ length ys → length (xs ++ x ∷ []) ≡ length (ys ++ y ∷ [])
one_more xs ys x y e = let a : length (xs ++ x ∷ []) ≡ length xs + 1 = length-append xs (x ∷ []) in let b : length (ys ++ y ∷ []) ≡ length ys + 1 = length-append ys (y ∷ []) in omega arith

pub loop-at-smaller : goal.loop-at-smaller
loop-at-smaller c =
    let e : Entry = get_or c.args.queue.now c.loop-at.at (record { node = 0; parent = 0; rule = 0 }) in
    c.requires.earlier c.loop-at.at e (slice_get-get_or c.args.queue.now c.loop-at.at (record { node = 0; parent = 0; rule = 0 }) c.loop-at.invariant.within) c.loop-at-test.true

pub loop-at-preserved : goal.loop-at-preserved
loop-at-preserved c =
    let e : Entry = get_or c.args.queue.now c.loop-at.at (record { node = 0; parent = 0; rule = 0 }) in
    let h : At c.args.queue.now c.loop-at.at e = slice_get-get_or c.args.queue.now c.loop-at.at (record { node = 0; parent = 0; rule = 0 }) c.loop-at.invariant.within in
    let l : e.parent < c.loop-at.at = c.requires.earlier c.loop-at.at e h c.loop-at-test.true in
    record {
      within = let w = c.loop-at.invariant.within in omega arith;
      even = let k = c.loop-at.invariant.even in rw (c.in_ok-push.ensures.items, c.in_ok-push-2.ensures.items) (one_more c.loop-at.nodes.items c.loop-at.rules.items e.node e.rule k);
      short = let w = c.loop-at.invariant.short in rw c.in_ok-push.ensures.items (let a : length (c.loop-at.nodes.items ++ e.node ∷ []) ≡ length c.loop-at.nodes.items + 1 = length-append c.loop-at.nodes.items (e.node ∷ []) in omega arith);
      nodes = rw c.in_ok-push.ensures.items (read_node c.args.queue.now c.args.roots c.loop-at.at c.args.place e h c.loop-at.nodes.items c.loop-at-test.true c.loop-at.invariant.nodes);
      rules = rw c.in_ok-push-2.ensures.items (read_rule c.args.queue.now c.args.roots c.loop-at.at c.args.place e h c.loop-at.rules.items c.loop-at-test.true c.loop-at.invariant.rules);
    }

pub returns-clause-nodes : goal.returns-clause-nodes
returns-clause-nodes c =
    let e : Entry = get_or c.args.queue.now c.loop-at.at (record { node = 0; parent = 0; rule = 0 }) in
    let h : At c.args.queue.now c.loop-at.at e = slice_get-get_or c.args.queue.now c.loop-at.at (record { node = 0; parent = 0; rule = 0 }) c.loop-at.invariant.within in
    read_root c.args.queue.now c.args.roots c.loop-at.at c.args.place e h c.loop-at.nodes.items (omega arith) c.loop-at.invariant.nodes c.reverse.new.self.items (c.reverse.ensures.items ∙ ap reverse c.in_ok-push-3.ensures.items)

pub returns-clause-rules : goal.returns-clause-rules
returns-clause-rules c =
    let e : Entry = get_or c.args.queue.now c.loop-at.at (record { node = 0; parent = 0; rule = 0 }) in
    let h : At c.args.queue.now c.loop-at.at e = slice_get-get_or c.args.queue.now c.loop-at.at (record { node = 0; parent = 0; rule = 0 }) c.loop-at.invariant.within in
    read_rules c.args.queue.now c.args.roots c.loop-at.at c.args.place e h c.loop-at.rules.items (omega arith) c.loop-at.invariant.rules c.reverse-2.new.self.items c.reverse-2.ensures.items

pub invariant_of-result : goal.invariant_of-result
invariant_of-result c =
    let x : Entry = get_or c.args.queue.now c.loop-at.at (record { node = 0; parent = 0; rule = 0 }) in
    let e = c.loop-at.invariant.even in
    let w = c.loop-at.invariant.short in
    let n : length c.reverse.new.self.items ≡ length c.loop-at.nodes.items + 1 = ap length (c.reverse.ensures.items ∙ ap reverse c.in_ok-push-3.ensures.items) ∙ length-reverse (c.loop-at.nodes.items ++ x.node ∷ []) ∙ length-append c.loop-at.nodes.items (x.node ∷ []) in
    let r : length c.reverse-2.new.self.items ≡ length c.loop-at.rules.items = ap length c.reverse-2.ensures.items ∙ length-reverse c.loop-at.rules.items in
    (omega arith, omega (arith, c.requires.place, c.requires.small))
