use Rattle.std.proofs.Common.{◌≡◌, ◌≤◌, ◌+◌, ◌∙◌, ◌++◌, ◌⊎◌, true, length, sym, ap, subst, arith, length-append, append_assoc}
use Rattle.ctw_flat.specs.Instructions.{op_of}
use Rattle.ctw_stack.specs.Opens.{slot_count}
use Rattle.ctw_labels.specs.declared.name.SiteName.TheVariants.{Push}
use Rattle.ctw_labels.specs.FlatSites.{among}
use Rattle.ctw_sites.specs.Leaves.{IsRowOf, own_of}
use Rattle.ctw_sites.specs.Packed.{after}
use Rattle.ctw_sites.specs.Rows.{rests, done, push_by}
use Rattle.ctw_sites.specs.Scope.{scope, place}
use Rattle.ctw_sites.specs.Stacks.{on_innermost}
use Rattle.ctw_sites.proofs.Answered.{ok_then, ok_here}
use Rattle.ctw_sites.proofs.PackedLaws.{after_both}
use Rattle.ctw_sites.proofs.PassLaws.{row_behind, row_sites, own_within}
use Rattle.ctw_sites.proofs.StackLaws.{take_short}
use Rattle.ctw_links.specs.Asks.{listed, asked_on, asks_of_op, own_facts_of_op}
use Rattle.ctw_links.proofs.AskLaws.{done_left, some_on}
use Rattle.ctw_links.proofs.RowFacts.{op_right, op_within}
use Rattle.ctw_links.proofs.pass.pass_leaf.Goals as goal

pub asks_of-asks-requires : goal.asks_of-asks-requires
asks_of-asks-requires c =
    let k = ap (λ z. z.count) c.packer.view_is in
    let h = own_within (place c.args.around.now) (scope c.args.around.now) c.args.packer.now.count c.args.at (op_of c.args.instr.now) c.args.stack.now c.requires.leaf c.requires.goes in
    record { exactly = c.requires.exactly; room = omega (arith, h, k, c.requires.room) }

pub row_of-requires : goal.row_of-requires
row_of-requires c =
    let k = ap (λ z. z.count) c.packer.view_is in
    let h = own_within (place c.args.around.now) (scope c.args.around.now) c.args.packer.now.count c.args.at (op_of c.args.instr.now) c.args.stack.now c.requires.leaf c.requires.goes in
    record { exactly = c.requires.exactly; room = omega (arith, h, k, c.requires.room) }

pub tell-requires : goal.tell-requires
tell-requires c = record { «open» = c.requires.«open»; room = c.asks_of-asks.ensures.room }

pub push_own-requires : goal.push_own-requires
push_own-requires c =
    let h = own_within (place c.args.around.now) (scope c.args.around.now) c.args.packer.now.count c.args.at (op_of c.args.instr.now) c.args.stack.now c.requires.leaf c.requires.goes in
    record { room = omega (arith, h, c.requires.room) }

pub push_row-requires : goal.push_row-requires
push_row-requires c =
    let P = place c.args.around.now in
    let C = scope c.args.around.now in
    let b = c.args.stack.now in
    let op = op_of c.args.instr.now in
    let N = c.args.packer.now.count in
    let r = c.row_of.result in
    let name = Push c.args.around.now.f c.args.at in
    let k = ap (λ z. z.count) c.packer.view_is in
    let h = row_sites P C N c.args.at op b r c.requires.leaf c.requires.goes c.requires.other (subst (λ z. IsRowOf P (among C b) z op r) k c.row_of.ensures) in
    let e = ap (λ z. z.count) c.in_ok-push_own.ensures in
    let s = ap length h in
    let l = length-append (own_of P c.args.at op) (push_by name r) in
    let w = ap (λ z. length (push_by name z)) c.without-row.ensures in
    omega (arith, e, s, l, w, c.requires.room)

pub apply-requires : goal.apply-requires
apply-requires c =
    let k = length (listed c.asks_of-asks.result) in
    let e = ap length c.in_ok-tell.ensures.stack in
    let s = some_on (rests k) c.args.stack.now in
    let f = ap slot_count c.in_ok-tell.ensures.stack in
    let t = take_short k c.args.stack.now in
    record { «open» = omega (arith, e, s, c.requires.«open»); few = omega (arith, f, t, c.requires.few) }

pub returns : goal.returns
returns c =
    let P = place c.args.around.now in
    let C = scope c.args.around.now in
    let b = c.args.stack.now in
    let op = op_of c.args.instr.now in
    let N = c.args.packer.now.count in
    let told = c.args.told.now.items in
    let r = c.row_of.result in
    let k = ap (λ z. z.count) c.packer.view_is in
    let q = c.requires.other in
    let is = subst (λ z. IsRowOf P (among C b) z op r) k c.row_of.ensures in
    let h = row_sites P C N c.args.at op b r c.requires.leaf c.requires.goes q is in
    let g = row_behind P C N c.args.at op b r c.requires.leaf c.requires.goes q is in
    let asks = c.asks_of-asks.ensures.asks ∙ ap (λ z. asks_of_op P (among C b) z op) k in
    let within = subst (λ z. (r.ends ≡ true) ⊎ (length z ≤ r.takes)) (sym asks) (op_within P (among C b) N op r c.requires.leaf q is) in
    let site = ap (λ z. z.count) c.packer-2.view_is ∙ ap (λ z. z.count) c.in_ok-push_own.ensures in
    let name = Push c.args.around.now.f c.args.at in
    record {
      told = ok_here c.apply.result (c.in_ok-tell.ensures.told
          ∙ (λ i. (c.in_ok-tell_own.ensures ∙ ap (λ z. told ++ own_facts_of_op (among C b) z op) k) i ++ asked_on (asks i) b)
          ∙ append_assoc told (own_facts_of_op (among C b) N op) (asked_on (asks_of_op P (among C b) N op) b)
          ∙ ap (λ z. told ++ z) (sym (op_right P C N op b c.requires.leaf c.requires.goes q)));
      stack = ok_then c.apply.result c.apply.ensures (λ e. e ∙ (λ i. on_innermost (done (site i) (c.without-row.ensures i)) (c.in_ok-tell.ensures.stack i))
          ∙ done_left (N + length (own_of P c.args.at op)) (length (listed c.asks_of-asks.result)) r b within ∙ g);
      sites = ok_here c.apply.result (c.in_ok-push_row.ensures ∙ (λ i. after (c.in_ok-push_own.ensures i) (push_by name (c.without-row.ensures i)))
          ∙ after_both c.args.packer.now (own_of P c.args.at op) (push_by name r) ∙ ap (after c.args.packer.now) h);
    }
