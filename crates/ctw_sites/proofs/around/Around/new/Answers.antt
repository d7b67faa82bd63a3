use Rattle.std.proofs.Common.{◌≡◌, ◌∙◌, length, sym, ap, arith}
use Rattle.std.proofs.lemmas.Option.{slice_get-get_or}
use Rattle.ctw_module.specs.Trees.{view_module}
use Rattle.ctw_sites.specs.Heads.{own_type}
use Rattle.ctw_sites.proofs.ScopeLaws.{own_entry, head_here, head_room, locals_number}
use Rattle.ctw_sites.proofs.around.Around.new.Goals as goal

pub bounds-heads-f : goal.bounds-heads-f
bounds-heads-f c = head_here (view_module c.args.whole.now) c.args.heads.now c.args.f c.requires.heads c.requires.there

pub invariant_of-result : goal.invariant_of-result
invariant_of-result c =
    let m = view_module c.args.whole.now in
    let y = c.type_of_func.result in
    let o = ap (λ z. length z.params) (own_entry m c.args.f y c.requires.defined c.type_of_func.ensures) in
    let p : c.signature-params.result.0 ≡ length (own_type m c.args.f).params = c.signature-params.ensures.params ∙ sym o in
    let n = locals_number m c.args.f c.local_count.result c.local_count.ensures in
    record {
      heads_are = c.requires.heads;
      head_is = slice_get-get_or c.args.heads.now c.args.f 0 (head_here m c.args.heads.now c.args.f c.requires.heads c.requires.there);
      params_are = p;
      locals_are = omega (arith, n, p);
      room = c.requires.room;
      own_room = head_room m c.args.heads.now c.args.f y c.signature-params.result.0 c.args.globals c.requires.heads c.requires.there c.type_of_func.ensures c.signature-params.ensures.params c.requires.globals;
      few = c.ranges.globals.fits;
      globals_are = c.requires.globals;
      memory_is = omega (arith, c.requires.globals, c.global_count.ensures);
      defined = c.requires.defined;
      there = c.requires.there;
    }
