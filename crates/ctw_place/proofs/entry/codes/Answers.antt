use Rattle.std.proofs.Common.{◌≡◌, ◌≤◌, ◌<◌, ◌+◌, ◌-◌, ◌++◌, ℕ, List, Some, length, sym, ap, subst, ◌∙◌, arith}
use Rattle.std.specs.Prelude.{get_or}
use Rattle.ctw_ops.specs.declared.types.Label.{Label}
use Rattle.ctw_ops.specs.Tree.{Function, function_entries}
use Rattle.ctw_leb.specs.Spelling.{u32_text}
use Rattle.ctw_module.specs.Lookup.{function_named}
use Rattle.ctw_sites.proofs.BodiesLaws.{memory_room}
use Rattle.ctw_write.specs.Canon.{code_text}
use Rattle.ctw_write.proofs.Shorter.{section_short, vector_short}
use Rattle.ctw_write.proofs.Shown.{defined_count}
use Rattle.ctw_place.specs.Bodies.{placed_of, IsReadyUnder, HasRoom}
use Rattle.ctw_place.specs.Settings.{module_of, points_of}
use Rattle.ctw_place.proofs.CodeLaws.{CodesLeft, codes_begin, code_here, codes_done}
use Rattle.ctw_place.proofs.entry.codes.Goals as goal

pub functions-init : goal.functions-init
functions-init c =
    let s = c.args.setting.now in
    let size : c.func_count-count.result - c.imported_count-imported.result ≡ length (module_of c.args.setting.now).functions =
    omega (arith, c.func_count-count.ensures, defined_count (module_of c.args.setting.now) c.imported_count-imported.result c.imported_count-imported.ensures) in
    codes_begin c.args.setting.now c.imported_count-imported.result c.first_site-site.result (c.func_count-count.result - c.imported_count-imported.result) c.put_u32.new.out.items c.args.variants.now
    c.imported_count-imported.ensures c.first_site-site.ensures size (c.in_ok-put_u32.ensures.put ∙ ap (λ (l : List ℕ). l ++ u32_text (c.func_count-count.result - c.imported_count-imported.result)) c.new-out.ensures.items) c.requires.held c.requires.plain c.requires.valid c.requires.releases

same : (m : _) (f : ℕ) (F G : Function Label) → function_named m f ≡ Some F → function_named m f ≡ Some G → F ≡ G
same m f F G e q = let both : Some F ≡ Some G = sym e ∙ q in cc

pub put_entry-requires-clause-memory : goal.put_entry-requires-clause-memory
put_entry-requires-clause-memory c = memory_room (module_of c.args.setting.now) c.requires.sites

pub put_entry-requires-clause-ready : goal.put_entry-requires-clause-ready
put_entry-requires-clause-ready c = λ F e.
    let lt : c.functions.f < length (function_entries (module_of c.args.setting.now)) = omega (arith, c.functions-test.true, c.func_count-count.ensures) in
    let n =
    code_here c.args.setting.now c.functions.f c.functions.site c.functions.out.items c.args.functions.now.heads.items c.functions.variants c.functions.invariant lt c.requires.heads c.requires.sites
    (vector_short 10 code_text (placed_of c.args.setting.now).functions (section_short (placed_of c.args.setting.now) 10 c.requires.short.placed)) c.requires.short.few in
    subst (λ z. IsReadyUnder (module_of c.args.setting.now) (points_of c.args.setting.now) (get_or c.args.functions.now.heads.items c.functions.f 0) c.functions.f c.functions.site z) (same (module_of c.args.setting.now) c.functions.f n.function F n.named e) n.ready

pub put_entry-requires-clause-room : goal.put_entry-requires-clause-room
put_entry-requires-clause-room c =
    let lt : c.functions.f < length (function_entries (module_of c.args.setting.now)) = omega (arith, c.functions-test.true, c.func_count-count.ensures) in
    let n =
    code_here c.args.setting.now c.functions.f c.functions.site c.functions.out.items c.args.functions.now.heads.items c.functions.variants c.functions.invariant lt c.requires.heads c.requires.sites
    (vector_short 10 code_text (placed_of c.args.setting.now).functions (section_short (placed_of c.args.setting.now) 10 c.requires.short.placed)) c.requires.short.few in
    (n.vs, n.later, n.held, λ F e. subst (λ z. HasRoom c.args.setting.now n.vs n.later (get_or c.args.functions.now.heads.items c.functions.f 0) c.functions.f c.functions.site z) (same (module_of c.args.setting.now) c.functions.f n.function F n.named e) n.room)

pub functions-preserved : goal.functions-preserved
functions-preserved c =
    let lt : c.functions.f < length (function_entries (module_of c.args.setting.now)) = omega (arith, c.functions-test.true, c.func_count-count.ensures) in
    let n =
    code_here c.args.setting.now c.functions.f c.functions.site c.functions.out.items c.args.functions.now.heads.items c.functions.variants c.functions.invariant lt c.requires.heads c.requires.sites
    (vector_short 10 code_text (placed_of c.args.setting.now).functions (section_short (placed_of c.args.setting.now) 10 c.requires.short.placed)) c.requires.short.few in
    subst (λ z. CodesLeft c.args.setting.now (c.functions.f + 1) z c.put_entry.new.out.items c.put_entry.new.variants) (sym (c.in_ok-site.ensures.next n.function n.named))
    (n.on c.put_entry.new.out.items c.put_entry.new.variants (c.in_ok-site.ensures.held n.vs n.function n.held n.named) (c.in_ok-site.ensures.put n.vs n.later n.function n.held n.named))

pub returns : goal.returns
returns c =
    let ge : length (function_entries (module_of c.args.setting.now)) ≤ c.functions.f = omega (arith, c.functions-test.false, c.func_count-count.ensures) in
    let d = codes_done c.args.setting.now c.functions.f c.functions.site c.functions.out.items c.functions.variants c.functions.invariant ge in
    record { codes = d.0; held = d.1 }
