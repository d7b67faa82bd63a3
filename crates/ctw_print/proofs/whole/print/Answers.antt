use Rattle.std.proofs.Common.{◌≡◌, ◌++◌, ℕ, List, sym, ap, ◌∙◌}
use Rattle.std.specs.String.{string_bytes}
use Rattle.ctw_module.specs.Trees.{tree}
use Rattle.ctw_text.specs.Denotes.{assembled}
use Rattle.ctw_text.specs.Print.{print_module, text_of}
use Rattle.ctw_print.proofs.Kept.{read_back}
use Rattle.ctw_print.specs.Texts.{module_text}
use Rattle.ctw_print.proofs.InkedModule.{module_inked}
use Rattle.ctw_print.proofs.Profiles.{tree_valid}
use Rattle.ctw_print.proofs.whole.print.Goals as goal

pub put_module-requires : goal.put_module-requires
put_module-requires c = tree_valid c.args.m.now c.requires

pub returns-clause-text : goal.returns-clause-text
returns-clause-text c =
    let m = tree c.args.m.now in
    c.in_ok-put_module.ensures ∙ ap (λ (l : List ℕ). l ++ module_text m) c.in_ok-out.ensures.bytes ∙ sym (module_inked m (tree_valid c.args.m.now c.requires))

pub returns-clause-read_back : goal.returns-clause-read_back
returns-clause-read_back c =
    let m = tree c.args.m.now in
    let text : string_bytes c.put_module.new.out ≡ text_of (print_module m) = c.in_ok-put_module.ensures ∙ ap (λ (l : List ℕ). l ++ module_text m) c.in_ok-out.ensures.bytes ∙ sym (module_inked m (tree_valid c.args.m.now c.requires)) in
    ap assembled text ∙ read_back c.args.m.now.bytes m c.bytes-bytes.ensures.octets c.bytes-bytes.ensures.spelled (tree_valid c.args.m.now c.requires)
