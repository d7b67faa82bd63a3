use Rattle.std.proofs.Common.{◌≡◌, ℕ, length, ap, sym, ◌∙◌, arith}
use Rattle.std.specs.Prelude.{Option, is_some}
use Rattle.std.specs.Str.{bytes_eq}
use Rattle.std.specs.List.{list_any}
use Rattle.indexmap.specs.IndexMap.{get_by}
use Rattle.ctw_text.specs.Written.{Name}
use Rattle.ctw_text.specs.Names.{is_named}
use Rattle.ctw_names.specs.Tables.{stands_in}
use Rattle.ctw_names.proofs.Positions.{any_position, table_more}
use Rattle.std.proofs.lemmas.List.{length_push}
use Rattle.ctw_names.proofs.table.NameTable.add.Goals as goal

pub invariant_of-self-2 : goal.invariant_of-self-2
invariant_of-self-2 c =
    let kept = ap length c.in_ok-reserve.ensures.items in
    let size : c.len-number.result ≡ length c.self.inside.names.items = omega (arith, c.len-number.ensures, kept) in
    record {
      few = rw (c.in_ok-push-2.ensures.items, c.in_ok-reserve.ensures.items, length_push) (omega (arith, c.len.ensures));
      firsts = λ w. rw (c.in_ok-push-2.ensures.items, c.in_ok-reserve.ensures.items)
          (table_more (λ v. get_by (λ k. bytes_eq v k.now) c.self.inside.firsts) (λ v. get_by (λ k. bytes_eq v k.now) c.keep_first.new.firsts) c.self.inside.names.items c.in-Some.name c.name.inside.word.now
          c.len-number.result c.self.invariant.firsts c.in_ok-stood.ensures.firsts (ap (λ (v : Name). v.word) c.name.view_is) size w);
    }

pub returns-clause-stood : goal.returns-clause-stood
returns-clause-stood c =
    let n = c.in-Some.name in
    c.in_ok-stood.ensures.stood
    ∙ ap (λ (v : Name). is_some (get_by (λ k. bytes_eq v.word k.now) c.self.inside.firsts)) c.name.view_is
    ∙ ap (λ (o : Option ℕ). is_some o) (c.self.invariant.firsts n) ∙ sym (any_position (is_named n) c.self.inside.names.items)
    ∙ ap (list_any (is_named n)) c.self.view_is
    ∙ ap (λ (o : Option Name). stands_in o c.args.self.now) (sym c.in-Some.is)
