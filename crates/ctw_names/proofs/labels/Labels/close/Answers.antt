use Rattle.std.proofs.Common.{◌≡◌, length, ap, sym, subst, ◌∙◌, arith}
use Rattle.std.specs.Prelude.{Option, Some, None, reverse}
use Rattle.std.specs.Str.{bytes_eq}
use Rattle.std.proofs.lemmas.List.{length_push}
use Rattle.std.proofs.lemmas.Map.Text.{hash_map_updates_str}
use Rattle.indexmap.specs.IndexMap.{get_by}
use Rattle.ctw_text.specs.Written.{Name}
use Rattle.ctw_names.specs.Open.{IsStack, flat, shadowed_by, top}
use Rattle.ctw_names.proofs.Opening.{reverse_push, top_there, tops_closed}
use Rattle.ctw_names.proofs.labels.Labels.close.Goals as goal

pub invariant_of-self-in_err-insert : goal.invariant_of-self-in_err-insert
invariant_of-self-in_err-insert c =
    let bs = reverse c.pop.new.self.items in
    let b = c.in-Some.block in
    let word = c.name.inside.word.now in
    let turned = ap reverse c.in-Some.ensures.items ∙ reverse_push c.pop.new.self.items b in
    let never : None ≡ Some (length bs) =
    sym (ap flat c.in_err-insert.ensures.absent) ∙ c.self.invariant.tops word ∙ ap (top word) turned
    ∙ top_there bs b c.in-Some-name.name word c.in-Some-name.is (ap (λ (v : Name). v.word) c.name.view_is) in
    absurd (let no : ⊥ = cc in no)

pub invariant_of-self-2 : goal.invariant_of-self-2
invariant_of-self-2 c =
    let bs = reverse c.pop.new.self.items in
    let b = c.in-Some.block in
    let n = c.in-Some-name.name in
    let word = c.name.inside.word.now in
    let turned = ap reverse c.in-Some.ensures.items ∙ reverse_push c.pop.new.self.items b in
    let stack = subst IsStack turned c.self.invariant.shadows in
    let size = ap length c.in-Some.ensures.items ∙ length_push c.pop.new.self.items b in
    record {
      few = omega (arith, c.self.invariant.few, size);
      shadows = stack.1;
      tops = tops_closed (λ v. get_by (λ k. bytes_eq v k.now) c.self.inside.tops) (λ v. get_by (λ k. bytes_eq v k.now) c.insert.new.self) bs b n word c.in-Some-name.is
          (ap (λ (v : Name). v.word) c.name.view_is) (stack.0 ∙ ap (λ (o : Option Name). shadowed_by o bs) c.in-Some-name.is) (λ w. c.self.invariant.tops w ∙ ap (top w) turned)
          (hash_map_updates_str word c.self.inside.tops c.insert.new.self (Some b.shadowed) c.in_ok-insert.ensures.updates);
    }
