use Rattle.std.proofs.Common.{◌≡◌, ℕ, List, length, Some, refl, ap, ◌∙◌, arith}
use Rattle.std.specs.Prelude.{reverse}
use Rattle.std.specs.Str.{bytes_eq}
use Rattle.std.proofs.lemmas.List.{length_push, length-reverse}
use Rattle.std.proofs.lemmas.Map.Text.{hash_map_updates_str}
use Rattle.indexmap.specs.IndexMap.{get_by}
use Rattle.ctw_text.specs.Written.{Name}
use Rattle.ctw_names.specs.declared.labels.OpenBlock.{OpenBlock}
use Rattle.ctw_names.specs.Open.{flat, top}
use Rattle.ctw_names.proofs.Opening.{reverse_push, tops_opened}
use Rattle.ctw_names.proofs.labels.Labels.open.Goals as goal

pub invariant_of-self-2 : goal.invariant_of-self-2
invariant_of-self-2 c =
    let old = c.self.inside.open.items in
    let n = c.in-Some.name in
    let word = c.name.inside.word.now in
    let same = ap (λ (v : Name). v.word) c.name.view_is in
    let b : OpenBlock = record { name = Some n; shadowed = c.flatten-shadowed.result } in
    let kept = ap length c.in_ok-reserve.ensures.items in
    let size : c.len-number.result ≡ length (reverse old) = omega (arith, c.len-number.ensures, kept, length-reverse old) in
    record {
      few = rw (c.in_ok-push-2.ensures.items, c.in_ok-reserve.ensures.items, length_push) (omega (arith, c.len.ensures));
      shadows = rw (c.in_ok-push-2.ensures.items, c.in_ok-reserve.ensures.items, reverse_push)
          (c.flatten-shadowed.ensures ∙ ap flat c.in_ok-insert.ensures.old ∙ c.self.invariant.tops word ∙ ap (λ (v : List ℕ). top v (reverse old)) same, c.self.invariant.shadows);
      tops = λ w. rw (c.in_ok-push-2.ensures.items, c.in_ok-reserve.ensures.items, reverse_push)
          (tops_opened (λ v. get_by (λ k. bytes_eq v k.now) c.self.inside.tops) (λ v. get_by (λ k. bytes_eq v k.now) c.insert.new.self) (reverse old) b n word c.len-number.result refl same size c.self.invariant.tops
          (hash_map_updates_str word c.self.inside.tops c.insert.new.self (Some (Some c.len-number.result)) c.in_ok-insert.ensures.updates) w);
    }
