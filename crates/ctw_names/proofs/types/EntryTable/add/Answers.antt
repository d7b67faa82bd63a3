use Rattle.std.proofs.Common.{◌≡◌, length, ap, arith}
use Rattle.std.specs.Str.{bytes_eq}
use Rattle.std.proofs.lemmas.List.{length_push}
use Rattle.indexmap.specs.IndexMap.{get_by}
use Rattle.ctw_names.proofs.TypeLaws.{entries_more}
use Rattle.ctw_names.proofs.types.EntryTable.add.Goals as goal

pub invariant_of-self-2 : goal.invariant_of-self-2
invariant_of-self-2 c =
    let kept = ap length c.in_ok-reserve.ensures.items in
    let size : c.len-number.result ≡ length c.self.inside.entries.items = omega (arith, c.len-number.ensures, kept) in
    record {
      few = rw (c.in_ok-push.ensures.items, c.in_ok-reserve.ensures.items, length_push) (omega (arith, c.len.ensures));
      firsts = λ s. rw (c.in_ok-push.ensures.items, c.in_ok-reserve.ensures.items)
          (entries_more (λ v. get_by (λ k. bytes_eq v k.items) c.self.inside.firsts) (λ v. get_by (λ k. bytes_eq v k.items) c.keep_entry.new.firsts) c.self.inside.entries.items c.args.t c.in_ok-key.key.items
          c.len-number.result c.self.invariant.firsts c.in_ok-keep_entry.ensures.firsts c.in_ok-key.ensures size s);
    }
