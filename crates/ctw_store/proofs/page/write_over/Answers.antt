use Rattle.std.proofs.Common.{◌≡◌, ◌+◌, ◌-◌, ◌/◌, sym, ap, ◌∙◌, arith}
use Rattle.ctw_semantics.specs.Stores.{bytes_of_number, written_at}
use Rattle.ctw_store.specs.Pages.{all_bytes}
use Rattle.ctw_store.proofs.Pages.{bytes_long}
use Rattle.ctw_store.proofs.Writes.{written_none, one_written}
use Rattle.ctw_store.proofs.page.write_over.Goals as goal

pub set_byte-requires-clause-inside : goal.set_byte-requires-clause-inside
set_byte-requires-clause-inside c =
    let a = bytes_long c.args.pages.now c.requires.whole in
    let b = bytes_long c.bytes.pages c.bytes.invariant.whole in
    omega arith

pub bytes-preserved : goal.bytes-preserved
bytes-preserved c =
    let a = bytes_long c.args.pages.now c.requires.whole in
    let b = bytes_long c.bytes.pages c.bytes.invariant.whole in
    record {
      whole = c.set_byte.ensures.whole;
      made = c.set_byte.ensures.made ∙ c.bytes.invariant.made;
      bytes = ap (written_at (c.args.at + (c.bytes.i + 1)) (bytes_of_number (c.args.count - (c.bytes.i + 1)) (c.bytes.rest / 256))) c.set_byte.ensures.bytes
          ∙ one_written c.args.at c.bytes.i c.args.count c.bytes.rest (all_bytes c.bytes.pages) c.bytes-test.true (omega arith) ∙ c.bytes.invariant.bytes;
    }

pub returns-clause-bytes : goal.returns-clause-bytes
returns-clause-bytes c =
    let e : c.args.count - c.bytes.i ≡ 0 = omega arith in
    sym (written_none (c.args.at + c.bytes.i) (all_bytes c.bytes.pages)) ∙ ap (λ k. written_at (c.args.at + c.bytes.i) (bytes_of_number k c.bytes.rest) (all_bytes c.bytes.pages)) (sym e) ∙ c.bytes.invariant.bytes
