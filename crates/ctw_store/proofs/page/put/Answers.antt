use Rattle.std.proofs.Common.{◌≡◌, ◌+◌, ◌-◌, sym, ap, ◌∙◌, arith}
use Rattle.ctw_semantics.specs.Stores.{bytes_of_number, written_at}
use Rattle.ctw_store.proofs.Writes.{byte_put, part_put}
use Rattle.ctw_store.proofs.page.put.Goals as goal

pub returns-in-1 : goal.returns-in-1
returns-in-1 c =
    let e : c.args.count ≡ 1 = c.in-1.is in
    byte_put c.args.at c.args.value c.args.bytes.now (omega arith) ∙ ap (λ k. written_at c.args.at (bytes_of_number k c.args.value) c.args.bytes.now) (sym e)

pub returns-in-2 : goal.returns-in-2
returns-in-2 c =
    let e : c.args.count ≡ 2 = c.in-2.is in
    part_put c.args.at (c.args.at + 2 - c.args.at) c.args.count c.args.value c.args.bytes.now c.write_u16.new.bytes (omega arith) (c.write_u16.ensures ∙ ap (λ k. bytes_of_number k c.args.value) (sym e))

pub returns-in-4 : goal.returns-in-4
returns-in-4 c =
    let e : c.args.count ≡ 4 = c.in-4.is in
    part_put c.args.at (c.args.at + 4 - c.args.at) c.args.count c.args.value c.args.bytes.now c.write_u32.new.bytes (omega arith) (c.write_u32.ensures ∙ ap (λ k. bytes_of_number k c.args.value) (sym e))

pub returns-in_default : goal.returns-in_default
returns-in_default c =
    let e : c.args.count ≡ 8 = let h = c.requires.access in let d = c.in_default in omega arith in
    part_put c.args.at (c.args.at + 8 - c.args.at) c.args.count c.args.value c.args.bytes.now c.write_u64.new.bytes (omega arith) (c.write_u64.ensures ∙ ap (λ k. bytes_of_number k c.args.value) (sym e))
