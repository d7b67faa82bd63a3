use Rattle.std.proofs.Common.{refl, sym, ap, ◌∙◌}
use Rattle.ctw_link.specs.Firsts.{key_of, type_in}
use Rattle.ctw_link.proofs.FirstUsers.{first_of, there, passed, mixed, added}
use Rattle.ctw_link.proofs.tables.pass_user.Goals as goal

pub returns-in-None : goal.returns-in-None
returns-in-None c = λ before told.
    let none = sym (c.in-None.ensures ∙ c.get.ensures.value ∙ ap (λ k. first_of k c.args.firsts.now) c.as_slice.ensures.value) in
    added c.args.parts.now before c.args.firsts.now c.insert.new.self c.args.table (type_in c.args.parts.now c.args.place.0 c.args.place.1) c.in_ok-key.key.items c.args.place told (c.in_ok-key.ensures ∙ ap key_of c.type_of-b.ensures) none c.requires.there refl c.in_ok-insert-in-None.ensures.updates

pub type_of-a-requires : goal.type_of-a-requires
type_of-a-requires c =
    let some = sym (c.in-Some.ensures ∙ c.get.ensures.value ∙ ap (λ k. first_of k c.args.firsts.now) c.as_slice.ensures.value) in
    there c.args.parts.now c.requires.told.0 c.args.firsts.now c.in_ok-key.key.items c.in-Some.first c.requires.told.1 some

pub returns-then-is_same : goal.returns-then-is_same
returns-then-is_same c = λ before told.
    let some = sym (c.in-Some.ensures ∙ c.get.ensures.value ∙ ap (λ k. first_of k c.args.firsts.now) c.as_slice.ensures.value) in
    passed c.args.parts.now before c.args.firsts.now c.args.table (type_in c.args.parts.now c.args.place.0 c.args.place.1) c.in_ok-key.key.items c.in-Some.first c.type_of-a.result c.type_of-b.result told (c.in_ok-key.ensures ∙ ap key_of c.type_of-b.ensures) some c.type_of-a.ensures c.type_of-b.ensures
    (sym c.if-is_same.ensures)

pub returns : goal.returns
returns c = λ before told.
    let some = sym (c.in-Some.ensures ∙ c.get.ensures.value ∙ ap (λ k. first_of k c.args.firsts.now) c.as_slice.ensures.value) in
    mixed c.args.parts.now before c.args.firsts.now c.args.table (type_in c.args.parts.now c.args.place.0 c.args.place.1) c.in_ok-key.key.items c.in-Some.first c.type_of-a.result c.type_of-b.result told (c.in_ok-key.ensures ∙ ap key_of c.type_of-b.ensures) some c.type_of-a.ensures c.type_of-b.ensures
    (sym c.if-is_same.ensures)
