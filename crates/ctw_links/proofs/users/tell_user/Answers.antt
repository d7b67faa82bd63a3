use Rattle.std.proofs.Common.{◌∙◌, ◌++◌, sym, ap, arith}
use Rattle.ctw_module.specs.Trees.{view_module}
use Rattle.std.specs.Str.{bytes_eq}
use Rattle.ctw_sites.proofs.Answered.{ok_then, ok_here}
use Rattle.ctw_links.specs.Firsts.{site_facts, user_key, IsPlaced}
use Rattle.ctw_links.proofs.FirstUsers.{first_of, none_before, some_before, told_new, told_known, own_told, known_told, found_in}
use Rattle.ctw_links.proofs.users.tell_user.Goals as goal

pub tell_sites-requires-in-Some-clause-second : goal.tell_sites-requires-in-Some-clause-second
tell_sites-requires-in-Some-clause-second c =
    let m = view_module c.args.m.now in
    let K = c.in_ok-key.key.items in
    let some = sym (c.in-Some.ensures ∙ c.get.ensures.value ∙ ap (λ k. first_of k c.args.firsts.now) c.as_slice.ensures.value) in
    let us = c.requires.some.0 in
    let s = some_before m us c.args.firsts.now K c.in-Some.first c.requires.some.2 some in
    let k = (known_told m us c.args.user s.0 K c.in_ok-key.ensures s.1).1 in
    let p = found_in m (IsPlaced m) (λ w. bytes_eq K (user_key m w)) us s.0 c.requires.some.1 s.1 in
    let n = c.count_of-count.ensures in
    λ lt. let q = p (omega (arith, lt, n, k)) in omega (arith, q, n, k, s.2)

pub returns-in_ok-insert-in-None-clause-told : goal.returns-in_ok-insert-in-None-clause-told
returns-in_ok-insert-in-None-clause-told c = λ before told.
    let m = view_module c.args.m.now in
    let K = c.in_ok-key.key.items in
    let u = c.args.user in
    let none = sym (c.in-None.ensures ∙ c.get.ensures.value ∙ ap (λ k. first_of k c.args.firsts.now) c.as_slice.ensures.value) in
    ok_then c.tell_sites.result c.tell_sites.ensures (λ e. e ∙ ap (λ z. c.args.told.now.items ++ site_facts u.first u.first z) c.count_of-count.ensures
    ∙ ap (λ z. c.args.told.now.items ++ z) (sym (own_told m before u K c.in_ok-key.ensures (none_before m before c.args.firsts.now K told none))))

pub returns-in_ok-insert-in-None-clause-firsts : goal.returns-in_ok-insert-in-None-clause-firsts
returns-in_ok-insert-in-None-clause-firsts c = λ before told.
    let m = view_module c.args.m.now in
    let none = sym (c.in-None.ensures ∙ c.get.ensures.value ∙ ap (λ k. first_of k c.args.firsts.now) c.as_slice.ensures.value) in
    ok_here c.tell_sites.result (told_new m before c.args.firsts.now c.insert.new.self c.args.user c.in_ok-key.key.items told c.in_ok-key.ensures none c.in_ok-insert-in-None.ensures.updates)

pub returns-in-Some-clause-told : goal.returns-in-Some-clause-told
returns-in-Some-clause-told c = λ before told.
    let m = view_module c.args.m.now in
    let K = c.in_ok-key.key.items in
    let u = c.args.user in
    let some = sym (c.in-Some.ensures ∙ c.get.ensures.value ∙ ap (λ k. first_of k c.args.firsts.now) c.as_slice.ensures.value) in
    let s = some_before m before c.args.firsts.now K c.in-Some.first told some in
    let k = (known_told m before u s.0 K c.in_ok-key.ensures s.1).0 in
    ok_then c.tell_sites-in-Some.result c.tell_sites-in-Some.ensures (λ e. e ∙ (λ i. c.args.told.now.items ++ site_facts u.first (sym s.2 i) (c.count_of-count.ensures i))
    ∙ ap (λ z. c.args.told.now.items ++ z) (sym k))

pub returns-in-Some-clause-firsts : goal.returns-in-Some-clause-firsts
returns-in-Some-clause-firsts c = λ before told.
    let m = view_module c.args.m.now in
    let K = c.in_ok-key.key.items in
    let some = sym (c.in-Some.ensures ∙ c.get.ensures.value ∙ ap (λ k. first_of k c.args.firsts.now) c.as_slice.ensures.value) in
    let s = some_before m before c.args.firsts.now K c.in-Some.first told some in
    ok_here c.tell_sites-in-Some.result (told_known m before c.args.firsts.now c.args.user s.0 K told c.in_ok-key.ensures s.1)
