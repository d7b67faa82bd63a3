use Rattle.std.proofs.Common.{arith}
use Rattle.std.specs.Prelude.{get_or, take}
use Rattle.std.proofs.lemmas.Option.{slice_get-get_or}
use Rattle.ctw_module.specs.Trees.{view_module}
use Rattle.ctw_links.specs.Uses.{user}
use Rattle.ctw_links.proofs.FirstUsers.{users_on, firsts_on, placed_on}
use Rattle.ctw_links.proofs.users.tell_users.Goals as goal

pub users-preserved : goal.users-preserved
users-preserved c =
    let m = view_module c.args.m.now in
    let us = c.args.users.now in
    let i = c.users.user-index in
    let x = get_or us i (user 0 0) in
    let e = slice_get-get_or us i (user 0 0) (omega (arith, c.users-test.true)) in
    record {
      firsts = firsts_on m us i x c.tell_user.new.firsts e (c.in_ok-tell_user.ensures.firsts (take i us) c.users.invariant.firsts);
      placed = placed_on m us i x c.requires e c.users.invariant.placed;
      told = users_on m us i x c.users.told.items c.tell_user.new.told.items _ e (c.in_ok-tell_user.ensures.told (take i us) c.users.invariant.firsts) c.users.invariant.told;
    }
