use Rattle.std.specs.Prelude.{◌≡◌, ◌++◌, [], take, drop}
use Rattle.std.specs.List.{AllByRecursion}
use Rattle.ctw_module.specs.Trees.{view_module}
use Rattle.ctw_links.specs.Firsts.{users_told, TellsFirsts, IsPlaced}
use Rattle.ctw_links.proofs.users.tell_users.Given as goal

-- the first ones of the users so far are known, and what is told, with the users that are left, is all
abbrev pub invariant-users : goal.invariant-users
invariant-users l = record {
  firsts : TellsFirsts (view_module l.m) (take l.user-index l.users) l.firsts;
  placed : AllByRecursion (IsPlaced (view_module l.m)) (take l.user-index l.users);
  told : l.told.items ++ users_told (view_module l.m) (take l.user-index l.users) (drop l.user-index l.users) ≡ l.initial.told.items ++ users_told (view_module l.m) [] l.users;
}
