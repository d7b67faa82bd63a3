use Rattle.std.proofs.Common.{◌∙◌, ap}
use Rattle.ctw_module.specs.Trees.{view_module}
use Rattle.ctw_ops.specs.Tree.{function_types}
use Rattle.ctw_sites.proofs.BodiesLaws.{memory_room}
use Rattle.ctw_links.specs.Uses.{types_of_users}
use Rattle.ctw_links.proofs.GatherLaws.{users_are, all_placed, facts_gathered}
use Rattle.ctw_links.proofs.gather.gather.Goals as goal

pub tell_users-requires : goal.tell_users-requires
tell_users-requires c =
    let m = view_module c.args.m.now in
    let noted = ap (types_of_users (function_types m)) c.deref-3.ensures.value
    ∙ users_are m c.new-users.result.items c.note_elements.new.users.items c.add_bodies.new.users.items c.new-users.ensures.items c.in_ok-note_elements.ensures c.in_ok-add_bodies.ensures.users in
    all_placed m c.requires.plain c.requires.valid c.requires.room c.deref-3.result.now noted

pub tell_inits-requires-clause-room : goal.tell_inits-requires-clause-room
tell_inits-requires-clause-room c = memory_room (view_module c.args.m.now) c.requires.room

pub tell_elements-requires-clause-room : goal.tell_elements-requires-clause-room
tell_elements-requires-clause-room c = memory_room (view_module c.args.m.now) c.requires.room

pub tell_segments-requires-clause-room : goal.tell_segments-requires-clause-room
tell_segments-requires-clause-room c = memory_room (view_module c.args.m.now) c.requires.room

pub returns : goal.returns
returns c =
    let m = view_module c.args.m.now in
    let noted = ap (types_of_users (function_types m)) c.deref-3.ensures.value
    ∙ users_are m c.new-users.result.items c.note_elements.new.users.items c.add_bodies.new.users.items c.new-users.ensures.items c.in_ok-note_elements.ensures c.in_ok-add_bodies.ensures.users in
    facts_gathered m c.deref-3.result.now c.new-told.result.items c.add_bodies.new.told.items c.tell_users.new.told.items c.tell_inits.new.told.items c.tell_elements.new.told.items c.tell_segments.new.told.items
    noted c.new-told.ensures.items c.in_ok-add_bodies.ensures.told c.in_ok-tell_users.ensures c.in_ok-tell_inits.ensures c.in_ok-tell_elements.ensures c.in_ok-tell_segments.ensures
