use Rattle.std.proofs.Common.{subst, refl}
use Rattle.ctw_form.specs.Sections.{Parts}
use Rattle.ctw_module.specs.Gathers.{Gathers}
use Rattle.ctw_module.specs.Trees.{view_of}
use Rattle.ctw_module.proofs.Indexing.{sections_read, spelled_tree, ct_made, parts_made, trees_told}
use Rattle.ctw_module.proofs.viewing.view.Goals as goal

pub gather-requires : goal.gather-requires
gather-requires c = (c.requires.spelled.1.file.sections, sections_read c.args.bytes.now c.requires.spelled.0 c.requires.spelled.1 _ c.new-cursor.result refl c.new-cursor.ensures.rest)

pub index-requires-clause-spelled : goal.index-requires-clause-spelled
index-requires-clause-spelled c = spelled_tree (view_of c.args.bytes.now) c.requires.spelled.0 c.requires.spelled.1

pub index-requires-clause-ct : goal.index-requires-clause-ct
index-requires-clause-ct c = ct_made (view_of c.args.bytes.now) c.requires.spelled.0 c.requires.spelled.1

pub index-requires-clause-gathers : goal.index-requires-clause-gathers
index-requires-clause-gathers c =
    let s = c.requires.spelled.1 in
    let read = sections_read c.args.bytes.now c.requires.spelled.0 s _ c.new-cursor.result refl c.new-cursor.ensures.rest in
    subst (λ (p : Parts). Gathers c.in_ok-found.found p) (parts_made (view_of c.args.bytes.now) c.requires.spelled.0 s) (c.in_ok-found.ensures s.file.sections read)

pub returns-clause-tree : goal.returns-clause-tree
returns-clause-tree c = trees_told (view_of c.args.bytes.now) c.index.result c.index.ensures
