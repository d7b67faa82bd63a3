use Rattle.std.proofs.Common.{List, ap, ◌∙◌}
use Rattle.std.specs.Prelude.{Option}
use Rattle.ctw_text.specs.Written.{Name}
use Rattle.ctw_text.specs.Names.{NameFault, names_in}
use Rattle.ctw_names.specs.Noted.{noted}
use Rattle.ctw_names.specs.Doubles.{doubles_onto}
use Rattle.ctw_names.specs.Spaces.{space_in}
use Rattle.ctw_names.proofs.UseLaws.{use_noted}
use Rattle.ctw_names.proofs.typeuse.note_use.Goals as goal

pub returns : goal.returns
returns c =
    let names = names_in c.args.u.now.params in
    c.in_ok-add_variables.ensures.faults ∙ ap (λ (t : List (Option Name)). noted c.note_entry.new.faults (doubles_onto t names)) c.new-table.ensures
    ∙ ap (λ (b : Option NameFault). noted b (doubles_onto _ names)) c.in_ok-note_entry.ensures ∙ use_noted (space_in c.args.space.now) c.args.u.now c.args.faults.now
