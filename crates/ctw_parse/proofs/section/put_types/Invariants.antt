use Rattle.ctw_parse.specs.WideCanon.{wide_entry_text}
use Rattle.ctw_parse.specs.Numbers.{IsNumberedEntry}
use Rattle.ctw_parse.proofs.Sections.{ListedWith}
use Rattle.ctw_parse.proofs.section.put_types.Given as goal

-- the first ones are written
abbrev pub invariant-items : goal.invariant-items
invariant-items l = ListedWith IsNumberedEntry wide_entry_text l.entries l.entry-index l.initial.contents.items l.contents.items
