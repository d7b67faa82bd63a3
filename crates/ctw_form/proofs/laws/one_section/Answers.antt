use Rattle.ctw_leb.proofs.Exact.{one_spelling}
use Rattle.ctw_form.specs.Spelled.{IsSection}
use Rattle.ctw_form.specs.Read.{section_at}
use Rattle.ctw_form.proofs.CodeForms.{whole_form_body}
use Rattle.ctw_form.proofs.SectionForms.{exact_section}
use Rattle.ctw_form.proofs.laws.one_section.Goals as goal

pub returns-clause-body : goal.returns-clause-body
returns-clause-body c ct = whole_form_body ct

pub returns-clause-read : goal.returns-clause-read
returns-clause-read c ct seen = exact_section ct seen

pub returns-clause-one : goal.returns-clause-one
returns-clause-one c ct seen a b x y s t m n e = one_spelling (IsSection ct seen) (section_at ct seen) (exact_section ct seen) a b x y s t m n e
