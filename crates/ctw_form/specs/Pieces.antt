-- Readers of single bytes by their tables, and of what several things begin with.
use Rattle.std.specs.Prelude.{ℕ, Bool}
use Rattle.ctw_ops.specs.declared.types.Label.{Label}
use Rattle.ctw_ops.specs.declared.types.Width.{Width}
use Rattle.ctw_ops.specs.declared.types.Trust.{Trust}
use Rattle.ctw_ops.specs.declared.types.ExternTag.{ExternTag}
use Rattle.ctw_ops.specs.Tree.{Constant}
use Rattle.ctw_leb.specs.Input.{Input}
use Rattle.ctw_leb.specs.Reading.{Reader, give, window_of, ◌>>=◌}
use Rattle.ctw_form.specs.declared.fault.FormKind.TheVariants.{Truncated}
use Rattle.ctw_form.specs.declared.fault.FormFault.{FormFault}
use Rattle.ctw_form.specs.declared.table.EntryForm.{EntryForm}
use Rattle.ctw_form.specs.declared.table.MemoryForm.{MemoryForm}
use Rattle.ctw_form.specs.declared.table.ConstantForm.{ConstantForm}
use Rattle.ctw_form.specs.declared.table.SectionKind.{SectionKind}
use Rattle.ctw_form.specs.declared.table.Held.{Held}
use Rattle.ctw_form.specs.Tables.{entry_form, trust_byte, table_byte, limits_form, memory_form, mutability, extern_kind, import_kind, constant_form, secret_constant, constant_end, section_kind}
use Rattle.ctw_form.specs.Read.{fault, by_table, number_at, constant_at}

unfoldable pub trust_at : Reader Trust FormFault
trust_at = by_table trust_byte

unfoldable pub entry_form_at : Bool → Reader EntryForm FormFault
entry_form_at ct = by_table (entry_form ct)

unfoldable pub table_mark_at : Reader (Unit {0}) FormFault
table_mark_at = by_table table_byte

unfoldable pub limits_form_at : Reader Bool FormFault
limits_form_at = by_table limits_form

unfoldable pub memory_form_at : Bool → Reader MemoryForm FormFault
memory_form_at ct = by_table (memory_form ct)

unfoldable pub mutability_at : Reader Bool FormFault
mutability_at = by_table mutability

unfoldable pub extern_kind_at : Reader ExternTag FormFault
extern_kind_at = by_table extern_kind

unfoldable pub import_kind_at : Held → Reader ExternTag FormFault
import_kind_at held = by_table (import_kind held)

unfoldable pub constant_form_at : Bool → Reader ConstantForm FormFault
constant_form_at ct = by_table (constant_form ct)

unfoldable pub secret_width_at : Reader Width FormFault
secret_width_at = by_table secret_constant

unfoldable pub constant_end_at : Bool → Reader (Unit {0}) FormFault
constant_end_at ct = by_table (constant_end ct)

unfoldable pub section_kind_at : ℕ → Reader SectionKind FormFault
section_kind_at last = by_table (section_kind last)

-- a size and a window of so many bytes
unfoldable pub window_at : Reader Input FormFault
window_at = number_at >>= window_of (fault Truncated)

-- what a segment begins with: the index of its table or memory, and its offset there
unfoldable pub segment_head_at : Bool → Reader (ℕ × Constant Label) FormFault
segment_head_at ct = number_at >>= λ index. constant_at ct >>= λ offset. give (index, offset)
