-- What the answer of the reader says of the grammar.
use Rattle.std.proofs.Common.{◌≡◌, List, ℕ, Ok, refl, sym, ◌∙◌}
use Rattle.ctw_ops.specs.declared.types.Label.{Label}
use Rattle.ctw_ops.specs.Tree.{Module}
use Rattle.ctw_leb.proofs.Exact.{err_ok}
use Rattle.ctw_form.specs.Spelled.{File, Spells, module_in}
use Rattle.ctw_form.specs.Read.{fault, file_at, module_at}
use Rattle.ctw_form.proofs.FileForms.{module_sound, spelled_file}
use Rattle.ctw_read.specs.declared.fault.ReadFault.{ReadFault}
use Rattle.ctw_read.specs.declared.fault.ReadFault.TheVariants.{Bad, NoMemory}
use Rattle.ctw_read.specs.Calls.{FailsWith}

pub file_spells : (bytes : List ℕ) (file : File) → file_at bytes ≡ Ok file → Spells bytes (module_in file)
unfolding module_at
file_spells bytes file e = module_sound bytes (module_in file) (rw e refl)

pub refused_spelled : (bytes : List ℕ) (e : ReadFault) → FailsWith e (file_at bytes) → (m : Module Label) → Spells bytes m → e ≡ NoMemory
refused_spelled bytes NoMemory h m s = refl
refused_spelled bytes (Bad kind place) h m s = absurd (err_ok (fault kind place) s.file (sym h ∙ spelled_file bytes m s))
