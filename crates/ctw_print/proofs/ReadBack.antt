-- The printed text of a file's module that is valid under a profile is read back as the module.
use Rattle.std.proofs.Common.{◌≡◌, ℕ, List, Ok, All, subst}
use Rattle.ctw_ops.specs.declared.types.Label.{Label}
use Rattle.ctw_ops.specs.declared.numeric.Profile.{Profile}
use Rattle.ctw_ops.specs.Tree.{Module, under}
use Rattle.ctw_ops.specs.Valid.{IsValid}
use Rattle.ctw_ops.specs.WithinLimits.{IsOctet}
use Rattle.ctw_form.specs.Spelled.{Spells}
use Rattle.ctw_text.specs.Print.{printed}
use Rattle.ctw_text.specs.Denotes.{assembled}
use Rattle.ctw_print.proofs.Kept.{divide_profile, read_back}
use Rattle.ctw_print.proofs.Profiles.{valid_divided}

pub file_read_back : (profile : Profile) (bytes : List ℕ) (m : Module Label) → All IsOctet bytes → Spells bytes m → IsValid (under profile m) → assembled (printed m) ≡ Ok m
file_read_back profile bytes m o s v = read_back bytes m o s (subst (λ (m : Module Label). IsValid m) (divide_profile bytes m s) (valid_divided profile m v))
