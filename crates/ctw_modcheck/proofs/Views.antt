-- A view's module under its profile: what bytes spell is formed, and the faults around bodies don't depend on the profile.
use Rattle.std.proofs.Common.{◌≡◌, ◌⊎◌, Some, inl, inr, refl, ◌∙◌}
use Rattle.ctw_ops.specs.Valid.{IsFormed}
use Rattle.ctw_ops.proofs.Profiles.{formed_under}
use Rattle.ctw_form.specs.Spelled.{Spells}
use Rattle.ctw_module.specs.Trees.{Lent, tree, view_module}
use Rattle.ctw_form.proofs.Fitted.{module_formed}
use Rattle.ctw_modcheck.specs.declared.fault.Invalid.{Invalid}
use Rattle.ctw_modcheck.specs.declared.fault.Invalid.TheVariants.{NoMemory}
use Rattle.ctw_modcheck.specs.Faults.{around_fault}

pub view_formed : (lent : Lent) → Spells lent.bytes (tree lent) → IsFormed (view_module lent)
view_formed lent s = formed_under lent.profile (tree lent) (module_formed lent.bytes (tree lent) s)

pub around_view : (lent : Lent) → around_fault (view_module lent) ≡ around_fault (tree lent)
unfolding around_fault
around_view lent = refl

pub around_found : (lent : Lent) (x : Invalid) → (x ≡ NoMemory) ⊎ (around_fault (tree lent) ≡ Some x) → (x ≡ NoMemory) ⊎ (around_fault (view_module lent) ≡ Some x)
around_found lent x (inl e) = inl e
around_found lent x (inr e) = inr (around_view lent ∙ e)
