-- Whether a labelling is orderly at one site.
use Rattle.std.specs.Prelude.{◌≡◌, ℕ, Bool, true, false, Option, Some, None}
use Rattle.std.specs.List.{AllByRecursion}
use Rattle.ctw_ops.specs.declared.types.Label.{Label}
use Rattle.ctw_ops.specs.declared.types.Label.TheVariants.{Public, Secret}
use Rattle.ctw_labels.specs.declared.name.SiteName.{SiteName}
use Rattle.ctw_labels.specs.declared.name.SiteName.TheVariants.{Push}
use Rattle.ctw_labels.specs.Names.{Site}
use Rattle.ctw_labels.specs.Points.{Points}
use Rattle.ctw_labels.specs.ModuleLinks.{yield_link}

abbrev pub may_go : Label → Label → Bool
may_go Public to = true
may_go Secret Public = false
may_go Secret Secret = true

-- the function and the opcode of a push
abbrev pub push_place : SiteName → Option (ℕ × ℕ)
push_place (Push f at) = Some (f, at)
push_place name = None

-- a site that yields a secret is secret, but for a push that releases
abbrev pub AllowsSite : (ℕ → Label) → Points → ℕ → Site → Type 0
AllowsSite l p n x = AllByRecursion (λ k. l k.from ≡ Secret → l k.to ≡ Secret) (yield_link p n x.name x.yields)
