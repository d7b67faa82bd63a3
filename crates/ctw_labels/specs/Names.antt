-- Sites by name: the places of a plain module that get a label.
use Rattle.std.specs.Prelude.{ℕ, Option, Some, None}
pub use Rattle.ctw_labels.specs.declared.tag.Tag.{Tag}
pub use Rattle.ctw_labels.specs.declared.tag.Tag.TheVariants.{At, Fixed}
pub use Rattle.ctw_labels.specs.declared.name.SiteName.{SiteName}
pub use Rattle.ctw_labels.specs.declared.name.SiteName.TheVariants.{Param, Result, GlobalOf, Memory as MemoryOf, Local, Block as BlockOf, Op as OpOf, Push as PushOf, IParam, IResult}

-- a site: its name, and for a push the site that its value comes from, where that is one
pub record Site : Type 0 where
  pub name : SiteName
  pub yields : Option ℕ

abbrev pub site : SiteName → Site
site name = record { name = name; yields = None }

abbrev pub push_site : SiteName → Option ℕ → Site
push_site name yields = record { name = name; yields = yields }

abbrev pub site_number : Tag → Option ℕ
site_number (At n) = Some n
site_number Fixed = None
