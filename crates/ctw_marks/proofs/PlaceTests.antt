-- The site of a place is there where a function, a global or the memory has it.
use Rattle.std.proofs.Common.{◌≡◌, ℕ, Option, Some, None, sym, ◌∙◌, subst}
use Rattle.std.specs.Prelude.{option_map}
use Rattle.ctw_lex.proofs.Facts.{some_same, none_some, mapped_some}
use Rattle.ctw_script.proofs.Facts.{and_then_found}
use Rattle.ctw_ops.specs.declared.types.Label.{Label}
use Rattle.ctw_ops.specs.Tree.{Module}
use Rattle.ctw_labels.specs.declared.name.SiteName.{SiteName}
use Rattle.ctw_labels.specs.declared.name.SiteName.TheVariants.{Param, Result, GlobalOf, Memory, Local, Block, Op, Push, IParam, IResult}
use Rattle.ctw_marks.specs.declared.order.Spot.{Spot}
use Rattle.ctw_marks.specs.declared.order.Spot.TheVariants as spot
use Rattle.ctw_marks.specs.Meaning.{function_of, global_of, spot_name, HasSite, IsAt}
use Rattle.ctw_marks.specs.Places.{IsAround}
use Rattle.ctw_marks.proofs.SiteNames.{param_there, there_param, result_there, there_result, global_there, there_global, memory_there, there_memory, local_there, there_local}

-- ---- the site of a place

abbrev IsOuter : SiteName → Type 0
IsOuter (Param f i) = Unit {0}
IsOuter (Result f) = Unit {0}
IsOuter (GlobalOf g) = Unit {0}
IsOuter Memory = Unit {0}
IsOuter (Local f i) = Unit {0}
IsOuter (Block f at) = ⊥
IsOuter (Op f at) = ⊥
IsOuter (Push f at) = ⊥
IsOuter (IParam f at i) = ⊥
IsOuter (IResult f at) = ⊥

module _ (m : Module Label) where
  spot_outer : (s : Spot) (name : SiteName) → spot_name m s ≡ Some name → IsOuter name
  spot_outer (spot.Param func i) name e =
      let a = and_then_found (function_of m func) (λ f. option_map (λ k. Param f k) i) name e in
      let b = mapped_some {f = λ k. Param a.0 k} i a.2 in
      subst IsOuter b.2 tt
  spot_outer (spot.Result func) name e = let b = mapped_some {f = λ f. Result f} (function_of m func) e in subst IsOuter b.2 tt
  spot_outer (spot.Local func i) name e =
      let a = and_then_found (function_of m func) (λ f. option_map (λ k. Local f k) i) name e in
      let b = mapped_some {f = λ k. Local a.0 k} i a.2 in
      subst IsOuter b.2 tt
  spot_outer (spot.Global global) name e = let b = mapped_some {f = λ g. GlobalOf g} (global_of m global) e in subst IsOuter b.2 tt
  spot_outer spot.Memory name e = subst IsOuter (some_same e) tt

  around_there : (name : SiteName) → IsAround m name → HasSite m name
  around_there (Param f i) h = there_param m f i h
  around_there (Result f) h = there_result m f h
  around_there (GlobalOf g) h = there_global m g h
  around_there Memory h = there_memory m h
  around_there (Local f i) h = there_local m f i h
  around_there (Block f at) h = absurd h
  around_there (Op f at) h = absurd h
  around_there (Push f at) h = absurd h
  around_there (IParam f at i) h = absurd h
  around_there (IResult f at) h = absurd h

  there_around : (name : SiteName) → IsOuter name → HasSite m name → IsAround m name
  there_around (Param f i) o h = param_there m f i h
  there_around (Result f) o h = result_there m f h
  there_around (GlobalOf g) o h = global_there m g h
  there_around Memory o h = memory_there m h
  there_around (Local f i) o h = local_there m f i h
  there_around (Block f at) o h = absurd o
  there_around (Op f at) o h = absurd o
  there_around (Push f at) o h = absurd o
  there_around (IParam f at i) o h = absurd o
  there_around (IResult f at) o h = absurd o

  pub placed : (s : Spot) (name : SiteName) → spot_name m s ≡ Some name → IsAround m name → IsAt m s name
  placed s name e h = (e, around_there name h)

  pub unplaced : (s : Spot) (name : SiteName) → spot_name m s ≡ Some name → (IsAround m name → ⊥) → (other : SiteName) → ¬ (IsAt m s other)
  unplaced s name e f other h =
      let same : name ≡ other = some_same (sym e ∙ h.0) in
      f (there_around name (spot_outer s name e) (subst (HasSite m) (sym same) h.1))

  pub nameless : (s : Spot) → spot_name m s ≡ None → (other : SiteName) → ¬ (IsAt m s other)
  nameless s e other h = none_some (sym e ∙ h.0)
