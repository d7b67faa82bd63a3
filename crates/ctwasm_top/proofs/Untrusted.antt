-- Modules that are placed without trust release nothing.
use Rattle.std.proofs.Common.{◌≡◌, ℕ, List, [], ◌∷◌, map, Option, Some, None, Result, sym, ap, ◌∙◌, subst, refl, unwrap_or, if◌then◌else◌}
use Rattle.std.specs.Prelude.{All}
use Rattle.std.specs.List.{AllByRecursion}
use Rattle.std.proofs.lemmas.List.Elements.{All-nil, All-cons, All-map, All-weaker}
use Rattle.ctw_io.specs.Files.{Files}
use Rattle.ctw_ops.specs.declared.types.Label.{Label}
use Rattle.ctw_ops.specs.declared.types.Trust.TheVariants.{Untrusted, Trusted}
use Rattle.ctw_ops.specs.Plain.{IsPlainModule}
use Rattle.ctw_ops.specs.Tree.{Module, Function, type_named, no_function_type}
use Rattle.ctw_ops.specs.Valid.{IsValid}
use Rattle.ctw_script.specs.declared.moves.Move.{Move}
use Rattle.ctw_script.specs.declared.script.ScriptFault.{ScriptFault}
use Rattle.ctw_semantics.specs.Sound.{AllUntrusted}
use Rattle.ctw_labels.specs.declared.tag.Tag.{Tag}
use Rattle.ctw_labels.specs.Points.{Points, AreReleases, has_number}
use Rattle.ctw_labels.specs.Links.{at_tag}
use Rattle.ctw_labels.specs.SitedModule.{SitedBody, bodies}
use Rattle.ctw_labels.specs.Placed.{placed, placed_types, placed_function, variant_name}
use Rattle.ctw_labels.proofs.BodyLaws.{IsOwn, own_types}
use Rattle.ctw_labels.proofs.VariantLaws.{variants_named}
use Rattle.ctw_link.specs.Sets.{ModuleSet}
use Rattle.ctw_link.specs.Numbers.{LinkedModule, linked}
use Rattle.ctw_link.specs.SetInstances.{set_instances, instances_in, module_instance}
use Rattle.ctw_link.proofs.LinkedFronts.{bare, bare_linked}
use Rattle.ctw_launch.proofs.Within.{all_unmap, all_flat}
use Rattle.ctw_semantics.specs.Modules.{instance_of}
use Rattle.ctw_inputs.specs.Outcome.{Execution}
use Rattle.ctw_words.specs.Words.{Command, Check, Canon, Assemble, Text, Infer, Strip, Link, Run, Once, Work, command_of, vault_in, vault_word}
use Rattle.ctwasm_top.specs.Inference.{Found, IsPlacedUntrusted}
use Rattle.ctwasm_top.specs.Answer.{answer, released_in, releases, FindsMarks}
use Rattle.ctwasm_top.specs.Headline.{AreOctets, OtherVault, SameOutcome, ExecutesUntrusted}
use Rattle.ctwasm_top.proofs.Alike.{answer_alike}
use Rattle.ctwasm_top.proofs.Stripped.{none_released}

module _ (L : Tag → Label) (m : Module Label) (plain : IsPlainModule m) (valid : IsValid m) (p : Points) (rel : AreReleases p) (none : p.trusted ≡ []) where
  abbrev IsQuiet : Function Label → Type 0
  IsQuiet f = (type_named (placed L m p) f.type).trust ≡ Untrusted

  quiet : (b : SitedBody) → IsOwn L (placed_types L m p) (variant_name L m p) p b → IsQuiet (placed_function L (variant_name L m p) m p b)
  quiet b h = ap (λ o. (unwrap_or o no_function_type).trust) h ∙ ap (λ ts. if has_number b.func ts then Trusted else Untrusted) none

  all_quiet : (bs : List SitedBody) → AllByRecursion (IsOwn L (placed_types L m p) (variant_name L m p) p) bs → All IsQuiet (map (placed_function L (variant_name L m p) m p) bs)
  all_quiet [] h = All-nil IsQuiet
  all_quiet (b ∷ bs) h = All-cons IsQuiet (placed_function L (variant_name L m p) m p b) (map (placed_function L (variant_name L m p) m p) bs) (quiet b h.0) (all_quiet bs h.1)

  placed_quiet : All IsQuiet (placed L m p).functions
  placed_quiet = all_quiet (bodies m p) (own_types L (placed_types L m p) (variant_name L m p) m p (variants_named L m plain valid p rel))

abbrev HasNoTrust : Module Label → Type 0
HasNoTrust t = All (λ f. (type_named t f.type).trust ≡ Untrusted) t.functions

no_trust : (t : Module Label) → IsPlacedUntrusted t → HasNoTrust t
no_trust t h = subst HasNoTrust (sym h.is_placed) (placed_quiet (at_tag h.labels) h.m h.plain h.valid h.points h.releases h.untrusted)

part_untrusted : (q : LinkedModule) → HasNoTrust q.tree → AllUntrusted (instances_in q)
part_untrusted q h = All-map (λ fn. fn.type.trust ≡ Untrusted) (instance_of (module_instance q) q.tree) q.tree.functions h

-- a set of them has no trusted function
pub set_untrusted : (set : ModuleSet) → All (λ p. IsPlacedUntrusted p.tree) set → AllUntrusted (set_instances set)
set_untrusted set h =
    let bares : All (λ p. HasNoTrust p.tree) (map bare (linked set)) = subst (λ l. All (λ p. HasNoTrust p.tree) l) (sym (bare_linked set)) (All-weaker (λ p. IsPlacedUntrusted p.tree) (λ p. HasNoTrust p.tree) (λ p. no_trust p.tree) set h) in
    let parts : All (λ q. HasNoTrust q.tree) (linked set) = all_unmap (λ p. HasNoTrust p.tree) bare (linked set) bares in
    all_flat (λ fn. fn.type.trust ≡ Untrusted) instances_in (linked set) (All-weaker (λ q. HasNoTrust q.tree) (λ q. AllUntrusted (instances_in q)) part_untrusted (linked set) parts)

-- what is executed of them releases nothing
nothing_released : (words : List (List ℕ)) (files : Files) (octets : AreOctets files) (reading : Result (List Move) ScriptFault) (found : Found) → FindsMarks (command_of words) files found → (o : Option Execution) → (answer words files reading found).execution ≡ o → ExecutesUntrusted o → released_in o ≡ []
nothing_released words files octets reading found finds None q h = refl
nothing_released words files octets reading found finds (Some e) q h = none_released files octets e words reading found finds h.1 (set_untrusted e.set h.0) q

-- no command with a vault names marks
vault_finds : (files : Files) (found : Found) (o : Option Command) (vault : List ℕ) → vault_in o ≡ Some vault → FindsMarks o files found
vault_finds files found None vault e = tt
vault_finds files found (Some (Check p file)) vault e = tt
vault_finds files found (Some (Canon file)) vault e = tt
vault_finds files found (Some (Assemble file)) vault e = tt
vault_finds files found (Some (Text p file)) vault e = tt
vault_finds files found (Some (Infer p file marks)) vault e = let d : None ≡ Some vault = e in absurd cc
vault_finds files found (Some (Strip p file)) vault e = tt
vault_finds files found (Some (Link p parts)) vault e = tt
vault_finds files found (Some (Run p w)) vault e = tt
vault_finds files found (Some (Once p w)) vault e = tt
vault_finds files found (Some (Work p seed size)) vault e = let d : None ≡ Some vault = e in absurd cc

-- so the answer keeps every secret
pub inferred_keep : (words : List (List ℕ)) (files others : Files) (reading : Result (List Move) ScriptFault) (found : Found) (vault : List ℕ) → AreOctets files → AreOctets others → vault_word words ≡ Some vault → OtherVault vault files others
    → ExecutesUntrusted (answer words files reading found).execution → ExecutesUntrusted (answer words others reading found).execution → SameOutcome (answer words others reading found) (answer words files reading found)
inferred_keep words files others reading found vault f g word other own theirs =
    let a : releases words others reading found ≡ [] = nothing_released words others g reading found (vault_finds others found (command_of words) vault word) (answer words others reading found).execution refl theirs in
    let b : releases words files reading found ≡ [] = nothing_released words files f reading found (vault_finds files found (command_of words) vault word) (answer words files reading found).execution refl own in
    answer_alike words reading found vault files others word other (a ∙ sym b)
