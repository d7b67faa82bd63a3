-- Steps of a command, one behind another.
use Rattle.std.proofs.Common.{◌≡◌, ℕ, List, [], ◌∷◌, map, Result, refl, sym, ap, ◌∙◌, subst}
use Rattle.ctw_io.specs.Files.{Files}
use Rattle.ctw_ops.specs.declared.types.Label.{Label}
use Rattle.ctw_ops.specs.declared.numeric.Profile.{Profile}
use Rattle.ctw_ops.specs.Tree.{Module, under}
use Rattle.ctw_ops.specs.Erasure.{erase_module}
use Rattle.ctw_write.specs.Canon.{sections_text, canon}
use Rattle.ctw_inputs.specs.Saying.{Saying}
use Rattle.ctw_inputs.specs.declared.said.Stop.{Stop}
use Rattle.ctw_inputs.specs.declared.said.Status.TheVariants.{Done}
use Rattle.ctw_inputs.specs.declared.parts.PartFile.{PartFile}
use Rattle.ctw_inputs.specs.declared.parts.LoadedPart.{LoadedPart}
use Rattle.ctw_inputs.specs.Outcome.{Outcome, ends}
use Rattle.ctw_inputs.specs.Inputs.{NamedFile, modules_limit, load_modules}
use Rattle.ctw_inputs.specs.Parts.{part_named, names, contents}
use Rattle.ctw_inputs.specs.Settling.{SaysAll, SaysSo}
use Rattle.ctwasm_top.specs.Answer.{matched}

-- a step that goes on gives what comes behind it
pub goes_on : {S : Type 0} (step : (S → Outcome) → Outcome) (go : S → Outcome) (x y : S) (r : Result Saying Stop) → ((go : S → Outcome) → step go ≡ go x) → y ≡ x → SaysSo r (go y) → SaysSo r (step go)
goes_on step go x y r settles e says = subst (λ (o : Outcome). SaysSo r o) (ap go e ∙ sym (settles go)) says

-- work that is done says all that the outcome is
pub says_done : (said : Saying) (o : Outcome) (bytes text : List ℕ) → said ≡ record { status = Done; text = bytes } → bytes ≡ text → o ≡ ends Done text → SaysAll said o
says_done said o bytes text e t q = q ∙ ap (λ (b : List ℕ). ends Done b) (sym t) ∙ ap (λ (s : Saying). ends s.status s.text) (sym e)

-- a profile isn't spelled
pub erased_under : (profile : Profile) (m : Module Label) → canon (erase_module m) ≡ canon (erase_module (under profile m))
unfolding canon sections_text
erased_under profile m = refl

abbrev pub part_of : LoadedPart → PartFile
part_of p = p.part

pub named_parts : (loaded : List LoadedPart) → names loaded ≡ map part_named (map part_of loaded)
named_parts [] = refl
named_parts (p ∷ loaded) = ap (λ (l : List NamedFile). part_named p.part ∷ l) (named_parts loaded)

-- parts that are loaded in the order of the words that name them
pub parts_on : (files : Files) (profile : Profile) (words : List NamedFile) (parts : List PartFile) (loaded seen : List LoadedPart) (r : Result Saying Stop)
    → ((go : List (List ℕ) → Outcome) → load_modules files modules_limit (map part_named parts) go ≡ go (contents loaded)) → map part_of loaded ≡ parts → map part_named parts ≡ words → seen ≡ loaded
    → SaysSo r (matched profile (names seen) (contents seen)) → SaysSo r (load_modules files modules_limit words (matched profile words))
parts_on files profile words parts loaded seen r settles p w e says =
    let n : names seen ≡ words = ap names e ∙ named_parts loaded ∙ ap (map part_named) p ∙ w in
    subst (λ (o : Outcome). SaysSo r o)
    (ap (λ (l : List NamedFile). matched profile l (contents seen)) n ∙ ap (λ (l : List LoadedPart). matched profile words (contents l)) e ∙ sym (settles (matched profile words))
    ∙ ap (λ (l : List NamedFile). load_modules files modules_limit l (matched profile words)) w) says
