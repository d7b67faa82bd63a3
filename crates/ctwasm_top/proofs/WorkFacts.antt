-- The placed module of a workload: its canonical bytes spell it, it is valid, and it matches alone.
use Rattle.std.proofs.Common.{◌≡◌, ◌≤◌, ℕ, List, Vec, Global, Result, Ok, Err, refl, sym, ◌∙◌, subst}
use Rattle.ctw_ops.specs.declared.types.Label.{Label}
use Rattle.ctw_ops.specs.declared.numeric.Profile.{Profile}
use Rattle.ctw_ops.specs.declared.numeric.Profile.TheVariants.{Divide}
use Rattle.ctw_ops.specs.Tree.{Module, under}
use Rattle.ctw_ops.specs.Valid.{IsValid}
use Rattle.ctw_form.specs.Spelled.{Spells}
use Rattle.ctw_write.specs.Canon.{canon}
use Rattle.ctw_write.proofs.FormedModules.{formed_spelled}
use Rattle.ctw_labels.specs.declared.tag.Tag.{Tag}
use Rattle.ctw_labels.specs.Links.{at_tag}
use Rattle.ctw_labels.specs.Placed.{placed}
use Rattle.ctw_labels.specs.Fits.{label_at}
use Rattle.ctw_marks.specs.Readings.{MarkList}
use Rattle.ctw_marks.proofs.TakenLaws.{reading_releases}
use Rattle.ctw_place.proofs.Limited.{placed_formed}
use Rattle.ctw_place.proofs.WholeLaws.{spelled_limits}
use Rattle.ctw_place.proofs.ProfileLaws.{placed_same, canon_same}
use Rattle.ctw_link.specs.Matching.{AreMatching}
use Rattle.ctw_gen.specs.Workload.{workload_module, marks, vault}
use Rattle.ctw_gen.proofs.Kept.{module_spelled}
use Rattle.ctw_gen.proofs.Typed.{module_valid}
use Rattle.ctw_workloads.specs.Placed.{workload_under}
use Rattle.ctw_workloads.proofs.FewSites.{sites_few}
use Rattle.ctw_workloads.proofs.Launch.{set_matches}
use Rattle.ctw_inputs.specs.declared.said.Stop.{Stop}
use Rattle.ctw_inputs.specs.Settling.{SaysAll}
use Rattle.ctwasm_top.specs.Inference.{IsFound, placed_by}
use Rattle.ctwasm_top.specs.Findings.{OnSaid}
use Rattle.ctwasm_top.specs.Works.{alone, worked, work_answer}
use Rattle.ctwasm_top.specs.WorkSteps.{TellsLine, AnswersWork, TellsWork, SaysOtherWork}
use Rattle.ctwasm_top.proofs.Labelling.{on_said, on_stop}

module _ (profile : Profile) (seed size : ℕ) (le : size ≤ 20000) (k : MarkList) (labels : List Label) where
  abbrev own : Module Label
  own = workload_module seed size

  abbrev L : Tag → Label
  L = at_tag (label_at labels)

  -- the placed module before it gets a profile
  abbrev pub placed_plain : Module Label
  placed_plain = placed L own k.points

  pub placed_under : under profile placed_plain ≡ placed_by (workload_under profile seed size) k labels
  placed_under = sym (placed_same profile own L k.points)

  module _ (found : IsFound (workload_under profile seed size) marks (record { marks = Ok k; labels = Ok labels })) where
    pub placed_spelled : (bytes : List ℕ) → bytes ≡ canon (placed_by (workload_under profile seed size) k labels) → Spells bytes placed_plain
    placed_spelled bytes e =
        let valid = module_valid seed size le in
        let few = sites_few Divide seed size le in
        let releases = reading_releases (workload_under profile seed size) marks k found.read.reading in
        subst (λ (b : List ℕ). Spells b placed_plain) (sym (e ∙ canon_same profile own L k.points))
        (formed_spelled placed_plain (placed_formed L own k.points valid.formed) (spelled_limits (canon own) own (module_spelled seed size le) refl valid few L k.points releases))

    pub placed_valid : IsValid (under profile placed_plain)
    placed_valid = subst IsValid (sym placed_under) (found.labelled k refl).1.fits.valid

    pub placed_matches : AreMatching (alone (under profile placed_plain))
    placed_matches = subst (λ (t : Module Label). AreMatching (alone t)) (sym placed_under) (set_matches profile seed size k.points L)

    -- what is told of it is the answer
    pub placed_answers : (r : Result (Vec ℕ Global) Stop) → TellsLine r (worked (vault seed size) labels (under profile placed_plain)) → TellsWork profile seed size r
    placed_answers r h = by r (subst (λ (t : Module Label). TellsLine r (worked (vault seed size) labels t)) placed_under h)
      where
        by : (r : Result (Vec ℕ Global) Stop) → TellsLine r (work_answer (record { marks = Ok k; labels = Ok labels }) profile seed size) → TellsWork profile seed size r
        by (Ok line) h = record { found = record { marks = Ok k; labels = Ok labels }; is_so = found; is = h }
        by (Err why) h = on_stop (λ said. AnswersWork profile seed size (SaysAll said)) why _ (λ said s. record { found = record { marks = Ok k; labels = Ok labels }; is_so = found; is = s }) h

-- what is said in place of a labelling is the answer
pub other_answers : (profile : Profile) (seed size : ℕ) (why : Stop) → OnSaid (Err why) (SaysOtherWork (workload_under profile seed size) marks) → TellsWork profile seed size (Err why)
other_answers profile seed size why h =
    on_said (SaysOtherWork (workload_under profile seed size) marks) (λ said. AnswersWork profile seed size (SaysAll said)) (Err why)
    (λ said o. record { found = o.found; is_so = o.is_so; is = o.says (λ k labels. worked (vault seed size) labels (placed_by (workload_under profile seed size) k labels)) }) h
