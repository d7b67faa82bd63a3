-- What comes of `work`: it is never refused, and what it executes is sound.
use Rattle.std.proofs.Common.{◌≡◌, ◌≢◌, ◌≤◌, ◌*◌, ◌+◌, ◌%◌, ℕ, List, [], ◌∷◌, map, Some, None, Result, Ok, Err, refl, sym, ap, subst, arith, All}
use Rattle.std.specs.List.{range_with_len}
use Rattle.std.proofs.lemmas.List.Elements.{All-cons, All-nil, All-weaker}
use Rattle.ctw_ops.specs.declared.types.Label.{Label}
use Rattle.ctw_ops.specs.declared.numeric.Profile.{Profile}
use Rattle.ctw_ops.specs.Tree.{Module, Segment, under}
use Rattle.ctw_ops.specs.Valid.{IsValid}
use Rattle.ctw_ops.specs.WithinLimits.{IsOctet, IsWithinLimits}
use Rattle.ctw_write.specs.Canon.{canon}
use Rattle.ctw_write.specs.KeepsLimits.{IsLimitedEntry, IsLimitedFunction}
use Rattle.ctw_write.proofs.KeptModules.{module_limited}
use Rattle.ctw_labels.specs.Links.{at_tag}
use Rattle.ctw_labels.specs.Fits.{label_at}
use Rattle.ctw_marks.specs.declared.fault.MarkFault.{MarkFault}
use Rattle.ctw_marks.specs.Readings.{MarkList}
use Rattle.ctw_infer.specs.declared.fault.InferFault.{InferFault}
use Rattle.ctw_infer.specs.declared.fault.InferFault.TheVariants as infer
use Rattle.ctw_link.specs.Sets.{NamedModule, AllWithinLimits}
use Rattle.ctw_link.specs.SetInstances.{AllValid}
use Rattle.ctw_launch.specs.Launched.{Started, loaded}
use Rattle.ctw_moves.specs.States.{State}
use Rattle.ctw_moves.specs.LaunchedStates.{Launch, Ready, Faulty, first_state, with_vault, launch}
use Rattle.ctw_gen.specs.Draws.{draw}
use Rattle.ctw_gen.specs.Workload.{marks, vault, moves}
use Rattle.ctw_workloads.specs.Placed.{workload_under}
use Rattle.ctw_workloads.proofs.FewSites.{sites_few}
use Rattle.ctw_workloads.proofs.Marks.{never_faulty, trust_kept}
use Rattle.ctw_workloads.proofs.Launch.{set_stands}
use Rattle.ctw_inputs.specs.declared.said.Status.TheVariants.{Refused}
use Rattle.ctw_inputs.specs.Outcome.{Execution, Outcome}
use Rattle.ctwasm_top.specs.Launching.{on_launch}
use Rattle.ctwasm_top.specs.Inference.{Found, IsFound, ReadsMarks, placed_by, on_labelling, on_marks}
use Rattle.ctwasm_top.specs.Works.{alone, summed, worked, work_answer}
use Rattle.ctwasm_top.proofs.Inferred.{labels_passed, refused_done}
use Rattle.ctwasm_top.proofs.WorkFacts.{placed_plain, placed_under, placed_spelled}

module _ (profile : Profile) (seed size : ℕ) (few : size ≤ 20000) where
  abbrev own : Module Label
  own = workload_under profile seed size

  abbrev go_on : MarkList → List Label → Outcome
  go_on k labels = worked (vault seed size) labels (placed_by own k labels)

  -- ---- it is never refused

  launched_passes : (k : MarkList) (labels : List Label) → (go_on k labels).status ≢ Refused
  launched_passes k labels =
      let ready : launch (alone (placed_by own k labels)) (vault seed size) ≡ Ready (first_state (loaded (alone (placed_by own k labels))) (vault seed size)) =
      ap (λ (s : Started). with_vault s (vault seed size)) (set_stands profile seed size k.points (at_tag (label_at labels))) in
      subst (λ (x : Launch). (on_launch x (summed labels (placed_by own k labels))).status ≢ Refused) (sym ready) refused_done

  pub work_passed : (found : Found) → IsFound own marks found → (work_answer found profile seed size).status ≢ Refused
  work_passed found is_so = on found.marks refl is_so.read
    where
      on : (r : Result MarkList MarkFault) → found.marks ≡ r → ReadsMarks own marks r → (on_marks r (λ k. on_labelling own found.labels (go_on k))).status ≢ Refused
      on (Ok k) e read = labels_passed own k refl (sites_few profile seed size few) (trust_kept profile seed size k read) (go_on k) (λ labels l. launched_passes k labels) found.labels (is_so.labelled k e)
      on (Err fault) e read = absurd (read.1 (never_faulty profile seed size fault read.0))

  -- ---- what is executed

  octets : (l : List ℕ) → All IsOctet (map (λ i. draw seed (3 * size + i) % 256) l)
  octets [] = All-nil IsOctet
  octets (i ∷ l) = All-cons IsOctet (draw seed (3 * size + i) % 256) (map (λ i. draw seed (3 * size + i) % 256) l) (omega arith) (octets l)

  pub vault_octets : All IsOctet (vault seed size)
  vault_octets = octets (range_with_len 0 4)

  -- a labelling with which something is executed
  pub record Executed (found : Found) (e : Execution) : Type 0 where
    pub k : MarkList
    pub labels : List Label
    pub read : found.marks ≡ Ok k
    pub labelled : found.labels ≡ Ok labels
    pub state : State
    pub launched : launch (alone (placed_by own k labels)) (vault seed size) ≡ Ready state
    pub is : record { set = alone (placed_by own k labels); state = state; moves = moves } ≡ e

  module _ (found : Found) (e : Execution) where
    abbrev Executes : Outcome → Type 0
    Executes o = o.execution ≡ Some e

    none_some : None ≡ Some e → Executed found e
    none_some q = cc

    on_state : (k : MarkList) (labels : List Label) → found.marks ≡ Ok k → found.labels ≡ Ok labels → (x : Launch) → launch (alone (placed_by own k labels)) (vault seed size) ≡ x → Executes (on_launch x (summed labels (placed_by own k labels))) → Executed found e
    on_state k labels read labelled (Ready s) l q =
        let same : Some (record { set = alone (placed_by own k labels); state = s; moves = moves }) ≡ Some e = q in
        record { k = k; labels = labels; read = read; labelled = labelled; state = s; launched = l; is = cc }
    on_state k labels read labelled (Faulty fault) l q = none_some q

    on_labels : (k : MarkList) → found.marks ≡ Ok k → (r : Result (List Label) InferFault) → found.labels ≡ r → Executes (on_labelling own r (go_on k)) → Executed found e
    on_labels k read (Ok labels) labelled q = on_state k labels read labelled (launch (alone (placed_by own k labels)) (vault seed size)) refl q
    on_labels k read (Err infer.Labelled) labelled q = none_some q
    on_labels k read (Err (infer.TooManySites count)) labelled q = none_some q
    on_labels k read (Err (infer.TrustCall caller at callee)) labelled q = none_some q
    on_labels k read (Err (infer.TrustTable func)) labelled q = none_some q
    on_labels k read (Err (infer.Flow w)) labelled q = none_some q
    on_labels k read (Err infer.NoMemory) labelled q = none_some q

    pub executed : Executes (work_answer found profile seed size) → Executed found e
    executed q = on found.marks refl q
      where
        on : (r : Result MarkList MarkFault) → found.marks ≡ r → Executes (on_marks r (λ k. on_labelling own found.labels (go_on k))) → Executed found e
        on (Ok k) read q = on_labels k read found.labels refl q
        on (Err fault) read q = none_some q

  module _ (k : MarkList) (labels : List Label) (found : IsFound own marks (record { marks = Ok k; labels = Ok labels })) where
    -- the placed module keeps the limits of files, and has no segment
    pub placed_within : IsWithinLimits (placed_by own k labels)
    placed_within =
        let plain = placed_plain profile seed size few k labels in
        let kept = module_limited (canon (placed_by own k labels)) plain (placed_spelled profile seed size few k labels found (canon (placed_by own k labels)) refl) in
        let limits : IsWithinLimits (under profile plain) = record {
          params = All-weaker IsLimitedEntry _ (λ entry h. h.1) plain.types kept.types;
          locals = All-weaker IsLimitedFunction _ (λ f h. h.locals) plain.functions kept.functions;
          bytes = All-nil (λ (segment : Segment Label). All IsOctet segment.bytes);
        } in
        subst IsWithinLimits (placed_under profile seed size few k labels) limits

    pub set_within : AllWithinLimits (alone (placed_by own k labels))
    set_within = All-cons (λ (p : NamedModule). IsWithinLimits p.tree) _ [] placed_within (All-nil (λ (p : NamedModule). IsWithinLimits p.tree))

    pub set_valid : AllValid (alone (placed_by own k labels))
    set_valid = All-cons (λ (p : NamedModule). IsValid p.tree) _ [] (found.labelled k refl).1.fits.valid (All-nil (λ (p : NamedModule). IsValid p.tree))
