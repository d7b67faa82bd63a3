-- The command that labels a module: what its answer says, and what the files hold where its work is done.
use Rattle.std.proofs.Common.{◌≡◌, ◌≢◌, ◌≤◌, ℕ, Bool, true, false, List, [], length, Option, Some, Result, Ok, Err, refl, sym, ap, ◌∙◌, subst, cond, arith}
use Rattle.std.specs.FinMap.{get}
use Rattle.std.proofs.lemmas.Option.{none-some}
use Rattle.std.specs.Prelude.{slice_get}
use Rattle.ctw_io.specs.Files.{Files}
use Rattle.ctw_io.specs.Taken.{grown}
use Rattle.ctw_ops.specs.declared.types.Label.{Label}
use Rattle.ctw_ops.specs.declared.numeric.Profile.{Profile}
use Rattle.ctw_ops.specs.Plain.{IsPlainModule}
use Rattle.ctw_ops.proofs.Profiles.{plain_under}
use Rattle.ctw_ops.specs.Tree.{Module, under}
use Rattle.ctw_ops.specs.Valid.{IsValid}
use Rattle.ctw_form.specs.Spelled.{Spells}
use Rattle.ctw_form.proofs.FileForms.{module_complete}
use Rattle.ctw_form.proofs.PlainForms.{module_plain}
use Rattle.ctw_script.specs.declared.moves.Move.{Move}
use Rattle.ctw_script.specs.declared.script.ScriptFault.{ScriptFault}
use Rattle.ctw_modcheck.specs.Check.{fault_of}
use Rattle.ctw_modcheck.proofs.Validity.{valid_is_none}
use Rattle.ctw_labels.specs.Names.{Site}
use Rattle.ctw_labels.specs.Points.{Points, AreReleases}
use Rattle.ctw_labels.specs.declared.tag.Tag.{Tag}
use Rattle.ctw_labels.specs.Placed.{placed}
use Rattle.ctw_labels.specs.Kept.{IsKept}
use Rattle.ctw_labels.specs.Links.{at_tag}
use Rattle.ctw_labels.specs.SitedModule.{sites}
use Rattle.ctw_labels.specs.Fits.{label_at}
use Rattle.ctw_labels.proofs.EraseLaws.{erased_placed}
use Rattle.ctw_sites.specs.Flow.{Flow}
use Rattle.ctw_sites.specs.Packed.{most_sites}
use Rattle.ctw_marks.specs.declared.fault.MarkFault.{MarkFault}
use Rattle.ctw_marks.proofs.TakenLaws.{reading_releases}
use Rattle.ctw_marks.specs.Readings.{MarkList}
use Rattle.ctw_infer.specs.declared.fault.InferFault.{InferFault}
use Rattle.ctw_infer.specs.declared.fault.InferFault.TheVariants as infer
use Rattle.ctw_infer.specs.Answers.{IsRefused}
use Rattle.ctw_infer.specs.Misuse.{misused_calls, misused_entries}
use Rattle.ctw_infer.proofs.Keeping.{kept_clear, same_kept}
use Rattle.ctw_lines.specs.Lines.{infer_line}
use Rattle.ctw_inputs.specs.declared.said.Status.{Status}
use Rattle.ctw_inputs.specs.declared.said.Status.TheVariants.{Done, Refused, NoLabelling}
use Rattle.ctw_inputs.specs.Outcome.{Outcome, ends}
use Rattle.ctw_inputs.specs.Inputs.{module_limit, marks_limit, on_file, on_text, read_valid, module_under}
use Rattle.ctw_words.specs.Words.{Command, Infer, command_of}
use Rattle.ctwasm_top.specs.Marked.{HoldsMarked}
use Rattle.ctw_write.specs.Canon.{canon}
use Rattle.ctw_write.specs.KeepsLimits.{KeepsLimits}
use Rattle.ctw_write.proofs.FormedModules.{formed_spelled}
use Rattle.ctw_place.proofs.Limited.{placed_formed}
use Rattle.ctw_place.proofs.ProfileLaws.{sites_same, placed_same, canon_same}
use Rattle.ctw_place.proofs.WholeLaws.{spelled_limits}
use Rattle.ctw_workloads.proofs.UnderProfiles.{valid_under as valid_under_all}
use Rattle.ctwasm_top.specs.Inference.{Found, IsFound, ReadsMarks, LabelsModule, asked, placed_by, on_labelling, on_labels, on_marks, inferred}
use Rattle.ctwasm_top.specs.Answer.{infer_answer, answer, on_words, ReadsScript, FindsMarks}
use Rattle.ctwasm_top.specs.ValidCalls.{HoldsInference}
use Rattle.ctwasm_top.specs.Headline.{DidFound, HasInferred, DidInfer, ByMarks, BadMarks, IsAnswer, IsReadAs}
use Rattle.ctwasm_top.proofs.Profiles.{under_ok, spelled_under, valid_under, module_read_valid}
use Rattle.ctwasm_top.proofs.There.{there, text_there}
use Rattle.ctwasm_top.proofs.Going.{file_goes, text_goes, form_goes, fault_goes}
use Rattle.ctwasm_top.proofs.Dispatched.{whole_answer}

-- ---- it ends with a text

labels_end : (Q : Outcome → Type 0) → ((status : Status) (out : List ℕ) → Q (ends status out) → ⊥) → (m : Module Label) (marks : MarkList) (labels : Result (List Label) InferFault) → Q (on_labels m marks labels) → ⊥
labels_end Q never m marks (Ok labels) q = never _ _ q
labels_end Q never m marks (Err infer.Labelled) q = never _ _ q
labels_end Q never m marks (Err (infer.TooManySites count)) q = never _ _ q
labels_end Q never m marks (Err (infer.TrustCall caller at callee)) q = never _ _ q
labels_end Q never m marks (Err (infer.TrustTable func)) q = never _ _ q
labels_end Q never m marks (Err (infer.Flow w)) q = never _ _ q
labels_end Q never m marks (Err infer.NoMemory) q = never _ _ q

pub inferred_ends : (Q : Outcome → Type 0) → ((status : Status) (out : List ℕ) → Q (ends status out) → ⊥) → (found : Found) (m : Module Label) → Q (inferred found m) → ⊥
inferred_ends Q never found m q = when m.ct q
  where
    on : (r : Result MarkList MarkFault) → Q (on_marks r (λ marks. on_labels m marks found.labels)) → ⊥
    on (Ok marks) q = labels_end Q never m marks found.labels q
    on (Err fault) q = never _ _ q

    when : (b : Bool) → Q (cond b (ends Refused (infer_line infer.Labelled)) (on_marks found.marks (λ marks. on_labels m marks found.labels))) → ⊥
    when true q = never _ _ q
    when false q = on found.marks q

refused_is_done : Refused ≡ Done → ⊥
refused_is_done e = cc

flow_is_done : NoLabelling ≡ Done → ⊥
flow_is_done e = cc

-- ---- where nothing is refused

pub refused_done : Done ≡ Refused → ⊥
refused_done e = cc

refused_flow : NoLabelling ≡ Refused → ⊥
refused_flow e = cc

none_misused : {A : Type 0} (xs : List A) (x : A) → xs ≡ [] → slice_get xs 0 ≡ Some x → ⊥
none_misused xs x e f = none-some x (ap (λ l. slice_get l 0) (sym e) ∙ f)

pub labels_passed : (m : Module Label) (k : MarkList) → m.ct ≡ false → length (sites m) ≤ most_sites → IsKept m k.points → (go : List Label → Outcome) → ((labels : List Label) → LabelsModule m k (Ok labels) → (go labels).status ≢ Refused) → (r : Result (List Label) InferFault) → LabelsModule m k r → (on_labelling m r go).status ≢ Refused
labels_passed m k plain few kept go passes (Ok labels) h = passes labels h
labels_passed m k plain few kept go passes (Err infer.Labelled) h = let e : false ≡ true = sym plain ∙ h.0 in absurd cc
labels_passed m k plain few kept go passes (Err (infer.TooManySites count)) h = absurd (omega (arith, few, h.0.1))
labels_passed m k plain few kept go passes (Err (infer.TrustCall caller at callee)) h = absurd (none_misused (misused_calls m k.points) _ (kept_clear m k.points kept).0 h.0.1)
labels_passed m k plain few kept go passes (Err (infer.TrustTable func)) h = absurd (none_misused (misused_entries m k.points) _ (kept_clear m k.points kept).1 h.0.1.1)
labels_passed m k plain few kept go passes (Err (infer.Flow w)) h = refused_flow
labels_passed m k plain few kept go passes (Err infer.NoMemory) h = absurd (h.1 refl)

-- ---- over files that hold a plain module and marks

module _ (files : Files) (found : Found) (profile : Profile) (name marks : List ℕ) where
  plain_inferred : (m : Module Label) → m.ct ≡ false → inferred found m ≡ on_marks found.marks (λ k. on_labels m k found.labels)
  plain_inferred m e = ap (λ (b : Bool). cond b (ends Refused (infer_line infer.Labelled)) (on_marks found.marks (λ k. on_labels m k found.labels))) e

  pub infer_given : (h : HoldsMarked files profile name marks) → infer_answer files found profile name marks ≡ inferred found (under profile h.tree)
  infer_given h =
      let m = under profile h.tree in
      there name module_limit (get files name) h.bytes (λ bytes. on_file marks marks_limit (get files marks) (λ text. on_text marks text (λ text. read_valid profile name bytes (inferred found)))) h.told h.short
      ∙ there marks marks_limit (get files marks) h.text (λ text. on_text marks text (λ text. read_valid profile name h.bytes (inferred found))) h.text_told h.text_short
      ∙ text_there marks h.text (λ text. read_valid profile name h.bytes (inferred found)) h.is_text
      ∙ module_read_valid profile name h.bytes m (inferred found) (under_ok profile h.bytes h.tree (module_complete h.bytes h.tree h.spelled)) (valid_is_none m h.valid)

  -- ---- where the work is done

  abbrev is_done : Outcome → Type 0
  is_done o = o.status ≡ Done

  refused_not_done : (line : List ℕ) → is_done (ends Refused line) → ⊥
  refused_not_done line e = refused_is_done e

  plain_goes : (m : Module Label) → is_done (inferred found m) → (m.ct ≡ false) × is_done (on_marks found.marks (λ k. on_labels m k found.labels))
  plain_goes m q = at m.ct refl q
    where
      at : (b : Bool) → m.ct ≡ b → is_done (cond b (ends Refused (infer_line infer.Labelled)) (on_marks found.marks (λ k. on_labels m k found.labels))) → (m.ct ≡ false) × is_done (on_marks found.marks (λ k. on_labels m k found.labels))
      at true e q = absurd (refused_is_done q)
      at false e q = (e, q)

  marks_go : (r : Result MarkList MarkFault) (go : MarkList → Outcome) → is_done (on_marks r go) → (k : MarkList) × (r ≡ Ok k) × is_done (go k)
  marks_go (Ok k) go q = (k, refl, q)
  marks_go (Err fault) go q = absurd (refused_is_done q)

  labels_go : (m : Module Label) (k : MarkList) (r : Result (List Label) InferFault) → is_done (on_labels m k r) → (labels : List Label) × (r ≡ Ok labels)
  labels_go m k (Ok labels) q = (labels, refl)
  labels_go m k (Err infer.Labelled) q = absurd (refused_is_done q)
  labels_go m k (Err (infer.TooManySites count)) q = absurd (refused_is_done q)
  labels_go m k (Err (infer.TrustCall caller at callee)) q = absurd (refused_is_done q)
  labels_go m k (Err (infer.TrustTable func)) q = absurd (refused_is_done q)
  labels_go m k (Err (infer.Flow w)) q = absurd (flow_is_done q)
  labels_go m k (Err infer.NoMemory) q = absurd (refused_is_done q)

  pub infer_done : FindsMarks (Some (Infer profile name marks)) files found → is_done (infer_answer files found profile name marks) → HoldsInference files profile name marks
  infer_done finds e =
      let f = file_goes is_done refused_not_done name module_limit (get files name) (λ bytes. on_file marks marks_limit (get files marks) (λ text. on_text marks text (λ text. read_valid profile name bytes (inferred found)))) e in
      let t = file_goes is_done refused_not_done marks marks_limit (get files marks) (λ text. on_text marks text (λ text. read_valid profile name f.0 (inferred found))) f.3 in
      let u = text_goes is_done refused_not_done marks t.0 (λ text. read_valid profile name f.0 (inferred found)) t.3 in
      let r = form_goes is_done refused_not_done name (module_under profile f.0) _ u.1 in
      let v = fault_goes is_done refused_not_done name (fault_of r.0) _ r.2 in
      let s = spelled_under profile f.0 r.0 r.1 in
      let p = plain_goes r.0 v.1 in
      let h : HoldsMarked files profile name marks = record {
        bytes = f.0;
        told = f.1;
        short = f.2;
        tree = s.0;
        spelled = s.1;
        valid = subst IsValid s.2 (valid_under profile f.0 r.0 r.1 v.0);
        plain = ap (λ (m : Module Label). m.ct) (sym s.2) ∙ p.0;
        text = t.0;
        text_told = t.1;
        text_short = t.2;
        is_text = u.0;
      } in
      let is_so = finds h in
      let k = marks_go found.marks (λ k. on_labels r.0 k found.labels) p.1 in
      let l = labels_go r.0 k.0 found.labels k.2 in
      let least = subst (λ (x : Result (List Label) InferFault). LabelsModule (under profile s.0) k.0 x) l.1 (is_so.labelled k.0 k.1) in
      record {
        held = h;
        few = least.0.1;
        marks_of = k.0;
        read = subst (λ (x : Result MarkList MarkFault). ReadsMarks (under profile s.0) t.0 x) k.1 is_so.read;
        kept = least.1.fits.kept;
      }

  pub infer_passed : (h : HoldsInference files profile name marks) → FindsMarks (Some (Infer profile name marks)) files found → (infer_answer files found profile name marks).status ≢ Refused
  infer_passed h finds =
      let m = under profile h.held.tree in
      let is_so = finds h.held in
      subst (λ (o : Outcome). o.status ≢ Refused) (sym (infer_given h.held ∙ plain_inferred m h.held.plain)) (on found.marks refl is_so.read)
    where
      on : (r : Result MarkList MarkFault) → found.marks ≡ r → ReadsMarks (under profile h.held.tree) h.held.text r → (on_marks r (λ k. on_labels (under profile h.held.tree) k found.labels)).status ≢ Refused
      on (Ok k) e read =
          let same = h.read.only k read.reading in
          labels_passed (under profile h.held.tree) k h.held.plain h.few (same_kept h.marks_of.points k.points (λ f. sym (same.trusted f)) (under profile h.held.tree) h.kept) (λ labels. ends Done (canon (placed_by (under profile h.held.tree) k labels))) (λ labels l. refused_done) found.labels ((finds h.held).labelled k e)
      on (Err fault) e read = absurd (read.0.unread read.1 h.marks_of h.read.reading)

-- ---- what was done

not_done_flow : Done ≡ NoLabelling → ⊥
not_done_flow e = cc

not_done_refused : Done ≡ Refused → ⊥
not_done_refused e = cc

not_flow_refused : NoLabelling ≡ Refused → ⊥
not_flow_refused e = cc

-- what is placed in the module under a profile is read again, where its sites aren't too many
abbrev IsReadPlaced : Module Label → Type 0
IsReadPlaced m = length (sites m) ≤ most_sites → (p : Points) → AreReleases p → (l : Tag → Label) → IsReadAs (canon (placed l m p)) (placed l m p)

read_placed : (q : Profile) (bytes : List ℕ) (t : Module Label) → Spells bytes t → t.ct ≡ false → IsValid (under q t) → IsReadPlaced (under q t)
read_placed q bytes t s ct valid few p r l =
    let v : IsValid t = valid_under_all t.profile (under q t) ct valid in
    let n : length (sites t) ≤ most_sites = subst (λ (x : List Site). length x ≤ most_sites) (sites_same q t) few in
    let same = placed_same q t l p in
    let keeps : KeepsLimits (placed l t p) = spelled_limits bytes t s ct v n l p r in (
      placed l t p,
      subst (λ (b : List ℕ). Spells b (placed l t p)) (sym (canon_same q t l p)) (formed_spelled (placed l t p) (placed_formed l t p v.formed) keeps),
      same ∙ ap (λ (x : Profile). under x (placed l t p)) (ap (λ (x : Module Label). x.profile) (sym same)),
    )

module _ (m : Module Label) (plain : IsPlainModule m) (ct : m.ct ≡ false) (valid : IsValid m) (read : IsReadPlaced m) (k : MarkList) (releases : AreReleases k.points) (taken took : Option (List ℕ)) where
  none_first : {A : Type 0} (xs : List A) (x : A) → xs ≡ [] → slice_get xs 0 ≡ Some x → ⊥
  none_first xs x e f = none-some x (ap (λ l. slice_get l 0) (sym e) ∙ f)

  refused_inferred : (fault : InferFault) → IsRefused m k.points (asked m k) fault → ((w : Flow) → fault ≢ infer.Flow w) → fault ≢ infer.NoMemory → took ≡ grown taken (infer_line fault)
      → (length (sites m) ≤ most_sites → IsKept m k.points → ⊥) → HasInferred m k Refused taken took
  refused_inferred fault is_so flow want line bad = record {
    labelled = λ e. absurd (not_done_refused (sym e));
    flow = λ e. absurd (not_flow_refused (sym e));
    refused = λ e. (fault, is_so, flow, want, line);
    fitting = λ few l fits. absurd (bad few fits.kept);
    none_fits = λ few kept none. absurd (bad few kept);
  }

  labels_inferred : (r : Result (List Label) InferFault) → LabelsModule m k r → took ≡ grown taken (on_labels m k r).out → HasInferred m k (on_labels m k r).status taken took
  labels_inferred (Ok labels) h e = record {
    labelled = λ d. (labels, h.1, e, read h.0.1 k.points releases (at_tag (label_at labels)), erased_placed (at_tag (label_at labels)) m plain valid k.points releases ct);
    flow = λ d. absurd (not_done_flow d);
    refused = λ d. absurd (not_done_refused d);
    fitting = λ few l fits. refl;
    none_fits = λ few kept none. absurd (none (label_at labels) h.1.fits);
  }
  labels_inferred (Err infer.Labelled) h e = let d : false ≡ true = sym ct ∙ h.0 in absurd cc
  labels_inferred (Err (infer.TooManySites count)) h e =
      refused_inferred (infer.TooManySites count) h.0 (λ w d. cc) h.1 e (λ few kept. omega (arith, few, h.0.1))
  labels_inferred (Err (infer.TrustCall caller at callee)) h e =
      refused_inferred (infer.TrustCall caller at callee) h.0 (λ w d. cc) h.1 e (λ few kept. none_first (misused_calls m k.points) _ (kept_clear m k.points kept).0 h.0.1)
  labels_inferred (Err (infer.TrustTable func)) h e =
      refused_inferred (infer.TrustTable func) h.0 (λ w d. cc) h.1 e (λ few kept. none_first (misused_entries m k.points) _ (kept_clear m k.points kept).1 h.0.1.1)
  labels_inferred (Err (infer.Flow w)) h e = record {
    labelled = λ d. absurd (not_done_flow (sym d));
    flow = λ d. (h.0.1.0, h.0.1.1, (w, h.0.1.2, e));
    refused = λ d. absurd (not_flow_refused d);
    fitting = λ few l fits. absurd (h.0.1.1 l fits);
    none_fits = λ few kept none. refl;
  }
  labels_inferred (Err infer.NoMemory) h e = absurd (h.1 refl)

did_infer : (found : Found) (m : Module Label) (text : List ℕ) → IsPlainModule m → m.ct ≡ false → IsValid m → IsReadPlaced m → IsFound m text found → (status : Status) (taken took : Option (List ℕ))
    → status ≡ (on_marks found.marks (λ k. on_labels m k found.labels)).status → took ≡ grown taken (on_marks found.marks (λ k. on_labels m k found.labels)).out → DidInfer m text status taken took
did_infer found m text plain ct valid again is_so status taken took s t = on found.marks refl is_so.read s t
  where
    on : (r : Result MarkList MarkFault) → found.marks ≡ r → ReadsMarks m text r → status ≡ (on_marks r (λ k. on_labels m k found.labels)).status → took ≡ grown taken (on_marks r (λ k. on_labels m k found.labels)).out → DidInfer m text status taken took
    on (Ok k) e read s t =
        ByMarks k read (subst (λ (x : Status). HasInferred m k x taken took) (sym s) (labels_inferred m plain ct valid again k (reading_releases m text k read.reading) taken took found.labels (is_so.labelled k e) t))
    on (Err fault) e read s t = BadMarks fault read.0 read.1 s t

answer_is : (words : List (List ℕ)) (files : Files) (reading : Result (List Move) ScriptFault) (found : Found) (o : Option Command) → command_of words ≡ o → answer words files reading found ≡ on_words files reading found o
unfolding answer
answer_is words files reading found o e = ap (on_words files reading found) e

-- what the words that infer did
pub words_infer : (words : List (List ℕ)) (files : Files) (profile : Profile) (file marks : List ℕ) → command_of words ≡ Some (Infer profile file marks) → (h : HoldsMarked files profile file marks) → (result : Status) (after : Option Files) (taken took : Option (List ℕ)) → IsAnswer result
    → ((reading : Result (List Move) ScriptFault) → ReadsScript (command_of words) files reading → DidFound words reading result files after taken took) → DidInfer (under profile h.tree) h.text result taken took
words_infer words files profile file marks e h result after taken took whole did =
    let d = did (Ok []) (subst (λ (o : Option Command). ReadsScript o files (Ok [])) (sym e) tt) in
    let a = whole_answer words files (Ok []) result after taken took d whole in
    let finds = subst (λ (o : Option Command). FindsMarks o files d.found) e a.0 in
    let m = under profile h.tree in
    let same : answer words files (Ok []) d.found ≡ on_marks d.found.marks (λ k. on_labels m k d.found.labels) =
    answer_is words files (Ok []) d.found (Some (Infer profile file marks)) e ∙ infer_given files d.found profile file marks h ∙ plain_inferred files d.found profile file marks m h.plain in
    did_infer d.found m h.text (plain_under profile h.tree (module_plain h.bytes h.tree h.spelled h.plain)) h.plain h.valid (read_placed profile h.bytes h.tree h.spelled h.plain h.valid) (finds h) result taken took
    (a.1 ∙ ap (λ (o : Outcome). o.status) same) (a.2 ∙ ap (λ (o : Outcome). grown taken o.out) same)
