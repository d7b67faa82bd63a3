-- What the steps of `infer` say, one behind another.
use Rattle.std.proofs.Common.{◌≡◌, ◌≢◌, ℕ, true, false, List, [], Result, Ok, Err, sym, ap, ◌∙◌, subst, cond}
use Rattle.std.specs.Str.{is_utf8}
use Rattle.std.specs.FinMap.{get}
use Rattle.ctw_io.specs.Files.{Files}
use Rattle.ctw_ops.specs.declared.types.Label.{Label}
use Rattle.ctw_ops.specs.declared.numeric.Profile.{Profile}
use Rattle.ctw_ops.specs.Tree.{Module, under}
use Rattle.ctw_form.specs.Spelled.{Spells}
use Rattle.ctw_form.specs.declared.fault.FormFault.{FormFault}
use Rattle.ctw_form.specs.Read.{module_at}
use Rattle.ctw_form.proofs.FileForms.{module_complete}
use Rattle.ctw_write.specs.Canon.{canon}
use Rattle.ctw_labels.specs.SitedModule.{sites}
use Rattle.ctw_sites.specs.Flow.{Flow}
use Rattle.ctw_marks.specs.declared.fault.MarkFault.{MarkFault}
use Rattle.ctw_marks.specs.declared.fault.MarkFault.TheVariants as mark
use Rattle.ctw_marks.specs.Readings.{MarkList, HasReading, HasFault}
use Rattle.ctw_infer.specs.declared.fault.InferFault.{InferFault}
use Rattle.ctw_infer.specs.declared.fault.InferFault.TheVariants as infer
use Rattle.ctw_witness.specs.Lines.{flow_text}
use Rattle.ctw_lines.specs.Lines.{marks_line, infer_line}
use Rattle.ctw_inputs.specs.Saying.{Saying}
use Rattle.ctw_inputs.specs.declared.said.Status.{Status}
use Rattle.ctw_inputs.specs.declared.said.Status.TheVariants.{Done, Refused, NoLabelling}
use Rattle.ctw_inputs.specs.declared.said.Stop.{Stop}
use Rattle.ctw_inputs.specs.declared.said.Stop.TheVariants as stop
use Rattle.ctw_inputs.specs.Outcome.{Outcome, ends}
use Rattle.ctw_inputs.specs.Inputs.{module_limit, marks_limit, on_text, load, read_valid}
use Rattle.ctw_inputs.specs.Settling.{IsStop, SaysAll}
use Rattle.ctwasm_top.specs.Inference.{Found, IsFound, LabelsModule, placed_by, on_labelling, on_marks, labelled_by, inferred}
use Rattle.ctwasm_top.specs.Findings.{OnSaid, SaysNone, GivesLabels, SaysOther, FindsLabels, SaysModule, SaysBytes, SaysFiles}
use Rattle.ctw_modcheck.proofs.Validity.{valid_is_none}
use Rattle.ctwasm_top.proofs.Profiles.{under_ok, module_read_valid}
use Rattle.ctwasm_top.proofs.There.{there, text_there}
use Rattle.ctwasm_top.proofs.Dispatched.{nothing_found}

-- ---- what is said

pub says : (status : Status) (said : Saying) (text wanted : List ℕ) → said ≡ record { status = status; text = text } → text ≡ wanted → SaysAll said (ends status wanted)
says status said text wanted e t = ap (ends status) (sym t) ∙ ap (λ (s : Saying). ends s.status s.text) (sym e)

pub on_said : (P Q : Saying → Type 0) (r : Result Saying Stop) → ((said : Saying) → P said → Q said) → OnSaid r P → OnSaid r Q
on_said P Q (Ok said) f h = f said h
on_said P Q (Err (stop.Says said)) f h = f said h
on_said P Q (Err stop.ReadFault) f h = tt
on_said P Q (Err stop.NoMemory) f h = tt

pub on_stop : (Q : Saying → Type 0) (why : Stop) (o : Outcome) → ((said : Saying) → SaysAll said o → Q said) → IsStop why o → OnSaid (Err why) Q
on_stop Q (stop.Says said) o f h = f said h
on_stop Q stop.ReadFault o f h = tt
on_stop Q stop.NoMemory o f h = tt

-- a step that stops, whatever comes behind it
pub on_stops : {S : Type 0} (Q : Saying → Type 0) (why : Stop) (step : (S → Outcome) → Outcome) → ((said : Saying) → ((go : S → Outcome) → SaysAll said (step go)) → Q said) → ((go : S → Outcome) → IsStop why (step go)) → OnSaid (Err why) Q
on_stops Q (stop.Says said) step f h = f said h
on_stops Q stop.ReadFault step f h = tt
on_stops Q stop.NoMemory step f h = tt

done_refused : Done ≡ Refused → ⊥
done_refused e = cc

-- no step both goes on and stops
pub stops_or_goes : {S : Type 0} (step : (S → Outcome) → Outcome) (x : S) (said : Saying) → ((go : S → Outcome) → step go ≡ go x) → ((go : S → Outcome) → SaysAll said (step go)) → ⊥
stops_or_goes step x said goes stops =
    let a : ends Done [] ≡ ends said.status said.text = sym (goes (λ y. ends Done [])) ∙ stops (λ y. ends Done []) in
    let b : ends Refused [] ≡ ends said.status said.text = sym (goes (λ y. ends Refused [])) ∙ stops (λ y. ends Refused []) in
    done_refused (ap (λ (o : Outcome). o.status) (a ∙ sym b))

-- bytes with which a step goes on are the only ones
same_bytes : (step : (List ℕ → Outcome) → Outcome) (x y : List ℕ) → ((go : List ℕ → Outcome) → step go ≡ go x) → ((go : List ℕ → Outcome) → step go ≡ go y) → x ≡ y
same_bytes step x y f g = ap (λ (o : Outcome). o.out) (sym (f (ends Done)) ∙ g (ends Done))

-- ---- by sites

module _ (m : Module Label) (marks : MarkList) where
  pub labels_flow : (w : Flow) (said : Saying) (text : List ℕ) → LabelsModule m marks (Err (infer.Flow w)) → said ≡ record { status = NoLabelling; text = text } → text ≡ flow_text (sites m) w → GivesLabels m marks (Err (stop.Says said))
  labels_flow w said text h e t = record { fault = infer.Flow w; refused = h; says = λ go. says NoLabelling said text (flow_text (sites m) w) e t }

  pub labels_none : (fault : InferFault) (why : Stop) → LabelsModule m marks (Err fault) → ((go : List Label → Outcome) → IsStop why (on_labelling m (Err fault) go)) → GivesLabels m marks (Err why)
  labels_none fault why h is = on_stops (SaysNone m marks) why (on_labelling m (Err fault)) (λ said s. record { fault = fault; refused = h; says = s }) is

-- ---- by a text

module _ (m : Module Label) (text : List ℕ) where
  -- what is done with the marks of a plain module
  plain_goes : (found : Found) (go : MarkList → List Label → Outcome) → m.ct ≡ false → labelled_by found m go ≡ on_marks found.marks (λ k. on_labelling m found.labels (go k))
  plain_goes found go e = ap (λ b. cond b (ends Refused (infer_line infer.Labelled)) (on_marks found.marks (λ k. on_labelling m found.labels (go k)))) e

  found_labels : (k : MarkList) (labels : Result (List Label) InferFault) → HasReading m text k → LabelsModule m k labels → IsFound m text (record { marks = Ok k; labels = labels })
  found_labels k labels read h = record {
    read = read;
    labelled = λ marks e. let same : k ≡ marks = cc in subst (λ (x : MarkList). LabelsModule m x labels) same h;
  }

  pub text_labelled : (k : MarkList) (labels : List Label) → m.ct ≡ false → HasReading m text k → LabelsModule m k (Ok labels) → FindsLabels m text k labels
  text_labelled k labels plain read h = record { plain = plain; found = found_labels k (Ok labels) read h }

  pub text_none : (k : MarkList) (why : Stop) → m.ct ≡ false → HasReading m text k → GivesLabels m k (Err why) → OnSaid (Err why) (SaysOther m text)
  text_none k why plain read h = on_said (SaysNone m k) (SaysOther m text) (Err why) (λ said n. record {
    found = record { marks = Ok k; labels = Err n.fault };
    is_so = λ e. found_labels k (Err n.fault) read n.refused;
    says = λ go. plain_goes (record { marks = Ok k; labels = Err n.fault }) go plain ∙ n.says (go k);
  }) h

  pub text_unread : (fault : MarkFault) (why : Stop) → m.ct ≡ false → HasFault m text fault → fault ≢ mark.NoMemory → IsStop why (ends Refused (marks_line fault)) → OnSaid (Err why) (SaysOther m text)
  text_unread fault why plain h want is = on_stop (SaysOther m text) why (ends Refused (marks_line fault)) (λ said s. record {
    found = record { marks = Err fault; labels = Err infer.NoMemory };
    is_so = λ e. record { read = (h, want); labelled = λ k q. absurd (err_ok q) };
    says = λ go. plain_goes (record { marks = Err fault; labels = Err infer.NoMemory }) go plain ∙ s;
  }) is
    where
      err_ok : {k : MarkList} → Err fault ≡ Ok k → ⊥
      err_ok q = cc

  pub text_with_labels : (why : Stop) → m.ct ≡ true → IsStop why (ends Refused (infer_line infer.Labelled)) → OnSaid (Err why) (SaysOther m text)
  text_with_labels why ct is = on_stop (SaysOther m text) why (ends Refused (infer_line infer.Labelled)) (λ said s. record {
    found = nothing_found;
    is_so = λ e. absurd (true_false (sym ct ∙ e));
    says = λ go. ap (λ b. cond b (ends Refused (infer_line infer.Labelled)) (on_marks nothing_found.marks (λ k. on_labelling m nothing_found.labels (go k)))) ct ∙ s;
  }) is
    where
      true_false : true ≡ false → ⊥
      true_false q = cc

  -- what `infer` says of a labelling
  pub module_placed : (k : MarkList) (labels : List Label) (said : Saying) (bytes : List ℕ) → FindsLabels m text k labels → said ≡ record { status = Done; text = bytes } → bytes ≡ canon (placed_by m k labels) → SaysModule m text said
  module_placed k labels said bytes h e b = record {
    found = record { marks = Ok k; labels = Ok labels };
    is_so = λ q. h.found;
    says = plain_goes (record { marks = Ok k; labels = Ok labels }) (λ k labels. ends Done (canon (placed_by m k labels))) h.plain ∙ says Done said bytes (canon (placed_by m k labels)) e b;
  }

  pub module_other : (why : Stop) → OnSaid (Err why) (SaysOther m text) → OnSaid (Err why) (SaysModule m text)
  module_other why h = on_said (SaysOther m text) (SaysModule m text) (Err why) (λ said o. record { found = o.found; is_so = o.is_so; says = o.says (λ k labels. ends Done (canon (placed_by m k labels))) }) h

-- ---- by the bytes of files

pub ok_same : (a b : Module Label) (r : Result (Module Label) FormFault) → r ≡ Ok a → r ≡ Ok b → a ≡ b
ok_same a b (Ok m) e f = let x : m ≡ a = cc in let y : m ≡ b = cc in sym x ∙ y
ok_same a b (Err fault) e f = cc

module _ (profile : Profile) (file marks_file bytes marks : List ℕ) where
  pub bytes_not_text : (why : Stop) → ((go : List ℕ → Outcome) → IsStop why (on_text marks_file marks go)) → OnSaid (Err why) (SaysBytes profile file marks_file bytes marks)
  bytes_not_text why is = on_stops (SaysBytes profile file marks_file bytes marks) why (on_text marks_file marks) (λ said s. record {
    found = nothing_found;
    is_so = λ utf t spelled valid plain. absurd (stops_or_goes (on_text marks_file marks) marks said (λ go. text_there marks_file marks go utf) s);
    says = s (λ text. read_valid profile file bytes (inferred nothing_found));
  }) is

  pub bytes_not_valid : (why : Stop) (text : List ℕ) → ((go : List ℕ → Outcome) → on_text marks_file marks go ≡ go text) → ((go : Module Label → Outcome) → IsStop why (read_valid profile file bytes go)) → OnSaid (Err why) (SaysBytes profile file marks_file bytes marks)
  bytes_not_valid why text goes is = on_stops (SaysBytes profile file marks_file bytes marks) why (read_valid profile file bytes) (λ said s. record {
    found = nothing_found;
    is_so = λ utf t spelled valid plain.
        absurd (stops_or_goes (read_valid profile file bytes) (under profile t) said (λ go. module_read_valid profile file bytes (under profile t) go (under_ok profile bytes t (module_complete bytes t spelled)) (valid_is_none (under profile t) valid)) s);
    says = goes (λ text. read_valid profile file bytes (inferred nothing_found)) ∙ s (inferred nothing_found);
  }) is

  pub bytes_labelled : (r : Result Saying Stop) (text : List ℕ) (tree m : Module Label) → ((go : List ℕ → Outcome) → on_text marks_file marks go ≡ go text) → text ≡ marks → ((go : Module Label → Outcome) → read_valid profile file bytes go ≡ go m)
      → Spells bytes tree → m ≡ under profile tree → OnSaid r (SaysModule m text) → OnSaid r (SaysBytes profile file marks_file bytes marks)
  bytes_labelled r text tree m goes same reads spelled own h = on_said (SaysModule m text) (SaysBytes profile file marks_file bytes marks) r (λ said s. record {
    found = s.found;
    is_so = λ utf t spelling valid plain.
        let one : t ≡ tree = same_tree t spelling in
        let is : m ≡ under profile t = own ∙ ap (under profile) (sym one) in
        subst (λ (x : List ℕ). IsFound (under profile t) x s.found) same (subst (λ (x : Module Label). IsFound x text s.found) is (s.is_so (ap (λ (x : Module Label). x.ct) is ∙ plain)));
    says = goes (λ text. read_valid profile file bytes (inferred s.found)) ∙ reads (inferred s.found) ∙ s.says;
  }) h
    where
      same_tree : (t : Module Label) → Spells bytes t → t ≡ tree
      same_tree t spelling = ok_same t tree (module_at bytes) (module_complete bytes t spelling) (module_complete bytes tree spelled)

-- ---- by files

module _ (files : Files) (profile : Profile) (file marks_file : List ℕ) where
  abbrev behind_module : Found → List ℕ → Outcome
  behind_module found bytes = load files marks_file marks_limit (λ marks. on_text marks_file marks (λ text. read_valid profile file bytes (inferred found)))

  pub files_no_module : (why : Stop) → ((go : List ℕ → Outcome) → IsStop why (load files file module_limit go)) → OnSaid (Err why) (SaysFiles files profile file marks_file)
  files_no_module why is = on_stops (SaysFiles files profile file marks_file) why (load files file module_limit) (λ said s. record {
    found = nothing_found;
    is_so = λ h. absurd (stops_or_goes (load files file module_limit) h.bytes said (λ go. there file module_limit (get files file) h.bytes go h.told h.short) s);
    says = s (behind_module nothing_found);
  }) is

  pub files_no_marks : (why : Stop) (bytes : List ℕ) → ((go : List ℕ → Outcome) → load files file module_limit go ≡ go bytes) → ((go : List ℕ → Outcome) → IsStop why (load files marks_file marks_limit go)) → OnSaid (Err why) (SaysFiles files profile file marks_file)
  files_no_marks why bytes goes is = on_stops (SaysFiles files profile file marks_file) why (load files marks_file marks_limit) (λ said s. record {
    found = nothing_found;
    is_so = λ h. absurd (stops_or_goes (load files marks_file marks_limit) h.text said (λ go. there marks_file marks_limit (get files marks_file) h.text go h.text_told h.text_short) s);
    says = goes (behind_module nothing_found) ∙ s (λ marks. on_text marks_file marks (λ text. read_valid profile file bytes (inferred nothing_found)));
  }) is

  pub files_labelled : (r : Result Saying Stop) (bytes marks : List ℕ) → ((go : List ℕ → Outcome) → load files file module_limit go ≡ go bytes) → ((go : List ℕ → Outcome) → load files marks_file marks_limit go ≡ go marks) → OnSaid r (SaysBytes profile file marks_file bytes marks)
      → OnSaid r (SaysFiles files profile file marks_file)
  files_labelled r bytes marks goes also h = on_said (SaysBytes profile file marks_file bytes marks) (SaysFiles files profile file marks_file) r (λ said s. record {
    found = s.found;
    is_so = λ h.
        let own : h.bytes ≡ bytes = same_bytes (load files file module_limit) h.bytes bytes (λ go. there file module_limit (get files file) h.bytes go h.told h.short) goes in
        let text : h.text ≡ marks = same_bytes (load files marks_file marks_limit) h.text marks (λ go. there marks_file marks_limit (get files marks_file) h.text go h.text_told h.text_short) also in
        subst (λ (x : List ℕ). IsFound (under profile h.tree) x s.found) (sym text) (s.is_so (subst (λ (x : List ℕ). is_utf8 x ≡ true) text h.is_text) h.tree (subst (λ (x : List ℕ). Spells x h.tree) own h.spelled) h.valid h.plain);
    says = goes (behind_module s.found) ∙ also (λ marks. on_text marks_file marks (λ text. read_valid profile file bytes (inferred s.found))) ∙ s.says;
  }) h
