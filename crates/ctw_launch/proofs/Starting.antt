-- How the start functions of parts end, one after another.
use Rattle.std.proofs.Common.{◌≡◌, inl, inr, ℕ, List, [], ◌∷◌, ◌++◌, slice_get, Option, Some, None, option_and_then, All, refl, sym, ap, subst, ◌∙◌}
use Rattle.std.specs.Prelude.{IfSome}
use Rattle.std.proofs.lemmas.List.Elements.{All-head, All-tail}
use Rattle.ctw_ops.specs.Types.{FunctionType}
use Rattle.ctw_ops.specs.Tree.{function_entries}
use Rattle.ctw_ops.specs.Valid.{IsStart, IsValid}
use Rattle.ctw_ops.proofs.Lists.{all_get}
use Rattle.ctw_semantics.specs.Stores.{Storage}
use Rattle.ctw_semantics.specs.Instances.{FunctionInstance, Functions}
use Rattle.ctw_semantics.specs.Activations.{Activation}
use Rattle.ctw_semantics.specs.Machine.{begun}
use Rattle.ctw_semantics.specs.Steps as Steps
use Rattle.ctw_semantics.specs.Steps.{Left, Running, Finished, turn}
use Rattle.ctw_semantics.specs.Sound.{Shape, SoundStorage, SoundSet, SoundLeft}
use Rattle.ctw_semantics.proofs.Begun.{begun_sound}
use Rattle.ctw_semantics.proofs.SoundSteps.{turn_sound}
use Rattle.ctw_link.specs.Numbers.{LinkedModule}
use Rattle.ctw_launch.specs.Launched.{SegmentOutside, StartTrapped, StartUnfinished, Started, Stands, Fails, after_start, start_function, start_number, started}
use Rattle.ctw_launch.specs.Outcomes.{StartsWith, PartStarts, AllStart, StartLeaves}
use Rattle.ctw_launch.proofs.Pairs.{paired_get}
use Rattle.ctw_launch.proofs.Leading.{HasNamed, Leads}
use Rattle.ctw_launch.proofs.SoundLaunch.{IsLight, no_params}

module _ (most : ℕ) (fns : Functions) where
  -- what comes of the start functions of parts, from a store on
  abbrev pub Comes : List LinkedModule → Storage → Started → Type 0
  Comes parts s (Stands t) = AllStart most fns parts s t
  Comes parts s (Fails (SegmentOutside name space index)) = ⊥
  Comes parts s (Fails (StartTrapped name code)) = StartLeaves most fns parts s name (Steps.Trapped code)
  Comes parts s (Fails (StartUnfinished name)) = (a : Activation) × StartLeaves most fns parts s name (Running a)

  leaves_later : (q : LinkedModule) (parts : List LinkedModule) (s u : Storage) (name : List ℕ) (l : Left) → PartStarts most fns q s u → StartLeaves most fns parts u name l → StartLeaves most fns (q ∷ parts) s name l
  leaves_later q parts s u name l p h = record {
    before = q ∷ h.before;
    part = h.part;
    behind = h.behind;
    split = ap (λ (l : List LinkedModule). q ∷ l) h.split;
    reached = h.reached;
    ended = (u, p, h.ended);
    named = h.named;
    number = h.number;
    function = h.function;
    starts = h.starts;
    leaves = h.leaves;
  }

  comes_later : (q : LinkedModule) (parts : List LinkedModule) (s u : Storage) (x : Started) → PartStarts most fns q s u → Comes parts u x → Comes (q ∷ parts) s x
  comes_later q parts s u (Stands t) p h = (u, p, h)
  comes_later q parts s u (Fails (SegmentOutside name space index)) p h = h
  comes_later q parts s u (Fails (StartTrapped name code)) p h = leaves_later q parts s u name (Steps.Trapped code) p h
  comes_later q parts s u (Fails (StartUnfinished name)) p h = (h.0, leaves_later q parts s u name (Running h.0) p h.1)

  leaves_here : (q : LinkedModule) (parts : List LinkedModule) (s : Storage) (n : ℕ) (fn : FunctionInstance) (l : Left) → StartsWith most fns q n fn → (turn most fns s (begun n fn [])).left ≡ l → StartLeaves most fns (q ∷ parts) s q.name l
  leaves_here q parts s n fn l w e = record { before = []; part = q; behind = parts; split = refl; reached = s; ended = refl; named = refl; number = n; function = fn; starts = w; leaves = e }

  -- ---- from what comes to the launch

  number_of_start : (q : LinkedModule) (n : ℕ) (fn : FunctionInstance) → StartsWith most fns q n fn → option_and_then (slice_get q.numbers.functions) q.tree.start ≡ Some n
  number_of_start q n fn w = ap (option_and_then (slice_get q.numbers.functions)) w.declared ∙ w.number

  start_called : (q : LinkedModule) (s : Storage) (n : ℕ) (fn : FunctionInstance) (go : Storage → Started) → StartsWith most fns q n fn
      → start_number most fns q.name s (option_and_then (slice_get q.numbers.functions) q.tree.start) go ≡ after_start q.name (turn most fns s (begun n fn [])).storage (turn most fns s (begun n fn [])).left go
  start_called q s n fn go w =
      ap (λ (o : Option ℕ). start_number most fns q.name s o go) (number_of_start q n fn w) ∙ ap (λ (o : Option FunctionInstance). start_function most fns q.name s n o go) w.instance

  part_passes : (q : LinkedModule) (s u : Storage) (go : Storage → Started) → PartStarts most fns q s u → start_number most fns q.name s (option_and_then (slice_get q.numbers.functions) q.tree.start) go ≡ go u
  part_passes q s u go (inl h) = ap (λ (o : Option ℕ). start_number most fns q.name s (option_and_then (slice_get q.numbers.functions) o) go) h.0 ∙ ap go h.1
  part_passes q s u go (inr h) =
      start_called q s h.number h.function go h.starts
      ∙ ap (λ (l : Left). after_start q.name (turn most fns s (begun h.number h.function [])).storage l go) h.left
      ∙ ap go h.storage

  pub all_stand : (parts : List LinkedModule) (s t : Storage) → AllStart most fns parts s t → started most fns parts s ≡ Stands t
  all_stand [] s t h = ap Stands h
  all_stand (q ∷ parts) s t h = part_passes q s h.0 (started most fns parts) h.1 ∙ all_stand parts h.0 t h.2

  passed : (before behind : List LinkedModule) (s u : Storage) → AllStart most fns before s u → started most fns (before ++ behind) s ≡ started most fns behind u
  passed [] behind s u h = ap (started most fns behind) h
  passed (q ∷ before) behind s u h = part_passes q s h.0 (started most fns (before ++ behind)) h.1 ∙ passed before behind h.0 u h.2

  left_fails : (parts : List LinkedModule) (s : Storage) (name : List ℕ) (l : Left) (x : Started) → ((n : List ℕ) (t : Storage) (go : Storage → Started) → n ≡ name → after_start n t l go ≡ x) → StartLeaves most fns parts s name l → started most fns parts s ≡ x
  left_fails parts s name l x k h =
      ap (λ (ps : List LinkedModule). started most fns ps s) h.split ∙ passed h.before (h.part ∷ h.behind) s h.reached h.ended
      ∙ start_called h.part h.reached h.number h.function (started most fns h.behind) h.starts
      ∙ ap (λ (l : Left). after_start h.part.name (turn most fns h.reached (begun h.number h.function [])).storage l (started most fns h.behind)) h.leaves
      ∙ k h.part.name (turn most fns h.reached (begun h.number h.function [])).storage (started most fns h.behind) h.named

  pub comes_started : (parts : List LinkedModule) (s : Storage) (x : Started) → Comes parts s x → started most fns parts s ≡ x
  comes_started parts s (Stands t) h = all_stand parts s t h
  comes_started parts s (Fails (SegmentOutside name space index)) h = absurd h
  comes_started parts s (Fails (StartTrapped name code)) h = left_fails parts s name (Steps.Trapped code) (Fails (StartTrapped name code)) (λ n t go e. ap (λ (n : List ℕ). Fails (StartTrapped n code)) e) h
  comes_started parts s (Fails (StartUnfinished name)) h = left_fails parts s name (Running h.0) (Fails (StartUnfinished name)) (λ n t go e. ap (λ (n : List ℕ). Fails (StartUnfinished n)) e) h.1

  -- ---- from the launch to what comes

  module _ (shape : Shape) (set : SoundSet fns shape) (light : All IsLight fns) where
    -- a start function over a sound store, and the parts behind
    called_comes : (q : LinkedModule) (parts : List LinkedModule) (s : Storage) (n : ℕ) (fn : FunctionInstance) → StartsWith most fns q n fn → (l : Left) → (turn most fns s (begun n fn [])).left ≡ l
        → SoundLeft fns shape fn.type.result l → Comes parts (turn most fns s (begun n fn [])).storage (started most fns parts (turn most fns s (begun n fn [])).storage)
        → Comes (q ∷ parts) s (after_start q.name (turn most fns s (begun n fn [])).storage l (started most fns parts))
    called_comes q parts s n fn w (Running a) e sl h = (a, leaves_here q parts s n fn (Running a) w e)
    called_comes q parts s n fn w (Finished v) e sl h =
        comes_later q parts s (turn most fns s (begun n fn [])).storage (started most fns parts (turn most fns s (begun n fn [])).storage)
        (inr (record { number = n; function = fn; starts = w; value = v; left = e; storage = refl })) h
    called_comes q parts s n fn w (Steps.Trapped code) e sl h = leaves_here q parts s n fn (Steps.Trapped code) w e
    called_comes q parts s n fn w Steps.Stuck e sl h = absurd sl

    part_comes : (q : LinkedModule) (parts : List LinkedModule) (s : Storage) → Leads fns shape q → SoundStorage shape s → ((t : Storage) → SoundStorage shape t → Comes parts t (started most fns parts t))
        → (o : Option ℕ) → q.tree.start ≡ o → IfSome o (IsStart q.tree) → Comes (q ∷ parts) s (start_number most fns q.name s (option_and_then (slice_get q.numbers.functions) o) (started most fns parts))
    part_comes q parts s lead ss rest None e v = comes_later q parts s s (started most fns parts s) (inl (e, refl)) (rest s ss)
    part_comes q parts s lead ss rest (Some f) e v =
        let at = paired_get (HasNamed fns q.tree) (function_entries q.tree) q.numbers.functions f v.0 lead.functions v.1 in
        let n : ℕ = at.0 in
        let fn : FunctionInstance = at.2.0 in
        let w : StartsWith most fns q n fn = record { index = f; declared = e; number = at.1; instance = at.2.1 } in
        let plain = ap (λ (t : FunctionType _). t.params) at.2.2 ∙ v.2 in
        let call = begun_sound fns shape set n fn [] at.2.1 (no_params most fns shape set light s fn.type.params plain) (all_get IsLight fns n fn light at.2.1) in
        let x = turn_sound fns shape fn.type.result set most s (begun n fn []) ss call in
        let comes = called_comes q parts s n fn w (turn most fns s (begun n fn [])).left refl x.left (rest (turn most fns s (begun n fn [])).storage x.storage) in
        subst (Comes (q ∷ parts) s) (sym (ap (λ (o : Option ℕ). start_number most fns q.name s o (started most fns parts)) at.1 ∙ ap (λ (o : Option FunctionInstance). start_function most fns q.name s n o (started most fns parts)) at.2.1)) comes

    pub started_comes : (parts : List LinkedModule) → All (Leads fns shape) parts → All (λ q. IsValid q.tree) parts → (s : Storage) → SoundStorage shape s → Comes parts s (started most fns parts s)
    started_comes [] l v s ss = refl
    started_comes (q ∷ parts) l v s ss =
        let valid = All-head (λ (q : LinkedModule). IsValid q.tree) q parts v in
        part_comes q parts s (All-head (Leads fns shape) q parts l) ss (started_comes parts (All-tail (Leads fns shape) q parts l) (All-tail (λ (q : LinkedModule). IsValid q.tree) q parts v)) q.tree.start refl valid.around.start
