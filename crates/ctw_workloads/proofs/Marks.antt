-- The marks of a workload are read, and say nothing of trust.
use Rattle.std.proofs.Common.{◌≡◌, ℕ, zero, suc, ◌+◌, ◌*◌, ◌<◌, Bool, true, false, List, [], ◌∷◌, ◌++◌, length, map, Some, refl, sym, ap, ◌∙◌, append_assoc, codes, arith, Contains}
use Rattle.std.specs.Prelude.{IsUtf8, ◌==◌, ◌&&◌, ◌||◌}
use Rattle.std.specs.List.{range_with_len}
use Rattle.std.proofs.lemmas.List.Elements.{All-from_recursion}
use Rattle.std.proofs.lemmas.Bool.Decides.{nat_tests}
use Rattle.std.proofs.lemmas.List.FromFn.{length-range_with_len}
use Rattle.std.proofs.lemmas.Str.{IsUtf8-from_ascii}
use Rattle.std.proofs.lemmas.Str.Ascii.{IsAscii-from_all}
use Rattle.ctw_ops.specs.declared.numeric.Profile.{Profile}
use Rattle.ctw_ops.specs.declared.types.Label.{Label}
use Rattle.ctw_ops.specs.declared.types.Label.TheVariants.{Secret}
use Rattle.ctw_ops.specs.declared.types.Trust.{Trust}
use Rattle.ctw_ops.specs.declared.types.Trust.TheVariants.{Untrusted, Trusted}
use Rattle.ctw_ops.specs.Code.{Leaf, Call, Code, Stop, Then, Block, Loop, If, IfElse}
use Rattle.ctw_ops.specs.Tree.{Module, Function, imported_functions, function_entries, global_types, memory_among}
use Rattle.ctw_lex.specs.declared.TokenKind.{TokenKind}
use Rattle.ctw_lex.specs.declared.TokenKind.TheVariants.{Atom, Text}
use Rattle.ctw_lex.specs.Lexeme.{Lexeme}
use Rattle.ctw_lex.specs.Grammar.{IsTokens, done, gap, token, blank, atom, string, IsString, quoted, nothing, itself}
use Rattle.ctw_lex.specs.NumberForms.{one, decimal}
use Rattle.ctw_script.specs.Grammar.{IsName}
use Rattle.ctw_labels.specs.declared.name.SiteName.TheVariants as site
use Rattle.ctw_labels.specs.Names.{Site}
use Rattle.ctw_labels.specs.Order.{name_at}
use Rattle.ctw_labels.specs.SitedModule.{function_sites, bodies, body_sites}
use Rattle.ctw_marks.specs.declared.order.Subject.{Subject}
use Rattle.ctw_marks.specs.declared.order.Subject.TheVariants.{Export}
use Rattle.ctw_marks.specs.declared.order.Spot.TheVariants as spot
use Rattle.ctw_marks.specs.declared.order.Order.{Order}
use Rattle.ctw_marks.specs.declared.order.Order.TheVariants as order
use Rattle.ctw_marks.specs.Grammar as grammar
use Rattle.ctw_marks.specs.Grammar.{IsIndex, IsSubject, IsSpot, IsOrder}
use Rattle.ctw_marks.specs.Meaning.{HasSite, IsTrusted}
use Rattle.ctw_marks.specs.Readings.{MarkList, IsGood, IsReleased, IsReading, AreSame, HasReading, HasFault}
use Rattle.ctw_marks.specs.declared.fault.MarkFault.{MarkFault}
use Rattle.ctw_marks.specs.declared.fault.MarkFault.TheVariants as fault
use Rattle.ctw_labels.specs.Kept.{KeepFunctions, IsKept}
use Rattle.ctw_labels.specs.Points.{Points, Release, no_points, has_number, has_release, trust_at, MayName, KeepsLeaf, KeepsCode}
use Rattle.ctw_labels.specs.Numbering.{sites_for, site_if}
use Rattle.ctw_gen.specs.Workload.{numbered, main, functions, marks}
use Rattle.ctw_workloads.specs.Placed.{workload_under}
use Rattle.ctw_workloads.specs.Marks.{workload_marks}

-- ---- tokens

abbrev lexeme : TokenKind → List ℕ → ℕ → Lexeme
lexeme kind text start = record { kind = kind; text = text; start = start; end = start + length text; line = 1 }

abbrev tokens : List Lexeme
tokens = lexeme Atom (codes "secret") 0 ∷ lexeme Atom (codes "param") 7 ∷ lexeme Text (codes "\"main\"") 13 ∷ lexeme Atom (codes "0") 20 ∷ []

main_string : IsString (codes "\"main\"") (codes "main")
main_string = quoted (itself refl (itself refl (itself refl (itself refl nothing))))

lexed : IsTokens 0 1 marks tokens
lexed =
    token Atom (codes "secret") (codes " param \"main\" 0") (atom (record { passes = refl; ends = refl }))
    (gap (32 ∷ []) (codes "param \"main\" 0") (blank refl)
    (token Atom (codes "param") (codes " \"main\" 0") (atom (record { passes = refl; ends = refl }))
    (gap (32 ∷ []) (codes "\"main\" 0") (blank refl)
    (token Text (codes "\"main\"") (codes " 0") (string main_string) (gap (32 ∷ []) (codes "0") (blank refl) (token Atom (codes "0") [] (atom (record { passes = refl; ends = refl })) done))))))

-- ---- the order

main_utf8 : IsUtf8 (codes "main")
main_utf8 = IsUtf8-from_ascii (codes "main") (IsAscii-from_all (codes "main") (All-from_recursion (λ b. b < 128) (codes "main") (omega arith, (omega arith, (omega arith, (omega arith, tt))))))

name : IsName (lexeme Text (codes "\"main\"") 13) (codes "main")
name = record { bytes = record { kind = refl; spelled = main_string }; utf8 = main_utf8 }

index : IsIndex (lexeme Atom (codes "0") 20) (Some 0)
index = record { kind = refl; value = 0; spelled = decimal (one refl); index = refl }

abbrev asked : Order
asked = order.Label Secret (spot.Param (Export (codes "main")) (Some 0))

read : IsOrder tokens asked
read = grammar.secret (record { kind = refl; text = refl }) (grammar.param (record { kind = refl; text = refl }) (grammar.export name) index)

-- a trusted function is named behind one word
no_trust : (line : List Lexeme) → tokens ≡ line → (s : Subject) → IsOrder line (order.Trust s) → ⊥
no_trust line e s (grammar.trust w f) = cc

only : {A : Type 0} (y x : A) → Contains (y ∷ []) x → y ≡ x
only y x (zero, lt, e) = e
only y x (suc k, lt, e) = absurd (omega arith)

same_number : (n : ℕ) → (n == n) ≡ true
same_number n = grind (arith, nat_tests)

no_release : (x y others : Bool) → x ≡ true → y ≡ true → ((x && y) || others) ≡ false → ⊥
no_release true true others e f g = cc
no_release false y others e f g = cc
no_release true false others e f g = cc

-- ---- nothing is trusted

module _ (p : Points) (untrusted : (f : ℕ) → has_number f p.trusted ≡ false) where
  may_name : (t : Trust) (f : ℕ) → MayName p t f
  may_name Trusted f = tt
  may_name Untrusted f = untrusted f

  kept_leaf : (t : Trust) (i : Leaf Label) → KeepsLeaf p t i
  kept_leaf t (Call f) = may_name t f
  kept_leaf t _ = tt

  kept_code : (t : Trust) (c : Code Label) → KeepsCode p t c
  kept_code t Stop = tt
  kept_code t (Then i rest) = (kept_leaf t i, kept_code t rest)
  kept_code t (Block r body rest) = (kept_code t body, kept_code t rest)
  kept_code t (Loop r body rest) = (kept_code t body, kept_code t rest)
  kept_code t (If r arm rest) = (kept_code t arm, kept_code t rest)
  kept_code t (IfElse r arm other rest) = (kept_code t arm, kept_code t other, kept_code t rest)

  kept_functions : (k : ℕ) (fs : List (Function Label)) → KeepFunctions p k fs
  kept_functions k [] = tt
  kept_functions k (f ∷ fs) = (kept_code (trust_at p k) f.body, kept_functions (k + 1) fs)

-- ---- what it means

module _ (q : Profile) (seed size : ℕ) where
  abbrev m : Module Label
  m = workload_under q seed size

  -- the site of the parameter of `main`, behind the functions of these numbers
  param_there : (k : ℕ) (l : List ℕ) (rest : List Site) → name_at (function_sites m k (map (λ f. f.type) (map (numbered seed) l ++ main size ∷ [])) ++ rest) (3 * length l) ≡ Some (site.Param (k + length l) 0)
  param_there k [] rest = let e : k ≡ k + 0 = omega arith in ap (λ n. Some (site.Param n 0)) e
  param_there k (i ∷ l) rest =
      let behind : List Site = function_sites m k (map (λ f. f.type) (map (numbered seed) (i ∷ l) ++ main size ∷ [])) ++ rest in
      let third : 3 * suc (length l) ≡ suc (suc (suc (3 * length l))) = omega arith in
      let on : k + 1 + length l ≡ k + suc (length l) = omega arith in
      ap (name_at behind) third ∙ param_there (k + 1) l rest ∙ ap (λ n. Some (site.Param n 0)) on

  main_there : HasSite m (site.Param size 0)
  unfolding functions
  main_there =
      let l : List ℕ = range_with_len 0 size in
      let long : length l ≡ size = length-range_with_len 0 size in
      let whole : 0 + length l ≡ size = omega (arith, long) in
      let first : List Site = function_sites m 0 (function_entries m) in
      let heads : List Site = sites_for site.GlobalOf 0 (global_types m) ++ site_if site.Memory (memory_among m.imports m.memory) in
      let others : List Site = body_sites (bodies m no_points) in
      (3 * length l, ap (λ s. name_at s (3 * length l)) (append_assoc first heads others) ∙ param_there 0 l (heads ++ others) ∙ ap (λ n. Some (site.Param n 0)) whole)

  good : IsGood m (tokens ∷ []) tokens asked
  good = record { read = read; placed = (site.Param size 0, (refl, main_there)); covered = tt }

  none_trusted : (f : ℕ) → IsTrusted m (tokens ∷ []) f → ⊥
  none_trusted f h = no_trust h.0 (only tokens h.0 h.1) h.2 h.3

  none_released : (f k : ℕ) → IsReleased m (asked ∷ []) f k → ⊥
  none_released f k h = let e : asked ≡ order.Release h.0 h.1 = only asked (order.Release h.0 h.1) h.2 in cc

  pub marks_read : IsReading m marks (workload_marks size)
  marks_read = record {
    tokens = tokens;
    lexed = lexed;
    orders = asked ∷ [];
    read = (good, tt);
    labels = refl;
    trusted = λ f. (λ e. absurd cc, λ h. absurd (none_trusted f h));
    released = λ f k. (λ e. absurd cc, λ h. absurd (none_released f k h));
  }

  -- ---- faults

  pub never_faulty : (why : MarkFault) → HasFault m marks why → why ≡ fault.NoMemory
  never_faulty (fault.Lex line) h = absurd (h.unread (λ e. cc) (workload_marks size) marks_read)
  never_faulty (fault.Line line) h = absurd (h.unread (λ e. cc) (workload_marks size) marks_read)
  never_faulty (fault.NoPlace line) h = absurd (h.unread (λ e. cc) (workload_marks size) marks_read)
  never_faulty (fault.Untrusted line) h = absurd (h.unread (λ e. cc) (workload_marks size) marks_read)
  never_faulty fault.NoMemory h = refl

  -- ---- every reading

  module _ (l : MarkList) (h : HasReading m marks l) where
    same : AreSame (workload_marks size) l
    same = h.only (workload_marks size) marks_read

    pub labels_are : l.labels ≡ (workload_marks size).labels
    labels_are = sym same.labels

    untrusted : (f : ℕ) → has_number f l.points.trusted ≡ false
    untrusted f = sym (same.trusted f)

    pub none_release : l.points.releases ≡ []
    none_release = from l.points.releases (λ f k. sym (same.released f k))
      where
        from : (rs : List Release) → ((f k : ℕ) → has_release f k rs ≡ false) → rs ≡ []
        from [] e = refl
        from (r ∷ rs) e = let a = same_number r.func in let b = same_number r.at in let c = e r.func r.at in absurd (no_release (r.func == r.func) (r.at == r.at) (has_release r.func r.at rs) a b c)

    pub trust_kept : IsKept m l.points
    trust_kept = record { calls = kept_functions l.points untrusted (length (imported_functions m.imports)) m.functions; tables = tt }
