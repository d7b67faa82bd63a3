-- Loops that gather imports, elements, and the code of functions.
use Rattle.std.proofs.Common.{◌≡◌, ℕ, suc, ◌+◌, ◌-◌, ◌<◌, ◌≤◌, ◌==◌, Bool, List, [], ◌∷◌, ◌++◌, length, replicate, map, Result, Ok, Err, inl, inr, refl, sym, ap, subst, ◌∙◌, append_assoc, append-nil, arith}
use Rattle.std.proofs.lemmas.List.{length-append, length-replicate}
use Rattle.ctw_ops.specs.declared.types.Label.{Label}
use Rattle.ctw_ops.specs.Code.{Code}
use Rattle.ctw_ops.specs.Tree.{Import, Element, Constant}
use Rattle.ctw_leb.specs.Input.{Input}
use Rattle.ctw_leb.specs.Grammar.{state_after}
use Rattle.ctw_leb.specs.Reading.{WholeReader, chain, refused, times_from, passed}
use Rattle.ctw_leb.proofs.Exact.{ok_is, err_ok, chain_ok, chosen}
use Rattle.ctw_form.specs.declared.fault.FormKind.TheVariants.{CountMismatch}
use Rattle.ctw_form.specs.declared.fault.FormFault.{FormFault}
use Rattle.ctw_form.specs.declared.table.Held.{Held}
use Rattle.ctw_form.specs.declared.slots.LocalRun.{LocalRun}
use Rattle.ctw_form.specs.declared.slots.ElementSlot.{ElementSlot}
use Rattle.ctw_ops.specs.Limits.{most_locals, most_locals_of_all}
use Rattle.ctw_form.specs.Sections.{Group, Entry, locals_of, none_held, held_after}
use Rattle.ctw_form.specs.Spelled.{Count, count_after, code_entry, all_after}
use Rattle.ctw_form.specs.Read.{fault, inside, number_at, vector_at, kept, import_at, imports_at, element_at, group_at, groups_at, form_body_at, sized_at, entry_insides_at, code_entry_at, owed_at, codes_at}
use Rattle.ctw_form.specs.Pieces.{window_at}
use Rattle.ctw_form.specs.Slots.{runs_behind, runs_of, Coded, coded_behind, Headed, headed, headed_behind, element_functions}
use Rattle.ctw_form.specs.declared.lists.ListFault.{ListFault}
use Rattle.ctw_form.specs.declared.lists.ListFault.TheVariants.{Bad, NoMemory}
use Rattle.ctw_form.specs.Gathered.{FailsAs, FailsToo, IsCode}
use Rattle.ctw_form.proofs.SizedWindows.{in_window, sized_window, sized_bad, sized_short}
use Rattle.ctw_form.proofs.Runs.{runs_length}
use Rattle.ctw_form.proofs.Parts.{head_of}
use Rattle.ctw_form.proofs.Listing.{Listed, ListedItems, listed_step, listed_fault, listed_done, items_all, items_step, items_fault, items_done, map_push}

-- ---- imports

pub imports_fault : (ct : Bool) (n : ℕ) (i start : Input) (k : ℕ) (held : Held) (now : Input) (front : List (Import Label)) (f : FormFault)
    → number_at i ≡ Ok (n, start) → k < n → Listed (import_at ct) held_after n none_held start (n - k) held now front → import_at ct held now ≡ Err f → imports_at ct i ≡ Err f
unfolding imports_at
imports_fault ct n i start k held now front f c lt h e =
    let all = listed_fault (import_at ct) held_after n none_held start k held now front f lt h e in
    rw c all

-- ---- elements

headed_push : (before : ℕ) (front : List (Element Label)) (e : Element Label)
    → headed_behind before (front ++ e ∷ []) ≡ headed_behind before front ++ head_of (before + length (element_functions front) + length e.functions) e ∷ []
headed_push before [] e = ap (λ (n : ℕ). head_of n e ∷ []) (omega arith)
headed_push before (d ∷ front) e =
    ap (λ (l : List Headed). head_of (before + length d.functions) d ∷ l)
    (headed_push (before + length d.functions) front e ∙ ap (λ (n : ℕ). headed_behind (before + length d.functions) front ++ head_of n e ∷ []) (omega (arith, length-append d.functions (element_functions front))))

functions_push : (front : List (Element Label)) (e : Element Label) → element_functions (front ++ e ∷ []) ≡ element_functions front ++ e.functions
functions_push [] e = append-nil e.functions
functions_push (d ∷ front) e = ap (λ (l : List ℕ). d.functions ++ l) (functions_push front e) ∙ sym (append_assoc d.functions (element_functions front) e.functions)

pub record ListedElements (ct : Bool) (n : ℕ) (start : Input) (left : ℕ) (now : Input) (slots : List ElementSlot) (functions : List ℕ) : Type 0 where
  pub front : List (Element Label)
  pub listed : ListedItems (element_at ct) n start left now front
  pub slots_are : map headed slots ≡ headed_behind 0 front
  pub functions_are : functions ≡ element_functions front

pub elements_all : (ct : Bool) (n : ℕ) (start : Input) (slots : List ElementSlot) (functions : List ℕ) → slots ≡ [] → functions ≡ [] → ListedElements ct n start n start slots functions
elements_all ct n start slots functions s f = record { front = []; listed = items_all (element_at ct) n start [] refl; slots_are = ap (map headed) s; functions_are = f }

pub elements_step : (ct : Bool) (n : ℕ) (start : Input) (i : ℕ) (now after : Input) (slots more_slots : List ElementSlot) (functions more_functions : List ℕ) (slot : ElementSlot) (e : Element Label)
    → i < n → ListedElements ct n start (n - i) now slots functions → element_at ct now ≡ Ok (e, after) → headed slot ≡ head_of (length more_functions) e → more_functions ≡ functions ++ e.functions → more_slots ≡ slots ++ slot ∷ []
    → ListedElements ct n start (n - (i + 1)) after more_slots more_functions
elements_step ct n start i now after slots more_slots functions more_functions slot e lt h r head f s =
    let size : length more_functions ≡ 0 + length (element_functions h.front) + length e.functions = omega (arith, ap length f, length-append functions e.functions, ap length h.functions_are) in
    record {
      front = h.front ++ e ∷ [];
      listed = items_step (element_at ct) n start i now after h.front (h.front ++ e ∷ []) e lt h.listed r refl;
      slots_are = ap (map headed) s ∙ map_push headed slots slot ∙ ap (λ (l : List Headed). l ++ headed slot ∷ []) h.slots_are
          ∙ ap (λ (x : Headed). headed_behind 0 h.front ++ x ∷ []) (head ∙ ap (λ (n : ℕ). head_of n e) size) ∙ sym (headed_push 0 h.front e);
      functions_are = f ∙ ap (λ (l : List ℕ). l ++ e.functions) h.functions_are ∙ sym (functions_push h.front e);
    }

pub elements_fault : (ct : Bool) (n : ℕ) (i start : Input) (k : ℕ) (now : Input) (slots : List ElementSlot) (functions : List ℕ) (f : FormFault)
    → number_at i ≡ Ok (n, start) → k < n → ListedElements ct n start (n - k) now slots functions → element_at ct now ≡ Err f → vector_at (element_at ct) i ≡ Err f
elements_fault ct n i start k now slots functions f c lt h e = items_fault (element_at ct) n i start k now h.front f c lt h.listed e

pub elements_done : (ct : Bool) (n : ℕ) (i start : Input) (k : ℕ) (now : Input) (slots : List ElementSlot) (functions : List ℕ) → number_at i ≡ Ok (n, start) → n ≤ k → ListedElements ct n start (n - k) now slots functions
    → (l : List (Element Label)) × (vector_at (element_at ct) i ≡ Ok (l, now)) × ((map headed slots ≡ headed_behind 0 l) × (functions ≡ element_functions l))
elements_done ct n i start k now slots functions c le h = (h.front, items_done (element_at ct) n i start k now h.front c le h.listed, (h.slots_are, h.functions_are))

-- ---- groups of locals

count_is : (c : Count) (groups : List Group) → (state_after count_after c groups).all ≡ c.all + length (locals_of groups)
count_is c [] = omega arith
count_is c (g ∷ groups) = omega (arith, count_is (count_after c g) groups, length-append (replicate g.count g.type) (locals_of groups), length-replicate g.count g.type)

runs_push : (c : Count) (front : List Group) (g : Group) → runs_behind c.own (front ++ g ∷ []) ≡ runs_behind c.own front ++ record { end = (state_after count_after c front).own + g.count; ty = g.type } ∷ []
runs_push c [] g = refl
runs_push c (h ∷ front) g = ap (λ (l : List LocalRun). record { end = c.own + h.count; ty = h.type } ∷ l) (runs_push (count_after c h) front g)

abbrev pub no_locals : ℕ → Count
no_locals all = record { own = 0; all = all }

pub record ListedGroups (ct : Bool) (n before : ℕ) (start : Input) (left own all : ℕ) (now : Input) (old runs : List LocalRun) : Type 0 where
  pub front : List Group
  pub listed : Listed (group_at ct) count_after n (no_locals before) start left (record { own = own; all = all }) now front
  pub runs_are : runs ≡ old ++ runs_behind 0 front
  pub own_few : own ≤ most_locals
  pub all_few : all ≤ most_locals_of_all

pub groups_step : (ct : Bool) (n before : ℕ) (start : Input) (i own all more_own more_all : ℕ) (now after : Input) (old runs more : List LocalRun) (g : Group) (run : LocalRun)
    → i < n → ListedGroups ct n before start (n - i) own all now old runs → group_at ct (record { own = own; all = all }) now ≡ Ok (g, after) → run ≡ record { end = own + g.count; ty = g.type } → more ≡ runs ++ run ∷ []
    → more_own ≡ own + g.count → more_all ≡ all + g.count → more_own ≤ most_locals → more_all ≤ most_locals_of_all → ListedGroups ct n before start (n - (i + 1)) more_own more_all after old more
groups_step ct n before start i own all more_own more_all now after old runs more g run lt h e r m o a few_own few_all = record {
  front = h.front ++ g ∷ [];
  listed = listed_step (group_at ct) count_after n (no_locals before) start i (record { own = own; all = all }) (record { own = more_own; all = more_all }) now after h.front (h.front ++ g ∷ []) g lt h.listed e
      (ap (λ (k : ℕ). record { own = k; all = more_all }) o ∙ ap (λ (k : ℕ). record { own = own + g.count; all = k }) a) refl;
  runs_are = m ∙ ap (λ (l : List LocalRun). l ++ run ∷ []) h.runs_are ∙ append_assoc old (runs_behind 0 h.front) (run ∷ [])
      ∙ ap (λ (l : List LocalRun). old ++ l) (ap (λ (x : LocalRun). runs_behind 0 h.front ++ x ∷ []) (r ∙ ap (λ (k : ℕ). record { end = k + g.count; ty = g.type }) (sym (ap (λ (c : Count). c.own) h.listed.state)))
      ∙ sym (runs_push (no_locals before) h.front g));
  own_few = few_own;
  all_few = few_all;
}

pub groups_fault : (ct : Bool) (n before : ℕ) (i start : Input) (k own all : ℕ) (now : Input) (old runs : List LocalRun) (f : FormFault)
    → number_at i ≡ Ok (n, start) → k < n → ListedGroups ct n before start (n - k) own all now old runs → group_at ct (record { own = own; all = all }) now ≡ Err f → groups_at ct before i ≡ Err f
unfolding groups_at
groups_fault ct n before i start k own all now old runs f c lt h e =
    let whole = listed_fault (group_at ct) count_after n (no_locals before) start k (record { own = own; all = all }) now h.front f lt h.listed e in
    rw c whole

pub groups_done : (ct : Bool) (n before : ℕ) (i start : Input) (k own all : ℕ) (now : Input) (old runs : List LocalRun)
    → number_at i ≡ Ok (n, start) → n ≤ k → ListedGroups ct n before start (n - k) own all now old runs → (l : List Group) × (groups_at ct before i ≡ Ok (l, now)) × ((runs ≡ old ++ runs_behind 0 l) × (all ≡ before + length (locals_of l)))
unfolding groups_at
groups_done ct n before i start k own all now old runs c le h =
    let whole = listed_done (group_at ct) count_after n (no_locals before) start k (record { own = own; all = all }) now h.front le h.listed in
    (h.front, rw c whole, (h.runs_are, ap (λ (x : Count). x.all) (sym h.listed.state) ∙ count_is (no_locals before) h.front))

-- ---- code entries

pub refused_ok : {A : Type 0} (r : Result A FormFault) (a : A) → refused inside r ≡ Ok a → r ≡ Ok a
refused_ok (Ok b) a e = cc
refused_ok (Err f) a e = absurd cc

pub sized_found : {A : Type 0} (r : WholeReader A FormFault) (i w mid o : Input) (a : A) → window_at i ≡ Ok (w, mid) → sized_at r i ≡ Ok (a, o) → (o ≡ mid) × (r w ≡ Ok a)
sized_found {A} r i w mid o a e s =
    let one : chain (window_at i) (in_window r) ≡ in_window r (w, mid) = rw e refl in
    let whole : in_window r (w, mid) ≡ Ok (a, o) = sym one ∙ sym (sized_window r i) ∙ s in
    let c = chain_ok (refused inside (r w)) (λ b. Ok (b, mid)) (a, o) whole in
    let p : (c.0, mid) ≡ (a, o) = ok_is {F = FormFault} (c.0, mid) (a, o) c.2 in
    (sym (ap (λ (z : A × Input). z.1) p), refused_ok (r w) a (c.1 ∙ ap (λ (z : A × Input). Ok z.0) p))

entry_found : (ct : Bool) (all : ℕ) (w mid : Input) (groups : List Group) (e : Entry) → groups_at ct all w ≡ Ok (groups, mid) → entry_insides_at ct all w ≡ Ok e → (e.groups ≡ groups) × (e.code ≡ mid.rest)
unfolding entry_insides_at
entry_found ct all w mid groups e g h =
    let rest : chain (kept (form_body_at ct) mid) (λ a. Ok (code_entry groups a)) ≡ Ok e = rw g at h in
    let c = chain_ok (kept (form_body_at ct) mid) (λ a. Ok (code_entry groups a)) e rest in
    let d = chain_ok (form_body_at ct mid) (λ a. Ok (mid.rest, a)) c.0 c.1 in
    let made : code_entry groups c.0 ≡ e = ok_is {F = FormFault} (code_entry groups c.0) e c.2 in
    let bytes : (mid.rest, d.0) ≡ c.0 = ok_is {F = FormFault} (mid.rest, d.0) c.0 d.2 in
    (sym (ap (λ (x : Entry). x.groups) made), sym (ap (λ (x : Entry). x.code) made) ∙ sym (ap (λ (x : List ℕ × Code Label). x.0) bytes))

entry_short : (ct : Bool) (all : ℕ) (w : Input) (f : FormFault) → groups_at ct all w ≡ Err f → entry_insides_at ct all w ≡ Err f
unfolding entry_insides_at
entry_short ct all w f g = rw g refl

pub code_found : (ct : Bool) (all : ℕ) (i w mid now o : Input) (groups : List Group) (old runs : List LocalRun) (slot : Coded) (more : ℕ) (e : Entry)
    → window_at i ≡ Ok (w, mid) → groups_at ct all w ≡ Ok (groups, now) → runs ≡ old ++ runs_behind 0 groups → more ≡ all + length (locals_of groups) → slot.code ≡ now.rest → slot.runs ≡ length runs
    → code_entry_at ct all i ≡ Ok (e, o) → (o ≡ mid) × IsCode old runs all slot more e
unfolding code_entry_at
code_found ct all i w mid now o groups old runs slot more e win g r m c n h =
    let s = sized_found (entry_insides_at ct all) i w mid o e win h in
    let x = entry_found ct all w now groups e g s.1 in (
      s.0,
      record {
        code = c ∙ sym x.1;
        runs = r ∙ ap (λ (l : List Group). old ++ runs_behind 0 l) (sym x.0);
        end = n;
        locals = m ∙ ap (λ (l : List Group). all + length (locals_of l)) (sym x.0);
      },
    )

not_ok : (x : Entry × Input) (read : Result (Entry × Input) FormFault) (f : FormFault) → read ≡ Err f → read ≡ Ok x → ⊥
not_ok x read f h g = err_ok f x (sym h ∙ g)

pub code_no_window : (ct : Bool) (all : ℕ) (i : Input) (f : FormFault) → window_at i ≡ Err f → (x : Entry × Input) → code_entry_at ct all i ≡ Ok x → ⊥
unfolding code_entry_at
code_no_window ct all i f w x h = not_ok x (sized_at (entry_insides_at ct all) i) f (sized_short (entry_insides_at ct all) i f w) h

pub code_no_groups : (ct : Bool) (all : ℕ) (i w mid : Input) (f : FormFault) → window_at i ≡ Ok (w, mid) → groups_at ct all w ≡ Err f → (x : Entry × Input) → code_entry_at ct all i ≡ Ok x → ⊥
unfolding code_entry_at
code_no_groups ct all i w mid f win g x h = not_ok x (sized_at (entry_insides_at ct all) i) (inside f) (sized_bad (entry_insides_at ct all) i w mid f win (entry_short ct all w f g)) h

-- ---- the entries of a code section

coded_push : (before : ℕ) (front : List Entry) (e : Entry) → coded_behind before (front ++ e ∷ []) ≡ coded_behind before front ++ record { code = e.code; runs = before + length (runs_of front) + length (runs_behind 0 e.groups) } ∷ []
coded_push before [] e = ap (λ (n : ℕ). record { code = e.code; runs = n } ∷ []) (omega (arith, runs_length 0 e.groups))
coded_push before (d ∷ front) e =
    ap (λ (l : List Coded). record { code = d.code; runs = before + length d.groups } ∷ l)
    (coded_push (before + length d.groups) front e
    ∙ ap (λ (n : ℕ). coded_behind (before + length d.groups) front ++ record { code = e.code; runs = n } ∷ []) (omega (arith, length-append (runs_behind 0 d.groups) (runs_of front), runs_length 0 d.groups)))

all_runs_push : (front : List Entry) (e : Entry) → runs_of (front ++ e ∷ []) ≡ runs_of front ++ runs_behind 0 e.groups
all_runs_push [] e = append-nil (runs_behind 0 e.groups)
all_runs_push (d ∷ front) e = ap (λ (l : List LocalRun). runs_behind 0 d.groups ++ l) (all_runs_push front e) ∙ sym (append_assoc (runs_behind 0 d.groups) (runs_of front) (runs_behind 0 e.groups))

-- these entries were met, and those that are left complete them
pub record Met (ct : Bool) (whole : List Entry) (o : Input) (left all : ℕ) (now : Input) (slots : List Coded) (runs : List LocalRun) : Type 0 where
  pub front : List Entry
  pub rest : List Entry
  pub all_are : front ++ rest ≡ whole
  pub read : times_from (code_entry_at ct) all_after left all now ≡ Ok (rest, o)
  pub slots_are : slots ≡ coded_behind 0 front
  pub runs_are : runs ≡ runs_of front

pub record ListedCodes (ct : Bool) (n : ℕ) (start : Input) (left all : ℕ) (now : Input) (slots : List Coded) (runs : List LocalRun) : Type 0 where
  pub met : (whole : List Entry) (o : Input) → times_from (code_entry_at ct) all_after n 0 start ≡ Ok (whole, o) → Met ct whole o left all now slots runs
  pub few : all ≤ most_locals_of_all

pub codes_all : (ct : Bool) (n : ℕ) (start : Input) (slots : List Coded) (runs : List LocalRun) → slots ≡ [] → runs ≡ [] → ListedCodes ct n start n 0 start slots runs
codes_all ct n start slots runs s r = record {
  met = λ whole o e. record { front = []; rest = whole; all_are = refl; read = e; slots_are = s; runs_are = r };
  few = omega arith;
}

code_end : (front : List Entry) (runs more_runs : List LocalRun) (all : ℕ) (slot : Coded) (more : ℕ) (e : Entry) → runs ≡ runs_of front → IsCode runs more_runs all slot more e → slot.runs ≡ 0 + length (runs_of front) + length (runs_behind 0 e.groups)
code_end front runs more_runs all slot more e r k = omega (arith, k.end, ap length k.runs, length-append runs (runs_behind 0 e.groups), ap length r)

pub ok_pair : {A B : Type 0} (a c : A) (b d : B) → ◌≡◌ {A = Result (A × B) FormFault} (Ok (a, b)) (Ok (c, d)) → (a ≡ c) × (b ≡ d)
ok_pair {A} {B} a c b d e =
    let p = ok_is {F = FormFault} (a, b) (c, d) e in
    (ap (λ (z : A × B). z.0) p, ap (λ (z : A × B). z.1) p)

whole_push : (front rest whole others : List Entry) (e : Entry) → e ∷ others ≡ rest → front ++ rest ≡ whole → (front ++ e ∷ []) ++ others ≡ whole
whole_push front rest whole others e o w = append_assoc front (e ∷ []) others ∙ ap (λ (l : List Entry). front ++ l) o ∙ w

same_slot : (x : Coded) (e : Entry) (n : ℕ) → x.code ≡ e.code → x.runs ≡ n → x ≡ record { code = e.code; runs = n }
same_slot x e n c r = ap (λ (l : List ℕ). record { code = l; runs = x.runs }) c ∙ ap (λ (m : ℕ). record { code = e.code; runs = m }) r

slots_push : (front : List Entry) (e : Entry) (slots more : List Coded) (slot : Coded) → slots ≡ coded_behind 0 front → more ≡ slots ++ slot ∷ [] → slot.code ≡ e.code → slot.runs ≡ 0 + length (runs_of front) + length (runs_behind 0 e.groups)
    → more ≡ coded_behind 0 (front ++ e ∷ [])
slots_push front e slots more slot s m c n =
    m ∙ ap (λ (l : List Coded). l ++ slot ∷ []) s ∙ ap (λ (x : Coded). coded_behind 0 front ++ x ∷ []) (same_slot slot e (0 + length (runs_of front) + length (runs_behind 0 e.groups)) c n) ∙ sym (coded_push 0 front e)

met_step : (ct : Bool) (whole : List Entry) (o : Input) (left all more : ℕ) (now after : Input) (slots more_slots : List Coded) (runs more_runs : List LocalRun) (slot : Coded)
    → Met ct whole o (suc left) all now slots runs → ((e : Entry) (p : Input) → code_entry_at ct all now ≡ Ok (e, p) → (p ≡ after) × IsCode runs more_runs all slot more e) → more_slots ≡ slots ++ slot ∷ []
    → Met ct whole o left more after more_slots more_runs
met_step ct whole o left all more now after slots more_slots runs more_runs slot h f s =
    let c = chain_ok (code_entry_at ct all now) (λ x. chain (times_from (code_entry_at ct) all_after left (all_after all x.0) x.1) (λ y. Ok (x.0 ∷ y.0, y.1))) (h.rest, o) h.read in
    let e = c.0.0 in
    let k = f e c.0.1 c.1 in
    let d = chain_ok (times_from (code_entry_at ct) all_after left (all_after all e) c.0.1) (λ y. Ok (e ∷ y.0, y.1)) (h.rest, o) c.2 in
    let p = ok_pair (e ∷ d.0.0) h.rest d.0.1 o d.2 in
    let size = code_end h.front runs more_runs all slot more e h.runs_are k.1 in
    record {
      front = h.front ++ e ∷ [];
      rest = d.0.0;
      all_are = whole_push h.front h.rest whole d.0.0 e p.0 h.all_are;
      read = ap (λ (m : ℕ). times_from (code_entry_at ct) all_after left m after) k.1.locals ∙ ap (λ (i : Input). times_from (code_entry_at ct) all_after left (all_after all e) i) (sym k.0)
          ∙ d.1 ∙ ap (λ (z : Input). Ok (d.0.0, z)) p.1;
      slots_are = slots_push h.front e slots more_slots slot h.slots_are s k.1.code size;
      runs_are = k.1.runs ∙ ap (λ (l : List LocalRun). l ++ runs_behind 0 e.groups) h.runs_are ∙ sym (all_runs_push h.front e);
    }

pub codes_step : (ct : Bool) (n : ℕ) (start : Input) (i all more : ℕ) (now after : Input) (slots more_slots : List Coded) (runs more_runs : List LocalRun) (slot : Coded)
    → i < n → ListedCodes ct n start (n - i) all now slots runs → ((e : Entry) (p : Input) → code_entry_at ct all now ≡ Ok (e, p) → (p ≡ after) × IsCode runs more_runs all slot more e) → more ≤ most_locals_of_all → more_slots ≡ slots ++ slot ∷ []
    → ListedCodes ct n start (n - (i + 1)) more after more_slots more_runs
codes_step ct n start i all more now after slots more_slots runs more_runs slot lt h f few s =
    let k : n - i ≡ suc (n - (i + 1)) = omega arith in
    record {
      met = λ whole o e. met_step ct whole o (n - (i + 1)) all more now after slots more_slots runs more_runs slot (subst (λ (j : ℕ). Met ct whole o j all now slots runs) k (h.met whole o e)) f s;
      few = few;
    }

codes_read : (ct : Bool) (owed n : ℕ) (i start o : Input) (l : List Entry) → number_at i ≡ Ok (n, start) → codes_at ct owed i ≡ Ok (l, o) → times_from (code_entry_at ct) all_after n 0 start ≡ Ok (l, o)
unfolding codes_at owed_at
codes_read ct owed n i start o l c e =
    let whole : chain (passed (λ m. m == owed) (fault CountMismatch i.at) (n, start)) (λ x. times_from (code_entry_at ct) all_after x.0 0 x.1) ≡ Ok (l, o) = rw c at e in
    let d = chain_ok (passed (λ m. m == owed) (fault CountMismatch i.at) (n, start)) (λ x. times_from (code_entry_at ct) all_after x.0 0 x.1) (l, o) whole in
    let p : (n, start) ≡ d.0 = tested_is d.0 d.1 in
    ap (λ (x : ℕ × Input). times_from (code_entry_at ct) all_after x.0 0 x.1) p ∙ d.2
  where
    tested_is : (x : ℕ × Input) → passed (λ m. m == owed) (fault CountMismatch i.at) (n, start) ≡ Ok x → (n, start) ≡ x
    tested_is x q = elim (chosen (n == owed) (Ok (n, start)) (Err (fault CountMismatch i.at)) (Ok x) q) [
      | inl t ↦ ok_is {F = FormFault} (n, start) x t.1
      | inr t ↦ absurd (err_ok (fault CountMismatch i.at) x t.1)
    ]

pub codes_no_count : (ct : Bool) (owed : ℕ) (i : Input) (f : FormFault) → number_at i ≡ Err f → (x : List Entry × Input) → codes_at ct owed i ≡ Ok x → ⊥
unfolding codes_at owed_at
codes_no_count ct owed i f c x e =
    let whole : ◌≡◌ {A = Result (List Entry × Input) FormFault} (Err f) (Ok x) = rw c at e in
    err_ok f x whole

pub codes_fault : (ct : Bool) (owed n : ℕ) (i start : Input) (k all : ℕ) (now : Input) (slots : List Coded) (runs : List LocalRun)
    → number_at i ≡ Ok (n, start) → k < n → ListedCodes ct n start (n - k) all now slots runs → ((x : Entry × Input) → code_entry_at ct all now ≡ Ok x → ⊥) → (x : List Entry × Input) → codes_at ct owed i ≡ Ok x → ⊥
codes_fault ct owed n i start k all now slots runs c lt h f x e =
    let l : List Entry = x.0 in
    let o : Input = x.1 in
    let more : n - k ≡ suc (n - (k + 1)) = omega arith in
    let m = h.met l o (codes_read ct owed n i start o l c e) in
    let read : times_from (code_entry_at ct) all_after (suc (n - (k + 1))) all now ≡ Ok (m.rest, o) = subst (λ (j : ℕ). times_from (code_entry_at ct) all_after j all now ≡ Ok (m.rest, o)) more m.read in
    let d = chain_ok (code_entry_at ct all now) (λ x. chain (times_from (code_entry_at ct) all_after (n - (k + 1)) (all_after all x.0) x.1) (λ y. Ok (x.0 ∷ y.0, y.1))) (m.rest, o) read in
    f d.0 d.1

pub codes_done : (ct : Bool) (owed n : ℕ) (i start : Input) (k all : ℕ) (now : Input) (slots : List Coded) (runs : List LocalRun)
    → number_at i ≡ Ok (n, start) → n ≤ k → ListedCodes ct n start (n - k) all now slots runs → (l : List Entry) (o : Input) → codes_at ct owed i ≡ Ok (l, o) → (o ≡ now) × ((slots ≡ coded_behind 0 l) × (runs ≡ runs_of l))
codes_done ct owed n i start k all now slots runs c le h l o e =
    let none : n - k ≡ 0 = omega arith in
    let m = h.met l o (codes_read ct owed n i start o l c e) in
    let read : times_from (code_entry_at ct) all_after 0 all now ≡ Ok (m.rest, o) = subst (λ (j : ℕ). times_from (code_entry_at ct) all_after j all now ≡ Ok (m.rest, o)) none m.read in
    let p : ([], now) ≡ (m.rest, o) = ok_is {F = FormFault} ([], now) (m.rest, o) read in
    let same : m.front ≡ l = sym (append-nil m.front) ∙ ap (λ (z : List Entry × Input). m.front ++ z.0) p ∙ m.all_are in
    (sym (ap (λ (z : List Entry × Input). z.1) p), (m.slots_are ∙ ap (coded_behind 0) same, m.runs_are ∙ ap runs_of same))

-- ---- faults that are handed on

pub code_fails : (ct : Bool) (all : ℕ) (i w mid : Input) (fault : ListFault) → window_at i ≡ Ok (w, mid) → FailsAs fault (groups_at ct all w) → FailsToo fault (code_entry_at ct all i)
code_fails ct all i w mid (Bad f) win g = code_no_groups ct all i w mid f win g
code_fails ct all i w mid NoMemory win g = tt

pub codes_fail : (ct : Bool) (owed n : ℕ) (i start : Input) (k all : ℕ) (now : Input) (slots : List Coded) (runs : List LocalRun) (fault : ListFault)
    → number_at i ≡ Ok (n, start) → k < n → ListedCodes ct n start (n - k) all now slots runs → FailsToo fault (code_entry_at ct all now) → FailsToo fault (codes_at ct owed i)
codes_fail ct owed n i start k all now slots runs (Bad f) c lt h g = codes_fault ct owed n i start k all now slots runs c lt h g
codes_fail ct owed n i start k all now slots runs NoMemory c lt h g = tt

pub elements_fail : (ct : Bool) (n : ℕ) (i start : Input) (k : ℕ) (now : Input) (slots : List ElementSlot) (functions : List ℕ) (fault : ListFault)
    → number_at i ≡ Ok (n, start) → k < n → ListedElements ct n start (n - k) now slots functions → FailsAs fault (element_at ct now) → FailsAs fault (vector_at (element_at ct) i)
elements_fail ct n i start k now slots functions (Bad f) c lt h g = elements_fault ct n i start k now slots functions f c lt h g
elements_fail ct n i start k now slots functions NoMemory c lt h g = tt

pub head_is : (slot : ElementSlot) (e : Element Label) (n : ℕ) → slot.table ≡ e.table → (headed slot).offset ≡ e.offset → slot.functions ≡ n → headed slot ≡ head_of n e
head_is slot e n t o f =
    ap (λ (k : ℕ). record { table = k; offset = (headed slot).offset; functions = slot.functions }) t ∙ ap (λ (c : Constant Label). record { table = e.table; offset = c; functions = slot.functions }) o ∙ ap (λ (k : ℕ). head_of k e) f
