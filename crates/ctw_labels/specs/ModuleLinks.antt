-- The links and the public sites of a plain module.
use Rattle.std.specs.Prelude.{ℕ, ◌+◌, map, Bool, true, false, ◌&&◌, if◌then◌else◌, List, [], ◌∷◌, ◌++◌, Option, Some, None, slice_get}
use Rattle.ctw_ops.specs.declared.types.Label.{Label}
use Rattle.ctw_ops.specs.Equal.{same_width}
use Rattle.ctw_ops.specs.Types.{ValueType, FunctionType, VariableType}
use Rattle.ctw_ops.specs.Tree.{Module, Constant, Number, ValueOf, Global, Element}
use Rattle.ctw_ops.specs.Typing.{optional}
use Rattle.ctw_stack.specs.Operands.{fresh}
use Rattle.ctw_labels.specs.Names.{Tag, At, Fixed, SiteName, PushOf, Site}
use Rattle.ctw_labels.specs.Points.{Points, trust_at, is_released}
use Rattle.ctw_labels.specs.Sited.{Lift, Sited, Done, Does, Uses, Blocks, Loops, Ifs, IfElses}
use Rattle.ctw_labels.specs.Links.{Fact, fact, after, facts, facts_of_end, ending, lifts, Link, Must, links_of, links_up, musts_of}
use Rattle.ctw_labels.specs.SitedModule.{SitedBody, site_context, sited_functions, sited_globals, first_defined_global, bodies}

-- ---- table users

-- the types of the indirect calls of a sequence, in order
abbrev pub uses : {S : Type 0} → Sited S → List (FunctionType S)
uses Done = []
uses (Does i l rest) = uses rest
uses (Uses y g l rest) = g ∷ uses rest
uses (Blocks t l body rest) = uses body ++ uses rest
uses (Loops t l body rest) = uses body ++ uses rest
uses (Ifs t l arm rest) = uses arm ++ uses rest
uses (IfElses t l arm other rest) = uses arm ++ (uses other ++ uses rest)

abbrev pub body_uses : List SitedBody → List (FunctionType Tag)
body_uses [] = []
body_uses (b ∷ bs) = uses b.code ++ body_uses bs

abbrev pub entry_users : List (FunctionType Tag) → List ℕ → List (FunctionType Tag)
entry_users functions [] = []
entry_users functions (k ∷ ks) = after (slice_get functions k) (λ g. g ∷ []) ++ entry_users functions ks

abbrev pub element_users : List (FunctionType Tag) → List (Element Label) → List (FunctionType Tag)
element_users functions [] = []
element_users functions (e ∷ es) = entry_users functions e.functions ++ element_users functions es

-- the element entries in order, then the indirect calls in order
abbrev pub users : Module Label → Points → List (FunctionType Tag)
users m p = element_users (sited_functions m) m.elements ++ body_uses (bodies m p)

abbrev pub same_widths : {S T : Type 0} → List (ValueType S) → List (ValueType T) → Bool
same_widths [] [] = true
same_widths (t ∷ ts) (u ∷ us) = same_width t.width u.width && same_widths ts us
same_widths _ _ = false

-- whether two types erase alike
abbrev pub erase_alike : {S T : Type 0} → FunctionType S → FunctionType T → Bool
erase_alike g h = same_widths g.params h.params && same_widths (optional g.result) (optional h.result)

abbrev pub first_alike : {S : Type 0} → FunctionType S → List (FunctionType S) → Option (FunctionType S)
first_alike g [] = None
first_alike g (h ∷ hs) = if erase_alike h g then Some h else first_alike g hs

abbrev pub tag_facts : {S : Type 0} → ℕ → List (ValueType S) → List (ValueType S) → List (Fact S)
tag_facts r (t ∷ ts) (u ∷ us) = fact r t.tag u.tag ++ tag_facts r ts us
tag_facts r _ _ = []

abbrev pub type_facts : {S : Type 0} → ℕ → FunctionType S → FunctionType S → List (Fact S)
type_facts r g h = tag_facts r g.params h.params ++ tag_facts r (optional g.result) (optional h.result)

-- table 11: each user with the first one that erases alike
abbrev pub user_facts : {S : Type 0} → List (FunctionType S) → List (FunctionType S) → List (Fact S)
user_facts all [] = []
user_facts all (g ∷ gs) = after (first_alike g all) (type_facts 11 g) ++ user_facts all gs

-- ---- globals and segments

-- init 12: a global, whose site is `a`, and the one that it begins as
abbrev pub init_fact : List (VariableType Tag) → Tag → Constant Label → List (Fact Tag)
init_fact all a (Number t bits) = []
init_fact all a (ValueOf k) = after (slice_get all k) (λ f. fact 12 f.value.tag a)

abbrev pub init_facts : List (VariableType Tag) → ℕ → List (Global Label) → List (Fact Tag)
init_facts all n [] = []
init_facts all n (g ∷ gs) = init_fact all (At n) g.init ++ init_facts all (n + 1) gs

-- offset 18: a global that is the offset of a segment
abbrev pub offset_fact : List (VariableType Tag) → Constant Label → List (Fact Tag)
offset_fact all (Number t bits) = []
offset_fact all (ValueOf k) = after (slice_get all k) (λ f. fact 18 f.value.tag Fixed)

abbrev pub offset_facts : List (VariableType Tag) → List (Constant Label) → List (Fact Tag)
offset_facts all [] = []
offset_facts all (c ∷ cs) = offset_fact all c ++ offset_facts all cs

-- ---- the module

abbrev pub body_facts : Module Label → Points → SitedBody → List (Fact Tag)
body_facts m p b =
    facts (site_context m (trust_at p b.func) b.type b.locals) b.code fresh
    ++ facts_of_end b.type.result (ending (site_context m (trust_at p b.func) b.type b.locals) b.code fresh)

abbrev pub facts_within : Module Label → Points → List SitedBody → List (Fact Tag)
facts_within m p [] = []
facts_within m p (b ∷ bs) = body_facts m p b ++ facts_within m p bs

abbrev pub lifts_within : List SitedBody → List (Lift Tag)
lifts_within [] = []
lifts_within (b ∷ bs) = lifts b.code ++ lifts_within bs

abbrev pub offsets : Module Label → List (Constant Label)
offsets m = map (λ e. e.offset) m.elements ++ map (λ s. s.offset) m.segments

abbrev pub module_facts : Module Label → Points → List (Fact Tag)
module_facts m p =
    facts_within m p (bodies m p)
    ++ (user_facts (users m p) (users m p)
    ++ (init_facts (sited_globals m) (first_defined_global m) m.globals ++ offset_facts (sited_globals m) (offsets m)))

-- the links with their rules, and the sites that have to be public
abbrev pub links : Module Label → Points → List Link
links m p = links_up (lifts_within (bodies m p)) ++ links_of (module_facts m p)

abbrev pub musts : Module Label → Points → List Must
musts m p = musts_of (module_facts m p)

-- ---- rule 1 by the list of sites

-- from the value's site to the push, but at a release
abbrev pub yield_link : Points → ℕ → SiteName → Option ℕ → List Link
yield_link p n (PushOf f at) (Some y) = if is_released p f at then [] else record { from = y; to = n; rule = 1 } ∷ []
yield_link p n name yields = []

-- of the sites from number `n` on
abbrev pub yield_links : Points → ℕ → List Site → List Link
yield_links p n [] = []
yield_links p n (s ∷ ss) = yield_link p n s.name s.yields ++ yield_links p (n + 1) ss
