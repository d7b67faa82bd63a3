-- The lines that tell a flow.
use Rattle.std.specs.Prelude.{ℕ, ◌==◌, List, [], ◌∷◌, ◌++◌, Option, Some, None, option_map, slice_get, unwrap_or, map, decimal, codes, drop, if◌then◌else◌}
use Rattle.ctw_script.specs.Lines.{blank_before_each}
use Rattle.ctw_labels.specs.declared.name.SiteName.{SiteName}
use Rattle.ctw_labels.specs.declared.name.SiteName.TheVariants.{Param, Result, GlobalOf, Memory, Local, Block, Op, Push, IParam, IResult}
use Rattle.ctw_labels.specs.Names.{Site}
use Rattle.ctw_labels.specs.Order.{name_at}
use Rattle.ctw_sites.specs.Flow.{Flow}

-- the words of the rules of links, from 1 to 12, and of the rules by which a site is public, from 13 to 18
abbrev pub rule_text : ℕ → List ℕ
rule_text n =
    if n == 1 then codes "yield"
    else if n == 2 then codes "operand"
    else if n == 3 then codes "select"
    else if n == 4 then codes "local"
    else if n == 5 then codes "global"
    else if n == 6 then codes "memory"
    else if n == 7 then codes "argument"
    else if n == 8 then codes "branch"
    else if n == 9 then codes "targets"
    else if n == 10 then codes "leave"
    else if n == 11 then codes "table"
    else if n == 12 then codes "init"
    else if n == 13 then codes "condition"
    else if n == 14 then codes "index"
    else if n == 15 then codes "address"
    else if n == 16 then codes "divide"
    else if n == 17 then codes "grow"
    else if n == 18 then codes "offset"
    else codes "marked"

abbrev pub numbered : List ℕ → List ℕ → List ℕ
numbered word numbers = word ++ blank_before_each (map decimal numbers)

-- a site's name
abbrev pub site_text : SiteName → List ℕ
site_text (Param f i) = numbered (codes "param") (f ∷ i ∷ [])
site_text (Result f) = numbered (codes "result") (f ∷ [])
site_text (GlobalOf g) = numbered (codes "global") (g ∷ [])
site_text Memory = numbered (codes "memory") []
site_text (Local f i) = numbered (codes "local") (f ∷ i ∷ [])
site_text (Block f at) = numbered (codes "block") (f ∷ at ∷ [])
site_text (Op f at) = numbered (codes "op") (f ∷ at ∷ [])
site_text (Push f at) = numbered (codes "push") (f ∷ at ∷ [])
site_text (IParam f at i) = numbered (codes "iparam") (f ∷ at ∷ i ∷ [])
site_text (IResult f at) = numbered (codes "iresult") (f ∷ at ∷ [])

abbrev pub site_line : SiteName → List ℕ → List ℕ
site_line name why = site_text name ++ codes " because " ++ why ++ 10 ∷ []

-- the name of the site of a number; of the memory where there is no such site
abbrev pub name_of : List Site → ℕ → SiteName
name_of sites n = unwrap_or (name_at sites n) Memory

-- a line for each site, by the rule of the link to it
abbrev pub next_lines : List Site → List ℕ → List ℕ → List ℕ
next_lines sites (n ∷ ns) (r ∷ rs) = site_line (name_of sites n) (rule_text r) ++ next_lines sites ns rs
next_lines sites _ _ = []

abbrev pub first_line : List Site → List ℕ → List ℕ
first_line sites [] = []
first_line sites (n ∷ ns) = site_line (name_of sites n) (codes "marked")

-- all lines of a flow
abbrev pub flow_text : List Site → Flow → List ℕ
flow_text sites w =
    codes "no labelling\n"
    ++ (first_line sites w.sites
    ++ (next_lines sites (drop 1 w.sites) w.rules ++ (codes "public because " ++ (rule_text w.last ++ codes "\n"))))
