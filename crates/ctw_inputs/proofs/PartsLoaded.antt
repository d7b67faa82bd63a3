-- Parts whose files are loaded one after another.
use Rattle.std.proofs.Common.{◌≡◌, ℕ, ◌+◌, ◌-◌, ◌≤◌, ◌<◌, min, take, drop, get_or, add-one, Bool, true, false, List, [], ◌∷◌, ◌++◌, append_assoc, map, length, nat_le, cond, refl, sym, ap, ◌∙◌, subst, arith}
use Rattle.std.proofs.Math.Path.{fun_ext}
use Rattle.std.proofs.lemmas.Bool.{leb-true, leb-false}
use Rattle.std.proofs.Math.Seq.{drop-cons, take-suc}
use Rattle.std.proofs.lemmas.List.{map-append, append-nil, drop_all}
use Rattle.std.proofs.lemmas.List.Sums.{sum_by_push}
use Rattle.ctw_io.specs.Files.{Files}
use Rattle.ctw_inputs.specs.declared.said.Stop.{Stop}
use Rattle.ctw_inputs.specs.declared.parts.PartFile.{PartFile}
use Rattle.ctw_inputs.specs.declared.parts.LoadedPart.{LoadedPart}
use Rattle.ctw_inputs.specs.Outcome.{Outcome}
use Rattle.ctw_inputs.specs.Inputs.{at_most, module_limit, modules_limit, load, load_modules}
use Rattle.ctw_inputs.specs.Parts.{part_named, contents, bytes_in}
use Rattle.ctw_inputs.specs.Settling.{IsStop}

module_limit_is : 67108864 ≡ module_limit
unfolding module_limit
module_limit_is = refl

modules_limit_is : 134217728 ≡ modules_limit
unfolding modules_limit
modules_limit_is = refl

-- ---- the limit on a file

smaller : (a b : ℕ) → min a b ≡ at_most a b
smaller a b = at (nat_le a b) refl
  where
    at : (t : Bool) → nat_le a b ≡ t → min a b ≡ cond t a b
    at true e = let h = leb-true a b e in omega (arith, h)
    at false e = let h = leb-false a b e in omega (arith, h)

limit_is : (left : ℕ) → min 67108864 left ≡ at_most module_limit left
limit_is left = smaller 67108864 left ∙ ap (λ (limit : ℕ). at_most limit left) module_limit_is

-- ---- parts that are loaded

pub parts_more : (parts : List PartFile) (loaded new : List LoadedPart) (i : ℕ) (d : PartFile) (p : LoadedPart) → new ≡ loaded ++ p ∷ [] → p.part ≡ get_or parts i d → i < length parts → map (λ p. p.part) loaded ≡ take i parts
    → map (λ p. p.part) new ≡ take (i + 1) parts
parts_more parts loaded new i d p n q h e =
    ap (map (λ (p : LoadedPart). p.part)) n ∙ map-append (λ (p : LoadedPart). p.part) loaded (p ∷ []) ∙ ap (λ (l : List PartFile). l ++ p.part ∷ []) e ∙ ap (λ (x : PartFile). take i parts ++ x ∷ []) q
    ∙ sym (take-suc parts i d h) ∙ ap (λ (k : ℕ). take k parts) (sym (add-one i))

pub left_more : (loaded new : List LoadedPart) (p : LoadedPart) (left long limit : ℕ) → new ≡ loaded ++ p ∷ [] → long ≡ length p.bytes.items → length p.bytes.items ≤ limit → limit ≡ min 67108864 left → left + bytes_in loaded ≡ 134217728
    → left - long + bytes_in new ≡ 134217728
left_more loaded new p left long limit n e h el et =
    let total : bytes_in new ≡ bytes_in loaded + length p.bytes.items = ap bytes_in n ∙ sum_by_push (λ (p : LoadedPart). length p.bytes.items) loaded p in
    omega (arith, total, e, h, el, et)

-- ---- the step that loads them

-- what follows the parts that are loaded
abbrev pub behind : List LoadedPart → (List (List ℕ) → Outcome) → List (List ℕ) → Outcome
behind loaded go others = go (contents loaded ++ others)

-- the step goes on behind the parts that are loaded, with so many bytes left
abbrev pub GoesOn : Files → List PartFile → List LoadedPart → ℕ → ℕ → Type 0
GoesOn files parts loaded i left =
    (go : List (List ℕ) → Outcome) → load_modules files 134217728 (map part_named parts) go ≡ load_modules files left (map part_named (drop i parts)) (behind loaded go)

within_limit : (files : Files) (parts : List PartFile) (go : List (List ℕ) → Outcome) → load_modules files modules_limit (map part_named parts) go ≡ load_modules files 134217728 (map part_named parts) go
within_limit files parts go = ap (λ (n : ℕ). load_modules files n (map part_named parts) go) (sym modules_limit_is)

module _ (files : Files) (parts : List PartFile) (loaded : List LoadedPart) (i left limit : ℕ) (d : PartFile) (h : i < length parts) (el : limit ≡ min 67108864 left) where
  -- what follows the next file
  abbrev behind_file : (List (List ℕ) → Outcome) → List ℕ → Outcome
  behind_file go bytes = load_modules files (left - length bytes) (map part_named (drop (i + 1) parts)) (λ others. behind loaded go (bytes ∷ others))

  next : (go : List (List ℕ) → Outcome) → load_modules files left (map part_named (drop i parts)) (behind loaded go) ≡ load files (get_or parts i d).file.now limit (behind_file go)
  next go =
      ap (λ (l : List PartFile). load_modules files left (map part_named l) (behind loaded go)) (drop-cons parts i d h ∙ ap (λ (k : ℕ). get_or parts i d ∷ drop k parts) (sym (add-one i)))
      ∙ ap (λ (n : ℕ). load files (get_or parts i d).file.now n (behind_file go)) (sym (el ∙ limit_is left))

  pub goes_on : (new : List LoadedPart) (p : LoadedPart) (long : ℕ) → new ≡ loaded ++ p ∷ [] → long ≡ length p.bytes.items → GoesOn files parts loaded i left
      → ((go : List ℕ → Outcome) → load files (get_or parts i d).file.now limit go ≡ go p.bytes.items) → GoesOn files parts new (i + 1) (left - long)
  goes_on new p long n e g told = λ go.
      let same : contents new ≡ contents loaded ++ p.bytes.items ∷ [] = ap contents n ∙ map-append (λ (p : LoadedPart). p.bytes.items) loaded (p ∷ []) in
      let more : (others : List (List ℕ)) → contents loaded ++ p.bytes.items ∷ others ≡ contents new ++ others =
      λ others. sym (append_assoc (contents loaded) (p.bytes.items ∷ []) others) ∙ ap (λ (l : List (List ℕ)). l ++ others) (sym same) in
      g go ∙ next go ∙ told (behind_file go)
      ∙ ap (load_modules files (left - length p.bytes.items) (map part_named (drop (i + 1) parts))) (fun_ext (λ others. ap go (more others)))
      ∙ ap (λ (n : ℕ). load_modules files (left - n) (map part_named (drop (i + 1) parts)) (behind new go)) (sym e)

  pub stops : (why : Stop) → GoesOn files parts loaded i left → ((go : List ℕ → Outcome) → IsStop why (load files (get_or parts i d).file.now limit go)) → (go : List (List ℕ) → Outcome) → IsStop why (load_modules files modules_limit (map part_named parts) go)
  stops why g told go = subst (IsStop why) (sym (within_limit files parts go ∙ g go ∙ next go)) (told (behind_file go))

pub ends_loading : (files : Files) (parts : List PartFile) (loaded : List LoadedPart) (i left : ℕ) → length parts ≤ i → GoesOn files parts loaded i left → (go : List (List ℕ) → Outcome) → load_modules files modules_limit (map part_named parts) go ≡ go (contents loaded)
ends_loading files parts loaded i left h g go =
    within_limit files parts go ∙ g go ∙ ap (λ (l : List PartFile). load_modules files left (map part_named l) (behind loaded go)) (drop_all i parts h) ∙ ap go (append-nil (contents loaded))
