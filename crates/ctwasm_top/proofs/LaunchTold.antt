-- What a fault of a launch tells in words.
use Rattle.std.proofs.Common.{◌≡◌, ℕ, List, [], ◌∷◌, ◌++◌, option_map, Result, OnOk, refl, ap, ◌∙◌, decimal, codes}
use Rattle.std.proofs.lemmas.Option.{slice_get-map}
use Rattle.ctw_ops.specs.declared.fault.Space.{Space}
use Rattle.ctw_ops.specs.declared.fault.Space.TheVariants as space
use Rattle.ctw_script.specs.declared.trap.TrapCode.{TrapCode}
use Rattle.ctw_script.specs.Lines.{blank_before_each, trap_word}
use Rattle.ctw_link.specs.declared.set.Part.{Part}
use Rattle.ctw_link.specs.Sets.{part_in, set_of}
use Rattle.ctw_launch.specs.Launched as Launched
use Rattle.ctw_lines.specs.Lines.{space_word}
use Rattle.ctw_lines.proofs.WordsText.{more_words, words_added, first_words}
use Rattle.ctw_inputs.specs.Lines.{name_or_empty, part_name}
use Rattle.ctw_session.specs.declared.fault.LaunchFault.TheVariants.{SegmentOutside, StartTrapped, StartUnfinished}
use Rattle.ctw_session.specs.Launches.{IsNamed, TellsFault}
use Rattle.ctwasm_top.specs.Lines.{launch_words}

-- the name of the part of an index
name_is : (set : List Part) (part : ℕ) (name : List ℕ) → IsNamed set part name → part_name (set_of set) part ≡ name
name_is set part name n = ap name_or_empty (slice_get-map part_in set part ∙ ap (option_map part_in) n.1) ∙ n.2

segment_told : (set : List Part) (part : ℕ) (s : Space) (index : ℕ) (f : Launched.LaunchFault) → TellsFault set (SegmentOutside part s index) f
    → codes "SegmentOutside" ∷ part_name (set_of set) part ∷ space_word s ∷ decimal index ∷ [] ≡ launch_words f
segment_told set part space.Elements index (Launched.SegmentOutside name Launched.OfElements i) t = ap (λ (w : List ℕ). codes "SegmentOutside" ∷ w ∷ codes "elem" ∷ decimal index ∷ []) (name_is set part name t.0) ∙ ap (λ (k : ℕ). codes "SegmentOutside" ∷ name ∷ codes "elem" ∷ decimal k ∷ []) t.1
segment_told set part space.Segments index (Launched.SegmentOutside name Launched.OfData i) t = ap (λ (w : List ℕ). codes "SegmentOutside" ∷ w ∷ codes "data" ∷ decimal index ∷ []) (name_is set part name t.0) ∙ ap (λ (k : ℕ). codes "SegmentOutside" ∷ name ∷ codes "data" ∷ decimal k ∷ []) t.1
segment_told set part _ index _ t = absurd t

trap_told : (set : List Part) (part : ℕ) (code : TrapCode) (f : Launched.LaunchFault) → TellsFault set (StartTrapped part code) f
    → codes "StartTrapped" ∷ part_name (set_of set) part ∷ trap_word code ∷ [] ≡ launch_words f
trap_told set part code (Launched.StartTrapped name c) t = ap (λ (w : List ℕ). codes "StartTrapped" ∷ w ∷ trap_word code ∷ []) (name_is set part name t.0) ∙ ap (λ (c : TrapCode). codes "StartTrapped" ∷ name ∷ trap_word c ∷ []) t.1
trap_told set part code _ t = absurd t

unfinished_told : (set : List Part) (part : ℕ) (f : Launched.LaunchFault) → TellsFault set (StartUnfinished part) f
    → codes "StartUnfinished" ∷ part_name (set_of set) part ∷ [] ≡ launch_words f
unfinished_told set part (Launched.StartUnfinished name) t = ap (λ (w : List ℕ). codes "StartUnfinished" ∷ w ∷ []) (name_is set part name t)
unfinished_told set part _ t = absurd t

-- ---- the words behind a line

module _ {E : Type 0} (r : Result (Unit {0}) E) (set : List Part) (part : ℕ) (f : Launched.LaunchFault) (name line new : List ℕ) (named : name ≡ part_name (set_of set) part) where
  pub segment_line : (s : Space) (index : ℕ) (l1 l2 : List ℕ) → TellsFault set (SegmentOutside part s index) f
      → l1 ≡ line ++ blank_before_each (codes "SegmentOutside" ∷ name ∷ []) → l2 ≡ l1 ++ blank_before_each (space_word s ∷ []) → OnOk r (new ≡ l2 ++ blank_before_each (decimal index ∷ []))
      → OnOk r (new ≡ line ++ blank_before_each (launch_words f))
  segment_line s index l1 l2 t e1 e2 e3 =
      more_words r line new l2 (codes "SegmentOutside" ∷ name ∷ space_word s ∷ []) (decimal index ∷ []) (launch_words f)
      (words_added line l2 l1 (codes "SegmentOutside" ∷ name ∷ []) (space_word s ∷ []) (codes "SegmentOutside" ∷ name ∷ space_word s ∷ []) e1 e2 refl) e3
      (ap (λ (w : List ℕ). codes "SegmentOutside" ∷ w ∷ space_word s ∷ decimal index ∷ []) named ∙ segment_told set part s index f t)

  pub trap_line : (code : TrapCode) (word l1 : List ℕ) → TellsFault set (StartTrapped part code) f → word ≡ trap_word code
      → l1 ≡ line ++ blank_before_each (codes "StartTrapped" ∷ name ∷ []) → OnOk r (new ≡ l1 ++ blank_before_each (word ∷ []))
      → OnOk r (new ≡ line ++ blank_before_each (launch_words f))
  trap_line code word l1 t w e1 e2 =
      more_words r line new l1 (codes "StartTrapped" ∷ name ∷ []) (word ∷ []) (launch_words f) e1 e2
      (ap (λ (w : List ℕ). codes "StartTrapped" ∷ name ∷ w ∷ []) w ∙ ap (λ (n : List ℕ). codes "StartTrapped" ∷ n ∷ trap_word code ∷ []) named ∙ trap_told set part code f t)

  pub unfinished_line : TellsFault set (StartUnfinished part) f → OnOk r (new ≡ line ++ blank_before_each (codes "StartUnfinished" ∷ name ∷ []))
      → OnOk r (new ≡ line ++ blank_before_each (launch_words f))
  unfinished_line t e = first_words r line new (codes "StartUnfinished" ∷ name ∷ []) (launch_words f) e (ap (λ (n : List ℕ). codes "StartUnfinished" ∷ n ∷ []) named ∙ unfinished_told set part f t)
