-- The lines about sets that are linked, launched and run.
use Rattle.std.specs.Prelude.{ℕ, List, [], ◌∷◌, ◌++◌, flat_map, decimal, codes}
use Rattle.ctw_script.specs.Lines.{spaced, trap_word, reply_line, event_line}
use Rattle.ctw_launch.specs.Launched.{LaunchFault, SegmentOutside, StartTrapped, StartUnfinished, Space, OfElements, OfData}
use Rattle.ctw_moves.specs.Runs.{Told}

-- a set of so many parts that matches
abbrev pub linked_line : ℕ → List ℕ
linked_line parts = spaced (codes "linked" ∷ decimal parts ∷ [])

abbrev pub segment_word : Space → List ℕ
segment_word OfElements = codes "elem"
segment_word OfData = codes "data"

abbrev pub launch_words : LaunchFault → List (List ℕ)
launch_words (SegmentOutside part space index) =
    codes "SegmentOutside" ∷ part ∷ segment_word space ∷ decimal index ∷ []
launch_words (StartTrapped part code) = codes "StartTrapped" ∷ part ∷ trap_word code ∷ []
launch_words (StartUnfinished part) = codes "StartUnfinished" ∷ part ∷ []

-- a set that isn't launched
abbrev pub launch_line : LaunchFault → List ℕ
launch_line fault = spaced (codes "refused" ∷ codes "launch" ∷ launch_words fault)

-- a move's events in their order, and then its reply
abbrev pub told_line : Told → List ℕ
told_line t = flat_map event_line t.events ++ reply_line t.reply

abbrev pub told_lines : List Told → List ℕ
told_lines ts = flat_map told_line ts
