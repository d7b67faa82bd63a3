-- Where the sites of bodies begin.
use Rattle.std.specs.Prelude.{ℕ, ◌+◌, List, [], ◌∷◌, length}
use Rattle.ctw_labels.specs.SitedModule.{SitedBody}

-- the first sites of bodies one after another, where the first one's begin at `n`
abbrev pub starts_from : ℕ → List SitedBody → List ℕ
starts_from n [] = []
starts_from n (b ∷ bs) = n ∷ starts_from (n + length b.sites) bs
