use Rattle.std.proofs.Common.{◌≡◌, ◌≤◌, List, length, map, filter_map, string_bytes, ◌∙◌, subst, arith}
use Rattle.std.proofs.lemmas.List.{length-map}
use Rattle.ctw_words.specs.NamedFiles.{named_file}
use Rattle.ctw_inputs.specs.Inputs.{NamedFile}
use Rattle.ctw_words.proofs.WordsRead.{as_many}
use Rattle.ctw_words.proofs.words.PartWords.parts.Goals as goal

pub returns-clause-some : goal.returns-clause-some
returns-clause-some c =
    let words = c.self.inside.words.now in
    let i = c.self.invariant in
    let n : length (filter_map named_file (map string_bytes words)) ≡ length words = as_many named_file (map string_bytes words) i.2 ∙ length-map words string_bytes in
    subst (λ (l : List NamedFile). 1 ≤ length l) c.self.view_is (omega (arith, n, i.0))

pub returns-clause-few : goal.returns-clause-few
returns-clause-few c =
    let words = c.self.inside.words.now in
    let i = c.self.invariant in
    let n : length (filter_map named_file (map string_bytes words)) ≡ length words = as_many named_file (map string_bytes words) i.2 ∙ length-map words string_bytes in
    subst (λ (l : List NamedFile). length l ≤ 64) c.self.view_is (omega (arith, n, i.1))
