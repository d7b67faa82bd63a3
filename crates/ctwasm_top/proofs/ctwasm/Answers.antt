use Rattle.std.proofs.Common.{map, string_bytes}
use Rattle.ctw_moves.proofs.AlikeMoves.{plays_alike}
use Rattle.ctw_words.specs.Words.{command_of}
use Rattle.ctwasm_top.proofs.Alike.{answer_alike}
use Rattle.ctwasm_top.proofs.Stripped.{runs_stripped, none_released}
use Rattle.ctwasm_top.proofs.Dispatched.{done_answer, done_found, refused_answer, refused_found}
use Rattle.ctwasm_top.proofs.Held.{inputs_held, module_written, held_reading, held_reads, inputs_passed}
use Rattle.ctwasm_top.proofs.Inferred.{words_infer}
use Rattle.ctwasm_top.proofs.Untrusted.{set_untrusted, inferred_keep}
use Rattle.ctwasm_top.proofs.ctwasm.Goals as goal

pub returns-clause-hidden : goal.returns-clause-hidden
returns-clause-hidden g c = λ files others reading found vault word other same. answer_alike (map string_bytes c.args.words.now) reading found vault files others word other same

pub returns-clause-lists : goal.returns-clause-lists
returns-clause-lists g c = λ set s t moves e q. plays_alike set moves s t e q

pub returns-clause-untrusted : goal.returns-clause-untrusted
returns-clause-untrusted g c = λ files reading found e octets finds is bytes untrusted. none_released files octets e (map string_bytes c.args.words.now) reading found finds bytes untrusted is

pub returns-clause-stripped : goal.returns-clause-stripped
returns-clause-stripped g c = λ files reading found e octets finds is bytes. runs_stripped files octets e (map string_bytes c.args.words.now) reading found finds bytes is

pub returns-clause-held : goal.returns-clause-held
returns-clause-held g c = λ files told done.
    let words = map string_bytes c.args.words.now in
    let read = c.dispatch.ensures.read files told done in
    let did = c.dispatch.ensures.did files read.0 told read.1 in
    inputs_held files words read.0 did.found read.1 (done_found words files read.0 _ _ _ _ did done) (done_answer words files read.0 _ _ _ _ did done)

pub returns-clause-written : goal.returns-clause-written
returns-clause-written g c = λ files reading found done. module_written files (map string_bytes c.args.words.now) reading found done

pub returns-clause-complete : goal.returns-clause-complete
returns-clause-complete g c = λ files told holds refused.
    let words = map string_bytes c.args.words.now in
    let reading = held_reading files (command_of words) holds in
    let did = c.dispatch.ensures.did files reading told (held_reads files (command_of words) holds) in
    inputs_passed files words did.found holds (refused_found words files reading _ _ _ _ did refused) (refused_answer words files reading _ _ _ _ did refused)

pub returns-clause-inference : goal.returns-clause-inference
returns-clause-inference g c = λ files profile file marks told is whole h.
    words_infer (map string_bytes c.args.words.now) files profile file marks is h _ _ _ _ whole (λ reading reads. c.dispatch.ensures.did files reading told reads)

pub returns-clause-placed : goal.returns-clause-placed
returns-clause-placed g c = λ set h. set_untrusted set h

pub returns-clause-keeps : goal.returns-clause-keeps
returns-clause-keeps g c = λ files others reading found vault f h word other own theirs. inferred_keep (map string_bytes c.args.words.now) files others reading found vault f h word other own theirs
