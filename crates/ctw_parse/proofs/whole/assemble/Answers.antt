use Rattle.ctw_text.specs.Fields.{fields_of}
use Rattle.ctw_text.specs.Toks.{toks_of}
use Rattle.ctw_parse.proofs.Nested.{fields_nest}
use Rattle.ctw_parse.proofs.Tokens.{toks_good}
use Rattle.ctw_parse.proofs.NarrowTexts.{narrow_text}
use Rattle.ctw_parse.proofs.LastPasses.{if_ok, is_assembly, same_named, spelled_named}
use Rattle.ctw_parse.proofs.Fitted.{fields_written}
use Rattle.ctw_parse.proofs.PlainTexts.{fields_told}
use Rattle.ctw_parse.proofs.PlainModules.{plain}
use Rattle.ctw_parse.proofs.Kept.{spelled_whole, texts_told}
use Rattle.ctw_parse.proofs.whole.assemble.Goals as goal

pub after_pieces-requires-clause-written : goal.after_pieces-requires-clause-written
after_pieces-requires-clause-written c =
    let ts = c.in_ok-tokens.tokens in
    let p = c.in_ok-is_ct.field-0 in
    fields_written p.is_ct (fields_of p.items.items) (fields_nest p.is_ct (toks_of ts) p.items.items c.in_ok-is_ct.ensures.grammar (toks_good ts))

pub after_pieces-requires-clause-same : goal.after_pieces-requires-clause-same
after_pieces-requires-clause-same c none =
    let ts = c.in_ok-tokens.tokens in
    let p = c.in_ok-is_ct.field-0 in
    narrow_text p.is_ct (fields_of p.items.items) (fields_nest p.is_ct (toks_of ts) p.items.items c.in_ok-is_ct.ensures.grammar (toks_good ts)) none

pub returns-clause-bytes : goal.returns-clause-bytes
returns-clause-bytes c =
    let ts = c.in_ok-tokens.tokens in
    let p = c.in_ok-is_ct.field-0 in
    let fs = fields_of p.items.items in
    let nest = fields_nest p.is_ct (toks_of ts) p.items.items c.in_ok-is_ct.ensures.grammar (toks_good ts) in
    let told = fields_told p.is_ct (toks_of ts) p.items.items c.in_ok-is_ct.ensures.grammar in
    if_ok c.after_pieces.result
    (λ bytes h same.
    is_assembly c.args.text.now bytes.items ts p.is_ct p.items.items c.in_ok-tokens.ensures.read c.in_ok-is_ct.ensures.grammar c.in_ok-is_ct.ensures.pieces c.in_ok-is_ct.ensures.kind (same_named p.is_ct fs (narrow_text p.is_ct fs nest))
    (spelled_named p.is_ct fs (λ none numbers short. spelled_whole p.is_ct fs nest none (texts_told p.is_ct fs told) (λ plain_module. plain p.is_ct fs told nest none plain_module) numbers short)) h)
    c.after_pieces.ensures.bytes c.after_pieces.ensures.bytes
