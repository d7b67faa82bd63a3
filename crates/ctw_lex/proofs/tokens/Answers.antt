use Rattle.std.proofs.Common.{Ok, Err, List, ℕ, subst, get_or, arith, drop, take, suc, sym, refl, ap, ◌∙◌, ◌+◌, ◌-◌, ◌≡◌, [], ◌∷◌}
use Rattle.ctw_lex.specs.declared.list.Span.{Span}
use Rattle.ctw_lex.specs.Strings.{with_front}
use Rattle.std.proofs.Common.{length, ◌<◌}
use Rattle.std.proofs.Common.{◌++◌}
use Rattle.std.proofs.lemmas.List.{length_push, map-append}
use Rattle.std.proofs.lemmas.List.Elements.{All-push}
use Rattle.ctw_lex.specs.Lexeme.{Lexeme}
use Rattle.ctw_lex.specs.Spans.{IsSpanOf, lexeme, lexemes}
use Rattle.ctw_lex.proofs.Ends.{spelled_span}
use Rattle.ctw_lex.specs.Items.{item}
use Rattle.ctw_lex.specs.Tokens.{tokens_from, tokens_of}
use Rattle.ctw_lex.specs.declared.LexPlace.{LexPlace}
use Rattle.ctw_lex.proofs.Told.{has_tokens, has_fault}
use Rattle.ctw_lex.proofs.Slices.{are_slices}
use Rattle.ctw_lex.proofs.Steps.{next_line, tokens_skip, tokens_gap, tokens_spelled, tokens_faulty, tokens_end, front_front, slice_rest}
use Rattle.std.proofs.lemmas.Bool.Decides.{nat_tests}
use Rattle.ctw_lex.proofs.tokens.Goals as goal
use Rattle.ctw_lex.proofs.tokens.Goals.{then-skip-gt0, else-skip-gt0+in-Gap, else-skip-gt0+in-Spelled+in_ok-push-in-Spelled}

pub returns-clause-tokens : goal.returns-clause-tokens
returns-clause-tokens c = has_tokens c.args.text.now _ (subst (λ (t : List ℕ). tokens_of t ≡ Ok (lexemes t c.loop-at.spans.items)) c.as_bytes-bytes.ensures.value (tokens_end (lexemes c.as_bytes-bytes.result.now c.loop-at.spans.items) c.loop-at.skip c.loop-at.at c.loop-at.line c.as_bytes-bytes.result.now c.loop-at-test.false c.loop-at.invariant.same))

pub returns-clause-slices : goal.returns-clause-slices
returns-clause-slices c = are_slices c.args.text.now _ (returns-clause-tokens c).lists

pub returns-in-Faulty : goal.returns-in-Faulty
returns-in-Faulty c =
    let i = c.in-Faulty.ensures.value ∙ ap item (slice_rest c.loop-at.at c.as_bytes-bytes.result.now) in
    let zero : c.loop-at.skip ≡ 0 = omega arith in
    let e = tokens_faulty c.loop-at.at c.loop-at.line c.as_bytes-bytes.result.now c.loop-at-test.true c.in-Faulty.kind c.in-Faulty.n i in
    let f : tokens_from c.loop-at.skip c.loop-at.at c.loop-at.line (drop c.loop-at.at c.as_bytes-bytes.result.now) ≡ Err (record { kind = c.in-Faulty.kind; start = c.loop-at.at + c.in-Faulty.n; line = c.loop-at.line }) = rw zero e in
    let g = ap (with_front (lexemes c.as_bytes-bytes.result.now c.loop-at.spans.items)) f in
    let place : LexPlace = record { kind = c.in-Faulty.kind; start = c.loop-at.at + c.in-Faulty.n; line = c.loop-at.line } in
    let h : tokens_of c.args.text.now ≡ Err place = subst (λ (t : List ℕ). tokens_of t ≡ Err place) c.as_bytes-bytes.ensures.value (sym c.loop-at.invariant.same ∙ g) in
    record { tokens = tt; slices = tt; fault = has_fault c.args.text.now place h; read = h }

pub loop-at-preserved : goal.loop-at-preserved
loop-at-preserved c = record {
  spans = elim c.if-skip-gt0.branch [
    | then-skip-gt0 w ↦ rw w.spans-is c.loop-at.invariant.spans
    | else-skip-gt0+in-Gap w ↦ rw w.spans-is c.loop-at.invariant.spans
    | else-skip-gt0+in-Spelled+in_ok-push-in-Spelled w ↦
        let i = w.in-Spelled.ensures.value ∙ ap item (slice_rest c.loop-at.at c.as_bytes-bytes.result.now) in
        let fits = w.in-Spelled.ensures.within in
        let short : w.in-Spelled.n < length (drop c.loop-at.at c.as_bytes-bytes.result.now) = rw slice_rest at fits in
        let cut = spelled_span c.as_bytes-bytes.result.now c.loop-at.at w.in-Spelled.n c.loop-at.line w.in-Spelled.kind c.loop-at-test.true short i in
        rw (w.spans-is, w.in_ok-push-in-Spelled.ensures.items) (All-push (IsSpanOf c.as_bytes-bytes.result.now) _ _ c.loop-at.invariant.spans cut)
  ];
  count = elim c.if-skip-gt0.branch [
    | then-skip-gt0 w ↦ rw w.spans-is (omega arith)
    | else-skip-gt0+in-Gap w ↦ rw w.spans-is (omega arith)
    | else-skip-gt0+in-Spelled+in_ok-push-in-Spelled w ↦ let p = w.in_ok-push-in-Spelled.ensures.items in rw (w.spans-is, p, length_push) (omega arith)
  ];
  line = grind (arith, nat_tests);
  same = elim c.if-skip-gt0.branch [
    | then-skip-gt0 w ↦
        let k : c.loop-at.skip ≡ suc (c.loop-at.skip - 1) = omega arith in
        let e = tokens_skip c.loop-at.at c.loop-at.line c.as_bytes-bytes.result.now c.loop-at-test.true (c.loop-at.skip - 1) in
        cc
    | else-skip-gt0+in-Gap w ↦
        let i = w.in-Gap.ensures.value ∙ ap item (slice_rest c.loop-at.at c.as_bytes-bytes.result.now) in
        let zero : c.loop-at.skip ≡ 0 = omega arith in
        let e = tokens_gap c.loop-at.at c.loop-at.line c.as_bytes-bytes.result.now c.loop-at-test.true w.in-Gap.n i in
        cc
    | else-skip-gt0+in-Spelled+in_ok-push-in-Spelled w ↦
        let i = w.in-Spelled.ensures.value ∙ ap item (slice_rest c.loop-at.at c.as_bytes-bytes.result.now) in
        let zero : c.loop-at.skip ≡ 0 = omega arith in
        let e = tokens_spelled c.loop-at.at c.loop-at.line c.as_bytes-bytes.result.now c.loop-at-test.true w.in-Spelled.kind w.in-Spelled.n i in
        let bytes = c.as_bytes-bytes.result.now in
        let span : Span = record { kind = w.in-Spelled.kind; start = c.loop-at.at; end = c.loop-at.at + 1 + w.in-Spelled.n; line = c.loop-at.line } in
        let z : c.loop-at.at + 1 + w.in-Spelled.n - c.loop-at.at ≡ suc w.in-Spelled.n = omega arith in
        let t : Lexeme = record { kind = w.in-Spelled.kind; text = take (suc w.in-Spelled.n) (drop c.loop-at.at bytes); start = c.loop-at.at; end = c.loop-at.at + 1 + w.in-Spelled.n; line = c.loop-at.line } in
        let same : lexeme bytes span ≡ t = rw z refl in
        let m : lexemes bytes (c.loop-at.spans.items ++ span ∷ []) ≡ lexemes bytes c.loop-at.spans.items ++ t ∷ [] = map-append (lexeme bytes) c.loop-at.spans.items (span ∷ []) ∙ ap (λ (t : Lexeme). lexemes bytes c.loop-at.spans.items ++ t ∷ []) same in
        let g = front_front (lexemes bytes c.loop-at.spans.items) (t ∷ []) (tokens_from w.in-Spelled.n (c.loop-at.at + 1) (next_line c.loop-at.line (get_or bytes c.loop-at.at 0)) (drop (c.loop-at.at + 1) bytes)) in
        let h = ap (lexemes bytes) w.in_ok-push-in-Spelled.ensures.items in
        cc
  ];
}
