use Rattle.std.proofs.Common.{arith, ◌≡◌, ◌+◌, ◌-◌, ◌<◌, List, ℕ, Some, sym, ap, ◌∙◌, subst, length}
use Rattle.std.proofs.lemmas.List.{length-map}
use Rattle.std.specs.Prelude.{option_map, IsSome}
use Rattle.std.proofs.lemmas.Str.{IsCharBoundary-after_ascii}
use Rattle.std.proofs.lemmas.Option.{slice_get-map, slice_get-get_or}
use Rattle.ctw_lex.specs.declared.list.Span.{Span}
use Rattle.ctw_lex.specs.Lexeme.{Lexeme}
use Rattle.ctw_lex.specs.Strings.{string_value}
use Rattle.ctw_lex.specs.Spans.{IsSpanOf, lexeme, lexemes}
use Rattle.ctw_lex.proofs.list.TokenList.at.Goals as goal

inside : (text : List ℕ) (spans : List Span) (tokens : List Lexeme) (i : ℕ) → lexemes text spans ≡ tokens → i < length tokens → i < length spans
inside text spans tokens i e h = let l : length (lexemes text spans) ≡ length spans = length-map spans (lexeme text) in omega (arith, ap length e)

pub range-requires-clause-end_boundary : goal.range-requires-clause-end_boundary
range-requires-clause-end_boundary c =
    let text = c.self.inside.text.now in
    let span : Span = c.index-span.result.now in
    let cut : IsSpanOf text span = subst (λ (s : Span). IsSpanOf text s) (sym c.index-span.ensures) (c.self.invariant.3 c.args.i span (inside text c.self.inside.spans.items c.args.self.now c.args.i c.self.view_is c.requires)) in
    let e : span.end - 1 + 1 ≡ span.end = omega (arith, cut.nonempty) in
    rw e at (IsCharBoundary-after_ascii text (span.end - 1) c.self.invariant.1 (omega (arith, cut.nonempty, cut.within)) cut.last)

pub returns-clause-token : goal.returns-clause-token
returns-clause-token c =
    let text = c.self.inside.text.now in
    let spans = c.self.inside.spans.items in
    let span : Span = c.index-span.result.now in
    let within = inside text spans c.args.self.now c.args.i c.self.view_is c.requires in
    let e = slice_get-map (lexeme text) spans c.args.i in
    let f = ap (option_map (lexeme text)) (slice_get-get_or spans c.args.i span within) in
    let g = ap (λ (s : Span). Some (lexeme text s)) (sym c.index-span.ensures) in
    let h = ap (λ (t : List ℕ). let l : Lexeme = record { kind = span.kind; text = t; start = span.start; end = span.end; line = span.line } in Some l) (sym c.range.ensures.value) in
    rw (← c.self.view_is) (e ∙ (f ∙ (g ∙ h)))

pub returns-clause-whole : goal.returns-clause-whole
returns-clause-whole c = λ kind.
    let text = c.self.inside.text.now in
    let span : Span = c.index-span.result.now in
    let cut : IsSpanOf text span = subst (λ (s : Span). IsSpanOf text s) (sym c.index-span.ensures) (c.self.invariant.3 c.args.i span (inside text c.self.inside.spans.items c.args.self.now c.args.i c.self.view_is c.requires)) in
    subst (λ (t : List ℕ). IsSome (string_value t)) (sym c.range.ensures.value) (cut.whole kind)
