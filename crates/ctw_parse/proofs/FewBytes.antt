-- A text that denotes a module by the passes without a limit on bytes denotes it with that limit too, where the canonical
-- bytes of the module keep it.
use Rattle.std.proofs.Common.{◌≡◌, ◌≤◌, ℕ, Bool, true, false, not, List, [], ◌∷◌, ◌++◌, length, refl, sym, ap, subst, ◌∙◌}
use Rattle.std.specs.Prelude.{Result, Ok, Err, ◌&&◌, nat_lt}
use Rattle.std.proofs.lemmas.Bool.{le-ltb}
use Rattle.ctw_ops.specs.declared.types.Label.{Label}
use Rattle.ctw_ops.specs.declared.fault.What.TheVariants.{Bytes}
use Rattle.ctw_ops.specs.Limits.{most_plain_bytes}
use Rattle.ctw_ops.specs.Tree.{Module}
use Rattle.ctw_lex.specs.declared.LexPlace.{LexPlace}
use Rattle.ctw_lex.specs.Lexeme.{Lexeme}
use Rattle.ctw_lex.specs.Tokens.{tokens_of}
use Rattle.ctw_text.specs.Toks.{toks_of}
use Rattle.ctw_text.specs.declared.pieces.Piece.{Piece}
use Rattle.ctw_text.specs.declared.fields.Field.{Field}
use Rattle.ctw_text.specs.Grammar.{Spells}
use Rattle.ctw_text.specs.Machine.{Stop, is_ct, spelled}
use Rattle.ctw_text.specs.Fields.{fields_of}
use Rattle.ctw_text.specs.Names.{NameFault, Wide, named, wide_of}
use Rattle.ctw_text.specs.Limits.{Excess, over, excess_of, narrow, limited, bounded}
use Rattle.ctw_text.specs.Denotes as four
use Rattle.ctw_text.proofs.Exact.{spells_of}
use Rattle.ctw_write.specs.Canon.{canon}
use Rattle.ctw_parse.specs.WideCanon.{wide_canon}
use Rattle.ctw_parse.specs.Assembled.{bytes_excess, all_excess, within_limits, after_names, after_grammar, after_lex, assembled}
use Rattle.std.specs.List.{list_all}
use Rattle.ctw_parse.proofs.Nested.{nests, fields_nest}
use Rattle.ctw_parse.proofs.Tokens.{toks_good}
use Rattle.ctw_parse.proofs.NarrowTexts.{narrow_text}
use Rattle.ctw_parse.proofs.LastPasses.{same_named}

few_bytes : (ct : Bool) (n : ℕ) → (ct ≡ false → n ≤ most_plain_bytes) → over (not ct && nat_lt most_plain_bytes n) Bytes most_plain_bytes ≡ []
few_bytes true n h = refl
few_bytes false n h = ap (λ (b : Bool). over b Bytes most_plain_bytes) (le-ltb most_plain_bytes n (h refl))

module _ (m : Module Label) (small : m.ct ≡ false → length (canon m) ≤ most_plain_bytes) where
  limits_too : (w : Wide) → (excess_of w ≡ [] → wide_canon w ≡ canon (narrow w)) → limited w ≡ Ok m → within_limits w ≡ Ok m
  limits_too w same e = at (excess_of w) refl e
    where
      at : (l : List Excess) → excess_of w ≡ l → bounded l w ≡ Ok m → bounded (bytes_excess w ++ l) w ≡ Ok m
      at [] q h =
          let is_m : narrow w ≡ m = cc in
          let fits : w.ct ≡ false → length (wide_canon w) ≤ most_plain_bytes = λ plain. subst (λ (b : List ℕ). length b ≤ most_plain_bytes) (sym (same q ∙ ap canon is_m)) (small (ap (λ (x : Module Label). x.ct) (sym is_m) ∙ plain)) in
          ap (λ (l : List Excess). bounded (l ++ []) w) (few_bytes w.ct (length (wide_canon w)) fits) ∙ h
      at (x ∷ l) q h = absurd cc

  in_ok : (r : Result (Module Label) Excess) → four.in_limits r ≡ Ok m → r ≡ Ok m
  in_ok (Ok n) e = cc
  in_ok (Err x) e = absurd cc

  names_too : (ct : Bool) (fs : List Field) → list_all nests fs ≡ true → (n : Result Wide NameFault) → named ct fs ≡ n → four.after_names n ≡ Ok m → after_names n ≡ Ok m
  names_too ct fs nest (Ok w) q e = ap four.in_limits (limits_too w (λ none. same_named ct fs (narrow_text ct fs nest) w none q) (in_ok (limited w) e))
  names_too ct fs nest (Err f) q e = absurd cc

  grammar_too : (size : ℕ) (ts : List Lexeme) (r : Result (List Piece) Stop) → spelled (toks_of ts) ≡ r → four.after_grammar size (is_ct (toks_of ts)) ts r ≡ Ok m → after_grammar size (is_ct (toks_of ts)) ts r ≡ Ok m
  grammar_too size ts (Ok ps) q e =
      let ct = is_ct (toks_of ts) in
      names_too ct (fields_of ps) (fields_nest ct (toks_of ts) ps (spells_of (toks_of ts) ps q) (toks_good ts)) (named ct (fields_of ps)) refl e
  grammar_too size ts (Err f) q e = absurd cc

  pub few_bytes_too : (text : List ℕ) → four.assembled text ≡ Ok m → assembled text ≡ Ok m
  few_bytes_too text e = at (tokens_of text) e
    where
      at : (r : Result (List Lexeme) LexPlace) → four.after_lex (length text) r ≡ Ok m → after_lex (length text) r ≡ Ok m
      at (Ok ts) e = grammar_too (length text) ts (spelled (toks_of ts)) refl e
      at (Err place) e = absurd cc
