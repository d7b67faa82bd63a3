use Rattle.std.proofs.Common.{◌≡◌, ◌∙◌, ◌∷◌, ◌++◌, [], suc, ◌+◌, map, take, ap, sym, arith}
use Rattle.std.proofs.lemmas.List.{map-append}
use Rattle.std.proofs.lemmas.List.Elements.{All-push}
use Rattle.ctw_lex.specs.Told.{lexeme_of}
use Rattle.ctw_script.specs.MoveValues.{IsWhole}
use Rattle.ctw_marks.proofs.EntryLaws.{take_more}
use Rattle.ctw_marks.proofs.entry.all_tokens.Goals as goal

pub loop-i-preserved : goal.loop-i-preserved
loop-i-preserved c =
    let e : suc c.loop-i.i ≡ c.loop-i.i + 1 = omega arith in
    record {
      tokens =
          ap (map lexeme_of) c.in_ok-push.ensures.items
          ∙ map-append lexeme_of c.loop-i.all.items (c.at.result ∷ [])
          ∙ ap (λ z. z ++ lexeme_of c.at.result ∷ []) c.loop-i.invariant.tokens
          ∙ sym (take_more c.loop-i.i c.args.list.now (lexeme_of c.at.result) c.at.ensures.token)
          ∙ ap (λ k. take k c.args.list.now) e;
      whole = rw c.in_ok-push.ensures.items (All-push IsWhole c.loop-i.all.items c.at.result c.loop-i.invariant.whole c.at.ensures.whole);
    }
