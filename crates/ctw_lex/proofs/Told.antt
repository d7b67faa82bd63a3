-- What is read, as the contract tells it.
use Rattle.std.proofs.Common.{◌≡◌, ℕ, List, Ok, Err}
use Rattle.ctw_lex.specs.declared.LexPlace.{LexPlace}
use Rattle.ctw_lex.specs.Lexeme.{Lexeme}
use Rattle.ctw_lex.specs.Tokens.{tokens_of}
use Rattle.ctw_lex.specs.Answers.{HasTokens, HasFault}
use Rattle.ctw_lex.proofs.Reading.{listed_read, broken_first, tokens_exact, fault_exact}
use Rattle.ctw_lex.proofs.Slices.{is_placed}

pub has_tokens : (text : List ℕ) (ts : List Lexeme) → tokens_of text ≡ Ok ts → HasTokens text ts
has_tokens text ts e = record {
  lists = (tokens_exact text ts).1 e;
  only = λ other h. let f = listed_read h in cc;
  faultless = λ place h. let f = broken_first h in absurd (cc);
}

pub has_fault : (text : List ℕ) (place : LexPlace) → tokens_of text ≡ Err place → HasFault text place
has_fault text place e = record {
  faulty = (fault_exact text place).1 e;
  only = λ other h. let f = broken_first h in cc;
  listless = λ ts h. let f = listed_read h in absurd (cc);
  placed = is_placed text place ((fault_exact text place).1 e);
}
