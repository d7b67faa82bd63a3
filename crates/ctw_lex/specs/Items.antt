-- What stands at a place of a text: a gap, a token or a fault.
use Rattle.std.specs.Prelude.{ℕ, zero, suc, ◌==◌, ◌&&◌, not, false, List, [], ◌∷◌, Option, Some, None, Result, Ok, Err, option_map, take, drop, slice_index, if◌then◌else◌}
use Rattle.std.specs.List.{prefix_len}
use Rattle.ctw_lex.specs.declared.LexKind.TheVariants.{BadChar, OpenString, OpenComment}
use Rattle.ctw_lex.specs.declared.TokenKind.TheVariants.{Left, Right, Atom, Text}
use Rattle.ctw_lex.specs.declared.items.Item.{Item}
use Rattle.ctw_lex.specs.declared.items.Item.TheVariants.{Gap, Spelled, Faulty}
use Rattle.ctw_lex.specs.Chars.{is_blank, is_atom_byte}
use Rattle.ctw_lex.specs.Strings.{Fault, string_len, contents}

-- what two bytes are inside a comment
pub data Mark : Type 0 where
  Opens : Mark
  Closes : Mark
  Neither : Mark

-- what a byte is behind another one: 40 is `(`, 41 is `)` and 59 is `;`
abbrev pub mark_of : (last b : ℕ) → Mark
mark_of last b = if last == 40 && b == 59 then Opens else (if last == 59 && b == 41 then Closes else Neither)

-- how a comment goes on behind them
abbrev pub inside : Mark → (depth b : ℕ) → ((depth last : ℕ) → Option ℕ) → Option ℕ
inside Opens depth b rest = rest (suc depth) 0
inside Closes zero b rest = Some 0
inside Closes (suc depth) b rest = rest depth 0
inside Neither depth b rest = rest depth b

-- How many bytes are left of a comment, where `depth` comments are open in it. The byte before is `last`,
-- or 0 where that byte belongs to a mark.
abbrev pub comment_len : (depth last : ℕ) → List ℕ → Option ℕ
comment_len depth last [] = None
comment_len depth last (b ∷ bs) = option_map suc (inside (mark_of last b) depth b (λ d l. comment_len d l bs))

-- a comment by how many bytes are left of it behind its `(;`
abbrev pub comment_at : Option ℕ → Item
comment_at None = Faulty OpenComment 0
comment_at (Some n) = Gap (suc n)

-- a string by how many bytes stand between its quotes, and what those stand for
abbrev pub content_at : ℕ → Result (List ℕ) Fault → Item
content_at n (Ok bytes) = Spelled Text (suc n)
content_at n (Err fault) = Faulty fault.kind fault.start

-- a string by what follows its opening quote, and by how many bytes stand before the closing one
abbrev pub string_at : List ℕ → Option ℕ → Item
string_at bs None = Faulty OpenString 0
string_at bs (Some n) = content_at n (contents 0 1 (take n bs))

-- what stands at the head of a text, which isn't empty: 34 is a quote
abbrev pub item : List ℕ → Item
item [] = Gap 0
item (b ∷ bs) =
    if is_blank b then Gap 0
    else (if b == 40 then (if slice_index bs 0 == 59 then comment_at (comment_len 0 0 (drop 1 bs)) else Spelled Left 0)
    else (if b == 41 then Spelled Right 0
    else (if b == 34 then string_at bs (string_len false bs)
    else (if b == 59 && slice_index bs 0 == 59 then Gap (prefix_len (λ c. not (c == 10)) bs)
    else (if is_atom_byte b then Spelled Atom (prefix_len is_atom_byte bs)
    else Faulty BadChar 0)))))
