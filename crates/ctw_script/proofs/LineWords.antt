-- Lines are cut back into their words, and the words of a reply are read back.
use Rattle.std.proofs.Common.{◌≡◌, ℕ, ◌+◌, ◌*◌, ◌/◌, ◌%◌, ◌-◌, ◌<◌, ◌^◌, ◌==◌, ◌||◌, Bool, true, false, List, [], ◌∷◌, ◌++◌, nat_lt, refl, sym, ap, ◌∙◌, arith, append_assoc, decimal, codes, if◌then◌else◌}
use Rattle.std.specs.Str.{bytes_eq, all_ascii_digits}
use Rattle.std.specs.Str.Parse.{digits_value}
use Rattle.std.proofs.lemmas.Bool.Decides.{nat_tests}
use Rattle.std.proofs.lemmas.Str.Parse.{IsNumeralModel, numerals_by_value, tells_all_ascii_digits}
use Rattle.std.proofs.lemmas.Fmt.{digits_decimal, digits_value-decimal}
use Rattle.ctw_ops.specs.declared.types.Width.{Width}
use Rattle.ctw_ops.specs.declared.types.Width.TheVariants.{W32, W64}
use Rattle.ctw_script.specs.declared.reply.Shown.{Shown}
use Rattle.ctw_script.specs.declared.reply.Shown.TheVariants as shown
use Rattle.ctw_script.specs.declared.reply.Refusal.{Refusal}
use Rattle.ctw_script.specs.declared.reply.Refusal.TheVariants as refusal
use Rattle.ctw_script.specs.declared.reply.Reply.{Reply}
use Rattle.ctw_script.specs.declared.reply.Reply.TheVariants as reply
use Rattle.ctw_script.specs.declared.trap.TrapCode.{TrapCode}
use Rattle.ctw_script.specs.declared.trap.TrapCode.TheVariants as trap
use Rattle.ctw_script.specs.Lines.{blank_before_each, hex_digit, hex_digits, shown_words, trap_word, refusal_word, reply_words, reply_line}
use Rattle.ctw_script.specs.Ranges.{IsShownInRange, IsInRange}

-- ---- words

abbrev is_end : ℕ → Bool
is_end b = b == 32 || b == 10

abbrev put : ℕ → List (List ℕ) → List (List ℕ)
put b [] = (b ∷ []) ∷ []
put b (w ∷ ws) = (b ∷ w) ∷ ws

abbrev words_of : List ℕ → List (List ℕ)
words_of [] = []
words_of (b ∷ bs) = if is_end b then [] ∷ words_of bs else put b (words_of bs)

-- no byte of it ends a word
abbrev Solid : List ℕ → Type 0
Solid [] = Unit {0}
Solid (b ∷ bs) = (is_end b ≡ false) × Solid bs

abbrev AllSolid : List (List ℕ) → Type 0
AllSolid [] = Unit {0}
AllSolid (w ∷ ws) = Solid w × AllSolid ws

word_cut : (w : List ℕ) (sep : ℕ) (rest : List ℕ) → Solid w → is_end sep ≡ true → words_of (w ++ sep ∷ rest) ≡ w ∷ words_of rest
word_cut [] sep rest h e = rw e refl
word_cut (b ∷ bs) sep rest h e = rw (h.0, word_cut bs sep rest h.1 e) refl

words_cut : (w : List ℕ) (ws : List (List ℕ)) → Solid w → AllSolid ws → words_of (w ++ blank_before_each ws ++ 10 ∷ []) ≡ w ∷ ws
words_cut w [] h k = rw append_assoc (word_cut w 10 [] h refl)
words_cut w (v ∷ vs) h k =
    let e : w ++ (32 ∷ v ++ blank_before_each vs) ++ 10 ∷ [] ≡ w ++ 32 ∷ (v ++ blank_before_each vs ++ 10 ∷ []) = append_assoc w (32 ∷ v ++ blank_before_each vs) (10 ∷ []) in
    ap words_of e ∙ word_cut w 32 (v ++ blank_before_each vs ++ 10 ∷ []) h refl ∙ ap (λ more. w ∷ more) (words_cut v vs k.0 k.1)

-- ---- numbers and bytes

own : IsNumeralModel (λ ds. all_ascii_digits ds ≡ true) (digits_value 10)
own = numerals_by_value _ tells_all_ascii_digits

above : (b : ℕ) → 47 < b → is_end b ≡ false
above b h = grind (arith, nat_tests)

digits_solid : (ds : List ℕ) → all_ascii_digits ds ≡ true → Solid ds
digits_solid [] h = tt
digits_solid (d ∷ ds) h = let k = tells_all_ascii_digits.parts d ds h in let range = k.0 in (above d (omega arith), digits_solid ds k.1)

decimal_solid : (n : ℕ) → n < 2 ^ 64 → Solid (decimal n)
decimal_solid n h = digits_solid (decimal n) (digits_decimal own n h)

value_back : (n : ℕ) → n < 2 ^ 64 → digits_value 10 (decimal n) ≡ n
value_back n h = digits_value-decimal own n h

hex_above : (n : ℕ) → 47 < hex_digit n
hex_above n = grind (arith, nat_tests)

hex_solid : (bs : List ℕ) → Solid (hex_digits bs)
hex_solid [] = tt
hex_solid (b ∷ bs) = (above _ (hex_above (b / 16)), (above _ (hex_above (b % 16)), hex_solid bs))

abbrev hex_back : ℕ → ℕ
hex_back c = if nat_lt c 90 then c - 48 else c - 87

hex_digit_back : (n : ℕ) → hex_back (hex_digit n) ≡ n
hex_digit_back n = grind (arith, nat_tests)

abbrev bytes_back : List ℕ → List ℕ
bytes_back [] = []
bytes_back (c ∷ []) = []
bytes_back (c ∷ d ∷ cs) = (16 * hex_back c + hex_back d) ∷ bytes_back cs

hex_digits_back : (bs : List ℕ) → bytes_back (hex_digits bs) ≡ bs
hex_digits_back [] = refl
hex_digits_back (b ∷ bs) =
    let e : 16 * (b / 16) + b % 16 ≡ b = omega arith in
    rw (hex_digit_back (b / 16), hex_digit_back (b % 16), e, hex_digits_back bs) refl

-- ---- replies

abbrev width_back : List ℕ → Width
width_back w = if bytes_eq w (codes "i32") then W32 else W64

abbrev shown_back : List (List ℕ) → Shown
shown_back [] = shown.Nothing
shown_back (w ∷ []) = shown.Secret
shown_back (w ∷ n ∷ ws) = shown.Number (width_back w) (digits_value 10 n)

shown_read : (s : Shown) → IsShownInRange s → shown_back (shown_words s) ≡ s
shown_read shown.Nothing h = refl
shown_read shown.Secret h = refl
shown_read (shown.Number W32 n) h = ap (shown.Number W32) (value_back n h)
shown_read (shown.Number W64 n) h = ap (shown.Number W64) (value_back n h)

abbrev trap_back : List ℕ → TrapCode
trap_back w =
    if bytes_eq w (codes "Unreachable") then trap.Unreachable
    else (if bytes_eq w (codes "DivZero") then trap.DivZero
    else (if bytes_eq w (codes "DivOverflow") then trap.DivOverflow
    else (if bytes_eq w (codes "MemoryBounds") then trap.MemoryBounds
    else (if bytes_eq w (codes "TableBounds") then trap.TableBounds
    else (if bytes_eq w (codes "EmptyEntry") then trap.EmptyEntry
    else (if bytes_eq w (codes "CallType") then trap.CallType
    else trap.Exhausted))))))

trap_read : (code : TrapCode) → trap_back (trap_word code) ≡ code
trap_read trap.Unreachable = refl
trap_read trap.DivZero = refl
trap_read trap.DivOverflow = refl
trap_read trap.MemoryBounds = refl
trap_read trap.TableBounds = refl
trap_read trap.EmptyEntry = refl
trap_read trap.CallType = refl
trap_read trap.Exhausted = refl

abbrev refusal_back : List ℕ → Refusal
refusal_back w =
    if bytes_eq w (codes "NoExport") then refusal.NoExport
    else (if bytes_eq w (codes "BadArgs") then refusal.BadArgs
    else (if bytes_eq w (codes "SlotBusy") then refusal.SlotBusy
    else (if bytes_eq w (codes "SlotFree") then refusal.SlotFree
    else (if bytes_eq w (codes "NoMemoryExport") then refusal.NoMemoryExport
    else (if bytes_eq w (codes "Bounds") then refusal.Bounds
    else (if bytes_eq w (codes "WrongLabel") then refusal.WrongLabel
    else (if bytes_eq w (codes "VaultShort") then refusal.VaultShort
    else (if bytes_eq w (codes "TurnTooLong") then refusal.TurnTooLong
    else refusal.SealedFull))))))))

refusal_read : (why : Refusal) → refusal_back (refusal_word why) ≡ why
refusal_read refusal.NoExport = refl
refusal_read refusal.BadArgs = refl
refusal_read refusal.SlotBusy = refl
refusal_read refusal.SlotFree = refl
refusal_read refusal.NoMemoryExport = refl
refusal_read refusal.Bounds = refl
refusal_read refusal.WrongLabel = refl
refusal_read refusal.VaultShort = refl
refusal_read refusal.TurnTooLong = refl
refusal_read refusal.SealedFull = refl

abbrev head_of : List (List ℕ) → List ℕ
head_of [] = []
head_of (w ∷ ws) = w

abbrev tail_of : List (List ℕ) → List (List ℕ)
tail_of [] = []
tail_of (w ∷ ws) = ws

abbrev reply_back : List (List ℕ) → Reply
reply_back ws =
    let w = head_of ws in
    let more = tail_of ws in
    if bytes_eq w (codes "began") then reply.Began
    else (if bytes_eq w (codes "more") then reply.More (digits_value 10 (head_of more))
    else (if bytes_eq w (codes "done") then reply.Done (digits_value 10 (head_of more)) (shown_back (tail_of more))
    else (if bytes_eq w (codes "trap") then reply.Trap (digits_value 10 (head_of more)) (trap_back (head_of (tail_of more)))
    else (if bytes_eq w (codes "dropped") then reply.Dropped
    else (if bytes_eq w (codes "wrote") then reply.Wrote
    else (if bytes_eq w (codes "bytes") then reply.Bytes (bytes_back (head_of more))
    else (if bytes_eq w (codes "sealed") then reply.Sealed
    else (if bytes_eq w (codes "revealed") then reply.Revealed (digits_value 10 (head_of more))
    else reply.Refused (refusal_back (head_of more))))))))))

words_read : (r : Reply) → IsInRange r → reply_back (reply_words r) ≡ r
words_read reply.Began h = refl
words_read (reply.More n) h = ap reply.More (value_back n h)
words_read (reply.Done n s) h = rw (value_back n h.0, shown_read s h.1) refl
words_read (reply.Trap n code) h = rw (value_back n h, trap_read code) refl
words_read reply.Dropped h = refl
words_read reply.Wrote h = refl
words_read (reply.Bytes bs) h = ap reply.Bytes (hex_digits_back bs)
words_read reply.Sealed h = refl
words_read (reply.Revealed n) h = ap reply.Revealed (value_back n h)
words_read (reply.Refused why) h = ap reply.Refused (refusal_read why)

shown_solid : (s : Shown) → IsShownInRange s → AllSolid (shown_words s)
shown_solid shown.Nothing h = tt
shown_solid shown.Secret h = ((refl, (refl, (refl, (refl, (refl, (refl, tt)))))), tt)
shown_solid (shown.Number W32 n) h = ((refl, (refl, (refl, tt))), (decimal_solid n h, tt))
shown_solid (shown.Number W64 n) h = ((refl, (refl, (refl, tt))), (decimal_solid n h, tt))

-- a word of letters, by a test that computes
abbrev is_solid : List ℕ → Bool
is_solid [] = true
is_solid (b ∷ bs) = if is_end b then false else is_solid bs

solid_by : (b : ℕ) (bs : List ℕ) (t : Bool) → is_end b ≡ t → is_solid (b ∷ bs) ≡ true → (is_solid bs ≡ true → Solid bs) → Solid (b ∷ bs)
solid_by b bs true e h more = let f : false ≡ true = rw e at h in absurd (cc)
solid_by b bs false e h more = let f : is_solid bs ≡ true = rw e at h in (e, more f)

solid : (w : List ℕ) → is_solid w ≡ true → Solid w
solid [] h = tt
solid (b ∷ bs) h = solid_by b bs (is_end b) refl h (λ k. solid bs k)

trap_solid : (code : TrapCode) → is_solid (trap_word code) ≡ true
trap_solid trap.Unreachable = refl
trap_solid trap.DivZero = refl
trap_solid trap.DivOverflow = refl
trap_solid trap.MemoryBounds = refl
trap_solid trap.TableBounds = refl
trap_solid trap.EmptyEntry = refl
trap_solid trap.CallType = refl
trap_solid trap.Exhausted = refl

refusal_solid : (why : Refusal) → is_solid (refusal_word why) ≡ true
refusal_solid refusal.NoExport = refl
refusal_solid refusal.BadArgs = refl
refusal_solid refusal.SlotBusy = refl
refusal_solid refusal.SlotFree = refl
refusal_solid refusal.NoMemoryExport = refl
refusal_solid refusal.Bounds = refl
refusal_solid refusal.WrongLabel = refl
refusal_solid refusal.VaultShort = refl
refusal_solid refusal.TurnTooLong = refl
refusal_solid refusal.SealedFull = refl

line_words : (r : Reply) → IsInRange r → words_of (reply_line r) ≡ reply_words r
line_words reply.Began h = refl
line_words (reply.More n) h = words_cut (codes "more") (decimal n ∷ []) (solid (codes "more") refl) (decimal_solid n h, tt)
line_words (reply.Done n s) h = words_cut (codes "done") (decimal n ∷ shown_words s) (solid (codes "done") refl) (decimal_solid n h.0, shown_solid s h.1)
line_words (reply.Trap n code) h =
    words_cut (codes "trap") (decimal n ∷ trap_word code ∷ []) (solid (codes "trap") refl) (decimal_solid n h, (solid (trap_word code) (trap_solid code), tt))
line_words reply.Dropped h = refl
line_words reply.Wrote h = refl
line_words (reply.Bytes bs) h = words_cut (codes "bytes") (hex_digits bs ∷ []) (solid (codes "bytes") refl) (hex_solid bs, tt)
line_words reply.Sealed h = refl
line_words (reply.Revealed n) h = words_cut (codes "revealed") (decimal n ∷ []) (solid (codes "revealed") refl) (decimal_solid n h, tt)
line_words (reply.Refused why) h = words_cut (codes "refused") (refusal_word why ∷ []) (solid (codes "refused") refl) (solid (refusal_word why) (refusal_solid why), tt)

line_read : (r : Reply) → IsInRange r → reply_back (words_of (reply_line r)) ≡ r
line_read r h = ap reply_back (line_words r h) ∙ words_read r h

pub replies_apart : (a b : Reply) → IsInRange a → IsInRange b → reply_line a ≡ reply_line b → a ≡ b
replies_apart a b h k e = sym (line_read a h) ∙ ap (λ line. reply_back (words_of line)) e ∙ line_read b k
