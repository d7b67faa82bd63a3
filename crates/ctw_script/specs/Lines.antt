-- The lines that tell replies and events.
use Rattle.std.specs.Prelude.{ℕ, ◌+◌, ◌/◌, ◌%◌, Bool, true, false, List, [], ◌∷◌, ◌++◌, Option, Some, None, decimal, codes, nat_lt, if◌then◌else◌}
use Rattle.ctw_ops.specs.declared.types.Label.{Label}
use Rattle.ctw_ops.specs.declared.types.Label.TheVariants.{Public, Secret}
use Rattle.ctw_ops.specs.declared.types.Width.{Width}
use Rattle.ctw_ops.specs.declared.types.Width.TheVariants.{W32, W64}
use Rattle.ctw_script.specs.declared.event.Event.{Event}
use Rattle.ctw_script.specs.declared.event.Event.TheVariants as event
use Rattle.ctw_script.specs.declared.reply.Shown.{Shown}
use Rattle.ctw_script.specs.declared.reply.Shown.TheVariants as shown
use Rattle.ctw_script.specs.declared.reply.Refusal.{Refusal}
use Rattle.ctw_script.specs.declared.reply.Refusal.TheVariants as refusal
use Rattle.ctw_script.specs.declared.reply.Reply.{Reply}
use Rattle.ctw_script.specs.declared.reply.Reply.TheVariants as reply
use Rattle.ctw_script.specs.declared.trap.TrapCode.{TrapCode}
use Rattle.ctw_script.specs.declared.trap.TrapCode.TheVariants as trap

-- each word behind a blank
abbrev pub blank_before_each : List (List ℕ) → List ℕ
blank_before_each [] = []
blank_before_each (word ∷ words) = 32 ∷ word ++ blank_before_each words

-- words with blanks between them, and a line feed
abbrev pub spaced : List (List ℕ) → List ℕ
spaced [] = 10 ∷ []
spaced (word ∷ words) = word ++ blank_before_each words ++ 10 ∷ []

-- a hexadecimal digit in lower case
abbrev pub hex_digit : ℕ → ℕ
hex_digit n = if nat_lt n 10 then 48 + n else 87 + n

-- two hexadecimal digits a byte
abbrev pub hex_digits : List ℕ → List ℕ
hex_digits [] = []
hex_digits (b ∷ bs) = hex_digit (b / 16) ∷ hex_digit (b % 16) ∷ hex_digits bs

-- ---- replies

-- what is shown of a number of this label
abbrev pub shown_number : Label → Width → ℕ → Shown
shown_number Public width n = shown.Number width n
shown_number Secret width n = shown.Secret

abbrev pub width_word : Width → List ℕ
width_word W32 = codes "i32"
width_word W64 = codes "i64"

abbrev pub shown_words : Shown → List (List ℕ)
shown_words shown.Nothing = []
shown_words (shown.Number width n) = width_word width ∷ decimal n ∷ []
shown_words shown.Secret = codes "secret" ∷ []

abbrev pub trap_word : TrapCode → List ℕ
trap_word trap.Unreachable = codes "Unreachable"
trap_word trap.DivZero = codes "DivZero"
trap_word trap.DivOverflow = codes "DivOverflow"
trap_word trap.MemoryBounds = codes "MemoryBounds"
trap_word trap.TableBounds = codes "TableBounds"
trap_word trap.EmptyEntry = codes "EmptyEntry"
trap_word trap.CallType = codes "CallType"
trap_word trap.Exhausted = codes "Exhausted"

abbrev pub refusal_word : Refusal → List ℕ
refusal_word refusal.NoExport = codes "NoExport"
refusal_word refusal.BadArgs = codes "BadArgs"
refusal_word refusal.SlotBusy = codes "SlotBusy"
refusal_word refusal.SlotFree = codes "SlotFree"
refusal_word refusal.NoMemoryExport = codes "NoMemoryExport"
refusal_word refusal.Bounds = codes "Bounds"
refusal_word refusal.WrongLabel = codes "WrongLabel"
refusal_word refusal.VaultShort = codes "VaultShort"
refusal_word refusal.TurnTooLong = codes "TurnTooLong"
refusal_word refusal.SealedFull = codes "SealedFull"

abbrev pub reply_words : Reply → List (List ℕ)
reply_words reply.Began = codes "began" ∷ []
reply_words (reply.More steps) = codes "more" ∷ decimal steps ∷ []
reply_words (reply.Done steps result) = codes "done" ∷ decimal steps ∷ shown_words result
reply_words (reply.Trap steps code) = codes "trap" ∷ decimal steps ∷ trap_word code ∷ []
reply_words reply.Dropped = codes "dropped" ∷ []
reply_words reply.Wrote = codes "wrote" ∷ []
reply_words (reply.Bytes bytes) = codes "bytes" ∷ hex_digits bytes ∷ []
reply_words reply.Sealed = codes "sealed" ∷ []
reply_words (reply.Revealed count) = codes "revealed" ∷ decimal count ∷ []
reply_words (reply.Refused why) = codes "refused" ∷ refusal_word why ∷ []

abbrev pub reply_line : Reply → List ℕ
reply_line reply = spaced (reply_words reply)

-- ---- events

abbrev pub taken_word : Bool → List ℕ
taken_word false = codes "0"
taken_word true = codes "1"

-- the function that an indirect call came to, if it came to one
abbrev pub function_word : Option ℕ → List ℕ
function_word None = codes "-"
function_word (Some func) = decimal func

abbrev pub event_words : Event → List (List ℕ)
event_words (event.Branch taken) = codes "branch" ∷ taken_word taken ∷ []
event_words (event.Table index) = codes "table" ∷ decimal index ∷ []
event_words (event.Enter func) = codes "enter" ∷ decimal func ∷ []
event_words (event.Indirect index func) = codes "indirect" ∷ decimal index ∷ function_word func ∷ []
event_words (event.Load mem at bytes) = codes "load" ∷ decimal mem ∷ decimal at ∷ decimal bytes ∷ []
event_words (event.Store mem at bytes) = codes "store" ∷ decimal mem ∷ decimal at ∷ decimal bytes ∷ []
event_words (event.Grow pages) = codes "grow" ∷ decimal pages ∷ []
event_words (event.Divide a b) = codes "divide" ∷ decimal a ∷ decimal b ∷ []

abbrev pub event_line : Event → List ℕ
event_line event = spaced (event_words event)
