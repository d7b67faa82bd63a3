-- Which replies a program can tell: numbers within their types, and bytes.
use Rattle.std.specs.Prelude.{◌<◌, ◌^◌, All}
use Rattle.ctw_script.specs.declared.reply.Shown.{Shown}
use Rattle.ctw_script.specs.declared.reply.Shown.TheVariants as shown
use Rattle.ctw_script.specs.declared.reply.Reply.{Reply}
use Rattle.ctw_script.specs.declared.reply.Reply.TheVariants as reply

abbrev pub IsShownInRange : Shown → Type 0
IsShownInRange shown.Nothing = Unit {0}
IsShownInRange (shown.Number width n) = n < 2 ^ 64
IsShownInRange shown.Secret = Unit {0}

abbrev pub IsInRange : Reply → Type 0
IsInRange reply.Began = Unit {0}
IsInRange (reply.More steps) = steps < 2 ^ 64
IsInRange (reply.Done steps result) = (steps < 2 ^ 64) × IsShownInRange result
IsInRange (reply.Trap steps code) = steps < 2 ^ 64
IsInRange reply.Dropped = Unit {0}
IsInRange reply.Wrote = Unit {0}
IsInRange (reply.Bytes bytes) = All (λ b. b < 256) bytes
IsInRange reply.Sealed = Unit {0}
IsInRange (reply.Revealed count) = count < 2 ^ 64
IsInRange (reply.Refused why) = Unit {0}
