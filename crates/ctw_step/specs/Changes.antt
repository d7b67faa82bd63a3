-- Instructions that change a label.
use Rattle.std.specs.Prelude.{Bool, true, false}
use Rattle.ctw_ops.specs.declared.types.Label.{Label}
use Rattle.ctw_ops.specs.Code.{Op, Plain, Classify, Declassify}

-- classify and declassify
abbrev pub is_change : Op Label → Bool
is_change (Plain (Classify width)) = true
is_change (Plain (Declassify width)) = true
is_change _ = false
