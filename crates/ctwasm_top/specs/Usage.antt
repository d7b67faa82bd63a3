-- The usage text.
use Rattle.std.specs.Prelude.{ℕ, List, codes}

unfoldable pub usage_text : List ℕ
usage_text =
    codes "usage: ctwasm check M\n       ctwasm canon M\n       ctwasm text M\n       ctwasm assemble T\n       ctwasm infer M MARKS\n       ctwasm strip M\n       ctwasm link NAME=M..\n       ctwasm run SCRIPT VAULT SEALED NAME=M..\n       ctwasm once M VAULT SEALED EXPORT ARG..\n       ctwasm work SEED SIZE\n       ctwasm mul COMMAND..\n"
