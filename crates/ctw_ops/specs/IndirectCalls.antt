-- The indirect calls of a sequence, by the indexes of their types.
use Rattle.std.specs.Prelude.{ℕ, List, [], ◌∷◌, ◌++◌}
use Rattle.ctw_ops.specs.Code.{Leaf, CallIndirect, Code, Stop, Then, Block, Loop, If, IfElse}

-- the type's index, where a leaf is an indirect call, in front of others
abbrev pub call_of : {S : Type 0} → Leaf S → List ℕ → List ℕ
call_of (CallIndirect index) others = index ∷ others
call_of leaf others = others

-- the indexes in the order of the code
abbrev pub indirect_calls : {S : Type 0} → Code S → List ℕ
indirect_calls Stop = []
indirect_calls (Then leaf rest) = call_of leaf (indirect_calls rest)
indirect_calls (Block t body rest) = indirect_calls body ++ indirect_calls rest
indirect_calls (Loop t body rest) = indirect_calls body ++ indirect_calls rest
indirect_calls (If t arm rest) = indirect_calls arm ++ indirect_calls rest
indirect_calls (IfElse t arm other rest) = indirect_calls arm ++ (indirect_calls other ++ indirect_calls rest)
