-- A place at which soundness leaves the type of an operand open, and the body doesn't: each arm of an `if` pushes a
-- number of its own type, drops it and leaves.
use Rattle.std.proofs.Common.{[], ◌∷◌, None, All, refl, inl, inr, arith}
use Rattle.ctw_ops.specs.declared.types.Label.{Label}
use Rattle.ctw_ops.specs.declared.types.Label.TheVariants.{Public}
use Rattle.ctw_ops.specs.declared.types.Trust.TheVariants.{Untrusted}
use Rattle.ctw_ops.specs.declared.types.Width.{Width}
use Rattle.ctw_ops.specs.declared.types.Width.TheVariants.{W32, W64}
use Rattle.ctw_ops.specs.declared.numeric.Profile.TheVariants.{Divide}
use Rattle.ctw_ops.specs.Types.{ValueType, FitsWidth, value_type}
use Rattle.ctw_ops.specs.Code.{Br, Drop, Const, LocalGet, Code, Stop, Then, IfElse, ByEnd, ByElse, straight}
use Rattle.ctw_ops.specs.Typing.{Typed}
use Rattle.ctw_semantics.specs.Values.{value, i32}
use Rattle.ctw_semantics.specs.Instances.{FunctionInstance}
use Rattle.ctw_semantics.specs.Activations.{Activation}
use Rattle.ctw_semantics.specs.Sound.{Shape, IndexTypes, context, IndexesLead, FunctionTyped, ActivationTyped}
use Rattle.ctw_unique.specs.ByBodies.{HoldsByBodies}

none_of : {A : Type 0} (P : A → Type 0) → All P []
none_of P k d less = absurd (omega (arith, less))

abbrev number : Width → ValueType Label
number w = value_type w Public

-- what is left of either arm behind its number
abbrev left : Code Label
left = straight (Drop ∷ Br 0 ∷ [])

abbrev arm : Width → Code Label
arm w = Then (Const w Public 7) left

abbrev chooses : FunctionInstance
chooses = record {
  part = record { profile = Divide; types = []; functions = []; globals = []; memory = None; table = None };
  type = record { trust = Untrusted; params = i32 ∷ []; result = None };
  locals = [];
  body = Then (LocalGet 0) (IfElse None (arm W32) (arm W64) Stop);
}

abbrev shape : Shape
shape = record { memories = []; globals = []; tables = [] }

abbrev names : IndexTypes
names = record { functions = []; globals = []; memory = None }

leads : IndexesLead (chooses ∷ []) shape chooses.part names
leads = record { functions = λ f t e. cc; globals = λ x t e. cc; memory = λ l e. cc; table = λ t e. cc }

fits : (w : Width) → FitsWidth w 7
fits W32 = omega arith
fits W64 = omega arith

left_typed : (w : Width) → Typed (context names chooses (None ∷ None ∷ [])) left (number w ∷ []) []
left_typed w = ([], (number w, ([], refl, refl)), ([], (None, refl, ([], refl)), refl))

arm_typed : (w : Width) → Typed (context names chooses (None ∷ None ∷ [])) (arm w) [] []
arm_typed w = (number w ∷ [], (fits w, ([], refl, refl)), left_typed w)

typed : FunctionTyped (chooses ∷ []) shape chooses
typed = record {
  names = names;
  leads = leads;
  variants = record { entries = []; variants = []; all = refl; plain = none_of _; based = none_of _ };
  body = (i32 ∷ [], (i32, refl, ([], refl, refl)), (arm_typed W32, arm_typed W64, [], refl, refl));
}

-- in an arm, behind its number of this type
abbrev dropping : Width → Activation
dropping w =
    record {
      func = 0;
      locals = value i32 1 ∷ [];
      labels = record { values = value (number w) 7 ∷ []; code = left; result = None; again = None } ∷ record { values = []; code = Stop; result = None; again = None } ∷ [];
    } ∷ []

-- soundness takes a number of either type, in the first arm too
both_sound : (w : Width) → ActivationTyped (chooses ∷ []) shape None (dropping w)
both_sound w = (
  chooses,
  record {
    found = refl;
    names = names;
    leads = leads;
    locals = (refl, omega arith, tt);
    labels = (record { holds = number w ∷ []; values = (refl, fits w, tt); code = left_typed w; again = tt }, (record { holds = []; values = tt; code = refl; again = tt }, (refl, refl)));
    place = (arm W32, 1, refl, (chooses.body, 1, (refl, refl, inl refl, refl), refl));
  },
  refl,
)

-- the first arm's number has 32 bits, and the other arm's 64
first_holds : HoldsByBodies (chooses ∷ []) shape ((ByElse ∷ ByEnd ∷ []) ∷ []) (dropping W32)
first_holds = (
  chooses,
  record {
    found = refl;
    typed = typed;
    labels = (
      arm W32,
      1,
      (tt, i32 ∷ [], (fits W32, ([], refl, refl)), (refl, refl)),
      (chooses.body, 1, (refl, refl, inl refl, refl), refl, (tt, i32 ∷ [], (i32, refl, ([], refl, refl)), ([], refl, (refl, refl))), (refl, refl, refl, refl)),
    );
  },
  tt,
)

other_holds : HoldsByBodies (chooses ∷ []) shape ((ByEnd ∷ ByEnd ∷ []) ∷ []) (dropping W64)
other_holds = (
  chooses,
  record {
    found = refl;
    typed = typed;
    labels = (
      arm W64,
      1,
      (tt, number W64 ∷ [], (fits W64, ([], refl, refl)), (refl, refl)),
      (chooses.body, 1, (refl, refl, inr refl, refl), refl, (tt, i32 ∷ [], (i32, refl, ([], refl, refl)), ([], refl, (refl, refl))), (refl, refl, refl, refl)),
    );
  },
  tt,
)
