-- Moves that are made one after another, and what they tell.
use Rattle.std.proofs.Common.{◌≡◌, ◌<◌, ℕ, ◌+◌, List, [], ◌∷◌, ◌++◌, length, take, drop, get_or, slice_get, Option, Some, None, Result, Ok, Err, refl, sym, ap, ◌∙◌, subst, arith, append_assoc, append-nil, length-append}
use Rattle.std.proofs.Math.Seq.{take-append-add}
use Rattle.std.proofs.lemmas.List.{take-append-le, drop_more}
use Rattle.std.proofs.lemmas.Option.{slice_get-get_or}
use Rattle.std.proofs.lemmas.Grind.{flat_map-append}
use Rattle.ctw_io.specs.Taken.{grown, TookPrefix}
use Rattle.ctw_script.specs.declared.event.Event.{Event}
use Rattle.ctw_script.specs.declared.moves.Move.{Move}
use Rattle.ctw_script.specs.declared.reply.Reply.{Reply}
use Rattle.ctw_link.specs.Sets.{ModuleSet}
use Rattle.ctw_moves.specs.States.{State}
use Rattle.ctw_moves.specs.Moves.{play}
use Rattle.ctw_moves.specs.Runs.{Told, told_of, plays}
use Rattle.ctw_session.specs.declared.live.Live.{Live}
use Rattle.ctw_session.specs.LiveStates.{StandsFor, Acts}
use Rattle.ctwasm_top.specs.Lines.{told_line, told_lines}
use Rattle.ctwasm_top.specs.Sessions as Sessions

-- ---- bytes that are taken one after another

grown_more : (o : Option (List ℕ)) (first more : List ℕ) → grown (grown o first) more ≡ grown o (first ++ more)
grown_more None first more = refl
grown_more (Some t) first more = ap Some (append_assoc t first more)

-- a whole text behind another
pub took_both : (before middle after : Option (List ℕ)) (first more : List ℕ) → middle ≡ grown before first → after ≡ grown middle more → after ≡ grown before (first ++ more)
took_both before middle after first more e f = f ∙ ap (λ (o : Option (List ℕ)). grown o more) e ∙ grown_more before first more

-- a prefix of what follows, behind a first piece
pub took_more : (before middle after : Option (List ℕ)) (first more : List ℕ) → middle ≡ grown before first → TookPrefix middle after more → TookPrefix before after (first ++ more)
took_more before middle after first more e t = record {
  count = length first + t.count;
  within = let l = length-append first more in omega (arith, l, t.within);
  taken = t.taken ∙ ap (λ (o : Option (List ℕ)). grown o (take t.count more)) e ∙ grown_more before first (take t.count more) ∙ ap (grown before) (sym (take-append-add first more t.count));
}

-- a prefix of a first piece is one of the whole
pub took_less : (before after : Option (List ℕ)) (first more : List ℕ) → TookPrefix before after first → TookPrefix before after (first ++ more)
took_less before after first more t = record {
  count = t.count;
  within = let l = length-append first more in omega (arith, l, t.within);
  taken = t.taken ∙ ap (grown before) (sym (take-append-le t.count first more t.within));
}

-- ---- one move

abbrev told_by : List Event → Reply → Told
told_by events reply = record { events = events; reply = reply }

told_lines-append : (ts us : List Told) → told_lines (ts ++ us) ≡ told_lines ts ++ told_lines us
told_lines-append ts us = flat_map-append told_line ts us

-- the lines of a single move
line_alone : (t : Told) → told_line t ≡ told_lines (t ∷ [])
line_alone t = sym (append-nil (told_line t))

module _ (set : ModuleSet) (s : State) (m : Move) (l : Live) (reply : Reply) (events : List Event) (acts : Acts (play set s m) reply l [] events) where
  -- the text of the move's events and reply
  pub move_told : (text : List ℕ) → text ≡ told_line (told_by events reply) → text ≡ told_lines (plays set s (m ∷ [])).told
  move_told text e =
      e ∙ ap (λ (events : List Event). told_line (told_by events reply)) acts.events ∙ ap (λ (reply : Reply). told_line (told_by (play set s m).events reply)) acts.reply
      ∙ line_alone (told_of (play set s m))

  -- it was taken
  pub move_whole : (text : List ℕ) (taken took : Option (List ℕ)) → text ≡ told_line (told_by events reply) → took ≡ grown taken text
      → (took ≡ grown taken (told_lines (plays set s (m ∷ [])).told)) × StandsFor l (plays set s (m ∷ [])).state
  move_whole text taken took e t = (t ∙ ap (grown taken) (move_told text e), acts.stands)

  -- a prefix of it was
  pub move_half : (text : List ℕ) (taken took : Option (List ℕ)) → text ≡ told_line (told_by events reply) → TookPrefix taken took text → TookPrefix taken took (told_lines (plays set s (m ∷ [])).told)
  move_half text taken took e t = subst (λ (l : List ℕ). TookPrefix taken took l) (move_told text e) t

-- ---- moves behind others

-- so far moves have told this, and a state is reached from which the others are made
pub record Reached (set : ModuleSet) (first : State) (moves rest : List Move) (l : Live) (taken took : Option (List ℕ)) : Type 0 where
  pub state : State
  pub stands : StandsFor l state
  pub told : List Told
  pub tells : (plays set first moves).told ≡ told ++ (plays set state rest).told
  pub leads : (plays set first moves).state ≡ (plays set state rest).state
  pub lines : took ≡ grown taken (told_lines told)

-- before the first
pub not_begun : (set : ModuleSet) (s : State) (moves : List Move) (l : Live) (taken : Option (List ℕ)) → StandsFor l s → Reached set s moves moves l taken taken
not_begun set s moves l taken st = record { state = s; stands = st; told = []; tells = refl; leads = refl; lines = none taken }
  where
    none : (o : Option (List ℕ)) → o ≡ grown o []
    none None = refl
    none (Some t) = ap Some (sym (append-nil t))

module _ (set : ModuleSet) (first : State) (moves rest : List Move) (m : Move) (before after : Live) (taken middle : Option (List ℕ)) (r : Reached set first moves (m ∷ rest) before taken middle) where
  abbrev here : Told
  here = told_of (play set r.state m)

  -- one more is made
  pub one_more : (took : Option (List ℕ)) → Sessions.Told {E = ℕ} (plays set r.state (m ∷ [])) (Ok tt) after middle took → Reached set first moves rest after taken took
  one_more took h = record {
    state = (play set r.state m).state;
    stands = h.1;
    told = r.told ++ here ∷ [];
    tells = r.tells ∙ sym (append_assoc r.told (here ∷ []) (plays set (play set r.state m).state rest).told);
    leads = r.leads;
    lines = took_both taken middle took (told_lines r.told) (told_lines (here ∷ [])) r.lines h.0 ∙ ap (grown taken) (sym (told_lines-append r.told (here ∷ [])));
  }

  -- or only a prefix of what it tells was taken
  pub stopped : (took : Option (List ℕ)) → TookPrefix middle took (told_lines (plays set r.state (m ∷ [])).told) → TookPrefix taken took (told_lines (plays set first moves).told)
  stopped took h =
      let lines : told_lines (plays set first moves).told ≡ (told_lines r.told ++ told_lines (here ∷ [])) ++ told_lines (plays set (play set r.state m).state rest).told =
      ap told_lines (r.tells ∙ sym (append_assoc r.told (here ∷ []) (plays set (play set r.state m).state rest).told))
      ∙ told_lines-append (r.told ++ here ∷ []) (plays set (play set r.state m).state rest).told
      ∙ ap (λ (l : List ℕ). l ++ told_lines (plays set (play set r.state m).state rest).told) (told_lines-append r.told (here ∷ [])) in
      subst (λ (l : List ℕ). TookPrefix taken took l) (sym lines)
      (took_less taken took (told_lines r.told ++ told_lines (here ∷ [])) (told_lines (plays set (play set r.state m).state rest).told) (took_more taken middle took (told_lines r.told) (told_lines (here ∷ [])) r.lines h))

-- all are made
pub all_made : (set : ModuleSet) (first : State) (moves rest : List Move) (l : Live) (taken took : Option (List ℕ)) → rest ≡ [] → Reached set first moves rest l taken took
    → (took ≡ grown taken (told_lines (plays set first moves).told)) × StandsFor l (plays set first moves).state
all_made set first moves rest l taken took e before =
    let r : Reached set first moves [] l taken took = subst (λ (rest : List Move). Reached set first moves rest l taken took) e before in (
      r.lines ∙ ap (λ (ts : List Told). grown taken (told_lines ts)) (sym (append-nil r.told) ∙ sym r.tells),
      subst (StandsFor l) (sym r.leads) r.stands,
    )

-- what is left of a list from an index on
pub rest_is : (moves : List Move) (i : ℕ) (m : Move) → i < length moves → slice_get moves i ≡ Some m → drop i moves ≡ m ∷ drop (i + 1) moves
rest_is moves i m lt e =
    let q : Some (get_or moves i m) ≡ Some m = sym (slice_get-get_or moves i m lt) ∙ e in
    let n : get_or moves i m ≡ m = cc in
    drop_more moves i m lt ∙ ap (λ (x : Move). x ∷ drop (i + 1) moves) n

-- ---- two moves

two_lines : (a b : List ℕ) → (a ++ []) ++ b ≡ a ++ b
two_lines a b = ap (λ (l : List ℕ). l ++ b) (append-nil a)

module _ (set : ModuleSet) (s : State) (m n : Move) (taken middle took : Option (List ℕ)) where
  abbrev first : List ℕ
  first = told_line (told_of (play set s m))

  abbrev second : List ℕ
  second = told_line (told_of (play set (play set s m).state n)) ++ []

  -- behind the whole first one
  pub both_moves : {E : Type 0} (r : Result (Unit {0}) E) (l : Live) → middle ≡ grown taken (told_lines (plays set s (m ∷ [])).told) → Sessions.Told (plays set (play set s m).state (n ∷ [])) r l middle took
      → Sessions.Told (plays set s (m ∷ n ∷ [])) r l taken took
  both_moves (Ok u) l e h = (took_both taken middle took (first ++ []) second e h.0 ∙ ap (grown taken) (two_lines first second), h.1)
  both_moves (Err fault) l e h = subst (λ (x : List ℕ). TookPrefix taken took x) (two_lines first second) (took_more taken middle took (first ++ []) second e h)

  -- a prefix of the first one
  pub first_half : TookPrefix taken took (told_lines (plays set s (m ∷ [])).told) → TookPrefix taken took (told_lines (plays set s (m ∷ n ∷ [])).told)
  first_half h = subst (λ (x : List ℕ). TookPrefix taken took x) (two_lines first second) (took_less taken took (first ++ []) second h)
