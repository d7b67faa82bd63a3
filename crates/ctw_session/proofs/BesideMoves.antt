-- A move of a session, of states that agree, and of the erased state.
use Rattle.std.proofs.Common.{◌≡◌, List, ◌++◌, Result, Ok, Err, IfOk, sym, ap, ◌∙◌, subst}
use Rattle.ctw_script.specs.declared.event.Event.{Event}
use Rattle.ctw_script.specs.declared.moves.Move.{Move}
use Rattle.ctw_script.specs.declared.moves.Move.TheVariants.{Begin, Turn, Leave, Poke, Peek, Seal, Reveal}
use Rattle.ctw_script.specs.declared.reply.Reply.{Reply}
use Rattle.ctw_link.specs.Sets.{ModuleSet, set_of}
use Rattle.ctw_moves.specs.States.{State, Played}
use Rattle.ctw_moves.specs.Moves.{play}
use Rattle.ctw_moves.specs.SeenStates.{Agree}
use Rattle.ctw_moves.proofs.AlikeMoves as AlikeMoves
use Rattle.ctw_moves.proofs.ErasedMoves as ErasedMoves
use Rattle.ctw_session.specs.declared.live.Live.{Live}
use Rattle.ctw_session.specs.declared.fault.ActNoMemory.{ActNoMemory}
use Rattle.ctw_session.specs.LiveStates.{StandsFor, Acts, Lacks}
use Rattle.ctw_session.specs.Beside.{ActsBeside, ActsErased}
use Rattle.ctw_session.proofs.Kept.{Tells}

pub beside : (set : ModuleSet) (s t : State) (m : Move) (r : Reply) (l : Live) (before after : List Event) → Agree s t → (play set s m).releases ≡ (play set t m).releases → Acts (play set s m) r l before after → ActsBeside (play set t m) r l before after
beside set s t m r l before after a e h =
    let same = AlikeMoves.move_alike set s t m a e in
    record {
      reply = h.reply ∙ ap (λ (p : Played). p.reply) same;
      events = h.events ∙ ap (λ (p : Played). before ++ p.events) same;
      state = (play set s m).state;
      stands = h.stands;
      agrees = ap (λ (p : Played). p.state) same;
    }

pub isolated : (l l' : Live) (s t : State) (m : Move) (r : Result Reply ActNoMemory) (before after : List Event) → Agree s t → (play (set_of l.set) s m).releases ≡ (play (set_of l.set) t m).releases → Tells l s m r l' before after
    → IfOk r (λ x. ActsBeside (play (set_of l.set) t m) x l' before after)
isolated l l' s t m (Ok x) before after a e h = beside (set_of l.set) s t m x l' before after a e h
isolated l l' s t m (Err x) before after a e h = tt

pub erased : (l l' : Live) (s : State) (m : Move) (r : Result Reply ActNoMemory) (before after : List Event) → StandsFor l s → Tells l s m r l' before after → IfOk r (λ x. ActsErased (set_of l.set) s m x l' before after)
erased l l' s m (Err x) before after st h = tt
erased l l' s m (Ok x) before after st h =
    let set = set_of l.set in
    subst (λ (x : Reply). ActsErased set s m x l' before after) (sym h.reply) (record {
      state = (play set s m).state;
      stands = h.stands;
      reply = λ out. ap (λ (p : Played). p.reply) (ErasedMoves.play_erased set s st.sound m out);
      events = λ out. h.events ∙ ap (λ (p : Played). before ++ p.events) (sym (ErasedMoves.play_erased set s st.sound m out));
      leaves = λ out. ap (λ (p : Played). p.state) (ErasedMoves.play_erased set s st.sound m out);
      stays = λ out. ErasedMoves.left_out_keeps set s st.sound m out;
    })

-- the state that is left
pub stands_after : (l l' : Live) (s : State) (m : Move) (r : Result Reply ActNoMemory) (before after : List Event) → Tells l s m r l' before after → (t : State) × StandsFor l' t
stands_after l l' s m (Ok x) before after h = ((play (set_of l.set) s m).state, h.stands)
stands_after l l' s m (Err x) before after h = lacking m h
  where
    lacking : (m : Move) → Lacks (set_of l.set) s m x.steps l' before after → (t : State) × StandsFor l' t
    lacking (Begin slot part export args) h = (s, h.2)
    lacking (Turn slot steps) h = ((play (set_of l.set) s (Turn slot x.steps)).state, h.2)
    lacking (Leave slot) h = (s, h.2)
    lacking (Poke part memory at bytes) h = (s, h.2)
    lacking (Peek part memory at count) h = (s, h.2)
    lacking (Seal part memory at count) h = (s, h.2)
    lacking (Reveal part memory at count) h = (s, h.2)

-- a session that is seen as another value
pub seen_tells : (inside l l' : Live) (m : Move) (r : Result Reply ActNoMemory) (before after : List Event) → inside ≡ l → ((s : State) → StandsFor inside s → Tells inside s m r l' before after) → (s : State) → StandsFor l s → Tells l s m r l' before after
seen_tells inside l l' m r before after e h = subst (λ (x : Live). (s : State) → StandsFor x s → Tells x s m r l' before after) e h
