-- Moves of bytes keep what stands in the slots.
use Rattle.std.proofs.Common.{◌≡◌, ℕ, List, Result, Ok, Err, MatchResult, refl, sym, ap, ◌∙◌, subst, append-nil}
use Rattle.std.specs.List.{AllZip}
use Rattle.std.specs.declared.alloc.AllocError.{AllocError}
use Rattle.ctw_script.specs.declared.event.Event.{Event}
use Rattle.ctw_script.specs.declared.moves.Move.{Move}
use Rattle.ctw_script.specs.declared.moves.Move.TheVariants.{Begin, Turn, Leave, Poke, Peek, Seal, Reveal}
use Rattle.ctw_script.specs.declared.moves.Arg.{Arg}
use Rattle.ctw_session.specs.declared.fault.ActNoMemory.{ActNoMemory}
use Rattle.ctw_script.specs.declared.reply.Reply.{Reply}
use Rattle.ctw_semantics.specs.Sound.{Shape, SoundStorage, shape_of}
use Rattle.ctw_link.specs.Sets.{set_of}
use Rattle.ctw_moves.specs.States.{State, Played, answered}
use Rattle.ctw_moves.specs.Moves.{play}
use Rattle.ctw_moves.specs.SoundStates.{SoundState, HasBytes, AreBytes}
use Rattle.ctw_moves.proofs.SoundMoves.{play_sound}
use Rattle.ctw_session.specs.declared.live.Live.{Live}
use Rattle.ctw_session.specs.LiveStates.{SlotStands, StandsFor, Acts, Lacks}
use Rattle.ctw_session.specs.Room.{IsStoreOf}
use Rattle.ctw_session.proofs.Acting.{stands_again}

module _ (l : Live) (s : State) (st : StandsFor l s) where
  pub store_of : IsStoreOf l.set l.store.storage
  store_of = record { shape = st.sound.shape; declared = st.sound.declared; storage = subst (SoundStorage st.sound.shape) (sym st.storage) st.sound.storage }

  -- the slots stay, and the shape of the store with them
  kept : (l' : Live) (m : Move) → HasBytes m → (r : Reply) (s' : State) (ev : List Event) → play (set_of l.set) s m ≡ answered r s' → s'.slots ≡ s.slots → shape_of s'.storage ≡ shape_of s.storage
      → l'.set ≡ l.set → l'.slots.items ≡ l.slots.items → l'.store.storage ≡ s'.storage → l'.vault ≡ s'.vault → l'.sealed.items ≡ s'.sealed → Acts (play (set_of l.set) s m) r l' ev ev
  kept l' m b r s' ev q same shapes es ec et evt ek =
      let slots : AllZip (SlotStands l.set (shape_of s'.storage)) l'.slots.items s'.slots =
      subst (λ (x : Shape). AllZip (SlotStands l.set x) l'.slots.items s'.slots) (sym shapes)
      (subst (λ cs. AllZip (SlotStands l.set (shape_of s.storage)) cs s'.slots) (sym ec) (subst (AllZip (SlotStands l.set (shape_of s.storage)) l.slots.items) (sym same) st.slots)) in
      subst (λ p. Acts p r l' ev ev) (sym q) (record {
        reply = refl;
        events = sym (append-nil ev);
        stands = stands_again l l' s' es (subst (λ (p : Played). SoundState (set_of l.set) p.state) q (play_sound (set_of l.set) s st.sound m b)) et slots evt ek;
      })

  unchanged : (l' : Live) → l'.set ≡ l.set → l'.slots.items ≡ l.slots.items → l'.store.storage ≡ l.store.storage → l'.vault ≡ l.vault → l'.sealed.items ≡ l.sealed.items → StandsFor l' s
  unchanged l' es ec et evt ek =
      stands_again l l' s es st.sound (et ∙ st.storage) (subst (λ cs. AllZip (SlotStands l.set (shape_of s.storage)) cs s.slots) (sym ec) st.slots) (evt ∙ st.vault) (ek ∙ st.sealed)

  module _ (l' : Live) (ev : List Event) (part memory : List ℕ) (at : ℕ) (es : l'.set ≡ l.set) (ec : l'.slots.items ≡ l.slots.items) where
    pub poke_acts : (bytes : List ℕ) → AreBytes bytes → l'.vault ≡ l.vault → l'.sealed.items ≡ l.sealed.items → shape_of l'.store.storage ≡ shape_of l.store.storage → (r : Result Reply AllocError)
        → MatchResult r (λ x. play (set_of l.set) s (Poke part memory at bytes) ≡ answered x (record s { storage = l'.store.storage })) (λ _. l'.store.storage ≡ l.store.storage)
        → MatchResult r (λ x. Acts (play (set_of l.set) s (Poke part memory at bytes)) x l' ev ev) (λ _. StandsFor l' s)
    poke_acts bytes b evt ek shape (Ok x) h = kept l' (Poke part memory at bytes) b x (record s { storage = l'.store.storage }) ev h refl (shape ∙ ap shape_of st.storage) es ec refl (evt ∙ st.vault) (ek ∙ st.sealed)
    poke_acts bytes b evt ek shape (Err x) h = unchanged l' es ec h evt ek

    pub peek_acts : (count : ℕ) → l'.vault ≡ l.vault → l'.sealed.items ≡ l.sealed.items → l'.store.storage ≡ l.store.storage → (r : Result Reply AllocError)
        → MatchResult r (λ x. play (set_of l.set) s (Peek part memory at count) ≡ answered x s) (λ _. Unit {0})
        → MatchResult r (λ x. Acts (play (set_of l.set) s (Peek part memory at count)) x l' ev ev) (λ _. StandsFor l' s)
    peek_acts count evt ek et (Ok x) h = kept l' (Peek part memory at count) tt x s ev h refl refl es ec (et ∙ st.storage) (evt ∙ st.vault) (ek ∙ st.sealed)
    peek_acts count evt ek et (Err x) h = unchanged l' es ec et evt ek

    pub seal_acts : (count : ℕ) → l'.sealed.items ≡ l.sealed.items → shape_of l'.store.storage ≡ shape_of l.store.storage → (r : Result Reply AllocError)
        → MatchResult r (λ x. play (set_of l.set) s (Seal part memory at count) ≡ answered x (record s { storage = l'.store.storage; vault = l'.vault })) (λ _. (l'.store.storage ≡ l.store.storage) × (l'.vault ≡ l.vault))
        → MatchResult r (λ x. Acts (play (set_of l.set) s (Seal part memory at count)) x l' ev ev) (λ _. StandsFor l' s)
    seal_acts count ek shape (Ok x) h = kept l' (Seal part memory at count) tt x (record s { storage = l'.store.storage; vault = l'.vault }) ev h refl (shape ∙ ap shape_of st.storage) es ec refl refl (ek ∙ st.sealed)
    seal_acts count ek shape (Err x) h = unchanged l' es ec h.0 h.1 ek

    pub reveal_acts : (count : ℕ) → l'.vault ≡ l.vault → l'.store.storage ≡ l.store.storage → (r : Result Reply AllocError)
        → MatchResult r (λ x. play (set_of l.set) s (Reveal part memory at count) ≡ answered x (record s { sealed = l'.sealed.items })) (λ _. l'.sealed.items ≡ l.sealed.items)
        → MatchResult r (λ x. Acts (play (set_of l.set) s (Reveal part memory at count)) x l' ev ev) (λ _. StandsFor l' s)
    reveal_acts count evt et (Ok x) h = kept l' (Reveal part memory at count) tt x (record s { sealed = l'.sealed.items }) ev h refl refl es ec (et ∙ st.storage) (evt ∙ st.vault) refl
    reveal_acts count evt et (Err x) h = unchanged l' es ec et evt h

-- ---- all moves

abbrev pub Tells : Live → State → Move → Result Reply ActNoMemory → Live → List Event → List Event → Type 0
Tells l s m r l' before after = MatchResult r (λ x. Acts (play (set_of l.set) s m) x l' before after) (λ e. Lacks (set_of l.set) s m e.steps l' before after)

pub same_move : (l : Live) (s : State) (m mv : Move) (r : Result Reply ActNoMemory) (l' : Live) (before after : List Event) → mv ≡ m → Tells l s m r l' before after → Tells l s mv r l' before after
same_move l s m mv r l' before after e h = subst (λ (x : Move). Tells l s x r l' before after) (sym e) h

pub converted : (l : Live) (s : State) (m : Move) (told : Result Reply AllocError) (r : Result Reply ActNoMemory) (l' : Live) (ev : List Event) → (StandsFor l' s → Lacks (set_of l.set) s m 0 l' ev ev)
    → MatchResult told (λ x. r ≡ Ok x) (λ _. r ≡ Err (record { steps = 0 })) → MatchResult told (λ x. Acts (play (set_of l.set) s m) x l' ev ev) (λ _. StandsFor l' s) → Tells l s m r l' ev ev
converted l s m (Ok x) r l' ev lacks e h = subst (λ (r : Result Reply ActNoMemory). Tells l s m r l' ev ev) (sym e) h
converted l s m (Err x) r l' ev lacks e h = subst (λ (r : Result Reply ActNoMemory). Tells l s m r l' ev ev) (sym e) (lacks h)

module _ (mv : Move) where
  pub begin_same : (a a' : ℕ) (b b' c c' : List ℕ) (d d' : List Arg) → mv ≡ Begin a b c d → a' ≡ a → b' ≡ b → c' ≡ c → d' ≡ d → mv ≡ Begin a' b' c' d'
  begin_same a a' b b' c c' d d' e f g h k = cc

  pub turn_same : (a a' b : ℕ) → mv ≡ Turn a b → a' ≡ a → mv ≡ Turn a' b
  turn_same a a' b e f = cc

  pub leave_same : (a a' : ℕ) → mv ≡ Leave a → a' ≡ a → mv ≡ Leave a'
  leave_same a a' e f = cc

  pub poke_same : (a a' b b' : List ℕ) (at : ℕ) (d d' : List ℕ) → mv ≡ Poke a b at d → a' ≡ a → b' ≡ b → d' ≡ d → mv ≡ Poke a' b' at d'
  poke_same a a' b b' at d d' e f g h = cc

  pub peek_same : (a a' b b' : List ℕ) (at count : ℕ) → mv ≡ Peek a b at count → a' ≡ a → b' ≡ b → mv ≡ Peek a' b' at count
  peek_same a a' b b' at count e f g = cc

  pub seal_same : (a a' b b' : List ℕ) (at count : ℕ) → mv ≡ Seal a b at count → a' ≡ a → b' ≡ b → mv ≡ Seal a' b' at count
  seal_same a a' b b' at count e f g = cc

  pub reveal_same : (a a' b b' : List ℕ) (at count : ℕ) → mv ≡ Reveal a b at count → a' ≡ a → b' ≡ b → mv ≡ Reveal a' b' at count
  reveal_same a a' b b' at count e f g = cc
