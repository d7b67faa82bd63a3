use Rattle.std.proofs.Common.{ℕ, List, ap, ◌∙◌, arith}
use Rattle.ctw_script.specs.declared.reply.Refusal.TheVariants.{WrongLabel, SealedFull}
use Rattle.ctw_moves.specs.States.{refused}
use Rattle.ctw_link.specs.Sets.{set_of}
use Rattle.ctw_session.proofs.MemoryMoves.{room_there, room_for, room_bytes, reveal_public, reveal_full, revealed}
use Rattle.ctw_session.proofs.memories.reveal.Goals as goal

pub returns-in-Public : goal.returns-in-Public
returns-in-Public c = λ s e b.
    let m = c.in-Ok.ensures.room in
    reveal_public (set_of c.args.set.now) s c.args.part.now c.args.memory.now c.args.at c.in-Ok.found c.args.store.now.storage _ m.0 e m.1 c.args.count (c.in-Ok.ensures.places s e) c.in-Public.is
    ∙ ap (λ (x : List ℕ). refused WrongLabel (record s { sealed = x })) b

pub returns-then-len-count-gt-MOST_SEALED : goal.returns-then-len-count-gt-MOST_SEALED
returns-then-len-count-gt-MOST_SEALED c = λ s e b.
    let m = c.in-Ok.ensures.room in
    reveal_full (set_of c.args.set.now) s c.args.part.now c.args.memory.now c.args.at c.in-Ok.found c.args.store.now.storage _ m.0 e m.1 c.args.count (c.in-Ok.ensures.places s e) c.args.sealed.now.items c.in-Secret.is b (omega (arith, c.len.ensures, c.if-len-count-gt-MOST_SEALED.true))
    ∙ ap (λ (x : List ℕ). refused SealedFull (record s { sealed = x })) b

pub read_bytes-requires-clause-there : goal.read_bytes-requires-clause-there
read_bytes-requires-clause-there c = let m = c.in-Ok.ensures.room in room_there _ _ _ m.0 m.1

pub read_bytes-requires-clause-inside : goal.read_bytes-requires-clause-inside
read_bytes-requires-clause-inside c = let m = c.in-Ok.ensures.room in room_for _ _ _ m.0 m.1

pub read_bytes-requires-clause-bytes : goal.read_bytes-requires-clause-bytes
read_bytes-requires-clause-bytes c = let m = c.in-Ok.ensures.room in room_bytes _ _ _ m.0 m.1

pub returns-in_ok-read_bytes-in-Secret : goal.returns-in_ok-read_bytes-in-Secret
returns-in_ok-read_bytes-in-Secret c = λ s e b.
    let m = c.in-Ok.ensures.room in
    revealed (set_of c.args.set.now) s c.args.part.now c.args.memory.now c.args.at c.in-Ok.found c.args.store.now.storage _ m.0 e m.1 c.args.count (c.in-Ok.ensures.places s e) c.args.sealed.now.items c.read_bytes.new.out.items c.in-Secret.is b
    (omega (arith, c.len.ensures, c.if-len-count-gt-MOST_SEALED.false)) (c.in_ok-read_bytes-in-Secret.ensures m.0 m.1.there)
