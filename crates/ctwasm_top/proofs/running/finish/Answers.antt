use Rattle.std.proofs.Common.{Result, Err, IsOk, sym, inl, inr, refl, ap, ◌∙◌, subst}
use Rattle.ctw_io.specs.declared.Fault.{Fault}
use Rattle.ctw_io.proofs.Taking.{took_all}
use Rattle.ctw_inputs.specs.declared.said.Status.TheVariants.{WriteFault, NoMemory}
use Rattle.ctwasm_top.specs.Sessions.{Writes}
use Rattle.ctwasm_top.proofs.Ending.{saved_whole, saved_half, ended_early}
use Rattle.ctwasm_top.proofs.running.finish.Goals as goal

pub returns-in-Err-Failed-clause-did : goal.returns-in-Err-Failed-clause-did
returns-in-Err-Failed-clause-did g c = λ files o taken took told saved wrote.
    ended_early WriteFault files (g.F.Shelf.files c.args.shelf.now) o taken took (inl refl) told (subst (λ (r : Result (Unit {0}) Fault). Writes r o.out taken took) c.in-Err-Failed.is wrote)

pub returns-in-Err-NoMemory-clause-did : goal.returns-in-Err-NoMemory-clause-did
returns-in-Err-NoMemory-clause-did g c = λ files o taken took told saved wrote.
    ended_early NoMemory files (g.F.Shelf.files c.args.shelf.now) o taken took (inr refl) told (subst (λ (r : Result (Unit {0}) Fault). Writes r o.out taken took) c.in-Err-NoMemory.is wrote)

pub returns-in-Ok-save-clause-did : goal.returns-in-Ok-save-clause-did
returns-in-Ok-save-clause-did g c = λ files o taken took told saved wrote.
    saved_whole files (g.F.Shelf.files c.save.new.self) o c.args.name.now c.args.sealed.now taken took (saved (subst (λ (r : Result (Unit {0}) Fault). IsOk r) (sym c.in-Ok.is) refl)) (c.in-Ok-save.ensures.saved files told)
    (subst (λ (r : Result (Unit {0}) Fault). Writes r o.out taken took) c.in-Ok.is wrote)

pub returns-in-Err-Failed-save-clause-did : goal.returns-in-Err-Failed-save-clause-did
returns-in-Err-Failed-save-clause-did g c = λ files o taken took told saved wrote.
    saved_half files (g.F.Shelf.files c.save.new.self) o c.args.name.now c.args.sealed.now taken took (saved (subst (λ (r : Result (Unit {0}) Fault). IsOk r) (sym c.in-Ok.is) refl))
    (c.save.ensures.failed files told (c.in-Err-Failed-save.is ∙ ap (λ (f : Fault). Err f) c.in-Err-Failed-save.field-0-is)) (subst (λ (r : Result (Unit {0}) Fault). Writes r o.out taken took) c.in-Ok.is wrote)

pub returns-in-Err-NoMemory-save-clause-did : goal.returns-in-Err-NoMemory-save-clause-did
returns-in-Err-NoMemory-save-clause-did g c = λ files o taken took told saved wrote.
    ended_early NoMemory files (g.F.Shelf.files c.save.new.self) o taken took (inr refl)
    (c.save.ensures.memory (c.in-Err-NoMemory-save.is ∙ ap (λ (f : Fault). Err f) c.in-Err-NoMemory-save.field-0-is) ∙ told)
    (took_all taken took o.out (subst (λ (r : Result (Unit {0}) Fault). Writes r o.out taken took) c.in-Ok.is wrote))
