use Rattle.ctw_text.specs.Fields.{fields_of}
use Rattle.ctw_text.specs.Names.{named}
use Rattle.ctw_parse.specs.Told.{fault_of}
use Rattle.ctw_parse.proofs.LastPasses.{named_written, has_module, named_past, if_ok_three, if_err, if_some}
use Rattle.ctw_parse.proofs.whole.after_pieces.Goals as goal

pub within_limits-requires : goal.within_limits-requires
within_limits-requires c = named_written c.args.ct (fields_of c.args.items.items) c.in-Ok.m c.in-Ok.ensures.module c.requires.written

pub returns-in-Ok-clause-bytes : goal.returns-in-Ok-clause-bytes
returns-in-Ok-clause-bytes c =
    if_ok_three c.within_limits.result (λ bytes none same numbers. has_module c.args.ct (fields_of c.args.items.items) c.in-Ok.m bytes.items c.in-Ok.ensures.module numbers c.requires.same none same) c.within_limits.ensures.none c.within_limits.ensures.bytes c.within_limits.ensures.numbers

pub returns-in-Ok-clause-fault : goal.returns-in-Ok-clause-fault
returns-in-Ok-clause-fault c =
    if_err c.within_limits.result
    (λ f h s. if_some (fault_of f) (λ fault q t. named_past (named c.args.ct (fields_of c.args.items.items)) c.in-Ok.m fault c.in-Ok.ensures.module q t) h s)
    c.within_limits.ensures.fault c.within_limits.ensures.some
