use Rattle.std.proofs.Common.{[], inl, Some, Ok, map, string_bytes, sym, ap, ◌∙◌}
use Rattle.ctw_words.specs.declared.words.Command.{Command}
use Rattle.ctwasm_top.specs.Usage.{usage_text}
use Rattle.ctw_words.specs.Commands.{command_in}
use Rattle.ctwasm_top.specs.Texts.{IsReadBack}
use Rattle.ctwasm_top.proofs.ReadBack.{settled_back}
use Rattle.ctwasm_top.proofs.Dispatched.{on_command, reads_command, command_reads, command_causes, nothing_found, says_command, says_inferred, did_work, work_causes, settled_causes, written_causes}
use Rattle.ctw_words.proofs.WorkWords.{work_numbers}
use Rattle.ctwasm_top.proofs.dispatch.Goals as goal

-- ---- wrong words

pub returns-in-None-clause-did : goal.returns-in-None-clause-did
unfolding usage_text
returns-in-None-clause-did g c = λ files reading told h. on_command (map string_bytes c.args.words.now) files _ (sym c.in-None.ensures) reading nothing_found c.say.result _ _ _ (inl tt) (record { files = files; told = told; did = c.say.ensures.did files })

pub returns-in-None-clause-read : goal.returns-in-None-clause-read
returns-in-None-clause-read g c = λ files told done. (Ok [], command_reads (map string_bytes c.args.words.now) files _ (sym c.in-None.ensures) (Ok []) tt)

pub returns-in-None-clause-causes : goal.returns-in-None-clause-causes
returns-in-None-clause-causes g c = command_causes (map string_bytes c.args.words.now) _ (sym c.in-None.ensures) c.say.result _ _ _ _ _ _ (written_causes c.say.result _ _ _ _ _ c.say.ensures.write c.say.ensures.quiet)

pub returns-in-None-clause-no_form : goal.returns-in-None-clause-no_form
unfolding usage_text
returns-in-None-clause-no_form g c = λ files e. c.say.ensures.did files

-- ---- texts

pub returns-in-Some-Check-clause-did : goal.returns-in-Some-Check-clause-did
returns-in-Some-Check-clause-did g c = λ files reading told h.
    says_command (map string_bytes c.args.words.now) files _ (sym c.in-Some-Check.ensures ∙ ap (λ (k : Command). Some (command_in k)) c.in-Some-Check.field-0-is) reading nothing_found c.settle.result c.check_file.result _ _ _ _ told c.check_file.ensures.unchanged (inl tt) (c.check_file.ensures.told files told) c.settle.ensures.did

pub returns-in-Some-Check-clause-read : goal.returns-in-Some-Check-clause-read
returns-in-Some-Check-clause-read g c = λ files told done. (Ok [], command_reads (map string_bytes c.args.words.now) files _ (sym c.in-Some-Check.ensures ∙ ap (λ (k : Command). Some (command_in k)) c.in-Some-Check.field-0-is) (Ok []) tt)

pub returns-in-Some-Check-clause-causes : goal.returns-in-Some-Check-clause-causes
returns-in-Some-Check-clause-causes g c =
    command_causes (map string_bytes c.args.words.now) _ (sym c.in-Some-Check.ensures ∙ ap (λ (k : Command). Some (command_in k)) c.in-Some-Check.field-0-is) c.settle.result _ _ _ _ _ _
    (settled_causes _ c.settle.result c.check_file.result _ _ _ _ _ _ tt c.check_file.ensures.cause c.settle.ensures.read c.settle.ensures.write c.settle.ensures.quiet)

pub returns-in-Some-Canon-clause-did : goal.returns-in-Some-Canon-clause-did
returns-in-Some-Canon-clause-did g c = λ files reading told h.
    says_command (map string_bytes c.args.words.now) files _ (sym c.in-Some-Canon.ensures ∙ ap (λ (k : Command). Some (command_in k)) c.in-Some-Canon.field-0-is) reading nothing_found c.settle-in-Some-Canon.result c.canon_file.result _ _ _ _ told c.canon_file.ensures.unchanged (inl tt) (c.canon_file.ensures.told files told) c.settle-in-Some-Canon.ensures.did

pub returns-in-Some-Canon-clause-read : goal.returns-in-Some-Canon-clause-read
returns-in-Some-Canon-clause-read g c = λ files told done. (Ok [], command_reads (map string_bytes c.args.words.now) files _ (sym c.in-Some-Canon.ensures ∙ ap (λ (k : Command). Some (command_in k)) c.in-Some-Canon.field-0-is) (Ok []) tt)

pub returns-in-Some-Canon-clause-causes : goal.returns-in-Some-Canon-clause-causes
returns-in-Some-Canon-clause-causes g c =
    command_causes (map string_bytes c.args.words.now) _ (sym c.in-Some-Canon.ensures ∙ ap (λ (k : Command). Some (command_in k)) c.in-Some-Canon.field-0-is) c.settle-in-Some-Canon.result _ _ _ _ _ _
    (settled_causes _ c.settle-in-Some-Canon.result c.canon_file.result _ _ _ _ _ _ tt c.canon_file.ensures.cause c.settle-in-Some-Canon.ensures.read c.settle-in-Some-Canon.ensures.write c.settle-in-Some-Canon.ensures.quiet)

pub returns-in-Some-Assemble-clause-did : goal.returns-in-Some-Assemble-clause-did
returns-in-Some-Assemble-clause-did g c = λ files reading told h.
    says_command (map string_bytes c.args.words.now) files _ (sym c.in-Some-Assemble.ensures ∙ ap (λ (k : Command). Some (command_in k)) c.in-Some-Assemble.field-0-is) reading nothing_found c.settle-in-Some-Assemble.result c.assemble_file.result _ _ _ _ told c.assemble_file.ensures.unchanged (inl tt) (c.assemble_file.ensures.told files told) c.settle-in-Some-Assemble.ensures.did

pub returns-in-Some-Assemble-clause-read : goal.returns-in-Some-Assemble-clause-read
returns-in-Some-Assemble-clause-read g c = λ files told done. (Ok [], command_reads (map string_bytes c.args.words.now) files _ (sym c.in-Some-Assemble.ensures ∙ ap (λ (k : Command). Some (command_in k)) c.in-Some-Assemble.field-0-is) (Ok []) tt)

pub returns-in-Some-Assemble-clause-causes : goal.returns-in-Some-Assemble-clause-causes
returns-in-Some-Assemble-clause-causes g c =
    command_causes (map string_bytes c.args.words.now) _ (sym c.in-Some-Assemble.ensures ∙ ap (λ (k : Command). Some (command_in k)) c.in-Some-Assemble.field-0-is) c.settle-in-Some-Assemble.result _ _ _ _ _ _
    (settled_causes _ c.settle-in-Some-Assemble.result c.assemble_file.result _ _ _ _ _ _ tt c.assemble_file.ensures.cause c.settle-in-Some-Assemble.ensures.read c.settle-in-Some-Assemble.ensures.write c.settle-in-Some-Assemble.ensures.quiet)

pub returns-in-Some-Assemble-clause-back : goal.returns-in-Some-Assemble-clause-back
returns-in-Some-Assemble-clause-back g c = λ files file text told e done there.
    let q = sym (sym c.in-Some-Assemble.ensures ∙ ap (λ (k : Command). Some (command_in k)) c.in-Some-Assemble.field-0-is) ∙ e in
    settled_back c.settle-in-Some-Assemble.result files _ _ (IsReadBack text) done c.assemble_file.result c.settle-in-Some-Assemble.ensures.did c.settle-in-Some-Assemble.ensures.want
    (c.assemble_file.ensures.back files text told cc)

pub returns-in-Some-Text-clause-did : goal.returns-in-Some-Text-clause-did
returns-in-Some-Text-clause-did g c = λ files reading told h.
    says_command (map string_bytes c.args.words.now) files _ (sym c.in-Some-Text.ensures ∙ ap (λ (k : Command). Some (command_in k)) c.in-Some-Text.field-0-is) reading nothing_found c.settle-in-Some-Text.result c.text_file.result _ _ _ _ told c.text_file.ensures.unchanged (inl tt) (c.text_file.ensures.told files told) c.settle-in-Some-Text.ensures.did

pub returns-in-Some-Text-clause-read : goal.returns-in-Some-Text-clause-read
returns-in-Some-Text-clause-read g c = λ files told done. (Ok [], command_reads (map string_bytes c.args.words.now) files _ (sym c.in-Some-Text.ensures ∙ ap (λ (k : Command). Some (command_in k)) c.in-Some-Text.field-0-is) (Ok []) tt)

pub returns-in-Some-Text-clause-causes : goal.returns-in-Some-Text-clause-causes
returns-in-Some-Text-clause-causes g c =
    command_causes (map string_bytes c.args.words.now) _ (sym c.in-Some-Text.ensures ∙ ap (λ (k : Command). Some (command_in k)) c.in-Some-Text.field-0-is) c.settle-in-Some-Text.result _ _ _ _ _ _
    (settled_causes _ c.settle-in-Some-Text.result c.text_file.result _ _ _ _ _ _ tt c.text_file.ensures.cause c.settle-in-Some-Text.ensures.read c.settle-in-Some-Text.ensures.write c.settle-in-Some-Text.ensures.quiet)

pub returns-in-Some-Infer-clause-did : goal.returns-in-Some-Infer-clause-did
returns-in-Some-Infer-clause-did g c = λ files reading told h.
    says_inferred (map string_bytes c.args.words.now) files _ _ _ (sym c.in-Some-Infer.ensures ∙ ap (λ (k : Command). Some (command_in k)) c.in-Some-Infer.field-0-is) reading c.settle-in-Some-Infer.result c.infer_file.result _ _ _ _ told c.infer_file.ensures.unchanged (c.infer_file.ensures.told files told) c.settle-in-Some-Infer.ensures.want
    c.settle-in-Some-Infer.ensures.did

pub returns-in-Some-Infer-clause-read : goal.returns-in-Some-Infer-clause-read
returns-in-Some-Infer-clause-read g c = λ files told done. (Ok [], command_reads (map string_bytes c.args.words.now) files _ (sym c.in-Some-Infer.ensures ∙ ap (λ (k : Command). Some (command_in k)) c.in-Some-Infer.field-0-is) (Ok []) tt)

pub returns-in-Some-Infer-clause-causes : goal.returns-in-Some-Infer-clause-causes
returns-in-Some-Infer-clause-causes g c =
    command_causes (map string_bytes c.args.words.now) _ (sym c.in-Some-Infer.ensures ∙ ap (λ (k : Command). Some (command_in k)) c.in-Some-Infer.field-0-is) c.settle-in-Some-Infer.result _ _ _ _ _ _
    (settled_causes _ c.settle-in-Some-Infer.result c.infer_file.result _ _ _ _ _ _ tt c.infer_file.ensures.cause c.settle-in-Some-Infer.ensures.read c.settle-in-Some-Infer.ensures.write c.settle-in-Some-Infer.ensures.quiet)

pub returns-in-Some-Strip-clause-did : goal.returns-in-Some-Strip-clause-did
returns-in-Some-Strip-clause-did g c = λ files reading told h.
    says_command (map string_bytes c.args.words.now) files _ (sym c.in-Some-Strip.ensures ∙ ap (λ (k : Command). Some (command_in k)) c.in-Some-Strip.field-0-is) reading nothing_found c.settle-in-Some-Strip.result c.strip_file.result _ _ _ _ told c.strip_file.ensures.unchanged (inl tt) (c.strip_file.ensures.told files told) c.settle-in-Some-Strip.ensures.did

pub returns-in-Some-Strip-clause-read : goal.returns-in-Some-Strip-clause-read
returns-in-Some-Strip-clause-read g c = λ files told done. (Ok [], command_reads (map string_bytes c.args.words.now) files _ (sym c.in-Some-Strip.ensures ∙ ap (λ (k : Command). Some (command_in k)) c.in-Some-Strip.field-0-is) (Ok []) tt)

pub returns-in-Some-Strip-clause-causes : goal.returns-in-Some-Strip-clause-causes
returns-in-Some-Strip-clause-causes g c =
    command_causes (map string_bytes c.args.words.now) _ (sym c.in-Some-Strip.ensures ∙ ap (λ (k : Command). Some (command_in k)) c.in-Some-Strip.field-0-is) c.settle-in-Some-Strip.result _ _ _ _ _ _
    (settled_causes _ c.settle-in-Some-Strip.result c.strip_file.result _ _ _ _ _ _ tt c.strip_file.ensures.cause c.settle-in-Some-Strip.ensures.read c.settle-in-Some-Strip.ensures.write c.settle-in-Some-Strip.ensures.quiet)

pub returns-in-Some-Link-clause-did : goal.returns-in-Some-Link-clause-did
returns-in-Some-Link-clause-did g c = λ files reading told h.
    says_command (map string_bytes c.args.words.now) files _ (sym c.in-Some-Link.ensures ∙ ap (λ (k : Command). Some (command_in k)) c.in-Some-Link.field-0-is) reading nothing_found c.settle-in-Some-Link.result c.link_files.result _ _ _ _ told c.link_files.ensures.unchanged (inl tt) (c.link_files.ensures.told files told) c.settle-in-Some-Link.ensures.did

pub returns-in-Some-Link-clause-read : goal.returns-in-Some-Link-clause-read
returns-in-Some-Link-clause-read g c = λ files told done. (Ok [], command_reads (map string_bytes c.args.words.now) files _ (sym c.in-Some-Link.ensures ∙ ap (λ (k : Command). Some (command_in k)) c.in-Some-Link.field-0-is) (Ok []) tt)

pub returns-in-Some-Link-clause-causes : goal.returns-in-Some-Link-clause-causes
returns-in-Some-Link-clause-causes g c =
    command_causes (map string_bytes c.args.words.now) _ (sym c.in-Some-Link.ensures ∙ ap (λ (k : Command). Some (command_in k)) c.in-Some-Link.field-0-is) c.settle-in-Some-Link.result _ _ _ _ _ _
    (settled_causes _ c.settle-in-Some-Link.result c.link_files.result _ _ _ _ _ _ tt c.link_files.ensures.cause c.settle-in-Some-Link.ensures.read c.settle-in-Some-Link.ensures.write c.settle-in-Some-Link.ensures.quiet)

-- ---- runs

pub returns-in-Some-Run-clause-did : goal.returns-in-Some-Run-clause-did
returns-in-Some-Run-clause-did g c = λ files reading told h.
    let e = (sym c.in-Some-Run.ensures ∙ ap (λ (k : Command). Some (command_in k)) c.in-Some-Run.field-0-is) in
    on_command (map string_bytes c.args.words.now) files _ e reading nothing_found c.run.result _ _ _ (inl tt) (c.run.ensures.did files reading told (reads_command (map string_bytes c.args.words.now) files _ e reading h))

pub returns-in-Some-Run-clause-read : goal.returns-in-Some-Run-clause-read
returns-in-Some-Run-clause-read g c = λ files told done.
    let read = c.run.ensures.read files told done in
    (Ok read.0, command_reads (map string_bytes c.args.words.now) files _ (sym c.in-Some-Run.ensures ∙ ap (λ (k : Command). Some (command_in k)) c.in-Some-Run.field-0-is) (Ok read.0) read.1)

pub returns-in-Some-Once-clause-did : goal.returns-in-Some-Once-clause-did
returns-in-Some-Once-clause-did g c = λ files reading told h. on_command (map string_bytes c.args.words.now) files _ (sym c.in-Some-Once.ensures ∙ ap (λ (k : Command). Some (command_in k)) c.in-Some-Once.field-0-is) reading nothing_found c.once.result _ _ _ (inl tt) (c.once.ensures.did files told)

pub returns-in-Some-Once-clause-read : goal.returns-in-Some-Once-clause-read
returns-in-Some-Once-clause-read g c = λ files told done. (Ok [], command_reads (map string_bytes c.args.words.now) files _ (sym c.in-Some-Once.ensures ∙ ap (λ (k : Command). Some (command_in k)) c.in-Some-Once.field-0-is) (Ok []) tt)

pub returns-in-Some-Run-clause-causes : goal.returns-in-Some-Run-clause-causes
returns-in-Some-Run-clause-causes g c = command_causes (map string_bytes c.args.words.now) _ (sym c.in-Some-Run.ensures ∙ ap (λ (k : Command). Some (command_in k)) c.in-Some-Run.field-0-is) c.run.result _ _ _ _ _ _ c.run.ensures.causes

pub returns-in-Some-Once-clause-causes : goal.returns-in-Some-Once-clause-causes
returns-in-Some-Once-clause-causes g c = command_causes (map string_bytes c.args.words.now) _ (sym c.in-Some-Once.ensures ∙ ap (λ (k : Command). Some (command_in k)) c.in-Some-Once.field-0-is) c.once.result _ _ _ _ _ _ c.once.ensures.causes

-- ---- workloads

pub work-requires-clause-seed : goal.work-requires-clause-seed
work-requires-clause-seed g c = (work_numbers (map string_bytes c.args.words.now) _ _ _ (sym c.in-Some-Work.ensures ∙ ap (λ (k : Command). Some (command_in k)) c.in-Some-Work.field-0-is)).0

pub work-requires-clause-size : goal.work-requires-clause-size
work-requires-clause-size g c = (work_numbers (map string_bytes c.args.words.now) _ _ _ (sym c.in-Some-Work.ensures ∙ ap (λ (k : Command). Some (command_in k)) c.in-Some-Work.field-0-is)).1

pub returns-in-Some-Work-clause-did : goal.returns-in-Some-Work-clause-did
returns-in-Some-Work-clause-did g c = λ files reading told h.
    did_work (map string_bytes c.args.words.now) files _ _ _ (sym c.in-Some-Work.ensures ∙ ap (λ (k : Command). Some (command_in k)) c.in-Some-Work.field-0-is) reading c.work.result _ _ _ told (c.work.ensures.did files)

pub returns-in-Some-Work-clause-read : goal.returns-in-Some-Work-clause-read
returns-in-Some-Work-clause-read g c = λ files told done. (Ok [], command_reads (map string_bytes c.args.words.now) files _ (sym c.in-Some-Work.ensures ∙ ap (λ (k : Command). Some (command_in k)) c.in-Some-Work.field-0-is) (Ok []) tt)

pub returns-in-Some-Work-clause-causes : goal.returns-in-Some-Work-clause-causes
returns-in-Some-Work-clause-causes g c =
    command_causes (map string_bytes c.args.words.now) _ (sym c.in-Some-Work.ensures ∙ ap (λ (k : Command). Some (command_in k)) c.in-Some-Work.field-0-is) c.work.result _ _ _ _ _ _ (work_causes _ _ _ c.work.result _ _ _ _ _ c.work.ensures.write c.work.ensures.quiet)
