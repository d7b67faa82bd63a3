-- What a command that was read stands for.
use Rattle.ctw_words.specs.declared.words.Command.{Command}
use Rattle.ctw_words.specs.declared.words.Command.TheVariants as read
use Rattle.ctw_words.specs.Words as words

abbrev pub command_in : Command → words.Command
command_in (read.Check profile file) = words.Check profile file.now
command_in (read.Canon file) = words.Canon file.now
command_in (read.Assemble file) = words.Assemble file.now
command_in (read.Text profile file) = words.Text profile file.now
command_in (read.Infer profile file marks) = words.Infer profile file.now marks.now
command_in (read.Strip profile file) = words.Strip profile file.now
command_in (read.Link profile parts) = words.Link profile parts
command_in (read.Run profile run) = words.Run profile run
command_in (read.Once profile once) = words.Once profile once
command_in (read.Work profile seed size) = words.Work profile seed size
