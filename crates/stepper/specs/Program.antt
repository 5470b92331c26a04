-- "The program", document 01: it answers each line as shell/specs/Answers.antt says. Transcript of command/specs says of any program what it writes for an input
-- (`output`), and what a run of it is (`Run`).
-- Assumes nothing.
use Rattle.command.specs.Transcript.{Program}
use Rattle.command.specs.Model.Reading.{command_of}
use Rattle.shell.specs.Answers.{Context, response, after}

abbrev pub stepper : Program
stepper = record { Context = Context; response = λ l k. response (command_of l) k; after = λ l k. after (command_of l) k }
