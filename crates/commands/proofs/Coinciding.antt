-- Two conforming answers of `read_command` coincide: values and tail fix the parameters.
use mathlib.Core.Path.{◌≡◌, ap}
use Rattle.std.specs.Prelude.{Result, Ok, Err}
use Rattle.refusals.specs.declared.Refusal.{Refusal}
use Rattle.refusals.specs.declared.RefusedAt.{RefusedAt}
use Rattle.refusals.specs.Answers.{Answer, done, refused}
use Rattle.refusals.proofs.Coinciding.{named, named_back, coincide}
use Rattle.parameters.proofs.Coinciding.{parameters_for, parameters-for}
use Rattle.commands.specs.declared.Command.{Command}
use Rattle.commands.specs.declared.TakenCommand.{TakenCommand}
use Rattle.commands.specs.Reading.{ToldCommand, tell_taken, command_of}

abbrev pub command_for : ToldCommand → Command
command_for t = record { first = t.first; second = t.second; parameters = parameters_for t.values t.tail }

pub command-for : (t : TakenCommand) → command_for (tell_taken t) ≡ t.command
command-for t =
    ap (λ ps. record { first = t.command.first; second = t.command.second; parameters = ps }) (parameters-for t.command.parameters)

pub taken_for : ToldCommand → TakenCommand
taken_for t = record { command = command_for t; count = t.count; next = t.next; kept = t.kept }

pub taken-for : (t : TakenCommand) → taken_for (tell_taken t) ≡ t
unfolding taken_for
taken-for t = ap (λ c. record { command = c; count = t.count; next = t.next; kept = t.kept }) (command-for t)

command-back : Answer ToldCommand → Result TakenCommand RefusedAt
command-back (done t) = Ok (taken_for t)
command-back (refused e p) = Err (record { refusal = named e; place = p })

command-same : (r : Result TakenCommand RefusedAt) → command-back (command_of r) ≡ r
unfolding command_of command-back
command-same (Ok t) = ap Ok (taken-for t)
command-same (Err e) = ap (λ (x : Refusal). Err (record { refusal = x; place = e.place })) (named_back e.refusal)

pub commands_coincide : {x y : Result TakenCommand RefusedAt} {d : Answer ToldCommand} → command_of x ≡ d → command_of y ≡ d → x ≡ y
commands_coincide = coincide command_of command-back command-same
