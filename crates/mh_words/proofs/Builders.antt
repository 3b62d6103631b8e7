-- What clap is told of a command line, by the steps that build it.
use Rattle.std.proofs.Common.{◌≡◌, ◌∙◌, ap, ap₂, false, true}
use Rattle.clap.specs.Words.{AddsArg, App, Rule, app_of, rule_of, with_rule}
use Rattle.clap.specs.Simple.{app_of_fields, on_top}
use Rattle.clap.specs.declared.builder.arg.Arg.{Arg}
use Rattle.clap.specs.declared.builder.command.Command.{Command}
use Rattle.clap.specs.declared.builder.command.Command.TheViews.{out-Command as fields_of}

-- the words begin after the program's name
pub unnamed : (old new : Command) (a : App) → fields_of new ≡ record (fields_of old) { no_binary_name = true } → app_of old ≡ a
    → app_of new ≡ on_top (λ s. record s { no_binary_name = true }) a
unnamed old new a step start = ap app_of_fields step ∙ ap (on_top (λ s. record s { no_binary_name = true })) start

-- one more argument
pub added : (old new : Command) (arg : Arg) (a : App) (rule : Rule) → AddsArg old arg new → arg.global ≡ false → rule_of arg ≡ rule
    → app_of old ≡ a → app_of new ≡ with_rule a rule
added old new arg a rule step local is start = step.shape local ∙ ap₂ with_rule start is
