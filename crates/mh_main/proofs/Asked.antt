-- The command that words were found to ask for.
use Rattle.std.proofs.Common.{◌≡◌, ◌≤◌, ◌∙◌, sym, ap, subst, List, Option, Some, Bor, ℕ}
use Rattle.std.specs.Prelude.{IfSome}
use Rattle.std.specs.declared.vec.Vec.{Vec}
use Rattle.std.specs.declared.alloc.Global.{Global}
use Rattle.mh_words.specs.declared.command.Command.{Command as Held}
use Rattle.mh_words.specs.declared.command.Command.TheVariants as held
use Rattle.mh_words.specs.declared.command.Names.{Names}
use Rattle.mh_runtime.specs.Workers.{most_workers}
use Rattle.mh_words.specs.Options.{said}
use Rattle.mh_words.specs.Words.{Command, IsCommandWithinLimits, commanded, held_command, held_names, run, sites}

of-command : (found : Option Held) (command same : Held) (wanted : Option Command) → commanded found ≡ wanted → found ≡ Some command → command ≡ same →
    Some (held_command same) ≡ wanted
of-command found command same wanted is there e = ap (λ c. Some (held_command c)) (sym e) ∙ ap commanded (sym there) ∙ is

-- a run
pub run-asked : (found : Option Held) (command : Held) (names : Names) (wanted : Option Command) → commanded found ≡ wanted → found ≡ Some command →
    command ≡ held.Run names → Some (run (held_names names)) ≡ wanted
run-asked found command names wanted = of-command found command (held.Run names) wanted

-- which has no more workers than there may be
pub run-few : (found : Option Held) (command : Held) (names : Names) → IfSome (commanded found) IsCommandWithinLimits → found ≡ Some command →
    command ≡ held.Run names → names.workers ≤ most_workers
run-few found command names within there e =
    (subst (λ (c : Held). IsCommandWithinLimits (held_command c)) e
    (subst (λ (o : Option Held). IfSome (commanded o) IsCommandWithinLimits) there within)).1

-- a listing
pub sites-asked : (found : Option Held) (command : Held) (names : Vec (Bor (List ℕ)) Global) (wanted : Option Command) → commanded found ≡ wanted →
    found ≡ Some command → command ≡ held.Sites names → Some (sites (said names.items)) ≡ wanted
sites-asked found command names wanted = of-command found command (held.Sites names) wanted
