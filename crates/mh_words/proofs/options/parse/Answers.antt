use Rattle.std.proofs.Common.{◌∙◌}
use Rattle.mh_words.proofs.Parses.{refused, taken}
use Rattle.mh_words.proofs.options.parse.Goals as goal

pub returns-in-Ok : goal.returns-in-Ok
returns-in-Ok c = taken _ _ _ c.in_ok-command_line.ensures c.in-Ok.ensures.kinds (λ simple. (c.in-Ok.ensures.matches simple).0)

pub returns : goal.returns
returns c = refused _ _ _ c.in_ok-command_line.ensures c.in-Err.ensures.kinds (λ memory. c.in_default.not-OutOfMemory (c.kind.ensures ∙ memory))
