use Rattle.std.proofs.Common.{sym, arith}
use Rattle.std.proofs.lemmas.List.{take_all}
use Rattle.mh_texts.proofs.printed.front.Goals as goal

pub returns-else-text-gt-MOST_SHOWN : goal.returns-else-text-gt-MOST_SHOWN
returns-else-text-gt-MOST_SHOWN c = sym (take_all 1025 c.args.text.now (omega (arith, c.if-text-gt-MOST_SHOWN.false)))
