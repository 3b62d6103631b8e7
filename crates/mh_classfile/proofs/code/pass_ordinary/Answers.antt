use Rattle.std.proofs.Common.{rules}
use Rattle.mh_classfile.specs.Code.{ordinary}
use Rattle.mh_classfile.proofs.code.pass_ordinary.Goals as goal

pub returns-in-Err : goal.returns-in-Err
unfolding ordinary
returns-in-Err c = record { reads = record { found = search rules; moves = search rules } }
