use Rattle.std.proofs.Common.{◌++◌, [], ◌∷◌, arith}
use Rattle.std.proofs.lemmas.Result.{IfOk-equal}
use Rattle.mh_pieces.specs.ValueText.{hexadecimal}
use Rattle.mh_pieces.proofs.Hexadecimal.{hexadecimal_written}
use Rattle.mh_pieces.proofs.texts.+push_hexadecimal.Goals as goal

pub returns : goal.returns
returns t c =
    let front = c.push_hexadecimal.new.chars.items in
    IfOk-equal c.push_ascii-2.result c.push_ascii-2.new.chars.items (front ++ c.digit-2.result ∷ []) (c.args.chars.now.items ++ hexadecimal c.args.number)
    c.push_ascii-2.ensures
    (hexadecimal_written c.args.chars.now.items front c.args.number c.digit-2.result c.if-number-lt16.false (omega arith) c.in_ok-push_hexadecimal.ensures
    c.digit-2.ensures)
