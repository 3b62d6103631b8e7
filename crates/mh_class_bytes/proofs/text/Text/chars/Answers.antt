use Rattle.std.proofs.Common.{Ok, Err, ◌≡◌, ◌∙◌, drop, sym, ap, arith, Some, None}
use Rattle.std.proofs.lemmas.List.{length-drop}
use Rattle.mh_class_bytes.specs.Chars.{chars_of, first_char, first_len}
use Rattle.mh_class_bytes.proofs.Units.{sound-begins}
use Rattle.mh_class_bytes.proofs.CharSteps.{begins-some}
use Rattle.mh_class_bytes.proofs.CharLoops.{is_at-next, is_at-more, decoding-next, decoding-stops, decoding-done}
use Rattle.mh_class_bytes.proofs.CharLaw.{chars_law-ok, chars_law-lone}
use Rattle.mh_class_bytes.proofs.text.Text.chars.Goals as goal

pub read_first-first-requires : goal.read_first-first-requires
read_first-first-requires c =
    let b = c.bytes-bytes.result.now in
    rw c.split_at.ensures.back (sound-begins (drop c.loop-at.at b) c.loop-at.invariant.place.sound (omega (arith, length-drop c.loop-at.at b)))

pub returns-in_default : goal.returns-in_default
returns-in_default c =
    let b = c.bytes-bytes.result.now in
    let none : first_char (drop c.loop-at.at b) ≡ None = ap first_char (sym c.split_at.ensures.back) ∙ sym c.read_first-first.ensures.char ∙ c.in_default.is in
    let exact : chars_of c.args.self.now ≡ Err c.loop-at.at =
    rw (← c.bytes-bytes.ensures.bytes) (decoding-stops b c.loop-at.at c.loop-at.chars.items c.loop-at.invariant c.loop-at-test.true none) in
    record { ok = tt; lone = chars_law-lone c.args.self.now c.loop-at.at c.bytes-bytes.ensures.text exact; exact = exact }

pub overflow_add-at : goal.overflow_add-at
overflow_add-at c =
    let b = c.bytes-bytes.result.now in
    let len : c.read_first-first.result.len ≡ first_len (drop c.loop-at.at b) = c.read_first-first.ensures.len ∙ ap first_len c.split_at.ensures.back in
    let more = (is_at-more b c.loop-at.at c.loop-at.invariant.place c.loop-at-test.true).within in
    let small = c.type_inv.bytes in
    omega (arith, len, more)

pub loop-at-smaller : goal.loop-at-smaller
loop-at-smaller c =
    let b = c.bytes-bytes.result.now in
    let len : c.read_first-first.result.len ≡ first_len (drop c.loop-at.at b) = c.read_first-first.ensures.len ∙ ap first_len c.split_at.ensures.back in
    let some = begins-some (drop c.loop-at.at b) (is_at-next b c.loop-at.at c.loop-at.invariant.place c.loop-at-test.true) in
    omega (arith, len, some)

pub loop-at-preserved : goal.loop-at-preserved
loop-at-preserved c =
    let b = c.bytes-bytes.result.now in
    let len : c.read_first-first.result.len ≡ first_len (drop c.loop-at.at b) = c.read_first-first.ensures.len ∙ ap first_len c.split_at.ensures.back in
    let some : first_char (drop c.loop-at.at b) ≡ Some c.in-Some.char = ap first_char (sym c.split_at.ensures.back) ∙ sym c.read_first-first.ensures.char ∙
    c.in-Some.is in
    rw (len, c.in_ok-push.ensures.items) (decoding-next b c.loop-at.at c.loop-at.chars.items c.in-Some.char c.loop-at.invariant c.loop-at-test.true some)

pub returns : goal.returns
returns c =
    let b = c.bytes-bytes.result.now in
    let exact : chars_of c.args.self.now ≡ Ok c.loop-at.chars.items =
    rw (← c.bytes-bytes.ensures.bytes) (decoding-done b c.loop-at.at c.loop-at.chars.items c.loop-at.invariant c.loop-at-test.false) in
    record { ok = chars_law-ok c.args.self.now c.loop-at.chars.items c.bytes-bytes.ensures.text exact; lone = tt; exact = exact }
