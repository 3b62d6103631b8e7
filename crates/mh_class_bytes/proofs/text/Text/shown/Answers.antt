use Rattle.std.proofs.Common.{◌≡◌, ◌∙◌, drop, ap, arith}
use Rattle.std.proofs.lemmas.List.{length-drop}
use Rattle.std.specs.Prelude.{unwrap_or}
use Rattle.mh_class_bytes.specs.Chars.{first_char, first_len}
use Rattle.mh_class_bytes.proofs.Units.{sound-begins}
use Rattle.mh_class_bytes.proofs.CharSteps.{begins-some}
use Rattle.mh_class_bytes.proofs.CharLoops.{is_at-next, is_at-more, showing-next, showing-done}
use Rattle.mh_class_bytes.specs.Chars.{shown_text}
use Rattle.mh_class_bytes.proofs.CharLaw.{shown_law}
use Rattle.mh_class_bytes.proofs.text.Text.shown.Goals as goal

pub read_first-first-requires : goal.read_first-first-requires
read_first-first-requires c =
    let b = c.bytes-bytes.result.now in
    rw c.split_at.ensures.back (sound-begins (drop c.loop-at.at b) c.loop-at.invariant.place.sound (omega (arith, length-drop c.loop-at.at b)))

pub overflow_add-at : goal.overflow_add-at
overflow_add-at c =
    let b = c.bytes-bytes.result.now in
    let len : c.read_first-first.result.len ≡ first_len (drop c.loop-at.at b) = c.read_first-first.ensures.len ∙ ap first_len c.split_at.ensures.back in
    let more = (is_at-more b c.loop-at.at c.loop-at.invariant.place c.loop-at-test.true).within in
    let small = c.type_inv.bytes in
    omega (arith, len, more)

pub loop-at-smaller : goal.loop-at-smaller
loop-at-smaller c =
    let b = c.bytes-bytes.result.now in
    let len : c.read_first-first.result.len ≡ first_len (drop c.loop-at.at b) = c.read_first-first.ensures.len ∙ ap first_len c.split_at.ensures.back in
    let some = begins-some (drop c.loop-at.at b) (is_at-next b c.loop-at.at c.loop-at.invariant.place c.loop-at-test.true) in
    omega (arith, len, some)

pub loop-at-preserved : goal.loop-at-preserved
loop-at-preserved c =
    let b = c.bytes-bytes.result.now in
    let len : c.read_first-first.result.len ≡ first_len (drop c.loop-at.at b) = c.read_first-first.ensures.len ∙ ap first_len c.split_at.ensures.back in
    let char : c.unwrap_or.result ≡ unwrap_or (first_char (drop c.loop-at.at b)) 0xFFFD =
    c.unwrap_or.ensures ∙ ap (λ x. unwrap_or x 0xFFFD) (c.read_first-first.ensures.char ∙ ap first_char c.split_at.ensures.back) in
    rw (len, c.in_ok-push.ensures.items, char) (showing-next b c.loop-at.at c.loop-at.chars.items c.loop-at.invariant c.loop-at-test.true)

pub returns : goal.returns
returns c =
    let b = c.bytes-bytes.result.now in
    let exact : c.loop-at.chars.items ≡ shown_text c.args.self.now =
    rw (← c.bytes-bytes.ensures.bytes) (showing-done b c.loop-at.at c.loop-at.chars.items c.loop-at.invariant c.loop-at-test.false) in
    record { ok = shown_law c.args.self.now c.loop-at.chars.items c.bytes-bytes.ensures.text exact; exact = exact }
