use Rattle.std.proofs.Common.{◌≡◌, refl, ℤ, zero, suc, pos, negsuc, ◌≢◌, ◌∙◌, ap, ap₂, sym, of_z, rules, FitsSigned as SFits}
use Rattle.std.specs.Int.{w32, int_wrapping_div}
use Rattle.std.proofs.lemmas.Int.{to_z-of_z}
use Rattle.mh_leaf.specs.Outcome.{divided, int}
use Rattle.mh_leaf.proofs.does.divided.Goals as goal

-- a divisor that is not 0
divided-by : (a b : ℤ) → b ≢ pos 0 → divided a b ≡ int (int_wrapping_div w32 a b)
divided-by a (pos zero) not_zero = absurd (not_zero refl)
divided-by a (pos (suc n)) not_zero = refl
divided-by a (negsuc n) not_zero = refl

pub returns : goal.returns
returns c =
    let fits : SFits w32 c.wrapping_div.result = search rules in
    let quotient =
    to_z-of_z w32 c.wrapping_div.result fits
    ∙ (c.wrapping_div.ensures ∙ ap₂ (int_wrapping_div w32) (to_z-of_z w32 c.args.a c.ranges.a) (to_z-of_z w32 c.args.b c.ranges.b)) in
    c.int.ensures ∙ (ap int quotient ∙ sym (divided-by c.args.a c.args.b (λ e. c.if-b-eq0.false (ap (of_z w32) e))))
