-- What an attempt has found, and what it makes of it.
use Rattle.std.proofs.Common.{◌≡◌, refl, sym, ◌∙◌, ap, subst, ℕ, true, inl, inr, List, [], ◌∷◌, Some}
use Rattle.std.specs.Prelude.{All, if◌then◌else◌, option_map}
use Rattle.std.proofs.lemmas.Bool.{both_ways, cases_eq, eq-eqb, ne_eqb}
use Rattle.std.proofs.lemmas.List.Elements.{All-head, All-tail}
use Rattle.mh_link.specs.Named.{Constants}
use Rattle.mh_link.specs.Places.{is_in, Has}
use Rattle.mh_link.specs.Resolved.{Agree}
use Rattle.mh_link.specs.Asking.{asked_by}
use Rattle.mh_link.specs.Constants.{const_under}
use Rattle.mh_link.proofs.walking.Places.{has-cons}
use Rattle.mh_link.proofs.constants.Asked.{agree-each, under-same}
use Rattle.mh_condy.specs.Recorded.{ConstView, FindingView, IsConst, constants_of, found_of}
use Rattle.mh_condy.specs.Nodes.{IsNodeOf, Knows, Nodes, found_in, is_known}
use Rattle.mh_condy.proofs.Trails.{known-at}

-- what is known of a constant that was found is what was found
found-known : (known : Nodes) (f : FindingView) → Knows known f → found_in known f.constant ≡ Some f.value
found-known known f k = ap (λ o. option_map (λ (node : ConstView). node.value) o) k.at ∙ ap (λ v. Some v) k.value

-- so each constant that was found is found as it is known
pub founds-agree : (known : Nodes) (findings : List FindingView) → All (Knows known) findings → (d : ℕ) → Has (constants_of findings) d →
    found_of findings d ≡ found_in known d
founds-agree known [] knows d h = absurd (both_ways (is_in [] d) refl h)
founds-agree known (f ∷ findings) knows d h = elim (cases_eq f.constant d) [
  | inl e ↦
      ap (λ b. if b then Some f.value else found_of findings d) (eq-eqb f.constant d e)
      ∙ (sym (found-known known f (All-head (Knows known) f findings knows)) ∙ ap (found_in known) e)
  | inr other ↦
      ap (λ b. if b then Some f.value else found_of findings d) (ne_eqb f.constant d other)
      ∙ founds-agree known findings (All-tail (Knows known) f findings knows) d (elim (has-cons f.constant (constants_of findings) d h) [
        | inl e ↦ absurd (other e)
        | inr there ↦ there
      ])
]

pub founds-known : (known : Nodes) (findings : List FindingView) → All (Knows known) findings → (d : ℕ) → Has (constants_of findings) d →
    is_known known d ≡ true
founds-known known [] knows d h = absurd (both_ways (is_in [] d) refl h)
founds-known known (f ∷ findings) knows d h = elim (has-cons f.constant (constants_of findings) d h) [
  | inl e ↦ let k = All-head (Knows known) f findings knows in subst (λ x. is_known known x ≡ true) e (known-at known f.constant k.node k.at)
  | inr there ↦ founds-known known findings (All-tail (Knows known) f findings knows) d there
]

-- what was recorded under what was found is what is recorded under what is known
module _ (run : Constants) (known : Nodes) (node : ConstView) (is : IsConst run node) (knows : All (Knows known) node.under) where
  agree : Agree (found_of node.under) (found_in known) (asked_by run (found_of node.under) node.job.number)
  agree = agree-each (found_of node.under) (found_in known) (asked_by run (found_of node.under) node.job.number)
      (λ d h. founds-agree known node.under knows d (subst (λ xs. Has xs d) (sym is.asked) h))

  pub const-asked : constants_of node.under ≡ asked_by run (found_in known) node.job.number
  const-asked = is.asked ∙ (under-same run (found_of node.under) (found_in known) node.job.number agree).1

  pub const-value : node.value ≡ const_under run (found_in known) node.job.number node.serial
  const-value = is.value_is ∙ (under-same run (found_of node.under) (found_in known) node.job.number agree).0 node.serial

  pub const-node : IsNodeOf run known node.job.number node
  const-node = record {
    is = const-value;
    below = λ d h. founds-known known node.under knows d (subst (λ xs. Has xs d) (sym const-asked) h);
  }
