-- Arguments depend on what is known of the constants that are looked at alone.
use Rattle.std.proofs.Common.{◌≡◌, refl, ap, subst, ℕ, List, [], ◌∷◌, Option, Some, None, Ok, Err}
use Rattle.std.specs.Prelude.{is_ok, if◌then◌else◌}
use Rattle.mh_values.specs.declared.value.Exc.{Exc}
use Rattle.mh_values.specs.declared.value.Value.{Value}
use Rattle.mh_jobs.specs.Thrown.{OrThrown, ◌>>=◌}
use Rattle.mh_jobs.specs.declared.job.Argument.{Argument}
use Rattle.mh_jobs.specs.declared.unresolved.Part.{Part}
use Rattle.mh_jobs.specs.declared.job.Argument.TheVariants as argument
use Rattle.mh_jobs.specs.declared.unresolved.Part.TheVariants.{Known, Constant}
use Rattle.mh_jobs.specs.declared.unresolved.StaticArguments.{StaticArguments}
use Rattle.mh_jobs.specs.Given.{Found}
use Rattle.mh_link.specs.Resolved.{Agree, taken, resolved_parts, resolved, asked}

-- what one constant and the parts after it give
abbrev led_by : Option (OrThrown Value) → OrThrown (List Argument) → OrThrown (List Argument)
led_by v rest = taken v >>= (λ x. rest >>= (λ others. Ok (argument.Value x ∷ others)))

module _ (known other : Found) (thrown : Option Exc) where
  constant-same : (c : ℕ) (v w : Option (OrThrown Value)) → v ≡ w → (rest late : OrThrown (List Argument)) (a b : List ℕ) →
      (Agree known other a → (rest ≡ late) × (a ≡ b)) → Agree known other (if is_ok (taken v) then a else []) →
      (led_by v rest ≡ led_by w late) × (c ∷ (if is_ok (taken v) then a else []) ≡ c ∷ (if is_ok (taken w) then b else []))
  constant-same c v w e rest late a b same agree =
      subst (λ u. (led_by v rest ≡ led_by u late) × (c ∷ (if is_ok (taken v) then a else []) ≡ c ∷ (if is_ok (taken u) then b else []))) e (at v agree)
    where
      at : (v : Option (OrThrown Value)) → Agree known other (if is_ok (taken v) then a else []) →
          (led_by v rest ≡ led_by v late) × (c ∷ (if is_ok (taken v) then a else []) ≡ c ∷ (if is_ok (taken v) then b else []))
      at None agree = (refl, refl)
      at (Some (Err e)) agree = (refl, refl)
      at (Some (Ok x)) agree =
          let both = same agree in
          (ap (λ (r : OrThrown (List Argument)). led_by (Some (Ok x)) r) both.0, ap (λ cs. c ∷ cs) both.1)

  pub parts-same : (parts : List Part) → Agree known other (asked known parts) →
      (resolved_parts known thrown parts ≡ resolved_parts other thrown parts) × (asked known parts ≡ asked other parts)
  parts-same [] agree = (refl, refl)
  parts-same (Known a ∷ parts) agree =
      let rest = parts-same parts agree in
      (ap (λ (r : OrThrown (List Argument)). r >>= (λ others. Ok (a ∷ others))) rest.0, rest.1)
  parts-same (Constant c ∷ parts) agree =
      constant-same c (known c) (other c) agree.0 (resolved_parts known thrown parts) (resolved_parts other thrown parts)
      (asked known parts) (asked other parts) (parts-same parts) agree.1

pub resolving : (known other : Found) (arguments : StaticArguments) → Agree known other (asked known arguments.parts) →
    (resolved known arguments ≡ resolved other arguments) × (asked known arguments.parts ≡ asked other arguments.parts)
resolving known other arguments agree = parts-same known other arguments.thrown arguments.parts agree
