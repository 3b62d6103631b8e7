-- Constants that are added one after the other can be resolved.
use Rattle.std.proofs.Common.{◌≡◌, refl, sym, ◌∙◌, ap, subst, ℕ, zero, suc, ◌+◌, ◌<◌, ◌⊎◌, inl, inr, List, [], ◌∷◌, ◌++◌, length, map, Some, Ok, Bool, true, false, ◌&&◌}
use Rattle.std.specs.Prelude.{slice_get, nat_lt}
use Rattle.std.proofs.lemmas.Bool.{both_ways, ltb-true}
use Rattle.mh_jobs.specs.declared.constants.ConstBootstrap.{ConstBootstrap}
use Rattle.mh_jobs.specs.declared.constants.ConstJob.{ConstJob}
use Rattle.mh_jobs.specs.declared.unresolved.Part.{Part}
use Rattle.mh_jobs.specs.declared.unresolved.Part.TheVariants.{Constant}
use Rattle.mh_jobs.specs.Thrown.{OrThrown}
use Rattle.mh_link.specs.Named.{Constants, Name}
use Rattle.mh_link.specs.Places.{is_in, Has}
use Rattle.mh_link.proofs.walking.Places.{has-cons, has-here, has-there}
use Rattle.mh_condy.specs.Runs.{AreResolvable}
use Rattle.mh_sharing_tests.specs.declared.constants.built.Built.{Built}
use Rattle.mh_sharing_tests.specs.Built.{AreOver, IsOver, are_below, job_over, run_of}

-- ---- one more constant

-- one item more stands behind all others
last-at : (jobs : List ConstJob) (last : ConstJob) (c : ℕ) (job : ConstJob) → slice_get (jobs ++ last ∷ []) c ≡ Some job →
    (slice_get jobs c ≡ Some job) ⊎ ((c ≡ length jobs) × (last ≡ job))
last-at [] last zero job h = inr (refl, cc)
last-at [] last (suc c) job h = absurd cc
last-at (j ∷ jobs) last zero job h = inl h
last-at (j ∷ jobs) last (suc c) job h = elim (last-at jobs last c job h) [
  | inl there ↦ inl there
  | inr end ↦ inr (ap suc end.0, end.1)
]

pub over-none : (below : ℕ) (built : Built) → built.jobs ≡ [] → AreOver below built
over-none below built none c job h = let n : slice_get [] c ≡ Some job = ap (λ jobs. slice_get jobs c) (sym none) ∙ h in absurd cc

pub over-more : (below : ℕ) (old new : Built) (job : ConstJob) → AreOver below old → IsOver below (length old.scripts) (length old.jobs) job →
    new.jobs ≡ old.jobs ++ job ∷ [] → new.scripts ≡ old.scripts → AreOver below new
over-more below old new job are is more same c j h =
    subst (λ scripts. IsOver below (length scripts) c j) (sym same)
    (elim (last-at old.jobs job c j (ap (λ jobs. slice_get jobs c) (sym more) ∙ h)) [
      | inl there ↦ are c j there
      | inr end ↦ subst (λ x. IsOver below (length old.scripts) x j) (sym end.0) (subst (IsOver below (length old.scripts) (length old.jobs)) end.1 is)
    ])

-- ---- all of them

abbrev parts : List ℕ → List Part
parts names = map (λ d. Constant d) names

name-each : (more names : List ℕ) → ((d : ℕ) → Has names d → Has more d) → Name more (parts names)
name-each more [] within = tt
name-each more (d ∷ names) within =
    (within d (has-here d names), name-each more names (λ k h. within k (has-there d names k h)))

both_true : (a b : Bool) → (a && b) ≡ true → (a ≡ true) × (b ≡ true)
both_true true b h = (refl, h)
both_true false b h = absurd cc

low-each : (below : ℕ) (names : List ℕ) → are_below below names ≡ true → (d : ℕ) → Has names d → d < below
low-each below [] low d h = absurd (both_ways (is_in [] d) refl h)
low-each below (n ∷ names) low d h =
    let both = both_true (nat_lt n below) (are_below below names) low in
    elim (has-cons n names d h) [
      | inl e ↦ subst (λ x. x < below) e (ltb-true n below both.0)
      | inr there ↦ low-each below names both.1 d there
    ]

same_call : (a b : ConstBootstrap) → ◌≡◌ {A = OrThrown ConstBootstrap} (Ok a) (Ok b) → a ≡ b
same_call a b h = cc

module _ (built : Built) (count : ℕ) (are : AreOver count built) (all : length built.jobs ≡ count) where
  -- so they can be resolved
  pub resolvable : AreResolvable (run_of built)
  resolvable = record {
    each = λ c job at.
        let over = are c job at in
        let names : job.names ≡ over.names = ap (λ (j : ConstJob). j.names) over.is in
        record {
          names = λ call is.
              let same = same_call _ call (sym (ap (λ (j : ConstJob). j.call) over.is) ∙ is) in
              subst (λ (b : ConstBootstrap). Name job.names b.arguments.parts) same
              (name-each job.names over.names (λ d h. subst (λ ns. Has ns d) (sym names) h));
          places = λ d h. subst (λ n. d < n) (sym all) (low-each count over.names over.low d (subst (λ ns. Has ns d) names h));
          script = λ call is.
              let same = same_call _ call (sym (ap (λ (j : ConstJob). j.call) over.is) ∙ is) in
              subst (λ (b : ConstBootstrap). b.script.0 < length built.scripts) same over.there;
        };
    numbered = λ c job at. ap (λ (j : ConstJob). j.number) (are c job at).is;
  }
