-- Inputs that are accepted, as far as contracts see them: none is refused or absent, and a program that fits is run to its end.
use Rattle.std.proofs.Common.{◌≡◌, ◌<◌, sym, subst, inl, inr, ⊎_elim, List, ℕ, Option, Some, arith}
use Rattle.mh_outside.specs.Contents.{Contents}
use Rattle.mh_handle.specs.Form.{most_forms}
use Rattle.mh_report.specs.Prelinked.{draws_by, types_by}
use Rattle.mh_report.specs.Types.{OverfillBucket}
use Rattle.mh_main.specs.declared.program.Program.{Program}
use Rattle.mh_words.specs.Words.{Command}
use Rattle.mh_main.specs.Program.{given_of}
use Rattle.mh_main.specs.Status.{IsDoneFullOrWant, IsDoneOrWant, forms_full, types_full}
use Rattle.mh_main.specs.Input.{Accepted, AreAccepted, FitsTables, IfAccepted, Input, IsMissing, IsRefused, NeedsFew, ProgramFits, accepted, command_input}
use Rattle.mh_main.specs.Input.{input_of, missing, program, refused, unseen, usage}

not-refused : (i : Input) (P : Accepted → Type 0) → IfAccepted i P → IsRefused i → ⊥
not-refused usage P holds is = is
not-refused (refused line) P holds is = holds
not-refused (accepted a) P holds is = is
not-refused missing P holds is = is
not-refused unseen P holds is = is

not-missing : (i : Input) (P : Accepted → Type 0) → IfAccepted i P → IsMissing i → ⊥
not-missing usage P holds is = is
not-missing (refused line) P holds is = is
not-missing (accepted a) P holds is = is
not-missing missing P holds is = holds
not-missing unseen P holds is = is

-- none is refused
pub taken-unrefused : (o : Option Command) (command : Command) (files : List ℕ → Contents) (P : Accepted → Type 0) →
    Some command ≡ o → IfAccepted (command_input command files) P → IsRefused (input_of o files) → ⊥
taken-unrefused o command files P asked holds is = not-refused (input_of o files) P (subst (λ c. IfAccepted (input_of c files) P) asked holds) is

-- and none is absent
pub taken-there : (o : Option Command) (command : Command) (files : List ℕ → Contents) (P : Accepted → Type 0) →
    Some command ≡ o → IfAccepted (command_input command files) P → IsMissing (input_of o files) → ⊥
taken-there o command files P asked holds is = not-missing (input_of o files) P (subst (λ c. IfAccepted (input_of c files) P) asked holds) is

-- ---- programs

fits-few : (i : Input) (p : Program) → IfAccepted i (λ a. a ≡ program p) → AreAccepted i → FitsTables i → ProgramFits p
fits-few usage p is so fits = absurd so
fits-few (refused line) p is so fits = absurd so
fits-few (accepted a) p is so fits = subst NeedsFew is fits
fits-few missing p is so fits = absurd so
fits-few unseen p is so fits = absurd so

-- a program that fits into the tables is run to its end, or memory is wanting
pub run-done : (o : Option Command) (command : Command) (files : List ℕ → Contents) (p : Program) (status : ℕ) → Some command ≡ o →
    IfAccepted (command_input command files) (λ a. a ≡ program p) → AreAccepted (input_of o files) → FitsTables (input_of o files) → IsDoneFullOrWant status →
    (status ≡ forms_full → most_forms < draws_by (given_of p) p.workers p.plan) →
    (status ≡ types_full → OverfillBucket (types_by (given_of p) p.workers p.plan)) → IsDoneOrWant status
run-done o command files p status asked is so fits (inl done) full overfull = done
run-done o command files p status asked is so fits (inr many) full overfull =
    let fit : ProgramFits p =
    fits-few (command_input command files) p is (subst (λ c. AreAccepted (input_of c files)) (sym asked) so)
    (subst (λ c. FitsTables (input_of c files)) (sym asked) fits) in
    absurd (⊎_elim
    (λ (forms : status ≡ forms_full). let more = full forms in let few = fit.0 in omega (arith, more, few))
    (λ (types : status ≡ types_full). let over = overfull types in let few = fit.1 over.0 in omega (arith, over.1, few))
    many)
