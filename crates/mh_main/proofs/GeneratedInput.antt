-- The input that is made from a number is accepted, so that a stop there is a want of memory.
use Rattle.std.proofs.Common.{◌≡◌, ◌∙◌, refl, ap, subst, ℕ, List, [], ◌∷◌, codes, Result, Ok, Err, IfErr, arith}
use Rattle.mh_leaves.specs.Manifest.{manifest, kind_word as manifest_word}
use Rattle.mh_script.specs.Kinds.{kind_word as script_word}
use Rattle.mh_script.specs.Scripts.{scripts}
use Rattle.mh_jobs.specs.RunJobs.{jobs_of}
use Rattle.mh_plan.specs.Plan.{plan, kind_word as plan_word}
use Rattle.mh_words.specs.Words.{Named}
use Rattle.mh_generated.specs.Files.{files_of}
use Rattle.mh_generated.specs.Sites.{class_file}
use Rattle.mh_generated.specs.Plan.{generated_plan}
use Rattle.mh_generated.specs.Texts.{generated_manifest, generated_scripts}
use Rattle.mh_main.specs.declared.program.Output.TheVariants.{Line}
use Rattle.mh_main.specs.declared.program.Program.{Program}
use Rattle.mh_main.specs.declared.stop.Stop.{Stop}
use Rattle.mh_main.specs.declared.stop.Stop.TheVariants.{NoMemory, ReadFault, TooLong, Fault, Place}
use Rattle.mh_runtime.specs.Passes.{most_sites}
use Rattle.mh_main.specs.Input.{IfAccepted, IfRefused, Input, accepted, fault_line, generated_input, generated_names, leaves_limit, named_input, place_line}
use Rattle.mh_main.specs.Input.{plan_limit, program, too_long_line}
use Rattle.mh_main.specs.Stops.{IsStopAmong, Refuses}
use Rattle.mh_main.proofs.GeneratedClass.{class-made, class-short}
use Rattle.mh_main.proofs.GeneratedFolds.{plan-made}
use Rattle.mh_main.proofs.GeneratedJobs.{jobs-made}
use Rattle.mh_main.proofs.GeneratedLength.{plan-short}
use Rattle.mh_main.proofs.GeneratedTexts.{manifest_made, manifest_short, scripts_made, scripts_short}
use Rattle.mh_main.proofs.Programs.{program_of}
use Rattle.mh_main.proofs.ReadOn.{class-file-read, file-read}

-- the input is accepted, whatever the number is
pub generated_accepted : (number : ℕ) → (p : Program) × (generated_input number ≡ accepted (program p))
unfolding generated_input
generated_accepted number =
    let leaves = manifest_made.0 in
    let all = scripts_made.0 in
    let class = class-made number in
    let jobs = jobs_of leaves all (class.0 ∷ []) in
    let threads = plan-made number leaves jobs.sites (jobs-made leaves all class.0 number class.2) in
    let p : Program = program_of (Line number) 0 leaves all jobs threads.0 in
    let Q : Input → Type 0 = λ i. i ≡ accepted (program p) in (
      p,
      file-read Q leaves_limit (codes "leaves") manifest_word manifest generated_manifest leaves _ manifest_made.1 manifest_short
          (file-read Q leaves_limit (codes "scripts") script_word scripts generated_scripts all _ scripts_made.1 scripts_short
          (class-file-read Q most_sites (codes "class") (class_file number) class.0 _ class.1 (class-short number)
          (file-read Q plan_limit (codes "plan") plan_word (λ bytes. plan bytes leaves jobs.sites) (generated_plan number) threads.0 _ threads.1
          (plan-short number) refl))),
    )

-- what is accepted is the program that was read
pub generated_read : (number : ℕ) (p : Program) → IfAccepted (generated_input number) (λ a. a ≡ program p) → generated_input number ≡ accepted (program p)
generated_read number p is =
    let made = generated_accepted number in
    made.1 ∙ ap accepted (subst (λ i. IfAccepted i (λ a. a ≡ program p)) made.1 is)

-- nothing in it is refused
generated_stop : (number : ℕ) (stop : Stop) (Reaches : List ℕ → Type 0) → IsStopAmong Reaches (λ _. 0) (λ _. 0) stop →
    Refuses (generated_input number) stop → stop ≡ NoMemory
generated_stop number NoMemory Reaches stops refuses = refl
generated_stop number (ReadFault at) Reaches stops refuses = absurd (omega (arith, stops.1))
generated_stop number (TooLong at) Reaches stops refuses =
    absurd (subst (λ i. IfRefused i (λ line. line ≡ too_long_line at.now)) (generated_accepted number).1 refuses)
generated_stop number (Fault at line kind) Reaches stops refuses =
    absurd (subst (λ i. IfRefused i (λ l. l ≡ fault_line at.now line kind.now)) (generated_accepted number).1 refuses)
generated_stop number (Place at place kind) Reaches stops refuses =
    absurd (subst (λ i. IfRefused i (λ l. l ≡ place_line at.now place kind.now)) (generated_accepted number).1 refuses)

refused-as : (number n : ℕ) (names : Named) (stop : Stop) → names ≡ generated_names → n ≡ number →
    Refuses (named_input (Line number) names (files_of n)) stop → Refuses (generated_input number) stop
unfolding generated_input
refused-as number n names stop named same refuses =
    subst (λ k. Refuses (named_input (Line number) generated_names (files_of k)) stop) same
    (subst (λ (ns : Named). Refuses (named_input (Line number) ns (files_of n)) stop) named refuses)

-- so a stop in the reading of its files is a want of memory
pub generated_stops : {T : Type 0} (r : Result T Stop) (number n : ℕ) (names : Named) (Reaches : List ℕ → Type 0) → names ≡ generated_names → n ≡ number →
    IfErr r (λ stop. IsStopAmong Reaches (λ _. 0) (λ _. 0) stop) → IfErr r (λ stop. Refuses (named_input (Line number) names (files_of n)) stop) →
    IfErr r (λ stop. stop ≡ NoMemory)
generated_stops (Ok t) number n names Reaches named same stops refuses = tt
generated_stops (Err stop) number n names Reaches named same stops refuses =
    generated_stop number stop Reaches stops (refused-as number n names stop named same refuses)
