-- Class files that are read one after the other.
use Rattle.std.proofs.Common.{◌≡◌, ◌≤◌, sym, ◌∙◌, ap, subst, ℕ, ◌+◌, ◌-◌, List, [], ◌∷◌, ◌++◌, length, length-append, arith, Ok}
use Rattle.std.proofs.lemmas.List.{length-map}
use Rattle.std.proofs.lemmas.List.Elements.{All-push}
use Rattle.std.proofs.lemmas.List.Sums.{fold-append}
use Rattle.mh_outside.specs.Contents.{Contents, unknown, absent, file, IsWhole}
use Rattle.mh_leaf.specs.LeafTable.{LeafTable}
use Rattle.mh_classfile.specs.Class.{Class, HasDynamics}
use Rattle.mh_classfile.specs.File.{class_or_fault}
use Rattle.mh_script.specs.declared.script.Script.{Script}
use Rattle.mh_jobs.specs.declared.run_jobs.RunJobs.{RunJobs}
use Rattle.mh_jobs.specs.RunJobs.{no_jobs, with_class}
use Rattle.mh_jobs.proofs.OfClasses.{are_more, with_class-length}
use Rattle.mh_drawing.specs.Places.{place_of, places_of}
use Rattle.mh_drawn.specs.declared.reading.Sites.{Sites}
use Rattle.mh_drawn.specs.Reading.{AddsClass, AreOfClasses, AreSites, HasMeaning, class_limit, most_sites}

-- the jobs of one more class after others
more-classes : (leaves : LeafTable) (scripts : List Script) (c : Class) (before all : RunJobs) → all ≡ with_class leaves scripts before c →
    AreOfClasses leaves scripts before → HasDynamics c → AreOfClasses leaves scripts all
more-classes leaves scripts c before all more are has = (
  are.0 ++ c ∷ [],
  more
      ∙ (ap (λ (js : RunJobs). with_class leaves scripts js c) are.1
      ∙ sym (fold-append (with_class leaves scripts) no_jobs are.0 (c ∷ []))),
  All-push HasDynamics are.0 c are.2 has,
)

-- the call sites of one more class after others
pub more_sites : (leaves : LeafTable) (scripts : List Script) (name : List ℕ) (c : Class) (before all : Sites) →
    all.jobs ≡ with_class leaves scripts before.jobs c → all.places ≡ before.places ++ places_of name c.sites → AreSites leaves scripts before →
    length c.sites ≤ most_sites - length before.jobs.sites → HasDynamics c → AreSites leaves scripts all
more_sites leaves scripts name c before all jobs places are few has =
    let count : length all.jobs.sites ≡ length before.jobs.sites + length c.sites =
    ap (λ (js : RunJobs). length js.sites) jobs ∙ with_class-length leaves scripts before.jobs c in
    let there : length all.places ≡ length before.places + length c.sites =
    ap length places ∙ length-append before.places (places_of name c.sites) ∙ ap (λ n. length before.places + n) (length-map c.sites (place_of name)) in (
      omega (arith, count, few, are.0),
      omega (arith, there, count, are.1),
      are_more leaves scripts c (length before.jobs.constants) before.jobs.sites all.jobs.sites
          (ap (λ (js : RunJobs). js.sites) jobs) are.2,
      more-classes leaves scripts c before.jobs all.jobs jobs are.3 has,
    )

-- a class of the bytes of a file
meant : (room : ℕ) (contents : Contents) (bytes : List ℕ) (c : Class) → IsWhole contents bytes → length bytes ≤ class_limit → class_or_fault room bytes ≡ Ok c →
    HasMeaning class_limit (class_or_fault room) contents c
meant room unknown bytes c whole few is = tt
meant room absent bytes c whole few is = absurd whole
meant room (file all) bytes c whole few is = subst (λ bs. (class_or_fault room bs ≡ Ok c) × (length bs ≤ class_limit)) whole (is, few)

-- the class of a file adds its call sites
pub adds_class : (leaves : LeafTable) (scripts : List Script) (name : List ℕ) (contents : Contents) (bytes : List ℕ) (c : Class) (before all : Sites) →
    IsWhole contents bytes → length bytes ≤ class_limit → class_or_fault (most_sites - length before.jobs.sites) bytes ≡ Ok c →
    all.jobs ≡ with_class leaves scripts before.jobs c → all.places ≡ before.places ++ places_of name c.sites →
    AddsClass leaves scripts name contents before all
adds_class leaves scripts name contents bytes c before all whole few is jobs places =
    (c, meant (most_sites - length before.jobs.sites) contents bytes c whole few is, jobs, places)
