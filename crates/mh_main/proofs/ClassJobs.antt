-- Class files whose call sites become jobs, one after the other.
use Rattle.std.proofs.Common.{◌≡◌, ◌≤◌, ◌∙◌, refl, subst, ap, ℕ, ◌+◌, ◌-◌, List, [], ◌∷◌, length, Result, Ok, Err, IfOk, arith}
use Rattle.std.specs.Prelude.{fold}
use Rattle.std.proofs.lemmas.List.Elements.{All-cons, All-nil}
use Rattle.mh_outside.specs.Contents.{Contents}
use Rattle.mh_leaf.specs.LeafTable.{LeafTable}
use Rattle.mh_classfile.specs.Class.{Class, HasDynamics}
use Rattle.mh_script.specs.declared.script.Script.{Script}
use Rattle.mh_jobs.specs.declared.run_jobs.RunJobs.{RunJobs}
use Rattle.mh_jobs.specs.RunJobs.{with_class}
use Rattle.mh_jobs.proofs.OfClasses.{with_class-length}
use Rattle.mh_runtime.specs.Passes.{most_sites}
use Rattle.mh_main.specs.Classes.{MakesAllJobs, MakesJobs}
use Rattle.mh_main.specs.Stops.{AreClassesOf}
use Rattle.mh_main.proofs.ClassListing.{sites-left}

-- how many call sites the others may have
pub jobs-left : (leaves : LeafTable) (scripts : List Script) (before mid : RunJobs) (c : Class) → mid ≡ with_class leaves scripts before c →
    most_sites - length mid.sites ≡ most_sites - length before.sites - length c.sites
jobs-left leaves scripts before mid c is =
    sites-left (length before.sites) (length mid.sites) (length c.sites)
    (ap (λ (jobs : RunJobs). length jobs.sites) is ∙ with_class-length leaves scripts before c)

-- no class file is left, and no job comes
pub made-none : (leaves : LeafTable) (scripts : List Script) (room : ℕ) (names : List (List ℕ)) (files : List ℕ → Contents) (before : RunJobs) →
    length names ≡ 0 → MakesAllJobs leaves scripts room names files before before
made-none leaves scripts room [] files before none = ([], refl, refl, All-nil HasDynamics)
made-none leaves scripts room (name ∷ names) files before none = absurd (omega (arith, none))

-- the jobs of the class files after the first one were made
pub made-all : {E : Type 0} (r : Result RunJobs E) (leaves : LeafTable) (scripts : List Script) (name : List ℕ) (names : List (List ℕ))
    (files files' : List ℕ → Contents) (before mid : RunJobs) → ((n : List ℕ) → files' n ≡ files n) →
    MakesJobs leaves scripts (most_sites - length before.sites) (files name) before mid →
    IfOk r (MakesAllJobs leaves scripts (most_sites - length mid.sites) names files' mid) →
    IfOk r (MakesAllJobs leaves scripts (most_sites - length before.sites) (name ∷ names) files before)
made-all (Ok all) leaves scripts name names files files' before mid contents m h =
    let e : files' ≡ files = λ i n. contents n i in
    let c : Class = m.0 in
    let are : AreClassesOf (most_sites - length before.sites - length c.sites) names files h.0 =
    subst (λ n. AreClassesOf n names files h.0) (jobs-left leaves scripts before mid c m.2)
    (subst (λ (f : List ℕ → Contents). AreClassesOf (most_sites - length mid.sites) names f h.0) e h.1) in
    (c ∷ h.0, (m.1, are), h.2 ∙ ap (λ (jobs : RunJobs). fold (with_class leaves scripts) jobs h.0) m.2, All-cons HasDynamics c h.0 m.3 h.3)
made-all (Err e) leaves scripts name names files files' before mid contents m h = tt

-- a class's jobs after others are as few as there may be call sites
pub few_jobs : (leaves : LeafTable) (scripts : List Script) (before all : RunJobs) (c : Class) → all ≡ with_class leaves scripts before c →
    length before.sites ≤ most_sites → length c.sites ≤ most_sites - length before.sites → length all.sites ≤ most_sites
few_jobs leaves scripts before all c is few fits =
    let more : length all.sites ≡ length before.sites + length c.sites =
    ap (λ (jobs : RunJobs). length jobs.sites) is ∙ with_class-length leaves scripts before c in
    omega arith
