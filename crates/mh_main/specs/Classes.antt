-- What is made of class files that are read one after the other.
use Rattle.std.specs.Prelude.{◌≡◌, ℕ, ◌+◌, List, ◌++◌, All, fold, length}
use Rattle.mh_outside.specs.Contents.{Contents}
use Rattle.mh_leaf.specs.LeafTable.{LeafTable}
use Rattle.mh_classfile.specs.Class.{Class, HasDynamics}
use Rattle.mh_classfile.specs.File.{class_or_fault}
use Rattle.mh_listing.specs.Listing.{lines_from, listing_from}
use Rattle.mh_script.specs.declared.script.Script.{Script}
use Rattle.mh_jobs.specs.declared.run_jobs.RunJobs.{RunJobs}
use Rattle.mh_jobs.specs.RunJobs.{jobs_of, with_class}
use Rattle.mh_runtime.specs.Passes.{most_sites}
use Rattle.mh_main.specs.Input.{HasMeaning, class_limit}
use Rattle.mh_main.specs.Stops.{AreClassesOf}

-- if contracts see the file, it is a class file, whose sites were listed from one number to another
abbrev pub ListsClass : ℕ → Contents → ℕ → ℕ → List ℕ → List ℕ → Type 0
ListsClass room contents first next old new =
    (c : Class) × HasMeaning class_limit (class_or_fault room) contents c × (next ≡ first + length c.sites) × (new ≡ old ++ lines_from first c c.sites)

-- the files that contracts see are class files, whose sites were listed from a number on
abbrev pub ListsClasses : ℕ → List (List ℕ) → (List ℕ → Contents) → ℕ → List ℕ → List ℕ → Type 0
ListsClasses room names files first old new =
    (classes : List Class) × AreClassesOf room names files classes × (new ≡ old ++ listing_from first classes)

-- if contracts see the file, it is a class file, and its jobs stand after the earlier jobs; what its bootstrap methods are given are Dynamic entries of its own
abbrev pub MakesJobs : LeafTable → List Script → ℕ → Contents → RunJobs → RunJobs → Type 0
MakesJobs leaves scripts room contents before all =
    (c : Class) × HasMeaning class_limit (class_or_fault room) contents c × (all ≡ with_class leaves scripts before c) × HasDynamics c

-- the files that contracts see are class files, and their jobs stand after the earlier jobs
abbrev pub MakesAllJobs : LeafTable → List Script → ℕ → List (List ℕ) → (List ℕ → Contents) → RunJobs → RunJobs → Type 0
MakesAllJobs leaves scripts room names files before all =
    (classes : List Class) × AreClassesOf room names files classes × (all ≡ fold (with_class leaves scripts) before classes) × All HasDynamics classes

-- the jobs are those of the call sites and of the dynamic constants of the class files that contracts see
abbrev pub HasJobs : LeafTable → List Script → List (List ℕ) → (List ℕ → Contents) → RunJobs → Type 0
HasJobs leaves scripts names files jobs =
    (classes : List Class) × AreClassesOf most_sites names files classes × (jobs ≡ jobs_of leaves scripts classes) × All HasDynamics classes
