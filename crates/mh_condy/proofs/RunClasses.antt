-- The dynamic constants of class files: their jobs are those of the classes' Dynamic entries, and each constant that a job names is one of the run's.
use Rattle.std.proofs.Common.{◌≡◌, ◌⊎◌, refl, sym, ◌∙◌, ap, subst, inl, inr, ℕ, zero, suc, ◌+◌, ◌<◌, List, [], ◌∷◌, ◌++◌, length, Option, None, Some, Ok, arith}
use Rattle.std.specs.Prelude.{All, codes, fold, ok_or, option_map, option_to_list, slice_get}
use Rattle.std.specs.Option.{option_map_or}
use Rattle.std.proofs.lemmas.List.{length-append}
use Rattle.std.proofs.lemmas.List.Elements.{All-head, All-tail}
use Rattle.mh_base.proofs.Inversion.{ok_is}
use Rattle.mh_leaf.specs.LeafTable.{LeafTable}
use Rattle.mh_classfile.specs.declared.constant.Constant.{Constant}
use Rattle.mh_classfile.specs.declared.constant.Constant.TheVariants as constant
use Rattle.mh_classfile.specs.declared.constant.DynamicView.{DynamicView}
use Rattle.mh_classfile.specs.declared.constant.SiteView.{SiteView}
use Rattle.mh_classfile.specs.Class as class_file
use Rattle.mh_script.specs.declared.script.Script.{Script}
use Rattle.mh_jobs.specs.declared.constants.ConstJob.{ConstJob}
use Rattle.mh_jobs.specs.declared.job.Job.{Job}
use Rattle.mh_jobs.specs.declared.run_jobs.RunJobs.{RunJobs}
use Rattle.mh_jobs.specs.declared.sites.Bootstrap.{Bootstrap}
use Rattle.mh_jobs.specs.declared.unresolved.Part.{Part}
use Rattle.mh_jobs.specs.declared.unresolved.Part.TheVariants.{Known, Constant as OfConstant}
use Rattle.mh_jobs.specs.Constants.{const_job, const_jobs_from, with_constants}
use Rattle.mh_jobs.specs.Job.{bootstrap_method, constants_at, site_type, text_of}
use Rattle.mh_jobs.specs.Jobs.{jobs_from}
use Rattle.mh_jobs.specs.Parts.{named_constant, names_of, static_arguments}
use Rattle.mh_jobs.specs.RunJobs.{jobs_of, no_jobs, with_class}
use Rattle.mh_jobs.specs.Sites.{site_bootstrap, site_job}
use Rattle.mh_jobs.specs.Thrown.{◌>>=◌, unsupported}
use Rattle.mh_jobs.proofs.Parts.{bound-parts}
use Rattle.mh_link.specs.Named.{Constants, Name}
use Rattle.mh_link.specs.Places.{Has}
use Rattle.mh_link.proofs.constants.NamedOwn.{name-parts}
use Rattle.mh_link.proofs.walking.Places.{has-cons}
use Rattle.mh_condy.specs.Runs.{AreConstantJobs, HavePlaces}

-- ---- lists of jobs

-- an item of two lists stands in the first, or at a place of the second
either-at : {A : Type 0} (xs ys : List A) (i : ℕ) (x : A) → slice_get (xs ++ ys) i ≡ Some x →
    (slice_get xs i ≡ Some x) ⊎ ((j : ℕ) × (i ≡ length xs + j) × (slice_get ys j ≡ Some x))
either-at [] ys i x h = inr (i, omega arith, h)
either-at (y ∷ xs) ys zero x h = inl h
either-at (y ∷ xs) ys (suc i) x h =
    elim (either-at xs ys i x h) [
      | inl before ↦ inl before
      | inr new ↦ (let at = new.1 in inr (new.0, omega (arith, at), new.2))
    ]

-- ---- what a class's constants name

-- each Dynamic entry among these constants has its number among the class's
abbrev AreItsOwn : class_file.Class → List Constant → Type 0
AreItsOwn class cs =
    (i : ℕ) (d : DynamicView) → slice_get cs i ≡ Some (constant.Dynamic d) → class_file.number_of class d.index < length class.dynamics

-- a number is one of the class's constants, which are numbered from the first on
abbrev IsItsOwn : class_file.Class → ℕ → ℕ → Type 0
IsItsOwn class first k = k < first + length class.dynamics

own-constant : (class : class_file.Class) (first : ℕ) (c : Constant) (k : ℕ) → named_constant class first c ≡ Some k →
    (d : DynamicView) × (c ≡ constant.Dynamic d) × (first + class_file.number_of class d.index ≡ k)
own-constant class first (constant.Integer n) k h = absurd cc
own-constant class first (constant.Long n) k h = absurd cc
own-constant class first (constant.Float) k h = absurd cc
own-constant class first (constant.Double) k h = absurd cc
own-constant class first (constant.Class t) k h = absurd cc
own-constant class first (constant.Str t) k h = absurd cc
own-constant class first (constant.Handle r) k h = absurd cc
own-constant class first (constant.MethodType t) k h = absurd cc
own-constant class first (constant.Dynamic d) k h = (d, refl, cc)
own-constant class first (constant.Other) k h = absurd cc

-- what is named first is what is named by the option, or by the others
first-named : (o : Option ℕ) (rest : List ℕ) (k : ℕ) → Has (option_to_list o ++ rest) k → (o ≡ Some k) ⊎ Has rest k
first-named None rest k h = inr h
first-named (Some n) rest k h = elim (has-cons n rest k h) [ inl same ↦ inl (ap (λ (m : ℕ). Some m) same) | inr later ↦ inr later ]

names-own : (class : class_file.Class) (first : ℕ) (cs : List Constant) → AreItsOwn class cs → (k : ℕ) → Has (names_of class first cs) k →
    IsItsOwn class first k
names-own class first [] own k h = absurd cc
names-own class first (c ∷ cs) own k h =
    elim (first-named (named_constant class first c) (names_of class first cs) k h) [
      | inl here ↦ (
          let is = own-constant class first c k here in
          let less = own 0 is.0 (ap (λ (x : Constant). Some x) is.1) in
          let same = is.2 in
          omega (arith, less, same)
          )
      | inr later ↦ names-own class first cs (λ i d at. own (suc i) d at) k later
    ]

-- the constants of a bootstrap method are the class's own
given-own : (class : class_file.Class) → class_file.HasDynamics class → (j : ℕ) → AreItsOwn class (constants_at class j)
given-own class has j = cases (slice_get class.bootstraps j) refl
  where
    cases : (o : Option class_file.Bootstrap) → slice_get class.bootstraps j ≡ o →
        AreItsOwn class (option_map_or (λ (b : class_file.Bootstrap). b.arguments) o [])
    cases None at i d h = absurd cc
    cases (Some b) at i d h = has j b i d at h

-- the constants that a job's call has are below a number
abbrev pub NamesBelow : ℕ → Job → Type 0
NamesBelow n job = (call : Bootstrap) → job.call ≡ Ok call → (i d : ℕ) → slice_get call.arguments.parts i ≡ Some (OfConstant d) → d < n

-- ---- the jobs of constants

module _ (leaves : LeafTable) (scripts : List Script) where
  abbrev run : List ConstJob → Constants
  run jobs = record { leaves = leaves; scripts = scripts; jobs = jobs }

  made-at : (class : class_file.Class) (first number : ℕ) (ds : List DynamicView) (j : ℕ) (job : ConstJob) →
      slice_get (const_jobs_from leaves scripts class first number ds) j ≡ Some job →
      (d : DynamicView) × (slice_get ds j ≡ Some d) × (const_job leaves scripts class first (number + j) d ≡ job)
  made-at class first number [] j job h = absurd cc
  made-at class first number (d ∷ ds) zero job h =
      let this : const_job leaves scripts class first number d ≡ job = cc in
      let same : number + 0 ≡ number = omega arith in
      (d, refl, ap (λ (n : ℕ). const_job leaves scripts class first n d) same ∙ this)
  made-at class first number (d ∷ ds) (suc j) job h =
      let later = made-at class first (number + 1) ds j job h in
      let same : number + suc j ≡ number + 1 + j = omega arith in
      (later.0, later.1, ap (λ (n : ℕ). const_job leaves scripts class first n later.0) same ∙ later.2)

  made-length : (class : class_file.Class) (first number : ℕ) (ds : List DynamicView) →
      length (const_jobs_from leaves scripts class first number ds) ≡ length ds
  made-length class first number [] = refl
  made-length class first number (d ∷ ds) = ap suc (made-length class first (number + 1) ds)

  -- a class's constants are numbered on from those before
  pub with-length : (jobs : List ConstJob) (class : class_file.Class) →
      length (with_constants leaves scripts jobs class) ≡ length jobs + length class.dynamics
  with-length jobs class =
      length-append jobs (const_jobs_from leaves scripts class (length jobs) (length jobs) class.dynamics)
      ∙ ap (λ (n : ℕ). length jobs + n) (made-length class (length jobs) (length jobs) class.dynamics)

  -- a job of the classes up to one is that of a class before, or that of an entry of this one
  abbrev OfWith : List ConstJob → class_file.Class → ℕ → ConstJob → Type 0
  OfWith jobs class c job =
      (slice_get jobs c ≡ Some job)
      ⊎ ((j : ℕ) × (d : DynamicView) × (c ≡ length jobs + j) × (slice_get class.dynamics j ≡ Some d)
      × (const_job leaves scripts class (length jobs) (length jobs + j) d ≡ job))

  of-with : (jobs : List ConstJob) (class : class_file.Class) (c : ℕ) (job : ConstJob) →
      slice_get (with_constants leaves scripts jobs class) c ≡ Some job → OfWith jobs class c job
  of-with jobs class c job h =
      let first : ℕ = length jobs in
      elim (either-at jobs (const_jobs_from leaves scripts class first first class.dynamics) c job h) [
        | inl before ↦ inl before
        | inr new ↦ (
            let made = made-at class first first class.dynamics new.0 job new.2 in
            inr (new.0, made.0, new.1, made.1, made.2)
            )
      ]

  with-one : (jobs : List ConstJob) (class : class_file.Class) → class_file.HasDynamics class → AreConstantJobs (run jobs) →
      AreConstantJobs (run (with_constants leaves scripts jobs class))
  with-one jobs class has are = record {
    are = λ c job at. elim (of-with jobs class c job at) [
      | inl before ↦ are.are c job before
      | inr new ↦ (
          let Make : DynamicView → ConstJob = const_job leaves scripts class (length jobs) (length jobs + new.0) in
          (class, new.0, length jobs, ap (λ (o : Option DynamicView). option_map Make o) new.3 ∙ ap (λ (made : ConstJob). Some made) new.4)
          )
    ];
    numbered = λ c job at. elim (of-with jobs class c job at) [
      | inl before ↦ are.numbered c job before
      | inr new ↦ sym (ap (λ (made : ConstJob). made.number) new.4) ∙ sym new.2
    ];
    named = λ c job at d names. (
        let all = with-length jobs class in
        elim (of-with jobs class c job at) [
          | inl before ↦ (let less = are.named c job before d names in omega (arith, all, less))
          | inr new ↦ (
              let among = subst (λ (made : ConstJob). Has made.names d) (sym new.4) names in
              let less = names-own class (length jobs) (constants_at class new.1.bootstrap) (given-own class has new.1.bootstrap) d among in
              omega (arith, all, less)
              )
        ]
        );
  }

  -- no job is one of no class
  none-are : AreConstantJobs (run [])
  none-are = record {
    are = λ c job at. absurd cc;
    numbered = λ c job at. absurd cc;
    named = λ c job at. absurd cc;
  }

  all-are : (before : RunJobs) (classes : List class_file.Class) → All class_file.HasDynamics classes → AreConstantJobs (run before.constants) →
      AreConstantJobs (run (fold (with_class leaves scripts) before classes).constants)
  all-are before [] have are = are
  all-are before (class ∷ classes) have are =
      all-are (with_class leaves scripts before class) classes (All-tail class_file.HasDynamics class classes have)
      (with-one before.constants class (All-head class_file.HasDynamics class classes have) are)

  -- the constants of classes have their jobs, and name constants of the run
  pub constant-jobs : (classes : List class_file.Class) → All class_file.HasDynamics classes →
      AreConstantJobs (run (jobs_of leaves scripts classes).constants)
  constant-jobs classes have = all-are no_jobs classes have none-are

  -- ---- the jobs of call sites

  parts-named : (names : List ℕ) (parts : List Part) → Name names parts → (i d : ℕ) → slice_get parts i ≡ Some (OfConstant d) → Has names d
  parts-named names [] named i d h = absurd cc
  parts-named names (Known a ∷ parts) named zero d h = absurd cc
  parts-named names (Known a ∷ parts) named (suc i) d h = parts-named names parts named i d h
  parts-named names (OfConstant c ∷ parts) named zero d h =
      let same : c ≡ d = cc in subst (λ (n : ℕ). Has names n) same named.0
  parts-named names (OfConstant c ∷ parts) named (suc i) d h = parts-named names parts named.1 i d h

  -- the constants among a bootstrap method's static arguments are the class's own
  arguments-own : (class : class_file.Class) (first j : ℕ) → class_file.HasDynamics class → (i d : ℕ) →
      slice_get (static_arguments leaves class first (constants_at class j)).parts i ≡ Some (OfConstant d) → IsItsOwn class first d
  arguments-own class first j has i d h =
      names-own class first (constants_at class j) (given-own class has j) d
      (parts-named (names_of class first (constants_at class j)) (static_arguments leaves class first (constants_at class j)).parts
      (name-parts leaves class first (constants_at class j)) i d h)

  -- the static arguments of a call site's call are those of its bootstrap method
  site-arguments : (class : class_file.Class) (first : ℕ) (site : SiteView) (call : Bootstrap) → site_bootstrap leaves scripts class first site ≡ Ok call →
      call.arguments ≡ static_arguments leaves class first (constants_at class site.bootstrap)
  site-arguments class first site call h = cases (slice_get class.bootstraps site.bootstrap) h
    where
      cases : (o : Option class_file.Bootstrap) →
          (ok_or o (unsupported (codes "constant")) >>= (λ (bootstrap : class_file.Bootstrap).
          bootstrap_method leaves.classes scripts bootstrap.handle >>= (λ method. site_type leaves.classes site >>= (λ t. text_of site.name >>= (λ name.
          Ok (record { method = method; name = name; ty = t; arguments = static_arguments leaves class first bootstrap.arguments })))))) ≡ Ok call →
          call.arguments ≡ static_arguments leaves class first (option_map_or (λ (b : class_file.Bootstrap). b.arguments) o [])
      cases None h = absurd cc
      cases (Some bootstrap) h =
          let method = bound-parts (bootstrap_method leaves.classes scripts bootstrap.handle) _ call h in
          let typed = bound-parts (site_type leaves.classes site) _ call method.2 in
          let name = bound-parts (text_of site.name) _ call typed.2 in
          ap (λ (c : Bootstrap). c.arguments) (sym (ok_is _ call name.2))

  pub site-names : (class : class_file.Class) (first number : ℕ) (site : SiteView) → class_file.HasDynamics class →
      NamesBelow (first + length class.dynamics) (site_job leaves scripts class first number site)
  site-names class first number site has call called i d at =
      arguments-own class first site.bootstrap has i d
      (subst (λ parts. slice_get parts i ≡ Some (OfConstant d)) (ap (λ a. a.parts) (site-arguments class first site call called)) at)

  from-names : (class : class_file.Class) (first number : ℕ) (sites : List SiteView) → class_file.HasDynamics class → (k : ℕ) (job : Job) →
      slice_get (jobs_from leaves scripts class first number sites) k ≡ Some job → NamesBelow (first + length class.dynamics) job
  from-names class first number [] has k job h = absurd cc
  from-names class first number (site ∷ sites) has zero job h =
      let this : site_job leaves scripts class first number site ≡ job = cc in
      subst (λ (made : Job). NamesBelow (first + length class.dynamics) made) this (site-names class first number site has)
  from-names class first number (site ∷ sites) has (suc k) job h = from-names class first (number + 1) sites has k job h

  abbrev AllBelow : RunJobs → Type 0
  AllBelow jobs = (k : ℕ) (job : Job) → slice_get jobs.sites k ≡ Some job → NamesBelow (length jobs.constants) job

  sites-with : (before : RunJobs) (class : class_file.Class) → class_file.HasDynamics class → AllBelow before → AllBelow
      (with_class leaves scripts before class)
  sites-with before class has below k job h call called i d at =
      let all = with-length before.constants class in
      elim (either-at before.sites (jobs_from leaves scripts class (length before.constants) (length before.sites) class.sites) k job h) [
        | inl there ↦ (let less = below k job there call called i d at in omega (arith, all, less))
        | inr new ↦ (
            let less = from-names class (length before.constants) (length before.sites) class.sites has new.0 job new.2 call called i d at in
            omega (arith, all, less)
            )
      ]

  all-below : (before : RunJobs) (classes : List class_file.Class) → All class_file.HasDynamics classes → AllBelow before →
      AllBelow (fold (with_class leaves scripts) before classes)
  all-below before [] have below = below
  all-below before (class ∷ classes) have below =
      all-below (with_class leaves scripts before class) classes (All-tail class_file.HasDynamics class classes have)
      (sites-with before class (All-head class_file.HasDynamics class classes have) below)

  -- each constant that a call site of classes has is one of the run's
  pub sites-place : (classes : List class_file.Class) → All class_file.HasDynamics classes → (k : ℕ) (job : Job) →
      slice_get (jobs_of leaves scripts classes).sites k ≡ Some job → (call : Bootstrap) → job.call ≡ Ok call →
      HavePlaces (run (jobs_of leaves scripts classes).constants) call.arguments.parts
  sites-place classes have k job at call called i d part = all-below no_jobs classes have (λ k job h. absurd cc) k job at call called i d part
