-- Stops at inputs that are reached after others.
use Rattle.std.proofs.Common.{◌≡◌, sym, subst, inr, ℕ, ◌-◌, List, ◌∷◌, length, Result, Ok, Err, IfErr}
use Rattle.std.specs.Result.{IsErrAnd}
use Rattle.mh_outside.specs.Contents.{Contents}
use Rattle.mh_outside.specs.Causes.{Rose, AreSame}
use Rattle.mh_classfile.specs.Class.{Class}
use Rattle.mh_classfile.specs.File.{class_or_fault}
use Rattle.mh_main.specs.declared.stop.Stop.{Stop}
use Rattle.mh_main.specs.declared.stop.Stop.TheVariants.{NoMemory, ReadFault, TooLong, Fault, Place}
use Rattle.mh_main.specs.Input.{HasMeaning, class_limit}
use Rattle.mh_main.specs.Stops.{IsStopAmong, IsStopOf, ReachesClass, Refuses, StopsClasses}
use Rattle.mh_main.proofs.ReadOn.{first-read, refuses-unseen}

-- a stop that is handed on
pub handed : {T : Type 0} (r : Result T Stop) (stop : Stop) (P : Stop → Type 0) → IsErrAnd r (λ s. s ≡ stop) → P stop → IfErr r P
handed (Ok t) stop P given is = absurd given
handed (Err s) stop P given is = subst P (sym given) is

-- a stop of an input that is reached
pub stops-at : (Reaches : List ℕ → Type 0) (name : List ℕ) (before now : List ℕ → ℕ) (stop : Stop) → Reaches name → IsStopOf name before now stop →
    IsStopAmong Reaches before now stop
stops-at Reaches name before now NoMemory there is = is
stops-at Reaches name before now (ReadFault at) there is =
    subst (λ (n : List ℕ). Reaches n × Rose (before n) (now n)) (sym is.0) (there, is.1)
stops-at Reaches name before now (TooLong at) there is = is.1
stops-at Reaches name before now (Fault at line kind) there is = is.1
stops-at Reaches name before now (Place at place kind) there is = is.1

-- a stop of inputs that are reached after others, whose reading left all counts
pub stops-later : (Reaches Reaches' : List ℕ → Type 0) (before before' now : List ℕ → ℕ) (stop : Stop) →
    ((name : List ℕ) → Reaches' name → Reaches name) → AreSame before before' →
    IsStopAmong Reaches' before' now stop → IsStopAmong Reaches before now stop
stops-later Reaches Reaches' before before' now NoMemory there same is = subst (λ (b : List ℕ → ℕ). AreSame b now) (λ i n. same n i) is
stops-later Reaches Reaches' before before' now (ReadFault at) there same is =
    (there at.now is.0, subst (λ n. Rose n (now at.now)) (same at.now) is.1)
stops-later Reaches Reaches' before before' now (TooLong at) there same is = subst (λ (b : List ℕ → ℕ). AreSame b now) (λ i n. same n i) is
stops-later Reaches Reaches' before before' now (Fault at line kind) there same is = subst (λ (b : List ℕ → ℕ). AreSame b now) (λ i n. same n i) is
stops-later Reaches Reaches' before before' now (Place at place kind) there same is = subst (λ (b : List ℕ → ℕ). AreSame b now) (λ i n. same n i) is

-- ---- class files

-- one of the others stops the reading
pub others-among : {T : Type 0} (r : Result T Stop) (room room' : ℕ) (name : List ℕ) (names : List (List ℕ)) (files files' : List ℕ → Contents)
    (before before' now : List ℕ → ℕ) (c : Class) → ((n : List ℕ) → files' n ≡ files n) → AreSame before before' →
    HasMeaning class_limit (class_or_fault room) (files name) c → room' ≡ room - length c.sites →
    IfErr r (λ stop. IsStopAmong (ReachesClass room' names files') before' now stop) →
    IfErr r (λ stop. IsStopAmong (ReachesClass room (name ∷ names) files) before now stop)
others-among (Ok t) room room' name names files files' before before' now c contents same is left h = tt
others-among (Err stop) room room' name names files files' before before' now c contents same is left h =
    let e : files' ≡ files = λ i n. contents n i in
    stops-later (ReachesClass room (name ∷ names) files) (ReachesClass room' names files') before before' now stop
    (λ at reached. inr (c, is, subst (λ n. ReachesClass n names files at) left (subst (λ (f : List ℕ → Contents). ReachesClass room' names f at) e reached)))
    same h

-- and is what the class files say
pub others-stop : {T : Type 0} (r : Result T Stop) (room room' : ℕ) (name : List ℕ) (names : List (List ℕ)) (files files' : List ℕ → Contents) (c : Class) →
    ((n : List ℕ) → files' n ≡ files n) → HasMeaning class_limit (class_or_fault room) (files name) c → room' ≡ room - length c.sites →
    IfErr r (λ stop. StopsClasses room' names files' stop) → IfErr r (λ stop. StopsClasses room (name ∷ names) files stop)
others-stop (Ok t) room room' name names files files' c contents is left h = tt
others-stop (Err stop) room room' name names files files' c contents is left h =
    let e : files' ≡ files = λ i n. contents n i in
    let stops : StopsClasses (room - length c.sites) names files stop =
    subst (λ n. StopsClasses n names files stop) left (subst (λ (f : List ℕ → Contents). StopsClasses room' names f stop) e h) in
    λ next. first-read (λ i. Refuses i stop) room name names files c next (refuses-unseen stop) is (stops (λ classes. next (c ∷ classes)))
