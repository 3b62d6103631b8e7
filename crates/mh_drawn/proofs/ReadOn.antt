-- What is read after other files, of which contracts see what they saw before.
use Rattle.std.proofs.Common.{◌≡◌, sym, subst, ℕ, inr, List, ◌∷◌}
use Rattle.std.specs.Prelude.{IsErrAnd, IfErr, IfOk, Result, Ok, Err}
use Rattle.mh_outside.specs.Contents.{Contents}
use Rattle.mh_leaf.specs.LeafTable.{LeafTable}
use Rattle.mh_script.specs.declared.script.Script.{Script}
use Rattle.mh_drawn.specs.declared.reading.Sites.{Sites}
use Rattle.mh_drawn.specs.declared.stop.Stop.{Stop}
use Rattle.mh_drawn.specs.Reading.{AddsClass, AddsClasses, StopsClasses}

-- of files and counts of faults
pub at_start : (P : (List ℕ → Contents) → (List ℕ → ℕ) → Type 0) (files files' : List ℕ → Contents) (before before' : List ℕ → ℕ) →
    ((n : List ℕ) → files' n ≡ files n) → ((n : List ℕ) → before' n ≡ before n) → P files' before' → P files before
at_start P files files' before before' same still is =
    subst (λ fs. P fs before) (λ i n. same n i) (subst (λ b. P files' b) (λ i n. still n i) is)

-- of files alone
pub of_files : (P : (List ℕ → Contents) → Type 0) (files files' : List ℕ → Contents) → ((n : List ℕ) → files' n ≡ files n) → P files' → P files
of_files P files files' same is = subst P (λ i n. same n i) is

-- an error that is handed on
pub handed : {T E : Type 0} (r : Result T E) (e : E) (P : E → Type 0) → IsErrAnd r (λ x. x ≡ e) → P e → IfErr r P
handed (Ok t) e P given is = absurd given
handed (Err x) e P given is = subst P (sym given) is

-- ---- class files after the first

module _ (leaves : LeafTable) (scripts : List Script) (name : List ℕ) (names : List (List ℕ)) (files files' : List ℕ → Contents) (sites next : Sites)
    (same : (n : List ℕ) → files' n ≡ files n) (added : AddsClass leaves scripts name (files name) sites next) where
  pub adds-on : (r : Result Sites Stop) → IfOk r (AddsClasses leaves scripts names files' next) →
      IfOk r (AddsClasses leaves scripts (name ∷ names) files sites)
  adds-on (Ok all) h = (next, added, of_files (λ fs. AddsClasses leaves scripts names fs next all) files files' same h)
  adds-on (Err e) h = tt

  pub stops-on : (before before' now : List ℕ → ℕ) (r : Result Sites Stop) → ((n : List ℕ) → before' n ≡ before n) →
      IfErr r (StopsClasses leaves scripts names files' before' now next) → IfErr r (StopsClasses leaves scripts (name ∷ names) files before now sites)
  stops-on before before' now (Ok all) still h = tt
  stops-on before before' now (Err stop) still h =
      inr (next, added, at_start (λ fs b. StopsClasses leaves scripts names fs b now next stop) files files' before before' same still h)
