-- Class files that are listed one after the other.
use Rattle.std.proofs.Common.{◌≡◌, ◌∙◌, subst, ap, ℕ, ◌+◌, ◌-◌, List, [], ◌∷◌, ◌++◌, length, Result, Ok, Err, OnOk, arith, append_assoc}
use Rattle.mh_outside.specs.Contents.{Contents}
use Rattle.mh_classfile.specs.Class.{Class}
use Rattle.mh_listing.specs.Listing.{lines_from, listing, listing_from}
use Rattle.mh_runtime.specs.Passes.{most_sites}
use Rattle.mh_main.specs.Input.{AreListed, IfAccepted, listing_input, to_list}
use Rattle.mh_main.specs.Classes.{ListsClass, ListsClasses}
use Rattle.mh_main.specs.Stops.{AreClassesOf}
use Rattle.mh_main.proofs.ReadOn.{classes-read}

-- how many call sites the others may have
pub sites-left : (first next n : ℕ) → next ≡ first + n → most_sites - next ≡ most_sites - first - n
sites-left first next n h = omega arith

-- the class files after the first one were listed
pub listed-all : {E : Type 0} (r : Result (Unit {0}) E) (first next : ℕ) (name : List ℕ) (names : List (List ℕ)) (files files' : List ℕ → Contents)
    (old mid new : List ℕ) → ((n : List ℕ) → files' n ≡ files n) → ListsClass (most_sites - first) (files name) first next old mid →
    OnOk r (ListsClasses (most_sites - next) names files' next mid new) → OnOk r (ListsClasses (most_sites - first) (name ∷ names) files first old new)
listed-all (Ok u) first next name names files files' old mid new contents l h =
    let e : files' ≡ files = λ i n. contents n i in
    let c : Class = l.0 in
    let left = sites-left first next (length c.sites) l.2 in
    let are : AreClassesOf (most_sites - first - length c.sites) names files h.0 =
    subst (λ n. AreClassesOf n names files h.0) left (subst (λ (f : List ℕ → Contents). AreClassesOf (most_sites - next) names f h.0) e h.1) in (
      c ∷ h.0,
      (l.1, are),
      h.2 ∙ ap (λ m. m ++ listing_from next h.0) l.3 ∙ append_assoc old (lines_from first c c.sites) (listing_from next h.0)
          ∙ ap (λ n. old ++ (lines_from first c c.sites ++ listing_from n h.0)) l.2,
    )
listed-all (Err e) first next name names files files' old mid new contents l h = tt

-- class files that were all listed
pub all-listed : (names : List (List ℕ)) (files : List ℕ → Contents) (new : List ℕ) → ListsClasses most_sites names files 0 [] new →
    IfAccepted (listing_input most_sites names files) (AreListed (λ classes. new ≡ listing classes))
all-listed names files new l =
    classes-read (λ i. IfAccepted i (AreListed (λ classes. new ≡ listing classes))) most_sites names files l.0 to_list tt l.1 l.2
