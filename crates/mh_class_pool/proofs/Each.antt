-- Checking each of a list, as a loop over its indexes does.
use Rattle.std.proofs.Common.{◌≡◌, ℕ, suc, ◌+◌, ◌≤◌, ◌<◌, List, [], ◌∷◌, length, get_or, drop, drop-cons, add-one, Ok, Err, refl, sym, ap, ◌∙◌, arith}
use Rattle.std.proofs.lemmas.List.{length-drop, nil_from_length}
use Rattle.mh_class_bytes.specs.declared.fault.Fault.{Fault}
use Rattle.mh_class_pool.specs.declared.fault.ClassKind.{ClassKind}
use Rattle.mh_class_pool.specs.References.{Verdict, each}

each-cons : {X : Type 0} (f : X → Verdict) (x : X) (xs : List X) → f x ≡ Ok tt → each f (x ∷ xs) ≡ each f xs
unfolding each
each-cons f x xs h = rw h refl

each-stop : {X : Type 0} (f : X → Verdict) (x : X) (xs : List X) (e : Fault ClassKind) → f x ≡ Err e → each f (x ∷ xs) ≡ Err e
unfolding each
each-stop f x xs e h = rw h refl

each-nil : {X : Type 0} (f : X → Verdict) → each f [] ≡ Ok tt
unfolding each
each-nil f = refl

-- one that passes
pub each_next : {X : Type 0} (f : X → Verdict) (xs : List X) (i : ℕ) (d : X) (total : Verdict) → i < length xs → f (get_or xs i d) ≡ Ok tt →
    each f (drop i xs) ≡ total → each f (drop (i + 1) xs) ≡ total
each_next f xs i d total lt h so_far =
    rw add-one (sym (each-cons f (get_or xs i d) (drop (suc i) xs) h) ∙ sym (ap (each f) (drop-cons xs i d lt)) ∙ so_far)

-- one that does not
pub each_stops : {X : Type 0} (f : X → Verdict) (xs : List X) (i : ℕ) (d : X) (total : Verdict) (e : Fault ClassKind) → i < length xs →
    f (get_or xs i d) ≡ Err e → each f (drop i xs) ≡ total → total ≡ Err e
each_stops f xs i d total e lt h so_far =
    sym so_far ∙ ap (each f) (drop-cons xs i d lt) ∙ each-stop f (get_or xs i d) (drop (suc i) xs) e h

-- all passed
pub each_done : {X : Type 0} (f : X → Verdict) (xs : List X) (i : ℕ) (total : Verdict) → length xs ≤ i → each f (drop i xs) ≡ total → total ≡ Ok tt
each_done f xs i total le so_far =
    sym so_far ∙ ap (each f) (nil_from_length (drop i xs) (omega (arith, length-drop i xs))) ∙ each-nil f
