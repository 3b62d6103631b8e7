-- What a pass has made that began with nothing.
use Rattle.std.proofs.Common.{◌≡◌, refl, sym, ◌∙◌, ap, ap₂, subst, ℕ, zero, suc, true, false, ◌||◌, List, [], ◌∷◌, ◌++◌, append-nil, Option, Some, None}
use Rattle.std.specs.Prelude.{option_map, is_some}
use Rattle.std.specs.List.{flat_map}
use Rattle.std.proofs.lemmas.Bool.{both_ways}
use Rattle.std.proofs.lemmas.List.Concat.{flat_map-append}
use Rattle.mh_condy.specs.Recorded.{ConstView}
use Rattle.mh_jobs.specs.declared.unresolved.StaticArguments.{StaticArguments}
use Rattle.mh_jobs.specs.Thrown.{OrThrown}
use Rattle.mh_link.specs.Named.{Constants, AreConstJobs}
use Rattle.mh_link.specs.Depth.{most_depth}
use Rattle.mh_link.specs.Constants.{serial_at, const_under, values_of}
use Rattle.mh_link.specs.Places.{is_in, Has, first_new, first_places}
use Rattle.mh_link.specs.Asking.{asked_of_call, asked_by, asked_by_all, below, with_below}
use Rattle.mh_condy.specs.Nodes.{Nodes, node_in, found_in, is_known, serials_in, AreNodes, Keeps}
use Rattle.mh_condy.specs.Trails.{Trail, GoesOn, IsFresh}
use Rattle.mh_link.proofs.walking.Places.{first-append, first-twice, has-left, has-right, in-append, in-first}
use Rattle.mh_condy.proofs.Trails.{found-kept, goes-both, seen-known}
use Rattle.mh_condy.proofs.News.{new-places}
use Rattle.mh_link.proofs.constants.Asked.{agree-each, under-same}
use Rattle.mh_link.proofs.walking.Asking.{asked-same}
use Rattle.mh_link.proofs.constants.FixedPoint.{only}
use Rattle.mh_link.proofs.walking.Walks.{below-same, with-below-same}

-- the serials of nodes
pub serial-in : (known : Nodes) (c : ℕ) → serial_at (serials_in known) c ≡ option_map (λ (node : ConstView). node.serial) (node_in known c)
serial-in [] c = refl
serial-in (o ∷ known) zero = refl
serial-in (o ∷ known) (suc c) = serial-in known c

-- repeats that are left out in parts change nothing
pub first-parts : {A : Type 0} (f : A → List ℕ) (seen : List ℕ) (xs : List A) →
    first_places seen (flat_map (λ x. first_places [] (f x)) xs) ≡ first_places seen (flat_map f xs)
first-parts f seen [] = refl
first-parts f seen (x ∷ xs) =
    first-append seen (first_places [] (f x)) (flat_map (λ y. first_places [] (f y)) xs)
    ∙ (ap (λ ys. ys ++ first_places (seen ++ ys) (flat_map (λ y. first_places [] (f y)) xs))
    (first-twice seen [] (f x) (λ k h. absurd (both_ways false refl h)))
    ∙ (ap (λ ys. first_places seen (f x) ++ ys) (first-parts f (seen ++ first_places seen (f x)) xs)
    ∙ sym (first-append seen (f x) (flat_map f xs))))

in-parts : {A : Type 0} (f : A → List ℕ) (xs : List A) (k : ℕ) → is_in (flat_map (λ x. first_places [] (f x)) xs) k ≡ is_in (flat_map f xs) k
in-parts f [] k = refl
in-parts f (x ∷ xs) k =
    in-append (first_places [] (f x)) (flat_map (λ y. first_places [] (f y)) xs) k
    ∙ (ap₂ (λ a b. a || b) (in-first [] (f x) k) (in-parts f xs k) ∙ sym (in-append (f x) (flat_map f xs) k))

with-flat : {A : Type 0} (own : ℕ → List ℕ) (n : ℕ) (f : A → List ℕ) (xs : List A) →
    with_below own n (flat_map f xs) ≡ flat_map (λ x. with_below own n (f x)) xs
with-flat own n f [] = refl
with-flat own n f (x ∷ xs) = flat_map-append (λ c. c ∷ below own n c) (f x) (flat_map f xs) ∙ ap (λ ys. with_below own n (f x) ++ ys) (with-flat own n f xs)

flat-each : {A : Type 0} (f g : A → List ℕ) (xs : List A) → ((x : A) → f x ≡ g x) → flat_map f xs ≡ flat_map g xs
flat-each f g [] same = refl
flat-each f g (x ∷ xs) same = ap₂ (λ ys zs. ys ++ zs) (same x) (flat-each f g xs same)

module _ (run : Constants) (named : AreConstJobs run) (known : Nodes) (nodes : AreNodes run known) where
  -- what is known is what constants are by the serials of the nodes
  pub found-values : (c : ℕ) → found_in known c ≡ values_of run (serials_in known) c
  found-values = only run named (serials_in known) (found_in known) (λ c. cases c (node_in known c) refl ∙ ap (λ o.
      option_map (λ serial. const_under run (found_in known) c serial) o) (sym (serial-in known c)))
    where
      cases : (c : ℕ) (o : Option ConstView) → node_in known c ≡ o → option_map (λ (node : ConstView). node.value) o
          ≡ option_map (λ serial. const_under run (found_in known) c serial) (option_map (λ (node : ConstView). node.serial) o)
      cases c None at = refl
      cases c (Some n) at = ap (λ v. Some v) (nodes.each c n at).is

  -- so constants look at the same
  pub own-values : (c : ℕ) → asked_by run (found_in known) c ≡ asked_by run (values_of run (serials_in known)) c
  own-values c =
      (under-same run (found_in known) (values_of run (serials_in known)) c
      (agree-each (found_in known) (values_of run (serials_in known)) (asked_by run (found_in known) c) (λ d h. found-values d))).1

  pub call-values : (call : OrThrown StaticArguments) → asked_of_call (found_in known) call ≡ asked_of_call (values_of run (serials_in known)) call
  call-values call =
      asked-same (found_in known) (values_of run (serials_in known)) call
      (agree-each (found_in known) (values_of run (serials_in known)) (asked_of_call (found_in known) call) (λ d h. found-values d))

  pub below-values : (cs : List ℕ) → with_below (asked_by run (found_in known)) most_depth cs
      ≡ with_below (asked_by run (values_of run (serials_in known))) most_depth cs
  below-values cs =
      with-below-same (asked_by run (found_in known)) (asked_by run (values_of run (serials_in known))) most_depth
      (below-same (asked_by run (found_in known)) (asked_by run (values_of run (serials_in known))) most_depth) cs (λ d h. own-values d)

  -- all that stands below what calls look at, a call after the other
  calls-below : (calls : List (OrThrown StaticArguments)) →
      with_below (asked_by run (found_in known)) most_depth (flat_map (asked_of_call (found_in known)) calls)
      ≡ flat_map (λ call. with_below (asked_by run (values_of run (serials_in known))) most_depth (asked_of_call (values_of run (serials_in known)) call)) calls
  calls-below calls =
      with-flat (asked_by run (found_in known)) most_depth (asked_of_call (found_in known)) calls
      ∙ flat-each (λ call. with_below (asked_by run (found_in known)) most_depth (asked_of_call (found_in known) call))
      (λ call. with_below (asked_by run (values_of run (serials_in known))) most_depth (asked_of_call (values_of run (serials_in known)) call)) calls
      (λ call. below-values (asked_of_call (found_in known) call)
      ∙ ap (with_below (asked_by run (values_of run (serials_in known))) most_depth) (call-values call))

module _ (run : Constants) (named : AreConstJobs run) (calls : List (OrThrown StaticArguments)) (p q : Trail) (fresh : IsFresh p)
    (goes : GoesOn run (flat_map (asked_of_call (found_in q.known)) calls) p q) where
  -- the constants that were attempted are those that the calls ask, in the order in which the calls first ask them
  pub attempts-asked : q.attempts ≡ first_places [] (asked_by_all run (serials_in q.known) calls)
  attempts-asked =
      goes.attempts
      ∙ (ap₂ (λ xs ys. xs ++ first_new (is_known p.known) ys) fresh.attempts (calls-below run named q.known goes.sound calls)
      ∙ (new-places (is_known p.known) [] (flat_map whole calls) fresh.known
      ∙ sym (first-parts whole [] calls)))
    where
      whole : OrThrown StaticArguments → List ℕ
      whole call = with_below (asked_by run (values_of run (serials_in q.known))) most_depth (asked_of_call (values_of run (serials_in q.known)) call)

  -- a constant has a serial exactly where some call asks it
  pub serials-asked : (c : ℕ) → is_some (serial_at (serials_in q.known) c) ≡ is_in (asked_by_all run (serials_in q.known) calls) c
  serials-asked c =
      ap is_some (serial-in q.known c)
      ∙ (some-map (node_in q.known c)
      ∙ (goes.known c
      ∙ (ap₂ (λ b xs. b || is_in xs c) (fresh.known c) (calls-below run named q.known goes.sound calls)
      ∙ sym (in-parts whole calls c))))
    where
      whole : OrThrown StaticArguments → List ℕ
      whole call = with_below (asked_by run (values_of run (serials_in q.known))) most_depth (asked_of_call (values_of run (serials_in q.known)) call)

      some-map : (o : Option ConstView) → is_some (option_map (λ (node : ConstView). node.serial) o) ≡ is_some o
      some-map None = refl
      some-map (Some n) = refl

-- ---- one call after the other

calls-kept : (old new : Nodes) → Keeps old new → (calls : List (OrThrown StaticArguments)) →
    ((c : ℕ) → Has (flat_map (asked_of_call (found_in old)) calls) c → is_known old c ≡ true) →
    flat_map (asked_of_call (found_in old)) calls ≡ flat_map (asked_of_call (found_in new)) calls
calls-kept old new keeps [] each = refl
calls-kept old new keeps (call ∷ calls) each =
    ap₂ (λ xs ys. xs ++ ys)
    (asked-same (found_in old) (found_in new) call (agree-each (found_in old) (found_in new) (asked_of_call (found_in old) call)
    (λ c h. found-kept old new keeps c (each c (has-left (asked_of_call (found_in old) call) (flat_map (asked_of_call (found_in old)) calls) c h)))))
    (calls-kept old new keeps calls (λ c h. each c (has-right (asked_of_call (found_in old) call) (flat_map (asked_of_call (found_in old)) calls) c h)))

pub goes-call : (run : Constants) (calls : List (OrThrown StaticArguments)) (call : OrThrown StaticArguments) (p q r : Trail) →
    GoesOn run (flat_map (asked_of_call (found_in q.known)) calls) p q → GoesOn run (asked_of_call (found_in r.known) call) q r →
    GoesOn run (flat_map (asked_of_call (found_in r.known)) (calls ++ call ∷ [])) p r
goes-call run calls call p q r first second =
    subst (λ cs. GoesOn run cs p r)
    (ap (λ xs. xs ++ asked_of_call (found_in r.known) call)
    (calls-kept q.known r.known second.keeps calls (seen-known run (flat_map (asked_of_call (found_in q.known)) calls) p q first))
    ∙ (ap (λ ys. flat_map (asked_of_call (found_in r.known)) calls ++ ys) (sym (append-nil (asked_of_call (found_in r.known) call)))
    ∙ sym (flat_map-append (asked_of_call (found_in r.known)) calls (call ∷ []))))
    (goes-both run (flat_map (asked_of_call (found_in q.known)) calls) (asked_of_call (found_in r.known) call) p q r first second)
