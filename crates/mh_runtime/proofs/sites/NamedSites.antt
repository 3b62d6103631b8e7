-- A thread's calls name more sites, of which it attempts none.
use Rattle.std.proofs.Common.{◌≡◌, refl, sym, ◌∙◌, ap, subst, ℕ, Bool, true, false, cond, if◌then◌else◌, List, [], ◌∷◌, ◌++◌, append-nil, append_assoc}
use Rattle.std.specs.Prelude.{Contains, filter}
use Rattle.std.proofs.lemmas.Bool.{both_ways, false_from_ne_true}
use Rattle.std.proofs.lemmas.List.Elements.{All-contains, All-map, All-weaker, Contains-append_left, filter-append}
use Rattle.mh_plan.specs.Naming.{first_places}
use Rattle.mh_report.specs.declared.attempt.Attempt.{Attempt}
use Rattle.mh_runtime.specs.Attempts.{IsThreadRun, sites_of}
use Rattle.mh_runtime.specs.Passes.{LinkPass}
use Rattle.mh_runtime.proofs.sites.Sites.{contains-in, first-push, in-contains, is_in}

module _ (sites : List ℕ) (x : ℕ) (pass : LinkPass) (run : IsThreadRun sites pass) where
  abbrev made : ℕ → Bool
  made = is_in (sites_of pass.attempts)

  -- a thread attempts only what it names
  pub own-sites : is_in sites x ≡ false → made x ≡ false
  own-sites none = false_from_ne_true (made x) (λ there.
      both_ways (is_in sites x) none (contains-in sites x
      (All-contains (Contains sites) (sites_of pass.attempts) x (All-map (Contains sites) (λ (a : Attempt). a.site) pass.attempts run.reached)
      (in-contains (sites_of pass.attempts) x there))))

  one-named : IsThreadRun (sites ++ x ∷ []) pass
  one-named = record {
    numbered = run.numbered;
    rising = run.rising;
    own = run.own;
    apart = run.apart;
    reached = All-weaker (λ (a : Attempt). Contains sites a.site) (λ (a : Attempt). Contains (sites ++ x ∷ []) a.site)
        (λ a. Contains-append_left sites (x ∷ []) a.site) pass.attempts run.reached;
    in_order =
        run.in_order
        ∙ sym (ap (filter made) (first-push [] sites x) ∙ (filter-append made (first_places [] sites) (if is_in sites x then [] else x ∷ [])
        ∙ (ap (λ ks. filter made (first_places [] sites) ++ ks) (cases (is_in sites x) refl) ∙ append-nil (filter made (first_places [] sites)))));
  }
    where
      cases : (b : Bool) → is_in sites x ≡ b → filter made (if b then [] else x ∷ []) ≡ []
      cases true there = refl
      cases false none = ap (λ b. cond b (x ∷ []) []) (own-sites none)

pub more-named : (sites rest : List ℕ) (pass : LinkPass) → IsThreadRun sites pass → IsThreadRun (sites ++ rest) pass
more-named sites [] pass run = subst (λ s. IsThreadRun s pass) (sym (append-nil sites)) run
more-named sites (x ∷ rest) pass run =
    subst (λ s. IsThreadRun s pass) (append_assoc sites (x ∷ []) rest) (more-named (sites ++ x ∷ []) rest pass (one-named sites x pass run))
