-- Placing static arguments and call sites one after the other, as a loop does.
use Rattle.std.proofs.Common.{◌≡◌, ℕ, suc, ◌+◌, ◌≤◌, ◌<◌, List, [], ◌∷◌, ◌++◌, length, drop, get_or, sum_by, refl, sym, ap, subst, ◌∙◌, append_assoc, arith}
use Rattle.std.proofs.lemmas.List.{append-nil, drop_all}
use Rattle.std.proofs.lemmas.List.Sums.{sum_by-cons}
use Rattle.std.specs.List.{AllByRecursion}
use Rattle.mh_base.proofs.Lists.{drop_item}
use Rattle.mh_made_class.specs.declared.site.MadeArg.{MadeArg}
use Rattle.mh_made_class.specs.declared.site.MadeArg.TheVariants as made
use Rattle.mh_made_class.specs.declared.site.MadeSite.{MadeSite}
use Rattle.mh_made_class.specs.Sites.{argument_width, site_width}
use Rattle.mh_made_class.specs.Layout.{PlacedArgument, arguments_from, PlacedSite, sites_from}

-- the first item from a place on, and the others
pub all_split : {X : Type 0} (P : X → Type 0) (xs : List X) (i : ℕ) (x : X) → i < length xs → x ≡ get_or xs i x → AllByRecursion P (drop i xs) →
    P x × AllByRecursion P (drop (i + 1) xs)
all_split P xs i x lt is all = subst (AllByRecursion P) (drop_item xs i x lt is) all

-- a sum from a place on
pub sum_split : {X : Type 0} (f : X → ℕ) (xs : List X) (i : ℕ) (x : X) → i < length xs → x ≡ get_or xs i x →
    sum_by f (drop i xs) ≡ f x + sum_by f (drop (i + 1) xs)
sum_split f xs i x lt is = ap (sum_by f) (drop_item xs i x lt is) ∙ sum_by-cons f x (drop (i + 1) xs)

arguments-cons : (next : ℕ) (arg : MadeArg) (args : List MadeArg) → arguments_from next (arg ∷ args) ≡ record { first = next; arg = arg } ∷ arguments_from
    (next + argument_width arg) args
unfolding arguments_from
arguments-cons next arg args = refl

arguments-nil : (next : ℕ) → arguments_from next [] ≡ []
unfolding arguments_from
arguments-nil next = refl

abbrev placed_argument : ℕ → MadeArg → PlacedArgument
placed_argument first arg = record { first = first; arg = arg }

-- one static argument more
pub arguments_next : (next width : ℕ) (args : List MadeArg) (i : ℕ) (arg : MadeArg) (old new all : List PlacedArgument) → i < length args →
    arg ≡ get_or args i arg → width ≡ argument_width arg → new ≡ old ++ placed_argument next arg ∷ []
    → old ++ arguments_from next (drop i args) ≡ all → new ++ arguments_from (next + width) (drop (i + 1) args) ≡ all
arguments_next next width args i arg old new all lt is wide pushed so_far =
    let rest = arguments_from (next + width) (drop (i + 1) args) in
    let here : arguments_from next (drop i args) ≡ placed_argument next arg ∷ rest =
    ap (arguments_from next) (drop_item args i arg lt is) ∙ arguments-cons next arg (drop (i + 1) args)
    ∙ ap (λ n. placed_argument next arg ∷ arguments_from (next + n) (drop (i + 1) args)) (sym wide) in
    ap (λ xs. xs ++ rest) pushed ∙ append_assoc old (placed_argument next arg ∷ []) rest ∙ ap (λ xs. old ++ xs) (sym here) ∙ so_far

-- all static arguments were placed
pub arguments_end : (next : ℕ) (args : List MadeArg) (i : ℕ) (old all : List PlacedArgument) → length args ≤ i → old ++ arguments_from next (drop i args) ≡ all
    → old ≡ all
arguments_end next args i old all le so_far =
    sym (append-nil old) ∙ ap (λ xs. old ++ xs) (sym (ap (arguments_from next) (drop_all i args le) ∙ arguments-nil next)) ∙ so_far

-- as many as there are
pub arguments-length : (next : ℕ) (args : List MadeArg) → length (arguments_from next args) ≡ length args
arguments-length next [] = ap length (arguments-nil next)
arguments-length next (arg ∷ args) = ap length (arguments-cons next arg args) ∙ ap suc (arguments-length (next + argument_width arg) args)

some_width : (arg : MadeArg) → 0 < argument_width arg
some_width (made.Integer n) = omega arith
some_width (made.Long n) = omega arith
some_width (made.Str text) = omega arith

-- each takes an index
pub arguments_few : (args : List MadeArg) → length args ≤ sum_by argument_width args
arguments_few [] = omega arith
arguments_few (arg ∷ args) = omega (arith, sum_by-cons argument_width arg args, some_width arg, arguments_few args)

sites-cons : (number next : ℕ) (site : MadeSite) (sites : List MadeSite) → sites_from number next (site ∷ sites) ≡ record {
  number = number;
  first =
      next;
  site = site;
} ∷ sites_from (number + 1) (next + site_width site) sites
unfolding sites_from
sites-cons number next site sites = refl

sites-nil : (number next : ℕ) → sites_from number next [] ≡ []
unfolding sites_from
sites-nil number next = refl

abbrev placed_site : ℕ → ℕ → MadeSite → PlacedSite
placed_site number first site = record { number = number; first = first; site = site }

-- one call site more
pub sites_next : (next width : ℕ) (sites : List MadeSite) (i : ℕ) (site : MadeSite) (old new all : List PlacedSite) → i < length sites →
    site ≡ get_or sites i site → width ≡ site_width site → new ≡ old ++ placed_site i next site ∷ []
    → old ++ sites_from i next (drop i sites) ≡ all → new ++ sites_from (i + 1) (next + width) (drop (i + 1) sites) ≡ all
sites_next next width sites i site old new all lt is wide pushed so_far =
    let rest = sites_from (i + 1) (next + width) (drop (i + 1) sites) in
    let here : sites_from i next (drop i sites) ≡ placed_site i next site ∷ rest =
    ap (sites_from i next) (drop_item sites i site lt is) ∙ sites-cons i next site (drop (i + 1) sites)
    ∙ ap (λ n. placed_site i next site ∷ sites_from (i + 1) (next + n) (drop (i + 1) sites)) (sym wide) in
    ap (λ xs. xs ++ rest) pushed ∙ append_assoc old (placed_site i next site ∷ []) rest ∙ ap (λ xs. old ++ xs) (sym here) ∙ so_far

-- all call sites were placed
pub sites_end : (next : ℕ) (sites : List MadeSite) (i : ℕ) (old all : List PlacedSite) → length sites ≤ i → old ++ sites_from i next (drop i sites) ≡ all →
    old ≡ all
sites_end next sites i old all le so_far =
    sym (append-nil old) ∙ ap (λ xs. old ++ xs) (sym (ap (sites_from i next) (drop_all i sites le) ∙ sites-nil i next)) ∙ so_far
