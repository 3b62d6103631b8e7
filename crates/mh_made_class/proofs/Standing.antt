-- What stands in the pool of a made class, by the index that it is named by.
use Rattle.std.proofs.Common.{◌≡◌, ℕ, ◌+◌, List, [], ◌∷◌, ◌++◌, codes, drop, refl, subst, sum_by, arith}
use Rattle.std.proofs.lemmas.List.Sums.{sum_by-cons}
use Rattle.std.specs.List.{AllByRecursion, flat_map}
use Rattle.mh_class_pool.specs.declared.entry.Entry.{Entry}
use Rattle.mh_class_pool.specs.declared.entry.Entry.TheVariants as entries
use Rattle.mh_class_pool.specs.Entries.{Slot}
use Rattle.mh_made_class.specs.declared.site.MadeArg.{MadeArg}
use Rattle.mh_made_class.specs.declared.site.MadeArg.TheVariants as args
use Rattle.mh_made_class.specs.declared.site.MadeSite.{MadeSite}
use Rattle.mh_made_class.specs.Sites.{argument_width, site_width}
use Rattle.mh_made_class.specs.Layout.{arguments_from, PlacedSite, sites_from, placed_arguments}
use Rattle.mh_made_class.specs.Constants.{argument_entries, bootstrap_entries, bootstrap_type, call_entries, common_entries, entries_at, member_entries, site_entries}
use Rattle.mh_made_class.proofs.PoolSpelling.{entries_width, width-append}
use Rattle.mh_made_class.proofs.Lookups.{At, Holds, holds_split}

-- the entries that each made class has
pub record HasCommon (pool : List Slot) : Type 0 where
  pub main : At pool 2 (entries.Class 1)
  pub main_name : At pool 1 (entries.Utf8 (codes "made/Main"))
  pub object : At pool 4 (entries.Class 3)
  pub object_name : At pool 3 (entries.Utf8 (codes "java/lang/Object"))
  pub run : At pool 5 (entries.Utf8 (codes "run"))
  pub run_type : At pool 6 (entries.Utf8 (codes "()V"))
  pub code : At pool 7 (entries.Utf8 (codes "Code"))
  pub bootstraps : At pool 8 (entries.Utf8 (codes "BootstrapMethods"))
  pub boot : At pool 10 (entries.Class 9)
  pub boot_name : At pool 9 (entries.Utf8 (codes "made/Boot"))
  pub boot_type : At pool 11 (entries.Utf8 bootstrap_type)
  pub called : At pool 12 (entries.Utf8 (codes "f"))

-- Entries that stand at the first indexes are found there.
pub has_common : (pool : List Slot) → Holds pool 1 common_entries → HasCommon pool
has_common pool classes =
    let members : Holds pool 5 (member_entries ++ bootstrap_entries) = classes.1.1.1.1 in
    let bootstraps : Holds pool 9 bootstrap_entries = members.1.1.1.1 in
    record {
      main_name = classes.0;
      main = classes.1.0;
      object_name = classes.1.1.0;
      object = classes.1.1.1.0;
      run = members.0;
      run_type = members.1.0;
      code = members.1.1.0;
      bootstraps = members.1.1.1.0;
      boot_name = bootstraps.0;
      boot = bootstraps.1.0;
      boot_type = bootstraps.1.1.0;
      called = bootstraps.1.1.1.0;
    }

-- the entries of a call site
pub record HasSite (pool : List Slot) (p : PlacedSite) : Type 0 where
  pub script : At pool p.first (entries.Utf8 p.site.script)
  pub name : At pool (p.first + 1) (entries.NameAndType p.first 11)
  pub method : At pool (p.first + 2) (entries.Methodref 10 (p.first + 1))
  pub handle : At pool (p.first + 3) (entries.MethodHandle 6 (p.first + 2))
  pub ty : At pool (p.first + 4) (entries.Utf8 p.site.ty)
  pub call_name : At pool (p.first + 5) (entries.NameAndType 12 (p.first + 4))
  pub call : At pool (p.first + 6) (entries.InvokeDynamic p.number (p.first + 5))
  pub args : Holds pool (p.first + 7) (flat_map argument_entries (placed_arguments p))

-- Entries that stand from an index on stand from it if it is written in another way.
held_at : (pool : List Slot) (i j : ℕ) (es : List Entry) → i ≡ j → Holds pool i es → Holds pool j es
held_at pool i j es same = subst (λ k. Holds pool k es) same

-- Entries that stand from the first index of a call site on are found there.
pub has_site : (pool : List Slot) (p : PlacedSite) → Holds pool p.first (site_entries p) → HasSite pool p
has_site pool p script =
    let b = p.first in
    let arguments = flat_map argument_entries (placed_arguments p) in
    let name : Holds pool (b + 1) (drop 1 (site_entries p)) = script.1 in
    let method : Holds pool (b + 2) (drop 2 (site_entries p)) = held_at pool (b + 1 + 1) (b + 2) (drop 2 (site_entries p)) (omega arith) name.1 in
    let handle : Holds pool (b + 3) (drop 3 (site_entries p)) = held_at pool (b + 2 + 1) (b + 3) (drop 3 (site_entries p)) (omega arith) method.1 in
    let ty : Holds pool (b + 4) (call_entries p ++ arguments) = held_at pool (b + 3 + 1) (b + 4) (call_entries p ++ arguments) (omega arith) handle.1 in
    let call_name : Holds pool (b + 5) (drop 1 (call_entries p) ++ arguments) =
    held_at pool (b + 4 + 1) (b + 5) (drop 1 (call_entries p) ++ arguments) (omega arith) ty.1 in
    let call : Holds pool (b + 6) (drop 2 (call_entries p) ++ arguments) =
    held_at pool (b + 5 + 1) (b + 6) (drop 2 (call_entries p) ++ arguments) (omega arith) call_name.1 in
    record {
      script = script.0;
      name = name.0;
      method = method.0;
      handle = handle.0;
      ty = ty.0;
      call_name = call_name.0;
      call = call.0;
      args = held_at pool (b + 6 + 1) (b + 7) arguments (omega arith) call.1;
    }

-- The entries of an argument take as many indexes as its width says.
at_width : (first : ℕ) (arg : MadeArg) → entries_width (entries_at first arg) ≡ argument_width arg
at_width first (args.Integer n) = refl
at_width first (args.Long n) = refl
at_width first (args.Str text) = refl

-- So do those of all arguments.
arguments_width : (first : ℕ) (made : List MadeArg) → entries_width (flat_map argument_entries (arguments_from first made)) ≡ sum_by argument_width made
unfolding arguments_from
arguments_width first [] = refl
arguments_width first (arg ∷ made) =
    let rest = flat_map argument_entries (arguments_from (first + argument_width arg) made) in
    omega (
      arith,
      width-append (entries_at first arg) rest,
      at_width first arg,
      arguments_width (first + argument_width arg) made,
      sum_by-cons argument_width arg made,
    )

-- The entries of a call site take as many indexes as its width says.
pub entries_of_site : (p : PlacedSite) → entries_width (site_entries p) ≡ site_width p.site
entries_of_site p = omega (arith, arguments_width (p.first + 7) p.site.args)

-- Each of the arguments stands at its indexes.
pub arguments_stand : (pool : List Slot) (first : ℕ) (made : List MadeArg) → Holds pool first (flat_map argument_entries (arguments_from first made)) →
    AllByRecursion (λ a. Holds pool a.first (argument_entries a)) (arguments_from first made)
unfolding arguments_from
arguments_stand pool first [] h = tt
arguments_stand pool first (arg ∷ made) h =
    let rest = flat_map argument_entries (arguments_from (first + argument_width arg) made) in
    let parts = holds_split pool first (entries_at first arg) rest h in
    (parts.0, arguments_stand pool (first + argument_width arg) made (subst (λ n. Holds pool (first + n) rest) (at_width first arg) parts.1))

-- Each of the call sites stands at its indexes.
pub sites_stand : (pool : List Slot) (number first : ℕ) (sites : List MadeSite) → Holds pool first (flat_map site_entries (sites_from number first sites)) →
    AllByRecursion (HasSite pool) (sites_from number first sites)
unfolding sites_from
sites_stand pool number first [] h = tt
sites_stand pool number first (site ∷ sites) h =
    let p : PlacedSite = record { number = number; first = first; site = site } in
    let rest = flat_map site_entries (sites_from (number + 1) (first + site_width site) sites) in
    let parts = holds_split pool first (site_entries p) rest h in
    let after = subst (λ n. Holds pool (first + n) rest) (entries_of_site p) parts.1 in
    (has_site pool p parts.0, sites_stand pool (number + 1) (first + site_width site) sites after)
