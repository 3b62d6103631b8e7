-- The class of a class file has the bootstrap methods that its call sites name (JVMS SE 17, 4.7.23), and no more call sites than there is room for.
use Rattle.std.proofs.Common.{◌≡◌, refl, sym, subst, ◌∙◌, ℕ, zero, suc, ◌<◌, ◌≤◌, Bool, true, false, List, [], ◌∷◌, length, Option, Some, None, Result, Ok, Err, arith}
use Rattle.std.specs.Prelude.{All, slice_get, slice_index_or, option_map, nat_lt, IfOk}
use Rattle.std.proofs.lemmas.Bool.Decides.{nat_tests}
use Rattle.std.proofs.lemmas.List.Elements.{All-get_or}
use Rattle.std.proofs.lemmas.List.{length-map}
use Rattle.std.proofs.lemmas.Option.{get_or_from_slice_get, slice_get-map, slice_get_within}
use Rattle.mh_class_pool.specs.Entries.{Slot}
use Rattle.mh_class_pool.specs.References.{Verdict, ◌>>=◌, holds, each}
use Rattle.mh_class_pool.specs.declared.fault.ClassError.{ClassError}
use Rattle.mh_class_pool.specs.declared.fault.ClassKind.TheVariants.{BadBootstraps}
use Rattle.mh_classfile.specs.declared.constant.SiteView.{SiteView}
use Rattle.mh_classfile.specs.declared.site.Site.{Site}
use Rattle.mh_classfile.specs.Class as class_file
use Rattle.mh_classfile.specs.Class.{HasBootstraps, HasDynamics}
use Rattle.mh_classfile.specs.File.{has_bootstrap, rows_or_none, class_end, class_file as whole_file, IsClassFile}
use Rattle.mh_classfile.specs.Rows.{Row}
use Rattle.mh_classfile.proofs.Spelled.{Gives, value-gives, verdict-gives, both-give, later-gives}
use Rattle.mh_classfile.proofs.FoundSites.{IsCalling, AreCalling, AreFound, members-call}
use Rattle.mh_classfile.proofs.NamedDynamics.{have-dynamics}

first : (v : Verdict) (next : Unit {0} → Verdict) → (v >>= next) ≡ Ok tt → v ≡ Ok tt
first (Ok u) next h = refl
first (Err e) next h = absurd cc

second : (v : Verdict) (next : Verdict) → (v >>= (λ _. next)) ≡ Ok tt → next ≡ Ok tt
second (Ok u) next h = h
second (Err e) next h = absurd cc

each-at : {X : Type 0} (f : Option X → Verdict) (xs : List (Option X)) (i : ℕ) → f None ≡ Ok tt → each f xs ≡ Ok tt → f (slice_index_or xs i None) ≡ Ok tt
unfolding each
each-at f [] i none h = none
each-at f (x ∷ xs) zero none h = first (f x) (λ _. each f xs) h
each-at f (x ∷ xs) (suc i) none h = each-at f xs i none (second (f x) (each f xs) h)

below : (c : Bool) (at : ℕ) → holds c at BadBootstraps ≡ Ok tt → c ≡ true
below true at h = refl
below false at h = absurd cc

calling : (pool : List Slot) (count : ℕ) (s : Site) → IsCalling pool s → each (has_bootstrap count) pool ≡ Ok tt →
    (class_file.site_view pool s).bootstrap < count
unfolding has_bootstrap
calling pool count s is h =
    let passed = subst (λ (o : Slot). has_bootstrap count o ≡ Ok tt) is.3 (each-at (has_bootstrap count) pool s.index refl h) in
    let less : nat_lt is.1 count ≡ true = below (nat_lt is.1 count) is.0 passed in
    let within : is.1 < count = grind (arith, nat_tests) in
    subst (λ (o : Slot). (class_file.called pool o).0 < count) (sym is.3) within

element : {X : Type 0} (P : X → Type 0) (xs : List X) (k : ℕ) (x : X) → All P xs → slice_get xs k ≡ Some x → P x
element P xs k x all h = subst P (get_or_from_slice_get xs k x x h) (All-get_or P xs k x (slice_get_within xs k x h) all)

viewed : (pool : List Slot) (o : Option Site) (site : SiteView) → option_map (class_file.site_view pool) o ≡ Some site →
    (s : Site) × (o ≡ Some s) × (class_file.site_view pool s ≡ site)
viewed pool (Some s) site h = (s, refl, cc)
viewed pool None site h = absurd cc

have : (pool : List Slot) (sites : List Site) (rows : List Row) → AreCalling pool sites → each (has_bootstrap (length rows)) pool ≡ Ok tt →
    HasBootstraps (class_file.class_of pool sites rows)
have pool sites rows are known k site at =
    let there = viewed pool (slice_get sites k) site (sym (slice_get-map (class_file.site_view pool) sites k) ∙ at) in
    let within = calling pool (length rows) there.0 (element (IsCalling pool) sites k there.0 are there.1) known in
    subst (λ n. site.bootstrap < n) (sym (length-map rows (class_file.bootstrap_of pool)))
    (subst (λ (v : SiteView). v.bootstrap < length rows) there.2 within)

-- the class has the bootstrap methods that its call sites name, no more call sites than there is room for, and the Dynamic entries that are named
abbrev IsSound : ℕ → class_file.Class → Type 0
IsSound room class = HasBootstraps class × (length class.sites ≤ room) × HasDynamics class

sound : (pool : List Slot) (room : ℕ) (sites : List Site) (rows : List Row) → AreFound pool room sites →
    each (has_bootstrap (length rows)) pool ≡ Ok tt → IsSound room (class_file.class_of pool sites rows)
sound pool room sites rows are known = (
  have pool sites rows are.0 known,
  subst (λ n. n ≤ room) (sym (length-map sites (class_file.site_view pool))) are.1,
  have-dynamics pool sites rows,
)

end-has : (pool : List Slot) (room : ℕ) (sites : List Site) (rows : List Row) (total : ℕ) → AreFound pool room sites →
    Gives (IsSound room) (class_end pool sites rows total)
end-has pool room sites rows total are =
    later-gives (IsSound room) _ _ (λ _. later-gives (IsSound room) _ _ (λ _.
    both-give (λ _. each (has_bootstrap (length rows)) pool ≡ Ok tt) (IsSound room) _ _ (verdict-gives _)
    (λ _ known. value-gives (IsSound room) (class_file.class_of pool sites rows) (sound pool room sites rows are known))))

file-has : (room total : ℕ) → Gives (IsSound room) (whole_file room total)
unfolding whole_file
file-has room total =
    later-gives (IsSound room) _ _ (λ count. later-gives (IsSound room) _ _ (λ pool. later-gives (IsSound room) _ _ (λ _.
    later-gives (IsSound room) _ _ (λ _. both-give (AreFound pool room) (IsSound room) _ _ (members-call pool room) (λ sites calls.
    later-gives (IsSound room) _ _ (λ found. end-has pool room sites (rows_or_none found) total calls))))))

file-sound : (room : ℕ) (bytes : List ℕ) (class : class_file.Class) → IsClassFile room bytes class → IsSound room class
file-sound room bytes class is = (file-has room (length bytes)).each 0 bytes class is

-- what was read has the bootstrap methods that its call sites name
pub found-have : {V : Type 0} (view : V → class_file.Class) (room : ℕ) (bytes : List ℕ) (r : Result V ClassError) →
    IfOk r (λ v. IsClassFile room bytes (view v)) → IfOk r (λ v. HasBootstraps (view v))
found-have view room bytes (Ok v) h = (file-sound room bytes (view v) h).0
found-have view room bytes (Err e) h = tt

-- and no more call sites than there is room for
pub found-few : {V : Type 0} (view : V → class_file.Class) (room : ℕ) (bytes : List ℕ) (r : Result V ClassError) →
    IfOk r (λ v. IsClassFile room bytes (view v)) → IfOk r (λ v. length (view v).sites ≤ room)
found-few view room bytes (Ok v) h = (file-sound room bytes (view v) h).1
found-few view room bytes (Err e) h = tt

-- and the Dynamic entries that its bootstrap methods are given
pub file-dynamics : (room : ℕ) (bytes : List ℕ) (class : class_file.Class) → IsClassFile room bytes class → HasDynamics class
file-dynamics room bytes class is = (file-sound room bytes class is).2

pub found-dynamics : {V : Type 0} (view : V → class_file.Class) (room : ℕ) (bytes : List ℕ) (r : Result V ClassError) →
    IfOk r (λ v. IsClassFile room bytes (view v)) → IfOk r (λ v. HasDynamics (view v))
found-dynamics view room bytes (Ok v) h = file-dynamics room bytes (view v) h
found-dynamics view room bytes (Err e) h = tt
