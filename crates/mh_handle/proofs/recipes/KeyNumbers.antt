-- A key is told by its numbers.
use Rattle.std.proofs.Common.{◌≡◌, refl, sym, ◌∙◌, ap, ap₂, ℕ, ◌==◌, if◌then◌else◌, List, [], ◌∷◌, ◌++◌, length, map, take, drop, Option, Some, None}
use Rattle.mh_form.specs.declared.basic.Basic.{Basic}
use Rattle.mh_form.specs.declared.basic.Basic.TheVariants as basic
use Rattle.mh_form.specs.declared.basic.BasicRet.{BasicRet}
use Rattle.mh_form.specs.declared.basic.BasicRet.TheVariants as basic_ret
use Rattle.mh_form.specs.declared.basic.Shape.{Shape}
use Rattle.mh_edit.specs.declared.key.Key.{Key}
use Rattle.mh_edit.specs.declared.key.Key.TheVariants as key
use Rattle.mh_edit.specs.declared.key.RetEntry.{RetEntry}
use Rattle.mh_edit.specs.declared.key.RetEntry.TheVariants as entry
use Rattle.mh_handle.specs.Hashes.{basic_number, entry_number, ret_number, ret_entry_number}
use Rattle.mh_handle.specs.SameRecipes.{key_numbers}

-- ---- what numbers tell

abbrev basic_at : ℕ → Basic
basic_at n = if n == 1 then basic.L else (if n == 2 then basic.I else basic.J)

abbrev entry_at : ℕ → Option Basic
entry_at n = if n == 0 then None else Some (basic_at n)

abbrev ret_at : ℕ → BasicRet
ret_at n = if n == 0 then basic_ret.V else basic_ret.Is (basic_at n)

abbrev ret_entry_at : ℕ → RetEntry
ret_entry_at n = if n == 4 then entry.Keep else entry.New (ret_at n)

abbrev first : List ℕ → ℕ
first [] = 0
first (n ∷ ns) = n

abbrev rest : List ℕ → List ℕ
rest [] = []
rest (n ∷ ns) = ns

abbrev shape_at : List ℕ → Shape
shape_at ns = record { params = map basic_at (rest ns); ret = ret_at (first ns) }

-- the key of a kind that says the other numbers
abbrev key_of : ℕ → List ℕ → Key
key_of kind ns =
    if kind == 1 then key.LeafRoot (shape_at ns)
    else (if kind == 2 then key.ConstRoot (basic_at (first ns))
    else (if kind == 3 then key.IdentityRoot (basic_at (first ns))
    else (if kind == 4 then key.ThrowRoot (ret_at (first ns))
    else (if kind == 5 then key.GuardRoot (shape_at (rest ns)) (first ns)
    else (if kind == 6 then key.CatchRoot (shape_at (rest ns)) (first ns)
    else (if kind == 7 then key.Bind (first ns)
    else (if kind == 8 then key.Add (first ns) (map basic_at (rest ns))
    else (if kind == 9 then key.Permute (map basic_at (take (first ns) (rest ns))) (drop (first ns) (rest ns))
    else (if kind == 10 then key.Collect (first ns) (map basic_at (rest (rest ns))) (ret_at (first (rest ns)))
    else (if kind == 11 then key.Fold (first ns) (first (rest ns)) (ret_at (first (rest (rest ns))))
    else (if kind == 12 then key.FilterReturn (ret_at (first ns))
    else (if kind == 13 then key.Convert (map entry_at (rest ns)) (ret_entry_at (first ns))
    else (if kind == 14 then key.Spread (first ns) (basic_at (first (rest ns)))
    else (if kind == 15 then key.Gather (first ns) (basic_at (first (rest ns)))
    else (if kind == 16 then key.ConcatRoot (shape_at ns)
    else (if kind == 17 then key.TryRoot (shape_at (rest ns)) (first ns)
    else (if kind == 18 then key.SwitchRoot (shape_at (rest ns)) (first ns)
    else key.LoopRoot (shape_at (rest (rest (rest ns)))) (first ns) (first (rest ns)) (first (rest (rest ns))))))))))))))))))))

abbrev key_at : List ℕ → Key
key_at ns = key_of (first ns) (rest ns)

-- ---- they tell what they were made of

basic-told : (b : Basic) → basic_at (basic_number b) ≡ b
basic-told basic.L = refl
basic-told basic.I = refl
basic-told basic.J = refl

entry-told : (e : Option Basic) → entry_at (entry_number e) ≡ e
entry-told None = refl
entry-told (Some basic.L) = refl
entry-told (Some basic.I) = refl
entry-told (Some basic.J) = refl

ret-told : (r : BasicRet) → ret_at (ret_number r) ≡ r
ret-told basic_ret.V = refl
ret-told (basic_ret.Is basic.L) = refl
ret-told (basic_ret.Is basic.I) = refl
ret-told (basic_ret.Is basic.J) = refl

ret_entry-told : (r : RetEntry) → ret_entry_at (ret_entry_number r) ≡ r
ret_entry-told entry.Keep = refl
ret_entry-told (entry.New basic_ret.V) = refl
ret_entry-told (entry.New (basic_ret.Is basic.L)) = refl
ret_entry-told (entry.New (basic_ret.Is basic.I)) = refl
ret_entry-told (entry.New (basic_ret.Is basic.J)) = refl

all-told : {A : Type 0} (hash : A → ℕ) (at : ℕ → A) → ((a : A) → at (hash a) ≡ a) → (xs : List A) → map at (map hash xs) ≡ xs
all-told hash at told [] = refl
all-told hash at told (x ∷ xs) = ap₂ (λ y ys. y ∷ ys) (told x) (all-told hash at told xs)

basics-told : (bs : List Basic) → map basic_at (map basic_number bs) ≡ bs
basics-told bs = all-told basic_number basic_at basic-told bs

front-told : (bs : List Basic) (ns : List ℕ) → map basic_at (take (length bs) (map basic_number bs ++ ns)) ≡ bs
front-told [] ns = refl
front-told (b ∷ bs) ns = ap₂ (λ y ys. y ∷ ys) (basic-told b) (front-told bs ns)

after-told : (bs : List Basic) (ns : List ℕ) → drop (length bs) (map basic_number bs ++ ns) ≡ ns
after-told [] ns = refl
after-told (b ∷ bs) ns = after-told bs ns

shape-told : (s : Shape) → shape_at (ret_number s.ret ∷ map basic_number s.params) ≡ s
shape-told s = ap₂ (λ (ps : List Basic) (r : BasicRet). record { params = ps; ret = r }) (basics-told s.params) (ret-told s.ret)

key-told : (k : Key) → key_at (key_numbers k) ≡ k
key-told (key.LeafRoot s) = ap key.LeafRoot (shape-told s)
key-told (key.ConstRoot b) = ap key.ConstRoot (basic-told b)
key-told (key.IdentityRoot b) = ap key.IdentityRoot (basic-told b)
key-told (key.ThrowRoot r) = ap key.ThrowRoot (ret-told r)
key-told (key.GuardRoot s n) = ap (λ t. key.GuardRoot t n) (shape-told s)
key-told (key.CatchRoot s n) = ap (λ t. key.CatchRoot t n) (shape-told s)
key-told (key.TryRoot s n) = ap (λ t. key.TryRoot t n) (shape-told s)
key-told (key.SwitchRoot s n) = ap (λ t. key.SwitchRoot t n) (shape-told s)
key-told (key.LoopRoot s n m k) = ap (λ t. key.LoopRoot t n m k) (shape-told s)
key-told (key.ConcatRoot s) = ap key.ConcatRoot (shape-told s)
key-told (key.Bind n) = refl
key-told (key.Add n bs) = ap (key.Add n) (basics-told bs)
key-told (key.Permute bs ns) = ap₂ key.Permute (front-told bs ns) (after-told bs ns)
key-told (key.Collect n bs r) = ap₂ (key.Collect n) (basics-told bs) (ret-told r)
key-told (key.Fold n m r) = ap (key.Fold n m) (ret-told r)
key-told (key.FilterReturn r) = ap key.FilterReturn (ret-told r)
key-told (key.Convert es r) = ap₂ key.Convert (all-told entry_number entry_at entry-told es) (ret_entry-told r)
key-told (key.Spread n b) = ap (key.Spread n) (basic-told b)
key-told (key.Gather n b) = ap (key.Gather n) (basic-told b)

-- keys of the same numbers are one
pub key-one : (a b : Key) → key_numbers a ≡ key_numbers b → a ≡ b
key-one a b same = sym (key-told a) ∙ (ap key_at same ∙ key-told b)
