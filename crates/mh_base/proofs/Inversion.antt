-- What is known of the parts where a computation gave a value.
use Rattle.std.proofs.Common.{◌≡◌, refl, sym, ap, Bool, true, false, if◌then◌else◌, Option, None, Some, option_map, option_and_then, Result, Ok, Err}
use Rattle.std.proofs.lemmas.Bool.{false_from_ne_true}

-- by the outcome of a test
pub by_test : {A P : Type 0} (t : Bool) (x y v : A) → (if t then x else y) ≡ v → (t ≡ true → x ≡ v → P) → (t ≡ false → y ≡ v → P) → P
by_test true x y v told yes_so not_so = yes_so refl told
by_test false x y v told yes_so not_so = not_so refl told

pub some_is : {A : Type 0} (x y : A) → Some x ≡ Some y → x ≡ y
some_is x y h = cc

pub ok_is : {A E : Type 0} (x y : A) → ◌≡◌ {A = Result A E} (Ok x) (Ok y) → x ≡ y
ok_is x y h = cc

pub err_is : {A E : Type 0} (d e : E) → ◌≡◌ {A = Result A E} (Err d) (Err e) → d ≡ e
err_is d e h = cc

pub none_is_not : {A P : Type 0} (x : A) → None ≡ Some x → P
none_is_not x h = absurd cc

pub map_some : {A B : Type 0} (f : A → B) (o : Option A) (b : B) → option_map f o ≡ Some b → (a : A) × (o ≡ Some a) × (f a ≡ b)
map_some f None b told = absurd cc
map_some f (Some a) b told = (a, refl, some_is (f a) b told)

pub then_some : {A B : Type 0} (f : A → Option B) (o : Option A) (b : B) → option_and_then f o ≡ Some b → (a : A) × (o ≡ Some a) × (f a ≡ Some b)
then_some f None b told = absurd cc
then_some f (Some a) b told = (a, refl, told)

-- a value that is there where a test passes
pub if_some : {A : Type 0} (t : Bool) (x y : A) → (if t then Some x else None) ≡ Some y → (t ≡ true) × (x ≡ y)
if_some true x y h = (refl, some_is x y h)
if_some false x y h = absurd cc

pub if_none : {A : Type 0} (t : Bool) (x : A) → (t ≡ true → ⊥) → None ≡ (if t then Some x else None)
if_none t x fails = ap (λ b. if b then Some x else None) (sym (false_from_ne_true t fails))
