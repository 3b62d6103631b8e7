-- Numbers as their bytes spell them, and parts of formats that take no bytes.
use Rattle.std.proofs.Common.{◌≡◌, ℕ, ◌+◌, ◌<◌, ◌^◌, Bool, true, false, List, [], sym, subst, arith}
use Rattle.byteorder.specs.Endian.{big_number}
use Rattle.byteorder.specs.Numbers.{big_number-reads_back}
use Rattle.mh_class_bytes.specs.Format.{Format, choose, Spells}
use Rattle.mh_made_class.specs.Constants.{u2, u4}

pub u2_is : (n : ℕ) → n < 2 ^ 16 → n ≡ big_number 2 (u2 n)
u2_is n lt = sym (big_number-reads_back 2 n [] lt)

pub u4_is : (n : ℕ) → n < 2 ^ 32 → n ≡ big_number 4 (u4 n)
u4_is n lt = sym (big_number-reads_back 4 n [] lt)

-- the second of two formats, where the test does not hold
pub otherwise : {K A : Type 0} (b : Bool) (f g : Format K A) (at : ℕ) (bytes : List ℕ) (x : A) → b ≡ false → Spells g at bytes x →
    Spells (choose b f g) at bytes x
otherwise true f g at bytes x e s = absurd cc
otherwise false f g at bytes x e s = s

-- the first of two formats, where the test holds
pub where_true : {K A : Type 0} (b : Bool) (f g : Format K A) (at : ℕ) (bytes : List ℕ) (x : A) → b ≡ true → Spells f at bytes x →
    Spells (choose b f g) at bytes x
where_true true f g at bytes x e s = s
where_true false f g at bytes x e s = absurd cc

-- after what takes no bytes
pub same_place : {K A : Type 0} (f : Format K A) (at : ℕ) (bytes : List ℕ) (x : A) → Spells f at bytes x → Spells f (at + 0) bytes x
same_place f at bytes x s = let e : at ≡ at + 0 = omega arith in subst (λ n. Spells f n bytes x) e s
