-- Formats of bytes: what spells a value, and what reading from left to right finds.
use Rattle.std.specs.Prelude.{◌≡◌, ℕ, zero, suc, ◌+◌, List, [], ◌∷◌, ◌++◌, length, take, Bool, Result, Ok, Err, ◌==◌, if◌then◌else◌, IsTrue}
use Rattle.std.specs.Bool.{MatchBool}
use Rattle.byteorder.specs.Endian.{big_number}
use Rattle.mh_class_bytes.specs.Position.{Position}
use Rattle.mh_class_bytes.specs.Bytes.{number_at, bytes_at, Found, MovesOn}
use Rattle.mh_class_bytes.specs.declared.fault.Fault.{Fault}

infixl 10 ◌>>=◌
-- A format of values: its parts and conditions in the order in which they are looked at, and what is wrong if one does not hold.
pub data Format (K : Type 0) : Type 0 → Type 1 where
  -- this many bytes, as a number, the highest byte first
  number : K → ℕ → Format K ℕ
  -- this many bytes
  run : K → ℕ → Format K (List ℕ)
  -- the place
  here : Format K ℕ
  -- a condition on what was read, with its fault
  verdict : Result (Unit {0}) (Fault K) → Format K (Unit {0})
  -- a condition, with the place and kind of its fault
  check : Bool → ℕ → K → Format K (Unit {0})
  -- no bytes, and this value
  done : {A : Type 0} → A → Format K A
  -- no value is spelled here
  refuse : {A : Type 0} → ℕ → K → Format K A
  -- the first if the test holds, otherwise the second
  choose : {A : Type 0} → Bool → Format K A → Format K A → Format K A
  -- whatever is wrong inside is this fault
  blame : {A : Type 0} → ℕ → K → Format K A → Format K A
  -- the next bytes, this many, are exactly this: what is wrong if they are too few, and what is wrong at the first byte that is left over
  part : {A : Type 0} → K → ℕ → K → Format K A → Format K A
  -- one after the other
  ◌>>=◌ : {A B : Type 0} → Format K A → (A → Format K B) → Format K B

-- the bytes, which begin at a place, spell the value: the whole list of them, split into the parts
abbrev pub Spells : {K A : Type 0} → Format K A → ℕ → List ℕ → A → Type 0
Spells (number kind n) at bytes x = (length bytes ≡ n) × (x ≡ big_number n bytes)
Spells (run kind n) at bytes x = (length bytes ≡ n) × (x ≡ bytes)
Spells here at bytes x = (bytes ≡ []) × (x ≡ at)
Spells (verdict v) at bytes x = (bytes ≡ []) × (v ≡ Ok tt)
Spells (check holds place kind) at bytes x = (bytes ≡ []) × IsTrue holds
Spells (done y) at bytes x = (bytes ≡ []) × (x ≡ y)
Spells (refuse place kind) at bytes x = ⊥
Spells (choose b f g) at bytes x = MatchBool b (Spells f at bytes x) (Spells g at bytes x)
Spells (blame place kind f) at bytes x = Spells f at bytes x
Spells (part short n left f) at bytes x = (length bytes ≡ n) × Spells f at bytes x
Spells (◌>>=◌ {A = X} f g) at bytes x = (y : X) × (front : List ℕ) × (rest : List ℕ) × (bytes ≡ front ++ rest) × Spells f at front y
    × Spells (g y) (at + length front) rest x

-- a value, or the first condition that does not hold
abbrev pub Checked : Type 0 → Type 0 → Type 0
Checked K X = Result X (Fault K)

-- a value with the position after it, or the first condition that does not hold
abbrev pub Reading : Type 0 → Type 0 → Type 0
Reading K X = Checked K (X × Position)

-- what is wrong at a place
abbrev pub fault : {K X : Type 0} → ℕ → K → Checked K X
fault at kind = Err (record { at = at; kind = kind })

-- goes on with a value; the first fault decides
abbrev pub and_then : {K A B : Type 0} → Checked K A → (A → Checked K B) → Checked K B
and_then (Ok x) f = f x
and_then (Err e) f = Err e

-- what does not fit is a fault of this kind
abbrev pub or_fault : {K X : Type 0} → K → Found X → Reading K X
or_fault kind (Ok x) = Ok x
or_fault kind (Err short) = fault short.at kind

-- any fault is this one
abbrev pub blamed : {K X : Type 0} → ℕ → K → Reading K X → Reading K X
blamed place kind (Ok x) = Ok x
blamed place kind (Err f) = fault place kind

-- a position among the bytes before an end
abbrev pub cut : ℕ → Position → Position
cut end p = record { bytes = take end p.bytes; at = p.at }

-- a value that was read up to the end of its part; a byte that is left over is a fault
abbrev pub filled : {K X : Type 0} → K → Position → X × Position → Reading K X
filled left end x = if x.1.at == end.at then Ok (x.0, end) else fault x.1.at left

-- what reading from left to right finds at a position
abbrev pub reads : {K A : Type 0} → Format K A → Position → Reading K A
reads (number kind n) p = or_fault kind (number_at n p)
reads (run kind n) p = or_fault kind (bytes_at n p)
reads here p = Ok (p.at, p)
reads (verdict v) p = and_then v (λ _. Ok (tt, p))
reads (check holds place kind) p = if holds then Ok (tt, p) else fault place kind
reads (done y) p = Ok (y, p)
reads (refuse place kind) p = fault place kind
reads (choose b f g) p = if b then reads f p else reads g p
reads (blame place kind f) p = blamed place kind (reads f p)
reads (part short n left f) p = and_then (or_fault short (bytes_at n p)) (λ c. and_then (reads f (cut c.1.at p)) (filled left c.1))
reads (f >>= g) p = and_then (reads f p) (λ x. reads (g x.0) x.1)

-- a function answered, seen by a view, what is to be found
abbrev pub Judges : {K X Y : Type 0} → (X → Y) → Result X (Fault K) → Checked K Y → Type 0
Judges view (Ok x) checked = checked ≡ Ok (view x)
Judges view (Err f) checked = checked ≡ Err f

-- a function that reads at a cursor answered, seen by a view, what is to be read of the format there, and only moved the cursor on
pub record Reads {K X Y : Type 0} (view : X → Y) (result : Result X (Fault K)) (old new : Position) (format : Format K Y) : Type 0 where
  pub found : Judges (λ x. (view x, new)) result (reads format old)
  pub moves : MovesOn old new

-- this many steps, each from what the ones before it left
unfoldable pub repeated : {K S : Type 0} → (S → Format K S) → ℕ → S → Format K S
repeated step zero s = done s
repeated step (suc n) s = do
  next ← step s
  repeated step n next

-- a list of this many of one format, after others
abbrev pub listed : {K A : Type 0} → Format K A → List A → Format K (List A)
listed one so_far = do
  x ← one
  done (so_far ++ x ∷ [])

-- a list of this many of one format
abbrev pub times : {K A : Type 0} → Format K A → ℕ → Format K (List A)
times one n = repeated (listed one) n []
