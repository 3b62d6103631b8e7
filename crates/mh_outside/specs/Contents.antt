-- What contracts see of a file, and what a read of it gives.
use Rattle.std.specs.Prelude.{◌≡◌, ◌≢◌, ◌<◌, ◌≤◌, ℕ, List, [], length, take, drop, Option, None, Some}
use Rattle.std.specs.declared.vec.Vec.{Vec}
use Rattle.std.specs.declared.alloc.Global.{Global}

-- `unknown`: contracts do not see the file, as with a real one. `absent`: there is no such file. `file`: its bytes.
pub data Contents : Type 0 where
  unknown : Contents
  absent : Contents
  file : List ℕ → Contents

-- the buffer begins with n bytes of the file from a place on; they are none only if there is no room or the file ends
pub record ReadsFrom (bytes : List ℕ) (at n : ℕ) (buf : List ℕ) : Type 0 where
  pub same : take n buf ≡ take n (drop at bytes)
  pub ends : n ≡ 0 → 0 < length buf → length bytes ≤ at

-- the same of a file, by what contracts see of it; a file that is absent is not read
abbrev pub HasRead : Contents → ℕ → ℕ → List ℕ → Type 0
HasRead unknown at n buf = Unit {0}
HasRead absent at n buf = ⊥
HasRead (file bytes) at n buf = ReadsFrom bytes at n buf

-- a file is open at a place, if contracts see this of it: it is not absent, and if its bytes are known, those from the place on are left
pub record StandsAt (contents : Contents) (at : ℕ) (left : Option (List ℕ)) : Type 0 where
  pub there : contents ≢ absent
  pub rest : (bytes : List ℕ) → contents ≡ file bytes → left ≡ Some (drop at bytes)

-- these are the file's bytes, if they are known
abbrev pub IsWhole : Contents → List ℕ → Type 0
IsWhole unknown got = Unit {0}
IsWhole absent got = ⊥
IsWhole (file bytes) got = got ≡ bytes

-- the file is longer than a limit, if its bytes are known
abbrev pub MayBeLonger : Contents → ℕ → Type 0
MayBeLonger unknown limit = Unit {0}
MayBeLonger absent limit = ⊥
MayBeLonger (file bytes) limit = limit < length bytes

-- these are the first bytes of the file, if they are known
abbrev pub IsFront : Contents → List ℕ → Type 0
IsFront unknown got = Unit {0}
IsFront absent got = got ≡ []
IsFront (file bytes) got = got ≡ take (length got) bytes

-- these bytes are the front of the file, if those were
abbrev pub KeepsFront : Contents → List ℕ → List ℕ → Type 0
KeepsFront contents before now = IsFront contents before → IsFront contents now

-- these bytes are the whole file, if those were its front
abbrev pub EndsAt : Contents → List ℕ → List ℕ → Type 0
EndsAt contents before now = IsFront contents before → IsWhole contents now

-- files in memory; a name that is not listed is a file without bytes
abbrev pub file_or_empty : Option (Vec ℕ Global) → Contents
file_or_empty None = file []
file_or_empty (Some bytes) = file bytes.items

-- files in memory; a name that is not listed has no file
abbrev pub file_or_absent : Option (Vec ℕ Global) → Contents
file_or_absent None = absent
file_or_absent (Some bytes) = file bytes.items
