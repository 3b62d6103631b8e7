-- Tables of serials that agree at some constants, and a table that has a serial for each constant.
use Rattle.std.specs.Prelude.{◌≡◌, ℕ, true, List, map, Some, is_some, unwrap_or}
use Rattle.mh_link.specs.Places.{Has}
use Rattle.mh_link.specs.Constants.{Serials, serial_at}

-- the constants of a list have the same serials in both, or none in both
abbrev pub AgreeAt : Serials → Serials → List ℕ → Type 0
AgreeAt table other cs = (c : ℕ) → Has cs c → serial_at table c ≡ serial_at other c

-- each constant of a list has a serial
abbrev pub HaveSerials : Serials → List ℕ → Type 0
HaveSerials table cs = (c : ℕ) → Has cs c → is_some (serial_at table c) ≡ true

-- the constants without a serial have serial 1
abbrev pub completed : Serials → Serials
completed table = map (λ serial. Some (unwrap_or serial 1)) table
