-- The code of a made class is spelled, with a call site for each of its instructions.
use Rattle.std.proofs.Common.{◌≡◌, ℕ, zero, suc, ◌+◌, ◌-◌, ◌*◌, ◌≤◌, ◌<◌, true, false, leb, ltb, List, [], ◌∷◌, ◌++◌, length, map, refl, sym, subst, append_assoc, length-append, arith}
use Rattle.std.proofs.lemmas.Bool.Decides.{nat_tests}
use Rattle.std.proofs.lemmas.List.{append-nil}
use Rattle.std.specs.List.{AllByRecursion, flat_map}
use Rattle.mh_class_bytes.specs.Format.{Spells, done, repeated, ◌>>=◌}
use Rattle.mh_class_pool.specs.Entries.{ClassPart, Slot}
use Rattle.mh_classfile.specs.declared.site.Method.{Method}
use Rattle.mh_classfile.specs.declared.site.Site.{Site}
use Rattle.mh_classfile.specs.Code.{instruction as read_instruction, next_site}
use Rattle.mh_made_class.specs.declared.site.MadeSite.{MadeSite}
use Rattle.mh_made_class.specs.Sites.{site_width}
use Rattle.mh_made_class.specs.Layout.{PlacedSite, sites_from}
use Rattle.mh_made_class.specs.Parts.{instruction}
use Rattle.mh_made_class.proofs.Spelling.{otherwise, where_true}
use Rattle.mh_made_class.proofs.InstructionSpelling.{HasCall, site_found, one_spelled, return_spelled}

-- the next instruction, where the code has not ended
abbrev one_more : List Slot → Method → ℕ → ℕ → List Site → ClassPart (List Site)
one_more pool m room start so_far = do
  found ← read_instruction pool m (ltb (length so_far) room) start
  done (so_far ++ found)

next_spelled : (pool : List Slot) (m : Method) (room start end at : ℕ) (so_far found : List Site) (bytes : List ℕ) → at < end →
    ((place : ℕ) → place ≡ at → Spells (read_instruction pool m (ltb (length so_far) room) start) place bytes found)
    → Spells (next_site pool m room start end so_far) at bytes (so_far ++ found)
next_spelled pool m room start end at so_far found bytes lt one =
    let left : leb end at ≡ false = grind (arith, nat_tests) in
    let place : at + 0 ≡ at = omega arith in (
      at,
      [],
      bytes,
      refl,
      (refl, refl),
      otherwise (leb end at) (done so_far) (one_more pool m room start so_far) (at + 0) bytes (so_far ++ found) left
          (found, bytes, [], sym (append-nil bytes), one (at + 0) place, (refl, refl)),
    )

ended : (pool : List Slot) (m : Method) (room start end most at : ℕ) (so_far : List Site) → end ≤ at →
    Spells (repeated (next_site pool m room start end) most so_far) at [] so_far
unfolding repeated
ended pool m room start end zero at so_far le = (refl, refl)
ended pool m room start end (suc most) at so_far le =
    let full : leb end at ≡ true = grind (arith, nat_tests) in (
      so_far,
      [],
      [],
      refl,
      (at, [], [], refl, (refl, refl), where_true (leb end at) (done so_far) (one_more pool m room start so_far) (at + 0) [] so_far full (refl, refl)),
      ended pool m room start end most (at + 0) so_far (omega arith),
    )

-- The code of call sites is spelled from the first of them on, with a call site for each.
pub code_spelled : (pool : List Slot) (m : Method) (room start end : ℕ) (sites : List MadeSite) (k b most at : ℕ) (so_far : List Site)
    → at ≡ start + 5 * k → at + 5 * length sites + 1 ≡ end → length sites + 1 ≤ most → length so_far + length sites ≤ room →
    AllByRecursion (HasCall pool) (sites_from k b sites)
    → Spells (repeated (next_site pool m room start end) most so_far) at (flat_map instruction (sites_from k b sites) ++ 0xB1 ∷ [])
    (so_far ++ map (λ p. site_found m (5 * p.number) p) (sites_from k b sites))
unfolding repeated sites_from
code_spelled pool m room start end [] k b zero at so_far here_is end_is enough few calls = absurd (omega arith)
code_spelled pool m room start end [] k b (suc most) at so_far here_is end_is enough few calls = (
  so_far ++ [],
  0xB1 ∷ [],
  [],
  refl,
  next_spelled pool m room start end at so_far [] (0xB1 ∷ []) (omega (arith, end_is)) (λ place e. return_spelled pool m (ltb (length so_far) room) start place),
  ended pool m room start end most (at + 1) (so_far ++ []) (omega (arith, end_is)),
)
code_spelled pool m room start end (site ∷ sites) k b zero at so_far here_is end_is enough few calls = absurd (omega arith)
code_spelled pool m room start end (site ∷ sites) k b (suc most) at so_far here_is end_is enough few calls =
    let p : PlacedSite = record { number = k; first = b; site = site } in
    let found = site_found m (5 * k) p in
    let next = so_far ++ found ∷ [] in
    let others = sites_from (k + 1) (b + site_width site) sites in
    let in_room : ltb (length so_far) room ≡ true = grind (arith, nat_tests, few) in
    let pc : (place : ℕ) → place ≡ at → place - start ≡ 5 * k = λ place e. omega (arith, e, here_is) in
    let one : (place : ℕ) → place ≡ at → Spells (read_instruction pool m (ltb (length so_far) room) start) place (instruction p) (found ∷ []) =
    λ place e. subst (λ n. Spells (read_instruction pool m (ltb (length so_far) room) start) place (instruction p) (site_found m n p ∷ [])) (pc place e)
    (one_spelled pool m (ltb (length so_far) room) start place p calls.0 in_room) in
    let len : length next ≡ length so_far + 1 = length-append so_far (found ∷ []) in
    let rest = code_spelled pool m room start end sites (k + 1) (b + site_width site) most (at + 5) next (omega (arith, here_is)) (omega (arith, end_is))
    (omega (arith, enough)) (omega (arith, few, len)) calls.1 in (
      next,
      instruction p,
      flat_map instruction others ++ 0xB1 ∷ [],
      refl,
      next_spelled pool m room start end at so_far (found ∷ []) (instruction p) (omega (arith, end_is)) one,
      subst (λ (x : List Site). Spells (repeated (next_site pool m room start end) most next) (at + 5) (flat_map instruction others ++ 0xB1 ∷ []) x)
          (append_assoc so_far (found ∷ []) (map (λ q. site_found m (5 * q.number) q) others)) rest,
    )
