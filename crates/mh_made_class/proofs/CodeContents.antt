-- The contents of the Code attribute of a made class are spelled.
use Rattle.std.proofs.Common.{◌≡◌, ℕ, ◌+◌, ◌-◌, ◌*◌, ◌≤◌, ◌<◌, ◌^◌, true, ◌&&◌, ltb, List, [], ◌∷◌, ◌++◌, length, map, refl, append_assoc, length-append, arith}
use Rattle.std.proofs.lemmas.Bool.Decides.{nat_tests}
use Rattle.std.specs.List.{AllByRecursion}
use Rattle.mh_class_bytes.specs.Format.{Spells, repeated}
use Rattle.mh_class_pool.specs.Entries.{Slot}
use Rattle.mh_classfile.specs.declared.site.Method.{Method}
use Rattle.mh_classfile.specs.declared.site.Site.{Site}
use Rattle.mh_classfile.specs.Members.{code_contents as read_code_contents, code_tail, code_bytes}
use Rattle.mh_made_class.specs.declared.site.MadeSite.{MadeSite}
use Rattle.mh_made_class.specs.Sites.{site_width}
use Rattle.mh_made_class.specs.Layout.{PlacedSite, sites_from}
use Rattle.mh_made_class.specs.Constants.{u2, u4}
use Rattle.mh_made_class.specs.Parts.{code, code_contents}
use Rattle.mh_made_class.proofs.Spelling.{u4_is}
use Rattle.mh_made_class.proofs.InstructionSpelling.{HasCall, site_found}
use Rattle.mh_made_class.proofs.CodeSpelling.{code_spelled}

-- the method `run()V`
abbrev pub run_method : Method
run_method = record { name = 5; descriptor = 6 }

-- the call sites that are found in the code
abbrev pub sites_found : List PlacedSite → List Site
sites_found ps = map (λ p. site_found run_method (5 * p.number) p) ps

pub code_length : (k b : ℕ) (sites : List MadeSite) → length (code (sites_from k b sites)) ≡ 5 * length sites + 1
unfolding code sites_from
code_length k b [] = refl
code_length k b (site ∷ sites) = omega (arith, code_length (k + 1) (b + site_width site) sites)

code_bytes_spelled : (pool : List Slot) (room at b : ℕ) (sites : List MadeSite) → length sites ≤ room → 5 * length sites + 1 < 2 ^ 16 →
    AllByRecursion (HasCall pool) (sites_from 0 b sites)
    → Spells (code_bytes pool run_method room []) at (u4 (length (code (sites_from 0 b sites))) ++ code (sites_from 0 b sites))
    (sites_found (sites_from 0 b sites))
unfolding code_bytes code
code_bytes_spelled pool room at b sites few fits calls =
    let ps = sites_from 0 b sites in
    let bytes = code ps in
    let len = length bytes in
    let len_is : len ≡ 5 * length sites + 1 = code_length 0 b sites in
    let start = at + 0 + 4 + 0 in
    let right : (ltb 0 len && ltb len 65536) ≡ true = rw len_is (grind (arith, nat_tests)) in (
      at,
      [],
      u4 len ++ bytes,
      refl,
      (refl, refl),
      (
        len,
        u4 len,
        bytes,
        refl,
        (refl, u4_is len (omega (arith, len_is))),
        (
          tt,
          [],
          bytes,
          refl,
          (refl, right),
          (
            start,
            [],
            bytes,
            refl,
            (refl, refl),
            (
              refl,
              code_spelled pool run_method room start (start + len) sites 0 b (start + len - start) (start + 0) [] (omega arith) (omega (arith, len_is))
                  (omega (arith, len_is)) (omega (arith, few)) calls,
            ),
          ),
        ),
      ),
    )

pub contents_spelled : (pool : List Slot) (room at b : ℕ) (sites : List MadeSite) → length sites ≤ room → 5 * length sites + 1 < 2 ^ 16 →
    AllByRecursion (HasCall pool) (sites_from 0 b sites)
    → Spells (read_code_contents pool run_method room []) at (code_contents (sites_from 0 b sites)) (sites_found (sites_from 0 b sites))
unfolding read_code_contents code_contents code_tail repeated
contents_spelled pool room at b sites few fits calls =
    let ps = sites_from 0 b sites in
    let bytes = code ps in
    let front = u4 (length bytes) ++ bytes in (
      2,
      u2 2,
      u2 0 ++ u4 (length bytes) ++ bytes ++ u2 0 ++ u2 0,
      refl,
      (refl, refl),
      (
        0,
        u2 0,
        u4 (length bytes) ++ bytes ++ u2 0 ++ u2 0,
        refl,
        (refl, refl),
        (
          sites_found ps,
          front,
          u2 0 ++ u2 0,
          append_assoc front (u2 0) (u2 0),
          code_bytes_spelled pool room (at + 2 + 2) b sites few fits calls,
          (
            tt,
            u2 0 ++ u2 0,
            [],
            refl,
            (0, u2 0, u2 0, refl, (refl, refl), (tt, [], u2 0, refl, (refl, refl), (0, u2 0, [], refl, (refl, refl), (refl, refl)))),
            (refl, refl),
          ),
        ),
      ),
    )

pub contents_length : (b : ℕ) (sites : List MadeSite) → length (code_contents (sites_from 0 b sites)) ≡ 13 + 5 * length sites
unfolding code_contents
contents_length b sites =
    let bytes = code (sites_from 0 b sites) in
    let front = u2 2 ++ u2 0 ++ u4 (length bytes) ++ bytes in
    omega (arith, code_length 0 b sites, length-append (front ++ u2 0) (u2 0), length-append front (u2 0))
