-- The serials of the linkages that were learnt of call sites.
use Rattle.std.proofs.Common.{◌≡◌, refl, sym, ap, ◌∙◌, ℕ, zero, suc, ◌∷◌, Option, Some, None, Result, Ok, Err}
use Rattle.std.specs.Prelude.{List, length, map, replicate, slice_get}
use Rattle.std.specs.Option.{option_flatten, option_map}
use denote.Ref.{Bor}
use Rattle.std.proofs.lemmas.List.{length-map}
use Rattle.std.proofs.lemmas.Option.{slice_get-map}
use Rattle.mh_setonce.specs.declared.put.Put.{Put}
use Rattle.mh_setonce.specs.declared.put.Put.TheVariants.{Mine, Theirs}
use Rattle.mh_cells.specs.Values.{Finds, Keeps, KnownView, Puts, nothing_of, value_at}
use Rattle.mh_cells.proofs.PlacedValues.{flatten-map}
use Rattle.mh_attempt.specs.Linkage.{LinkageView}
use Rattle.mh_report.specs.Results.{Serials, serial_at}
use Rattle.mh_runtime.specs.Passes.{FindsLinkage, FindsValue, HasSerials, PutsLinkage, PutsValue, linked_by, serial_of, site_of}

-- the serial at a site is that of the linkage that was learnt
pub serial-at : (known : KnownView LinkageView) (site : ℕ) → serial_at (linked_by known) site ≡ option_map serial_of (value_at known.values site)
serial-at known site = ap option_flatten (slice_get-map (option_map serial_of) known.values site) ∙ flatten-map serial_of (slice_get known.values site)

-- there is a serial, or none, for each site
pub length-linked : (known : KnownView LinkageView) → length (linked_by known) ≡ length known.values
length-linked known = length-map known.values (option_map serial_of)

-- ---- a step

pub finds-linkage : (known : KnownView LinkageView) (site : ℕ) (found : Option (Bor LinkageView)) → Finds site_of known.values site found →
    FindsLinkage (linked_by known) site found
finds-linkage known site None none = serial-at known site ∙ ap (option_map serial_of) none
finds-linkage known site (Some l) is = (is.1, serial-at known site ∙ ap (option_map serial_of) is.0)

pub puts-linkage : (known : KnownView LinkageView) (ours : LinkageView) (r : Result (Put LinkageView) LinkageView) →
    Puts site_of known.values ours.job.site ours r → PutsLinkage (linked_by known) ours r
puts-linkage known ours (Ok (Mine l)) puts = (puts.0, finds-linkage known ours.job.site (Some l) puts.1)
puts-linkage known ours (Ok (Theirs l back)) puts = (puts.0, finds-linkage known ours.job.site (Some l) puts.1)
puts-linkage known ours (Err back) puts = puts

pub finds-value : (known : KnownView LinkageView) (site : ℕ) (found : Option (Bor LinkageView)) → Finds site_of known.values site found →
    FindsValue known.values site found
finds-value known site None none = tt
finds-value known site (Some l) is = is.0

pub puts-value : (known : KnownView LinkageView) (ours : LinkageView) (r : Result (Put LinkageView) LinkageView) →
    Puts site_of known.values ours.job.site ours r → PutsValue known.values ours.job.site r
puts-value known ours (Ok (Mine l)) puts = puts.1.0
puts-value known ours (Ok (Theirs l back)) puts = puts.1.0
puts-value known ours (Err back) puts = tt

-- what was learnt stays
pub keeps-serials : (old new : KnownView LinkageView) → Keeps old.values new.values → HasSerials (linked_by old) (linked_by new)
keeps-serials old new keeps site serial is = cases (value_at old.values site) refl
  where
    cases : (o : Option LinkageView) → value_at old.values site ≡ o → serial_at (linked_by new) site ≡ Some serial
    cases None at = let none : serial_at (linked_by old) site ≡ None = serial-at old site ∙ ap (option_map serial_of) at in absurd cc
    cases (Some l) at =
        let before : serial_at (linked_by old) site ≡ Some l.serial = serial-at old site ∙ ap (option_map serial_of) at in
        serial-at new site ∙ (ap (option_map serial_of) (keeps site l at) ∙ (sym before ∙ is))

-- ---- of new cells

none-linked : (n : ℕ) → map (option_map serial_of) (replicate n None) ≡ replicate n None
none-linked zero = refl
none-linked (suc n) = ap (λ rest. None ∷ rest) (none-linked n)

-- nothing was learnt of so many sites
pub nothing-linked : (cells : List ℕ) (known : KnownView LinkageView) → known ≡ nothing_of cells → linked_by known ≡ replicate (length cells) None
nothing-linked cells known none = ap linked_by none ∙ none-linked (length cells)

-- ---- two passes

-- of a site of which both have learnt the linkage, they have learnt the same one, if a third one has what both have
pub linked-agree : (mine theirs both : Serials) → HasSerials mine both → HasSerials theirs both → (site a b : ℕ) → serial_at mine site ≡ Some a →
    serial_at theirs site ≡ Some b → a ≡ b
linked-agree mine theirs both has_mine has_theirs site a b at_mine at_theirs =
    let one : Some a ≡ Some b = sym (has_mine site a at_mine) ∙ has_theirs site b at_theirs in
    cc
