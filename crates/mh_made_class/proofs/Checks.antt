-- The checks that the pool of a made class passes.
use Rattle.std.proofs.Common.{◌≡◌, ℕ, ◌<◌, Ok, List, [], ◌∷◌, refl}
use Rattle.std.specs.List.{AllByRecursion, flat_map}
use Rattle.mh_base.proofs.Lists.{all_append}
use Rattle.mh_values.proofs.Complete.{descriptor_complete}
use Rattle.mh_class_pool.specs.Entries.{Slot}
use Rattle.mh_class_pool.specs.References.{each, good_slot, good_references}
use Rattle.mh_classfile.specs.File.{has_bootstrap}
use Rattle.mh_made_class.specs.declared.site.MadeSite.{MadeSite}
use Rattle.mh_made_class.specs.Layout.{PlacedSite, IsPlaced}
use Rattle.mh_made_class.specs.Constants.{common_entries, site_entries}
use Rattle.mh_made_class.specs.ReadBack.{IsReadable}
use Rattle.mh_made_class.proofs.EntrySpelling.{IsWritableEntry}
use Rattle.mh_made_class.proofs.Lookups.{each_slot}
use Rattle.mh_made_class.proofs.Standing.{HasSite}
use Rattle.mh_made_class.proofs.Good.{IsGood}
use Rattle.mh_made_class.proofs.Fitting.{all_parts, all_from, common_writable}
use Rattle.mh_made_class.proofs.Entries.{site_good, common_good, IsBound, site_bound, common_bound}
use Rattle.mh_made_class.proofs.Writable.{site_writable}
use Rattle.mh_made_class.proofs.WholeClass.{both_all, all_entries, slots_of, HasArguments, IsStanding}

pub entries_writable : (ps : List PlacedSite) → AllByRecursion IsPlaced ps → AllByRecursion (λ p. IsReadable p.site) ps →
    AllByRecursion IsWritableEntry (all_entries ps)
entries_writable ps fit readable =
    all_append IsWritableEntry common_entries (flat_map site_entries ps) common_writable (all_parts IsWritableEntry site_entries ps
    (all_from (λ p. IsPlaced p × IsReadable p.site) (λ p. AllByRecursion IsWritableEntry (site_entries p)) ps (λ p h. site_writable p h.0 h.1.args)
    (both_all IsPlaced (λ p. IsReadable p.site) ps fit readable)))

sites_good : (made : List MadeSite) (ps qs : List PlacedSite) (pool : List Slot) → IsStanding made qs pool → AllByRecursion (HasSite pool) ps →
    AllByRecursion (HasArguments pool) ps → AllByRecursion (λ p. IsReadable p.site) ps
    → AllByRecursion (λ p. AllByRecursion (IsGood pool) (site_entries p)) ps
sites_good made [] qs pool k s given readable = tt
sites_good made (p ∷ ps) qs pool k s given readable =
    (site_good pool p k.common s.0 given.0 (descriptor_complete p.site.ty readable.0.ty), sites_good made ps qs pool k s.1 given.1 readable.1)

pub pool_good : (made : List MadeSite) (ps : List PlacedSite) → IsStanding made ps (slots_of ps) → AllByRecursion (λ p. IsReadable p.site) ps →
    good_references (slots_of ps) ≡ Ok tt
unfolding each good_slot
pool_good made ps k readable =
    let pool = slots_of ps in
    each_slot (good_slot pool) refl (all_entries ps) 10
    (all_append (IsGood pool) common_entries (flat_map site_entries ps) (common_good pool k.common) (all_parts (IsGood pool) site_entries ps
    (sites_good made ps ps pool k k.stand k.given readable)))

pub pool_bound : (count : ℕ) (ps : List PlacedSite) → AllByRecursion (λ p. p.number < count) ps → each (has_bootstrap count) (slots_of ps) ≡ Ok tt
unfolding each has_bootstrap
pool_bound count ps below =
    each_slot (has_bootstrap count) refl (all_entries ps) 10
    (all_append (IsBound count) common_entries (flat_map site_entries ps) (common_bound count)
    (all_parts (IsBound count) site_entries ps (all_from (λ p. p.number < count) (λ p. AllByRecursion (IsBound count) (site_entries p)) ps
    (λ p lt. site_bound count p lt) below)))
