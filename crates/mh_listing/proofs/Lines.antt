-- The lines of sites, one more.
use Rattle.std.proofs.Common.{◌≡◌, refl, sym, ◌∙◌, ap, ℕ, ◌+◌, ◌<◌, List, ◌∷◌, ◌++◌, drop, length, slice_get, Some, append_assoc, arith}
use Rattle.std.proofs.lemmas.List.{drop_more}
use Rattle.std.proofs.lemmas.Option.{get_or_from_slice_get}
use Rattle.mh_classfile.specs.declared.constant.SiteView.{SiteView}
use Rattle.mh_classfile.specs.Class.{Class}
use Rattle.mh_listing.specs.Listing.{site_line, lines_from}

pub lines_from-more : (first k : ℕ) (c : Class) (sites : List SiteView) (site : SiteView) (old new all : List ℕ) → k < length sites →
    slice_get sites k ≡ Some site → new ≡ old ++ site_line (first + k) c site → old ++ lines_from (first + k) c (drop k sites) ≡ all →
    new ++ lines_from (first + (k + 1)) c (drop (k + 1) sites) ≡ all
lines_from-more first k c sites site old new all within is new_is before =
    let cut : drop k sites ≡ site ∷ drop (k + 1) sites = drop_more sites k site within ∙ ap (λ x. x ∷ drop (k + 1) sites)
    (get_or_from_slice_get sites k site site is) in
    let next : first + (k + 1) ≡ first + k + 1 = omega arith in
    ap (λ n. new ++ lines_from n c (drop (k + 1) sites)) next
    ∙ ap (λ x. x ++ lines_from (first + k + 1) c (drop (k + 1) sites)) new_is
    ∙ append_assoc old (site_line (first + k) c site) (lines_from (first + k + 1) c (drop (k + 1) sites))
    ∙ ap (λ x. old ++ lines_from (first + k) c x) (sym cut) ∙ before

-- a text at whose end six pieces were put
pub six-pieces : (o n1 n2 n3 n4 n5 n6 a b c d e f : List ℕ) → n1 ≡ o ++ a → n2 ≡ n1 ++ b → n3 ≡ n2 ++ c → n4 ≡ n3 ++ d → n5 ≡ n4 ++ e → n6 ≡ n5 ++ f →
    n6 ≡ o ++ (a ++ b ++ c ++ d ++ e ++ f)
six-pieces o n1 n2 n3 n4 n5 n6 a b c d e f h1 h2 h3 h4 h5 h6 =
    rw (h6, h5, h4, h3, h2, h1) (simp append_assoc refl)
