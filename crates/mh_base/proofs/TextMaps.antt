-- Maps whose keys are texts: what stays at the other texts where one is written.
use Rattle.std.proofs.Common.{◌≡◌, sym, ◌∙◌, ℕ, Bool, true, false, List, Option}
use Rattle.std.proofs.lemmas.Map.Text.{is_eq-slice_cmp}
use Rattle.std.specs.BTreeMap.{BTreeMap, is_at}
use Rattle.std.specs.Cmp.{eq_by_cmp_equiv}
use Rattle.std.specs.Cmp.Lexicographic.{slice_cmp, nat_list_cmp_total, nat_list_eq_equiv}
use Rattle.std.specs.Global.{Vec}
use Rattle.std.specs.Map.{lookup, IsKeyTest, AreApart, KeepsOthers}
use Rattle.std.specs.Ordering.{nat_cmp}
use Rattle.std.specs.Str.{bytes_eq}
use Rattle.mh_base.specs.TextMaps.{WritesText, at_text}

other_entries : {K X : Type 0} (eq : K → K → Bool) (test : K → Bool) (old new : List (K × X)) → KeepsOthers eq test old new → (other : K → Bool) →
    IsKeyTest eq other → AreApart test other → lookup other new ≡ lookup other old
unfolding KeepsOthers
other_entries eq test old new h = h

-- a key that is one text is not another one
apart : (bs cs ks : List ℕ) → bytes_eq bs cs ≡ false → is_at (λ k. slice_cmp nat_cmp bs k) ks ≡ true → is_at (λ k. slice_cmp nat_cmp cs k) ks ≡ false
apart bs cs ks n y = is_eq-slice_cmp cs ks ∙ (nat_list_eq_equiv.symm cs ks ∙ sym (nat_list_eq_equiv.congr bs ks cs (sym (is_eq-slice_cmp bs ks) ∙ y)) ∙ n)

-- at another text than the one that is written, the map has what it had
pub at_text-other : {X : Type 0} (old new : BTreeMap (Vec ℕ) X) (key text : List ℕ) (there : Option X) → WritesText old new key there →
    bytes_eq key text ≡ false → at_text new text ≡ at_text old text
at_text-other old new key text there h e = other_entries _ _ _ _ h.3 _ (λ x y. (eq_by_cmp_equiv nat_list_cmp_total).congr text x.items y.items)
    (λ k. apart key text k.items e)
