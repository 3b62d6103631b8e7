-- What a pass keeps when another one is joined to it, whether or not memory runs out.
use Rattle.std.proofs.Common.{◌≡◌, sym, ◌∙◌, ap, subst, List, [], ◌++◌, append-nil, Result, Ok, Err}
use Rattle.std.specs.Prelude.{OnErr, OnOk}
use Rattle.mh_cells.specs.Values.{Keeps}
use Rattle.mh_condy.specs.Nodes as consts
use Rattle.mh_handle.specs.Joins as form_joins
use Rattle.mh_handle.specs.Passes.{PassView, StaysLearnt}
use Rattle.mh_report.specs.declared.attempt.Attempt.{Attempt}
use Rattle.mh_runtime.specs.declared.pass.Pass.{Pass}
use Rattle.mh_runtime.specs.Linkers.{KeepsPass}
use Rattle.mh_runtime.specs.Passes.{HasBoth, HasSerials, KeepsSites, LinkPass}

-- the list is this one, and nothing more
none-more : (old new : List Attempt) → new ≡ old → (more : List Attempt) × (new ≡ old ++ more)
none-more old new same = ([], same ∙ sym (append-nil old))

-- what a pass over the sites keeps
record KeepsLinks (old new : LinkPass) : Type 0 where
  pub linked : HasSerials old.linked new.linked
  pub attempts : (more : List Attempt) × (new.attempts ≡ old.attempts ++ more)
  pub recorded : (more : List Attempt) × (new.recorded ≡ old.recorded ++ more)
  pub linkages : Keeps old.linkages new.linkages
  pub constants : consts.Keeps old.constants.known new.constants.known

module _ {E : Type 0} where
  links-kept : (r : Result (Unit {0}) E) (old other new : LinkPass) → OnOk r (HasBoth old other new) → OnErr r (KeepsSites old new) → KeepsLinks old new
  links-kept (Ok done) old other new both same = record {
    linked = both.mine;
    attempts = (other.attempts, both.attempts);
    recorded = (other.recorded, both.recorded);
    linkages = both.my_linkages;
    constants = both.constants.mine;
  }
  links-kept (Err e) old other new both same = record {
    linked = subst (λ (p : LinkPass). HasSerials old.linked p.linked) (sym same.is) (λ site serial is. is);
    attempts = none-more old.attempts new.attempts (ap (λ (p : LinkPass). p.attempts) same.is);
    recorded = none-more old.recorded new.recorded (ap (λ (p : LinkPass). p.recorded) same.is);
    linkages = subst (λ (p : LinkPass). Keeps old.linkages p.linkages) (sym same.is) (λ site l at. at);
    constants = same.known;
  }

  forms-kept : (r : Result (Unit {0}) E) (old other new : PassView) → OnOk r (form_joins.KnowsBoth old other new) →
      OnErr r (new ≡ form_joins.with_seat new.seat old) → StaysLearnt old new
  forms-kept (Ok done) old other new both same = both.mine
  forms-kept (Err e) old other new both same = subst (λ (p : PassView). StaysLearnt old p) (sym same) (λ recipe form found. found)

  pub keeps-pass : {J : Type 0} (linked formed : Result (Unit {0}) E) (old other new : Pass J) → new.links.thread ≡ old.links.thread →
      OnOk linked (HasBoth old.links other.links new.links) → OnErr linked (KeepsSites old.links new.links) →
      OnOk formed (form_joins.KnowsBoth old.forms other.forms new.forms) → OnErr formed (new.forms ≡ form_joins.with_seat new.forms.seat old.forms) →
      KeepsPass old new
  keeps-pass linked formed old other new thread both same known still =
      let links = links-kept linked old.links other.links new.links both same in
      record {
        thread = thread;
        linked = links.linked;
        attempts = links.attempts;
        recorded = links.recorded;
        linkages = links.linkages;
        constants = links.constants;
        forms = forms-kept formed old.forms other.forms new.forms known still;
      }
