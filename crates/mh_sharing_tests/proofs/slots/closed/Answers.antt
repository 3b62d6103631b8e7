use Rattle.std.proofs.Common.{◌∙◌, ◌++◌, ◌∷◌, [], List, sym, subst, ap}
use Rattle.mh_intern.specs.declared.holding.Entry.{Entry}
use Rattle.mh_intern.specs.Views.{TypesId}
use Rattle.mh_intern.proofs.Entries.{In}
use Rattle.mh_intern.proofs.HoldCounts.{in_here, in_longer}
use Rattle.mh_sharing_tests.proofs.slots.closed.Goals as goal

pub same-is_same-requires-clause-holds : goal.same-is_same-requires-clause-holds
same-is_same-requires-clause-holds c =
    let one : Entry = c.args.one.now.entry in
    let two : Entry = c.args.two.now.entry in
    let joined = c.join.ensures.joined in
    let holds = ap (λ s. s.holds) joined ∙ (λ i. c.requires.two.holds i ++ c.requires.one.holds i) in
    let back = ap (λ (t : TypesId). t.holders) (sym (ap (λ s. s.table) joined ∙ c.requires.one.seat_of)) in (
      record {
        table = c.requires.one.hold_of ∙ back;
        counted = subst (λ (l : List Entry). In l one) (sym holds) (in_longer two one (one ∷ []) (in_here one []));
      },
      record { table = c.requires.two.hold_of ∙ back; counted = subst (λ (l : List Entry). In l two) (sym holds) (in_here two (one ∷ [])) },
    )
