use Rattle.std.proofs.Common.{MatchBool, ap, ap₂, inl, inr, subst, sym, ◌∙◌, [], ◌∷◌, ◌++◌, option_to_list}
use Rattle.mh_handle.specs.Fields.{HasNone}
use Rattle.mh_handle.proofs.fields.FieldList.push_reserved.Goals as goal

pub push_reserved-requires : goal.push_reserved-requires
push_reserved-requires c =
    let some = subst (λ b. MatchBool b (HasNone c.args.self.now) (¬ (HasNone c.args.self.now))) c.if-is_empty.false c.is_empty.ensures in
    elim c.requires [ inl none ↦ absurd (some none) | inr room ↦ room ]

pub returns-then-is_empty : goal.returns-then-is_empty
returns-then-is_empty c =
    let none = subst (λ b. MatchBool b (HasNone c.args.self.now) (¬ (HasNone c.args.self.now))) c.if-is_empty.true c.is_empty.ensures in
    ap (λ l. c.args.field ∷ l) none.1 ∙ sym (ap₂ (λ first l. (option_to_list first ++ l) ++ c.args.field ∷ []) none.0 none.1)
