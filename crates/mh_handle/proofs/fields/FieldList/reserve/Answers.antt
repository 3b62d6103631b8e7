use Rattle.std.proofs.Common.{MatchBool, inl, subst}
use Rattle.mh_handle.specs.Fields.{HasNone}
use Rattle.mh_handle.proofs.fields.FieldList.reserve.Goals as goal

pub returns-then-is_empty-clause-room : goal.returns-then-is_empty-clause-room
returns-then-is_empty-clause-room c =
    inl (subst (λ b. MatchBool b (HasNone c.args.self.now) (¬ (HasNone c.args.self.now))) c.if-is_empty.true c.is_empty.ensures)
