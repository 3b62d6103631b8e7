-- What a note knows can be had as a mark too.
use Rattle.std.proofs.Common.{◌≡◌, ℕ, List, [], ◌∷◌, ◌++◌, refl, sym, subst}
use mir.Syntax.{a_type}
use mir.Val.{Val, vptr}
use mir.MapTy.{inst_fn}
use base.Logic.{SProp, ent, emp, id⊢, apply∗, all, all_e}
use base.Fml.{Lft, Share, Fml, ftrue, fsep, flft}
use prog.Wp.{WpFn}
use types.Logic.{sem}
use types.Kit.{‵, raw, ◌⊛◌, later, ◌$◌, ◌∵◌, !, qed, by, move, keep, split, join, fsplit, fjoin, suffices, rewrite, use0, use1, use2, await, feq_i}
use types.Run.{no_more, and_then, returns, enter}
use types.ByLocal.{alloc_all, pass_all, free_all, look_at, get, sets}
use types.Part.{agg}
use contract.Monad.{fact, fact_i}
use contract.BorrowLft.{◌⊑◌}
use contract.Running.{tables}
use denote.RattleType.{RattleType, owns}
use denote.Signature.{types_at, plain}
use denote.Steps.{nothing, heard}
use denote.Param.{param, layouts}
use denote.Triple.Walked.{Stays, walk_of, stay_ref, Goes-ref}
use Rattle.std.specs.declared.option.Option.{Option}
use Rattle.std.specs.declared.option.Option.TheVariants.{Some}
use Rattle.once_cell.specs.Once.{noted}
use Rattle.std.proofs.raw_atomic.Walks.{proved_at, leaves}
use Rattle.once_cell.proofs.Notes as notes
use Rattle.once_cell.proofs.Notes.{Note}
use Rattle.mh_setonce.specs.contracts.mark.Mark as Mark
use Rattle.mh_setonce.proofs.Made.{token_val, mark_made}
use Rattle.mh_setonce.specs.contracts.mark.Mark.of.{ended, clauses}
use Rattle.mh_setonce.specs.contracts.mark.Mark.of.Key.{name as #self}
use Rattle.mh_setonce.proofs.mark.Mark.of.Statement.{statement}
use Rattle.mh_setonce.proofs.mark.Mark.of.Code as code

-- The note is opened, and what it knows is had twice. One of both shuts the note again, and the other makes the mark.
pub of_spec : {M : Type 1} → statement M
of_spec 𝓤 𝓛 𝓜 𝓡 wired T L =
    let H = 𝓛.H in
    let 𝓣 = tables 𝓤 H 𝓜 𝓡 𝓡.env in
    let R : RattleType = param 0 T in
    let Ends = ended T in
    let c = clauses T 𝓛 𝓜.mem 𝓡.returns in
    -- the routine, for the type of what the cell holds
    let instance = layouts (a_type ∷ []) (T, tt) in
    let routine = inst_fn instance code.function in
    -- the caller has its note again when the call returns
    let stays : Stays Ends.signature.params Ends.kept = (stay_ref (0 ∷ []) tt (plain (λ _. Note 𝓛 R)), tt) in
    proved_at 𝓛 Ends stays c 𝓜 𝓡 (Goes-ref 𝓛 2 0 tt (plain (λ _. Note 𝓛 R)), tt) (#self instance) routine (code.unfolded 𝓤 H 𝓜 𝓡 wired (T, tt)) (λ z are.
    -- what the caller passes: lifetimes with shares of them, and a reference to a note
    let lifetimes = z.0.0 in
    let shares = z.0.1 in
    let reference = z.0.3.0 in
    let lifetime : Lft = lifetimes.0 in
    let share : Share = shares.0 in
    let block : ℕ = reference.ref_ptr.0 in
    let offset : ℕ = reference.ref_ptr.1 in
    let ghost_name : ℕ = reference.ghost_name in
    let note = reference.now in
    let cell : ℕ = note.cell in
    let pointer : Val = vptr block offset in
    -- what is so of the routine once it was run on values
    let Post : Val → SProp 𝓤 = (walk_of 𝓛 Ends stays c).post z in
    let Runs : List Val → SProp 𝓤 = λ values. WpFn 𝓤 H 𝓣.C 𝓣.Λ routine values Post in
    let pointer-runs : ent 𝓤 (Runs (pointer ∷ [])) (Runs (z.0.4.0 ++ [])) =
    subst (λ (values : List Val). ent 𝓤 (Runs (pointer ∷ [])) (Runs values)) (sym (λ i. are.0.0 i ++ [])) (id⊢ 𝓤 (Runs (pointer ∷ []))) in
    -- what the note notes, and what shuts it again
    let Noted : Fml = noted R cell note.known in
    let Shuts = notes.Shuts 𝓛 R lifetime share block offset ghost_name in
    let Lent : Fml = notes.lent 𝓛 R lifetime share block offset ghost_name note in
    -- what the caller knows, and what the function tells
    let Knows : Type 0 = (x : R.Denot) × (note.known ≡ Some x) in
    qed 𝓛 (((‵ (flft lifetime share) ⊛ ‵ (fsep (flft lifetimes.1.0 shares.1.0) ftrue)) ⊛ ‵ (owns (types_at Ends.signature.params lifetimes) z.0.3 z.0.4)) ∷
    raw (fact 𝓤 (lifetimes.1.0 ⊑ T.lives)) ∷ raw (fact 𝓤 Knows) ∷ []) ∵ move ! (2 ∷ []) $ heard ! Knows (λ known.
    let value : R.Denot = known.0 in
    let made : (Mark.the_row R).Denot = record { marker = record {}; cell = cell; value = value } in
    let Told : Type 0 = (note ≡ note) × (cell ≡ cell) × (note.known ≡ Some value) in
    -- the call takes the pointer to the note
    split ! $ split ! $ move ! (2 ∷ []) $ fsplit ! $ fsplit ! $ keep ! (1 ∷ 3 ∷ 4 ∷ []) $ suffices ! (Runs (pointer ∷ [])) pointer-runs $
    enter ! 𝓣.C 𝓣.Λ routine (pointer ∷ []) Post $ alloc_all ! (λ l. pass_all ! refl ((tt, tt), tt) $
    -- the note is opened, and what it notes is had twice
    use2 𝓛 (later (‵ Noted ⊛ raw (all 𝓤 Shuts))) (notes.note_opens 𝓛 R lifetime share block offset ghost_name note) $ await ! tt $ split ! $
    use1 𝓛 (‵ Noted ⊛ ‵ Noted) (notes.noted_twice 𝓛 R cell note.known) $ split ! $ move ! (2 ∷ []) $
    -- one of both shuts it, as it was
    use1 𝓛 (raw (Shuts note)) (all_e 𝓤 Shuts note) $ move ! (1 ∷ 0 ∷ []) $
    use2 𝓛 (later (‵ Lent ⊛ ‵ (flft lifetime share))) (apply∗ 𝓤 (sem 𝓛 Noted) _) $ await ! tt $ split ! $
    feq_i ! (List Val) z.0.4.0 (pointer ∷ []) are.0.0 $ fjoin ! $ nothing ! $ move ! (1 ∷ 0 ∷ []) $ fjoin ! $ move ! (2 ∷ []) $
    -- the other makes the mark
    rewrite ! 0 (λ (k : Option R.Denot). ‵ (noted R cell k)) known.1 refl $
    use1 𝓛 (‵ ((Mark.the_row R).own_val made (token_val ∷ []))) (mark_made 𝓛 R cell value) $
    -- the routine writes the mark, which has no bytes
    sets ! (agg ! (no_more !)) refl (tt, tt) $ sets ! (agg ! (and_then ! (get ! refl) (no_more !))) refl (tt, (tt, tt)) $ move ! (2 ∷ 3 ∷ []) $ join ! $
    -- and returns it, with what its clause says
    use0 𝓛 (raw (fact 𝓤 Told)) (fact_i 𝓤 Told (emp 𝓤) (refl, refl, known.1)) $ returns ! (look_at ! 0 refl) $ free_all ! refl $
    keep ! (1 ∷ 3 ∷ 2 ∷ 0 ∷ []) $ by ! (leaves 𝓛 Ends stays c z token_val made (note, tt) (tt, tt)))))
