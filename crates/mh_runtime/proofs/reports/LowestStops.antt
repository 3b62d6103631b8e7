-- The stop that is reported of threads is that of the lowest one.
use Rattle.std.proofs.Common.{◌≡◌, ◌≢◌, refl, sym, ◌∙◌, subst, ℕ, suc, ◌<◌, ◌≤◌, List, [], ◌∷◌, ◌++◌, append-nil, append_assoc, length, length-append, Option, None, Some, ⊎_elim, inl, inr, arith}
use Rattle.std.specs.Prelude.{slice_get}
use Rattle.std.proofs.lemmas.Option.{slice_get_within}
use Rattle.mh_base.proofs.Slices.{slice_get-end, slice_get-front, slice_get-push}
use Rattle.mh_attempt.specs.declared.error.WorkError.{WorkError}
use Rattle.mh_attempt.specs.declared.error.WorkError.TheVariants.{NoMemory, FormsFull, TypesFull}
use Rattle.mh_runtime.specs.declared.stops.Stop.{Stop}
use Rattle.mh_runtime.specs.Stops.{HadMemory, IsFirst, IsReported, stop_after, stop_at, stop_of, stops_after, reported_of}

-- the stop that is reported of threads that ended so, if one has stopped
abbrev Tells : List (Option WorkError) → Option Stop → Type 0
Tells ends None = (thread : ℕ) (e : WorkError) → slice_get ends thread ≢ Some (Some e)
Tells ends (Some stop) = IsReported ends stop

-- errors that differ
forms-memory : (drawn : ℕ) → FormsFull drawn ≢ NoMemory
forms-memory drawn same = cc

same-error : (e f : WorkError) → Some e ≡ Some f → e ≡ f
same-error e f same = cc same

-- ---- one thread more

module _ (ends : List (Option WorkError)) (end : Option WorkError) where
  abbrev more : List (Option WorkError)
  more = ends ++ end ∷ []

  first-kept : (t : ℕ) (e : WorkError) → IsFirst ends t e → IsFirst more t e
  first-kept t e first =
      let within : t < length ends = slice_get_within ends t (Some e) first.own in
      record {
        own = slice_get-front ends (end ∷ []) t within ∙ first.own;
        below = λ lower f less at. ⊎_elim
            (λ (old : slice_get ends lower ≡ Some (Some f)). first.below lower f less old)
            (λ (last : (lower ≡ length ends) × (end ≡ Some f)). absurd (omega (arith, less, within, last.0)))
            (slice_get-push ends end lower (Some f) at);
      }

  memory-kept : end ≢ Some NoMemory → HadMemory ends (length ends) → HadMemory more (length more)
  memory-kept other had lower less at = ⊎_elim
      (λ (old : slice_get ends lower ≡ Some (Some NoMemory)). had lower (slice_get_within ends lower (Some NoMemory) old) old)
      (λ (last : (lower ≡ length ends) × (end ≡ Some NoMemory)). other last.1)
      (slice_get-push ends end lower (Some NoMemory) at)

  memory-front : (n : ℕ) → n ≤ length ends → HadMemory ends n → HadMemory more n
  memory-front n within had lower less at = ⊎_elim
      (λ (old : slice_get ends lower ≡ Some (Some NoMemory)). had lower less old)
      (λ (last : (lower ≡ length ends) × (end ≡ Some NoMemory)). absurd (omega (arith, less, within, last.0)))
      (slice_get-push ends end lower (Some NoMemory) at)

  -- what was reported is reported still, unless it was for want of forms and this thread had no memory
  kept : (stop : Stop) → ((drawn : ℕ) → stop.error ≡ FormsFull drawn → end ≢ Some NoMemory) → IsReported ends stop → IsReported more stop
  kept stop other reported = ⊎_elim
      (λ (first : IsFirst ends stop.thread stop.error × ((drawn : ℕ) → stop.error ≡ FormsFull drawn → HadMemory ends (length ends))).
      inl (first-kept stop.thread stop.error first.0, λ drawn is. memory-kept (other drawn is) (first.1 drawn is)))
      (λ (none : (stop.error ≡ NoMemory) × (slice_get ends stop.thread ≡ Some (Some NoMemory)) × HadMemory ends stop.thread
      × ((low : ℕ) × (drawn : ℕ) × IsFirst ends low (FormsFull drawn))).
      let within : stop.thread < length ends = slice_get_within ends stop.thread (Some NoMemory) none.1 in
      inr (
        none.0,
        slice_get-front ends (end ∷ []) stop.thread within ∙ none.1,
        memory-front stop.thread (omega (arith, within)) none.2,
        (none.3.0, none.3.1, first-kept none.3.0 (FormsFull none.3.1) none.3.2),
      ))
      reported

-- the first thread that stops
first-new : (ends : List (Option WorkError)) (e : WorkError) → Tells ends None → IsFirst (ends ++ Some e ∷ []) (length ends) e
first-new ends e none = record {
  own = slice_get-end ends (Some e);
  below = λ lower f less at. ⊎_elim
      (λ (old : slice_get ends lower ≡ Some (Some f)). none lower f old)
      (λ (last : (lower ≡ length ends) × (Some e ≡ Some f)). absurd (omega (arith, less, last.0)))
      (slice_get-push ends (Some e) lower (Some f) at);
}

-- a thread without memory above one without forms
above : (ends : List (Option WorkError)) (low : Stop) (drawn : ℕ) → low.error ≡ FormsFull drawn → IsReported ends low →
    IsReported (ends ++ Some NoMemory ∷ []) (record { thread = length ends; error = NoMemory })
above ends low drawn is reported = ⊎_elim
    (λ (first : IsFirst ends low.thread low.error × ((drawn : ℕ) → low.error ≡ FormsFull drawn → HadMemory ends (length ends))).
    inr (
      refl,
      slice_get-end ends (Some NoMemory),
      memory-front ends (Some NoMemory) (length ends) (omega arith) (first.1 drawn is),
      (low.thread, drawn, first-kept ends (Some NoMemory) low.thread (FormsFull drawn) (subst (IsFirst ends low.thread) is first.0)),
    ))
    (λ (none : (low.error ≡ NoMemory) × (slice_get ends low.thread ≡ Some (Some NoMemory)) × HadMemory ends low.thread
    × ((lowest : ℕ) × (drawn : ℕ) × IsFirst ends lowest (FormsFull drawn))).
    absurd (forms-memory drawn (sym is ∙ none.0)))
    reported

-- of two threads that stopped
both : (ends : List (Option WorkError)) (low high : Stop) (e f : WorkError) → low.error ≡ e → high ≡ record { thread = length ends; error = f } →
    IsReported ends low → IsReported (ends ++ Some f ∷ []) (reported_of e f low high)
both ends low high NoMemory f is_low is_high reported =
    kept ends (Some f) low (λ drawn is. absurd (forms-memory drawn (sym is ∙ is_low))) reported
both ends low high (TypesFull bucket) f is_low is_high reported = kept ends (Some f) low (λ drawn is. absurd (cc (sym is ∙ is_low))) reported
both ends low high (FormsFull drawn) NoMemory is_low is_high reported =
    subst (IsReported (ends ++ Some NoMemory ∷ [])) (sym is_high) (above ends low drawn is_low reported)
both ends low high (FormsFull drawn) (TypesFull bucket) is_low is_high reported = kept ends (Some (TypesFull bucket)) low (λ d is same. cc same) reported
both ends low high (FormsFull drawn) (FormsFull other) is_low is_high reported =
    kept ends (Some (FormsFull other)) low (λ d is same. forms-memory other (same-error (FormsFull other) NoMemory same)) reported

tells-push : (ends : List (Option WorkError)) (reported : Option Stop) (end : Option WorkError) → Tells ends reported →
    Tells (ends ++ end ∷ []) (stop_after reported (stop_at (length ends) end))
tells-push ends None None tells = λ t e at. ⊎_elim
    (λ (old : slice_get ends t ≡ Some (Some e)). tells t e old)
    (λ (last : (t ≡ length ends) × (None ≡ Some e)). cc last.1)
    (slice_get-push ends None t (Some e) at)
tells-push ends None (Some e) tells =
    inl (
      first-new ends e tells,
      λ drawn is. memory-kept ends (Some e) (λ same. forms-memory drawn (sym is ∙ same-error e NoMemory same)) (λ lower less at. tells lower NoMemory at),
    )
tells-push ends (Some low) None tells = kept ends None low (λ drawn is same. cc same) tells
tells-push ends (Some low) (Some f) tells = both ends low (record { thread = length ends; error = f }) low.error f refl refl tells

-- ---- all threads

lowest : (before ends : List (Option WorkError)) (reported : Option Stop) → Tells before reported →
    Tells (before ++ ends) (stops_after (length before) reported ends)
lowest before [] reported tells = subst (λ xs. Tells xs reported) (sym (append-nil before)) tells
lowest before (end ∷ ends) reported tells =
    let count : length (before ++ end ∷ []) ≡ suc (length before) = omega (arith, length-append before (end ∷ [])) in
    let next : Option Stop = stop_after reported (stop_at (length before) end) in
    subst (λ n. Tells (before ++ end ∷ ends) (stops_after n next ends)) count
    (subst (λ xs. Tells xs (stops_after (length (before ++ end ∷ [])) next ends)) (append_assoc before (end ∷ []) ends)
    (lowest (before ++ end ∷ []) ends next (tells-push before reported end tells)))

pub reported-lowest : (ends : List (Option WorkError)) (stop : Stop) → stop_of ends ≡ Some stop → IsReported ends stop
reported-lowest ends stop is = subst (Tells ends) is (lowest [] ends None (λ t e at. cc at))
