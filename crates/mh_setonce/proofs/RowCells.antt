-- Rows of cells, one after the other.
use Rattle.std.proofs.Common.{◌≡◌, ℕ, zero, suc, ◌+◌, ◌*◌, ◌/◌, ◌%◌, ◌<◌, ◌≤◌, List, [], ◌∷◌, ◌++◌, length, sym, refl, ap, ◌∙◌, subst, arith, append_assoc, append-nil, length-append, ⊎_elim, Some}
use Rattle.std.specs.Prelude.{slice_get, slice_index_or}
use native.Mathlib.Decide.{dec_le}
use Rattle.std.proofs.lemmas.List.{map-append, length-map}
use Rattle.std.proofs.lemmas.Option.{slice_get_within, slice_get-map, slice_get_read}
use Rattle.std.specs.Option.{option_map}
use mathlib.Core.Logic.{◌↔◌}
use Rattle.std.proofs.lemmas.Nat.{div-add-mod'}
use Rattle.std.proofs.Math.Nat.{div-lt_iff_lt-mul, suc-mul}
use Rattle.mh_base.proofs.Slices.{slice_get-front, slice_get-push}
use Rattle.mh_setonce.specs.Views.{ChainView}
use Rattle.mh_setonce.specs.Learnings.{LearntView, node_of, nodes_of, name_of, names_of}
use Rattle.mh_setonce.specs.Walks.{StartsWith, Meet}
use Rattle.mh_setonce.specs.Rows.{AreRows, AreSized, Share, cells_of}
use Rattle.mh_setonce.proofs.Fronts.{meet-starts, meet-turned, starts-push, starts-same}

-- rows after others
pub cells-append : (xs ys : List (List ℕ)) → cells_of (xs ++ ys) ≡ cells_of xs ++ cells_of ys
cells-append [] ys = refl
cells-append (x ∷ xs) ys = ap (λ v. x ++ v) (cells-append xs ys) ∙ sym (append_assoc x (cells_of xs) (cells_of ys))

-- one row more
pub cells-push : (rows : List (List ℕ)) (row : List ℕ) → cells_of (rows ++ row ∷ []) ≡ cells_of rows ++ row
cells-push rows row = cells-append rows (row ∷ []) ∙ ap (λ v. cells_of rows ++ v) (append-nil row)

-- the cells of a front part come first
pub cells-start : (xs ys : List (List ℕ)) → StartsWith xs ys → StartsWith (cells_of xs) (cells_of ys)
cells-start xs ys a = (cells_of a.0, ap cells_of a.1 ∙ cells-append ys a.0)

sized-tail : (size : ℕ) (x : List ℕ) (xs : List (List ℕ)) → AreSized size (x ∷ xs) → AreSized size xs
sized-tail size x xs s i row at = s (suc i) row at

-- how many cells there are
pub cells-length : (size : ℕ) (rows : List (List ℕ)) → AreSized size rows → length (cells_of rows) ≡ length rows * size
cells-length size [] s = omega arith
cells-length size (x ∷ xs) s =
    let rest = cells-length size xs (sized-tail size x xs s) in
    length-append x (cells_of xs) ∙ (ap (λ k. k + length (cells_of xs)) (s 0 x refl) ∙ (ap (λ k. size + k) rest ∙ sums (length xs * size) ∙
    sym (suc-mul (length xs) size)))
  where
    sums : (k : ℕ) → size + k ≡ k + size
    sums k = omega arith

-- an item past the front
pub get-after : {A : Type 0} (xs ys : List A) (i n : ℕ) → i ≡ length xs + n → slice_get (xs ++ ys) i ≡ slice_get ys n
get-after [] ys i n e = let same : i ≡ n = omega arith in ap (slice_get ys) same
get-after (x ∷ xs) ys zero n e = absurd (omega arith)
get-after (x ∷ xs) ys (suc i) n e = get-after xs ys i n (omega arith)

-- a cell of a row
pub cell-at : (size : ℕ) (rows : List (List ℕ)) (row : List ℕ) (q r at x : ℕ) → AreSized size rows → slice_get rows q ≡ Some row →
    slice_get row r ≡ Some x → at ≡ q * size + r → slice_get (cells_of rows) at ≡ Some x
cell-at size [] row q r at x s q_is r_is is = cc
cell-at size (y ∷ ys) row zero r at x s q_is r_is is =
    let same : y ≡ row = cc in
    let here : slice_get y r ≡ Some x = ap (λ v. slice_get v r) same ∙ r_is in
    let e : at ≡ r = omega arith in
    ap (slice_get (y ++ cells_of ys)) e ∙ (slice_get-front y (cells_of ys) r (slice_get_within y r x here) ∙ here)
cell-at size (y ∷ ys) row (suc q) r at x s q_is r_is is =
    let len : length y ≡ size = s 0 y refl in
    let m : suc q * size ≡ q * size + size = suc-mul q size in
    let e : at ≡ length y + (q * size + r) = omega (arith, len, m, is) in
    get-after y (cells_of ys) at (q * size + r) e ∙ cell-at size ys row q r (q * size + r) x (sized-tail size y ys s) q_is r_is refl

module _ (size : ℕ) (chain : ChainView) (rows : List (LearntView (List ℕ))) (is : AreRows size chain rows) where
  abbrev cells : List ℕ
  cells = cells_of (nodes_of rows)

  pub rows-length : length cells ≡ length rows * size
  rows-length = cells-length size (nodes_of rows) is.sized ∙ ap (λ k. k * size) (length-map rows node_of)

  -- which cells the rows have
  pub rows-have : (at : ℕ) → 0 < size → (at / size < length rows) ↔ (at < length cells)
  rows-have at some = (
    λ low. let h = (div-lt_iff_lt-mul some).0 low in omega (arith, h, rows-length),
    λ low. let h : at < length rows * size = omega (arith, low, rows-length) in (div-lt_iff_lt-mul some).1 h,
  )

  -- a cell of a row that is known
  pub rows-cell : (at x : ℕ) (row : LearntView (List ℕ)) → slice_get rows (at / size) ≡ Some row → slice_get row.node (at % size) ≡ Some x →
      slice_get cells at ≡ Some x
  rows-cell at x row q r =
      let here : slice_get (nodes_of rows) (at / size) ≡ Some row.node = slice_get-map node_of rows (at / size) ∙ ap (option_map node_of) q in
      cell-at size (nodes_of rows) row.node (at / size) (at % size) at x is.sized here r (sym (div-add-mod' at size))

  -- a cell whose row and place were read
  pub rows-read : (at n x : ℕ) (row : LearntView (List ℕ)) (cells : List ℕ) → n ≡ size → 0 < size → at < length (cells_of (nodes_of rows)) →
      row ≡ slice_index_or rows (at / n) row → cells ≡ row.node → slice_get cells (at % n) ≡ Some x → slice_get (cells_of (nodes_of rows)) at ≡ Some x
  rows-read at n x row cells same some low is node cell =
      let have : at / n < length rows = omega (arith, ap (λ k. at / k) same, (rows-have at some).1 low) in
      let here : slice_get rows (at / n) ≡ Some row = slice_get_read rows (length rows) (at / n) row refl have is in
      rows-cell at x row (ap (λ k. slice_get rows (at / k)) (sym same) ∙ here)
      (ap (λ v. slice_get v (at % size)) (sym node) ∙ (ap (λ k. slice_get cells (at % k)) (sym same) ∙ cell))

  -- one row more
  pub rows-push : (one : LearntView (List ℕ)) → slice_get chain.rows (length rows) ≡ Some one.cell → length one.node ≡ size →
      AreRows size chain (rows ++ one ∷ [])
  rows-push one place len = record {
    boxed = subst (StartsWith chain.rows) (sym (map-append name_of rows (one ∷ [])))
        (starts-push chain.rows (names_of rows) one.cell is.boxed (ap (slice_get chain.rows) (length-map rows name_of) ∙ place));
    sized = subst (AreSized size) (sym (map-append node_of rows (one ∷ []))) sized;
  }
    where
      sized : AreSized size (nodes_of rows ++ one.node ∷ [])
      sized i row at = ⊎_elim (λ old. is.sized i row old) (λ (t : (i ≡ length (nodes_of rows)) × (one.node ≡ row)). ap length (sym t.1) ∙ len)
          (slice_get-push (nodes_of rows) one.node i row at)

-- the cells with one row more
pub rows-more : (rows more : List (LearntView (List ℕ))) (one : LearntView (List ℕ)) → more ≡ rows ++ one ∷ [] →
    cells_of (nodes_of more) ≡ cells_of (nodes_of rows) ++ one.node
rows-more rows more one e = ap (λ v. cells_of (nodes_of v)) e ∙ (ap cells_of (map-append node_of rows (one ∷ [])) ∙ cells-push (nodes_of rows) one.node)

-- what is known with the row of the next box
pub record Grown (size : ℕ) (chain : ChainView) (rows more : List (LearntView (List ℕ))) : Type 0 where
  pub are : AreRows size chain more
  pub front : StartsWith (cells_of (nodes_of more)) (cells_of (nodes_of rows))
  pub longer : length (cells_of (nodes_of rows)) < length (cells_of (nodes_of more))

pub rows-grown : (size : ℕ) (chain : ChainView) (rows same more : List (LearntView (List ℕ))) (one : LearntView (List ℕ)) (n place : ℕ) (row : List ℕ) →
    AreRows size chain rows → n ≡ length rows → slice_get chain.rows n ≡ Some place → one.cell ≡ place → row ≡ one.node → length row ≡ size → 1 ≤ size →
    same ≡ rows → more ≡ same ++ one ∷ [] → Grown size chain rows more
rows-grown size chain rows same more one n place row is count box cell node len some e f =
    let all : more ≡ rows ++ one ∷ [] = f ∙ ap (λ v. v ++ one ∷ []) e in
    let sized : length one.node ≡ size = ap length (sym node) ∙ len in
    let cells = rows-more rows more one all in
    record {
      are = subst (AreRows size chain) (sym all) (rows-push size chain rows is one (ap (slice_get chain.rows) (sym count) ∙ (box ∙ ap Some (sym cell))) sized);
      front = (one.node, cells);
      longer = omega (arith, ap length cells, length-append (cells_of (nodes_of rows)) one.node, sized, some);
    }

-- rows that agree as far as both go share their cells
pub rows-share : (xs ys : List (List ℕ)) (n : ℕ) → Meet xs ys n → Share (cells_of xs) (cells_of ys)
rows-share xs ys n m = cases (dec_le (length xs) (length ys))
  where
    cases : Dec (length xs ≤ length ys) → Share (cells_of xs) (cells_of ys)
    cases (yes le) = (cells_of ys, cells-start ys xs (meet-starts xs ys n m le), starts-same (cells_of ys))
    cases (no not) = (cells_of xs, starts-same (cells_of xs), cells-start xs ys (meet-turned xs ys n m (omega arith)))

-- the boxes of a chain that has room
pub names-share : (a b c : List ℕ) → a ≡ b → StartsWith a c → (d : List ℕ) → StartsWith b d → Share c d
names-share a b c e p d q = (b, subst (λ v. StartsWith v c) e p, q)

-- no rows
pub rows-none : (size : ℕ) (chain : ChainView) (rows : List (LearntView (List ℕ))) → rows ≡ [] → AreRows size chain rows
rows-none size chain rows e = subst (AreRows size chain) (sym e) (record { boxed = (chain.rows, refl); sized = λ i row at. cc })
