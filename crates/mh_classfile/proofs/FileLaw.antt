-- A class is found exactly where the bytes are a class file.
use Rattle.std.proofs.Common.{◌≡◌, ℕ, ◌+◌, List, [], ◌++◌, length, Result, Ok, Err, refl, sym, ap, subst, ◌∙◌, arith, inl, inr}
use Rattle.std.proofs.lemmas.List.{append-nil, length-append, nil_from_length}
use Rattle.std.proofs.lemmas.Bool.{eqb-true}
use Rattle.std.specs.Prelude.{IfOk}
use Rattle.mh_base.proofs.Inversion.{ok_is}
use Rattle.mh_class_bytes.specs.Position.{Position}
use Rattle.mh_class_bytes.specs.declared.fault.Fault.{Fault}
use Rattle.mh_class_bytes.specs.Format.{Spells, reads, Checked, Reading, and_then}
use Rattle.mh_class_bytes.proofs.FormatParts.{and_then_ok}
use Rattle.mh_class_bytes.proofs.FormatSound.{sound}
use Rattle.mh_class_bytes.proofs.FormatComplete.{complete}
use Rattle.mh_class_pool.specs.declared.fault.ClassKind.{ClassKind}
use Rattle.mh_class_pool.specs.declared.fault.ClassError.{ClassError}
use Rattle.mh_class_pool.specs.Answers.{Yields}
use Rattle.mh_classfile.specs.Class.{Class}
use Rattle.mh_classfile.specs.File.{class_file, IsClassFile, class_or_fault, IsEither}

-- the first position
abbrev start : List ℕ → Position
start bytes = record { bytes = bytes; at = 0 }

-- What spells a class is read as the class.
pub file_complete : (room : ℕ) (bytes : List ℕ) (c : Class) → IsClassFile room bytes c → class_or_fault room bytes ≡ Ok c
file_complete room bytes c spells =
    let is_read = complete (class_file room (length bytes)) (start bytes) c bytes [] (omega arith) (sym (append-nil bytes)) spells in
    ap (λ (x : Reading ClassKind Class). and_then x (λ y. Ok y.0)) is_read

-- A text of two parts is as long as both.
joined : (text front rest : List ℕ) → text ≡ front ++ rest → length text ≡ length front + length rest
joined text front rest e = ap length e ∙ length-append front rest

-- No bytes have the length 0.
none : (text : List ℕ) → text ≡ [] → length text ≡ 0
none text e = ap length e

-- The format ends at the end of the bytes, since it looks whether it does.
file_len : (room total : ℕ) (text : List ℕ) (c : Class) → Spells (class_file room total) 0 text c → length text ≡ total
unfolding class_file
file_len room total text c file =
    -- what comes after each part: its own first part is `.1`, and what is left after that `.2`
    let after_header = file.5 in
    let after_pool = after_header.5 in
    let after_references = after_pool.5 in
    let after_names = after_references.5 in
    let after_members = after_names.5 in
    let after_attributes = after_members.5 in
    let after_place = after_attributes.5 in
    let after_check = after_place.5 in
    -- each is as long as its first part and what is left
    let whole : length text ≡ length file.1 + length file.2 = joined text file.1 file.2 file.3 in
    let pool : length file.2 ≡ length after_header.1 + length after_header.2 = joined file.2 after_header.1 after_header.2 after_header.3 in
    let references : length after_header.2 ≡ length after_pool.1 + length after_pool.2 = joined after_header.2 after_pool.1 after_pool.2 after_pool.3 in
    let names : length after_pool.2 ≡ length after_references.1 + length after_references.2 =
    joined after_pool.2 after_references.1 after_references.2 after_references.3 in
    let members : length after_references.2 ≡ length after_names.1 + length after_names.2 =
    joined after_references.2 after_names.1 after_names.2 after_names.3 in
    let attributes : length after_names.2 ≡ length after_members.1 + length after_members.2 =
    joined after_names.2 after_members.1 after_members.2 after_members.3 in
    let place : length after_members.2 ≡ length after_attributes.1 + length after_attributes.2 =
    joined after_members.2 after_attributes.1 after_attributes.2 after_attributes.3 in
    let checked : length after_attributes.2 ≡ length after_place.1 + length after_place.2 =
    joined after_attributes.2 after_place.1 after_place.2 after_place.3 in
    let bootstraps : length after_place.2 ≡ length after_check.1 + length after_check.2 =
    joined after_place.2 after_check.1 after_check.2 after_check.3 in
    -- after the attributes there are no more bytes
    let no_place : length after_attributes.1 ≡ 0 = none after_attributes.1 after_attributes.4.0 in
    let no_check : length after_place.1 ≡ 0 = none after_place.1 after_place.4.0 in
    let no_bootstraps : length after_check.1 ≡ 0 = none after_check.1 after_check.4.0 in
    let no_end : length after_check.2 ≡ 0 = none after_check.2 after_check.5.0 in
    -- the place after the attributes is looked at, and is that of the end
    let place_is = after_attributes.4.1 in
    let ended : after_attributes.0 ≡ total = eqb-true _ _ after_place.4.1 in
    omega (
      arith,
      whole,
      pool,
      references,
      names,
      members,
      attributes,
      place,
      checked,
      bootstraps,
      no_place,
      no_check,
      no_bootstraps,
      no_end,
      place_is,
      ended,
    )

-- What is read as a class spells it.
pub file_sound : (room : ℕ) (bytes : List ℕ) (c : Class) → class_or_fault room bytes ≡ Ok c → IsClassFile room bytes c
file_sound room bytes c e =
    let format = class_file room (length bytes) in
    let read = and_then_ok (reads format (start bytes)) (λ y. Ok y.0) c e in
    let found : Class = read.0.0 in
    let found_is : found ≡ c = ok_is found c read.2 in
    let front = sound format (start bytes) found read.0.1 (omega arith) read.1 in
    let front_is_total : length front.text ≡ length bytes = file_len room (length bytes) front.text found front.spells in
    let split : bytes ≡ front.text ++ front.rest = front.split in
    let no_rest : front.rest ≡ [] = nil_from_length front.rest (omega (arith, front_is_total, joined bytes front.text front.rest split)) in
    let front_is_all : front.text ≡ bytes = sym (split ∙ ap (λ (r : List ℕ). front.text ++ r) no_rest ∙ append-nil front.text) in
    let spells_found : Spells format 0 bytes found = subst (λ (t : List ℕ). Spells format 0 t found) front_is_all front.spells in
    subst (λ (d : Class). Spells format 0 bytes d) found_is spells_found

-- A reader that yields what the format says finds a class only if the bytes are its class file.
pub is_found : {V : Type 0} (view : V → Class) (room : ℕ) (bytes : List ℕ) (r : Result V ClassError) → Yields view r (class_or_fault room bytes) →
    IfOk r (λ v. IsClassFile room bytes (view v))
is_found view room bytes (Ok v) given = file_sound room bytes (view v) given
is_found view room bytes (Err e) given = tt

-- There is just one of a class and a fault.
pub either : (room : ℕ) (bytes : List ℕ) → IsEither room bytes
either room bytes = by_answer (class_or_fault room bytes) refl
  where
    by_answer : (r : Checked ClassKind Class) → class_or_fault room bytes ≡ r → IsEither room bytes
    by_answer (Ok c) is = inl (c, file_sound room bytes c is, λ d spells. ok_is d c (sym (file_complete room bytes d spells) ∙ is))
    by_answer (Err f) is = inr (f, is, λ c spells. differs c f (sym (file_complete room bytes c spells) ∙ is))
      where
        differs : (c : Class) (f : Fault ClassKind) → ◌≡◌ {A = Checked ClassKind Class} (Ok c) (Err f) → ⊥
        differs c f h = absurd cc
