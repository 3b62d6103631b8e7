-- What the first faulty line of a manifest tells of the classes that it names.
use Rattle.std.proofs.Common.{◌≡◌, subst, ℕ, true, false, List, if◌then◌else◌, Ok, Err, arith}
use Rattle.mh_base.specs.Lines.{lines_of, tokens_of, is_passed}
use Rattle.mh_base.specs.declared.lines.LineFault.{LineFault}
use Rattle.mh_leaf.specs.LeafTable.{LeafTable}
use Rattle.mh_leaves.specs.declared.manifest.ManifestKind.{ManifestKind}
use Rattle.mh_leaves.specs.declared.manifest.ManifestKind.TheVariants.{BadLine, Twice, UnknownClass, BadDescriptor, BadKind, TooMany}
use Rattle.mh_leaves.specs.Manifest.{tokens_meaning, line_meaning, manifest}
use Rattle.mh_leaves.specs.Registered.{nothing_registered}
use Rattle.mh_leaves.specs.Unknown.{TellsUnknown, IsFaultOf}
use Rattle.mh_leaves.proofs.KnownLines.{IsEarly, early_tokens}
use Rattle.mh_leaves.proofs.LineParts.{IsOther, line_plain}
use Rattle.mh_leaves.proofs.Stops.{stops}
use Rattle.mh_leaves.proofs.UnknownLines.{unknown_tokens}

-- a line that has another fault than being none has it in its tokens
faulty : (table : LeafTable) (line : List ℕ) (kind : ManifestKind) → IsOther (Err kind) BadLine → line_meaning table line ≡ Err kind →
    tokens_meaning table (tokens_of line) ≡ Err kind
faulty table line kind other h =
    elim (is_passed line) as (λ b. (if b then Ok table else tokens_meaning table (tokens_of line)) ≡ Err kind →
    tokens_meaning table (tokens_of line) ≡ Err kind)
    [ true ↦ λ k. absurd cc | false ↦ λ k. k ] (line_plain table line (Err kind) other h).1

line_tells : (table : LeafTable) (line : List ℕ) (kind : ManifestKind) → line_meaning table line ≡ Err kind →
    TellsUnknown kind table.classes (tokens_of line)
line_tells table line BadLine h = tt
line_tells table line Twice h = tt
line_tells table line UnknownClass h = unknown_tokens table (tokens_of line) (faulty table line UnknownClass (λ e. cc) h)
line_tells table line BadDescriptor h =
    λ unknown. subst IsEarly (faulty table line BadDescriptor (λ e. cc) h) (early_tokens table (tokens_of line) unknown)
line_tells table line BadKind h = λ unknown. subst IsEarly (faulty table line BadKind (λ e. cc) h) (early_tokens table (tokens_of line) unknown)
line_tells table line TooMany h = λ unknown. subst IsEarly (faulty table line TooMany (λ e. cc) h) (early_tokens table (tokens_of line) unknown)

pub fault_tells : (bytes : List ℕ) (fault : LineFault ManifestKind) → manifest bytes ≡ Err fault → IsFaultOf bytes fault
fault_tells bytes fault h =
    let at = stops line_meaning 1 nothing_registered (lines_of bytes) fault h in
    record {
      before = at.before;
      line = at.line;
      after = at.after;
      lines = at.are;
      number = omega (arith, at.number);
      so_far = at.so_far;
      registered = at.built;
      names = line_tells at.so_far at.line fault.kind at.fails;
    }
