-- The path kept at open, copied to the front of a working buffer: it is metadata's path there.
-- Assumes nothing.
use Rattle.std.proofs.Common.{◌≡◌, ℕ, ◌≤◌, length, take, drop, sym, ap, ◌∙◌, subst}
use mathlib.Core.Option.{Option, some}
use lib.Seq.{paste, take-append_seam}
use Rattle.text.specs.Utf8.{Bytes}
use Rattle.path.specs.Path.{names}
use Rattle.model.specs.Tree.{Path}
use Rattle.model.specs.Prog.{World, Position, open?, answer, ◌>>=◌, run}
use Rattle.model.specs.Operations.Numbers.{position_or, metadata_on}
use Rattle.model.specs.Operations.Shows.{metadata_at}
use Rattle.edit_state.proofs.Cells.{cell-fits}
use Rattle.ask_entry.specs.Reads.{PathIs}
use Rattle.walk.specs.Meets.{Plain}
use Rattle.walk.specs.Meets.{PathIn}
use Rattle.op.proofs.Naming.{path-plain}
use Rattle.op.proofs.Writing.{over_front}

module _ (p : Path) (t out left : Bytes) (h : PathIs p t) (e : left ≡ paste out 0 t (length t)) where
  front : take (length t) left ≡ t
  front = ap (take (length t)) (e ∙ over_front t out) ∙ take-append_seam t (drop (length t) out)

  pub kept_in_lem : 1024 ≤ length left → PathIn left (length t)
  kept_in_lem n = record { few = cell-fits t h.kept; room = n; plain = subst Plain (sym front) (path-plain p t h) }

  pub kept_run : (b n lent : ℕ) (w : World) (o : Position) → answer (open? n) w ≡ some o → o.kept ≡ p → run (metadata_on b n lent) w ≡ run (metadata_at b lent (names (take (length t) left))) w
  unfolding metadata_on run ◌>>=◌
  kept_run b n lent w o x y =
      ap (λ (q : Option Position). run (metadata_at b lent (position_or q).kept) w) x
      ∙ ap (λ (q : Path). run (metadata_at b lent q) w) (y ∙ sym (ap names front ∙ h.names))
