-- Read and seek by a number that is open: its position and its bytes are told, so the program goes on with them, and what it comes to is
-- the edit that moves the position.
-- Assumes nothing.
use Rattle.std.proofs.Common.{◌≡◌, ℕ, ◌+◌, ◌≤◌, length, take, drop, sym, refl, ap, ◌∙◌, arith, length-take}
use lib.Seq.{paste}
use mathlib.Core.Option.{Option, some}
use Rattle.std.specs.Prelude as Prelude
use Rattle.std.specs.Option.{unwrap_or}
use Rattle.text.specs.Utf8.{Bytes}
use Rattle.model.specs.Prog.{World, Position, open?, held?, answer, seek, apply, Prog, ret, edits, ◌>>=◌, ◌>>◌, Out, done, refused, run}
use Rattle.model.specs.Lookup.{text_or}
use Rattle.model.specs.Operations.Numbers.{position_or, read_part, read_on, seek_from, seek_on}
use Rattle.model.specs.Operations.Steps.{Reply, bytes_reply, number_reply}
use Rattle.model.specs.Buffers.{row_numbers}
use Rattle.model.specs.Calls.States.{State, world_of, edited}
use Rattle.model.proofs.Entries.{clash, some_inj}
use Rattle.model.proofs.Running.{then, run_bind}
use Rattle.layout.specs.Store.{Store}
use Rattle.store.specs.Shows.{Shows, says, NumberIs, HeldIs}
use Rattle.store_edit.specs.Turns.{NumberOpen}
use Rattle.op.specs.Lending.{in_bytes, in_number}
use Rattle.op.specs.Doing.{Does}
use Rattle.op.proofs.Doing.{does-refused, does-done}
use Rattle.op.proofs.Writing.{over_front}
use Rattle.op_number.specs.Opened.{PositionIs}

-- ---- the position

-- the one that is told; a number that is closed has none
pub position-told : (s : State) (n : ℕ) (r : Prelude.Option ℕ) → NumberIs s n r → PositionIs s n (unwrap_or r 0)
position-told s n Prelude.None x = λ o y. clash (says (open? n) s) o x y
position-told s n (Prelude.Some k) x = λ o y. ap (λ (p : Position). p.pos) (some_inj (sym y ∙ x.1)) ∙ x.2

-- ---- the bytes from a position on

pub behind-few : (s : Bytes) (pos most : ℕ) (r : Bytes) → r ≡ take most (drop pos s) → length r ≤ most
behind-few s pos most r e = omega (arith, ap length e, length-take most (drop pos s))

-- ---- read and seek

module _ (n : ℕ) (w : World) (o : Position) (b : Bytes) (pos : ℕ) (x : answer (open? n) w ≡ some o) (y : answer (held? n) w ≡ some b) (z : o.pos ≡ pos) where
  at : (position_or (answer (open? n) w)).pos ≡ pos
  at = ap (λ (p : Option Position). (position_or p).pos) x ∙ z

  -- what is read, and the position behind it
  read-run : (lent : ℕ) (r : Bytes) → r ≡ take lent (drop pos b) → run (read_on n lent) w ≡ done (bytes_reply r 0) (apply (seek n (pos + length r)) w)
  unfolding run ◌>>=◌ ◌>>◌ read_on read_part
  read-run lent r e =
      let part : take lent (drop (position_or (answer (open? n) w)).pos (text_or (answer (held? n) w))) ≡ r = (λ i. take lent (drop (at i) (text_or (y i)))) ∙ sym e in
      λ i. done (bytes_reply (part i) 0) (apply (seek n (at i + length (part i))) w)

  -- the new position, and what follows
  abbrev goes : ℕ → Prog Reply
  goes k = edits (seek n k) >> ret (number_reply k 0)

  seek-run : (origin offset : ℕ) → run (seek_on n origin offset) w ≡ then (run (seek_from origin offset pos (length b)) w) (λ k u. run (goes k) u)
  unfolding run ◌>>=◌ seek_on
  seek-run origin offset =
      (λ i. run (seek_from origin offset (at i) (length (text_or (y i))) >>= goes) w) ∙ run_bind (seek_from origin offset pos (length b)) goes w

  seek-moves : (origin offset k : ℕ) → run (seek_from origin offset pos (length b)) w ≡ done k w → run (seek_on n origin offset) w ≡ done (number_reply k 0) (apply (seek n k) w)
  unfolding run ◌>>=◌ ◌>>◌
  seek-moves origin offset k e = seek-run origin offset ∙ ap (λ (r : Out ℕ). then r (λ j u. run (goes j) u)) e

  seek-stops : (origin offset k : ℕ) → run (seek_from origin offset pos (length b)) w ≡ refused k → run (seek_on n origin offset) w ≡ refused k
  seek-stops origin offset k e = seek-run origin offset ∙ ap (λ (r : Out ℕ). then r (λ j u. run (goes j) u)) e

module _ (s : State) (n : ℕ) (b : Bytes) (pos : ℕ) (o : NumberOpen n s) (y : HeldIs s n b) (z : PositionIs s n pos) where
  abbrev bytes : says (held? n) s ≡ some b
  bytes = y o.0 o.1

  abbrev place : o.0.pos ≡ pos
  place = z o.0 o.1

  pub does-read : (u : Store) (out after : Bytes) (number : ℕ) (r : Bytes) → r ≡ take (length out) (drop pos b) → after ≡ paste out 0 r (length r)
      → Shows u (edited (seek n (pos + length r)) s) → Does (read_on n (length out)) s u (in_bytes out number 0) (in_bytes after (length r) 0) 0
  unfolding row_numbers
  does-read u out after number r e f h =
      does-done (read_on n (length out)) s u (bytes_reply r 0) (apply (seek n (pos + length r)) (world_of s)) (read-run n (world_of s) o.0 b pos o.1 bytes place (length out) r e) h
      (in_bytes out number 0) (in_bytes after (length r) 0) (ap (λ (l : Bytes). in_bytes l (length r) 0) (f ∙ over_front r out))

  module _ (origin offset number : ℕ) where
    pub does-sought : (u : Store) (k : ℕ) → ((w : World) → run (seek_from origin offset pos (length b)) w ≡ done k w) → Shows u (edited (seek n k) s) → Does (seek_on n origin offset) s u (in_number number) (in_number k) 0
    unfolding row_numbers
    does-sought u k q h =
        does-done (seek_on n origin offset) s u (number_reply k 0) (apply (seek n k) (world_of s)) (seek-moves n (world_of s) o.0 b pos o.1 bytes place origin offset k (q (world_of s))) h
        (in_number number) (in_number k) refl

    pub does-nowhere : (st : Store) → Shows st s → (e : ℕ) → ((w : World) → run (seek_from origin offset pos (length b)) w ≡ refused e) → Does (seek_on n origin offset) s st (in_number number) (in_number number) e
    does-nowhere st h e q =
        does-refused (seek_on n origin offset) s st h (in_number number) e (seek-stops n (world_of s) o.0 b pos o.1 bytes place origin offset e (q (world_of s)))
