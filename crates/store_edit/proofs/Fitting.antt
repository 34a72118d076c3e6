-- A state that fits its limits after an edit leaves the store the room that the edit asks: alike states use the same after an edit, the
-- state that is read back uses what the words of the store count, and what an edit adds and takes off is an equation of the model.
-- Assumes nothing.
use mathlib.Core.List.{List, [], ◌∷◌}
use mathlib.Core.Option.{Option, none, some}
use mathlib.Core.Path.{◌≡◌, refl, sym, ap, ◌∙◌, subst}
use Prim.Native.Nat.{ℕ, suc, ◌-◌, ◌<◌}
use native.Mathlib.Omega.{arith}
use lib.ListN.{length, take, get_or, replicate, length-append, length-take, length-replicate}
use Rattle.text.specs.Utf8.{Bytes}
use Rattle.model.specs.Tree.{Path, Time, Open, write, resize, file_of, open_of}
use Rattle.model.specs.Prog.{Position, held?, answer, on_some, Edit, change, change_held}
use Rattle.model.specs.Operations.Numbers.{resized}
use Rattle.model.specs.Calls.States.{State, world_of, edited}
use Rattle.model.proofs.Entries.{clash, some_inj}
use Rattle.model.proofs.Alike.Chain.{applied, edited_by, even-edits}
use Rattle.model.proofs.Alike.Runs.{even-start, even-used}
use Rattle.model.proofs.Space.After.{after_write, after-resize-held}
use Rattle.model.proofs.Space.States.{Spaced, spaced}
use Rattle.layout.specs.Fields.{len_of, slot_of}
use Rattle.layout.specs.Store.{Store, holder, bytes_at, state}
use Rattle.layout.specs.Lawful.{Lawful}
use Rattle.layout.proofs.Edited.Shapes.{lawful-shape}
use Rattle.layout.proofs.Entered.{has_file}
use Rattle.layout.proofs.Slotted.{bytes-length}
use Rattle.layout.proofs.Tables.{file_at, open_there}
use Rattle.layout.proofs.Used.{bytes-used}
use Rattle.ask_find.specs.declared.Spot.{Spot}
use Rattle.ask_entry.proofs.Numbers.{held-told}
use Rattle.edit_room.specs.Extents.{trim}
use Rattle.edit_slot.specs.Changes.{HasRoom}
use Rattle.store.specs.Shows.{Shows, Stands, says}
use Rattle.store.proofs.Asked.{told}
use Rattle.store_edit.specs.Turns.{Fits, NumberOpen, MayWrite, MayResize}
use Rattle.store_edit.proofs.Entering.{spot-slot, spot-file, spot-look, open_at}

pub length-resized : (k : ℕ) (b : Bytes) → length (resized k b) ≡ k
unfolding resized
length-resized k b =
    length-append (take k b) (replicate (k - length b) 0)
    ∙ omega (arith, length-take k b, length-replicate {A = ℕ} (k - length b) 0)

module _ {st : Store} {s : State} (h : Shows st s) where
  abbrev l : Lawful (trim st)
  l = h.roomy.lawful

  abbrev was : State
  was = state (trim st)

  pub was_spaced : Spaced was
  was_spaced = let o = lawful-shape (trim st) l in spaced was o.paths o.nodes o.one_name o.files o.used o.numbers

  -- what fits of the state fits of the one that is read back
  pub fits-back : (es : List Edit) → Fits (edited_by es s) → Fits (edited_by es was)
  fits-back es f =
      let u = even-used was s h.alike.entry_limit h.alike.byte_limit (applied es (world_of was)) (applied es (world_of s))
      (even-edits es (world_of was) (world_of s) (even-start was s (lawful-shape (trim st) l) h.shaped h.alike)) in
      (omega (arith, f.0, u.0, h.alike.entry_limit), omega (arith, f.1, u.1, h.alike.byte_limit))

  slot-length : (k : ℕ) → k < length (trim st).heads → length (bytes_at (trim st) k) ≡ len_of (get_or (trim st).heads k 0)
  slot-length k b = bytes-length (trim st) k (omega (arith, l.space, l.exact.bytes)) b

  -- bytes in the place of a file's
  pub write-room : {spot : Spot} {p : Path} → Stands st spot p → {b : Bytes} {t : Time} → MayWrite b t s p → {k : ℕ} → k ≡ slot_of (get_or st.records spot.at 0) → HasRoom (trim st) k (length b)
  write-room {spot} {p} a {b} {t} m e =
      let i = slot_of (get_or st.records spot.at 0) in
      let low = spot-slot h a in
      let kind = spot-file h a m.is_file in
      let y = fits-back (change p (write b t) ∷ []) m.fits in
      let u = after_write was was_spaced p b t i (file_at (trim st) i) (spot-look h a m.is_file) (has_file (trim st) l i low kind) in
      subst (λ (n : ℕ). HasRoom (trim st) n (length b)) (sym e)
      (record { there = low; is_file = kind; room = omega (arith, y.1, u.bytes, bytes-used (trim st) l, slot-length i low) })

  -- of the file that a number stands on
  pub resize-room : (n : ℕ) → NumberOpen n s → (b : Bytes) → Fits (edited (change_held n (resize b)) s) → (k : ℕ) → holder (trim st) n ≡ suc k → HasRoom (trim st) k (length b)
  resize-room n o b z k e =
      let w = open_at st s h n o in
      let i = holder (trim st) n - 1 in
      let d : i ≡ k = omega (arith, e) in
      let low : i < length (trim st).heads = omega (arith, w.1.one, w.1.low) in
      let y = fits-back (change_held n (resize b) ∷ []) z in
      let u = after-resize-held was was_spaced n b _ (file_at (trim st) i) (open_there (trim st) 32 0 n (omega arith) (omega (arith, w.0)) (λ q. omega (arith, q, w.1.one))) (has_file (trim st) l i low w.1.kind) in
      subst (λ (m : ℕ). HasRoom (trim st) m (length b)) d
      (record { there = low; is_file = w.1.kind; room = omega (arith, y.1, u.bytes, bytes-used (trim st) l, slot-length i low) })

  -- ---- the file that a number stands on

  -- a number of which the bytes are told is open
  pub held_is : (n : ℕ) (b : Bytes) → says (held? n) s ≡ some b → NumberOpen n s
  unfolding answer
  held_is n b e = go (open_of s.opens n) refl e
    where
      bytes : Open → Option Bytes
      bytes o = on_some (file_of s.files o.id) (λ f. some f.bytes)

      go : (o : Option Open) → open_of s.opens n ≡ o → on_some o bytes ≡ some b → NumberOpen n s
      go none x y = clash (on_some none bytes) b refl y
      go (some o) x y = (record { pos = o.pos; kept = o.kept }, ap (λ (v : Option Open). on_some {B = Position} v (λ q. some (record { pos = q.pos; kept = q.kept }))) x)

  -- they are those of its slot
  pub held-slot : (n : ℕ) (b : Bytes) → says (held? n) s ≡ some b → (k : ℕ) → holder (trim st) n ≡ suc k → bytes_at (trim st) k ≡ b
  held-slot n b e k d =
      let w = open_at st s h n (held_is n b e) in
      let z : holder (trim st) n - 1 ≡ k = omega (arith, d) in
      some_inj (sym (held-told (trim st) l n w.0 (λ q. omega (arith, q, d)) ∙ ap (λ (j : ℕ). some (bytes_at (trim st) j)) z) ∙ (told st s h (held? n) ∙ e))

  pub resize-may : {n size : ℕ} {b : Bytes} → MayResize n size b s → {k : ℕ} → holder (trim st) n ≡ suc k → HasRoom (trim st) k size
  resize-may {n} {size} {b} m {k} d =
      subst (HasRoom (trim st) k) (length-resized size b) (resize-room n (held_is n b m.has) (resized size b) m.fits k d)
