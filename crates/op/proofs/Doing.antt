-- What an operation comes to, by the run of its program: refused, or done with the store showing what is left. A store that shows a state
-- has it within its limits, so that 15 and 16 are not the answer then. And from there to the whole call.
-- Assumes nothing.
use mathlib.Core.Bool.{Bool, true}
use mathlib.Core.Path.{◌≡◌, refl, sym, ap, ◌∙◌, subst}
use Prim.Native.Nat.{ℕ, zero, suc, ◌≤◌}
use native.Mathlib.Omega.{arith}
use lib.Dec.{leb}
use borrow.Author.Tests.{le-leb}
use Rattle.model.specs.Refusals.{bad_store}
use Rattle.model.specs.Tree.{Files, links_in}
use Rattle.model.specs.Prog.{World, Prog, done, refused, run}
use Rattle.model.specs.Operations.Steps.{Reply}
use Rattle.model.specs.Calls.States.{State, entries_used, bytes_used, world_of, state_of}
use Rattle.model.specs.Calls.Calling.{given_to, screen}
use Rattle.model.specs.Calls.Performing.{accepted, refusal, result_number, Outcome, outcome, settle_by, settle, decide_by, program, perform_with, perform}
use Rattle.model.specs.Space.{room_for}
use Rattle.model.specs.Alike.{Alike}
use Rattle.model.specs.Shaped.{Shaped}
use Rattle.model.specs.Buffers.{Outputs, written, outputs_after}
use Rattle.model.proofs.Alike.States.{alike-used}
use Rattle.model.proofs.Demand.Keeping.{kept_all}
use Rattle.model.proofs.Space.Room.{room-settles, decided_no}
use Rattle.model.proofs.Space.States.{Uses}
use Rattle.std.specs.Prelude.{Result, Err}
use Rattle.std.specs.Result.{IsErrAnd}
use Rattle.std.proofs.lemmas.Result.{err_from_is_err_and}
use Rattle.refusal.specs.Numbers.{number_of, answered}
use Rattle.refusal.specs.declared.Refusal.{Refusal}
use Rattle.layout.specs.Store.{Store, state, core}
use Rattle.layout.specs.Lawful.{Lawful, Passes, Sized}
use Rattle.layout.specs.Answers.{Lent, call_of, read_back}
use Rattle.layout.proofs.Edited.Shapes.{lawful-shape}
use Rattle.layout.proofs.Used.{entries-used, bytes-used}
use Rattle.edit_room.specs.Extents.{trim}
use Rattle.store.specs.Shows.{Shows}
use Rattle.op.specs.Doing.{settled, Does, Done}
use Rattle.op.specs.Parts.{cut, sizes_of}
use Rattle.op.proofs.Cutting.{shows-cut, Returned, not_written, core-now, long-now, behind-now}

-- ---- within the limits

pub shown-fits : (u : Store) (s : State) → Shows u s → (entries_used s ≤ s.most) × (bytes_used s ≤ s.room)
shown-fits u s h =
    let l = h.roomy.lawful in
    let e = alike-used (state (trim u)) s (lawful-shape (trim u) l) h.shaped h.alike in
    (omega (arith, e.0, entries-used (trim u) l, l.counted, h.alike.entry_limit), omega (arith, e.1, bytes-used (trim u) l, l.space, h.alike.byte_limit))

settle-fits : (s : State) (a : Reply) (v : World) → entries_used (state_of s v) ≤ s.most → bytes_used (state_of s v) ≤ s.room → settle s (done a v) ≡ outcome (accepted a) (state_of s v)
unfolding settle
settle-fits s a v x y =
    ap (λ (b : Bool). settle_by b (leb (bytes_used (state_of s v)) s.room) s a (state_of s v)) (le-leb (entries_used (state_of s v)) s.most x)
    ∙ ap (λ (b : Bool). settle_by true b s a (state_of s v)) (le-leb (bytes_used (state_of s v)) s.room y)

-- nothing is dropped of a state that is not edited
left_alone : (s : State) → Shaped s → state_of s (world_of s) ≡ s
left_alone s h =
    ap (λ (fs : Files). record { tree = s.tree; files = fs; opens = s.opens; here = s.here; mask = s.mask; most = s.most; room = s.room })
    (kept_all s.tree s.opens s.files h.files h.used)

-- ---- what an operation comes to

module _ (p : Prog Reply) (s : State) where
  by_outcome : (u : Store) (o after : Outputs) (r : ℕ) (x : Outcome) → settled p s ≡ x → r ≡ result_number x.result → after ≡ outputs_after x.result o → Shows u x.after
      → Does p s u o after r
  by_outcome u o after r x e n a h = record {
    number = n ∙ ap (λ (y : Outcome). result_number y.result) (sym e);
    answer = a ∙ ap (λ (y : Outcome). outputs_after y.result o) (sym e);
    shows = subst (λ (y : Outcome). Shows u y.after) (sym e) h;
  }

  -- refused
  pub does-refused : (st : Store) → Shows st s → (o : Outputs) (r : ℕ) → run p (world_of s) ≡ refused r → Does p s st o o r
  unfolding settle
  does-refused st h o r e = by_outcome st o o r (outcome (refusal r) s) (ap (settle s) e) refl refl h

  -- done, and the store shows what is left
  pub does-done : (u : Store) (a : Reply) (v : World) → run p (world_of s) ≡ done a v → Shows u (state_of s v) → (o after : Outputs) → after ≡ written a o → Does p s u o after 0
  does-done u a v e h o after w =
      let f = shown-fits u (state_of s v) h in
      by_outcome u o after 0 (outcome (accepted a) (state_of s v)) (ap (settle s) e ∙ settle-fits s a v f.0 f.1) refl w h

  -- done without an edit
  pub does-told : (st : Store) → Shows st s → (a : Reply) → run p (world_of s) ≡ done a (world_of s) → (o after : Outputs) → after ≡ written a o → Does p s st o after 0
  does-told st h a e o after w = does-done st a (world_of s) e (subst (Shows st) (sym (left_alone s h.shaped)) h) o after w

  -- 15 or 16: it would be done, and there is no room for what it would leave
  pub does-full : (st : Store) → Shows st s → (o : Outputs) (a : Reply) (v : World) → run p (world_of s) ≡ done a v → (more grown freed : ℕ) → Uses s (state_of s v) more 0 grown freed
      → (r : ℕ) → r ≡ room_for s more grown freed → (r ≡ 0 → ⊥) → Does p s st o o r
  does-full st h o a v e more grown freed u r x z =
      by_outcome st o o r (outcome (refusal r) s)
      (ap (settle s) e ∙ room-settles s a v grown freed more u ∙ decided_no (room_for s more grown freed) s (outcome (accepted a) (state_of s v)) (λ y. z (x ∙ y)) ∙ ap (λ (k : ℕ). outcome (refusal k) s) (sym x))
      refl refl h

-- the same store
pub does-left : {p : Prog Reply} {s : State} {u v : Store} {o after : Outputs} {r : ℕ} → u ≡ v → Does p s u o after r → Does p s v o after r
does-left {p = p} {s = s} {o = o} {after = after} {r = r} e d = subst (λ (x : Store). Does p s x o after r) e d

-- A refusal that `?` passes on: what holds of the refusal holds of what is returned.
pub passed_on : {A : Type 0} {r : Result A Refusal} {e : Refusal} → IsErrAnd r (λ y. y ≡ e) → (P : Result A Refusal → Type 0) → P (Err e) → P r
passed_on {r = r} x P d = let p = err_from_is_err_and r x in subst P (sym (p.1 ∙ ap (λ (y : Refusal). Err y) p.2)) d

pub does-err : {p : Prog Reply} {s : State} {u : Store} {o after : Outputs} (r : Result Unit Refusal) (e : Refusal) → IsErrAnd r (λ y. y ≡ e) → Does p s u o after (number_of e)
    → Does p s u o after (answered r)
does-err {p = p} {s = s} {u = u} {o = o} {after = after} r e x d = passed_on x (λ (k : Result Unit Refusal). Does p s u o after (answered k)) d

-- and the program is refused so
pub does-passed : {p : Prog Reply} {s : State} {st : Store} {o : Outputs} (r : Result Unit Refusal) (e : Refusal) → IsErrAnd r (λ y. y ≡ e) → Shows st s → run p (world_of s) ≡ refused (number_of e)
    → Does p s st o o (answered r)
does-passed {p = p} {s = s} {st = st} {o = o} r e x h d = does-err r e x (does-refused p s st h o (number_of e) d)

-- ---- the whole call

-- 1
pub done-broken : (l : Lent) (st : Store) → (Passes st → ⊥) → (r : ℕ) → r ≡ bad_store → Done l st st l.outputs r
done-broken l st h r e = record { passing = λ p. absurd (h p); broken = λ _. record { number = e; store = refl; answer = refl } }

module _ (l : Lent) (st : Store) (p : Passes st) where
  abbrev at : State
  at = read_back st

  abbrev whole : Prog Reply
  whole = program (links_in at.tree) l.op

  -- what is shown is left whole
  carried : (u after : Store) (out : Outputs) (r : ℕ) (x : Outcome) → perform (call_of l) at ≡ x → r ≡ result_number x.result → out ≡ outputs_after x.result l.outputs
      → Shows u x.after → Returned (sizes_of st) st u after → Sized (core after) → Done l st after out r
  carried u after out r x e n a h b z = record {
    passing = λ _. record {
      number = n ∙ ap (λ (y : Outcome). result_number y.result) (sym e);
      answer = a ∙ ap (λ (y : Outcome). outputs_after y.result l.outputs) (sym e);
      passes = (long-now st u after p b h.roomy.lawful, subst Lawful (sym (core-now st u after p b h.roomy.lawful)) h.roomy.lawful, z);
      spells = subst (λ (y : Outcome). Alike (read_back after) y.after) (sym e) (subst (λ (y : Store). Alike (state y) x.after) (sym (core-now st u after p b h.roomy.lawful)) h.alike);
      behind = behind-now st u after p b h.roomy.lawful;
    };
    broken = λ k. absurd (k p);
  }

  -- 14, 2, 3 or 4
  pub done-screened : (r : ℕ) → (r ≡ 0 → ⊥) → r ≡ screen (call_of l).work (given_to l.op) at.opens → Done l st st l.outputs r
  unfolding perform perform_with
  done-screened zero z e = absurd (z refl)
  done-screened (suc n) z e =
      carried (cut st) st l.outputs (suc n) (outcome (refusal (suc n)) at) (ap (λ (k : ℕ). decide_by k at (settled whole at)) (sym e)) refl refl (shows-cut st p) (not_written st) p.2

  -- or what its program comes to
  pub done-does : 0 ≡ screen (call_of l).work (given_to l.op) at.opens → (u after : Store) (out : Outputs) (r : ℕ) → Does whole at u l.outputs out r → Returned (sizes_of st) st u after → Sized (core after)
      → Done l st after out r
  unfolding perform perform_with
  done-does e u after out r d b z =
      carried u after out r (settled whole at) (ap (λ (k : ℕ). decide_by k at (settled whole at)) (sym e)) d.number d.answer d.shows b z

-- a refusal that is passed on
pub done-err : {l : Lent} {st after : Store} {out : Outputs} (r : Result Unit Refusal) (e : Refusal) → IsErrAnd r (λ y. y ≡ e) → Done l st after out (number_of e) → Done l st after out (answered r)
done-err {l = l} {st = st} {after = after} {out = out} r e x d = passed_on x (λ (k : Result Unit Refusal). Done l st after out (answered k)) d
