-- Set length: what the state uses after it is an equation, so that room_for answers as the model does of the state that would be left.
-- Assumes nothing.
use mathlib.Core.Option.{Option, none, some}
use Rattle.std.proofs.Common.{◌≡◌, ℕ, length, refl, subst, arith}
use Rattle.text.specs.Utf8.{Bytes}
use Rattle.model.specs.Tree.{File, Open, file_of, open_of, resize}
use Rattle.model.specs.Prog.{World, held?, answer, on_some, change_held, apply, ◌>>=◌, ◌>>◌, done, run}
use Rattle.model.specs.Lookup.{text_or}
use Rattle.model.specs.Operations.Numbers.{resized, set_length_on}
use Rattle.model.specs.Operations.Steps.{plain_reply}
use Rattle.model.specs.Calls.States.{State, world_of, state_of, edited}
use Rattle.model.specs.Space.{room_for}
use Rattle.model.specs.Shaped.{Shaped}
use Rattle.model.proofs.Entries.{clash, some_inj}
use Rattle.model.proofs.Space.After.{after-resize-held}
use Rattle.model.proofs.Space.Room.{room_fits}
use Rattle.model.proofs.Space.States.{Spaced, spaced, Uses}
use Rattle.layout.specs.Store.{Store}
use Rattle.store.specs.Shows.{Shows, says, HeldIs}
use Rattle.store_edit.specs.Turns.{NumberOpen, MayResize}
use Rattle.store_edit.proofs.Fitting.{length-resized}
use Rattle.op.specs.Doing.{Does}
use Rattle.op.specs.Lending.{in_nothing}
use Rattle.op.proofs.Doing.{does-full}
use Rattle.op_number.proofs.Changing.{does-changed}

-- other bytes for those of the file that the number stands on
held-uses : (s : State) → Shaped s → (n : ℕ) (b : Bytes) → says (held? n) s ≡ some b → (l : Bytes) → Uses s (edited (change_held n (resize l)) s) 0 0 (length l) (length b)
unfolding answer
held-uses s h n b e l = go (open_of s.opens n) refl e
  where
    in-space : Spaced s
    in-space = spaced s h.paths h.nodes h.one_name h.files h.used h.numbers

    in-file : (a : Open) → open_of s.opens n ≡ some a → (f : Option File) → file_of s.files a.id ≡ f → on_some {B = Bytes} f (λ g. some g.bytes) ≡ some b
        → Uses s (edited (change_held n (resize l)) s) 0 0 (length l) (length b)
    in-file a x none y z = clash none b refl z
    in-file a x (some f) y z = subst (λ (t : Bytes). Uses s (edited (change_held n (resize l)) s) 0 0 (length l) (length t)) (some_inj z) (after-resize-held s in-space n l a f x y)

    go : (a : Option Open) → open_of s.opens n ≡ a → on_some {B = Bytes} a (λ o. on_some (file_of s.files o.id) (λ f. some f.bytes)) ≡ some b
        → Uses s (edited (change_held n (resize l)) s) 0 0 (length l) (length b)
    go none x z = clash none b refl z
    go (some a) x z = in-file a x (file_of s.files a.id) refl z

module _ (st : Store) (s : State) (h : Shows st s) (n size : ℕ) (b : Bytes) (o : NumberOpen n s) (y : HeldIs s n b) where
  abbrev has : says (held? n) s ≡ some b
  has = y o.0 o.1

  abbrev left : World
  left = apply (change_held n (resize (resized size b))) (world_of s)

  length_run : run (set_length_on n size) (world_of s) ≡ done (plain_reply 0) left
  unfolding run ◌>>=◌ ◌>>◌ set_length_on
  length_run = λ i. done (plain_reply 0) (apply (change_held n (resize (resized size (text_or (has i))))) (world_of s))

  uses : Uses s (state_of s left) 0 0 size (length b)
  uses = subst (λ (k : ℕ). Uses s (state_of s left) 0 0 k (length b)) (length-resized size b) (held-uses s h.shaped n b has (resized size b))

  -- there is room
  pub may-resize : room_for s 0 size (length b) ≡ 0 → MayResize n size b s
  may-resize e = record { has = has; fits = room_fits s (state_of s left) 0 size (length b) e uses (omega arith) (omega arith) }

  pub does-resized : (u : Store) → Shows u (edited (change_held n (resize (resized size b))) s) → Does (set_length_on n size) s u in_nothing in_nothing 0
  does-resized u k = does-changed (set_length_on n size) s u (change_held n (resize (resized size b))) length_run k

  -- there is none
  pub resize-full : (r : ℕ) → r ≡ room_for s 0 size (length b) → (r ≡ 0 → ⊥) → Does (set_length_on n size) s st in_nothing in_nothing r
  resize-full r e z = does-full (set_length_on n size) s st h in_nothing (plain_reply 0) left length_run 0 size (length b) uses r e z
