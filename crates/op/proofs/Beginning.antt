-- How a call with one path begins: the path that is formed is the one that the model makes absolute, and what follows is done there.
-- Assumes nothing.
use mathlib.Core.Bool.{Bool, true, false, ◌&&◌}
use mathlib.Core.List.{[], ◌∷◌}
use mathlib.Core.Path.{◌≡◌, refl, sym, ◌∙◌, subst}
use Prim.Native.Nat.{ℕ, ◌≤◌}
use native.Mathlib.Omega.{arith}
use lib.Dec.{leb}
use lib.ListN.{length}
use borrow.Author.Tests.{leb-true}
use Rattle.std.specs.Prelude.{Some, Result, Ok, Err}
use Rattle.text.specs.Utf8.{Bytes, text}
use Rattle.text.proofs.Laws.{text_none}
use Rattle.path.specs.Path.{pieces, all_short, lengths_ok}
use Rattle.path.specs.declared.answer.TooLong.{TooLong}
use Rattle.model.proofs.Entries.{is_true}
use Rattle.model.specs.Refusals.{bad_text, text_too_long, bad_number, short_buffer}
use Rattle.model.specs.Tree.{Path}
use Rattle.model.specs.Prog.{Prog, ◌>>=◌, ◌>>◌, need, refused, run}
use Rattle.model.specs.Operations.Steps.{Reply}
use Rattle.model.specs.Operations.Directories.{on_given}
use Rattle.model.specs.Calls.States.{State, world_of}
use Rattle.model.specs.Calls.Calling.{all, first_of, no_number, number_fits, screen}
use Rattle.refusal.specs.declared.Refusal.{Refusal}
use Rattle.refusal.specs.declared.Refusal.TheVariants.{NotFound, PathTooLong}
use Rattle.layout.specs.Store.{Store}
use Rattle.layout.specs.Lawful.{Passes}
use Rattle.layout.specs.Answers.{read_back}
use Rattle.op.specs.declared.ready.Number.TheVariants as number
use Rattle.op.specs.declared.begin.Sort.{Sort}
use Rattle.op.specs.declared.begin.Sort.TheVariants as sort
use Rattle.op.specs.Testing.{Tested, AbsoluteIs}
use Rattle.op.specs.Testing as testing
use Rattle.op.specs.Beginning.{taken, Stops, screened, Begins, broken, tested}
use Rattle.op.proofs.Leading.{path-formed, path-long}

-- ---- the path

module _ {s : State} {path out : Bytes} where
  pub stops_at : {n : ℕ} → AbsoluteIs s path out (Ok n) → 1024 ≤ length out → Stops s sort.Any path out (Ok n)
  unfolding Stops
  stops_at a h = (record { few = a.kept.0; room = h; plain = a.kept.1 }, λ f. path-formed f a)

  pub stops-long : {e : TooLong} → AbsoluteIs s path out (Err e) → Stops s sort.Any path out (Err PathTooLong)
  unfolding Stops
  stops-long a = λ f. path-long f a

-- a path with bytes in it is taken as any is
given_some : (s : State) (path : Bytes) → (length path ≡ 0 → ⊥) → (f : Path → Prog Reply) → run (on_given path f) (world_of s) ≡ run (taken sort.Any path f) (world_of s)
unfolding on_given need ◌>>=◌ ◌>>◌
given_some s [] h f = absurd (h refl)
given_some s (b ∷ path) h f = refl

pub given_none : (s : State) (path out : Bytes) (o : Sort) → o ≡ sort.Named → length path ≡ 0 → Stops s o path out (Err NotFound)
unfolding on_given need ◌>>=◌ ◌>>◌ run Stops
given_none s path out o e h = subst (λ (x : Sort). Stops s x path out (Err NotFound)) (sym e) (at path h)
  where
    at : (p : Bytes) → length p ≡ 0 → (f : Path → Prog Reply) → run (on_given p f) (world_of s) ≡ refused 8
    at [] h f = refl
    at (b ∷ p) h f = absurd (omega arith)

-- however it is taken
pub as_taken : (s : State) (path out : Bytes) (o : Sort) (b : Result ℕ Refusal) → (o ≡ sort.Named → length path ≡ 0 → ⊥) → Stops s sort.Any path out b → Stops s o path out b
unfolding Stops
as_taken s path out sort.Any b h k = k
as_taken s path out sort.Named (Ok n) h k = (k.0, λ f. given_some s path (h refl) f ∙ k.1 f)
as_taken s path out sort.Named (Err e) h k = λ f. given_some s path (h refl) f ∙ k f

-- ---- the tests

-- no text is one that is lent
pub empty-text : text [] ≡ true
empty-text = is_true (text []) text_none

pub empty-lengths : lengths_ok [] ≡ true
unfolding lengths_ok all_short pieces
empty-lengths = refl

-- a call that goes on has room for a path
pub enough : (first second path : Bytes) (s : State) → 0 ≡ screened first second path s → 1024 ≤ length first
unfolding screen
enough first second path s e = go (leb 1024 (length first)) refl e
  where
    rest : ℕ
    rest = first_of (all text (path ∷ [])) bad_text (first_of (all lengths_ok (path ∷ [])) text_too_long (first_of (number_fits no_number s.opens) bad_number 0))

    go : (b : Bool) → leb 1024 (length first) ≡ b → 0 ≡ first_of (b && leb 1024 (length second)) short_buffer rest → 1024 ≤ length first
    go true x y = leb-true 1024 (length first) x
    go false x y = absurd (omega (arith, y))

module _ {st : Store} (first second path : Bytes) where
  -- a test that failed
  pub begin-refused : {o : Sort} {out : Bytes} {e : Refusal} → Tested st (Some (length first, length second)) (path ∷ []) number.NotGiven (Err e) → Begins st first second o path out (Err e)
  begin-refused {e = e} (testing.broken k x) = broken k (cc)
  begin-refused {e = e} (testing.passing p x) = tested p e refl x

  -- none did
  pub begin-passes : Tested st (Some (length first, length second)) (path ∷ []) number.NotGiven (Ok tt) → Passes st × (0 ≡ screened first second path (read_back st))
  begin-passes (testing.broken k x) = absurd (let z : ◌≡◌ {A = ℕ} 0 1 = cc in omega arith)
  begin-passes (testing.passing p x) = (p, x)
