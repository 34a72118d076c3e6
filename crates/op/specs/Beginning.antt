-- How a call with one path begins, and which run of the model it is.
-- Assumes nothing.
use Rattle.std.specs.Prelude.{[], ◌∷◌, ◌≡◌, ℕ, length, take, Result, Ok, Err}
use Rattle.text.specs.Utf8.{Bytes}
use Rattle.path.specs.Path.{names}
use Rattle.model.specs.Tree.{Path}
use Rattle.model.specs.Prog.{Prog, refused, run}
use Rattle.model.specs.Operations.Steps.{Reply, on_path}
use Rattle.model.specs.Operations.Directories.{on_given}
use Rattle.model.specs.Calls.States.{State, world_of}
use Rattle.model.specs.Calls.Calling.{with_texts, screen}
use Rattle.refusal.specs.Numbers.{number_of}
use Rattle.refusal.specs.declared.Refusal.{Refusal}
use Rattle.refusal.specs.declared.Refusal.TheVariants.{BadStore}
use Rattle.layout.specs.Store.{Store}
use Rattle.layout.specs.Lawful.{Passes}
use Rattle.layout.specs.Answers.{read_back}
use Rattle.walk.specs.Meets.{PathIn}
use Rattle.op.specs.declared.begin.Sort.{Sort}
use Rattle.op.specs.declared.begin.Sort.TheVariants as sort

-- how a path is taken
abbrev pub taken : Sort → Bytes → (Path → Prog Reply) → Prog Reply
taken sort.Any = on_path
taken sort.Named = on_given

-- whatever the operation at the path is, its run is that at the path in front of the buffer, or is refused
unfoldable pub Stops : State → Sort → (path out : Bytes) → Result ℕ Refusal → Type 0
Stops s o path out (Ok n) =
    PathIn out n × ((f : Path → Prog Reply) → run (taken o path f) (world_of s) ≡ run (f (names (take n out))) (world_of s))
Stops s o path out (Err e) = (f : Path → Prog Reply) → run (taken o path f) (world_of s) ≡ refused (number_of e)

-- the first of 14, 2, 3 that applies to a call with that path, or 0
abbrev pub screened : (first second path : Bytes) → State → ℕ
screened first second path s = screen (record { first = length first; second = length second }) (with_texts (path ∷ [])) s.opens

-- 1; or 14, 2 or 3; or what the path comes to
pub data Begins (st : Store) (first second : Bytes) (o : Sort) (path out : Bytes) (b : Result ℕ Refusal) : Type 0 where
  broken : (Passes st → ⊥) → b ≡ Err BadStore → Begins st first second o path out b
  tested : Passes st → (e : Refusal) → b ≡ Err e → number_of e ≡ screened first second path (read_back st) → Begins st first second o path out b
  formed : Passes st → 0 ≡ screened first second path (read_back st) → Stops (read_back st) o path out b → Begins st first second o path out b
