-- Demand 3 of stores, from the one contract that every call has: a store that passes spells a state that obeys the rules, a call
-- leaves what the model leaves up to what no call shows, and "fuller" does not depend on which of alike states is meant.
-- Assumes nothing.
use mathlib.Core.List.{List}
use mathlib.Core.Path.{◌≡◌, sym, ap, ◌∙◌}
use Rattle.model.specs.Calls.States.{State}
use Rattle.model.specs.Calls.Performing.{Result, result_number, perform}
use Rattle.model.specs.Buffers.{outputs_after}
use Rattle.model.specs.Rules.{Obeys}
use Rattle.model.specs.Fuller.{Fuller}
use Rattle.model.proofs.Alike.States.{fuller-alike}
use Rattle.model.proofs.Demand.Calls.{joined, fuller, call-alike}
use Rattle.model.proofs.Tables.Instance.{one, two, instance}
use Rattle.model.proofs.Demand.Joining.{shaped}
use Rattle.model.proofs.Sound.Reached.{perform-obeys}
use Rattle.layout.specs.Store.{Store, core}
use Rattle.layout.specs.Lawful.{Passes}
use Rattle.layout.specs.Answers.{Lent, call_of, read_back}
use Rattle.layout.specs.Runs.{Left, Both, Runs, start, next}
use Rattle.layout.proofs.Obeying.{lawful-obeys}
use Rattle.layout.proofs.Spelled.Passed.{every-passes}

-- a store that passes spells a state that obeys the rules
pub passes-obeys : (st : Store) → Passes st → Obeys (read_back st)
passes-obeys st p = lawful-obeys (core st) p.2 p.1

-- what holds between two stores
pub record Holds (a b : Store) : Type 0 where
  pub one : Passes a
  pub two : Passes b
  pub fuller : Fuller (read_back a) (read_back b)

-- two calls that end alike: "refusal number, answer, link count and every output buffer are equal", and the working buffers
pub record SameEnds (c d : Left) : Type 0 where
  pub number : c.number ≡ d.number
  pub outputs : c.outputs ≡ d.outputs
  pub first : c.first ≡ d.first
  pub second : c.second ≡ d.second

-- one call
both_alike : (l : Lent) (a b : Store) (c d : Left) → Holds a b → Both l a b c d → SameEnds c d × Holds c.store d.store
both_alike l a b c d h x =
    let oa = passes-obeys a h.one in
    let ob = passes-obeys b h.two in
    let p = x.one.passing h.one in
    let q = x.two.passing h.two in
    let z = call-alike (call_of l) (read_back a) (read_back b) (joined (read_back a) (read_back b) oa ob h.fuller) x.kept in
    let na : Obeys (perform (call_of l) (read_back a)).after = perform-obeys (call_of l) (read_back a) x.passable oa in
    let nb : Obeys (perform (call_of l) (read_back b)).after = perform-obeys (call_of l) (read_back b) x.passable ob in (
      record {
        number = p.number ∙ ap result_number z.0 ∙ sym q.number;
        outputs = p.answer ∙ ap (λ (r : Result). outputs_after r l.outputs) z.0 ∙ sym q.answer;
        first = x.one.first_cleared ∙ sym x.two.first_cleared;
        second = x.one.second_cleared ∙ sym x.two.second_cleared;
      },
      record {
        one = p.passes;
        two = q.passes;
        fuller = fuller-alike (perform (call_of l) (read_back a)).after (perform (call_of l) (read_back b)).after (read_back c.store) (read_back d.store)
            (shaped _ na) (shaped _ nb) (shaped _ (passes-obeys c.store p.passes)) (shaped _ (passes-obeys d.store q.passes))
            p.spells q.spells (fuller _ _ z.1);
      },
    )

-- a job
holds-again : (a b : Store) → Holds a b → (j : List Lent) (c d : Store) → Runs a b j c d → Holds c d
holds-again a b h _ _ _ start = h
holds-again a b h _ _ _ (next {j} {c} {d} {e} {f} l r x) = (both_alike l c d e f (holds-again a b h j c d r) x).1

-- Demand 3: two stores that refusal 1 lets pass, with the same current directory, umask and open files, the second with everything in
-- the first tree and no less free space; any job on both, and any call after it, none of them left out. Then that call answers alike in
-- both, and all that held at the beginning holds again after it.
pub demand-3_of_stores : (a b : Store) → Holds a b → (j : List Lent) (c d : Store) → Runs a b j c d → (l : Lent) (e f : Left) → Both l c d e f
    → SameEnds e f × Holds e.store f.store
demand-3_of_stores a b h j c d r l e f x = both_alike l c d e f (holds-again a b h j c d r) x

-- ---- its hypotheses can be met

-- any two states as demand 3 has them are those of two stores
pub holds_of : (s u : State) → Obeys s → Obeys u → Fuller s u → (a b : Store) × Holds a b
holds_of s u os ou f =
    let x = every-passes s os in
    let y = every-passes u ou in (
      x.0,
      y.0,
      record {
        one = x.1;
        two = y.1;
        fuller = fuller-alike s u (read_back x.0) (read_back y.0) (shaped s os) (shaped u ou) (shaped _ (passes-obeys x.0 x.1)) (shaped _ (passes-obeys y.0 y.1))
            x.2 y.2 f;
      },
    )

-- two stores with different limits, links, a loop and a removed file under two numbers, and more in the second
pub two_stores : (a b : Store) × Holds a b
two_stores = holds_of one two instance.0 instance.1 instance.2
