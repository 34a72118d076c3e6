-- Two runs of one program on worlds that stand in a relation: where every question is answered alike and every edit keeps the
-- relation, unless it is left out, both runs end alike and in the relation. Demand 3 is one instance; the relation, what is left
-- out of the questions and what of the edits are parameters.
-- Assumes nothing.
use mathlib.Core.Bool.{Bool, false, ◌||◌}
use mathlib.Core.Path.{◌≡◌, refl}
use Rattle.std.proofs.lemmas.Bool.{or_parts}
use Rattle.model.specs.Prog.{World, Ask, answer, Edit, apply, Prog, ret, stop, ask, edit, Out, done, refused, run}

-- a program's questions and edits, as the first run goes, on both worlds as they then are: whether one of them is left out
unfoldable pub excepts_by : (Ask → World → World → Bool) → (Edit → World → World → Bool) → {A : Type 0} → Prog A → World → World → Bool
excepts_by asks edits (ret a) w v = false
excepts_by asks edits (stop n) w v = false
excepts_by asks edits (ask q k) w v = asks q w v || excepts_by asks edits (k (answer q w)) w v
excepts_by asks edits (edit e p) w v = edits e w v || excepts_by asks edits p (apply e w) (apply e v)

-- both accepted with the same answer, in the relation; or both refused with the same number
abbrev pub Alike : (World → World → Type 0) → {A : Type 0} → Out A → Out A → Type 0
Alike R (done a w) (done b v) = (a ≡ b) × R w v
Alike R (done a w) (refused n) = ⊥
Alike R (refused m) (done b v) = ⊥
Alike R (refused m) (refused n) = m ≡ n

module _ (R : World → World → Type 0) (asks : Ask → World → World → Bool) (edits : Edit → World → World → Bool)
    (asked : (q : Ask) (w v : World) → R w v → asks q w v ≡ false → answer q w ≡ answer q v)
    (edited : (e : Edit) (w v : World) → R w v → edits e w v ≡ false → R (apply e w) (apply e v)) where
  pub two_runs : {A : Type 0} (p : Prog A) (w v : World) → R w v → excepts_by asks edits p w v ≡ false → Alike R (run p w) (run p v)
  unfolding run excepts_by
  two_runs (ret a) w v r e = (refl, r)
  two_runs (stop n) w v r e = refl
  two_runs (ask q k) w v r e =
      let o = or_parts (asks q w v) (excepts_by asks edits (k (answer q w)) w v) e in
      rw (← (asked q w v r o.0)) (two_runs (k (answer q w)) w v r o.1)
  two_runs (edit d p) w v r e =
      let o = or_parts (edits d w v) (excepts_by asks edits p (apply d w) (apply d v)) e in
      two_runs p (apply d w) (apply d v) (edited d w v r o.0) o.1
