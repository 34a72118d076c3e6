-- Lookups only ask: they edit nothing, so an answer of theirs is given on the world they were asked of, part by part.
-- Assumes nothing.
use mathlib.Core.Bool.{Bool, true, false}
use mathlib.Core.List.{List, [], ◌∷◌, ◌++◌, drop_last}
use mathlib.Core.Option.{Option, none, some}
use mathlib.Core.Path.{◌≡◌, refl, ap, ◌∙◌}
use Prim.Native.Nat.{ℕ, zero, suc}
use native.Mathlib.Omega.{arith}
use lib.Dec.{T}
use Rattle.path.specs.Path.{Name, followed, path_fits}
use Rattle.model.specs.Tree.{Path}
use Rattle.model.specs.Prog.{World, Kind, a_dir, aFile, a_link, target?, answer, Prog, ret, stop, ask, edit, ◌>>=◌, ◌>>◌, need, Out, done, refused, run}
use Rattle.model.specs.Lookup.{End, found, missing, last_link, Met, ends, mid_link, onward, until_symlink, text_or, behind_link, Walked, ended, no_follow, most_links, Where, reached, following}
use Rattle.model.proofs.Running.{then, run_bind, Pure, pure-bind}

-- ---- runs of what only asks

-- a refusal is no answer
pub no_answer : {A B : Type 0} {n : ℕ} {a : A} {w : World} → ◌≡◌ {A = Out A} (refused n) (done a w) → B
no_answer e = absurd (let z : ◌≡◌ {A = ℕ} 0 1 = cc in omega arith)

-- equal runs have equal answers
pub same_answer : {A : Type 0} {a b : A} {w v : World} → done a w ≡ done b v → a ≡ b
same_answer e = cc

-- an answer comes from an answer of the first part, on the same world
pub bind_done : {A B : Type 0} (p : Prog A) (f : A → Prog B) (w : World) {b : B} {v : World}
    → Pure p → run (p >>= f) w ≡ done b v → (a : A) × (run p w ≡ done a w) × (run (f a) w ≡ done b v)
unfolding run ◌>>=◌
bind_done (ret a) f w h e = (a, refl, e)
bind_done (stop n) f w h e = no_answer e
bind_done (ask q k) f w h e = bind_done (k (answer q w)) f w (h (answer q w)) e
bind_done (edit d p) f w h e = absurd h

-- behind an answer the second part runs
pub bind-run : {A B : Type 0} (p : Prog A) (f : A → Prog B) (w v : World) {a : A}
    → run p w ≡ done a v → run (p >>= f) w ≡ run (f a) v
bind-run p f w v e = run_bind p f w ∙ ap (λ (o : Out _). then o (λ a u. run (f a) u)) e

-- a test edits nothing
pub pure-need : (b : Bool) (n : ℕ) → Pure (need b n)
unfolding need
pure-need true n = tt
pure-need false n = tt

-- a test that is passed is true
pub need-done : (b : Bool) (n : ℕ) (w : World) {a : Unit {0}} {v : World} → run (need b n) w ≡ done a v → T b
unfolding need run
need-done true n w e = tt
need-done false n w e = no_answer e

-- and a true one is passed
pub need-run : (b : Bool) (n : ℕ) (w : World) → T b → run (need b n) w ≡ done tt w
unfolding need run
need-run true n w t = refl
need-run false n w t = absurd t

-- ---- lookups, part by part

-- where a link leads, with the rest of the path behind it
abbrev pub next : World → Path → List Name → Path
next w d r = followed (drop_last d) (text_or (answer (target? d) w)) r

-- what a no-follow lookup does at a link with names to come, with k of them still allowed
abbrev pub along : ℕ → List Path → Path → List Name → Prog Walked
along zero ls d r = stop 7
along (suc k) ls d r = behind_link d r >>= λ q. no_follow k q (ls ++ (d ∷ []))

-- a no-follow lookup by its first walk
pub no_follow_is : (k : ℕ) (p : Path) (ls : List Path) → no_follow k p ls ≡ until_symlink [] p >>= λ m. ended ls m (along k ls)
unfolding no_follow
no_follow_is zero p ls = refl
no_follow_is (suc k) p ls = refl

-- what a following lookup does at a last link, with b of them still allowed
abbrev pub chain : ℕ → List Path → Path → Prog Where
chain zero ls d = stop 7
chain (suc b) ls d = behind_link d [] >>= λ q. following b q (ls ++ (d ∷ []))

-- and with where its no-follow lookup ended
abbrev pub reach : ℕ → Walked → Prog Where
reach b y = reached y.end y.links (chain b y.links)

-- a following lookup with k links before the last name and b last links still allowed
abbrev pub look_from : ℕ → ℕ → Path → List Path → Prog Where
look_from k b p ls = no_follow k p ls >>= reach b

-- at first all are
pub following_is : (b : ℕ) (p : Path) (ls : List Path) → following b p ls ≡ look_from most_links b p ls
unfolding following
following_is zero p ls = refl
following_is (suc b) p ls = refl

-- ---- lookups edit nothing

pure-onward : (d : Path) (r : List Name) (k : Option Kind) → Pure (onward d r k)
unfolding onward ◌>>=◌
pure-onward d [] k = tt
pure-onward d (x ∷ r) none = tt
pure-onward d (x ∷ r) (some a_dir) = λ k. pure-onward (d ++ (x ∷ [])) r k
pure-onward d (x ∷ r) (some aFile) = tt
pure-onward d (x ∷ r) (some a_link) = tt

-- a walk
pub pure-until : (d : Path) (r : List Name) → Pure (until_symlink d r)
unfolding until_symlink ◌>>=◌
pure-until d r = λ k. pure-onward d r k

-- the path behind a link
pub pure-behind : (d : Path) (r : List Name) → Pure (behind_link d r)
unfolding behind_link ◌>>=◌ ◌>>◌
pure-behind d r = λ s. let q : Path = followed (drop_last d) (text_or s) r in
    pure-bind (need (path_fits q) 6) (λ _. ret q) (pure-need (path_fits q) 6) (λ _. tt)

pure-ended : (ls : List Path) (m : Met) (f : Path → List Name → Prog Walked)
    → ((d : Path) (r : List Name) → Pure (f d r)) → Pure (ended ls m f)
unfolding ended
pure-ended ls (ends e) f h = tt
pure-ended ls (mid_link d r) f h = h d r

-- a no-follow lookup
pub pure-no_follow : (k : ℕ) (p : Path) (ls : List Path) → Pure (no_follow k p ls)
unfolding no_follow
pure-no_follow zero p ls = pure-bind _ _ (pure-until [] p) λ m. pure-ended ls m _ λ d r. tt
pure-no_follow (suc k) p ls =
    pure-bind _ _ (pure-until [] p) λ m. pure-ended ls m _ λ d r.
    pure-bind _ _ (pure-behind d r) λ q. pure-no_follow k q (ls ++ (d ∷ []))

pure-reached : (e : End) (ls : List Path) (f : Path → Prog Where) → ((d : Path) → Pure (f d)) → Pure (reached e ls f)
unfolding reached
pure-reached (found d k) ls f h = tt
pure-reached (missing d) ls f h = tt
pure-reached (last_link d) ls f h = h d

-- a following lookup
pub pure-following : (b : ℕ) (p : Path) (ls : List Path) → Pure (following b p ls)
unfolding following
pure-following zero p ls = pure-bind _ _ (pure-no_follow most_links p ls) λ y. pure-reached y.end y.links _ λ d. tt
pure-following (suc b) p ls =
    pure-bind _ _ (pure-no_follow most_links p ls) λ y. pure-reached y.end y.links _ λ d.
    pure-bind _ _ (pure-behind d []) λ q. pure-following b q (y.links ++ (d ∷ []))
