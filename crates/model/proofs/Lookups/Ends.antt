-- A lookup is left out by demand 3 exactly for the missing name at its end, so not by its bound on last links.
-- Assumes nothing.
use mathlib.Core.Bool.{Bool, true, false, ◌&&◌, ◌||◌, not, false≢true}
use mathlib.Core.List.{List, [], ◌∷◌, ◌++◌}
use mathlib.Core.Logic.{inl}
use mathlib.Core.Option.{Option, none, some}
use mathlib.Core.Path.{◌≡◌, refl, sym, ap, ◌∙◌}
use Prim.Native.Nat.{ℕ, zero, suc, ◌+◌, ◌≤◌}
use native.Mathlib.Omega.{arith}
use lib.ListN.{length}
use Rattle.path.specs.Path.{Name, path_fits}
use Rattle.model.specs.Tree.{Path, Node, look, links_in}
use Rattle.model.specs.Prog.{World, Kind, a_dir, aFile, a_link, kind?, node_kind, on_some, answer, Prog, ret, stop, ask, edit, ◌>>=◌, ◌>>◌, need, Out, done, refused, run}
use Rattle.model.specs.Lookup.{End, found, missing, last_link, Met, ends, mid_link, arrived, onward, until_symlink, behind_link, Walked, ended, no_follow, most_links, Where, reached, following, lookup}
use Rattle.model.specs.Operations.{is_some}
use Rattle.model.specs.Fuller.{misses, excepts_ask, excepts}
use Rattle.model.proofs.Running.{Pure, onto, tells_then, Tells, tells-done}
use Rattle.model.proofs.Lookups.Pure.{pure-until, pure-no_follow}
use Rattle.model.proofs.Lookups.Walking.{Link, StandsEnd, path_of, until-tells, goes, Walks, no_follow-tells, walk-stands}
use Rattle.model.proofs.Lookups.Loops.{bounds}

-- what follows an answer
abbrev pub later : {A : Type 0} → Out A → (A → Bool) → Bool
later (done a u) k = k a
later (refused n) k = false

or_assoc : (a b c : Bool) → a || (b || c) ≡ (a || b) || c
or_assoc true b c = refl
or_assoc false b c = refl

pub or_false_right : (a : Bool) → a || false ≡ a
or_false_right true = refl
or_false_right false = refl

-- what a program in two parts is left out for, the first of which only asks
pub excepts-bind : {A B : Type 0} (p : Prog A) (f : A → Prog B) (w v : World) → Pure p
    → excepts (p >>= f) w v ≡ excepts p w v || later (run p w) (λ a. excepts (f a) w v)
unfolding excepts run ◌>>=◌
excepts-bind (ret a) f w v h = refl
excepts-bind (stop n) f w v h = refl
excepts-bind (ask q k) f w v h =
    ap (λ (b : Bool). excepts_ask q w v || b) (excepts-bind (k (answer q w)) f w v (h (answer q w)))
    ∙ or_assoc (excepts_ask q w v) (excepts (k (answer q w)) w v) (later (run (k (answer q w)) w) (λ a. excepts (f a) w v))
excepts-bind (edit e p) f w v h = absurd h

module _ (w v : World) where
  -- what has a kind is not missed
  seen-kind : (d : Path) (k : Kind) → answer (kind? d) w ≡ some k → misses w v d ≡ false
  unfolding answer misses
  seen-kind d k e = go (look w.at d) e
    where
      go : (o : Option Node) → on_some o (λ n. some (node_kind n)) ≡ some k → not (is_some o) && is_some (look v.at d) ≡ false
      go none e = absurd (let z : ◌≡◌ {A = ℕ} 0 1 = cc in omega arith)
      go (some n) e = refl

  seen-link : (d : Path) → Link w d → misses w v d ≡ false
  unfolding misses
  seen-link d l = rw l.stands refl

  -- a walk that does not end before a missing name misses nothing
  abbrev at_missing : Out Met → Bool
  at_missing (done (ends (missing z)) u) = true
  at_missing (done (ends (found d k)) u) = false
  at_missing (done (ends (last_link d)) u) = false
  at_missing (done (mid_link d r) u) = false
  at_missing (refused n) = false

  until-quiet : (d : Path) (r : List Name) → at_missing (run (until_symlink d r) w) ≡ false → excepts (until_symlink d r) w v ≡ false
  unfolding until_symlink arrived onward run excepts excepts_ask ◌>>=◌
  until-quiet d [] h = go (answer (kind? d) w) refl h
    where
      go : (k : Option Kind) → answer (kind? d) w ≡ k → at_missing (run (ret (ends (arrived d k))) w) ≡ false → misses w v d || false ≡ false
      go none y e = absurd (false≢true (sym e))
      go (some c) y e = or_false_right (misses w v d) ∙ seen-kind d c y
  until-quiet d (x ∷ r) h = go (answer (kind? d) w) refl h (until-quiet (d ++ (x ∷ [])) r)
    where
      go : (k : Option Kind) → answer (kind? d) w ≡ k → at_missing (run (onward d (x ∷ r) k) w) ≡ false
          → (at_missing (run (until_symlink (d ++ (x ∷ [])) r) w) ≡ false → excepts (until_symlink (d ++ (x ∷ [])) r) w v ≡ false)
          → misses w v d || excepts (onward d (x ∷ r) k) w v ≡ false
      go none y e ih = absurd (false≢true (sym e))
      go (some a_dir) y e ih = rw (seen-kind d a_dir y) (ih e)
      go (some aFile) y e ih = rw (seen-kind d aFile y) refl
      go (some a_link) y e ih = rw (seen-kind d a_link y) refl

  -- what a walk is left out for, by where it ends
  abbrev met_miss : End → Bool
  met_miss (found d k) = false
  met_miss (missing z) = excepts (until_symlink [] z) w v
  met_miss (last_link d) = false

  abbrev walk_miss : Out Walked → Bool
  walk_miss o = later o (λ a. met_miss a.end)

  abbrev where_miss : Option Kind → Path → Bool
  where_miss none z = excepts (until_symlink [] z) w v
  where_miss (some k) z = false

  abbrev look_miss : Out Where → Bool
  look_miss o = later o (λ a. where_miss a.kind a.path)

  -- behind a link nothing is missed
  behind-excepts : {A : Type 0} (d : Path) (r : List Name) (f : Path → Prog A) (o : Out A → Bool) → ((n : ℕ) → o (refused n) ≡ false) → Link w d
      → ((q : Path) → excepts (f q) w v ≡ o (run (f q) w)) → excepts (behind_link d r >>= f) w v ≡ o (run (behind_link d r >>= f) w)
  unfolding behind_link need ◌>>=◌ ◌>>◌ run excepts excepts_ask
  behind-excepts d r f o z l h = rw (seen-link d l) (go (path_fits (goes w d r)))
    where
      go : (b : Bool) → excepts ((need b 6 >>= λ _. ret (goes w d r)) >>= f) w v ≡ o (run ((need b 6 >>= λ _. ret (goes w d r)) >>= f) w)
      go true = h (goes w d r)
      go false = sym (z 6)

  ended-excepts : (p : Path) (ls : List Path) (f : Path → List Name → Prog Walked) → ((d : Path) (r : List Name) → Link w d → excepts (f d r) w v ≡ walk_miss (run (f d r) w))
      → excepts (until_symlink [] p >>= λ m. ended ls m f) w v ≡ walk_miss (run (until_symlink [] p >>= λ m. ended ls m f) w)
  unfolding ended excepts run
  ended-excepts p ls f h =
      excepts-bind (until_symlink [] p) (λ m. ended ls m f) w v (pure-until [] p)
      ∙ go (run (until_symlink [] p) w) refl
      ∙ sym (ap walk_miss (tells_then (until_symlink [] p) (λ m. ended ls m f) w _ (until-tells w [] p)))
    where
      quiet : (o : Out Met) → run (until_symlink [] p) w ≡ o → at_missing o ≡ false → excepts (until_symlink [] p) w v ≡ false
      quiet o e z = until-quiet [] p (ap at_missing e ∙ z)

      go : (o : Out Met) → run (until_symlink [] p) w ≡ o
          → excepts (until_symlink [] p) w v || later o (λ m. excepts (ended ls m f) w v) ≡ walk_miss (onto o (λ m. run (ended ls m f) w))
      go (refused n) e = rw (quiet (refused n) e refl) refl
      go (done (ends (found d k)) u) e = rw (quiet (done (ends (found d k)) u) e refl) refl
      go (done (ends (missing z)) u) e =
          or_false_right (excepts (until_symlink [] p) w v)
          ∙ ap (λ (q : Path). excepts (until_symlink [] q) w v) (sym (tells-done (until_symlink [] p) w _ (until-tells w [] p) (ends (missing z)) u e).1.0)
      go (done (ends (last_link d)) u) e = rw (quiet (done (ends (last_link d)) u) e refl) refl
      go (done (mid_link d r) u) e = rw (quiet (done (mid_link d r) u) e refl) (h d r (tells-done (until_symlink [] p) w _ (until-tells w [] p) (mid_link d r) u e).1.1)

  pub no_follow-excepts : (k : ℕ) (p : Path) (ls : List Path) → excepts (no_follow k p ls) w v ≡ walk_miss (run (no_follow k p ls) w)
  unfolding no_follow
  no_follow-excepts zero p ls = ended-excepts p ls _ (λ d r l. unfold excepts run in refl)
  no_follow-excepts (suc k) p ls = ended-excepts p ls _ (λ d r l. behind-excepts d r _ walk_miss (λ n. refl) l (λ q. no_follow-excepts k q (ls ++ (d ∷ []))))

  reached-excepts : (p : Path) (ls : List Path) (f : List Path → Path → Prog Where)
      → ((ms : List Path) (d : Path) → Link w d → excepts (f ms d) w v ≡ look_miss (run (f ms d) w))
      → excepts (no_follow most_links p ls >>= λ a. reached a.end a.links (f a.links)) w v ≡ look_miss (run (no_follow most_links p ls >>= λ a. reached a.end a.links (f a.links)) w)
  unfolding reached excepts run
  reached-excepts p ls f h =
      excepts-bind (no_follow most_links p ls) _ w v (pure-no_follow most_links p ls)
      ∙ ap (λ (b : Bool). b || later (run (no_follow most_links p ls) w) (λ a. excepts (reached a.end a.links (f a.links)) w v)) (no_follow-excepts most_links p ls)
      ∙ go (run (no_follow most_links p ls) w) refl
      ∙ sym (ap look_miss (tells_then (no_follow most_links p ls) (λ a. reached a.end a.links (f a.links)) w _ tell))
    where
      tell : Tells (no_follow most_links p ls) w (Walks w ls (40 + length ls))
      tell = no_follow-tells w most_links p ls ls _ (omega arith) (λ d i. inl i)

      met : (m : End) (ms : List Path) → (m ≡ m) → StandsEnd w m → met_miss m || excepts (reached m ms (f ms)) w v ≡ look_miss (run (reached m ms (f ms)) w)
      met (found d k) ms y s = refl
      met (missing d) ms y s = or_false_right _
      met (last_link d) ms y s = h ms d s

      go : (o : Out Walked) → run (no_follow most_links p ls) w ≡ o
          → walk_miss o || later o (λ a. excepts (reached a.end a.links (f a.links)) w v) ≡ look_miss (onto o (λ a. run (reached a.end a.links (f a.links)) w))
      go (refused n) e = refl
      go (done a u) e = met a.end a.links refl (walk-stands w (path_of a.end) (ends a.end) (tells-done (no_follow most_links p ls) w _ tell a u e).1.again)

  -- a lookup is left out for the missing name at its end alone, so by its answer
  pub following-excepts : (b : ℕ) (p : Path) (ls : List Path) → excepts (following b p ls) w v ≡ look_miss (run (following b p ls) w)
  unfolding following
  following-excepts zero p ls = reached-excepts p ls (λ ms d. stop 7) (λ ms d l. unfold excepts run in refl)
  following-excepts (suc b) p ls =
      reached-excepts p ls (λ ms d. behind_link d [] >>= λ q. following b q (ms ++ (d ∷ [])))
      (λ ms d l. behind-excepts d [] _ look_miss (λ n. refl) l (λ q. following-excepts b q (ms ++ (d ∷ []))))

  -- so whatever the bound
  pub lookup-bound : (b c : ℕ) (p : Path) → links_in w.at ≤ b → links_in w.at ≤ c → excepts (lookup b p) w v ≡ excepts (lookup c p) w v
  lookup-bound b c p h k = following-excepts b p [] ∙ ap look_miss (bounds w b c p [] h k) ∙ sym (following-excepts c p [])
