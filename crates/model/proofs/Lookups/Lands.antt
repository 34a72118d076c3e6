-- Where the way to a path ends at a file, the way over it is refused: each step of the first is one of the second, which turns
-- at the same links, counted or not, and then asks the file for a name. So also in a tree that has more entries.
-- Assumes nothing.
use mathlib.Core.Bool.{Bool, true, false}
use mathlib.Core.List.{List, [], ◌∷◌, ◌++◌, append_assoc, drop_last}
use mathlib.Core.Option.{Option, none, some}
use mathlib.Core.Path.{◌≡◌, refl, sym, ap, ◌∙◌, subst}
use Prim.Native.Nat.{ℕ, zero, suc}
use native.Mathlib.Omega.{arith}
use Rattle.path.specs.Path.{Name, absolute, followed, path_fits}
use Rattle.model.specs.Tree.{Path, Node, look}
use Rattle.model.specs.Prog.{World, Kind, a_dir, aFile, a_link, target?, node_kind, target_of, on_some, answer, Prog, ret, ◌>>=◌, ◌>>◌, need, Out, done, refused, run}
use Rattle.model.specs.Lookup.{End, found, missing, last_link, Met, ends, mid_link, arrived, onward, until_symlink, text_or, behind_link, Walked, ended, no_follow, most_links, Where, reached, following, lookup}
use Rattle.model.proofs.Entries.{clash, some_inj}
use Rattle.model.proofs.Running.{run_bind}
use Rattle.model.proofs.Running.{then as onward-run}
use Rattle.model.proofs.Sound.Worlds.{kind_at}
use Rattle.model.proofs.Sound.Meets.{gives, stops, asked, Says, then, weaken, asks-says, need-says}

-- ---- refused runs

-- the run is refused
abbrev pub Barred : {A : Type 0} → Out A → Type 0
Barred (done a w) = ⊥
Barred (refused n) = Unit {0}

done-bind : {A B : Type 0} (p : Prog A) (f : A → Prog B) (w v : World) (a : A) → run p w ≡ done a v → run (p >>= f) w ≡ run (f a) v
done-bind p f w v a e = run_bind p f w ∙ ap (λ (o : Out _). onward-run o (λ a v. run (f a) v)) e

barred-bind : {A B : Type 0} (p : Prog A) (f : A → Prog B) (w : World) → Barred (run p w) → Barred (run (p >>= f) w)
barred-bind p f w h = rw (run_bind p f w) (go (run p w) h)
  where
    go : (o : Out _) → Barred o → Barred (onward-run o (λ a v. run (f a) v))
    go (done a v) h = absurd h
    go (refused n) h = tt

-- the path behind a link is walked on, if it is not refused
link-barred : {B : Type 0} (w : World) (d r : Path) (f : Path → Prog B) → Barred (run (f (followed (drop_last d) (text_or (answer (target? d) w)) r)) w)
    → Barred (run (behind_link d r >>= f) w)
unfolding behind_link need run ◌>>◌ ◌>>=◌
link-barred w d r f h = go (path_fits q)
  where
    q : Path
    q = followed (drop_last d) (text_or (answer (target? d) w)) r

    go : (b : Bool) → Barred (run (need b 6 >>= (λ _. ret q) >>= f) w)
    go true = h
    go false = tt

-- where it leads
behind_link_is : (w : World) (d r : Path) → Says (λ q. q ≡ followed (drop_last d) (text_or (answer (target? d) w)) r) (behind_link d r) w
unfolding behind_link ◌>>◌
behind_link_is w d r =
    then (asks-says (target? d) w) λ g e.
    then (need-says (path_fits (followed (drop_last d) (text_or g) r)) 6 w) λ _ _.
    gives (refl, ap (λ x. followed (drop_last d) (text_or x) r) (sym e))

-- ---- one way, and the way over it

module _ (v w : World) (sees : (q : Path) (n : Node) → look v.at q ≡ some n → look w.at q ≡ some n) (x : Name) where
  alike : (d : Path) (k : Kind) → kind_at v.at d ≡ some k → look w.at d ≡ look v.at d
  alike d k e = go (look v.at d) refl e
    where
      go : (o : Option Node) → look v.at d ≡ o → on_some o (λ n. some (node_kind n)) ≡ some k → look w.at d ≡ o
      go none y e = clash none k refl e
      go (some n) y e = sees d n y

  same_kind : (d : Path) (k : Kind) → kind_at v.at d ≡ some k → kind_at w.at d ≡ some k
  same_kind d k e = ap (λ (o : Option Node). on_some o (λ n. some (node_kind n))) (alike d k e) ∙ e

  -- the way over d ++ r turns at the same link
  record Turns (d r q u : Path) : Type 0 where
    turns : run (until_symlink d (r ++ (x ∷ []))) w ≡ done (mid_link q (u ++ (x ∷ []))) w
    link : look w.at q ≡ look v.at q

  -- what a walk of d ++ r says of the way over it
  abbrev BeyondEnd : Path → Path → End → Type 0
  BeyondEnd d r (found q k) = k ≡ aFile → run (until_symlink d (r ++ (x ∷ []))) w ≡ refused 9
  BeyondEnd d r (missing q) = Unit {0}
  BeyondEnd d r (last_link q) = Turns d r q []

  -- also where it ends at a link before the last name
  abbrev Beyond : Path → Path → Met → Type 0
  Beyond d r (ends e) = BeyondEnd d r e
  Beyond d r (mid_link q u) = Turns d r q u

  until-beyond : (d r : Path) → Says (Beyond d r) (until_symlink d r) v
  unfolding until_symlink arrived onward answer run ◌>>=◌
  until-beyond d [] = asked (go (kind_at v.at d) refl)
    where
      over : (o : Option Kind) → kind_at w.at d ≡ o → run (until_symlink d (x ∷ [])) w ≡ run (onward d (x ∷ []) o) w
      over o e = ap (λ (k : Option Kind). run (onward d (x ∷ []) k) w) e

      go : (o : Option Kind) → kind_at v.at d ≡ o → Says (Beyond d []) (ret (ends (arrived d o))) v
      go none e = gives (refl, tt)
      go (some a_dir) e = gives {a = ends (found d a_dir)} (refl, λ z. absurd (let y : ◌≡◌ {A = ℕ} 0 1 = cc in omega arith))
      go (some aFile) e = gives {a = ends (found d aFile)} (refl, λ _. over (some aFile) (same_kind d aFile e))
      go (some a_link) e = let t : Turns d [] d [] = record { turns = over (some a_link) (same_kind d a_link e); link = alike d a_link e } in gives (refl, t)
  until-beyond d (y ∷ r) = asked (go (kind_at v.at d) refl (until-beyond (d ++ (y ∷ [])) r))
    where
      over : (o : Option Kind) → kind_at w.at d ≡ o
          → run (until_symlink d (y ∷ (r ++ (x ∷ [])))) w ≡ run (onward d (y ∷ (r ++ (x ∷ []))) o) w
      over o e = ap (λ (k : Option Kind). run (onward d (y ∷ (r ++ (x ∷ []))) k) w) e

      next : kind_at v.at d ≡ some a_dir → (m : Met) → Beyond (d ++ (y ∷ [])) r m → Beyond d (y ∷ r) m
      next e (ends (found q k)) h = λ z. over (some a_dir) (same_kind d a_dir e) ∙ h z
      next e (ends (missing q)) h = tt
      next e (ends (last_link q)) h = record { turns = over (some a_dir) (same_kind d a_dir e) ∙ h.turns; link = h.link }
      next e (mid_link q u) h = record { turns = over (some a_dir) (same_kind d a_dir e) ∙ h.turns; link = h.link }

      go : (o : Option Kind) → kind_at v.at d ≡ o → Says (Beyond (d ++ (y ∷ [])) r) (until_symlink (d ++ (y ∷ [])) r) v
          → Says (Beyond d (y ∷ r)) (onward d (y ∷ r) o) v
      go none e ih = gives (refl, tt)
      go (some a_dir) e ih = weaken ih (λ m u h. (h.0, next e m h.1))
      go (some aFile) e ih = stops
      go (some a_link) e ih = let t : Turns d (y ∷ r) d (y ∷ r) = record { turns = over (some a_link) (same_kind d a_link e); link = alike d a_link e } in gives (refl, t)

  -- the way over p is refused, whatever the count of links
  abbrev Shut : Path → Type 0
  Shut p = (k : ℕ) (ls : List Path) → Barred (run (no_follow k (p ++ (x ∷ [])) ls) w)

  -- the path behind a link
  abbrev target : Path → Path → Path
  target q u = followed (drop_last q) (text_or (answer (target? q) v)) u

  stopped : (p : Path) → run (until_symlink [] (p ++ (x ∷ []))) w ≡ refused 9 → Shut p
  unfolding no_follow
  stopped p e zero ls = barred-bind (until_symlink [] (p ++ (x ∷ []))) _ w (subst Barred (sym e) tt)
  stopped p e (suc k) ls = barred-bind (until_symlink [] (p ++ (x ∷ []))) _ w (subst Barred (sym e) tt)

  -- behind a link the way goes on over its path
  through : (p q u : Path) → Turns [] p q u → Shut (target q u) → Shut p
  unfolding no_follow ended followed answer run
  through p q u t h zero ls = subst Barred (sym (done-bind (until_symlink [] (p ++ (x ∷ []))) _ w w (mid_link q (u ++ (x ∷ []))) t.turns)) tt
  through p q u t h (suc k) ls =
      subst Barred (sym (done-bind (until_symlink [] (p ++ (x ∷ []))) _ w w (mid_link q (u ++ (x ∷ []))) t.turns))
      (link-barred w q (u ++ (x ∷ [])) (λ z. no_follow k z (ls ++ (q ∷ [])))
      (subst (λ (z : Path). Barred (run (no_follow k z (ls ++ (q ∷ []))) w)) longer (h k (ls ++ (q ∷ [])))))
    where
      longer : target q u ++ (x ∷ []) ≡ followed (drop_last q) (text_or (answer (target? q) w)) (u ++ (x ∷ []))
      longer =
          append_assoc (absolute (drop_last q) (text_or (answer (target? q) v))) u (x ∷ [])
          ∙ ap (λ (o : Option Node). absolute (drop_last q) (text_or (on_some o target_of)) ++ (u ++ (x ∷ []))) (sym t.link)

  -- what a no-follow lookup of p says of the way over it
  abbrev Past : Path → End → Type 0
  Past p (found q k) = k ≡ aFile → Shut p
  Past p (missing q) = Unit {0}
  Past p (last_link q) = Shut (target q []) → Shut p

  ended_past : (p : Path) (ls : List Path) (m : Met) (f : Path → List Name → Prog Walked) → Beyond [] p m
      → ((q u : Path) → Turns [] p q u → Says (λ a. Past p a.end) (f q u) v) → Says (λ a. Past p a.end) (ended ls m f) v
  unfolding ended
  ended_past p ls (ends (found q k)) f h i = gives {a = record { end = found q k; links = ls }} (refl, λ e. stopped p (h e))
  ended_past p ls (ends (missing q)) f h i = gives (refl, tt)
  ended_past p ls (ends (last_link q)) f h i = gives {a = record { end = last_link q; links = ls }} (refl, through p q [] h)
  ended_past p ls (mid_link q u) f h i = i q u h

  no_follow_past : (k : ℕ) (p : Path) (ls : List Path) → Says (λ a. Past p a.end) (no_follow k p ls) v
  unfolding no_follow
  no_follow_past zero p ls = then (until-beyond [] p) λ m h. ended_past p ls m _ h (λ q u t. stops)
  no_follow_past (suc k) p ls =
      then (until-beyond [] p) λ m h.
      ended_past p ls m _ h λ q u t.
      then (behind_link_is v q u) λ z e.
      weaken (no_follow_past k z (ls ++ (q ∷ []))) (λ a o y. (y.0, on q u t z e a.end y.1))
    where
      on : (q u : Path) → Turns [] p q u → (z : Path) → z ≡ target q u → (m : End) → Past z m → Past p m
      on q u t z e (found o j) h = λ y. through p q u t (subst Shut e (h y))
      on q u t z e (missing o) h = tt
      on q u t z e (last_link o) h = λ y. through p q u t (subst Shut e (h y))

  reached_past : (p : Path) (m : End) (ls : List Path) (f : Path → Prog Where) → Past p m
      → ((q : Path) → (Shut (target q []) → Shut p) → Says (λ a. a.kind ≡ some aFile → Shut p) (f q) v) → Says (λ a. a.kind ≡ some aFile → Shut p) (reached m ls f) v
  unfolding reached
  reached_past p (found q k) ls f h i = gives (refl, λ e. h (some_inj e))
  reached_past p (missing q) ls f h i = gives (refl, λ e. clash none aFile refl e)
  reached_past p (last_link q) ls f h i = i q h

  following_past : (b : ℕ) (p : Path) (ls : List Path) → Says (λ a. a.kind ≡ some aFile → Shut p) (following b p ls) v
  unfolding following
  following_past zero p ls = then (no_follow_past most_links p ls) λ a h. reached_past p a.end a.links _ h (λ q i. stops)
  following_past (suc b) p ls =
      then (no_follow_past most_links p ls) λ a h.
      reached_past p a.end a.links _ h λ q i.
      then (behind_link_is v q []) λ z e.
      weaken (following_past b z (a.links ++ (q ∷ []))) (λ c o y. (y.0, λ k. i (subst Shut e (y.1 k))))

  shut-lookup : (p : Path) → Shut p → (c : ℕ) → Barred (run (lookup c (p ++ (x ∷ []))) w)
  unfolding following
  shut-lookup p h zero = barred-bind (no_follow most_links (p ++ (x ∷ [])) []) _ w (h most_links [])
  shut-lookup p h (suc c) = barred-bind (no_follow most_links (p ++ (x ∷ [])) []) _ w (h most_links [])

  -- a lookup of p that ends at a file says that a lookup of p with a name more is refused
  pub lands : (b : ℕ) (p : Path) → Says (λ a. a.kind ≡ some aFile → (c : ℕ) → Barred (run (lookup c (p ++ (x ∷ []))) w)) (lookup b p) v
  lands b p = weaken (following_past b p []) (λ a o h. (h.0, λ k. shut-lookup p (h.1 k)))
