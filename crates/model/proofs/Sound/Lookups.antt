-- What a lookup's answer says of the tree: what stands at the path, that each name before it which stands is a directory's, and
-- that the path is as a state keeps it. Each step of a walk asks for one of these directories.
-- Assumes nothing.
use mathlib.Core.List.{List, [], ◌∷◌, ◌++◌, append-nil, drop_last}
use mathlib.Core.Option.{Option, none, some}
use mathlib.Core.Path.{◌≡◌, refl, sym, ◌∙◌, subst}
use Prim.Native.Nat.{ℕ, zero, suc}
use native.Mathlib.Omega.{arith}
use lib.Dec.{T}
use lib.Seq.{append_snoc}
use Rattle.path.specs.Path.{Name, followed, path_fits}
use Rattle.model.specs.Tree.{Path, Node, dir, file, link, Entries, Files, look}
use Rattle.model.specs.Prog.{World, Kind, a_dir, aFile, a_link, target?, node_kind, on_some, target_of, answer, Prog, ret, ◌>>=◌, ◌>>◌}
use Rattle.model.specs.Lookup.{End, found, missing, last_link, Met, ends, mid_link, arrived, onward, until_symlink, text_or, behind_link, Walked, ended, no_follow, most_links, Where, reached, following, lookup}
use Rattle.model.specs.Rules.{names_ok, path_ok, target_ok}
use Rattle.model.proofs.Entries.{clash, some_inj}
use Rattle.model.proofs.Sound.Worlds.{IsDir, Tidy, Sound, kind_at}
use Rattle.model.proofs.Sound.Entries.{names_left, names_right}
use Rattle.model.proofs.Sound.Paths.{target_none, path_names, path_both, followed-names}
use Rattle.model.proofs.Sound.Meets.{gives, stops, asked, Says, then, weaken, asks-says, need-says}

-- ---- kinds

-- where a directory is seen, one stands
pub dir-seen : (t : Entries) (p : Path) → kind_at t p ≡ some a_dir → IsDir t p
unfolding node_kind
dir-seen t p e = go (look t p) refl e
  where
    go : (o : Option Node) → look t p ≡ o → on_some o (λ n. some (node_kind n)) ≡ some a_dir → IsDir t p
    go none y e = clash none a_dir refl e
    go (some (dir m)) y e = (m, y)
    go (some (file i)) y e = absurd (let z : ◌≡◌ {A = ℕ} 0 1 = cc in omega arith)
    go (some (link m s)) y e = absurd (let z : ◌≡◌ {A = ℕ} 0 1 = cc in omega arith)

-- and the other way
pub dir-shows : (t : Entries) (p : Path) → IsDir t p → kind_at t p ≡ some a_dir
unfolding node_kind
dir-shows t p (m, e) = rw e

-- nothing stands where nothing is seen
none_seen : (t : Entries) (p : Path) → kind_at t p ≡ none → look t p ≡ none
none_seen t p e = go (look t p) refl e
  where
    go : (o : Option Node) → look t p ≡ o → on_some o (λ n. some (node_kind n)) ≡ none → look t p ≡ none
    go none y e = y
    go (some n) y e = clash (some (node_kind n)) (node_kind n) e refl

module _ (fs : Files) (t : Entries) (s : Tidy fs t) where
  none_next : (d : Path) (x : Name) → kind_at t d ≡ none → kind_at t (d ++ (x ∷ [])) ≡ none
  none_next d x e = go (look t (d ++ (x ∷ []))) refl
    where
      go : (o : Option Node) → look t (d ++ (x ∷ [])) ≡ o → on_some o (λ n. some (node_kind n)) ≡ none
      go none y = refl
      go (some n) y = let v = s.parents d x n y in clash (look t d) (dir v.0) (none_seen t d e) v.1

  -- below what is missing all is
  none_on : (d r : Path) → kind_at t d ≡ none → kind_at t (d ++ r) ≡ none
  none_on d [] e = rw (append-nil d) e
  none_on d (x ∷ r) e = subst (λ (q : Path). kind_at t q ≡ none) (append_snoc d x r) (none_on (d ++ (x ∷ [])) r (none_next d x e))

-- each path from d on, before the last of the names to come, is a directory if it stands
abbrev pub Clear : Entries → Path → List Name → Type 0
Clear t d [] = Unit {0}
Clear t d (x ∷ r) = ((k : Kind) → kind_at t d ≡ some k → k ≡ a_dir) × Clear t (d ++ (x ∷ [])) r

none_clear : (fs : Files) (t : Entries) → Tidy fs t → (d r : Path) → kind_at t d ≡ none → Clear t d r
none_clear fs t s d [] e = tt
none_clear fs t s d (x ∷ r) e = (λ k h. clash (kind_at t d) k e h, none_clear fs t s (d ++ (x ∷ [])) r (none_next fs t s d x e))

-- ---- the walk to the first link

-- a walk from d over the names r ends at q, where o is seen
pub record Walks (t : Entries) (d r q : Path) (o : Option Kind) : Type 0 where
  pub all : q ≡ d ++ r
  pub kind : kind_at t q ≡ o
  pub no_link : o ≡ some a_link → ⊥
  pub clear : Clear t d r

-- what a walk from d over r says of the place where it ends
abbrev HonestEnd : Entries → Path → Path → End → Type 0
HonestEnd t d r (found q k) = Walks t d r q (some k)
HonestEnd t d r (missing q) = Walks t d r q none
HonestEnd t d r (last_link q) = q ≡ d ++ r

-- also where it ends at a link before the last name
abbrev Honest : Entries → Path → Path → Met → Type 0
Honest t d r (ends e) = HonestEnd t d r e
Honest t d r (mid_link q k) = q ++ k ≡ d ++ r

-- a walk that began one name before
one_more : (t : Entries) (d : Path) (x : Name) (r : Path) → kind_at t d ≡ some a_dir → (m : Met) → Honest t (d ++ (x ∷ [])) r m → Honest t d (x ∷ r) m
one_more t d x r e = go
  where
    longer : (q : Path) (o : Option Kind) → Walks t (d ++ (x ∷ [])) r q o → Walks t d (x ∷ r) q o
    longer q o h =
        record { all = h.all ∙ append_snoc d x r; kind = h.kind; no_link = h.no_link; clear = (λ k z. some_inj (sym z ∙ e), h.clear) }

    go : (m : Met) → Honest t (d ++ (x ∷ [])) r m → Honest t d (x ∷ r) m
    go (ends (found q k)) h = longer q (some k) h
    go (ends (missing q)) h = longer q none h
    go (ends (last_link q)) h = h ∙ append_snoc d x r
    go (mid_link q k) h = h ∙ append_snoc d x r

-- ---- whole lookups

-- o is seen at q, and q is a path that a state may keep
pub record Stands (t : Entries) (q : Path) (o : Option Kind) : Type 0 where
  pub path : T (path_ok q)
  pub kind : kind_at t q ≡ o
  pub no_link : o ≡ some a_link → ⊥
  pub clear : Clear t [] q

-- what a no-follow lookup says of the place where it ends
abbrev Ended : Entries → End → Type 0
Ended t (found q k) = Stands t q (some k)
Ended t (missing q) = Stands t q none
Ended t (last_link q) = T (path_ok q)

at_last : (t : Entries) (p : Path) → T (path_ok p) → (m : End) → HonestEnd t [] p m → Ended t m
at_last t p k = go
  where
    at-end : (q : Path) (o : Option Kind) → Walks t [] p q o → Stands t q o
    at-end q o h = record {
      path = subst (λ (x : Path). T (path_ok x)) (sym h.all) k;
      kind = h.kind;
      no_link = h.no_link;
      clear = subst (Clear t []) (sym h.all) h.clear;
    }

    go : (m : End) → HonestEnd t [] p m → Ended t m
    go (found q o) h = at-end q (some o) h
    go (missing q) h = at-end q none h
    go (last_link q) h = subst (λ (x : Path). T (path_ok x)) (sym h) k

module _ (w : World) (s : Sound w) where
  until-says : (d r : Path) → Says (Honest w.at d r) (until_symlink d r) w
  unfolding until_symlink arrived onward answer ◌>>=◌
  until-says d [] = asked (go (kind_at w.at d) refl)
    where
      here : (o : Option Kind) → kind_at w.at d ≡ o → (o ≡ some a_link → ⊥) → Walks w.at d [] d o
      here o e n = record { all = sym (append-nil d); kind = e; no_link = n; clear = tt }

      go : (o : Option Kind) → kind_at w.at d ≡ o → Says (Honest w.at d []) (ret (ends (arrived d o))) w
      go none e = gives (refl, here none e (λ z. clash none a_link refl z))
      go (some a_dir) e = gives (refl, here (some a_dir) e (λ z. let y : ◌≡◌ {A = ℕ} 0 1 = cc in omega arith))
      go (some aFile) e = gives (refl, here (some aFile) e (λ z. let y : ◌≡◌ {A = ℕ} 0 1 = cc in omega arith))
      go (some a_link) e = gives (refl, sym (append-nil d))
  until-says d (x ∷ r) = asked (go (kind_at w.at d) refl (until-says (d ++ (x ∷ [])) r))
    where
      go : (o : Option Kind) → kind_at w.at d ≡ o → Says (Honest w.at (d ++ (x ∷ [])) r) (until_symlink (d ++ (x ∷ [])) r) w
          → Says (Honest w.at d (x ∷ r)) (onward d (x ∷ r) o) w
      go none e ih = gives (refl, over)
        where
          over : Walks w.at d (x ∷ r) (d ++ (x ∷ r)) none
          over = record {
            all = refl;
            kind = none_on w.files w.at s.tree d (x ∷ r) e;
            no_link = λ z. clash none a_link refl z;
            clear = none_clear w.files w.at s.tree d (x ∷ r) e;
          }
      go (some a_dir) e ih = weaken ih (λ m v h. (h.0, one_more w.at d x r e m h.1))
      go (some aFile) e ih = stops
      go (some a_link) e ih = gives (refl, refl)

  -- the target of a link, or no text
  target_ok_lem : (d : Path) → T (target_ok (text_or (answer (target? d) w)))
  unfolding answer target_of target_ok
  target_ok_lem d = go (look w.at d) refl
    where
      go : (o : Option Node) → look w.at d ≡ o → T (target_ok (text_or (on_some o target_of)))
      go none e = target_none
      go (some (dir m)) e = target_none
      go (some (file i)) e = target_none
      go (some (link m g)) e = (s.tree.nodes d (link m g) e).1

  behind_link-says : (d r : Path) → Says (λ q. T (names_ok (d ++ r)) → T (path_ok q)) (behind_link d r) w
  unfolding behind_link ◌>>◌
  behind_link-says d r =
      then (asks-says (target? d) w) λ g e.
      then (need-says (path_fits (followed (drop_last d) (text_or g) r)) 6 w) λ _ f.
      gives (refl, λ n. path_both (followed (drop_last d) (text_or g) r) (followed-names d (text_or g) r (names_left d r n) (subst (λ x. T (target_ok (text_or x))) e (target_ok_lem d)) (names_right d r n)) f)

  -- what a no-follow lookup of p says, where p is a path that a state may keep
  abbrev Walked-says : Path → Walked → Type 0
  Walked-says p a = T (path_ok p) → Ended w.at a.end

  -- and a lookup that follows last links too
  abbrev Where-says : Path → Where → Type 0
  Where-says p a = T (path_ok p) → Stands w.at a.path a.kind

  ended-says : (p : Path) (ls : List Path) (m : Met) (f : Path → List Name → Prog Walked) → Honest w.at [] p m
      → ((d r : Path) → d ++ r ≡ p → Says (Walked-says p) (f d r) w) → Says (Walked-says p) (ended ls m f) w
  unfolding ended
  ended-says p ls (ends e) f h i = gives (refl, λ n. at_last w.at p n e h)
  ended-says p ls (mid_link d r) f h i = i d r h

  -- a no-follow lookup, with k links before the last name still allowed
  pub no_follow-says : (k : ℕ) (p : Path) (ls : List Path) → Says (Walked-says p) (no_follow k p ls) w
  unfolding no_follow
  no_follow-says zero p ls = then (until-says [] p) λ m h. ended-says p ls m _ h (λ d r e. stops)
  no_follow-says (suc k) p ls =
      then (until-says [] p) λ m h.
      ended-says p ls m _ h λ d r e.
      then (behind_link-says d r) λ q j.
      weaken (no_follow-says k q (ls ++ (d ∷ []))) (λ a v x. (x.0, λ n. x.1 (j (subst (λ (y : Path). T (names_ok y)) (sym e) (path_names p n)))))

  reached-says : (p : Path) (m : End) (ls : List Path) (f : Path → Prog Where) → (T (path_ok p) → Ended w.at m)
      → ((d : Path) → (T (path_ok p) → T (path_ok d)) → Says (Where-says p) (f d) w) → Says (Where-says p) (reached m ls f) w
  unfolding reached
  reached-says p (found d k) ls f h i = gives (refl, h)
  reached-says p (missing d) ls f h i = gives (refl, h)
  reached-says p (last_link d) ls f h i = i d h

  following-says : (b : ℕ) (p : Path) (ls : List Path) → Says (Where-says p) (following b p ls) w
  unfolding following
  following-says zero p ls = then (no_follow-says most_links p ls) λ a h. reached-says p a.end a.links _ h (λ d i. stops)
  following-says (suc b) p ls =
      then (no_follow-says most_links p ls) λ a h.
      reached-says p a.end a.links _ h λ d i.
      then (behind_link-says d []) λ q j.
      weaken (following-says b q (a.links ++ (d ∷ []))) (λ c v x. (x.0, λ n. x.1 (j (rw (append-nil d) (path_names d (i n))))))

  -- the answer of a lookup stands in the tree as it says, or is missing there
  pub lookup-says : (b : ℕ) (p : Path) → Says (Where-says p) (lookup b p) w
  lookup-says b p = following-says b p []
