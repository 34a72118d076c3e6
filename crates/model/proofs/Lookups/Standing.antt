-- Where the lookup of a path found something, the directory of its last name is found too, and an entry of that name stands in
-- it: the walk without the last name is the same walk, one name shorter. So rename finds the old entry and its directory.
-- Assumes nothing.
use mathlib.Core.List.{List, [], ◌∷◌, ◌++◌, append_assoc}
use mathlib.Core.Logic.{inr}
use mathlib.Core.Option.{Option, none, some}
use mathlib.Core.Path.{◌≡◌, refl, sym, ap, ◌∙◌}
use Prim.Native.Nat.{ℕ, ◌≤◌}
use Rattle.path.specs.Path.{Name}
use Rattle.model.specs.Tree.{Path, Node, dir, file, link, look, links_in}
use Rattle.model.specs.Prog.{World, Kind, a_dir, aFile, a_link, node_kind, ret, ◌>>=◌, ◌>>◌, Out, done, refused, run}
use Rattle.model.specs.Lookup.{End, found, missing, last_link, Met, ends, mid_link, arrived, onward, until_symlink, find, Walked, most_links, Where, reached, lookup}
use Rattle.model.specs.Operations as O
use Rattle.model.proofs.Entries.{clash}
use Rattle.model.proofs.Lookups.Pure.{no_answer, same_answer, bind-run, chain, reach}
use Rattle.model.proofs.Lookups.Beside.{kind_in, until-step, until_end}
use Rattle.model.proofs.Lookups.Counting.{Goes, goes-met, following_first}
use Rattle.model.proofs.Lookups.Landing.{Lands, parent-lands}
use Rattle.model.proofs.Refusals.Rename.{parted_is}

-- ---- one name more

-- how a walk with one name more ends, by where the walk without it did
abbrev whole : World → Name → Met → Out Met
whole w x (ends (found d a_dir)) = run (until_symlink (d ++ (x ∷ [])) []) w
whole w x (ends (found d aFile)) = refused 9
whole w x (ends (found d a_link)) = refused 9
whole w x (ends (missing d)) = done (ends (missing (d ++ (x ∷ [])))) w
whole w x (ends (last_link d)) = done (mid_link d (x ∷ [])) w
whole w x (mid_link d r) = done (mid_link d (r ++ (x ∷ []))) w

module _ (w : World) (x : Name) where
  -- a walk and the same with one name more
  one_more : (d : Path) (r : List Name) (o : Met) → run (until_symlink d r) w ≡ done o w
      → run (until_symlink d (r ++ (x ∷ []))) w ≡ whole w x o
  unfolding arrived until_symlink onward run ◌>>=◌ node_kind
  one_more d [] o h = at (look w.at d) refl ∙ ap (whole w x) (same_answer (sym (until_end w d refl) ∙ h))
    where
      at : (n : Option Node) → look w.at d ≡ n → run (until_symlink d (x ∷ [])) w ≡ whole w x (ends (arrived d (kind_in n)))
      at none l = until-step w d x [] l
      at (some (dir a)) l = until-step w d x [] l
      at (some (file j)) l = until-step w d x [] l
      at (some (link a s)) l = until-step w d x [] l
  one_more d (y ∷ r) o h = at (look w.at d) refl (sym (until-step w d y r refl) ∙ h) (one_more (d ++ (y ∷ [])) r o)
    where
      at : (n : Option Node) → look w.at d ≡ n → run (onward d (y ∷ r) (kind_in n)) w ≡ done o w
          → (run (until_symlink (d ++ (y ∷ [])) r) w ≡ done o w → run (until_symlink (d ++ (y ∷ [])) (r ++ (x ∷ []))) w ≡ whole w x o)
          → run (until_symlink d (y ∷ (r ++ (x ∷ [])))) w ≡ whole w x o
      at none l e ih =
          until-step w d y (r ++ (x ∷ [])) l ∙ ap (λ (p : Path). done (ends (missing p)) w) (sym (append_assoc d (y ∷ r) (x ∷ [])))
          ∙ ap (whole w x) (same_answer e)
      at (some (dir a)) l e ih = until-step w d y (r ++ (x ∷ [])) l ∙ ih e
      at (some (file j)) l e ih = no_answer e
      at (some (link a s)) l e ih = until-step w d y (r ++ (x ∷ [])) l ∙ ap (whole w x) (same_answer e)

-- ---- the directory of a found entry

-- a directory in which an entry of that name stands
abbrev pub Holds : World → Name → Where → Type 0
Holds w x y = (n : Node) × (y.kind ≡ some a_dir) × (look w.at (y.path ++ (x ∷ [])) ≡ some n)

module _ (w : World) (x : Name) (m : End) (stays : (z : Path) → m ≡ missing z → ⊥) where
  not_gone : (r z : Path) (n : ℕ) → Goes w m (r ++ (x ∷ [])) n → run (until_symlink [] r) w ≡ done (ends (missing z)) w → ⊥
  not_gone r z n g e = stays (z ++ (x ∷ [])) (goes-met (missing (z ++ (x ∷ []))) g (one_more w x [] r (ends (missing z)) e))

  there : (r d : Path) (n : ℕ) → Goes w m (r ++ (x ∷ [])) n → run (until_symlink [] r) w ≡ done (ends (found d a_dir)) w
      → (k : Node) × (look w.at (d ++ (x ∷ [])) ≡ some k)
  unfolding arrived
  there r d n g e = go (look w.at (d ++ (x ∷ []))) refl
    where
      go : (o : Option Node) → look w.at (d ++ (x ∷ [])) ≡ o → (k : Node) × (look w.at (d ++ (x ∷ [])) ≡ some k)
      go none l =
          let p : Path = d ++ (x ∷ []) in
          absurd (stays p (goes-met (missing p) g (one_more w x [] r (ends (found d a_dir)) e ∙ until_end w p l)))
      go (some k) l = (k, l)

  -- its lookup
  holds : (b : ℕ) (r : Path) (n : ℕ) → Goes w m (r ++ (x ∷ [])) n → n ≤ most_links → links_in w.at ≤ b
      → Lands w (Holds w x) (lookup b r)
  holds =
      parent-lands w w m x (λ z. inr refl) (Holds w x) (λ r z n ls g e. absurd (not_gone r z n g e))
      λ r d n ls g e. let t = there r d n g e in (t.0, refl, t.1)

leads-run : (w : World) (b : ℕ) (r : Path) {y : Where} {k : Kind} → run (lookup b r) w ≡ done y w → y.kind ≡ some k
    → run (O.leads b r) w ≡ done (record { path = y.path; kind = k; links = y.links }) w
unfolding O.leads O.must run ◌>>=◌
leads-run w b r {y} {k} e i =
    bind-run (lookup b r) (λ u. O.must u.kind >>= λ k. ret (record { path = u.path; kind = k; links = u.links })) w w e
    ∙ ap (λ (o : Option Kind). run (O.must o >>= λ k. ret (record { path = y.path; kind = k; links = y.links })) w) i

directory-run : (w : World) (b : ℕ) (r : Path) {y : Where} → run (lookup b r) w ≡ done y w → y.kind ≡ some a_dir
    → run (O.directory b r) w ≡ done (record { path = y.path; kind = a_dir; links = y.links }) w
unfolding O.directory O.is_directory run ◌>>=◌ ◌>>◌
directory-run w b r {y} e k = bind-run (O.leads b r) (λ u. O.is_directory u.kind >> ret u) w w (leads-run w b r {y = y} e k)

-- rename's old entry: finding it is not refused, and it stands
pub old-stands : (w : World) (b : ℕ) → links_in w.at ≤ b → (p : Path) {l : O.Parted} {y : Where} {k : Kind}
    → run (O.parted p) w ≡ done l w → run (lookup b p) w ≡ done y w → y.kind ≡ some k
    → (o : Where) × (n : Node) × (run (O.last_entry b p) w ≡ done o w) × (look w.at o.path ≡ some n)
unfolding reached O.last_entry run ◌>>=◌
old-stands w b few p {l} {y} {k} cut_at walk is =
    let a = following_first w b (l.before ++ (l.name ∷ [])) [] (rw (parted_is p w cut_at) at walk) in
    let h = holds w l.name a.0.end (stays a.0 a.2) b l.before a.1.count a.1.goes a.1.few few in (
      _,
      h.holds.0,
      bind-run (O.parted p) (λ l. O.directory b l.before >>= λ d. find d.path l.name >>= λ k. ret (record { path = d.path ++ (l.name ∷ []); kind = k; links = d.links })) w w cut_at
          ∙ bind-run (O.directory b l.before) _ w w (directory-run w b l.before {y = h.found} h.runs h.holds.1),
      h.holds.2,
    )
  where
    stays : (u : Walked) → run (reach b u) w ≡ done y w → (z : Path) → u.end ≡ missing z → ⊥
    stays u e z i =
        let f : run (reached (missing z) u.links (chain b u.links)) w ≡ done y w = rw i at e in
        clash y.kind k (ap (λ (o : Where). o.kind) (sym (same_answer f))) is
