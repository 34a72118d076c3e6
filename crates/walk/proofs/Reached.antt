-- A walk from the root, name by name: the first bytes of the text lead to the entry at a spot, and the model's walk goes on from its path.
-- The spot's kind says how: a file or a link ends the walk before a name, a directory leads to the next name or to none.
-- Assumes nothing.
use mathlib.Core.List.{List, [], ◌∷◌, ◌++◌, drop_last, append-nil}
use mathlib.Core.Option.{Option, none, some}
use mathlib.Core.Path.{◌≡◌, refl, sym, ap, ◌∙◌, subst}
use Prim.Native.Nat.{ℕ, ◌+◌, ◌≤◌, ◌<◌}
use native.Mathlib.Omega.{arith}
use lib.ListN.{length, take, drop, get_or, length-drop}
use Rattle.std.specs.Prelude.{Ok, Err}
use Rattle.text.specs.Utf8.{Bytes}
use Rattle.path.specs.Path.{Name, names, body}
use Rattle.path.specs.Backward.{part}
use Rattle.path.specs.Answer.{WholeIs}
use Rattle.path.proofs.Reading.{drop_last-snoc}
use Rattle.path.proofs.Walking.{Cut, Next, cut_none, cut-before, cut-behind, cut-end, cut-slash, cut-next}
use Rattle.model.specs.Refusals.{not_directory}
use Rattle.model.specs.Tree.{Path}
use Rattle.model.specs.Prog.{World, Kind, a_dir, aFile, a_link, kind?, answer, ◌>>=◌, done, refused, run}
use Rattle.model.specs.Lookup.{End, found, missing, ends, mid_link, arrived, onward, until_symlink}
use Rattle.model.specs.Calls.States.{State}
use Rattle.layout.specs.declared.kind.Kind as own
use Rattle.layout.specs.declared.kind.Kind.TheVariants as is
use Rattle.layout.specs.Kinds.{kind_from}
use Rattle.layout.specs.Store.{Store, count}
use Rattle.edit_room.specs.Extents.{trim}
use Rattle.ask_find.specs.declared.Gap.{Gap}
use Rattle.ask_find.specs.declared.Spot.{Spot}
use Rattle.ask_find.specs.Spots.{Vacant}
use Rattle.refusal.specs.declared.Refusal.TheVariants.{NotDirectory}
use Rattle.store.specs.Shows.{says, Stands, There}
use Rattle.walk.specs.declared.End.TheVariants.{Found, Missing, LastLink}
use Rattle.walk.specs.declared.Met.TheVariants.{Ends, MidLink}
use Rattle.walk.specs.Meets.{Plain, LinkAt, the_root, a_name, Meets}

-- ---- the model's walk, by what stands at its path

module _ (w : World) (d : Path) where
  until_none : (r : List Name) → answer (kind? d) w ≡ none → run (until_symlink d r) w ≡ done (ends (missing (d ++ r))) w
  unfolding until_symlink run ◌>>=◌ onward arrived
  until_none [] e = ap (λ (o : Option Kind). done (ends (arrived d o)) w) e ∙ ap (λ (p : Path). done (ends (missing p)) w) (sym (append-nil d))
  until_none (x ∷ r) e = ap (λ (o : Option Kind). run (onward d (x ∷ r) o) w) e

  until_end : (k : Kind) → answer (kind? d) w ≡ some k → run (until_symlink d []) w ≡ done (ends (arrived d (some k))) w
  unfolding until_symlink run ◌>>=◌ onward
  until_end k e = ap (λ (o : Option Kind). done (ends (arrived d o)) w) e

  until-dir : (x : Name) (r : List Name) → answer (kind? d) w ≡ some a_dir → run (until_symlink d (x ∷ r)) w ≡ run (until_symlink (d ++ (x ∷ [])) r) w
  unfolding until_symlink run ◌>>=◌ onward
  until-dir x r e = ap (λ (o : Option Kind). run (onward d (x ∷ r) o) w) e

  until-file : (x : Name) (r : List Name) → answer (kind? d) w ≡ some aFile → run (until_symlink d (x ∷ r)) w ≡ refused not_directory
  unfolding until_symlink run ◌>>=◌ onward
  until-file x r e = ap (λ (o : Option Kind). run (onward d (x ∷ r) o) w) e

  until-link : (x : Name) (r : List Name) → answer (kind? d) w ≡ some a_link → run (until_symlink d (x ∷ r)) w ≡ done (mid_link d (x ∷ r)) w
  unfolding until_symlink run ◌>>=◌ onward
  until-link x r e = ap (λ (o : Option Kind). run (onward d (x ∷ r) o) w) e

-- one that is no link's is found
found-kind : (d : Path) (k : own.Kind) → (k ≡ is.Link → ⊥) → arrived d (some (kind_from k)) ≡ found d (kind_from k)
unfolding arrived
found-kind d is.Directory n = refl
found-kind d is.File n = refl
found-kind d is.Link n = absurd (n refl)

-- ---- the walk over the store

-- the first e bytes lead to the entry at the spot; the first u lead to its directory
pub record Reached (st : Store) (s : State) (w : World) (text : Bytes) (spot : Spot) (u e : ℕ) : Type 0 where
  pub here : Path
  pub rest : List Name
  pub there : There st s w here spot
  pub cut : Cut text e here rest
  pub up : u ≤ e
  pub fits : e ≤ length text
  pub dir : take u text ≡ body (drop_last here)
  pub same : run (until_symlink [] (names text)) w ≡ run (until_symlink here rest) w

module _ {st : Store} {s : State} {w : World} {text : Bytes} where
  pub no_root : {h : ℕ} (g : Gap) → count st ≡ 0 → answer (kind? []) w ≡ none → Meets st s w h text (Ok (Ends (Missing g 0)))
  no_root g z e = record { answer = until_none w [] (names text) e; place = the_root refl z e }

  pub at-root : (spot : Spot) → Plain text → There st s w [] spot → Reached st s w text spot 0 0
  unfolding body
  at-root spot p t =
      record {
        here = [];
        rest = names text;
        there = t;
        cut = cut_none text p;
        up = omega arith;
        fits = omega arith;
        dir = refl;
        same = refl;
      }

  module _ {spot : Spot} {u e : ℕ} (r : Reached st s w text spot u e) where
    abbrev kind : Option Kind
    kind = answer (kind? r.here) w

    -- what is told of the kind at the spot in the state
    abbrev Told : Kind → Type 0
    Told m = (p : Path) → Stands st spot p → says (kind? p) s ≡ some m

    -- is so in the world
    pub kind-told : (m : Kind) → Told m → kind ≡ some m
    kind-told m f = r.there.kind ∙ f r.here r.there.at

    linked : kind ≡ some a_link → LinkAt st s w text spot u e
    linked k =
        let b = cut-before text e r.here r.rest r.cut in
        record {
          there = subst (λ (d : Path). There st s w d spot) (sym b) r.there;
          link = ap (λ (d : Path). answer (kind? d) w) b ∙ k;
          up = r.up;
          fits = r.fits;
          dir = r.dir ∙ ap (λ (d : Path). body (drop_last d)) (sym b);
          rest = r.cut.there ∙ ap body (sym (cut-behind text e r.here r.rest r.cut));
        }

    -- at the end of the path
    module _ (l : length text ≤ e) where
      all : names text ≡ r.here
      all = r.cut.whole ∙ ap (λ (x : List Name). r.here ++ x) (cut-end text e r.here r.rest r.cut l) ∙ append-nil r.here

      at-end : (k : Kind) → kind ≡ some k → run (until_symlink [] (names text)) w ≡ done (ends (arrived (names text) (some k))) w
      at-end k z =
          r.same ∙ ap (λ (x : List Name). run (until_symlink r.here x) w) (cut-end text e r.here r.rest r.cut l) ∙ until_end w r.here k z
          ∙ ap (λ (d : Path). done (ends (arrived d (some k))) w) (sym all)

      pub at-last-link : {h : ℕ} → Told a_link → Meets st s w h text (Ok (Ends (LastLink spot u)))
      unfolding arrived
      at-last-link f =
          let k = kind-told a_link f in
          record { answer = at-end a_link k; place = subst (LinkAt st s w text spot u) (omega (arith, r.fits, l)) (linked k) }

      pub at_entry : {h : ℕ} (k : own.Kind) → (k ≡ is.Link → ⊥) → Told (kind_from k) → Meets st s w h text (Ok (Ends (Found spot k)))
      at_entry k g f =
          let z = kind-told (kind_from k) f in
          record {
            answer = at-end (kind_from k) z ∙ ap (λ (x : End). done (ends x) w) (found-kind (names text) k g);
            place = (subst (λ (d : Path). There st s w d spot) (sym all) r.there, ap (λ (d : Path). answer (kind? d) w) all ∙ z);
          }

    -- before a name
    module _ (l : e < length text) where
      pub at-slash : get_or text e 0 ≡ 47
      at-slash = cut-slash text e r.here r.rest r.cut l

      first-name : (x : List Name) → r.rest ≡ x → (n : Name) × (m : List Name) × (r.rest ≡ n ∷ m)
      first-name [] z = absurd (unfold body in omega (arith, l, length-drop e text, ap length (r.cut.there ∙ ap body z)))
      first-name (n ∷ m) z = (n, m, z)

      -- at what is no directory
      pub at-file : {h : ℕ} → Told aFile → Meets st s w h text (Err NotDirectory)
      at-file t =
          let f = first-name r.rest refl in
          record { answer = r.same ∙ ap (λ (x : List Name). run (until_symlink r.here x) w) f.2 ∙ until-file w r.here f.0 f.1 (kind-told aFile t); place = tt }

      pub at-link : {h : ℕ} → Told a_link → Meets st s w h text (Ok (MidLink (record { spot = spot; dir = u; rest = e })))
      at-link t =
          let k = kind-told a_link t in
          let f = first-name r.rest refl in
          record {
            answer = r.same ∙ ap (λ (x : List Name). run (until_symlink r.here x) w) f.2 ∙ until-link w r.here f.0 f.1 k
                ∙ ap (λ (x : List Name). done (mid_link r.here x) w) (sym f.2 ∙ sym (cut-behind text e r.here r.rest r.cut))
                ∙ ap (λ (d : Path). done (mid_link d (names (drop e text))) w) (sym (cut-before text e r.here r.rest r.cut));
            place = linked k;
          }

      -- at a directory: the name ends at b
      module _ (b : ℕ) (q : WholeIs text (e + 1) b) (k : kind ≡ some a_dir) where
        abbrev nx : Next text e r.here r.rest r.cut b
        nx = cut-next text e r.here r.rest r.cut l b q

        onto : run (until_symlink [] (names text)) w ≡ run (until_symlink (r.here ++ (nx.name ∷ [])) nx.more) w
        onto = r.same ∙ ap (λ (x : List Name). run (until_symlink r.here x) w) nx.rest ∙ until-dir w r.here nx.name nx.more k

        pub at-gone : {h : ℕ} (g : Gap) → answer (kind? (r.here ++ (part (e + 1) b text ∷ []))) w ≡ none → Vacant (trim st) h r.here (part (e + 1) b text) g
            → Meets st s w h text (Ok (Ends (Missing g e)))
        at-gone {h} g z v =
            let y : answer (kind? (r.here ++ (nx.name ∷ []))) w ≡ none = ap (λ (n : Name). answer (kind? (r.here ++ (n ∷ []))) w) (sym nx.is) ∙ z in
            record {
              answer = onto ∙ until_none w (r.here ++ (nx.name ∷ [])) nx.more y ∙ ap (λ (p : Path). done (ends (missing p)) w) (sym nx.cut.whole);
              place =
                  a_name r.here nx.name nx.more (r.cut.whole ∙ ap (λ (x : List Name). r.here ++ x) nx.rest) r.cut.here k y
                  (subst (λ (n : Name). Vacant (trim st) h r.here n g) nx.is v);
            }

        pub at_next : (to : Spot) → There st s w (r.here ++ (part (e + 1) b text ∷ [])) to → Reached st s w text to e b
        at_next to t =
            record {
              here = r.here ++ (nx.name ∷ []);
              rest = nx.more;
              there = subst (λ (n : Name). There st s w (r.here ++ (n ∷ [])) to) nx.is t;
              cut = nx.cut;
              up = omega (arith, q.piece.fits);
              fits = q.fits;
              dir = r.cut.here ∙ ap body (sym (drop_last-snoc r.here nx.name));
              same = onto;
            }
