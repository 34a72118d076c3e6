-- No call tells alike states apart, 15 and 16 included, and every edit keeps states alike: each of two worlds has what the other has,
-- so no question is left out in either direction. Contracts of edits chain by this.
-- Assumes nothing.
use mathlib.Core.Bool.{Bool, true, false, ◌&&◌, not}
use mathlib.Core.List.{List, [], ◌∷◌, ◌++◌}
use mathlib.Core.Logic.{◌⊎◌, inl, inr}
use mathlib.Core.Option.{Option, none, some}
use mathlib.Core.Path.{◌≡◌, refl, sym, ap, ap₂, ◌∙◌, subst}
use Prim.Native.Nat.{ℕ, zero, suc}
use native.Mathlib.Omega.{arith}
use lib.Dec.{eqb, leb}
use native.Mathlib.Decide.{ℕ_discrete}
use borrow.Author.Tests.{eq-eqb, ne_eqb}
use Rattle.path.specs.Path.{Name}
use Rattle.model.specs.Tree.{Path, Node, dir, file, link, Entries, look, or_else, same_path, under, precedes, insert_by, insert, in_order, name_length, target_length, contents_length, links_in}
use Rattle.model.specs.Prog.{World, Stat, Ask, kind?, stat?, bytes?, target?, list?, bare?, open?, held?, here?, mask?, Edit, make, create, symlink, change, remove, take, give, opens, close, seek, change_held, go, umask, apply, answer, stat_of, child, children, listing, Prog, ret, stop, ask, edit, Out, done, refused, run}
use Rattle.model.specs.Operations.{Reply, is_some}
use Rattle.model.specs.Calls.{State, Call, entries_used, bytes_used, given_to, screen, program, world_of, state_of, edited, accepted, refusal, Outcome, settle_by, settle, decide_by, perform_with, perform}
use Rattle.model.specs.Rules.{Obeys}
use Rattle.model.specs.Fuller.{shown, misses, lacks_one, has_more, excepts_ask, Fuller}
use Rattle.model.specs.Alike.{same_file, one_file, Alike}
use Rattle.model.specs.Shaped.{Shaped}
use Rattle.model.proofs.Demand.Asking.{asked}
use Rattle.model.proofs.Demand.Bounds.{any_bound}
use Rattle.model.proofs.Demand.Contents.{kept-weigh}
use Rattle.model.proofs.Demand.Calls.{Set, set-edit, joined, more_links, screen-alike}
use Rattle.model.proofs.Entries.{clash, under_look, look_none, look-here}
use Rattle.model.proofs.Demand.Joining.{shaped, shaped_over, shaped-tidy}
use Rattle.model.proofs.Demand.Keeping.{dropped, over_dropped, tidy-dropped, over_swept, tidy-swept, kept-kept}
use Rattle.model.proofs.Demand.Over.{at_place, Over, excepts_edit}
use Rattle.model.proofs.Demand.OverEdits.{Likes, dirs, files, both_links, likes, over_edit}
use Rattle.model.proofs.Demand.Parting.{contents-apart, everything, same_open}
use Rattle.model.proofs.Demand.Places.{in_tree}
use Rattle.model.proofs.Demand.Spacing.{tree_has, total-length, total-names, last_name_lem, root-name, like-target}
use Rattle.model.proofs.Demand.Tidy.{Tidy, tidy-edit}
use Rattle.model.proofs.Demand.Totals.{total_has}
use Rattle.model.proofs.Demand.TwoRuns.{excepts_by, two_runs}
use Rattle.model.proofs.Demand.TwoRuns.{Alike as BothEnd}
use Rattle.model.proofs.Alike.States.{alike-sym, alike-used}

-- ---- two worlds, each with what the other has

pub record Even (w v : World) : Type 0 where
  pub over : Over w v
  pub back : Over v w
  pub tidy : Tidy w
  pub tidy_too : Tidy v
  pub set : Set w v

none_missed : (w v : World) → Over v w → (p : Path) → misses w v p ≡ false
unfolding misses
none_missed w v r p = go (look w.at p) refl (look v.at p) refl
  where
    go : (a : Option Node) → look w.at p ≡ a → (b : Option Node) → look v.at p ≡ b → not (is_some a) && is_some b ≡ false
    go (some n) e b k = refl
    go none e none k = refl
    go none e (some m) k = let h = r.has (in_tree p) m k in clash (look w.at p) h.0 e h.1

-- each name of a listing stands
abbrev Each : (Name → Type 0) → List (Name × Stat) → Type 0
Each P [] = Unit {0}
Each P (e ∷ l) = P e.0 × Each P l

each_map : (P Q : Name → Type 0) → ((x : Name) → P x → Q x) → (l : List (Name × Stat)) → Each P l → Each Q l
each_map P Q f [] h = tt
each_map P Q f (e ∷ l) h = (f e.0 h.0, each_map P Q f l h.1)

abbrev In : Entries → Name → Type 0
In t x = (n : Node) × (look t (x ∷ []) ≡ some n)

still : (e : Path × Node) (t : Entries) (x : Name) → In t x → In (e ∷ t) x
unfolding look
still e t x h = go (same_path e.0 (x ∷ []))
  where
    go : (b : Bool) → (n : Node) × (or_else b e.1 (look t (x ∷ [])) ≡ some n)
    go true = (e.1, refl)
    go false = h

here : (x : Name) (n : Node) (t : Entries) → In ((x ∷ [], n) ∷ t) x
here x n t = (n, look-here (x ∷ [], n) t (x ∷ []) refl)

children_in : (u : World) (t : Entries) → Each (In t) (children u t)
unfolding children
children_in u [] = tt
children_in u ((p, n) ∷ t) = go p refl (stat_of u n) (each_map (In t) (In ((p, n) ∷ t)) (still (p, n) t) (children u t) (children_in u t))
  where
    go : (q : Path) → p ≡ q → (o : Option Stat) → Each (In ((p, n) ∷ t)) (children u t) → Each (In ((p, n) ∷ t)) (child q o (children u t))
    go [] e o ih = ih
    go (y ∷ z ∷ q) e o ih = ih
    go (y ∷ []) e none ih = ih
    go (y ∷ []) e (some s) ih = (subst (λ (q : Path). In ((q, n) ∷ t) y) (sym e) (here y n t), ih)

insert_each : (P : Name → Type 0) (e : Name × Stat) (l : List (Name × Stat)) → P e.0 → Each P l → Each P (insert e l)
unfolding insert
insert_each P e [] x h = (x, tt)
insert_each P e (f ∷ l) x h = go (precedes e.0 f.0) (insert_each P e l x h.1)
  where
    go : (b : Bool) → Each P (insert e l) → Each P (insert_by b e f l (insert e l))
    go true ih = (x, h)
    go false ih = (h.0, ih)

order_each : (P : Name → Type 0) (l : List (Name × Stat)) → Each P l → Each P (in_order l)
unfolding in_order
order_each P [] h = tt
order_each P (e ∷ l) h = insert_each P e (in_order l) h.0 (order_each P l h.1)

none_more : (w v : World) → Over v w → (p : Path) → has_more w v p ≡ false
unfolding has_more listing lacks_one
none_more w v r p =
    go (in_order (children v (under p v.at)))
    (each_map (In (under p v.at)) (λ x. (n : Node) × (look w.at (p ++ (x ∷ [])) ≡ some n))
    (λ x h. let k = r.has (in_tree (p ++ (x ∷ []))) h.0 (sym (under_look p (x ∷ []) v.at) ∙ h.1) in (k.0, k.1))
    (in_order (children v (under p v.at))) (order_each (In (under p v.at)) _ (children_in v (under p v.at))))
  where
    go : (l : List (Name × Stat)) → Each (λ x. (n : Node) × (look w.at (p ++ (x ∷ [])) ≡ some n)) l → lacks_one w p l ≡ false
    go [] h = refl
    go (e ∷ l) h = rw h.0.1 (go l h.1)

pub even-asked : (q : Ask) (w v : World) → Even w v → answer q w ≡ answer q v
unfolding excepts_ask
even-asked q w v e = asked w v e.over e.tidy.tree e.tidy_too.tree e.set.here e.set.mask q (at q)
  where
    at : (q : Ask) → excepts_ask q w v ≡ false
    at (kind? p) = none_missed w v e.back p
    at (stat? p) = none_missed w v e.back p
    at (bytes? p) = none_missed w v e.back p
    at (target? p) = none_missed w v e.back p
    at (list? p) = none_more w v e.back p
    at (bare? p) = none_more w v e.back p
    at (open? n) = refl
    at (held? n) = refl
    at here? = refl
    at mask? = refl

free-edit : (d : Edit) (w v : World) → Over v w → excepts_edit d w v ≡ false
unfolding excepts_edit
free-edit (make p m) w v r = refl
free-edit (create p f) w v r = refl
free-edit (symlink p m s) w v r = refl
free-edit (change p c) w v r = none_missed w v r p
free-edit (remove p) w v r = refl
free-edit (take p) w v r = none_missed w v r p
free-edit (give p) w v r = refl
free-edit (opens n p k) w v r = none_missed w v r p
free-edit (close n) w v r = refl
free-edit (seek n k) w v r = refl
free-edit (change_held n c) w v r = refl
free-edit (go p) w v r = refl
free-edit (umask m) w v r = refl

-- every edit keeps it: contracts of several edits chain
pub even-edit : (d : Edit) (w v : World) → Even w v → Even (apply d w) (apply d v)
even-edit d w v e = record {
  over = over_edit d w v e.over (free-edit d w v e.back);
  back = over_edit d v w e.back (free-edit d v w e.over);
  tidy = tidy-edit d w e.tidy;
  tidy_too = tidy-edit d v e.tidy_too;
  set = set-edit w v e.set d;
}

nothing : {A : Type 0} (p : Prog A) (w v : World) → excepts_by (λ _ _ _. false) (λ _ _ _. false) p w v ≡ false
unfolding excepts_by
nothing (ret a) w v = refl
nothing (stop n) w v = refl
nothing (ask q k) w v = nothing (k (answer q w)) w v
nothing (edit e p) w v = nothing p (apply e w) (apply e v)

pub even-run : {A : Type 0} (p : Prog A) (w v : World) → Even w v → BothEnd Even (run p w) (run p v)
even-run p w v e = two_runs Even (λ _ _ _. false) (λ _ _ _. false) (λ q x y r _. even-asked q x y r) (λ d x y r _. even-edit d x y r) p w v e (nothing p w v)

-- ---- names of one file: pairs are one to one

module _ (w v : World) (r : Over w v) (b : Over v w) where
  -- what stands at a path of the two
  abbrev Here : Path → Type 0
  Here p = ((look w.at p ≡ none) × (look v.at p ≡ none)) ⊎ ((n m : Node) × (look w.at p ≡ some n) × (look v.at p ≡ some m) × Likes n m)

  here_is : (p : Path) → Here p
  here_is p = go (look w.at p) refl (look v.at p) refl
    where
      go : (x : Option Node) → look w.at p ≡ x → (y : Option Node) → look v.at p ≡ y → Here p
      go none e none f = inl (e, f)
      go none e (some m) f = let h = b.has (in_tree p) m f in clash (look w.at p) h.0 e h.1
      go (some n) e y f = let h = r.has (in_tree p) n e in inr (n, h.0, e, h.1, likes n h.0 h.2)

  no_second : (o : Option Node) → same_file o none ≡ false
  no_second none = refl
  no_second (some (dir m)) = refl
  no_second (some (file i)) = refl
  no_second (some (link m t)) = refl

  pair-names : (p q : Path) (i j k l : ℕ) → look w.at p ≡ some (file i) → look v.at p ≡ some (file j)
      → look w.at q ≡ some (file k) → look v.at q ≡ some (file l) → eqb i k ≡ eqb j l
  pair-names p q i j k l x y z t = go (ℕ_discrete i k)
    where
      go : Dec (i ≡ k) → eqb i k ≡ eqb j l
      go (yes e) = eq-eqb i k e ∙ sym (eq-eqb j l (r.second i j l (at_place (in_tree p) x y) (at_place (in_tree q) (z ∙ ap (λ (a : ℕ). some (file a)) (sym e)) t)))
      go (no n) = ne_eqb i k n ∙ sym (ne_eqb j l (λ e. n (r.first i k l (at_place (in_tree p) x (y ∙ ap (λ (a : ℕ). some (file a)) e)) (at_place (in_tree q) z t))))

  same_names : (p q : Path) → same_file (look w.at p) (look w.at q) ≡ same_file (look v.at p) (look v.at q)
  same_names p q = go (here_is p) (here_is q)
    where
      both : {n m c d : Node} → Likes n m → Likes c d → look w.at p ≡ some n → look v.at p ≡ some m → look w.at q ≡ some c → look v.at q ≡ some d
          → same_file (some n) (some c) ≡ same_file (some m) (some d)
      both (dirs a) k x y z t = refl
      both (both_links a s) k x y z t = refl
      both (files i j) (dirs a) x y z t = refl
      both (files i j) (both_links a s) x y z t = refl
      both (files i j) (files k l) x y z t = pair-names p q i j k l x y z t

      go : Here p → Here q → same_file (look w.at p) (look w.at q) ≡ same_file (look v.at p) (look v.at q)
      go (inl h) k = rw (h.0, h.1) refl
      go (inr h) (inl k) = rw (k.0, k.1) (no_second (look w.at p) ∙ sym (no_second (look v.at p)))
      go (inr h) (inr k) = rw (h.2, h.3, k.2, k.3) (both h.4 k.4 h.2 h.3 k.2 k.3)

-- ---- states

pub even-start : (s u : State) → Shaped s → Shaped u → Alike s u → Even (world_of s) (world_of u)
even-start s u os ou h =
    let k = alike-sym s u h in
    record {
      over = shaped_over s u os ou (λ p e x. sym (h.entries p) ∙ x) h.opens;
      back = shaped_over u s ou os (λ p e x. sym (k.entries p) ∙ x) k.opens;
      tidy = shaped-tidy s os;
      tidy_too = shaped-tidy u ou;
      set = record { here = h.current; mask = h.umask };
    }

pub answer-alike : (q : Ask) (s u : State) → Shaped s → Shaped u → Alike s u → answer q (world_of s) ≡ answer q (world_of u)
answer-alike q s u os ou h = even-asked q (world_of s) (world_of u) (even-start s u os ou h)

pub answer-after : (e : Edit) (q : Ask) (s u : State) → Shaped s → Shaped u → Alike s u → answer q (apply e (world_of s)) ≡ answer q (apply e (world_of u))
answer-after e q s u os ou h = even-asked q (apply e (world_of s)) (apply e (world_of u)) (even-edit e (world_of s) (world_of u) (even-start s u os ou h))

module _ (s u : State) (lm : s.most ≡ u.most) (lr : s.room ≡ u.room) (w v : World) (e : Even w v) where
  ow : Over (world_of (state_of s w)) (world_of (state_of u v))
  ow = over_swept (dropped w) (dropped v) look_none look_none (over_dropped w v e.over)

  ob : Over (world_of (state_of u v)) (world_of (state_of s w))
  ob = over_swept (dropped v) (dropped w) look_none look_none (over_dropped v w e.back)

  tw : Tidy (world_of (state_of s w))
  tw = tidy-swept (dropped w) (tidy-dropped w e.tidy)

  tv : Tidy (world_of (state_of u v))
  tv = tidy-swept (dropped v) (tidy-dropped v e.tidy_too)

  same_shown : (p : Path) → shown (state_of s w) p ≡ shown (state_of u v) p
  same_shown p = at (shown (state_of s w) p) refl (shown (state_of u v) p) refl
    where
      at : (a : _) → shown (state_of s w) p ≡ a → (b : _) → shown (state_of u v) p ≡ b → a ≡ b
      at none x none y = refl
      at none x (some b) y = clash (shown (state_of s w) p) b x (everything (state_of u v) (state_of s w) ob tv tw p b y)
      at (some a) x b y = sym (everything (state_of s w) (state_of u v) ow tw tv p a x) ∙ y

  pub even-alike : Alike (state_of s w) (state_of u v)
  unfolding one_file
  even-alike = record {
    entries = same_shown;
    names = same_names w v e.over e.back;
    opens = same_open (state_of s w) (state_of u v) ow tw tv;
    current = e.set.here;
    umask = e.set.mask;
    entry_limit = lm;
    byte_limit = lr;
  }

  weighs : contents_length (state_of s w).files ≡ contents_length (state_of u v).files
  weighs =
      let a = contents-apart (world_of (state_of s w)) (world_of (state_of u v)) ow tw tv in
      let b = contents-apart (world_of (state_of u v)) (world_of (state_of s w)) ob tv tw in
      let c = sym (kept-weigh w.at w.opens (state_of s w).files) ∙ ap contents_length (kept-kept w.at w.opens w.files) in
      let d = sym (kept-weigh v.at v.opens (state_of u v).files) ∙ ap contents_length (kept-kept v.at v.opens v.files) in
      omega (arith, a, b, c, d)

  pub even-used : (entries_used (state_of s w) ≡ entries_used (state_of u v)) × (bytes_used (state_of s w) ≡ bytes_used (state_of u v))
  even-used = (
    omega (
      arith,
      total-length w.at,
      total-length v.at,
      total_has (λ p. 0) (λ n. 1) w.at v.at tw.tree tv.tree (tree_has (λ p. 0) (λ n. 1) refl (λ p x q. refl) (λ n m l. refl) w v e.over),
      total_has (λ p. 0) (λ n. 1) v.at w.at tv.tree tw.tree (tree_has (λ p. 0) (λ n. 1) refl (λ p x q. refl) (λ n m l. refl) v w e.back),
    ),
    omega (
      arith,
      total-names w.at,
      total-names v.at,
      weighs,
      total_has name_length target_length w.at v.at tw.tree tv.tree (tree_has name_length target_length root-name last_name_lem like-target w v e.over),
      total_has name_length target_length v.at w.at tv.tree tw.tree (tree_has name_length target_length root-name last_name_lem like-target v w e.back),
    ),
  )

-- an edit keeps states alike, file numbers apart: so a chain of edits is a chain of facts
pub edited-alike : (e : Edit) (s u : State) → Shaped s → Shaped u → Alike s u → Alike (edited e s) (edited e u)
edited-alike e s u os ou h =
    even-alike s u h.entry_limit h.byte_limit (apply e (world_of s)) (apply e (world_of u)) (even-edit e (world_of s) (world_of u) (even-start s u os ou h))

-- ---- calls

abbrev Twins : Outcome → Outcome → Type 0
Twins a b = (a.result ≡ b.result) × Alike a.after b.after

settle_same : (s u : State) → Alike s u → (x y : Out Reply) → BothEnd Even x y → Twins (settle s x) (settle u y)
unfolding settle
settle_same s u h (refused m) (refused n) e = (ap refusal e, h)
settle_same s u h (refused m) (done b v) e = absurd e
settle_same s u h (done a w) (refused n) e = absurd e
settle_same s u h (done a w) (done b v) e =
    let k = even-used s u h.entry_limit h.byte_limit w v e.1 in
    let x : leb (entries_used (state_of s w)) s.most ≡ leb (entries_used (state_of u v)) u.most = ap₂ leb k.0 h.entry_limit in
    let y : leb (bytes_used (state_of s w)) s.room ≡ leb (bytes_used (state_of u v)) u.room = ap₂ leb k.1 h.byte_limit in
    subst (λ (c : Bool). Twins (settle s (done a w)) (settle_by c (leb (bytes_used (state_of u v)) u.room) u b (state_of u v))) x
    (subst (λ (c : Bool). Twins (settle s (done a w)) (settle_by (leb (entries_used (state_of s w)) s.most) c u b (state_of u v))) y
    (at (leb (entries_used (state_of s w)) s.most) (leb (bytes_used (state_of s w)) s.room)))
  where
    at : (x y : Bool) → Twins (settle_by x y s a (state_of s w)) (settle_by x y u b (state_of u v))
    at false y = (refl, h)
    at true false = (refl, h)
    at true true = (ap accepted e.0, even-alike s u h.entry_limit h.byte_limit w v e.1)

-- no call tells alike states apart, 15 and 16 included
pub perform-alike : (c : Call) (s u : State) → Obeys s → Obeys u → Alike s u → Twins (perform c s) (perform c u)
unfolding perform perform_with
perform-alike c s u os ou h =
    let z = alike-used s u (shaped s os) (shaped u ou) h in
    let f : Fuller s u = record { current = h.current; umask = h.umask; opens = h.opens; everything = λ p e x. sym (h.entries p) ∙ x; entries = omega (arith, z.0, h.entry_limit); bytes = omega (arith, z.1, h.byte_limit) } in
    let j = joined s u os ou f in
    let b : run (program (links_in s.tree) c.op) (world_of s) ≡ run (program (links_in u.tree) c.op) (world_of s) =
    any_bound c.op (links_in s.tree) (links_in u.tree) (world_of s) (omega arith) (more_links s u j) in
    let t = even-run (program (links_in u.tree) c.op) (world_of s) (world_of u) (even-start s u (shaped s os) (shaped u ou) h) in
    rw (← (screen-alike c.work (given_to c.op) s u j), b)
    (at (screen c.work (given_to c.op) s.opens) (settle_same s u h (run (program (links_in u.tree) c.op) (world_of s)) (run (program (links_in u.tree) c.op) (world_of u)) t))
  where
    at : (n : ℕ) {x y : Outcome} → Twins x y → Twins (decide_by n s x) (decide_by n u y)
    at zero k = k
    at (suc n) k = (refl, h)
