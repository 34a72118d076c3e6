-- A question that is not left out is answered alike in both worlds.
-- Assumes nothing.
use mathlib.Core.Bool.{Bool, true, false, not, false≢true}
use mathlib.Core.List.{List, [], ◌∷◌, ◌++◌}
use mathlib.Core.Option.{Option, none, some}
use mathlib.Core.Path.{◌≡◌, refl, sym, ap, ◌∙◌}
use Prim.Native.Nat.{ℕ}
use native.Mathlib.Omega.{arith}
use Rattle.text.specs.Utf8.{Bytes}
use Rattle.path.specs.Path.{Name}
use Rattle.model.specs.Tree.{Path, File, Node, Entries, Files, Open, look, file_of, open_of, under, precedes, insert_by, insert, in_order}
use Rattle.model.specs.Prog.{World, Stat, Position, Ask, kind?, stat?, bytes?, target?, list?, bare?, open?, held?, here?, mask?, answer, on_some, node_kind, stat_of, bytes_of, target_of, child, children, is_nil, listing}
use Rattle.model.specs.Operations.{is_some}
use Rattle.model.specs.Fuller.{misses, lacks_one, has_more, excepts_ask}
use Rattle.model.proofs.Entries.{clash, name-dec, look-here, look_past, under_look, Apart, apart_under}
use Rattle.model.proofs.Ordering.{named, named_here, named_past, Names, one_order}
use Rattle.model.proofs.Demand.Over.{at_place, Over, pair-number, lone-number}
use Rattle.model.proofs.Demand.OverEdits.{Likes, dirs, files, both_links, likes, not_missed}
use Rattle.model.proofs.Demand.Places.{in_tree}
use Rattle.std.proofs.lemmas.Bool.{or_parts}

-- ---- what a directory shows

cons-inj : {x y : Name} {p q : Path} → x ∷ p ≡ y ∷ q → x ≡ y
cons-inj e = cc

not_short : {x : Name} → ◌≡◌ {A = Path} [] (x ∷ []) → ⊥
not_short e = let z : ◌≡◌ {A = ℕ} 0 1 = cc in omega arith

not_long : {x y z : Name} {p : Path} → ◌≡◌ {A = Path} (y ∷ z ∷ p) (x ∷ []) → ⊥
not_long e = let z : ◌≡◌ {A = ℕ} 0 1 = cc in omega arith

-- under a name a directory shows what stands at that path
pub children-named : (u : World) (t : Entries) → Apart t → (x : Name) → named (children u t) x ≡ on_some (look t (x ∷ [])) (stat_of u)
unfolding children look named
children-named u [] a x = refl
children-named u ((p, n) ∷ t) a x = go p refl (stat_of u n) refl (children-named u t a.1 x)
  where
    go : (q : Path) → p ≡ q → (o : Option Stat) → stat_of u n ≡ o → named (children u t) x ≡ on_some (look t (x ∷ [])) (stat_of u)
        → named (child q o (children u t)) x ≡ on_some (look ((p, n) ∷ t) (x ∷ [])) (stat_of u)
    go [] e o k ih = ih ∙ ap (λ (z : Option Node). on_some z (stat_of u)) (sym (look_past (p, n) t (x ∷ []) (λ z. not_short (sym e ∙ z))))
    go (y ∷ z ∷ q) e o k ih = ih ∙ ap (λ (d : Option Node). on_some d (stat_of u)) (sym (look_past (p, n) t (x ∷ []) (λ d. not_long (sym e ∙ d))))
    go (y ∷ []) e o k ih = two o k (name-dec y x)
      where
        two : (o : Option Stat) → stat_of u n ≡ o → Dec (y ≡ x) → named (child (y ∷ []) o (children u t)) x ≡ on_some (look ((p, n) ∷ t) (x ∷ [])) (stat_of u)
        two (some s) k (yes d) =
            named_here (y, s) (children u t) x d ∙ sym k
            ∙ ap (λ (z : Option Node). on_some z (stat_of u)) (sym (look-here (p, n) t (x ∷ []) (e ∙ ap (λ (z : Name). z ∷ []) d)))
        two (some s) k (no d) =
            named_past (y, s) (children u t) x d ∙ ih
            ∙ ap (λ (z : Option Node). on_some z (stat_of u)) (sym (look_past (p, n) t (x ∷ []) (λ z. d (cons-inj (sym e ∙ z)))))
        two none k (yes d) =
            ih ∙ ap (λ (z : Option Node). on_some z (stat_of u)) (ap (look t) (ap (λ (z : Name). z ∷ []) (sym d) ∙ sym e) ∙ a.0) ∙ sym k
            ∙ ap (λ (z : Option Node). on_some z (stat_of u)) (sym (look-here (p, n) t (x ∷ []) (e ∙ ap (λ (z : Name). z ∷ []) d)))
        two none k (no d) =
            ih ∙ ap (λ (z : Option Node). on_some z (stat_of u)) (sym (look_past (p, n) t (x ∷ []) (λ z. d (cons-inj (sym e ∙ z)))))

-- each name once
pub children-names : (u : World) (t : Entries) → Apart t → Names (children u t)
unfolding children
children-names u [] a = tt
children-names u ((p, n) ∷ t) a = go p refl (stat_of u n) (children-names u t a.1)
  where
    go : (q : Path) → p ≡ q → (o : Option Stat) → Names (children u t) → Names (child q o (children u t))
    go [] e o ih = ih
    go (y ∷ z ∷ q) e o ih = ih
    go (y ∷ []) e none ih = ih
    go (y ∷ []) e (some s) ih = (children-named u t a.1 y ∙ ap (λ (z : Option Node). on_some z (stat_of u)) (ap (look t) (sym e) ∙ a.0), ih)

-- putting in order changes nothing under a name
place-named : {A : Type 0} (e : Name × A) (l : List (Name × A)) → named l e.0 ≡ none → (x : Name) → named (insert e l) x ≡ named (e ∷ l) x
unfolding insert
place-named e [] n x = refl
place-named e (f ∷ l) n x = go (precedes e.0 f.0) (place-named e l) n
  where
    go : (b : Bool) → (named l e.0 ≡ none → (y : Name) → named (insert e l) y ≡ named (e ∷ l) y) → named (f ∷ l) e.0 ≡ none
        → named (insert_by b e f l (insert e l)) x ≡ named (e ∷ f ∷ l) x
    go true ih k = refl
    go false ih k = apart (name-dec f.0 e.0)
      where
        apart : Dec (f.0 ≡ e.0) → named (f ∷ insert e l) x ≡ named (e ∷ f ∷ l) x
        apart (yes d) = clash (named (f ∷ l) e.0) f.1 k (named_here f l e.0 d)
        apart (no d) = two (name-dec f.0 x) (name-dec e.0 x)
          where
            rest : named (insert e l) x ≡ named (e ∷ l) x
            rest = ih (sym (named_past f l e.0 d) ∙ k) x

            two : Dec (f.0 ≡ x) → Dec (e.0 ≡ x) → named (f ∷ insert e l) x ≡ named (e ∷ f ∷ l) x
            two (yes y) (yes z) = absurd (d (y ∙ sym z))
            two (yes y) (no z) = named_here f (insert e l) x y ∙ sym (named_past e (f ∷ l) x z ∙ named_here f l x y)
            two (no y) (yes z) = named_past f (insert e l) x y ∙ rest ∙ named_here e l x z ∙ sym (named_here e (f ∷ l) x z)
            two (no y) (no z) = named_past f (insert e l) x y ∙ rest ∙ named_past e l x z ∙ sym (named_past e (f ∷ l) x z ∙ named_past f l x y)

-- what is put in order has the same under each name
pub order-named : {A : Type 0} (l : List (Name × A)) → Names l → (x : Name) → named (in_order l) x ≡ named l x
unfolding in_order
order-named [] h x = refl
order-named (e ∷ l) h x = place-named e (in_order l) (order-named l h.1 e.0 ∙ h.0) x ∙ two (order-named l h.1 x) (name-dec e.0 x)
  where
    two : named (in_order l) x ≡ named l x → Dec (e.0 ≡ x) → named (e ∷ in_order l) x ≡ named (e ∷ l) x
    two ih (yes d) = named_here e (in_order l) x d ∙ sym (named_here e l x d)
    two ih (no d) = named_past e (in_order l) x d ∙ ih ∙ sym (named_past e l x d)

-- what the directory p shows under a name
pub shows : (w : World) (p : Path) (x : Name) → Apart w.at → named (children w (under p w.at)) x ≡ on_some (look w.at (p ++ (x ∷ []))) (stat_of w)
shows w p x a = children-named w (under p w.at) (apart_under p w.at a) x ∙ ap (λ (z : Option Node). on_some z (stat_of w)) (under_look p (x ∷ []) w.at)

pub listing-named : (w : World) (p : Path) (x : Name) → Apart w.at → named (listing w p) x ≡ on_some (look w.at (p ++ (x ∷ []))) (stat_of w)
unfolding listing
listing-named w p x a =
    order-named (children w (under p w.at)) (children-names w (under p w.at) (apart_under p w.at a)) x ∙ shows w p x a

-- a name that is shown is not lacking
not_lacking : (w : World) (p : Path) (l : List (Name × Stat)) → lacks_one w p l ≡ false → (x : Name) (s : Stat) → named l x ≡ some s
    → look w.at (p ++ (x ∷ [])) ≡ none → ⊥
unfolding lacks_one named
not_lacking w p [] e x s k n = clash none s refl k
not_lacking w p (f ∷ l) e x s k n = go (or_parts (not (is_some (look w.at (p ++ (f.0 ∷ []))))) (lacks_one w p l) e) (name-dec f.0 x) (not_lacking w p l)
  where
    go : (not (is_some (look w.at (p ++ (f.0 ∷ [])))) ≡ false) × (lacks_one w p l ≡ false) → Dec (f.0 ≡ x) → (lacks_one w p l ≡ false → (x : Name) (s : Stat) → named l x ≡ some s → look w.at (p ++ (x ∷ [])) ≡ none → ⊥) → ⊥
    go o (yes d) ih = false≢true (sym o.0 ∙ ap (λ (z : Option Node). not (is_some z)) (ap (λ (z : Name). look w.at (p ++ (z ∷ []))) d ∙ n))
    go o (no d) ih = ih o.1 x s (sym (named_past f l x d) ∙ k) n

-- ---- all questions

module _ (w v : World) (r : Over w v) where
  -- a fact of the entry at a path, in both
  at_path : {A : Type 0} (f g : Node → Option A) (p : Path)
      → ((n m : Node) → Likes n m → look w.at p ≡ some n → look v.at p ≡ some m → f n ≡ g m)
      → misses w v p ≡ false → on_some (look w.at p) f ≡ on_some (look v.at p) g
  at_path f g p h e = go (look w.at p) refl
    where
      go : (o : Option Node) → look w.at p ≡ o → on_some o f ≡ on_some (look v.at p) g
      go none k = sym (ap (λ (z : Option Node). on_some z g) (not_missed w v p e k))
      go (some n) k =
          let q = r.has (in_tree p) n k in
          h n q.0 (likes n q.0 q.2) k q.1 ∙ sym (ap (λ (z : Option Node). on_some z g) q.1)

  kind-alike : {n m : Node} → Likes n m → some (node_kind n) ≡ some (node_kind m)
  unfolding node_kind
  kind-alike (dirs a) = refl
  kind-alike (files i j) = refl
  kind-alike (both_links a s) = refl

  target-alike : {n m : Node} → Likes n m → target_of n ≡ target_of m
  unfolding target_of
  target-alike (dirs a) = refl
  target-alike (files i j) = refl
  target-alike (both_links a s) = refl

  stat-alike : (p : Path) {n m : Node} → Likes n m → look w.at p ≡ some n → look v.at p ≡ some m → stat_of w n ≡ stat_of v m
  unfolding stat_of
  stat-alike p (dirs a) x y = refl
  stat-alike p (files i j) x y = let h = r.alike i j (at_place (in_tree p) x y) in rw (h.1, h.2)
  stat-alike p (both_links a s) x y = refl

  bytes-alike : (p : Path) {n m : Node} → Likes n m → look w.at p ≡ some n → look v.at p ≡ some m → bytes_of w n ≡ bytes_of v m
  unfolding bytes_of
  bytes-alike p (dirs a) x y = refl
  bytes-alike p (files i j) x y = let h = r.alike i j (at_place (in_tree p) x y) in rw (h.1, h.2)
  bytes-alike p (both_links a s) x y = refl

  -- position and kept path of a number
  pub number-asked : (n : ℕ) → answer (open? n) w ≡ answer (open? n) v
  unfolding answer
  number-asked n = go (open_of w.opens n) refl
    where
      f : Open → Option Position
      f o = some (record { pos = o.pos; kept = o.kept })

      go : (o : Option Open) → open_of w.opens n ≡ o → on_some o f ≡ on_some (open_of v.opens n) f
      go none k = sym (ap (λ (z : Option Open). on_some z f) (lone-number w v r n k))
      go (some o) k =
          let h = pair-number w v r n o k in
          let x : o.pos ≡ h.0.pos = h.2.0 in
          let y : o.kept ≡ h.0.kept = h.2.1 in
          ap some (λ i. record { pos = x i; kept = y i }) ∙ sym (ap (λ (z : Option Open). on_some z f) h.1)

  module _ (a : Apart w.at) (b : Apart v.at) where
    list-alike : (p : Path) → has_more w v p ≡ false → listing w p ≡ listing v p
    unfolding listing has_more
    list-alike p e =
        one_order (children w (under p w.at)) (children v (under p v.at))
        (children-names w (under p w.at) (apart_under p w.at a)) (children-names v (under p v.at) (apart_under p v.at b))
        (λ x. shows w p x a ∙ two x (look w.at (p ++ (x ∷ []))) refl ∙ sym (shows v p x b))
      where
        none-shown : (x : Name) → look w.at (p ++ (x ∷ [])) ≡ none → (o : Option Stat) → on_some (look v.at (p ++ (x ∷ []))) (stat_of v) ≡ o → none ≡ o
        none-shown x k none z = refl
        none-shown x k (some s) z = absurd (not_lacking w p (listing v p) e x s (listing-named v p x b ∙ z) k)

        two : (x : Name) → (o : Option Node) → look w.at (p ++ (x ∷ [])) ≡ o
            → on_some (look w.at (p ++ (x ∷ []))) (stat_of w) ≡ on_some (look v.at (p ++ (x ∷ []))) (stat_of v)
        two x none k = ap (λ (z : Option Node). on_some z (stat_of w)) k ∙ none-shown x k _ refl
        two x (some n) k =
            let q = r.has (in_tree (p ++ (x ∷ []))) n k in
            ap (λ (z : Option Node). on_some z (stat_of w)) k ∙ stat-alike (p ++ (x ∷ [])) (likes n q.0 q.2) k q.1
            ∙ sym (ap (λ (z : Option Node). on_some z (stat_of v)) q.1)

    pub asked : w.here ≡ v.here → w.mask ≡ v.mask → (q : Ask) → excepts_ask q w v ≡ false → answer q w ≡ answer q v
    unfolding answer excepts_ask
    asked h m (kind? p) e = at_path _ _ p (λ n m l x y. kind-alike l) e
    asked h m (stat? p) e = at_path _ _ p (λ n m l x y. stat-alike p l x y) e
    asked h m (bytes? p) e = at_path _ _ p (λ n m l x y. bytes-alike p l x y) e
    asked h m (target? p) e = at_path _ _ p (λ n m l x y. target-alike l) e
    asked h m (list? p) e = list-alike p e
    asked h m (bare? p) e = ap is_nil (list-alike p e)
    asked h m (open? n) e = number-asked n
    asked h m (held? n) e = go (open_of w.opens n) refl
      where
        f : Files → Open → Option Bytes
        f fs o = on_some (file_of fs o.id) (λ g. some g.bytes)

        go : (o : Option Open) → open_of w.opens n ≡ o → on_some o (f w.files) ≡ on_some (open_of v.opens n) (f v.files)
        go none k = sym (ap (λ (z : Option Open). on_some z (f v.files)) (lone-number w v r n k))
        go (some o) k =
            let h = pair-number w v r n o k in
            let g = r.alike o.id h.0.id h.3 in
            ap (λ (z : Option File). on_some z (λ d. some d.bytes)) (g.1 ∙ sym g.2) ∙ sym (ap (λ (z : Option Open). on_some z (f v.files)) h.1)
    asked h m here? e = h
    asked h m mask? e = m
