-- Laws of paths for the layers above: a result of normalising normalises to itself, its names are proper, of valid text and
-- of a given length where what it was made from is, and the text of a path reads back as its names.
-- Assumes nothing.
use mathlib.Core.Bool.{Bool, true, false, ◌&&◌, cond, not}
use mathlib.Core.List.{List, [], ◌∷◌, ◌++◌, drop_last, append-nil}
use mathlib.Core.Path.{◌≡◌, refl, sym, ap, ◌∙◌, subst}
use Prim.Native.Nat.{ℕ, suc, ◌+◌, ◌≤◌}
use native.Mathlib.Omega.{arith}
use lib.Dec.{T, eqb, leb, eqb→eq, eqb_refl, leb→le, le→leb, lit≤, lit<, T_not}
use lib.ListN.{length, length-append}
use lib.Seq.{append_snoc}
use borrow.Author.Tests.{ne_eqb}
use Rattle.text.specs.Utf8.{Bytes, text}
use Rattle.text.proofs.Laws.{text_none, text-append, text-cut, text-ascii}
use Rattle.path.specs.Path.{Name, same, pieces, vanishes, is_up, keep, names, norm, normal, is_absolute, from, absolute, body, render, all_short, lengths_ok, path_fits, no_slash, proper, all_proper}
use Rattle.path.proofs.Cutting.{NoSlash, pieces_no_slash}
use Rattle.path.proofs.Dropping.{pieces-body, body-pieces}
use Rattle.path.proofs.Every.{Every, every_append, every-drop_last, every-keep, every-norm}

-- ---- tests

pub and_left : (a b : Bool) → T (a && b) → T a
and_left true b t = tt
and_left false true t = t
and_left false false t = t

pub and_right : (a b : Bool) → T (a && b) → T b
and_right true b t = t
and_right false true t = tt
and_right false false t = t

pub and_both : (a b : Bool) → T a → T b → T (a && b)
and_both true b s t = t
and_both false b s t = absurd s

-- byte strings that test equal are equal, and every one tests equal to itself
pub same_equal : (s t : Bytes) → T (same s t) → s ≡ t
unfolding same
same_equal [] [] h = refl
same_equal [] (b ∷ t) h = absurd h
same_equal (a ∷ s) [] h = absurd h
same_equal (a ∷ s) (b ∷ t) h =
    let e : a ≡ b = eqb→eq a b (and_left (eqb a b) (same s t) h) in
    let r : s ≡ t = same_equal s t (and_right (eqb a b) (same s t) h) in
    cc

pub same_refl : (s : Bytes) → T (same s s)
unfolding same
same_refl [] = tt
same_refl (a ∷ s) = and_both (eqb a a) (same s s) (eqb_refl a) (same_refl s)

-- ---- proper names

pub no_slash_lem : (n : Name) → NoSlash n → T (no_slash n)
unfolding no_slash
no_slash_lem [] h = tt
no_slash_lem (b ∷ n) h = and_both (not (eqb b 47)) (no_slash n) (subst (λ (t : Bool). T (not t)) (sym (ne_eqb b 47 h.0)) tt) (no_slash_lem n h.1)

pub slash_none : (n : Name) → T (no_slash n) → NoSlash n
unfolding no_slash
slash_none [] h = tt
slash_none (b ∷ n) h = (
  λ e. T_not (eqb b 47) (and_left (not (eqb b 47)) (no_slash n) h) (subst (λ (x : ℕ). T (eqb x 47)) (sym e) tt),
  slash_none n (and_right (not (eqb b 47)) (no_slash n) h),
)

-- a name as the raw reading gives it: it does not vanish and holds no slash; it may be `..`
pub record Shown (n : Name) : Type 0 where
  pub stays : T (not (vanishes n))
  pub plain : NoSlash n

pub proper-shown : (n : Name) → T (proper n) → Shown n
unfolding proper
proper-shown n h =
    let r : T (not (is_up n) && no_slash n) = and_right (not (vanishes n)) (not (is_up n) && no_slash n) h in
    record {
      stays = and_left (not (vanishes n)) (not (is_up n) && no_slash n) h;
      plain = slash_none n (and_right (not (is_up n)) (no_slash n) r);
    }

pub proper_not_up : (n : Name) → T (proper n) → T (not (is_up n))
unfolding proper
proper_not_up n h = and_left (not (is_up n)) (no_slash n) (and_right (not (vanishes n)) (not (is_up n) && no_slash n) h)

pub shown-proper : (n : Name) → Shown n → T (not (is_up n)) → T (proper n)
unfolding proper
shown-proper n h u = and_both (not (vanishes n)) (not (is_up n) && no_slash n) h.stays (and_both (not (is_up n)) (no_slash n) u (no_slash_lem n h.plain))

pub all_every : (ns : List Name) → T (all_proper ns) → Every (λ n. T (proper n)) ns
unfolding all_proper
all_every [] h = tt
all_every (n ∷ ns) h = (and_left (proper n) (all_proper ns) h, all_every ns (and_right (proper n) (all_proper ns) h))

pub every_all : (ns : List Name) → Every (λ n. T (proper n)) ns → T (all_proper ns)
unfolding all_proper
every_all [] h = tt
every_all (n ∷ ns) h = and_both (proper n) (all_proper ns) h.0 (every_all ns h.1)

pub every_map : {P Q : Name → Type 0} → ((n : Name) → P n → Q n) → (ns : List Name) → Every P ns → Every Q ns
every_map f [] h = tt
every_map f (n ∷ ns) h = (f n h.0, every_map f ns h.1)

-- the names of a text, `..` among them
keep-shown : (ns : List Name) → Every NoSlash ns → Every Shown (keep ns)
unfolding keep
keep-shown [] h = tt
keep-shown (n ∷ ns) h = every_append Shown (cond (vanishes n) [] (n ∷ [])) (keep ns) (go (vanishes n) refl) (keep-shown ns h.1)
  where
    go : (t : Bool) → vanishes n ≡ t → Every Shown (cond t [] (n ∷ []))
    go true e = tt
    go false e = (record { stays = subst (λ (t : Bool). T (not t)) (sym e) tt; plain = h.0 }, tt)

pub names-shown : (s : Bytes) → Every Shown (names s)
unfolding names
names-shown s = keep-shown (pieces s) (pieces_no_slash s)

-- "names are never empty, `.`, `..`, nor hold `/`": the names of a path behind a directory of proper names
pub norm-proper : (base ns : List Name) → Every (λ n. T (proper n)) base → Every Shown ns → Every (λ n. T (proper n)) (norm base ns)
unfolding norm
norm-proper base [] b h = b
norm-proper base (n ∷ ns) b h = norm-proper (cond (is_up n) (drop_last base) (base ++ (n ∷ []))) ns (go (is_up n) refl) h.1
  where
    go : (t : Bool) → is_up n ≡ t → Every (λ m. T (proper m)) (cond t (drop_last base) (base ++ (n ∷ [])))
    go true e = every-drop_last (λ m. T (proper m)) base b
    go false e =
        every_append (λ m. T (proper m)) base (n ∷ []) b
        (shown-proper n h.0 (subst (λ (t : Bool). T (not t)) (sym e) tt), tt)

pub absolute-proper : (dir : List Name) (s : Bytes) → T (all_proper dir) → T (all_proper (absolute dir s))
unfolding absolute from
absolute-proper dir s h = every_all (norm (cond (is_absolute s) [] dir) (names s)) (norm-proper (cond (is_absolute s) [] dir) (names s) (go (is_absolute s)) (names-shown s))
  where
    go : (t : Bool) → Every (λ n. T (proper n)) (cond t [] dir)
    go true = tt
    go false = all_every dir h

pub normal-proper : (s : Bytes) → T (all_proper (normal s))
unfolding normal
normal-proper s = every_all (norm [] (names s)) (norm-proper [] (names s) tt (names-shown s))

-- ---- reading back

keep_all : (ns : List Name) → Every Shown ns → keep ns ≡ ns
unfolding keep
keep_all [] h = refl
keep_all (n ∷ ns) h = go (vanishes n) h.0.stays (keep_all ns h.1)
  where
    go : (t : Bool) → T (not t) → keep ns ≡ ns → cond t [] (n ∷ []) ++ keep ns ≡ n ∷ ns
    go true u e = absurd u
    go false u e = ap (λ (x : List Name). n ∷ x) e

-- the text of a path reads back as its names
pub names-body : (ns : List Name) → Every Shown ns → names (body ns) ≡ ns
unfolding names keep vanishes same
names-body ns h = ap keep (pieces-body ns (every_map (λ n w. w.plain) ns h)) ∙ keep_all ns h

norm_all : (base ns : List Name) → Every (λ n. T (proper n)) ns → norm base ns ≡ base ++ ns
unfolding norm
norm_all base [] h = sym (append-nil base)
norm_all base (n ∷ ns) h =
    go (is_up n) (proper_not_up n h.0) (norm_all (base ++ (n ∷ [])) ns h.1 ∙ append_snoc base n ns)
  where
    go : (t : Bool) → T (not t) → norm (base ++ (n ∷ [])) ns ≡ base ++ (n ∷ ns) → norm (cond t (drop_last base) (base ++ (n ∷ []))) ns ≡ base ++ (n ∷ ns)
    go true u e = absurd u
    go false u e = e

-- "a result of normalising normalises to itself"
pub settled : (ns : List Name) → T (all_proper ns) → normal (body ns) ≡ ns
unfolding normal
settled ns h =
    let e = all_every ns h in
    ap (λ (x : List Name). norm [] x) (names-body ns (every_map proper-shown ns e)) ∙ norm_all [] ns e

-- and meets `follow`'s precondition
pub settled-text : (ns : List Name) → T (all_proper ns) → body (names (body ns)) ≡ body ns
settled-text ns h = ap body (names-body ns (every_map proper-shown ns (all_every ns h)))

-- made absolute again, as it is answered, it stays, whatever the current directory
pub render-settled : (dir ns : List Name) → T (all_proper ns) → absolute dir (render ns) ≡ ns
unfolding absolute from is_absolute render body names pieces keep vanishes same norm
render-settled dir [] h = refl
render-settled dir (n ∷ ns) h = unfold normal in settled (n ∷ ns) h

-- ---- lengths

pub body-length : (n : Name) (ns : List Name) → length (body (n ∷ ns)) ≡ suc (length n + length (body ns))
unfolding body
body-length n ns = ap suc (length-append n (body ns))

-- refusal 6 may be asked of the one text or of the other
pub render-fits : (ns : List Name) → leb (length (render ns)) 1024 ≡ path_fits ns
unfolding render path_fits body
render-fits [] = refl
render-fits (n ∷ ns) = refl

-- a name of a path that fits fits
pub name-fits : (n : Name) (ns : List Name) → T (path_fits (n ∷ ns)) → T (path_fits ns)
unfolding path_fits
name-fits n ns h = le→leb (length (body ns)) 1024 (omega (arith, leb→le (length (body (n ∷ ns))) 1024 h, body-length n ns))

abbrev pub Short : Name → Type 0
Short n = length n ≤ 255

pub short-every : (ns : List Name) → T (all_short ns) → Every Short ns
unfolding all_short
short-every [] h = tt
short-every (n ∷ ns) h =
    (leb→le (length n) 255 (and_left (leb (length n) 255) (all_short ns) h), short-every ns (and_right (leb (length n) 255) (all_short ns) h))

pub every-short : (ns : List Name) → Every Short ns → T (all_short ns)
unfolding all_short
every-short [] h = tt
every-short (n ∷ ns) h = and_both (leb (length n) 255) (all_short ns) (le→leb (length n) 255 h.0) (every-short ns h.1)

-- ---- what holds of the pieces of a text and of a directory's names holds of the path

pub absolute-every : (P : Name → Type 0) (dir : List Name) (s : Bytes) → Every P dir → Every P (pieces s) → Every P (absolute dir s)
unfolding absolute from names
absolute-every P dir s d h = every-norm P (cond (is_absolute s) [] dir) (keep (pieces s)) (go (is_absolute s)) (every-keep P (pieces s) h)
  where
    go : (t : Bool) → Every P (cond t [] dir)
    go true = tt
    go false = d

-- names of at most 255 bytes
pub lengths_short : (s : Bytes) → T (lengths_ok s) → Every Short (pieces s)
unfolding lengths_ok
lengths_short s h = short-every (pieces s) (and_right (leb (length s) 1024) (all_short (pieces s)) h)

-- "parts of valid texts cut at slashes are valid texts"
body-every : (ns : List Name) → T (text (body ns)) → Every (λ n. T (text n)) ns
unfolding body
body-every [] t = tt
body-every (n ∷ []) t =
    let w = text-cut [] (n ++ []) 47 (lit≤ tt) (lit< tt) t in
    (subst (λ (x : Bytes). T (text x)) (append-nil n) w.1, tt)
body-every (n ∷ m ∷ ns) t =
    let w = text-cut [] (n ++ (47 ∷ (m ++ body ns))) 47 (lit≤ tt) (lit< tt) t in
    let v = text-cut n (m ++ body ns) 47 (lit≤ tt) (lit< tt) w.1 in
    (v.0, body-every (m ∷ ns) (text-ascii 47 (m ++ body ns) (lit≤ tt) (lit< tt) v.1))

pub pieces-text : (s : Bytes) → T (text s) → Every (λ n. T (text n)) (pieces s)
pieces-text s h = body-every (pieces s) (subst (λ (x : Bytes). T (text x)) (sym (body-pieces s)) (text-ascii 47 s (lit≤ tt) (lit< tt) h))

-- the text of a path of valid names is valid
pub body-text : (ns : List Name) → Every (λ n. T (text n)) ns → T (text (body ns))
unfolding body
body-text [] h = text_none
body-text (n ∷ ns) h = text-ascii 47 (n ++ body ns) (lit≤ tt) (lit< tt) (text-append n (body ns) h.0 (body-text ns h.1))
