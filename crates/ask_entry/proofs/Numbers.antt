-- What the model answers of a file number is what its words and its cell say.
-- Assumes nothing.
use mathlib.Core.Bool.{Bool, true, false, cond}
use mathlib.Core.List.{List, [], ◌∷◌}
use mathlib.Core.Option.{Option, none, some}
use mathlib.Core.Path.{◌≡◌, refl, sym, ap, ◌∙◌, subst}
use Prim.Native.Nat.{ℕ, suc, ◌+◌, ◌-◌, ◌*◌, ◌<◌}
use native.Mathlib.Omega.{arith}
use lib.Dec.{T, leb, ltb}
use lib.ListN.{get_or}
use borrow.Author.Tests.{ltb-true, lt-ltb}
use Rattle.std.specs.Prelude.{Some}
use Rattle.text.specs.Utf8.{Bytes}
use Rattle.path.specs.Path.{names, normal, body, same, proper, all_proper, path_fits}
use Rattle.path.proofs.Laws.{and_left, and_right, and_both, same_equal, settled}
use Rattle.model.specs.Tree.{Path, File, Open, file_of, open_of}
use Rattle.model.specs.Rules.{name_ok, names_ok, path_ok}
use Rattle.model.specs.Prog.{World, Position, open?, held?, on_some, answer}
use Rattle.model.proofs.Entries.{some_inj, clash}
use Rattle.layout.specs.Store.{Store, here_length, holder, position, kept_length, cell, bytes_at, state}
use Rattle.layout.specs.Lawful.{cell_ok, kept_ok, Lawful}
use Rattle.layout.proofs.Tables.{open-found, open_there}
use Rattle.layout.proofs.Entered.{has_file, stood}
use Rattle.ask_entry.specs.declared.Opened.{Opened}
use Rattle.ask_entry.specs.Reads.{world_in, PathIs, kept_of, NumberIs}

-- ---- paths as they are kept

names-proper : (p : Path) → T (names_ok p) → T (all_proper p)
unfolding names_ok name_ok all_proper
names-proper [] t = tt
names-proper (n ∷ p) t =
    let x = and_left (name_ok n) (names_ok p) t in
    and_both (proper n) (all_proper p) (and_left (proper n) _ x) (names-proper p (and_right (name_ok n) (names_ok p) t))

pub path_is : (s : Bytes) → T (cell_ok s) → PathIs (names s) s
unfolding cell_ok path_ok
path_is s t =
    let b : body (names s) ≡ s = same_equal (body (names s)) s (and_right (path_ok (names s)) (same (body (names s)) s) t) in
    let a = names-proper (names s) (and_left (names_ok (names s)) (path_fits (names s)) (and_left (path_ok (names s)) (same (body (names s)) s) t)) in
    record { names = refl; normal = ap normal (sym b) ∙ settled (names s) a; body = b; kept = t }

-- a cell by the rules: the length fits it, and what stands there is a path as it is kept
kept_at : (st : Store) (i n : ℕ) → T (kept_ok st i n) → T (cell_ok (cell st i n))
kept_at st i n t = and_right (leb n 1024) (cell_ok (cell st i n)) t

-- the current directory's
pub here-told : (st : Store) → Lawful st → (s : Bytes) → s ≡ cell st 0 (here_length st) → PathIs (state st).here s
here-told st l s e = subst (PathIs (state st).here) (sym e) (path_is (cell st 0 (here_length st)) (kept_at st 0 (here_length st) l.here))

-- ---- numbers

module _ (st : Store) (l : Lawful st) (n : ℕ) (h : n < 32) where
  abbrev world : World
  world = world_in st

  open_told : (holder st n ≡ 0 → ⊥) → answer (open? n) world ≡ some (record { pos = position st n; kept = names (cell st (suc n) (kept_length st n)) })
  unfolding answer
  open_told z =
      ap (λ (o : Option Open). on_some {B = Position} o (λ p. some (record { pos = p.pos; kept = p.kept }))) (open_there st 32 0 n (omega arith) (omega arith) z)

  pub held-told : (holder st n ≡ 0 → ⊥) → answer (held? n) world ≡ some (bytes_at st (holder st n - 1))
  unfolding answer
  held-told z =
      let s = stood st l n h z in
      ap (λ (o : Option Open). on_some {B = Bytes} o (λ p. on_some (file_of (state st).files p.id) (λ f. some f.bytes))) (open_there st 32 0 n (omega arith) (omega arith) z)
      ∙ ap (λ (o : Option File). on_some {B = Bytes} o (λ f. some f.bytes)) (has_file st l (holder st n - 1) (omega (arith, s.one, s.low)) s.kind)

-- ---- by the words that were read, and of any number: none is open from 32 on

-- the number's word at i
abbrev pub word_of : List ℕ → ℕ → ℕ → ℕ
word_of ws n i = cond (ltb n 32) (get_or ws (i + 3 * n) 0) 0

-- by the words that were read
pub word-by : {ws : List ℕ} (st : Store) (n i : ℕ) {h : ℕ} → st.words ≡ ws → h ≡ word_of ws n i → h ≡ word_of st.words n i
word-by st n i e f = f ∙ ap (λ (us : List ℕ). word_of us n i) (sym e)

pub word_low : (ws : List ℕ) (n i : ℕ) → n < 32 → word_of ws n i ≡ get_or ws (i + 3 * n) 0
word_low ws n i h = ap (λ (b : Bool). cond b (get_or ws (i + 3 * n) 0) 0) (lt-ltb n 32 h)

word-high : (ws : List ℕ) (n i : ℕ) → (word_of ws n i ≡ 0 → ⊥) → n < 32
word-high ws n i h = go (ltb n 32) refl
  where
    go : (b : Bool) → ltb n 32 ≡ b → n < 32
    go true e = ltb-true n 32 e
    go false e = absurd (h (ap (λ (b : Bool). cond {A = ℕ} b (get_or ws (i + 3 * n) 0) 0) e))

module _ (st : Store) (l : Lawful st) (n : ℕ) where
  -- a number that is open
  pub open-low : (o : Position) → answer (open? n) (world_in st) ≡ some o → (n < 32) × (holder st n ≡ 0 → ⊥)
  unfolding answer
  open-low o e = go (open_of (state st).opens n) refl e
    where
      go : (v : Option Open) → open_of (state st).opens n ≡ v → on_some {B = Position} v (λ p. some (record { pos = p.pos; kept = p.kept })) ≡ some o → (n < 32) × (holder st n ≡ 0 → ⊥)
      go none z y = clash none o refl y
      go (some x) z y = let f = open-found st 32 0 n x z in (omega (arith, f.high), f.holds)

  module _ {h : ℕ} (e : h ≡ word_of st.words n 5) where
    pub number-closed : h ≡ 0 → answer (open? n) (world_in st) ≡ none
    number-closed z = go (answer (open? n) (world_in st)) refl
      where
        go : (o : Option Position) → answer (open? n) (world_in st) ≡ o → answer (open? n) (world_in st) ≡ none
        go none y = y
        go (some o) y = let a = open-low o y in absurd (a.1 (sym (word_low st.words n 5 a.0) ∙ sym e ∙ z))

    pub number-open : (h ≡ 0 → ⊥) → (p : ℕ) → p ≡ word_of st.words n 6 → NumberIs st n (Some (record { slot = h - 1; pos = p }))
    number-open z p f =
        let a = word-high st.words n 5 (λ y. z (e ∙ y)) in
        let b : holder st n ≡ h = sym (e ∙ word_low st.words n 5 a) in
        (b ∙ omega (arith, z), open_told st l n a (λ y. z (sym b ∙ y)) ∙ ap (λ (k : ℕ). some (record { pos = k; kept = kept_of st n })) (sym (f ∙ word_low st.words n 6 a)))

  -- the bytes of the file that an open number stands on
  pub held_by : (x : Opened) → NumberIs st n (Some x) → (o : Position) → answer (open? n) (world_in st) ≡ some o → (s : Bytes) → s ≡ bytes_at st x.slot → answer (held? n) (world_in st) ≡ some s
  held_by x e o y s f =
      let a = open-low o y in
      let k : holder st n - 1 ≡ x.slot = omega (arith, e.0) in
      held-told st l n a.0 a.1 ∙ ap (λ (k : ℕ). some (bytes_at st k)) k ∙ ap some (sym f)

  pub kept-told : (o : Position) → answer (open? n) (world_in st) ≡ some o → (k : ℕ) → k ≡ word_of st.words n 7 → (s : Bytes) → s ≡ cell st (suc n) k → PathIs o.kept s
  kept-told o y k f s e =
      let a = open-low o y in
      let z : kept_of st n ≡ o.kept = ap (λ (p : Position). p.kept) (some_inj (sym (open_told st l n a.0 a.1) ∙ y)) in
      let c = (stood st l n a.0 a.1).kept in
      let t : cell st (suc n) (kept_length st n) ≡ s = sym (e ∙ ap (cell st (suc n)) (f ∙ word_low st.words n 7 a.0)) in
      subst (λ (q : Path). PathIs q s) z (subst (PathIs (kept_of st n)) t (path_is (cell st (suc n) (kept_length st n)) (kept_at st (suc n) (kept_length st n) c)))
