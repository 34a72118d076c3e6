-- Bytes used and links, by the words of the records: the bytes of the slots that a record has and of those that none has are those of
-- all slots, and an entry is a link where its slot's kind says so.
-- Assumes nothing.
use mathlib.Core.Bool.{Bool, true, false, cond}
use Rattle.std.specs.List.{filter}
use mathlib.Core.List.{List, [], ◌∷◌}
use mathlib.Core.Logic.{◌⊎◌, inl, inr}
use mathlib.Core.Path.{◌≡◌, refl, sym, ap, ◌∙◌, subst, transport}
use Prim.Native.Nat.{ℕ, zero, suc, ◌+◌, ◌*◌, ◌≤◌, ◌<◌}
use native.Mathlib.Nat.{zero-mul, one-mul}
use native.Mathlib.Omega.{arith}
use native.Mathlib.Decide.{ℕ_discrete}
use lib.Dec.{T, eqb, eqb→eq}
use borrow.Author.Tests.{eq-eqb, ne_eqb}
use lib.ListN.{length, take, drop, get_or}
use Rattle.text.specs.Utf8.{Bytes}
use Rattle.model.specs.Tree.{Path, Entries, links_in}
use Rattle.model.specs.Calls.States.{bytes_used}
use Rattle.model.proofs.Demand.Contents.{or_elim}
use Rattle.layout.specs.Fields.{depth_of, kind_of, len_of, nlen_of, slot_of}
use Rattle.layout.specs.Rows.{Row, rows, name_total, path_of, tree_from}
use Rattle.layout.specs.Store.{Store, count, holder, live, rows_of, kind_at, node_at, state}
use Rattle.layout.specs.Lawful.{uses, held_from, Lawful}
use Rattle.layout.proofs.Roots.{all_slots}
use Rattle.layout.proofs.Slotted.{SlotOf, free, directory, named, removed, target, slot-of, dir_at, file_at_lem, link_at}
use Rattle.layout.proofs.Sums.{sum_from, sum_same, sum_both, sum_rows, sum_rows_lem}
use Rattle.layout.proofs.Used.{bytes-used, total-sum}
use Rattle.layout.proofs.Walks.{SlotsIn}
use Rattle.ask_used.specs.Totals.{head_of, Slotted, held_total, link_total, tree_bytes}
use Rattle.slots.specs.Uses.{uses_in, Within}
use Rattle.slots.proofs.Rowed.{uses-rows, words_within, used-once}
use Rattle.ask_used.specs.Answers.{Linked}
use Rattle.ask_used.specs.Unnamed.{AllClosed, alone, alone_from, unnamed}

-- ---- links

-- whether the slot of a record is a link's
abbrev pub link_test : List ℕ → ℕ → Bool
link_test hs w = eqb (kind_of (head_of hs w)) 3

pub links-are : (hs ws : List ℕ) → length (filter (link_test hs) ws) ≡ link_total hs ws
unfolding link_total
links-are hs [] = refl
links-are hs (w ∷ ws) = go (link_test hs w) (links-are hs ws)
  where
    go : (b : Bool) → length (filter (link_test hs) ws) ≡ link_total hs ws → length (cond b (w ∷ filter (link_test hs) ws) (filter (link_test hs) ws)) ≡ cond b 1 0 + link_total hs ws
    go true e = omega arith
    go false e = omega arith

-- ---- sums

alone-sum : (u : ℕ → ℕ) (hs : List ℕ) (n k : ℕ) → alone_from u hs n k ≡ sum_from (alone u hs) n k
unfolding alone_from sum_from
alone-sum u hs zero k = refl
alone-sum u hs (suc n) k = ap (λ (m : ℕ). alone u hs k + m) (alone-sum u hs n (suc k))

held-sum : (hs ws : List ℕ) (bs : Bytes) → held_total hs ws ≡ sum_rows (λ k. len_of (get_or hs k 0)) (rows ws bs)
unfolding held_total sum_rows rows
held-sum hs [] bs = refl
held-sum hs (w ∷ ws) bs = ap (λ (m : ℕ). len_of (head_of hs w) + m) (held-sum hs ws (drop (nlen_of w) bs))

module _ (st : Store) (l : Lawful st) where
  slots_in : SlotsIn (length st.heads) (rows_of st)
  slots_in = all_slots (kind_at st) (length st.heads) (rows_of st) l.entries

  pub within : Within (length st.heads) (live st)
  within = words_within (length st.heads) (live st) st.bytes slots_in

  once : (k : ℕ) → k < length st.heads → uses_in k (live st) ≤ 1
  once k h = subst (λ (n : ℕ). n ≤ 1) (uses-rows k (live st) st.bytes) (used-once st l k h)

  -- one slot: what a record has of it, or what none has
  one_slot : (u g : ℕ) (hs : List ℕ) (k : ℕ) → u ≤ 1 → g ≡ len_of (get_or hs k 0) → u * g + cond (eqb u 0) (len_of (get_or hs k 0)) 0 ≡ g
  one_slot zero g hs k h e = omega (arith, zero-mul g)
  one_slot (suc zero) g hs k h e = omega (arith, one-mul g)
  one_slot (suc (suc u)) g hs k h e = absurd (omega arith)

  pub bytes_by : name_total (live st) + held_total st.heads (live st) + unnamed (live st) st.heads ≡ bytes_used (state st)
  bytes_by =
      let n = length st.heads in
      let g : ℕ → ℕ = λ k. len_of (get_or st.heads k 0) in
      let rs = rows_of st in
      let u : ℕ → ℕ = λ k. uses_in k (live st) in
      omega (
        arith,
        bytes-used st l,
        held-sum st.heads (live st) st.bytes,
        sum_rows_lem g n rs slots_in,
        alone-sum u st.heads n 0,
        sum_both (λ i. uses i rs * g i) (alone u st.heads) n 0,
        total-sum st.heads,
        sum_same (λ i. uses i rs * g i + alone u st.heads i) g n 0
            (λ i a b. ap (λ (m : ℕ). m * g i + alone u st.heads i) (uses-rows i (live st) st.bytes) ∙ one_slot (u i) (g i) st.heads i (once i (omega arith)) refl),
      )

  -- ---- no number is open: what no record has holds nothing

  unheld : (n i k : ℕ) → AllClosed st.words → i + n ≤ 32 → T (held_from st n i k) → ⊥
  unfolding held_from
  unheld zero i k c h t = absurd t
  unheld (suc n) i k c h t = go (or_elim (eqb (holder st i) (suc k)) (held_from st n (suc i) k) t) (unheld n (suc i) k c (omega arith))
    where
      go : T (eqb (holder st i) (suc k)) ⊎ T (held_from st n (suc i) k) → (T (held_from st n (suc i) k) → ⊥) → ⊥
      go (inl a) ih = absurd (omega (arith, eqb→eq (holder st i) (suc k) a, c i (omega arith)))
      go (inr a) ih = ih a

  -- a slot that no record has is free
  none_left : AllClosed st.words → (k : ℕ) → k < length st.heads → alone (λ i. uses_in i (live st)) st.heads k ≡ 0
  none_left c k h = by (uses_in k (live st)) (sym (uses-rows k (live st) st.bytes)) (slot-of st k (l.slots k h))
    where
      by : (u : ℕ) → u ≡ uses k (rows_of st) → SlotOf st k → cond (eqb u 0) (len_of (get_or st.heads k 0)) 0 ≡ 0
      by zero e (free x y z w) = omega (arith, ap len_of y)
      by zero e (directory x y z w) = absurd (omega (arith, e, z))
      by zero e (named x z) = absurd (omega (arith, e, z))
      by zero e (removed x z w) = absurd (unheld 32 0 k c (omega arith) w)
      by zero e (target x y z w) = absurd (omega (arith, e, z))
      by (suc u) e s = ap (λ (b : Bool). cond b (len_of (get_or st.heads k 0)) 0) (ne_eqb (suc u) 0 (λ z. absurd (omega (arith, z))))

  alone_none : (n k : ℕ) → AllClosed st.words → k + n ≤ length st.heads → alone_from (λ i. uses_in i (live st)) st.heads n k ≡ 0
  unfolding alone_from
  alone_none zero k c h = refl
  alone_none (suc n) k c h = omega (arith, none_left c k (omega arith), alone_none n (suc k) c (omega arith))

  pub closed-bytes : AllClosed st.words → name_total (live st) + held_total st.heads (live st) ≡ bytes_used (state st)
  closed-bytes c = omega (arith, bytes_by, alone_none (length st.heads) 0 c (omega arith))

  -- ---- links

  -- an entry is a link where its slot is one
  link_one : (k : ℕ) → 1 ≤ uses k (rows_of st) → SlotOf st k → (p : Path) (t : Entries) → links_in ((p, node_at st k) ∷ t) ≡ cond (eqb (kind_at st k) 3) 1 0 + links_in t
  unfolding links_in
  link_one k h (free e x u w) p t = absurd (omega arith)
  link_one k h (directory e x u w) p t = rw (dir_at st k e, e) (omega arith)
  link_one k h (named e u) p t = rw (file_at_lem st k e, e) (omega arith)
  link_one k h (removed e u w) p t = absurd (omega arith)
  link_one k h (target e x u w) p t = rw (link_at st k e, e) (omega arith)

  no_links : links_in [] ≡ 0
  unfolding links_in
  no_links = refl

  -- the record of a slot in use
  abbrev Used : ℕ → Type 0
  Used k = (1 ≤ uses k (rows_of st)) × (k < length st.heads)

  links_from : (p : Path) (ws : List ℕ) (bs : Bytes) → ((k : ℕ) → 1 ≤ uses_in k ws → Used k) → links_in (tree_from (node_at st) p (rows ws bs)) ≡ link_total st.heads ws
  unfolding tree_from rows link_total uses_in
  links_from p [] bs h = no_links
  links_from p (w ∷ ws) bs h =
      let u = h (slot_of w) (rw (eq-eqb (slot_of w) (slot_of w) refl) (omega arith)) in
      let r : Row = record { depth = depth_of w; name = take (nlen_of w) bs; slot = slot_of w } in
      link_one (slot_of w) u.0 (slot-of st (slot_of w) (l.slots (slot_of w) u.1)) (path_of p r) (tree_from (node_at st) (path_of p r) (rows ws (drop (nlen_of w) bs)))
      ∙ ap (λ (m : ℕ). cond (eqb (kind_at st (slot_of w)) 3) 1 0 + m) (links_from (path_of p (record { depth = depth_of w; name = take (nlen_of w) bs; slot = slot_of w })) ws (drop (nlen_of w) bs) (λ k v. h k (omega (arith, v))))

  low-slot : (ws : List ℕ) (k : ℕ) → Within (length st.heads) ws → 1 ≤ uses_in k ws → k < length st.heads
  unfolding uses_in
  low-slot [] k h u = absurd (omega arith)
  low-slot (w ∷ ws) k h u = go (ℕ_discrete (slot_of w) k) (low-slot ws k (λ i a. h (suc i) (omega arith)))
    where
      go : Dec (slot_of w ≡ k) → (1 ≤ uses_in k ws → k < length st.heads) → k < length st.heads
      go (yes e) ih = subst (λ (i : ℕ). i < length st.heads) e (h 0 (omega arith))
      go (no e) ih = ih (let z : ◌≡◌ {A = ℕ} (cond (eqb (slot_of w) k) 1 0) 0 = ap (λ (b : Bool). cond {A = ℕ} b 1 0) (ne_eqb (slot_of w) k e) in omega arith)

  pub links_by : link_total st.heads (live st) ≡ links_in (state st).tree
  links_by =
      sym (links_from [] (live st) st.bytes
      (λ k u. (subst (λ (n : ℕ). 1 ≤ n) (sym (uses-rows k (live st) st.bytes)) u, low-slot (live st) k within u)))

  pub once_all : (k : ℕ) → uses_in k (live st) ≤ 1
  once_all k = go (uses_in k (live st)) refl
    where
      go : (n : ℕ) → uses_in k (live st) ≡ n → uses_in k (live st) ≤ 1
      go zero e = omega arith
      go (suc n) e = once k (low-slot (live st) k within (omega (arith, e)))

  -- the whole fits a word
  pub bytes_small : name_total (live st) + held_total st.heads (live st) + unnamed (live st) st.heads ≤ 1048576
  bytes_small = omega (arith, bytes_by, bytes-used st l, l.space, l.byte_limit.1)

-- ---- by the slices

-- what the sums ask of the first n records
pub record Fine (n : ℕ) (rs hs : List ℕ) : Type 0 where
  pub long : n ≤ length rs
  pub few : n ≤ 4096
  pub slots : Slotted hs (take n rs)
  pub heads : length hs ≤ 4128
  pub once : (k : ℕ) → uses_in k (take n rs) ≤ 1
  pub small : name_total (take n rs) + held_total hs (take n rs) + unnamed (take n rs) hs ≤ 1048576

pub fine : (st : Store) → Lawful st → (n : ℕ) (rs hs : List ℕ) → count st ≡ n → st.records ≡ rs → st.heads ≡ hs → Fine n rs hs
fine st l n rs hs c e f =
    let w : Fine (count st) st.records st.heads =
    record {
      long = omega (arith, l.exact.records, l.counted);
      few = omega (arith, l.counted, l.entry_limit.1);
      slots = within st l;
      heads = omega (arith, l.exact.heads, l.slotted, l.entry_limit.1);
      once = once_all st l;
      small = bytes_small st l;
    } in
    subst (λ (k : ℕ). Fine k rs hs) c (subst (λ (us : List ℕ). Fine (count st) us hs) e (subst (λ (gs : List ℕ). Fine (count st) st.records gs) f w))

-- the bytes used of a store that has the slices
module _ (ws rs hs : List ℕ) (st : Store) (e : st.words ≡ ws) (f : st.records ≡ rs) (g : st.heads ≡ hs) (l : Lawful st) where
  tree_is : tree_bytes (take (get_or ws 2 0) rs) hs ≡ name_total (live st) + held_total st.heads (live st)
  tree_is = λ j. tree_bytes (take (get_or (sym e j) 2 0) (sym f j)) (sym g j)

  pub used-closed : AllClosed ws → tree_bytes (take (get_or ws 2 0) rs) hs ≡ bytes_used (state st)
  used-closed c = tree_is ∙ closed-bytes st l (subst AllClosed (sym e) c)

  pub used_all : tree_bytes (take (get_or ws 2 0) rs) hs + unnamed (take (get_or ws 2 0) rs) hs ≡ bytes_used (state st)
  used_all = (λ j. tree_bytes (take (get_or (sym e j) 2 0) (sym f j)) (sym g j) + unnamed (take (get_or (sym e j) 2 0) (sym f j)) (sym g j)) ∙ bytes_by st l

pub links-told : (rs hs : List ℕ) (st : Store) → live st ≡ rs → st.heads ≡ hs → Lawful st → link_total hs rs ≡ links_in (state st).tree
links-told rs hs st e f l = (λ j. link_total (sym f j) (sym e j)) ∙ links_by st l

-- their slots are slots
pub links-slotted : (rs hs : List ℕ) → Linked rs hs → Slotted hs rs
links-slotted rs hs h =
    let st = h.store in
    transport (λ j. Slotted (h.heads j) (h.records j)) (fine st h.lawful (count st) st.records st.heads refl refl refl).slots
