-- Every number of the store of a state fits its slice: words have 64 bits, times are signed 64-bit numbers, bytes have 8 bits.
-- Assumes nothing.
use mathlib.Core.Bool.{Bool, true, false, cond}
use mathlib.Core.List.{[], ◌∷◌, ◌++◌}
use mathlib.Core.Option.{Option, none, some}
use mathlib.Core.Path.{◌≡◌, refl}
use Prim.Native.Nat.{ℕ, zero, suc, ◌+◌, ◌-◌, ◌*◌, ◌/◌, ◌%◌, ◌<◌, ◌^◌}
use native.Mathlib.Omega.{arith}
use lib.Dec.{T, eqb, ltb, ltb→lt, lt→ltb}
use lib.IntN.{pos}
use lib.ListN.{length, get_or, replicate}
use Rattle.text.specs.Utf8.{Bytes}
use Rattle.path.specs.Path.{last_name, body}
use Rattle.path.proofs.Laws.{and_left, and_right, and_both, every_map, body-text}
use Rattle.model.specs.Tree.{Path, Meta, Entries, Open, open_of}
use Rattle.model.specs.Calls.States.{State}
use Rattle.model.specs.Rules.{name_ok, names_ok, time_ok, meta_ok, bytes_ok, path_ok, Obeys}
use Rattle.model.proofs.Sound.Files.{meta-parts}
use Rattle.model.proofs.Sound.Numbers.{joined_bytes, zero-bytes}
use Rattle.model.proofs.Sound.Paths.{name-parts, names-parts, path_names, name_last}
use Rattle.layout.specs.Store.{slots_for}
use Rattle.layout.specs.Lawful.{Sized}
use Rattle.layout.proofs.Climbing.{Ascends}
use Rattle.layout.proofs.Worded.{head_small}
use Rattle.layout.proofs.Spelled.Byted.{text-bytes}
use Rattle.layout.proofs.Spelled.Fitting.{no_bytes_lem, Fits, fits}
use Rattle.layout.proofs.Spelled.Housing.{stands}
use Rattle.layout.proofs.Spelled.Items.{Item, path_in, look_in, item}
use Rattle.layout.proofs.Spelled.Placing.{rows_fit_lem}
use Rattle.layout.proofs.Spelled.Slotting.{path-short}
use Rattle.layout.proofs.Spelled.Stored.{rows_in, number_word, word_of, words_of, records_of, heads_of, times_of, paths_of, joined, bytes_of, spell}
use Rattle.layout.proofs.Spelled.Tracing.{rows_from}
use Rattle.layout.proofs.Spelled.Listed.{tab, tab_all}
use Rattle.layout.proofs.Spelled.Written.{name_text, records-small, head_of, join_from, time_of, kept_text, text_of}

-- ---- bytes

last_bytes : (p : Path) → T (names_ok p) → T (bytes_ok (last_name p))
unfolding last_name names_ok
last_bytes [] t = no_bytes_lem
last_bytes (x ∷ p) t =
    let h = name_last x p t in
    text-bytes (last_name (x ∷ p)) (name-parts (last_name (x ∷ p)) (and_left (name_ok (last_name (x ∷ p))) true h)).text

name-bytes : (k : ℕ) (t : Entries) → ((i : ℕ) → i < length t → T (names_ok (path_in t i))) → T (bytes_ok (name_text (rows_from k t)))
unfolding name_text rows_from
name-bytes k [] h = no_bytes_lem
name-bytes k (e ∷ t) h =
    joined_bytes (last_name e.0) (name_text (rows_from (suc k) t)) (last_bytes e.0 (h 0 (omega arith))) (name-bytes (suc k) t (λ i b. h (suc i) (omega arith)))

join-bytes : (g : ℕ → Item) → ((k : ℕ) → Fits (g k)) → (n k : ℕ) → T (bytes_ok (join_from g n k))
unfolding join_from
join-bytes g f zero k = no_bytes_lem
join-bytes g f (suc n) k = joined_bytes (g k).bytes (join_from g n (suc k)) (f k).bytes (join-bytes g f n (suc k))

byte_at : (l : Bytes) (i : ℕ) → T (bytes_ok l) → get_or l i 0 < 256
unfolding bytes_ok
byte_at [] i t = omega arith
byte_at (b ∷ l) zero t = ltb→lt b 256 (and_left (ltb b 256) (bytes_ok l) t)
byte_at (b ∷ l) (suc i) t = byte_at l i (and_right (ltb b 256) (bytes_ok l) t)

tab-bytes : (f : ℕ → ℕ) (n k : ℕ) → ((i : ℕ) → f i < 256) → T (bytes_ok (tab f n k))
unfolding bytes_ok tab
tab-bytes f zero k h = tt
tab-bytes f (suc n) k h = and_both (ltb (f k) 256) (bytes_ok (tab f n (suc k))) (lt→ltb (f k) 256 (h k)) (tab-bytes f n (suc k) h)

-- ---- times

time-ok : (m : Meta) (k : ℕ) → T (meta_ok m) → T (time_ok (time_of m k))
time-ok m zero t = (meta-parts m t).accessed
time-ok m (suc zero) t = (meta-parts m t).changed
time-ok m (suc (suc zero)) t = (meta-parts m t).created
time-ok m (suc (suc (suc k))) t = (meta-parts m t).modified

module _ (s : State) (o : Obeys s) where
  -- ---- words

  number_small : (n k : ℕ) (x : Option Open) → open_of s.opens n ≡ x → number_word s k x < 2 ^ 64
  number_small n zero none e = omega arith
  number_small n (suc zero) none e = omega arith
  number_small n (suc (suc k)) none e = omega arith
  number_small n zero (some b) e =
      let f = (o.opens n b e).3 in
      omega (arith, (stands s o b.id f.0 f.1).low, o.entry_limit.1)
  number_small n (suc zero) (some b) e = (o.opens n b e).1
  number_small n (suc (suc k)) (some b) e = omega (arith, path-short b.kept (o.opens n b e).2)

  word_small : (k : ℕ) → word_of s k < 2 ^ 64
  word_small zero = omega (arith, o.entry_limit.1)
  word_small (suc zero) = omega (arith, o.byte_limit.1)
  word_small (suc (suc zero)) = omega (arith, o.entries_fit, o.entry_limit.1)
  word_small (suc (suc (suc zero))) = omega (arith, o.umask)
  word_small (suc (suc (suc (suc zero)))) = omega (arith, path-short s.here o.current)
  word_small (suc (suc (suc (suc (suc k))))) = go (eqb k 96)
    where
      go : (b : Bool) → cond b (slots_for s.most) (number_word s (k % 3) (open_of s.opens (k / 3))) < 2 ^ 64
      go true = omega (arith, o.entry_limit.1)
      go false = number_small (k / 3) (k % 3) (open_of s.opens (k / 3)) refl

  words_small : (i : ℕ) → get_or (words_of s) i 0 < 2 ^ 64
  unfolding words_of
  words_small i = tab_all (λ x. x < 2 ^ 64) (word_of s) 102 i 0 word_small (omega arith)

  heads-small : (i : ℕ) → get_or (heads_of s) i 0 < 2 ^ 64
  unfolding heads_of
  heads-small i =
      tab_all (λ x. x < 2 ^ 64) (λ k. head_of (item s k)) (slots_for s.most) i 0
      (λ k. let f = fits s o k in head_small (length (item s k).bytes) (item s k).kind (item s k).meta.mode f.length f.kind (meta-parts (item s k).meta f.meta).mode) (omega arith)

  times-ok : (i : ℕ) → T (time_ok (get_or (times_of s) i (pos 0)))
  unfolding times_of time_ok
  times-ok i =
      tab_all (λ x. T (time_ok x)) (λ k. time_of (item s (k / 4)).meta (k % 4)) (4 * slots_for s.most) i (pos 0)
      (λ k. time-ok (item s (k / 4)).meta (k % 4) (fits s o (k / 4)).meta) tt

  all_bytes : T (bytes_ok (bytes_of s))
  unfolding bytes_of joined
  all_bytes =
      let gap = s.room - (length (name_text (rows_in s)) + length (joined s)) in
      joined_bytes (name_text (rows_in s) ++ replicate gap 0) (joined s)
      (joined_bytes (name_text (rows_in s)) (replicate gap 0) (name-bytes 0 s.tree (λ i h. o.named (path_in s.tree i) _ (look_in s.tree o.paths i h))) (zero-bytes gap))
      (join-bytes (item s) (fits s o) (slots_for s.most) 0)

  -- ---- records and cells, of which the rules ask nothing

  pub record-words : Ascends s.tree → (i : ℕ) → get_or (records_of s) i 0 < 2 ^ 64
  unfolding records_of
  record-words a i = records-small (rows_in s) (s.most - length s.tree) (rows_fit_lem s o a) i

  path_bytes : (p : Path) → T (path_ok p) → T (bytes_ok (body p))
  path_bytes p t = text-bytes (body p) (body-text p (every_map (λ n f. f.text) p (names-parts p (path_names p t))))

  text-small : (i : ℕ) → T (bytes_ok (text_of s i))
  text-small zero = path_bytes s.here o.current
  text-small (suc n) = go (open_of s.opens n) refl
    where
      go : (x : Option Open) → open_of s.opens n ≡ x → T (bytes_ok (kept_text x))
      go none e = no_bytes_lem
      go (some b) e = path_bytes b.kept (o.opens n b e).2

  pub path-cells : T (bytes_ok (paths_of s))
  unfolding paths_of
  path-cells = tab-bytes (λ k. get_or (text_of s (k / 1024)) (k % 1024) 0) 33792 0 (λ k. byte_at (text_of s (k / 1024)) (k % 1024) (text-small (k / 1024)))

  pub spell-sized : Sized (spell s)
  spell-sized = record { words = words_small; heads = heads-small; times = times-ok; bytes = all_bytes }
