-- A path formed in a buffer: what is kept of the directory, then what is kept of the path, and behind them the buffer as it was.
-- Assumes nothing.
use mathlib.Core.Bool.{Bool, true, false, cond}
use mathlib.Core.List.{List, [], ◌++◌, append_assoc}
use mathlib.Core.Path.{◌≡◌, sym, ap, ◌∙◌, subst}
use Prim.Native.Nat.{ℕ, ◌+◌, ◌-◌, ◌≤◌, ◌<◌}
use native.Mathlib.Omega.{arith}
use lib.ListN.{length, take, drop, length-append}
use lib.Seq.{length-take-le, take_at, drop_at, take-take}
use borrow.Author.Tests.{le-leb, lt-leb}
use Rattle.text.specs.Utf8.{Bytes}
use Rattle.blocks.specs.Moved.{moved}
use Rattle.blocks.proofs.Laws.{moved-split}
use Rattle.path.specs.Path.{Name, names, norm, normal, from, is_absolute, absolute, body}
use Rattle.path.specs.Backward.{sifted, drop_n, Sifted, part}
use Rattle.path.specs.Answer.{Formed, too_long, formed, written, Forms}
use Rattle.std.specs.Prelude.{Ok}
use Rattle.path.proofs.Dropping.{drop_n-nil}
use Rattle.path.proofs.Reading.{norm-sifted, raw-sifted, body-append}

-- ---- the two answers

module _ (t before : Bytes) where
  pub forms-long : 1024 < length t → Forms t before before too_long
  unfolding formed written
  forms-long h = record { answer = rw (lt-leb (length t) 1024 h); buffer = rw (lt-leb (length t) 1024 h) }

  pub forms-text : (after : Bytes) (n : ℕ) → length t ≤ 1024 → n ≡ length t → after ≡ t ++ drop (length t) before → Forms t before after (Ok n)
  unfolding formed written
  forms-text after n h e w = record { answer = rw (le-leb (length t) 1024 h, e); buffer = rw (le-leb (length t) 1024 h) w }

-- the same text under another name
pub forms_same : {t u before after : Bytes} {r : Formed} → t ≡ u → Forms t before after r → Forms u before after r
forms_same {t} {u} {before} {after} {r} e f = subst (λ (x : Bytes). Forms x before after r) e f

-- ---- a directory and a path behind it

-- the path behind a directory of given names: what the path leaves of them, and what it keeps
pub behind : (base : List Name) (path : Bytes)
    → body (norm base (names path)) ≡ body (drop_n (sifted true 0 path).skip base) ++ body (sifted true 0 path).kept
unfolding drop_n
behind base path = ap body (norm-sifted 0 base path) ∙ body-append (drop_n (sifted true 0 path).skip base) (sifted true 0 path).kept

-- what is left of a directory's text
left : (k : ℕ) (dir : Bytes) → drop_n k (normal dir) ≡ (sifted true k dir).kept
unfolding normal
left k dir = norm-sifted k [] dir ∙ ap (λ (x : List Name). x ++ (sifted true k dir).kept) (drop_n-nil (sifted true k dir).skip)

pub joined : (dir path : Bytes) (k : ℕ) → k ≡ (sifted true 0 path).skip
    → body (norm (normal dir) (names path)) ≡ body (sifted true k dir).kept ++ body (sifted true 0 path).kept
joined dir path k e =
    behind (normal dir) path
    ∙ ap (λ (x : List Name). body x ++ body (sifted true 0 path).kept) (left (sifted true 0 path).skip dir)
    ∙ ap (λ (j : ℕ). body (sifted true j dir).kept ++ body (sifted true 0 path).kept) (sym e)

-- a text stored in front of `end`, where it ends
stored : (t out after : Bytes) (end : ℕ) → end ≡ length t → after ≡ take (end - length t) out ++ (t ++ drop end out) → after ≡ t ++ drop (length t) out
stored t out after end e w =
    let z : end - length t ≡ 0 = omega arith in
    w ∙ rw (z, e)

pub both_long : (a b out : Bytes) (first : ℕ) → first ≡ length a → 1024 < first + length b → Forms (a ++ b) out out too_long
both_long a b out first e h = forms-long (a ++ b) out (omega (arith, length-append a b))

module _ (a b out mid after : Bytes) (first last : ℕ) (ea : first ≡ length a) (eb : last ≡ length b) (fits : first + last ≤ length out)
    (put : mid ≡ take (first + last - length b) out ++ (b ++ drop (first + last) out))
    (put2 : after ≡ take (first - length a) mid ++ (a ++ drop first mid)) where
  -- the path is stored first, the directory in front of it
  both_stored : after ≡ (a ++ b) ++ drop (length (a ++ b)) out
  both_stored =
      let p : first + last - length b ≡ first = omega arith in
      let n : first + last ≡ length (a ++ b) = omega (arith, length-append a b) in
      let l : length (take first out) ≡ first = length-take-le first out (omega arith) in
      let m : mid ≡ take first out ++ (b ++ drop (first + last) out) = put ∙ ap (λ (k : ℕ). take k out ++ (b ++ drop (first + last) out)) p in
      stored a mid after first ea put2
      ∙ ap (λ (k : ℕ). a ++ drop k mid) (sym ea)
      ∙ ap (λ (x : Bytes). a ++ x) (ap (λ (x : Bytes). drop first x) m ∙ drop_at (take first out) (b ++ drop (first + last) out) first l)
      ∙ sym (append_assoc a b (drop (first + last) out)) ∙ ap (λ (k : ℕ). (a ++ b) ++ drop k out) n

  pub forms_both : first + last ≤ 1024 → Forms (a ++ b) out after (Ok (first + last))
  forms_both h =
      let n : first + last ≡ length (a ++ b) = omega (arith, length-append a b) in
      forms-text (a ++ b) out after (first + last) (omega arith) n both_stored

-- ---- a path alone, an absolute path, the raw reading

pub normal-kept : (path : Bytes) → body (normal path) ≡ body (sifted true 0 path).kept
unfolding drop_n
normal-kept path = ap body (left 0 path)

pub from_root : (dir : List Name) (path : Bytes) → is_absolute path ≡ true → normal path ≡ absolute dir path
unfolding absolute from normal
from_root dir path h = ap (λ (t : Bool). norm (cond t [] dir) (names path)) (sym h)

pub from_dir : (dir : List Name) (path : Bytes) → is_absolute path ≡ false → norm dir (names path) ≡ absolute dir path
unfolding absolute from
from_dir dir path h = ap (λ (t : Bool). norm (cond t [] dir) (names path)) (sym h)

pub raw-kept : (path : Bytes) → body (names path) ≡ body (sifted false 0 path).kept
raw-kept path = sym (ap (λ (z : Sifted). body z.kept) (raw-sifted path))

pub forms_one : (t out after : Bytes) (n : ℕ) → n ≡ length t → n ≤ 1024 → after ≡ take (n - length t) out ++ (t ++ drop n out) → Forms t out after (Ok n)
forms_one t out after n e h w = forms-text t out after n (omega arith) e (stored t out after n e w)

-- ---- a link's target in place of the link

pub from_absolute : (dir : List Name) (target : Bytes) (k : ℕ) → is_absolute target ≡ true → [] ≡ body (drop_n k (from dir target))
unfolding from body
from_absolute dir target k h = sym (ap (λ (t : Bool). body (drop_n k (cond t [] dir))) h ∙ ap body (drop_n-nil k))

pub from_relative : (dir : List Name) (target : Bytes) (k : ℕ) → is_absolute target ≡ false → body (drop_n k dir) ≡ body (drop_n k (from dir target))
unfolding from
from_relative dir target k h = ap (λ (t : Bool). body (drop_n k (cond t [] dir))) (sym h)

module _ (out target : Bytes) (dir : List Name) (first kept skip rest len : ℕ) (es : skip ≡ (sifted true 0 target).skip)
    (ek : kept ≡ length (body (sifted true 0 target).kept)) (room : first ≤ length out)
    (front : take first out ≡ body (drop_n skip (from dir target))) where
  text : Bytes
  text = body (absolute dir target) ++ part rest len out

  -- what stays of the directory, what is kept of the target, the rest
  parts : body (absolute dir target) ≡ take first out ++ body (sifted true 0 target).kept
  unfolding absolute
  parts =
      behind (from dir target) target
      ∙ ap (λ (k : ℕ). body (drop_n k (from dir target)) ++ body (sifted true 0 target).kept) (sym es)
      ∙ ap (λ (x : Bytes). x ++ body (sifted true 0 target).kept) (sym front)

  target-length : length (body (absolute dir target)) ≡ first + kept
  target-length = omega (arith, simp length-append at (ap length parts), length-take-le first out room)

  pub follow-long : 1024 < first + kept + length (part rest len out) → Forms (body (absolute dir target) ++ part rest len out) out out too_long
  follow-long h = forms-long (body (absolute dir target) ++ part rest len out) out
      (omega (arith, target-length, length-append (body (absolute dir target)) (part rest len out)))

  module _ (mid after : Bytes) (count : ℕ) (ec : count ≡ length (part rest len out)) (take_count : take count (drop rest out) ≡ part rest len out)
      (move : mid ≡ moved out rest (first + kept) count) (fits : first + kept ≤ length out)
      (put : after ≡ take (first + kept - length (body (sifted true 0 target).kept)) mid
      ++ (body (sifted true 0 target).kept ++ drop (first + kept) mid)) where
    pub follow-forms : first + kept + count ≤ 1024 → Forms (body (absolute dir target) ++ part rest len out) out after (Ok (first + kept + count))
    follow-forms h =
        let at : ℕ = first + kept in
        let k : Bytes = body (sifted true 0 target).kept in
        let r : Bytes = part rest len out in
        let m : mid ≡ take (first + kept) out ++ (r ++ drop (first + kept + count) out) =
        move ∙ moved-split out rest (first + kept) count ∙ ap (λ (x : Bytes). take (first + kept) out ++ (x ++ drop (first + kept + count) out)) take_count
        in
        let l : length (take (first + kept) out) ≡ first + kept = length-take-le (first + kept) out fits in
        let p : first + kept - length k ≡ first = omega arith in
        let f : take first mid ≡ take first out =
        ap (λ (x : Bytes). take first x) m
        ∙ (sym (take-take first (first + kept) (take (first + kept) out ++ (r ++ drop (first + kept + count) out)) (omega arith))
        ∙ ap (λ (x : Bytes). take first x) (take_at (take (first + kept) out) (r ++ drop (first + kept + count) out) (first + kept) l)
        ∙ take-take first (first + kept) out (omega arith))
        in
        let b : drop (first + kept) mid ≡ r ++ drop (first + kept + count) out =
        ap (λ (x : Bytes). drop (first + kept) x) m ∙ drop_at (take (first + kept) out) (r ++ drop (first + kept + count) out) (first + kept) l
        in
        let n : first + kept + count ≡ length (body (absolute dir target) ++ r) =
        omega (arith, target-length, length-append (body (absolute dir target)) r, ec)
        in
        forms-text (body (absolute dir target) ++ r) out after (first + kept + count) (omega arith) n
        (put ∙ ap (λ (x : ℕ). take x mid ++ (k ++ drop (first + kept) mid)) p
        ∙ ap (λ (x : Bytes). x ++ (k ++ drop (first + kept) mid)) f ∙ ap (λ (x : Bytes). take first out ++ (k ++ x)) b
        ∙ sym (append_assoc (take first out) k (r ++ drop (first + kept + count) out))
        ∙ ap (λ (x : Bytes). x ++ (r ++ drop (first + kept + count) out)) (sym parts)
        ∙ sym (append_assoc (body (absolute dir target)) r (drop (first + kept + count) out))
        ∙ ap (λ (x : ℕ). (body (absolute dir target) ++ r) ++ drop x out) n)
