-- What a program is answered, from what `path` answers.
-- Assumes nothing.
use mathlib.Core.Bool.{Bool, true, false, true≢false, ◌&&◌, cond}
use mathlib.Core.List.{List, ◌++◌}
use mathlib.Core.Path.{◌≡◌, refl, sym, ap, ◌∙◌}
use Prim.Native.Nat.{ℕ, ◌+◌, ◌-◌, ◌≤◌, ◌<◌}
use native.Mathlib.Omega.{arith}
use lib.Dec.{leb}
use lib.ListN.{length, take, drop, length-append, length-drop}
use lib.Seq.{take_at, drop_at, drop-drop, drop-append-le, length-take-le}
use borrow.Author.Tests.{le-leb, lt-leb, leb-true}
use Rattle.text.specs.Utf8.{Bytes}
use Rattle.path.specs.Path.{Name, names, normal, absolute, body, last_name}
use Rattle.path.specs.Backward.{part}
use Rattle.std.specs.Prelude.{Ok, Err}
use Rattle.std.specs.Result.{is_ok}
use Rattle.path.specs.Answer.{Formed, too_long, pick, formed, written, Forms}
use Rattle.path.proofs.Laws.{names-body, every_map, proper-shown, all_every, normal-proper}
use Rattle.test_probe.specs.Numbers.{number_of, answer_of, buffer_of, Answers, name_answer, name_buffer, NameAnswers, staged, followed_text, fits, behind_answer, behind_buffer, BehindAnswers, room, follow_answer, follow_buffer, FollowAnswers}

pub answers-short : (t before : Bytes) → length before < 1024 → Answers t before before 1000014
unfolding answer_of buffer_of
answers-short t before h =
    let e : leb 1024 (length before) ≡ false = lt-leb 1024 (length before) h in record { answer = rw e; buffer = rw e }

pub answers-formed : {t before after : Bytes} {f : Formed} {r : ℕ} → 1024 ≤ length before → Forms t before after f → r ≡ number_of f
    → Answers t before after r
unfolding answer_of buffer_of
answers-formed {t} {before} {after} {f} {r} h w n =
    let e : leb 1024 (length before) ≡ true = le-leb 1024 (length before) h in
    record { answer = rw e (n ∙ ap number_of w.answer); buffer = rw e w.buffer }

-- a length that is formed is short, and a refusal's number is none
pub ok-short : {t before after : Bytes} {f : Formed} {n : ℕ} → Forms t before after f → f ≡ Ok n → n ≤ 1024
unfolding formed
ok-short {t} {n = n} w e = go (leb (length t) 1024) refl (sym e ∙ w.answer)
  where
    go : (y : Bool) → leb (length t) 1024 ≡ y → Ok n ≡ pick y (Ok (length t)) too_long → n ≤ 1024
    go true ey a = omega (arith, leb-true (length t) 1024 ey, ap number_of a)
    go false ey a = absurd (true≢false (ap is_ok a))

pub none-long : (f : Formed) → ((n : ℕ) → f ≡ Ok n → ⊥) → 1024 < number_of f
none-long (Ok n) h = absurd (h n refl)
none-long (Err e) h = omega arith

-- ---- the last name

module _ {path cwd before : Bytes} (n : Name) (e : n ≡ last_name (absolute (normal cwd) path)) where
  pub name-long : length before < length n → NameAnswers path cwd before before 1000014
  unfolding name_answer name_buffer
  name-long h =
      let t : leb (length n) (length before) ≡ false = lt-leb (length n) (length before) h in
      record { answer = rw (← e) (rw t); buffer = rw (← e) (rw t) }

  pub name-put : {after : Bytes} → length n ≤ length before → after ≡ n ++ drop (length n) before → NameAnswers path cwd before after (length n)
  unfolding name_answer name_buffer
  name-put h w =
      let t : leb (length n) (length before) ≡ true = le-leb (length n) (length before) h in
      record { answer = rw (← e) (rw t); buffer = rw (← e) (rw t w) }

-- ---- a link behind a directory that stands in the buffer

-- what stands behind the link's name
rest_part : (d behind z : Bytes) (have name : ℕ) → length d ≡ have → name ≤ length behind
    → part (have + name) (have + length behind) (d ++ (behind ++ z)) ≡ drop name behind
rest_part d behind z have name l h =
    let n : have + length behind - (have + name) ≡ length (drop name behind) = simp length-drop (omega arith) in
    rw (n, ← drop-drop name have (d ++ (behind ++ z)), drop_at d (behind ++ z) have l, drop-append-le name behind z h)
    (take_at (drop name behind) z (length (drop name behind)) refl)

module _ (out : Bytes) (have : ℕ) (behind : Bytes) (name : ℕ) (target : Bytes) (reads : body (names (take have out)) ≡ take have out)
    (room : have ≤ length out) where
  size : length (body (names (take have out))) ≡ have
  size = ap length reads ∙ length-take-le have out room

  pub behind_none : 1024 < have + length behind → BehindAnswers (names (take have out)) behind name target out out 1000002
  unfolding behind_answer behind_buffer fits
  behind_none h =
      let t : leb (length (body (names (take have out))) + length behind) 1024 ≡ false = lt-leb (length (body (names (take have out))) + length behind) 1024 (omega (arith, size)) in
      record { answer = rw t; buffer = rw t }

  pub behind_all : {mid after : Bytes} {f : Formed} {r : ℕ} → have + length behind ≤ 1024 → name ≤ length behind
      → mid ≡ take have out ++ (behind ++ drop (have + length behind) out)
      → Forms (body (absolute (names (take have mid)) target) ++ part (have + name) (have + length behind) mid) mid after f
      → r ≡ number_of f → BehindAnswers (names (take have out)) behind name target out after r
  unfolding behind_answer behind_buffer fits staged followed_text
  behind_all {mid} {after} {f} {r} h k m w n =
      let l : length (take have out) ≡ have = length-take-le have out room in
      let front : take have mid ≡ take have out = ap (λ (x : Bytes). take have x) m ∙ take_at (take have out) _ have l in
      let rest : part (have + name) (have + length behind) mid ≡ drop name behind =
      ap (λ (x : Bytes). part (have + name) (have + length behind) x) m ∙ rest_part (take have out) behind (drop (have + length behind) out) have name l k in
      let text : body (absolute (names (take have mid)) target) ++ part (have + name) (have + length behind) mid
      ≡ body (absolute (names (take have out)) target) ++ drop name behind = rw (front, rest) in
      let mid-is : mid ≡ body (names (take have out)) ++ (behind ++ drop (length (body (names (take have out))) + length behind) out) = rw (size, reads) m in
      let t : leb (length (body (names (take have out))) + length behind) 1024 ≡ true = le-leb (length (body (names (take have out))) + length behind) 1024 (omega (arith, size)) in
      record {
        answer = rw t (n ∙ ap number_of (w.answer ∙ ap formed text));
        buffer = rw t (w.buffer ∙ ap (λ (x : Bytes). written x mid) text ∙ ap (λ (x : Bytes). written (body (absolute (names (take have out)) target) ++ drop name behind) x) mid-is);
      }

-- ---- a link behind a directory that is normalised into the buffer first

-- what is known once the directory stands in the buffer
record Placed (d before mid : Bytes) (have : ℕ) : Type 0 where
  wide : 1024 ≤ length before
  short : length d ≤ 1024
  count : have ≡ length d
  text : mid ≡ d ++ drop (length d) before

placed : (d before mid : Bytes) (have : ℕ) → Answers d before mid have → have ≤ 1024 → Placed d before mid have
unfolding answer_of buffer_of formed written
placed d before mid have w h = go (leb 1024 (length before)) refl (leb (length d) 1024) refl w.answer w.buffer
  where
    go : (x : Bool) → leb 1024 (length before) ≡ x → (y : Bool) → leb (length d) 1024 ≡ y
        → have ≡ cond x (number_of (pick y (Ok (length d)) too_long)) 1000014
        → mid ≡ cond x (cond y (d ++ drop (length d) before) before) before → Placed d before mid have
    go true ex true ey a b = record { wide = leb-true 1024 (length before) ex; short = leb-true (length d) 1024 ey; count = a; text = b }
    go true ex false ey a b = absurd (omega arith)
    go false ex y ey a b = absurd (omega arith)

unplaced : (dir : List Name) (before mid : Bytes) (have : ℕ) → Answers (body dir) before mid have → 1024 < have → (room dir before ≡ false) × (mid ≡ before)
unfolding answer_of buffer_of formed written room
unplaced dir before mid have w h = go (leb 1024 (length before)) (leb (length (body dir)) 1024) refl w.answer w.buffer
  where
    go : (x y : Bool) → leb (length (body dir)) 1024 ≡ y → have ≡ cond x (number_of (pick y (Ok (length (body dir))) too_long)) 1000014
        → mid ≡ cond x (cond y (body dir ++ drop (length (body dir)) before) before) before → (x && y ≡ false) × (mid ≡ before)
    go true true ey a b = absurd (omega (arith, leb-true (length (body dir)) 1024 ey))
    go true false ey a b = (refl, b)
    go false true ey a b = (refl, b)
    go false false ey a b = (refl, b)

pub normal-names : (s : Bytes) → names (body (normal s)) ≡ normal s
normal-names s = names-body (normal s) (every_map proper-shown (normal s) (all_every (normal s) (normal-proper s)))

module _ (dir : Bytes) {before mid : Bytes} {have : ℕ} (w : Answers (body (normal dir)) before mid have) (h : have ≤ 1024) where
  in-front : take have mid ≡ body (normal dir)
  in-front =
      let p = placed (body (normal dir)) before mid have w h in
      ap (λ (x : Bytes). take have x) p.text ∙ take_at (body (normal dir)) _ have (sym p.count)

  -- what follow_behind asks
  pub ready-wide : 1024 ≤ length mid
  ready-wide =
      let p = placed (body (normal dir)) before mid have w h in
      let l : length mid ≡ length (body (normal dir)) + (length before - length (body (normal dir))) =
      ap length p.text ∙ simp (length-append, length-drop) in
      omega (arith, p.wide, p.short)

  pub ready-text : body (names (take have mid)) ≡ take have mid
  ready-text = rw in-front (ap body (normal-names dir))

  pub follow-done : {behind target after : Bytes} {name r : ℕ} → name ≤ length behind
      → BehindAnswers (names (take have mid)) behind name target mid after r → FollowAnswers (normal dir) behind name target before after r
  unfolding follow_answer follow_buffer room written
  follow-done {behind} {target} {after} {name} {r} k b =
      let p = placed (body (normal dir)) before mid have w h in
      let n : names (take have mid) ≡ normal dir = ap names in-front ∙ normal-names dir in
      let ea : leb name (length behind) ≡ true = le-leb name (length behind) k in
      let eb : leb 1024 (length before) ≡ true = le-leb 1024 (length before) p.wide in
      let ec : leb (length (body (normal dir))) 1024 ≡ true = le-leb (length (body (normal dir))) 1024 p.short in
      record {
        answer = rw (ea, eb, ec) (b.answer ∙ ap (λ (x : List Name). behind_answer x behind name target) n);
        buffer = rw (ea, eb, ec) (b.buffer ∙ ap (λ (x : List Name). behind_buffer x behind name target mid) n
            ∙ ap (λ (x : Bytes). behind_buffer (normal dir) behind name target x) p.text);
      }

pub follow_none : (dir : List Name) {behind target before : Bytes} {name : ℕ} → length behind < name
    → FollowAnswers dir behind name target before before 1000001
unfolding follow_answer follow_buffer
follow_none dir {behind} {target} {before} {name} h =
    let e : leb name (length behind) ≡ false = lt-leb name (length behind) h in record { answer = rw e; buffer = rw e }

pub follow-refused : (dir : List Name) {behind target before after : Bytes} {name r : ℕ} → name ≤ length behind
    → Answers (body dir) before after r → 1024 < r → FollowAnswers dir behind name target before after r
unfolding follow_answer follow_buffer
follow-refused dir {behind} {target} {before} {after} {name} {r} k w h =
    let u = unplaced dir before after r w h in
    let e : leb name (length behind) ≡ true = le-leb name (length behind) k in
    record { answer = rw (e, u.0) w.answer; buffer = rw (e, u.0) u.1 }

-- the directory still reads back once something is put behind it
pub reads-behind : (out : Bytes) (have : ℕ) {mid : Bytes} (z : Bytes) → body (names (take have out)) ≡ take have out → have ≤ length out
    → mid ≡ take have out ++ z → body (names (take have mid)) ≡ take have mid
reads-behind out have {mid} z e l m =
    let f : take have mid ≡ take have out = ap (λ (x : Bytes). take have x) m ∙ take_at (take have out) z have (length-take-le have out l) in
    rw f e
