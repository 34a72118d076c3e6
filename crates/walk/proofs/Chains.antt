-- A lookup that follows last links too, one no-follow lookup after the other: where one ends at a last link, the next starts at the path behind
-- it, with one last link less. The links are those of the world that is asked; their number is the same in all.
-- Assumes nothing.
use mathlib.Core.List.{List, [], ◌∷◌, ◌++◌, append-nil, append_assoc}
use mathlib.Core.Path.{◌≡◌, refl, sym, ap, ◌∙◌, subst}
use Prim.Native.Nat.{ℕ, suc, ◌+◌, ◌-◌, ◌*◌, ◌≤◌, ◌<◌}
use native.Mathlib.Omega.{arith}
use lib.ListN.{length, take, drop, length-append}
use lib.Seq.{take_all, drop-length, length-take-le}
use Rattle.std.specs.Prelude.{Ok, Err}
use Rattle.text.specs.Utf8.{Bytes}
use Rattle.path.specs.Path.{names, pieces, keep, vanishes, same}
use Rattle.path.specs.declared.answer.TooLong.{TooLong}
use Rattle.path.specs.Answer.{Formed}
use Rattle.model.specs.Tree.{Path}
use Rattle.model.specs.Prog.{World, Out, refused, run}
use Rattle.model.specs.Lookup.{behind_link, no_follow, reached, following}
use Rattle.model.specs.Lookup as model
use Rattle.model.specs.Calls.States.{State}
use Rattle.model.proofs.Running.{then, run_bind}
use Rattle.model.proofs.Lookups.Pure.{chain, reach, following_is}
use Rattle.layout.specs.declared.kind.Kind.{Kind}
use Rattle.layout.specs.Store.{Store}
use Rattle.refusal.specs.declared.Refusal.{Refusal}
use Rattle.refusal.specs.declared.Refusal.TheVariants.{LinkLoop, PathTooLong}
use Rattle.refusal.specs.Numbers.{number_of}
use Rattle.ask_find.specs.declared.Gap.{Gap}
use Rattle.ask_find.specs.declared.Spot.{Spot}
use Rattle.store.specs.Shows.{Some}
use Rattle.walk.specs.declared.End.{End}
use Rattle.walk.specs.declared.End.TheVariants.{Found, Missing, LastLink}
use Rattle.walk.specs.declared.lookup.Walked.{Walked}
use Rattle.walk.specs.Meets.{Plain, PathIn, LinkAt, end_of, EndPlaced}
use Rattle.walk.specs.Lookups.{behind, Follows, Walks, InFront, Looks}
use Rattle.walk.proofs.Passing.{All, Following, kept_in_lem}
use Rattle.walk.proofs.Rooted.{some_asked}

by_lookup : (w : World) (b : ℕ) (p : Path) (ls : List Path) (o : Out model.Walked) → run (no_follow 40 p ls) w ≡ o → run (following b p ls) w ≡ then o (λ y u. run (reach b y) u)
by_lookup w b p ls o e =
    ap (λ (q : _). run q w) (following_is b p ls) ∙ run_bind (no_follow 40 p ls) (reach b) w ∙ ap (λ (x : Out model.Walked). then x (λ y u. run (reach b y) u)) e

-- ---- one world

-- so many links were followed, `left` last links may still be, and the path that they led to is the first n bytes of the buffer
pub record Linked (w : World) (bound : ℕ) (text out : Bytes) (left n total : ℕ) : Type 0 where
  pub links : List Path
  pub counted : length links ≡ total
  pub same : (ls : List Path) → run (following bound (names text) ls) w ≡ run (following left (names (take n out)) (ls ++ links)) w

linked-start : (w : World) (bound : ℕ) (out : Bytes) (n : ℕ) → Linked w bound (take n out) out bound n 0
linked-start w bound out n = record {
  links = [];
  counted = refl;
  same = λ ls. ap (λ (l : List Path). run (following bound (names (take n out)) l) w) (sym (append-nil ls));
}

-- a refusal
linked-refused : (st : Store) (s : State) (w : World) (h bound : ℕ) (text out : Bytes) (r : Refusal)
    → ((ls : List Path) → run (following bound (names text) ls) w ≡ refused (number_of r)) → Looks st s w h bound text out (Err r)
linked-refused st s w h bound text out r f = record { links = []; answer = f; place = tt }

module _ (st : Store) (s : State) (w : World) (h bound : ℕ) (text out : Bytes) (left n total : ℕ) (g : Linked w bound text out left n total) (after : Bytes) where
  linked-stopped : (r : Refusal) → Walks st s w h (take n out) after (Err r) → Looks st s w h bound text after (Err r)
  linked-stopped r y =
      linked-refused st s w h bound text after r (λ ls. g.same ls ∙ by_lookup w left (names (take n out)) (ls ++ g.links) _ (y.answer (ls ++ g.links)))

  module _ (r : Walked) (y : Walks st s w h (take n out) after (Ok r)) where
    abbrev here : Bytes
    here = take r.len after

    both : List Path
    both = g.links ++ y.links

    -- by what the walk ended in
    goes : (e : End) → r.end ≡ e → (ls : List Path) → run (following bound (names text) ls) w ≡ run (reach left (record { end = end_of here e; links = ls ++ both })) w
    unfolding both
    goes e z ls =
        g.same ls ∙ by_lookup w left (names (take n out)) (ls ++ g.links) _ (y.answer (ls ++ g.links))
        ∙ ap (λ (l : List Path). run (reach left (record { end = end_of here r.end; links = l })) w) (append_assoc ls g.links y.links)
        ∙ ap (λ (x : End). run (reach left (record { end = end_of here x; links = ls ++ both })) w) z

    counts : length both ≡ total + r.links
    unfolding both
    counts = length-append g.links y.links ∙ omega (arith, g.counted, y.place.0.counted)

    in-front : InFront both after r.len (total + r.links)
    in-front = record { counted = counts; fits = y.place.0.fits; plain = y.place.0.plain }

    placed : (e : End) → r.end ≡ e → EndPlaced st s w h here e
    placed e z = subst (EndPlaced st s w h here) z y.place.2

    linked-found : (spot : Spot) (k : Kind) → r.end ≡ Found spot k → Looks st s w h bound text after (Ok (Ok (record { spot = spot; kind = k; len = r.len; links = total + r.links })))
    unfolding reached run
    linked-found spot k z = let q = placed (Found spot k) z in record { links = both; answer = goes (Found spot k) z; place = (in-front, q.0, q.1) }

    linked-missing : (gap : Gap) (e : ℕ) → r.end ≡ Missing gap e → Looks st s w h bound text after (Ok (Err (record { gap = gap; upto = e; len = r.len; links = total + r.links })))
    unfolding reached run
    linked-missing gap e z = record { links = both; answer = goes (Missing gap e) z; place = (in-front, placed (Missing gap e) z) }

    -- at a last link
    module _ (spot : Spot) (d : ℕ) (e : r.end ≡ LastLink spot d) where
      linked-link : r.len ≤ length after → LinkAt st s w here spot d r.len
      linked-link f = subst (LinkAt st s w here spot d) (length-take-le r.len after f) (placed (LastLink spot d) e)

      last : (ls : List Path) (b : ℕ) → left ≡ b → run (following bound (names text) ls) w ≡ run (chain b (ls ++ both) (names here)) w
      unfolding reached
      last ls b z = goes (LastLink spot d) e ls ∙ ap (λ (k : ℕ). run (chain k (ls ++ both) (names here)) w) z

      -- "a chain of last links longer than the number of links in the tree is a loop"
      linked-loop : left ≡ 0 → (out₂ : Bytes) → Looks st s w h bound text out₂ (Err LinkLoop)
      unfolding run
      linked-loop z out₂ = linked-refused st s w h bound text out₂ LinkLoop (λ ls. last ls 0 z)

      module _ (low : 0 < left) (fit : r.len ≤ length after) (out₂ : Bytes) where
        hops : (t : Formed) → Follows w here r.len out₂ t → run (behind_link (names here) []) w ≡ behind w out₂ t
        unfolding names pieces keep vanishes same
        hops t f =
            let a : take r.len here ≡ here = take_all r.len here (omega (arith, length-take-le r.len after fit)) in
            let b : drop r.len here ≡ [] = ap (λ (k : ℕ). drop k here) (sym (length-take-le r.len after fit)) ∙ drop-length here in
            ap (λ (x : Bytes). run (behind_link (names x) []) w) (sym a) ∙ ap (λ (x : Bytes). run (behind_link (names (take r.len here)) (names x)) w) (sym b) ∙ f.answer

        one : (t : Formed) → Follows w here r.len out₂ t → (ls : List Path) (b : ℕ) → left ≡ suc b
            → run (following bound (names text) ls) w ≡ then (behind w out₂ t) (λ q u. run (following b q ((ls ++ both) ++ (names here ∷ []))) u)
        one t f ls b z =
            last ls (suc b) z ∙ run_bind (behind_link (names here) []) (λ q. following b q ((ls ++ both) ++ (names here ∷ []))) w
            ∙ ap (λ (o : Out Path). then o (λ q u. run (following b q ((ls ++ both) ++ (names here ∷ []))) u)) (hops t f)

        linked_long : (x : TooLong) → Follows w here r.len out₂ (Err x) → Looks st s w h bound text out₂ (Err PathTooLong)
        linked_long x f = linked-refused st s w h bound text out₂ PathTooLong (λ ls. one (Err x) f ls (left - 1) (omega arith))

        linked_on : (m : ℕ) → Follows w here r.len out₂ (Ok m) → Linked w bound text out₂ (left - 1) m (total + r.links + 1)
        linked_on m f = record {
          links = both ++ (names here ∷ []);
          counted = length-append both (names here ∷ []) ∙ omega (arith, counts);
          same = λ ls. one (Ok m) f ls (left - 1) (omega arith) ∙ ap (λ (l : List Path). run (following (left - 1) (names (take m out₂)) l) w) (append_assoc ls both (names here ∷ []));
        }

-- ---- all worlds

-- what some no-follow lookup says of its numbers
pub walks-few : {has : Store → Store} {h : ℕ} {text out : Bytes} {r : Walked} → Some has → All has h (λ st s w. Walks st s w h text out (Ok r)) → (r.links ≤ 40) × (r.len ≤ 1024)
walks-few {has} {h} y f =
    let a = some_asked (has y.0) y.1 h in
    let v = f y.0 y.1 y.2 a.0 a.1 in
    (v.place.1, v.place.0.fits)

-- so many links were followed in all worlds, `left` last links may still be, and the path that they led to is the first n bytes of the buffer
pub record Chained (has : Store → Store) (h bound : ℕ) (text first out : Bytes) (left n total : ℕ) : Type 0 where
  pub fits : n ≤ 1024
  pub long : length out ≡ length first
  pub plain : Plain (take n out)
  pub few : total + 41 * left ≤ 41 * 4096
  pub linked : All has h (λ st s w. Linked w bound text out left n total)

pub chain-plain : (has : Store → Store) (h bound : ℕ) (out : Bytes) (n : ℕ) → n ≤ 1024 → Plain (take n out) → bound ≤ 4096
    → Chained has h bound (take n out) out out bound n 0
chain-plain has h bound out n f p b = record { fits = f; long = refl; plain = p; few = omega arith; linked = λ st s y w a. linked-start w bound out n }

pub chain-start : (has : Store → Store) (h bound : ℕ) (out : Bytes) (n : ℕ) → PathIn out n → bound ≤ 4096 → Chained has h bound (take n out) out out bound n 0
chain-start has h bound out n p b = chain-plain has h bound out n p.few p.plain b

module _ {has : Store → Store} {h bound : ℕ} {text first out : Bytes} {left n total : ℕ} (g : Chained has h bound text first out left n total) (after : Bytes) where
  pub chain-stopped : (r : Refusal) → All has h (λ st s w. Walks st s w h (take n out) after (Err r)) → All has h (λ st s w. Looks st s w h bound text after (Err r))
  chain-stopped r walks st s y w a = linked-stopped (has st) s w h bound text out left n total (g.linked st s y w a) after r (walks st s y w a)

  module _ (r : Walked) (walks : All has h (λ st s w. Walks st s w h (take n out) after (Ok r))) where
    pub chain-found : (spot : Spot) (k : Kind) → r.end ≡ Found spot k → All has h (λ st s w. Looks st s w h bound text after (Ok (Ok (record { spot = spot; kind = k; len = r.len; links = total + r.links }))))
    chain-found spot k e st s y w a = linked-found (has st) s w h bound text out left n total (g.linked st s y w a) after r (walks st s y w a) spot k e

    pub chain-missing : (gap : Gap) (u : ℕ) → r.end ≡ Missing gap u
        → All has h (λ st s w. Looks st s w h bound text after (Ok (Err (record { gap = gap; upto = u; len = r.len; links = total + r.links }))))
    chain-missing gap u e st s y w a = linked-missing (has st) s w h bound text out left n total (g.linked st s y w a) after r (walks st s y w a) gap u e

    module _ (spot : Spot) (d : ℕ) (e : r.end ≡ LastLink spot d) where
      pub chain_link : r.len ≤ length after → All has h (λ st s w. LinkAt st s w (take r.len after) spot d r.len)
      chain_link fit st s y w a = linked-link (has st) s w h bound text out left n total (g.linked st s y w a) after r (walks st s y w a) spot d e fit

      pub chain-loop : left ≡ 0 → (out₂ : Bytes) → All has h (λ st s w. Looks st s w h bound text out₂ (Err LinkLoop))
      chain-loop z out₂ st s y w a = linked-loop (has st) s w h bound text out left n total (g.linked st s y w a) after r (walks st s y w a) spot d e z out₂

      module _ (low : 0 < left) (fit : r.len ≤ length after) (out₂ : Bytes) where
        pub chain-long : (x : TooLong) → Following has (take r.len after) spot d r.len out₂ (Err x) → All has h (λ st s w. Looks st s w h bound text out₂ (Err PathTooLong))
        chain-long x f st s y w a =
            linked_long (has st) s w h bound text out left n total (g.linked st s y w a) after r (walks st s y w a) spot d e low fit out₂ x (f st s y h w a (chain_link fit st s y w a))

        pub chain_on : Some has → (m : ℕ) → Following has (take r.len after) spot d r.len out₂ (Ok m) → length out₂ ≡ length first → Chained has h bound text first out₂ (left - 1) m (total + r.links + 1)
        chain_on y m f long =
            let p = kept_in_lem has h (take r.len after) spot d r.len out₂ (Ok m) y (chain_link fit) f in
            let q = walks-few y walks in
            record {
              fits = p.0;
              long = long;
              plain = p.1;
              few = omega (arith, g.few, q.0);
              linked = λ st s y w a.
                  linked_on (has st) s w h bound text out left n total (g.linked st s y w a) after r (walks st s y w a) spot d e low fit out₂ m (f st s y h w a (chain_link fit st s y w a));
            }
