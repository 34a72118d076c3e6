-- What it leaves of the entries to put one in, to take some out, and to move some.
-- Assumes nothing.
use Rattle.std.specs.Prelude.{◌≡◌, cond, List, ◌∷◌, ◌++◌, ℕ, suc, ◌+◌, ◌-◌, ◌≤◌, ◌<◌, leb, length, take, drop, get_or, map}
use Rattle.layout.specs.Numbers.{depths}
use Rattle.layout.specs.Fields.{depth_of, slot_of}
use Rattle.layout.specs.Rows.{Row, rows, name_total}
use Rattle.layout.specs.Slots.{total, contents}
use Rattle.layout.specs.Parts.{deepen}
use Rattle.blocks.specs.Turn.{turned}

-- the entry of a word and a name
abbrev pub row_of : ℕ → List ℕ → Row
row_of w x = record { depth = depth_of w; name = x; slot = slot_of w }

-- what is left where an entry, its word w and its name x, is put before the k-th of the first count
pub record Opened (ws bs ws' bs' : List ℕ) (count k w : ℕ) (x : List ℕ) : Type 0 where
  pub words : take (count + 1) ws' ≡ take k (take count ws) ++ (w ∷ drop k (take count ws))
  pub all : rows (take (count + 1) ws') bs' ≡ take k (rows (take count ws) bs) ++ (row_of w x ∷ drop k (rows (take count ws) bs))
  pub sum : name_total (take (count + 1) ws') ≡ name_total (take count ws) + length x
  pub texts : (hs : List ℕ) → name_total (take count ws) + length x + total hs ≤ length bs → contents hs bs' ≡ contents hs bs
  pub record_count : length ws' ≡ length ws
  pub byte_count : length bs' ≡ length bs

-- what is left where the entries from a to b are taken out of the first count
pub record Closed (ws bs ws' bs' : List ℕ) (count a b : ℕ) : Type 0 where
  pub words : take (count - (b - a)) ws' ≡ take a (take count ws) ++ drop b (take count ws)
  pub all : rows (take (count - (b - a)) ws') bs' ≡ take a (rows (take count ws) bs) ++ drop b (rows (take count ws) bs)
  pub sum : name_total (take (count - (b - a)) ws') + name_total (drop a (take b ws)) ≡ name_total (take count ws)
  pub texts : (hs : List ℕ) → name_total (take count ws) + total hs ≤ length bs → contents hs bs' ≡ contents hs bs
  pub record_count : length ws' ≡ length ws
  pub byte_count : length bs' ≡ length bs

-- those from a to b changed
abbrev pub changed : {A : Type 0} → (A → A) → List A → ℕ → ℕ → List A
changed f xs a b = take a xs ++ (map f (drop a (take b xs)) ++ drop b xs)

-- a word with a depth greater by up and less by down
abbrev pub lift : ℕ → ℕ → ℕ → ℕ
lift up down w = w - depth_of w + (depth_of w + up - down)

-- an entry with such a depth
abbrev pub raise : ℕ → ℕ → Row → Row
raise up down r = record { depth = r.depth + up - down; name = r.name; slot = r.slot }

-- entries of which those from a to b are so raised
abbrev pub raised : List Row → ℕ → ℕ → ℕ → ℕ → List Row
raised rs a b up down = changed (raise up down) rs a b

-- a list with those from a to b before the p-th, where p is not between them
abbrev pub move_to : {A : Type 0} → List A → ℕ → ℕ → ℕ → List A
move_to xs a b p = cond (leb p a) (turned xs p a b) (turned xs a b p)

-- the depth of a word's entry may change so
pub record Liftable (w up down : ℕ) : Type 0 where
  pub low : down ≤ depth_of w + up
  pub high : depth_of w + up < down + depths

-- the depths of the entries from a to b may
abbrev pub Liftables : List ℕ → ℕ → ℕ → ℕ → ℕ → Type 0
Liftables ws a b up down = (j : ℕ) → a ≤ j → j < b → Liftable (get_or ws j 0) up down

-- what is left where the entries from a to b of the first count are raised and moved before the p-th
pub record Moved (ws bs ws' bs' : List ℕ) (count a b p up down : ℕ) : Type 0 where
  pub words : take count ws' ≡ move_to (changed (lift up down) (take count ws) a b) a b p
  pub all : rows (take count ws') bs' ≡ move_to (raised (rows (take count ws) bs) a b up down) a b p
  pub sum : name_total (take count ws') ≡ name_total (take count ws)
  pub behind : drop count ws' ≡ drop count ws
  pub rest : drop (name_total (take count ws)) bs' ≡ drop (name_total (take count ws)) bs
  pub record_count : length ws' ≡ length ws
  pub byte_count : length bs' ≡ length bs

-- what is left where the entry at i goes one deeper under the name x, with those below it up to e, and an entry of its old name and of
-- slot s stands in its place
pub record Lowered (ws bs ws' bs' : List ℕ) (count i e s : ℕ) (x : List ℕ) : Type 0 where
  pub all : (A : List Row) (r : Row) (X C : List Row) → rows (take count ws) bs ≡ A ++ (r ∷ (X ++ C)) → length A ≡ i → suc (i + length X) ≡ e
      → rows (take (count + 1) ws') bs'
      ≡ A ++ (record { depth = r.depth; name = r.name; slot = s } ∷ (record { depth = suc r.depth; name = x; slot = r.slot } ∷ (deepen r.depth (suc r.depth) X ++ C)))
  pub sum : name_total (take (count + 1) ws') ≡ name_total (take count ws) + length x
  pub texts : (hs : List ℕ) → name_total (take count ws) + length x + total hs ≤ length bs → contents hs bs' ≡ contents hs bs
  pub record_count : length ws' ≡ length ws
  pub byte_count : length bs' ≡ length bs
