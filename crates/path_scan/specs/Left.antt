-- A text that is read from its end: what is left of it is its front.
-- Assumes nothing.
use Rattle.std.specs.Prelude.{Bool, ◌≡◌, ℕ, ◌+◌, length, take, Option, Some, None, IfSome}
use Rattle.std.specs.Borrow.{Bor}
use Rattle.text.specs.Utf8.{Bytes}
use Rattle.path.specs.Answer.{NextIs}

-- one more than the bytes that are left; 0: nothing is, not even the empty piece in front of a first slash
abbrev pub rest : Option (Bor Bytes) → ℕ
rest (Some l) = length l.now + 1
rest None = 0

-- what is left is the front of the text s
abbrev pub FrontOf : Bytes → Option (Bor Bytes) → Type 0
FrontOf s left = IfSome left (λ l. l.now ≡ take (length l.now) s)

-- the next name that is kept, of whatever text this is the front
abbrev pub ReadsOn : (strike : Bool) (left : Option (Bor Bytes)) (skip : ℕ) → Option (ℕ × ℕ) → (left' : Option (Bor Bytes)) (skip' : ℕ) → Type 0
ReadsOn strike left skip r left' skip' = (s : Bytes) → FrontOf s left → FrontOf s left' × NextIs strike s (rest left) skip r (rest left') skip'
