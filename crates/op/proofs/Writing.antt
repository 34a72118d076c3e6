-- What an answer leaves in what a call is lent, for each sort of answer.
-- Assumes nothing.
use mathlib.Core.List.{◌++◌}
use mathlib.Core.Path.{◌≡◌, refl, ap, ◌∙◌}
use Prim.Native.Nat.{ℕ, ◌+◌}
use native.Mathlib.Omega.{arith}
use lib.ListN.{length, drop}
use lib.Seq.{paste, take-length}
use Rattle.text.specs.Utf8.{Bytes}
use Rattle.model.specs.Operations.Steps.{plain_reply, number_reply, bytes_reply}
use Rattle.model.specs.Buffers.{row_numbers, in_front, written}
use Rattle.op.specs.Lending.{in_bytes, in_links, in_number, in_nothing}

pub links-written : (c k : ℕ) → in_links c ≡ written (plain_reply c) (in_links k)
unfolding row_numbers
links-written c k = refl

pub nothing_written : in_nothing ≡ written (plain_reply 0) in_nothing
unfolding row_numbers
nothing_written = refl

pub number-written : (n k : ℕ) → in_number n ≡ written (number_reply n 0) (in_number k)
unfolding row_numbers
number-written n k = refl

pub bytes-written : (s out left : Bytes) (n m c k : ℕ) → left ≡ in_front s out → m ≡ length s → in_bytes left m c ≡ written (bytes_reply s c) (in_bytes out n k)
unfolding row_numbers
bytes-written s out left n m c k e f = ap (λ (l : Bytes). in_bytes l m c) e ∙ ap (λ (i : ℕ). in_bytes (in_front s out) i c) f

-- what is copied over the front stands there
pub over_front : (s out : Bytes) → paste out 0 s (length s) ≡ in_front s out
over_front s out =
    let z : 0 + length s ≡ length s = omega arith in
    ap (λ (x : Bytes). x ++ drop (0 + length s) out) (take-length s) ∙ ap (λ (k : ℕ). s ++ drop k out) z
