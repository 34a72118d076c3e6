use Rattle.std.proofs.Common.{◌≡◌, IfSome, Some, None, Option, take, ℕ, List, ap, ◌∙◌, le_refl}
use Rattle.std.specs.Option.{option_map}
use Rattle.std.proofs.lemmas.List.{take-take}
use Rattle.test_shown.proofs.read.whole_input.Goals as goal

-- what is read to the end of the first n bytes are the first n bytes of all, and to keep n of them keeps them all
first_of : (o : Option (List ℕ)) (n : ℕ) (read kept : List ℕ) → kept ≡ take n read → IfSome (option_map (take n) o) (λ xs. read ≡ xs)
    → IfSome o (λ all. kept ≡ take n all)
first_of None n read kept k h = tt
first_of (Some all) n read kept k h = k ∙ ap (take n) h ∙ take-take n n all (le_refl n)

pub returns-clause-bytes : goal.returns-clause-bytes
returns-clause-bytes g c =
    first_of (g.R.Read.remaining c.args.from.now) 65536 _ _ c.truncate.ensures.items
    (rw (c.take.ensures.inner, c.take.ensures.limit, c.new-text.ensures.items) at c.in_ok-read_to_end.ensures.bytes)
