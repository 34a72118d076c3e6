-- What the steps of the walk test: the ranges of octets that they speak of.
-- Assumes nothing.
use Rattle.std.specs.Prelude.{[], ℕ, get_or}
use Rattle.text.specs.Utf8.{Range, tail, rows}

-- the second range of the row that the class `lead` begins
unfoldable pub second_of : ℕ → Range
second_of lead = get_or (get_or rows lead []) 1 tail
