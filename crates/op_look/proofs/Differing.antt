-- What a test of a kind by `!=` tells.
-- Assumes nothing.
use mathlib.Core.Bool.{true, false, not}
use mathlib.Core.Path.{◌≡◌, sym}
use denote.Enum.Bare.{sameb, differs_true, differs_false}
use Rattle.std.proofs.Common.{rules}
use Rattle.layout.specs.contracts.kind.Kind.{the_type}
use Rattle.layout.specs.declared.kind.Kind.{Kind}

pub same_kind : (a b : Kind) → false ≡ not (sameb the_type a b) → a ≡ b
same_kind a b h = differs_false the_type (search rules) a b (sym h)

pub other_kind : (a b : Kind) → true ≡ not (sameb the_type a b) → a ≡ b → ⊥
other_kind a b h = differs_true the_type a b (sym h)
