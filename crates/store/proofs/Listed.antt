-- What a store lists of a directory is what each state that it shows lists there: a listing is an answer of the model, and so is the
-- metadata of an entry of it. What is left behind an entry is read off the store alone, so it is one list for all these states.
-- Assumes nothing.
use mathlib.Core.List.{List, [], ◌∷◌, ◌++◌}
use mathlib.Core.Path.{◌≡◌, refl, sym, ap, ◌∙◌, subst}
use Prim.Native.Nat.{ℕ}
use native.Mathlib.Omega.{arith}
use lib.ListN.{length, take, get_or}
use Rattle.text.specs.Utf8.{Bytes}
use Rattle.path.specs.Path.{Name}
use Rattle.model.specs.Tree.{Path}
use Rattle.model.specs.Prog.{Stat, stat?, list?, answer}
use Rattle.model.specs.Operations.Shows.{names_text}
use Rattle.model.specs.Calls.States.{State}
use Rattle.layout.specs.Numbers.{count_at}
use Rattle.layout.specs.Store.{Store}
use Rattle.layout.specs.Lent.{◌∘◌, with_words, with_records, with_bytes}
use Rattle.edit_room.specs.Extents.{trim}
use Rattle.ask_find.specs.declared.Spot.{Spot}
use Rattle.std.specs.Prelude.{Option, Some, None}
use Rattle.ask_list.specs.Listed.{Placed, Roomy, listing_of, Rest}
use Rattle.store.specs.Shows.{Shows, SomeEntry}
use Rattle.store.specs.Listing.{listed, StepIs, SomeFitting}
use Rattle.store.proofs.Asked.{told}

-- an entry of a store that shows a state is one of a lawful store, by the records that there are
pub placed_live : {words records live : List ℕ} {spot : Spot} → live ≡ take (get_or words count_at 0) records → SomeEntry (with_words words ∘ with_records records) spot → Placed live spot
placed_live {words} {records} e x =
    let u = (with_words words ∘ with_records records) x.0 in
    (u.bytes, record { store = trim u; path = x.2; records = sym e; bytes = refl; lawful = x.3.roomy.lawful; at = x.4 })

module _ {u : Store} {s : State} (h : Shows u s) (p : Path) where
  pub listed-told : listing_of (trim u) p ≡ listed s p
  unfolding answer
  listed-told = told u s h (list? p)

  pub step-told : (l : List (Name × Stat)) (r : Option Spot) → Rest (trim u) p l r → StepIs u s p l r
  step-told l (Some k) x = record {
    name = x.name;
    stat = x.stat;
    list = x.list;
    at = x.at;
    told = sym (told u s h (stat? (p ++ (x.name ∷ [])))) ∙ x.told;
  }
  step-told l None x = x

  pub first_told : (r : Option Spot) → Rest (trim u) p (listing_of (trim u) p) r → StepIs u s p (listed s p) r
  first_told r x = step-told (listed s p) r (subst (λ (l : List (Name × Stat)). Rest (trim u) p l r) listed-told x)

-- what fits in the words of the state fits in those of the store
pub roomy : (words records bytes : List ℕ) (spot : Spot) (out : Bytes) → SomeFitting (with_words words ∘ with_records records ∘ with_bytes bytes) spot out
    → Roomy (take (get_or words count_at 0) records) bytes spot out
roomy words records bytes spot out x =
    let u = (with_words words ∘ with_records records ∘ with_bytes bytes) x.0 in
    record {
      held = record { store = trim u; path = x.2; records = refl; bytes = refl; lawful = x.3.roomy.lawful; at = x.4 };
      fits = omega (arith, x.5, ap (λ (l : List (Name × Stat)). length (names_text l)) (listed-told x.3 x.2));
    }
