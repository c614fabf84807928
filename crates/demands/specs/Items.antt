-- The items of a list of changes, and what accepted changes have in common. Assumes nothing.
use Rattle.std.specs.Prelude.{ℕ, ◌≡◌, true, false, not, ◌&&◌, List, [], ◌∷◌, eqb}
use Rattle.rule.specs.declared.Pair.{Pair}
use Rattle.rule.specs.Time.{span_ok, effect_end}
use Rattle.calls.specs.Changes.{withdraws, effect, Change}
use Rattle.book.specs.Book.{Item}

-- the pair that a change adds, whenever it counts
unfoldable pub effect_of : Change → Pair
effect_of c = effect c.side c.v

-- the items that a book of window w gets from them, the latest first
unfoldable pub item_of : ℕ → Change → Item
item_of w c = record { s = c.s; e = effect_end c.e w; pair = effect_of c }

unfoldable pub items_onto : ℕ → List Change → List Item → List Item
items_onto w [] items = items
items_onto w (c ∷ cs) items = items_onto w cs (item_of w c ∷ items)

unfoldable pub items_of : ℕ → List Change → List Item
items_of w cs = items_onto w cs []

-- "A span [s, e) has s < e ≤ END."
abbrev pub Spanned : Change → Type 0
Spanned c = span_ok c.s c.e ≡ true

-- an entry
abbrev pub Enters : Change → Type 0
Enters c = withdraws c.side ≡ false

-- not turned back by 22: "withdrawal, kind 2 or 3"
abbrev pub Sided : ℕ → Change → Type 0
Sided kind c = withdraws c.side && not (eqb kind 1) ≡ false
