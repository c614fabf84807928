-- Document 01, "The plain book of demand 3". Assumes nothing.
use Rattle.std.specs.Prelude.{ℕ, zero, suc, ◌-◌, cond, not, List, [], ◌∷◌, length, eqb, ℤ}
use Rattle.rule.specs.declared.Pair.{Pair}
use Rattle.rule.specs.Time.{span_ok, effect_end, covers}
use Rattle.rule.specs.Pairs.{none, same_pair, combine}
use Rattle.image.specs.Listing.{Run}
use Rattle.calls.specs.Refusals.{first}
use Rattle.calls.specs.Changes.{Side, effect, Change}
use Rattle.calls.specs.Calls.{Listed, too_short, written}

-- "an item: s, e' and (v, 1), for a withdrawal (−v, −1)"
pub record Item : Type 0 where
  pub s : ℕ
  pub e : ℕ
  pub pair : Pair

-- "The book is fed kind and window .. never the image. It keeps a list of items, empty at first."
pub record Book : Type 0 where
  pub kind : ℕ
  pub window : ℕ
  pub items : List Item

unfoldable pub empty_book : ℕ → ℕ → Book
empty_book kind window = record { kind = kind; window = window; items = [] }

-- "Enter or withdraw of v on [s, e) that returned 0 adds an item .. Any other number adds nothing"
unfoldable pub entered : ℕ → Side → ℤ → ℕ → ℕ → Book → Book
entered number side v s e B =
    let item : Item = record { s = s; e = effect_end e B.window; pair = effect side v } in
    cond (eqb number 0) (record { kind = B.kind; window = B.window; items = item ∷ B.items }) B

-- the book of accepted changes, entered one after the other, the first first
unfoldable pub entered_all : List Change → Book → Book
entered_all [] B = B
entered_all (c ∷ cs) B = entered_all cs (entered 0 c.side c.v c.s c.e B)

unfoldable pub book_of : ℕ → ℕ → List Change → Book
book_of kind window cs = entered_all cs (empty_book kind window)

-- "Its pair at t is over the items with s ≤ t < e': for kind 1 their pairs added, for kinds 2 and 3 the greatest or least value
-- with 1; (0, 0) if there are none."
unfoldable pub items_pair : ℕ → List Item → ℕ → Pair
items_pair kind [] t = none
items_pair kind (i ∷ items) t =
    let rest = items_pair kind items t in
    cond (covers i.s i.e t) (combine kind i.pair rest) rest

unfoldable pub book_pair : Book → ℕ → Pair
book_pair B t = items_pair B.kind B.items t

-- "one at each later instant below b whose pair isn't that of the instant before": the k instants after t
unfoldable pub runs_after : (ℕ → Pair) → ℕ → ℕ → List Run
runs_after f t zero = []
runs_after f t (suc k) =
    let rest = runs_after f (suc t) k in
    cond (same_pair (f t) (f (suc t))) rest (record { start = suc t; pair = f (suc t) } ∷ rest)

-- "Its runs over [a, b): one starts at a, and one at each later instant below b whose pair isn't that of the instant before;
-- each has its start's count and sum."
unfoldable pub runs_of : (ℕ → Pair) → ℕ → ℕ → List Run
runs_of f a b = record { start = a; pair = f a } ∷ runs_after f a (b - suc a)

-- "a listing 11 if a ≥ b, else 15 if the output is shorter than the book's runs, else 0, their number, and an output that begins
-- with them and keeps the rest": for any pairs of instants
unfoldable pub listing_of : (ℕ → Pair) → ℕ → ℕ → List ℕ → Listed
listing_of f a b out =
    let runs = runs_of f a b in
    let number = first ((11, not (span_ok a b)) ∷ (15, too_short out runs) ∷ []) in
    record {
      status = number;
      runs = cond (eqb number 0) (length runs) 0;
      output = cond (eqb number 0) (written out runs) out;
    }
