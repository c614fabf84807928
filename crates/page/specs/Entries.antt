-- A page's entries as a list: finding the entry of an instant, and the edits that the steps make. Assumes nothing.
use Rattle.std.specs.Prelude.{ℕ, suc, cond, List, [], ◌∷◌, ◌++◌, map, get_or, take, drop, leb}
use Rattle.rule.specs.declared.Pair.{Pair}
use Rattle.rule.specs.Pairs.{none}
use Rattle.page.specs.declared.Entry.{Entry}

-- An entry of the three numbers that it is made of.
abbrev pub entry : ℕ → Pair → ℕ → Entry
entry start pair child = record { start = start; pair = pair; child = child }

-- What stands for an entry that is not there: no definition below looks at it on a sound image.
abbrev pub no_entry : Entry
no_entry = entry 0 none 0

-- the i-th entry
abbrev pub at : List Entry → ℕ → Entry
at es i = get_or es i no_entry

-- "the last entry starting at t or before": its index, counted from 0
unfoldable pub last_from : ℕ → ℕ → ℕ → List Entry → ℕ
last_from t i found [] = found
last_from t i found (e ∷ es) = last_from t (suc i) (cond (leb e.start t) i found) es

-- the index of the last entry starting at t or before
unfoldable pub index_of : ℕ → List Entry → ℕ
index_of t es = last_from t 0 0 es

-- e as the i-th entry, those from there on behind it
unfoldable pub inserted : {A : Type 0} → ℕ → A → List A → List A
inserted i e es = take i es ++ (e ∷ drop i es)

-- "combined into its page's entries"
unfoldable pub push : (Pair → Pair → Pair) → Pair → List Entry → List Entry
push combine p es = map (λ e. entry e.start (combine p e.pair) e.child) es
