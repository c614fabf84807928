-- Document 01, "Span listing": "Runs over [a, b), the first starting at a: joined as long as the pair is equal". Assumes nothing.
use Rattle.std.specs.Prelude.{ℕ, zero, suc, ◌-◌, max, Bool, true, false, cond, not, ◌&&◌, List, [], ◌∷◌, ◌++◌, map}
use Rattle.rule.specs.declared.Pair.{Pair}
use Rattle.rule.specs.Pairs.{same_pair, combine}
use Rattle.rule.specs.Time.{overlaps}
use Rattle.fields.specs.Numbers.{u32_bytes, i32_bytes, i64_bytes}
use Rattle.page.specs.declared.Head.{Head}
use Rattle.page.specs.Layout.{entry_count, start_at, pair_at, child_at, head_of}
use Rattle.page.specs.Fit.{PageContext, root_context, context_below, end_at, page_fit}
use Rattle.image.specs.Images.{page_at}

-- A run: from its start up to the next one's the pair is the same.
pub record Run : Type 0 where
  pub start : ℕ
  pub pair : Pair

abbrev pub run : ℕ → Pair → Run
run start p = record { start = start; pair = p }

-- "16 bytes each: start (u32), count (i32), sum (i64)"
unfoldable pub run_bytes : Run → List ℕ
run_bytes r = u32_bytes r.start ++ (i32_bytes r.pair.count ++ i64_bytes r.pair.sum)

-- What a walk over the leaf entries of a span finds: whether every page that it met is fit, and a run for each entry.
pub record Walked : Type 0 where
  pub fit : Bool
  pub runs : List Run

-- no page was met
unfoldable pub nothing : Walked
nothing = record { fit = true; runs = [] }

-- an unfit page was met
unfoldable pub stopped : Walked
stopped = record { fit = false; runs = [] }

-- one walk, and then another
unfoldable pub then : Walked → Walked → Walked
then v w = record { fit = v.fit && w.fit; runs = v.runs ++ w.runs }

unfoldable pub in_turn : ℕ → (ℕ → Walked) → Walked
in_turn zero f = nothing
in_turn (suc n) f = then (in_turn n f) (f n)

-- the runs below an entry, with the entry's pair combined into each
unfoldable pub under : (Pair → Pair → Pair) → Pair → Walked → Walked
under comb p w =
    record { fit = w.fit; runs = map (λ r. record { start = r.start; pair = comb p r.pair }) w.runs }

-- a leaf entry's own run, from where it meets the span on
unfoldable pub leaf_run : ℕ → ℕ → Pair → Walked
leaf_run a start p = record { fit = true; runs = record { start = max a start; pair = p } ∷ [] }

-- of a fit page, what each entry gives that overlaps [a, b), in turn
unfoldable pub walk_page : ℕ → Head → ℕ → ℕ → PageContext → List ℕ → (ℕ → Walked) → Walked
walk_page half h a b at s below =
    let found =
    in_turn (entry_count s)
    (λ i. let w = below i in cond (overlaps a b (start_at s i) (end_at s at.hi i)) w nothing) in
    cond (page_fit half h at s) found stopped

-- from page p in its context, of the level named: a leaf entry gives its own run, an inner one the runs of the page below
unfoldable pub walk : ℕ → Head → List ℕ → ℕ → ℕ → ℕ → PageContext → ℕ → Walked
walk half h img a b zero at p =
    let s = page_at half img p in
    walk_page half h a b at s (λ i. leaf_run a (start_at s i) (pair_at half s i))
walk half h img a b (suc l) at p =
    let s = page_at half img p in
    walk_page half h a b at s
    (λ i. under (combine h.kind) (pair_at half s i) (walk half h img a b l (context_below half s at i) (child_at half s i)))

-- "joined as long as the pair is equal": the runs behind one whose pair is p
unfoldable pub join_after : Pair → List Run → List Run
join_after p [] = []
join_after p (r ∷ rs) = cond (same_pair p r.pair) (join_after p rs) (r ∷ join_after r.pair rs)

unfoldable pub join : List Run → List Run
join [] = []
join (r ∷ rs) = r ∷ join_after r.pair rs

-- There is none to be joined: no two neighbours have the same pair. First of those behind one whose pair is p.
unfoldable pub differ_after : Pair → List Run → Bool
differ_after p [] = true
differ_after p (r ∷ rs) = not (same_pair p r.pair) && differ_after r.pair rs

unfoldable pub neighbours_differ : List Run → Bool
neighbours_differ [] = true
neighbours_differ (r ∷ rs) = differ_after r.pair rs

-- from the root
unfoldable pub walk_over : ℕ → List ℕ → ℕ → ℕ → Walked
walk_over half img a b =
    let h = head_of (page_at half img 0) in
    walk half h img a b (h.height - 1) (root_context h) h.root
