-- Images into which an effect can be combined: what step C asks of each page that it meets, in the image as it is then. The level falls
-- from a page to the pages below, as in the step's definition. Assumes nothing.
use Rattle.std.specs.Prelude.{ℕ, zero, suc, ◌-◌, ◌≤◌, ◌<◌, ◌≡◌, Bool, true, false, List, [], ◌∷◌, length}
use Rattle.rule.specs.Pairs.{combine}
use Rattle.rule.specs.Bounds.{Combinable}
use Rattle.rule.specs.Time.{END, overlaps}
use Rattle.page.specs.declared.Entry.{Entry}
use Rattle.page.specs.Entries.{at}
use Rattle.image.specs.Images.{Image}
use Rattle.steps.specs.Supply.{entries}
use Rattle.steps.specs.Combine.{inside, next_start, end_in, took, sent, combine_page, combine_span}
use Rattle.store.specs.Preconditions.{TreePage, HasEntry}
use Rattle.combine_span.specs.declared.SpanEffect.{SpanEffect}

-- ---- the step's definitions at a span and an effect

abbrev pub inside_by : SpanEffect → ℕ → Entry → Bool
inside_by q hi x = inside q.s q.e x.start hi

abbrev pub meets_by : SpanEffect → ℕ → Entry → Bool
meets_by q hi x = overlaps q.s q.e x.start hi

abbrev pub took_by : SpanEffect → ℕ → Entry → Entry
took_by q = took (combine q.kind) q.s q.e q.effect

-- the entries of a page that ends at hi, each as it is once those inside have taken the effect
unfoldable pub all_took : SpanEffect → ℕ → List Entry → List Entry
all_took q hi [] = []
all_took q hi (x ∷ xs) = took_by q (next_start hi xs) x ∷ all_took q hi xs

abbrev pub page_by : SpanEffect → ℕ → ℕ → ℕ → Image → Image
page_by q = combine_page (combine q.kind) q.s q.e q.effect

-- what becomes of the page below an entry of a page of that level; a leaf has none
unfoldable pub below_by : SpanEffect → ℕ → ℕ → ℕ → Image → Image
below_by q zero hi p X = X
below_by q (suc l) hi p X = page_by q l hi p X

abbrev pub sent_by : SpanEffect → ℕ → ℕ → Entry → Image → Image
sent_by q level = sent (combine q.kind) q.s q.e q.effect (below_by q level)

abbrev pub combine_span_by : SpanEffect → Image → Image
combine_span_by q = combine_span (combine q.kind) q.s q.e q.effect

-- ---- what is asked

-- "an entry wholly inside the span takes the effect": they can be combined
pub record Takes (q : SpanEffect) (hi : ℕ) (x : Entry) : Type 0 where
  pub combines : inside_by q hi x ≡ true → Combinable x.pair q.effect

-- the same of the i-th entry of page p, a tree page of that level
pub record EntryTakes (q : SpanEffect) (hi p i level : ℕ) (X : Image) : Type 0 where
  pub has : HasEntry level p i X
  pub takes : Takes q (end_in hi (entries X p) i) (at (entries X p) i)

-- the same of each of its entries
pub record PageTakes (q : SpanEffect) (hi p level : ℕ) (X : Image) : Type 0 where
  pub tree_page : TreePage level p X
  pub each : (i : ℕ) → i < length (entries X p) → Takes q (end_in hi (entries X p) i) (at (entries X p) i)

-- "one partly inside sends it to its child": the child is ready
pub record Sends (q : SpanEffect) (below : ℕ → ℕ → Image → Type 0) (hi : ℕ) (x : Entry) (X : Image) : Type 0 where
  pub ready : inside_by q hi x ≡ false → meets_by q hi x ≡ true → below hi x.child X

-- the entries of page p of that level, in turn, each in the image as those before it leave it: what an entry sends below leaves p as it is
unfoldable pub EntriesCombinable : SpanEffect → (ℕ → ℕ → Image → Type 0) → ℕ → ℕ → ℕ → List Entry → Image → Type 0
EntriesCombinable q below level hi p [] X = Unit {0}
EntriesCombinable q below level hi p (x ∷ xs) X =
    let end = next_start hi xs in
    let Y = sent_by q level end x X in
    Takes q end x × Sends q below end x X × (Y.page p ≡ X.page p) × EntriesCombinable q below level hi p xs Y

-- page p is a tree page of that level, and its entries are ready
pub record PageOver (q : SpanEffect) (below : ℕ → ℕ → Image → Type 0) (level hi p : ℕ) (X : Image) : Type 0 where
  pub tree_page : TreePage level p X
  pub each : EntriesCombinable q below level hi p (entries X p) X

-- the page below an entry of a page of that level; a leaf has none
unfoldable pub BelowCombinable : SpanEffect → ℕ → ℕ → ℕ → Image → Type 0
BelowCombinable q zero hi p X = Unit {0}
BelowCombinable q (suc l) hi p X = PageOver q (λ end c Y. BelowCombinable q l end c Y) l hi p X

abbrev pub PageCombinable : SpanEffect → ℕ → ℕ → ℕ → Image → Type 0
PageCombinable q level = PageOver q (BelowCombinable q level) level

abbrev pub EntryCombinable : SpanEffect → ℕ → ℕ → Entry → Image → Type 0
EntryCombinable q level = Sends q (BelowCombinable q level)

-- "from the root"
pub record SpanCombinable (q : SpanEffect) (X : Image) : Type 0 where
  pub least : 1 ≤ X.head.height
  pub root : PageCombinable q (X.head.height - 1) END X.head.root X
