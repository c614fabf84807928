-- Instant and listing agree on every image: a listing has the runs of what instants answer. Assumes nothing.
use Prim.Native.Nat.{ℕ, ◌-◌, ◌≤◌, ◌<◌}
use mathlib.Core.Path.{◌≡◌, refl, sym, ◌∙◌}
use mathlib.Core.Logic.{◌≢◌}
use mathlib.Core.Bool.{Bool, true, false, cond, not, ◌&&◌, and-eq-true_iff, false≢true}
use mathlib.Core.List.{List, [], ◌∷◌}
use native.Mathlib.Omega.{arith}
use lib.ListN.{length}
use lib.Dec.{eqb}
use borrow.Author.Tests.{ltb-true, leb-true}
use Rattle.rule.specs.declared.Pair.{Pair}
use Rattle.rule.specs.Time.{END, Span, span_ok}
use Rattle.page.specs.declared.Head.{Head}
use Rattle.page.specs.Layout.{head_of}
use Rattle.page.specs.Fit.{root_context}
use Rattle.image.specs.Images.{page_at, length_ok}
use Rattle.image.specs.Instant.{look_up}
use Rattle.image.specs.Listing.{Run, walk_over}
use Rattle.calls.specs.Refusals.{first}
use Rattle.calls.specs.Calls.{head_ok, instant, Listed, runs_over, too_short, written, listing_status, listing}
use Rattle.book.specs.Book.{runs_of, listing_of}
use Rattle.image.proofs.Tiles.{Tiles, tiles_at}
use Rattle.answers.proofs.Tiles.{join_tiles, runs_of_same}
use Rattle.answers.proofs.Look.{Found, half_some}
use Rattle.answers.proofs.Walk.{within, walk_top, walk_tiles}
use Rattle.answers.proofs.Calls.{Answered, instant_pair}

module _ (half : ℕ) (img : List ℕ) (a b : ℕ) (span : Span a b) (fits : (walk_over half img a b).fit ≡ true) where
  -- the walk's runs tile the span with what lookups find
  walk_over_tiles : Tiles (λ t p. Found (look_up half img t) p) a b (walk_over half img a b).runs
  unfolding walk_over look_up root_context
  walk_over_tiles =
      let h : Head = head_of (page_at half img 0) in
      let top = walk_top half h img a b (h.height - 1) (root_context h) h.root fits in
      let some = half_some half h (page_at half img h.root) top in
      let all = walk_tiles half h img a b some span.before (h.height - 1) (root_context h) h.root fits in
      let lo : within a b 0 ≡ a = omega arith in
      let hi : within a b END ≡ b = omega (arith, span.before, span.within) in
      rw (lo, hi) at all

  -- a lookup of any instant of the span meets only fit pages too
  pub looks_fit : (t : ℕ) → a ≤ t → t < b → (look_up half img t).fit ≡ true
  looks_fit t l g = (tiles_at walk_over_tiles t l g).1.fit

  -- and what the listing writes are the runs of what the lookups find
  pub runs_agree : runs_over half a b img ≡ runs_of (λ t. (look_up half img t).pair) a b
  unfolding runs_over
  runs_agree = join_tiles (λ t. (look_up half img t).pair) (λ t p f. f.pair) walk_over_tiles span.before

-- two images in which the instants of a span have the same pairs have the same runs over it
pub same_instants : (half half' : ℕ) (img img' : List ℕ) (a b : ℕ) → Span a b
    → (walk_over half img a b).fit ≡ true → (walk_over half' img' a b).fit ≡ true
    → ((t : ℕ) → a ≤ t → t < b → (look_up half img t).pair ≡ (look_up half' img' t).pair)
    → runs_over half a b img ≡ runs_over half' a b img'
same_instants half half' img img' a b span e e' f =
    runs_agree half img a b span e
    ∙ runs_of_same (λ t. (look_up half img t).pair) (λ t. (look_up half' img' t).pair) a b span.before f
    ∙ sym (runs_agree half' img' a b span e')

-- ---- the calls

-- what a listing returns, by its status and its runs
outcome : ℕ → List Run → List ℕ → Listed
outcome number runs out =
    record { status = number; runs = cond (eqb number 0) (length runs) 0; output = cond (eqb number 0) (written out runs) out }

-- the rows where 16 doesn't turn back, and 21 only what 11 does
rows : (y z : Bool) (rs rs' : List Run) (out : List ℕ) → (y ≡ true → z ≡ true) → (y ≡ true → rs ≡ rs')
    → outcome (first ((16, false) ∷ (11, not y) ∷ (21, not z) ∷ (15, too_short out rs) ∷ [])) rs out
    ≡ outcome (first ((11, not y) ∷ (15, too_short out rs') ∷ [])) rs' out
unfolding first outcome
rows false z rs rs' out f e = refl
rows true false rs rs' out f e = absurd (false≢true (f refl))
rows true true rs rs' out f e = λ j. outcome (first ((15, too_short out (e refl j)) ∷ [])) (e refl j) out

-- what a status other than 16 and 21 says of those rows
passed : (x y z s : Bool) → first ((16, not x) ∷ (11, not y) ∷ (21, not z) ∷ (15, s) ∷ []) ≢ 16
    → first ((16, not x) ∷ (11, not y) ∷ (21, not z) ∷ (15, s) ∷ []) ≢ 21
    → (x ≡ true) × (y ≡ true → z ≡ true)
unfolding first
passed false y z s n m = absurd (n refl)
passed true false z s n m = (refl, λ e. absurd (false≢true e))
passed true true false s n m = absurd (m refl)
passed true true true s n m = (refl, λ e. refl)

span_is : (a b : ℕ) → span_ok a b ≡ true → Span a b
unfolding span_ok
span_is a b e =
    let k = simp and-eq-true_iff at e in
    record { before = ltb-true a b k.0; within = leb-true b END k.1 }

-- pairs that agree at every instant of a span have one listing over it, whatever the span
pub listing_of_same : (f g : ℕ → Pair) (a b : ℕ) (out : List ℕ) → ((t : ℕ) → a ≤ t → t < b → b ≤ END → f t ≡ g t)
    → listing_of f a b out ≡ listing_of g a b out
unfolding listing_of first outcome
listing_of_same f g a b out e = go (span_ok a b) refl
  where
    go : (y : Bool) → span_ok a b ≡ y
        → outcome (first ((11, not y) ∷ (15, too_short out (runs_of f a b)) ∷ [])) (runs_of f a b) out
        ≡ outcome (first ((11, not y) ∷ (15, too_short out (runs_of g a b)) ∷ [])) (runs_of g a b) out
    go false d = refl
    go true d =
        let span = span_is a b d in
        let r : runs_of f a b ≡ runs_of g a b = runs_of_same f g a b span.before (λ t l k. e t l k span.within) in
        λ j. outcome (first ((15, too_short out (r j)) ∷ [])) (r j) out

-- of a length in range, with a fit head and only fit pages met
module _ (half a b : ℕ) (img : List ℕ) (x : length_ok half img ≡ true) (span : Span a b)
    (z : head_ok half img && (walk_over half img a b).fit ≡ true) where
  -- every instant of the span is answered
  pub span_answered : (t : ℕ) → a ≤ t → t < b → Answered half t img
  span_answered t l g =
      let k = (and-eq-true_iff (head_ok half img) (walk_over half img a b).fit).0 z in
      record {
        length_fits = x;
        before_end = omega (arith, span.within);
        head_fits = k.0;
        look_fits =
            looks_fit half img a b span k.1 t l g;
      }

  -- and the runs are those of what the instants answer
  pub span_runs : runs_over half a b img ≡ runs_of (λ t. (instant half t img).pair) a b
  span_runs =
      let k = (and-eq-true_iff (head_ok half img) (walk_over half img a b).fit).0 z in
      runs_agree half img a b span k.1
      ∙ runs_of_same (λ t. (look_up half img t).pair) (λ t. (instant half t img).pair) a b span.before
      (λ t l g. sym (instant_pair half t img (span_answered t l g)))

-- Where 16 and 21 don't turn it back, a listing is that of the plain rule, over what instants answer: by what these rows ask, and by the
-- status.
module _ (half a b : ℕ) (img out : List ℕ) where
  pub listing_answered : length_ok half img ≡ true → (span_ok a b ≡ true → head_ok half img && (walk_over half img a b).fit ≡ true)
      → listing half a b img out ≡ listing_of (λ t. (instant half t img).pair) a b out
  unfolding listing listing_status listing_of outcome
  listing_answered x z =
      let met : Bool = head_ok half img && (walk_over half img a b).fit in
      let rs : List Run = runs_over half a b img in
      (λ j. outcome (first ((16, not (x j)) ∷ (11, not (span_ok a b)) ∷ (21, not met) ∷ (15, too_short out rs) ∷ [])) rs out)
      ∙ rows (span_ok a b) met rs (runs_of (λ t. (instant half t img).pair) a b) out z (λ y. span_runs half a b img x (span_is a b y) (z y))

  pub listing_agrees : (listing half a b img out).status ≢ 16 → (listing half a b img out).status ≢ 21
      → listing half a b img out ≡ listing_of (λ t. (instant half t img).pair) a b out
  listing_agrees n m = listing_answered asked.0 asked.1
    where
      asked : (length_ok half img ≡ true) × (span_ok a b ≡ true → head_ok half img && (walk_over half img a b).fit ≡ true)
      asked =
          unfold listing listing_status in
          passed (length_ok half img) (span_ok a b) (head_ok half img && (walk_over half img a b).fit)
          (too_short out (runs_over half a b img)) n m

-- two images in which the instants of a span have the same pairs have the same listing over it
pub same_listings : (half half' a b : ℕ) (img img' out : List ℕ)
    → (listing half a b img out).status ≢ 16 → (listing half a b img out).status ≢ 21
    → (listing half' a b img' out).status ≢ 16 → (listing half' a b img' out).status ≢ 21
    → ((t : ℕ) → a ≤ t → t < b → b ≤ END → (instant half t img).pair ≡ (instant half' t img').pair)
    → listing half a b img out ≡ listing half' a b img' out
same_listings half half' a b img img' out n m n' m' f =
    listing_agrees half a b img out n m
    ∙ listing_of_same (λ t. (instant half t img).pair) (λ t. (instant half' t img').pair) a b out f
    ∙ sym (listing_agrees half' a b img' out n' m')
